-- The numbers of places whose chains meet each place.
use Rattle.std.proofs.Common.{◌≡◌, ◌∙◌, ℕ, ◌<◌, List, length, Contains, Option, Some, None, ap, arith}
use Rattle.std.proofs.lemmas.Option.{get_or_from_slice_get, slice_get-get_or}
use Rattle.pls_facts.specs.Parents.{NoParentsReturn}
use Rattle.pls_facts.proofs.ParentEnds.{never_ends}
use Rattle.pls_facts.proofs.ParentLines.{AreParents, line_from, met_by, met_by-children, met_by-few, met_by-many}
use Rattle.pls_search.specs.SubtreeSizes.{AreParentsWithin, HasParentAt}
use Rattle.pls_search.specs.inner.Passing.{AreTotals, below, parent_of}
use Rattle.pls_search.proofs.Below.{below-lt, lt-below, below-length, below-apart, below-distinct}

module _ (parents : List (Option ℕ)) where
  abbrev places : List ℕ
  places = below (length parents)

  module _ (inside : AreParentsWithin parents) where
    up_has : (u x : ℕ) → u < length parents → parent_of parents u ≡ Some x → HasParentAt parents u x
    up_has u x u_in is =
        slice_get-get_or parents u None u_in ∙ ap Some is

    has_up : (u x : ℕ) → HasParentAt parents u x → parent_of parents u ≡ Some x
    has_up u x has = get_or_from_slice_get parents u (Some x) None has

    -- the parent of a place is a place
    pub parent_within : (u x : ℕ) → u < length parents → parent_of parents u ≡ Some x
        → x < length parents
    parent_within u x u_in is = inside u x (up_has u x u_in is)

    module _ (never : NoParentsReturn (HasParentAt parents)) where
      are_parents : AreParents (HasParentAt parents) places (parent_of parents)
          (λ u. line_from (parent_of parents) (length places) (parent_of parents u))
      are_parents = record {
        apart = below-distinct (length parents);
        named = λ u x in' has. has_up u x has;
        back = back;
        within = within;
        ends = never_ends (HasParentAt parents) (parent_of parents) places
            (below-apart (length parents)) back within never;
      }
        where
          back : (u x : ℕ) → Contains places u → parent_of parents u ≡ Some x
              → HasParentAt parents u x
          back u x in' is = up_has u x (below-lt (length parents) u in') is

          within : (u x : ℕ) → Contains places u → parent_of parents u ≡ Some x
              → Contains places x
          within u x in' is =
              lt-below (length parents) x (parent_within u x (below-lt (length parents) u in') is)

      -- the numbers of chains that meet each place
      pub the_totals : (total : ℕ → ℕ) × AreTotals parents total
      the_totals = (
        met,
        record {
          sums = λ v v_in.
              met_by-children (HasParentAt parents) places (parent_of parents) line
              are_parents v (lt-below (length parents) v v_in);
          few = λ v.
              let low = met_by-few (HasParentAt parents) places (parent_of parents) line
              are_parents v in
              let long = below-length (length parents) in
              omega (arith, low, long);
          many = λ v.
              let so = met_by-many (HasParentAt parents) places (parent_of parents) line
              are_parents v in
              record {
                all = so.all;
                distinct = so.distinct;
                many = so.many;
                are = λ x. (
                  λ in'. let such = (so.are x).0 in' in (below-lt (length parents) x such.0, such.1),
                  λ such. (so.are x).1 (lt-below (length parents) x such.0, such.1),
                );
              };
        },
      )
        where
          line : ℕ → List ℕ
          line u = line_from (parent_of parents) (length places) (parent_of parents u)

          met : ℕ → ℕ
          met = met_by (HasParentAt parents) places (parent_of parents) line are_parents
