-- The first of some edges: of one, of those of two kinds, and over all that leave a fragment.
use Rattle.std.proofs.Common.{◌≡◌, ◌≢◌, ◌∙◌, ℕ, ◌+◌, ◌<◌, ◌⊎◌, inl, inr, if◌then◌else◌, List, length, get_or, set, replicate, Option, Some, None, is_some, refl, sym, ap, subst, arith, slice_get, get_or-set_same, get_or-set_other}
use Rattle.std.proofs.lemmas.Bool.{cases_eq, cases_lt}
use Rattle.std.proofs.lemmas.List.{get_or-replicate, length-replicate, length-set}
use Rattle.std.proofs.lemmas.Option.{same_Some, slice_get_within}
use Rattle.pls_configuration.specs.declared.row.Port.{Port}
use Rattle.pls_configuration.specs.declared.row.NodeRow.{NodeRow}
use Rattle.pls_configuration.specs.Walk.{Edge}
use Rattle.pls_graph.specs.Places.{place_in}
use Rattle.pls_graph.proofs.Members.{Contains-from_place}
use Rattle.pls_facts.specs.EdgeOrder.{edge_key, outside}
use Rattle.pls_facts.specs.Precedes.{IsAtMost, Precedes}
use Rattle.pls_facts.specs.SpanningTree.{edge_at, pointed_edge, pointed_edges}
use Rattle.pls_facts.proofs.Dictionary.{Precedes-transitive}
use Rattle.pls_facts.proofs.EdgeKeys.{outside-in, outside-out}
use Rattle.pls_facts.proofs.Filtered.{Contains-filter_map}
use Rattle.pls_boruvka.specs.declared.choice.Choice.{Choice}
use Rattle.pls_boruvka.specs.inner.Choices.{AreChoices, IsChildOf, IsChoice, IsEarlier, IsFirstOf, IsLighter, LeavesAt, LeavesPlace, LeavesTop, key_of, top_at}

pub IsAtMost-through : (one other third : List ℕ) → IsAtMost one other → IsAtMost other third
    → IsAtMost one third
IsAtMost-through one other third (inl same) rest =
    subst (λ (one : List ℕ). IsAtMost one third) (sym same) rest
IsAtMost-through one other third (inr before) (inl same) =
    inr (subst (Precedes one) same before)
IsAtMost-through one other third (inr before) (inr after) =
    inr (Precedes-transitive one other third before after)

-- the first of some is the first of the same ones under another name
pub IsFirstOf-same : (Such Others : Choice → Type 0) (first : Option Choice)
    → ((choice : Choice) → Such choice → Others choice)
    → ((choice : Choice) → Others choice → Such choice) → IsFirstOf Such first
    → IsFirstOf Others first
IsFirstOf-same Such Others None to from is = λ choice other. is choice (from choice other)
IsFirstOf-same Such Others (Some first) to from is =
    (to first is.0, λ choice other. is.1 choice (from choice other))

-- the earlier of two firsts is the first of all
pub IsFirstOf-either : (Such Others : Choice → Type 0) (one other result : Option Choice)
    → IsFirstOf Such one → IsFirstOf Others other → IsEarlier one other result
    → IsFirstOf (λ choice. Such choice ⊎ Others choice) result
IsFirstOf-either Such Others None other result is also earlier =
    subst (IsFirstOf (λ choice. Such choice ⊎ Others choice)) (sym earlier) (by other also)
  where
    by : (other : Option Choice) → IsFirstOf Others other
        → IsFirstOf (λ choice. Such choice ⊎ Others choice) other
    by None also = λ choice such. elim such [
      | inl one ↦ is choice one
      | inr theirs ↦ also choice theirs
    ]
    by (Some first) also = (
      inr also.0,
      λ choice such. elim such [
        | inl one ↦ absurd (is choice one)
        | inr other ↦ also.1 choice other
      ],
    )
IsFirstOf-either Such Others (Some one) None result is also earlier =
    subst (IsFirstOf (λ choice. Such choice ⊎ Others choice)) (sym earlier) (
      inl is.0,
      λ choice such. elim such [
        | inl mine ↦ is.1 choice mine
        | inr theirs ↦ absurd (also choice theirs)
      ],
    )
IsFirstOf-either Such Others (Some one) (Some other) result is also (inl (same, most)) =
    subst (IsFirstOf (λ choice. Such choice ⊎ Others choice)) (sym same) (
      inl is.0,
      λ choice such. elim such [
        | inl mine ↦ is.1 choice mine
        | inr theirs ↦ IsAtMost-through (key_of one) (key_of other) (key_of choice) most
            (also.1 choice theirs)
      ],
    )
IsFirstOf-either Such Others (Some one) (Some other) result is also (inr (same, most)) =
    subst (IsFirstOf (λ choice. Such choice ⊎ Others choice)) (sym same) (
      inr also.0,
      λ choice such. elim such [
        | inl mine ↦ IsAtMost-through (key_of other) (key_of one) (key_of choice) most
            (is.1 choice mine)
        | inr theirs ↦ also.1 choice theirs
      ],
    )

module _ (rows : List NodeRow) where
  -- whether a pointer lies on an edge
  child_tells : (edge : Edge) (child : Option ℕ) → IsChildOf rows edge child
      → (if is_some child then 0 else 1) ≡ outside (pointed_edges rows) edge
  child_tells edge None out = sym (outside-out (pointed_edges rows) edge out)
  child_tells edge (Some place) (row, at, points) = sym (outside-in (pointed_edges rows) edge
      (Contains-filter_map pointed_edge rows row edge (Contains-from_place rows place row at)
      points))

  -- what orders a choice is what orders its edge
  pub key_of-edge : (edge : Edge) (choice : Choice) → IsChoice rows edge choice
      → key_of choice ≡ edge_key edge (outside (pointed_edges rows) edge)
  key_of-edge edge choice right =
      ap (λ (edge : Edge). edge_key edge (if is_some choice.child then 0 else 1)) right.is
      ∙ ap (edge_key edge) (child_tells edge choice.child right.child)

  -- what is kept of one edge is its first
  pub IsFirstOf-edge : (edge : Edge) (choice : Choice) → IsChoice rows edge choice
      → IsFirstOf (IsChoice rows edge) (Some choice)
  IsFirstOf-edge edge choice right = (
    right,
    λ other also. inl (key_of-edge edge choice right
        ∙ sym (key_of-edge edge other also)),
  )

  module _ (tops : List ℕ) (place : ℕ) (Old : Choice → Type 0) where
    -- an edge of before, or one at one of so many ports
    abbrev pub OrAt : ℕ → Choice → Type 0
    OrAt count choice = Old choice ⊎ LeavesAt rows tops place count choice

    -- of no port there is none
    pub OrAt-none : (first : Option Choice) → IsFirstOf Old first → IsFirstOf (OrAt 0) first
    OrAt-none first is = IsFirstOf-same Old (OrAt 0) first (λ choice old. inl old)
        (λ choice such. elim such [
          | inl old ↦ old
          | inr leaves ↦ absurd (let early = leaves.early in omega arith)
        ])
        is

    -- at any port
    pub OrAt-all : (row : NodeRow) → slice_get rows place ≡ Some row → (first : Option Choice)
        → IsFirstOf (OrAt (length row.ports)) first
        → IsFirstOf (λ choice. Old choice ⊎ LeavesPlace rows tops place choice) first
    OrAt-all row at first is = IsFirstOf-same (OrAt (length row.ports))
        (λ choice. Old choice ⊎ LeavesPlace rows tops place choice) first
        (λ choice such. elim such [
          | inl old ↦ inl old
          | inr leaves ↦ inr (length row.ports, leaves)
        ])
        (λ choice such. elim such [
          | inl old ↦ inl old
          | inr (count, leaves) ↦ inr record {
            row = leaves.row;
            port = leaves.port;
            number = leaves.number;
            at = leaves.at;
            has = leaves.has;
            early = let same = ap (λ (row : NodeRow). length row.ports)
                (same_Some leaves.row row (sym leaves.at ∙ at)) in
                omega (
                  arith,
                  same,
                  slice_get_within leaves.row.ports leaves.number leaves.port
                      leaves.has,
                );
            apart = leaves.apart;
            right = leaves.right;
          }
        ])
        is

    module _ (count : ℕ) (row : NodeRow) (port : Port) (at : slice_get rows place ≡ Some row)
        (has : slice_get row.ports count ≡ Some port) where
      -- of one port more that edge leaves which is at an earlier one, or is at that port
      later : (choice : Choice) → LeavesAt rows tops place (count + 1) choice
          → LeavesAt rows tops place count choice
          ⊎ ((top_at tops (place_in rows port.nbr) ≢ top_at tops place)
          × IsChoice rows (edge_at row port) choice)
      later choice leaves = elim (cases_lt leaves.number count) [
        | inl before ↦ inl record {
          row = leaves.row;
          port = leaves.port;
          number = leaves.number;
          at = leaves.at;
          has = leaves.has;
          early = before;
          apart = leaves.apart;
          right = leaves.right;
        }
        | inr past ↦
            let early = leaves.early in
            let last : leaves.number ≡ count = omega (arith, past, early) in
            let one : leaves.row ≡ row = same_Some leaves.row row (sym leaves.at ∙ at) in
            let same : leaves.port ≡ port = same_Some leaves.port port
            (sym leaves.has ∙ ap (λ (row : NodeRow). slice_get row.ports leaves.number) one
            ∙ ap (slice_get row.ports) last ∙ has) in
            inr (
              λ e. leaves.apart (ap (λ (port : Port). top_at tops (place_in rows port.nbr)) same ∙
                  e),
              subst (λ (port : Port). IsChoice rows (edge_at row port) choice) same
                  (subst (λ (row : NodeRow). IsChoice rows (edge_at row leaves.port) choice) one
                  leaves.right),
            )
      ]

      still : (choice : Choice) → LeavesAt rows tops place count choice
          → LeavesAt rows tops place (count + 1) choice
      still choice leaves = record {
        row = leaves.row;
        port = leaves.port;
        number = leaves.number;
        at = leaves.at;
        has = leaves.has;
        early = let early = leaves.early in omega arith;
        apart = leaves.apart;
        right = leaves.right;
      }

      -- a port inside the fragment changes nothing
      pub OrAt-inside : top_at tops (place_in rows port.nbr) ≡ top_at tops place
          → (first : Option Choice) → IsFirstOf (OrAt count) first
          → IsFirstOf (OrAt (count + 1)) first
      OrAt-inside inside first is = IsFirstOf-same (OrAt count) (OrAt (count + 1)) first
          (λ choice such. elim such [
            | inl old ↦ inl old
            | inr leaves ↦ inr (still choice leaves)
          ])
          (λ choice such. elim such [
            | inl old ↦ inl old
            | inr leaves ↦ elim (later choice leaves) [
              | inl before ↦ inr before
              | inr now ↦ absurd (now.0 inside)
            ]
          ])
          is

      -- the edge at a port that leaves it comes to the others
      module _ (apart : top_at tops (place_in rows port.nbr) ≢ top_at tops place) where
        or_edge : (result : Option Choice)
            → IsFirstOf (λ choice. OrAt count choice ⊎ IsChoice rows (edge_at row port) choice)
            result → IsFirstOf (OrAt (count + 1)) result
        or_edge result is = IsFirstOf-same
            (λ choice. OrAt count choice ⊎ IsChoice rows (edge_at row port) choice)
            (OrAt (count + 1)) result
            (λ choice such. elim such [
              | inl (inl old) ↦ inl old
              | inl (inr before) ↦ inr (still choice before)
              | inr now ↦ inr record {
                row = row;
                port = port;
                number = count;
                at = at;
                has = has;
                early = omega arith;
                apart = apart;
                right = now;
              }
            ])
            (λ choice such. elim such [
              | inl old ↦ inl (inl old)
              | inr leaves ↦ elim (later choice leaves) [
                | inl before ↦ inl (inr before)
                | inr now ↦ inr now.1
              ]
            ])
            is

        pub OrAt-more : (first result : Option Choice) (choice : Choice)
            → IsFirstOf (OrAt count) first → IsChoice rows (edge_at row port) choice
            → IsEarlier first (Some choice) result → IsFirstOf (OrAt (count + 1)) result
        OrAt-more first result choice is right earlier = or_edge result
            (IsFirstOf-either (OrAt count) (IsChoice rows (edge_at row port)) first (Some choice)
            result is (IsFirstOf-edge (edge_at row port) choice right) earlier)

        -- and is behind a lighter one
        pub OrAt-lighter : (first : Option Choice) → IsLighter first port.weight
            → IsFirstOf (OrAt count) first → IsFirstOf (OrAt (count + 1)) first
        OrAt-lighter None lighter is = absurd lighter
        OrAt-lighter (Some first) lighter is = or_edge (Some first) (
          inl is.0,
          λ choice such. elim such [
            | inl before ↦ is.1 choice before
            | inr now ↦ inr (inl (subst (λ (weight : ℕ). first.weight < weight)
                (sym (ap (λ (edge : Edge). edge.weight) now.is)) lighter))
          ],
        )

  module _ (tops : List ℕ) where
    -- before the first place nothing is found
    pub AreChoices-none : AreChoices rows tops 0 (replicate (length rows) None)
    AreChoices-none = record {
      each = length-replicate {A = Option Choice} (length rows) None;
      first = λ top within. subst (IsFirstOf (LeavesTop rows tops 0 top))
          (sym (get_or-replicate {A = Option Choice} (length rows) top None None within))
          (λ choice (place, before, named, leaves). absurd (omega (arith, before)));
    }

    -- with the edges at one place more of the fragment
    pub LeavesTop-next : (count : ℕ) (first : Option Choice)
        → IsFirstOf (λ choice. LeavesTop rows tops count (top_at tops count) choice
        ⊎ LeavesPlace rows tops count choice) first
        → IsFirstOf (LeavesTop rows tops (count + 1) (top_at tops count)) first
    LeavesTop-next count first is = IsFirstOf-same
        (λ choice. LeavesTop rows tops count (top_at tops count) choice
        ⊎ LeavesPlace rows tops count choice)
        (LeavesTop rows tops (count + 1) (top_at tops count)) first
        (λ choice such. elim such [
          | inl (place, before, named, leaves) ↦ (place, omega (arith, before), named, leaves)
          | inr leaves ↦ (count, omega arith, refl, leaves)
        ])
        (λ choice (place, before, named, leaves). elim (cases_lt place count) [
          | inl early ↦ inl (place, early, named, leaves)
          | inr past ↦ inr (subst (λ (place : ℕ). LeavesPlace rows tops place choice)
              (let last : place ≡ count = omega (arith, past, before) in last) leaves)
        ])
        is

    -- the first edge that leaves the fragment of one place more
    pub AreChoices-more : (count : ℕ) (choices : List (Option Choice)) (result : Option Choice)
        → top_at tops count < length rows → AreChoices rows tops count choices
        → IsFirstOf (LeavesTop rows tops (count + 1) (top_at tops count)) result
        → AreChoices rows tops (count + 1) (set choices (top_at tops count) result)
    AreChoices-more count choices result inside old is = record {
      each = length-set choices (top_at tops count) result ∙ old.each;
      first = λ top within. elim (cases_eq top (top_at tops count)) [
        | inr apart ↦ subst (IsFirstOf (LeavesTop rows tops (count + 1) top))
            (sym (get_or-set_other choices (top_at tops count) top result None apart))
            (IsFirstOf-same (LeavesTop rows tops count top) (LeavesTop rows tops (count + 1) top)
            (get_or choices top None)
            (λ choice (place, before, named, leaves). (place, omega (arith, before), named, leaves))
            (λ choice (place, before, named, leaves). elim (cases_lt place count) [
              | inl early ↦ (place, early, named, leaves)
              | inr past ↦ absurd (apart (sym named
                  ∙ ap (top_at tops) (let last : place ≡ count = omega (arith, past, before) in
                  last)))
            ])
            (old.first top within))
        | inl same ↦ subst (λ (top : ℕ).
            IsFirstOf (LeavesTop rows tops (count + 1) top)
            (get_or (set choices (top_at tops count) result) top None)) (sym same)
            (subst (IsFirstOf (LeavesTop rows tops (count + 1) (top_at tops count)))
            (sym (get_or-set_same choices (top_at tops count) result None
            (omega (arith, inside, old.each)))) is)
      ];
    }
