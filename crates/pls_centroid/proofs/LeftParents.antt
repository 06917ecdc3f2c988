-- The parents that are left on a level are parents, so what holds of all chains of parents holds of
-- what is left of them.
use Rattle.std.proofs.Common.{◌≡◌, ◌∙◌, ℕ, ◌<◌, ◌||◌, Bool, true, false, cond, List, [], ◌∷◌, length, get_or, Option, Some, None, refl, sym, ap, arith}
use Rattle.std.specs.Option.{option_and_then}
use Rattle.std.proofs.lemmas.Option.{same_Some, slice_get-get_or, slice_get_within}
use Rattle.pls_configuration.specs.WalkBy.{WalkBy}
use Rattle.pls_facts.specs.Parents.{NoParentsReturn}
use Rattle.pls_search.specs.SubtreeSizes.{AreParentsWithin, HasParentAt}
use Rattle.pls_centroid.specs.inner.Rooted.{AreBehindParents, AreLeft}

-- a parent that is left is a parent
pub left_parent : (parents : List (Option ℕ)) (taken : List Bool) (left : List (Option ℕ))
    → AreLeft parents taken left → (place parent : ℕ) → HasParentAt left place parent
    → HasParentAt parents place parent
left_parent parents taken left are place parent up =
    by (get_or parents place None) refl (are.entry place (Some parent) up)
  where
    within : place < length parents
    within = let each = are.each in
        omega (arith, slice_get_within left place (Some parent) up, each)

    part : (b : Bool) (one : ℕ) → Some parent ≡ cond b None (Some one) → one ≡ parent
    part true one is = absurd (cc)
    part false one is = same_Some one parent (sym is)

    by : (o : Option ℕ) → get_or parents place None ≡ o → Some parent ≡ option_and_then (λ parent.
        cond (get_or taken place false || get_or taken parent false) None (Some parent)) o
        → HasParentAt parents place parent
    by None e is = absurd (cc)
    by (Some one) e is = slice_get-get_or parents place None within ∙ ap Some (e
        ∙ ap Some (part (get_or taken place false || get_or taken one false) one is))

module _ (parents : List (Option ℕ)) (taken : List Bool) (left : List (Option ℕ))
    (are : AreLeft parents taken left) where
  up_too : (place parent : ℕ) → HasParentAt left place parent → HasParentAt parents place parent
  up_too = left_parent parents taken left are

  pub left_inside : AreParentsWithin parents → AreParentsWithin left
  left_inside inside place parent up = let each = are.each in
      let within = inside place parent (up_too place parent up) in omega (arith, each, within)

  -- a chain that is left is a chain
  chain_too : (u v : ℕ) (nodes : List ℕ) → WalkBy (HasParentAt left) u nodes v
      → WalkBy (HasParentAt parents) u nodes v
  chain_too u v [] same = same
  chain_too u v (x ∷ nodes) chain = (up_too u x chain.0, chain_too x v nodes chain.1)

  pub left_returns : NoParentsReturn (HasParentAt parents) → NoParentsReturn (HasParentAt left)
  left_returns never u x nodes chain = never u x nodes (chain_too u u (x ∷ nodes) chain)

  pub left_behind : (order : List ℕ) → AreBehindParents parents order → AreBehindParents left order
  left_behind order behind = record {
    within = λ number place at. let many = are.each in
        let one = behind.within number place at in omega (arith, one, many);
    all = λ place within. let many = are.each in behind.all place (omega (arith, within, many));
    behind = λ number place before parent at up there. behind.behind number place before parent at
        (up_too place parent up) there;
  }
