-- A level by what is left of the tree: its stage, what a round says, and the flags behind it.
use Rattle.std.proofs.Common.{◌≡◌, ◌≢◌, ◌∙◌, ℕ, suc, ◌+◌, ◌<◌, ◌≤◌, ◌==◌, ◌||◌, ◌⊎◌, inl, inr, Bool, true, false, cond, List, [], ◌∷◌, length, get_or, slice_get, Option, Some, None, refl, sym, ap, subst, arith}
use Rattle.std.specs.Option.{option_map_or}
use Rattle.std.proofs.lemmas.Bool.{cases_eq, cases_lt, eq-eqb, ne_eqb}
use Rattle.std.proofs.lemmas.Option.{get_or_from_slice_get, same_Some, slice_get-get_or, slice_get_within}
use Rattle.pls_configuration.specs.declared.row.NodeRow.{NodeRow}
use Rattle.pls_configuration.specs.Configuration.{IsNetwork, ids_of}
use Rattle.pls_graph.specs.Places.{place_in}
use Rattle.pls_graph.proofs.Finds.{item_at}
use Rattle.pls_graph.proofs.Members.{place_from_Contains}
use Rattle.pls_configuration.specs.WalkBy.{WalkBy}
use Rattle.pls_facts.specs.Parents.{NoParentsReturn}
use Rattle.pls_facts.specs.Pointer.{Falls, IsChainOf}
use Rattle.pls_facts.specs.SpanningTree.{IsTree}
use Rattle.pls_facts.proofs.ChainDepths.{chains_fall}
use Rattle.pls_facts.proofs.NamedPlaces.{place_named}
use Rattle.pls_search.specs.Depths.{AreDepths}
use Rattle.pls_search.specs.SubtreeSizes.{AreParentsWithin, HasParentAt}
use Rattle.pls_centroid.specs.Centroid.{centroid_of, is_centroid}
use Rattle.pls_centroid.specs.declared.reaching.Way.{Way}
use Rattle.pls_centroid.specs.inner.Cut.{id_at}
use Rattle.pls_centroid.specs.inner.Reaching.{AreWaysOf}
use Rattle.pls_centroid.specs.inner.Rooted.{AreBehindParents, AreCentroidsOf, AreLeft, ArePointed, AreTopsOf, AreWeightsUp, IsByDepth, IsStage}
use Rattle.pls_centroid.specs.inner.Rounds.{AreTaken, AreTakenToo, IsSaid, edges_in, is_own, is_taken, level_by, said_at}
use Rattle.pls_centroid.proofs.Below.{id_at-row, one_place_of}
use Rattle.pls_centroid.proofs.Cutting.{IsCut-level, id_known}
use Rattle.pls_centroid.proofs.LeftParents.{left_parent}
use Rattle.pls_centroid.proofs.Rounds.{in-among, taken_stays}

-- the depths that are found fall along pointers
pub depths_fall : (rows : List NodeRow) → IsNetwork rows → (depths : List ℕ) → AreDepths rows depths
    → Falls rows (λ id. get_or depths (place_in rows id) 0)
depths_fall rows net depths are = chains_fall rows net (λ id. get_or depths (place_in rows id) 0)
    (λ row in'.
    let (i, at) : (i : ℕ) × (slice_get rows i ≡ Some row) = place_from_Contains rows row in' in
    let each = are.each in
    let one : place_in rows row.id ≡ i = place_named rows net i row at in
    let stands : slice_get depths i ≡ Some (get_or depths i 0) = slice_get-get_or depths i 0
    (omega (arith, slice_get_within rows i row at, each)) in
    subst (λ (place : ℕ). (last : ℕ) × IsChainOf rows row.id last (get_or depths place 0)) (sym one)
    (are.depth row i (get_or depths i 0) at stands))

module _ (rows : List NodeRow) (parents : List (Option ℕ)) (pointed : ArePointed rows parents) where
  -- parents are places
  pub pointed_within : AreParentsWithin parents
  pointed_within place parent up = let each = pointed.each in
      let step = (pointed.to place parent up).0 in omega (arith, each, step)

  -- a depth that falls along pointers falls along chains of parents
  deep : (depth : ℕ → ℕ) → Falls rows depth → (u v : ℕ) (nodes : List ℕ)
      → WalkBy (HasParentAt parents) u nodes v → depth (id_at rows v) ≤ depth (id_at rows u)
  deep depth falls u v [] same =
      let e = ap (λ (p : ℕ). depth (id_at rows p)) same in omega (arith, e)
  deep depth falls u v (x ∷ nodes) chain =
      let step = falls (id_at rows u) (id_at rows x) (pointed.to u x chain.0).1 in
      omega (arith, step, deep depth falls x v nodes chain.1)

  -- so that none returns
  pub pointed_returns : (depth : ℕ → ℕ) → Falls rows depth → NoParentsReturn (HasParentAt parents)
  pointed_returns depth falls u x nodes chain =
      let step = falls (id_at rows u) (id_at rows x) (pointed.to u x chain.0).1 in
      omega (arith, step, deep depth falls x u nodes chain.1)

  module _ (taken : List Bool) (left : List (Option ℕ)) (are : AreLeft parents taken left) where
    pub left_weights : (weights : List ℕ) → AreWeightsUp rows parents weights
        → AreWeightsUp rows left weights
    left_weights weights weigh = record {
      each = weigh.each;
      weight = λ place parent weight up. weigh.weight place parent weight
          (left_parent parents taken left are place parent up);
    }

    -- the stage of a level
    pub stage_of : IsNetwork rows → IsTree rows → (depth : ℕ → ℕ) → Falls rows depth
        → (number : ℕ) → AreTaken rows number taken → (tops : List ℕ) → AreTopsOf left tops
        → IsStage rows (edges_in rows number) left tops
    stage_of net is_tree depth falls number flags tops tops_are = record {
      net = net;
      tree = is_tree;
      among = in-among rows number;
      cut = IsCut-level rows net is_tree depth falls parents pointed number taken flags left are;
      are = tops_are;
    }

-- an order by depth has each place behind its parent
pub by_depth_behind : (rows : List NodeRow) → IsNetwork rows → (parents : List (Option ℕ))
    → ArePointed rows parents → (depths order : List ℕ) → AreDepths rows depths
    → IsByDepth depths order → AreBehindParents parents order
by_depth_behind rows net parents pointed depths order deep sorted = record {
  within = λ number place at. let one = sorted.within number place at in
      let each = deep.each in let many = pointed.each in omega (arith, one, each, many);
  all = λ place within. let each = deep.each in let many = pointed.each in
      sorted.all place (omega (arith, within, each, many));
  behind = λ number place before parent at up there. elim (cases_lt before number) [
    | inl fine ↦ fine
    | inr late ↦ elim (cases_eq before number) [
      | inl same ↦
          let one : place ≡ parent = same_Some place parent
          (sym at ∙ ap (slice_get order) (sym same) ∙ there) in
          let e = ap (λ (p : ℕ). get_or depths p 0) one in
          let down = falls_at place parent up in
          absurd (omega (arith, e, down))
      | inr apart ↦
          let rise = sorted.rise number before place parent (omega (arith, late, apart)) at there in
          let down = falls_at place parent up in
          absurd (omega (arith, rise, down))
    ]
  ];
}
  where
    place_is : (place : ℕ) → place < length rows → place_in rows (id_at rows place) ≡ place
    place_is place within =
        let (row, at) : (row : NodeRow) × (slice_get rows place ≡ Some row) =
        item_at rows place within in
        ap (place_in rows) (id_at-row rows place row at) ∙ place_named rows net place row at

    falls_at : (place parent : ℕ) → HasParentAt parents place parent
        → get_or depths place 0 ≡ get_or depths parent 0 + 1
    falls_at place parent up =
        let step = pointed.to place parent up in
        let each = pointed.each in
        let down = depths_fall rows net depths deep (id_at rows place) (id_at rows parent) step.1 in
        let one = ap (λ (p : ℕ). get_or depths p 0) (place_is place
        (let in' = slice_get_within parents place (Some parent) up in omega (arith, in', each))) in
        let two = ap (λ (p : ℕ). get_or depths p 0) (place_is parent step.0) in
        omega (arith, down, one, two)

module _ (rows : List NodeRow) (net : IsNetwork rows) (is_tree : IsTree rows) (number : ℕ)
    (taken : List Bool) (flags : AreTaken rows number taken) (left : List (Option ℕ))
    (tops : List ℕ) (stage : IsStage rows (edges_in rows number) left tops)
    (centroids : List (Option ℕ)) (are : AreCentroidsOf rows (edges_in rows number) tops centroids)
  where
    flag_at : (place : ℕ) → place < length rows
        → get_or taken place false ≡ is_taken rows number (id_at rows place)
    flag_at place within = let each = flags.each in
        flags.flag place (get_or taken place false)
        (slice_get-get_or taken place false (omega (arith, within, each)))

    -- the centroid of a place, as it is read
    record IsRead (place : ℕ) : Type 0 where
      top : ℕ
      c : ℕ
      at : slice_get tops place ≡ Some top
      found : slice_get centroids top ≡ Some (Some c)
      read : get_or centroids (get_or tops place 0) None ≡ Some c
      inside : c < length rows
      is : centroid_of (edges_in rows number) (ids_of rows) (id_at rows place) ≡ Some (id_at rows c)

    centroid_read : (place : ℕ) → place < length rows → IsRead place
    centroid_read place within =
        let each = stage.are.each in
        let many = stage.cut.each in
        let top : ℕ = get_or tops place 0 in
        let at : slice_get tops place ≡ Some top =
        slice_get-get_or tops place 0 (omega (arith, within, each, many)) in
        let found = are.centroid place top at in
        record {
          top = top;
          c = found.0;
          at = at;
          found = found.1;
          read = get_or_from_slice_get centroids top (Some found.0) None found.1;
          inside = found.2;
          is = found.3;
        }

    -- what a round says is right
    pub said_right : (ways : List (Option Way)) → AreWaysOf rows tops centroids ways → (place : ℕ)
        → place < length rows
        → IsSaid rows number (id_at rows place) (said_at rows taken tops centroids ways place)
    said_right ways ways_are place within = by (get_or taken place false) refl
      where
        by : (flag : Bool) → get_or taken place false ≡ flag
            → IsSaid rows number (id_at rows place) (cond flag None (level_by rows
            (get_or centroids (get_or tops place 0) None) (get_or ways place None)))
        by true e = sym (flag_at place within) ∙ e
        by false e =
            let here : IsRead place = centroid_read place within in
            let way = ways_are.way place here.c within (here.top, here.at, here.found) in
            let read : get_or ways place None ≡ Some way.0 =
            get_or_from_slice_get ways place (Some way.0) None way.1 in
            subst (IsSaid rows number (id_at rows place))
            (ap (λ (o : Option ℕ). level_by rows o (Some way.0)) (sym here.read)
            ∙ ap (level_by rows (get_or centroids (get_or tops place 0) None)) (sym read)) (
              sym (flag_at place within) ∙ e,
              record {
                centroid = here.is;
                path = way.2.path;
                leads = way.2.leads;
                hops = way.2.long;
                greatest = way.2.heavy;
              },
            )

    -- the flags with those of the centroids are those of the next level
    pub taken_next : (new : List Bool) → AreTakenToo tops centroids taken new
        → AreTaken rows (suc number) new
    taken_next new too = record {
      each = too.each ∙ flags.each;
      flag = λ place flag stands.
          let each = too.each in
          let many = flags.each in
          let one = slice_get_within new place flag stands in
          let within : place < length rows = omega (arith, one, each, many) in
          too.flag place flag stands
          ∙ by place within (centroid_read place within) (get_or taken place false) refl;
    }
      where
        by : (place : ℕ) → place < length rows → IsRead place → (old : Bool)
            → get_or taken place false ≡ old
            → (old || is_own tops centroids place)
            ≡ is_centroid (edges_in rows number) (ids_of rows) (id_at rows place)
        by place within here old e =
            let own : is_own tops centroids place ≡ (here.c == place) =
            ap (λ (o : Option ℕ). option_map_or (λ c. c == place) o false) here.read in
            let centroid : is_centroid (edges_in rows number) (ids_of rows) (id_at rows place)
            ≡ (id_at rows here.c == id_at rows place) =
            ap (λ (o : Option ℕ). option_map_or (λ c. c == id_at rows place) o false) here.is in
            either old e (cases_eq here.c place) own centroid
          where
            either : (old : Bool) → get_or taken place false ≡ old
                → (here.c ≡ place) ⊎ (here.c ≢ place)
                → is_own tops centroids place ≡ (here.c == place)
                → is_centroid (edges_in rows number) (ids_of rows) (id_at rows place)
                ≡ (id_at rows here.c == id_at rows place)
                → (old || is_own tops centroids place)
                ≡ is_centroid (edges_in rows number) (ids_of rows) (id_at rows place)
            either true e which own centroid = sym (taken_stays rows net is_tree number
                (id_at rows place) (id_known rows place within) (sym (flag_at place within) ∙ e))
            either false e (inl same) own centroid = own ∙ eq-eqb here.c place same
                ∙ sym (eq-eqb (id_at rows here.c) (id_at rows place) (ap (id_at rows) same))
                ∙ sym centroid
            either false e (inr apart) own centroid = own ∙ ne_eqb here.c place apart
                ∙ sym (ne_eqb (id_at rows here.c) (id_at rows place) (λ same.
                apart (one_place_of rows net here.c place here.inside within same)))
                ∙ sym centroid
