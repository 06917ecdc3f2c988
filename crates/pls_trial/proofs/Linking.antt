-- What links keep of the rows that they are put into, and what they add to them.
use Rattle.std.proofs.Common.{◌≡◌, ◌∙◌, ℕ, ◌+◌, ◌*◌, ◌≤◌, ◌⊎◌, inl, inr, Bool, true, false, cond, ◌==◌, ◌||◌, List, [], ◌∷◌, map, length, fold, refl, ap, subst, arith, Contains, length-append}
use Rattle.std.proofs.lemmas.Bool.{eqb-true}
use Rattle.std.proofs.lemmas.List.Sums.{sum_by-cons}
use Rattle.pls_configuration.specs.declared.row.NodeRow.{NodeRow}
use Rattle.pls_configuration.specs.Configuration.{ids_of, ports_in}
use Rattle.pls_graph_edits.specs.Edits.{are_linked, change_row, changed, linked, linking}
use Rattle.pls_graph.proofs.Members.{Contains-first, Contains-from_map, Contains-later}
use Rattle.pls_trial.specs.Generator.{Link, with_link}

-- each row has the property
abbrev pub Each : (NodeRow → Type 0) → List NodeRow → Type 0
Each P rows = (row : NodeRow) → Contains rows row → P row

-- the link has these two ends
abbrev pub HasEnds : Link → ℕ → ℕ → Type 0
HasEnds link u v = ((link.a ≡ u) × (link.b ≡ v)) ⊎ ((link.b ≡ u) × (link.a ≡ v))

-- a new last port at an end of the link keeps the property
abbrev pub IsKept : (NodeRow → Type 0) → Link → Type 0
IsKept P link = (row : NodeRow) (nbr : ℕ) → HasEnds link row.id nbr → P row
    → P (linking link.weight nbr row)

-- what holds of each changed row
pub Each-map : (P : NodeRow → Type 0) (f : NodeRow → NodeRow) (rows : List NodeRow)
    → ((row : NodeRow) → Contains rows row → P (f row)) → Each P (map f rows)
Each-map P f rows holds row in' =
    let (old, old_in, is) : (old : NodeRow) × Contains rows old × (f old ≡ row) =
    Contains-from_map f rows row in' in
    subst P is (holds old old_in)

-- a row that may be changed
pub changed-by : (P : NodeRow → Type 0) (id : ℕ) (change : NodeRow → NodeRow) (row : NodeRow)
    → (id ≡ row.id → P (change row)) → P row → P (changed id change row)
changed-by P id change row new old = by (id == row.id) refl
  where
    by : (b : Bool) → (id == row.id) ≡ b → P (cond b (change row) row)
    by true same = new (eqb-true id row.id same)
    by false apart = old

-- two nodes are linked, and the property is kept
pub Each-linked : (P : NodeRow → Type 0) (link : Link) → IsKept P link → (rows : List NodeRow)
    → Each P rows → Each P (linked rows link.a link.b link.weight)
Each-linked P link kept rows each =
    Each-map P (changed link.b (linking link.weight link.a)) (map first rows)
    (λ row in'. changed-by P link.b (linking link.weight link.a) row
    (λ same. kept row link.a (inr (same, refl)) (mid row in')) (mid row in'))
  where
    first : NodeRow → NodeRow
    first = changed link.a (linking link.weight link.b)

    mid : Each P (map first rows)
    mid = Each-map P first rows (λ row in'. changed-by P link.a (linking link.weight link.b) row
        (λ same. kept row link.b (inl (same, refl)) (each row in')) (each row in'))

pub Each-with_link : (P : NodeRow → Type 0) (link : Link) → IsKept P link → (rows : List NodeRow)
    → Each P rows → Each P (with_link rows link)
Each-with_link P link kept rows each = by (link.a == link.b || are_linked rows link.a link.b)
  where
    by : (b : Bool) → Each P (cond b rows (linked rows link.a link.b link.weight))
    by true = each
    by false = Each-linked P link kept rows each

-- what all links keep
pub Each-fold : (P : NodeRow → Type 0) (links : List Link)
    → ((link : Link) → Contains links link → IsKept P link) → (rows : List NodeRow)
    → Each P rows → Each P (fold with_link rows links)
Each-fold P [] kept rows each = each
Each-fold P (link ∷ links) kept rows each =
    Each-fold P links (λ next in'. kept next (Contains-later link links next in'))
    (with_link rows link)
    (Each-with_link P link (kept link (Contains-first link links)) rows each)

-- the change keeps identities
abbrev pub Keeps : (NodeRow → NodeRow) → Type 0
Keeps f = (row : NodeRow) → (f row).id ≡ row.id

-- so does a change of one row
pub Keeps-changed : (id : ℕ) (change : NodeRow → NodeRow) → Keeps change → Keeps (changed id change)
Keeps-changed id change keeps row = by (id == row.id)
  where
    by : (b : Bool) → (cond b (change row) row).id ≡ row.id
    by true = keeps row
    by false = refl

-- rows that are changed and keep their identities
pub ids_of-map : (f : NodeRow → NodeRow) → Keeps f → (rows : List NodeRow)
    → ids_of (map f rows) ≡ ids_of rows
ids_of-map f keeps [] = refl
ids_of-map f keeps (row ∷ rows) = rw (keeps row, ids_of-map f keeps rows) refl

-- links keep the identities
pub ids_of-with_link : (rows : List NodeRow) (link : Link)
    → ids_of (with_link rows link) ≡ ids_of rows
ids_of-with_link rows link = by (link.a == link.b || are_linked rows link.a link.b)
  where
    first : NodeRow → NodeRow
    first = changed link.a (linking link.weight link.b)

    second : NodeRow → NodeRow
    second = changed link.b (linking link.weight link.a)

    by : (b : Bool) → ids_of (cond b rows (linked rows link.a link.b link.weight)) ≡ ids_of rows
    by true = refl
    by false =
        ids_of-map second (Keeps-changed link.b (linking link.weight link.a) (λ row. refl))
        (map first rows)
        ∙ ids_of-map first (Keeps-changed link.a (linking link.weight link.b) (λ row. refl)) rows

pub ids_of-fold : (links : List Link) (rows : List NodeRow)
    → ids_of (fold with_link rows links) ≡ ids_of rows
ids_of-fold [] rows = refl
ids_of-fold (link ∷ links) rows =
    ids_of-fold links (with_link rows link) ∙ ids_of-with_link rows link

-- how often an identity stands in a list
abbrev pub times : ℕ → List ℕ → ℕ
times id [] = 0
times id (other ∷ ids) = cond (id == other) 1 0 + times id ids

-- a row of each such identity gets a port
ports_in-change_row : (id weight nbr : ℕ) (rows : List NodeRow)
    → ports_in (change_row id (linking weight nbr) rows) ≤ ports_in rows + times id (ids_of rows)
ports_in-change_row id weight nbr [] = omega arith
ports_in-change_row id weight nbr (row ∷ rows) =
    by (id == row.id) (ports_in-change_row id weight nbr rows)
  where
    many : NodeRow → ℕ
    many = λ row. length row.ports

    by : (b : Bool)
        → ports_in (change_row id (linking weight nbr) rows) ≤ ports_in rows + times id (ids_of rows)
        → ports_in (cond b (linking weight nbr row) row ∷ change_row id (linking weight nbr) rows)
        ≤ ports_in (row ∷ rows) + (cond b 1 0 + times id (ids_of rows))
    by true rest = omega (
      arith,
      rest,
      sum_by-cons many row rows,
      sum_by-cons many (linking weight nbr row) (change_row id (linking weight nbr) rows),
      length-append row.ports (record { nbr = nbr; weight = weight } ∷ []),
    )
    by false rest = omega (
      arith,
      rest,
      sum_by-cons many row rows,
      sum_by-cons many row (change_row id (linking weight nbr) rows),
    )

-- where no identity stands twice, a link adds two ports at most
pub ports_in-with_link : (rows : List NodeRow) (link : Link)
    → ((id : ℕ) → times id (ids_of rows) ≤ 1) → ports_in (with_link rows link) ≤ ports_in rows + 2
ports_in-with_link rows link once = by (link.a == link.b || are_linked rows link.a link.b)
  where
    mid : List NodeRow
    mid = change_row link.a (linking link.weight link.b) rows

    same : ids_of mid ≡ ids_of rows
    same = ids_of-map (changed link.a (linking link.weight link.b))
        (Keeps-changed link.a (linking link.weight link.b) (λ row. refl)) rows

    by : (b : Bool)
        → ports_in (cond b rows (linked rows link.a link.b link.weight)) ≤ ports_in rows + 2
    by true = omega arith
    by false = omega (
      arith,
      ports_in-change_row link.a link.weight link.b rows,
      ports_in-change_row link.b link.weight link.a mid,
      once link.a,
      once link.b,
      ap (times link.b) same,
    )

pub ports_in-fold : (links : List Link) (rows : List NodeRow)
    → ((id : ℕ) → times id (ids_of rows) ≤ 1)
    → ports_in (fold with_link rows links) ≤ ports_in rows + 2 * length links
ports_in-fold [] rows once = omega arith
ports_in-fold (link ∷ links) rows once =
    let rest = ports_in-fold links (with_link rows link)
    (λ id. let few = once id in omega (arith, few, ap (times id) (ids_of-with_link rows link))) in
    omega (arith, rest, ports_in-with_link rows link once)
