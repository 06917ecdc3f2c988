-- Crossing two edges, as an exchange of names at their ends.
use Rattle.std.proofs.Common.{◌≡◌, ◌≢◌, ◌∙◌, ℕ, ◌⊎◌, inl, inr, true, false, cond, Bool, ◌==◌, ◌||◌, if◌then◌else◌, List, [], ◌∷◌, map, find, Some, option_map, refl, sym, ap}
use Rattle.std.specs.List.{list_any}
use Rattle.std.proofs.lemmas.Bool.{cases_eq, eq-eqb, ne_eqb}
use Rattle.pls_configuration.specs.declared.row.Port.{Port}
use Rattle.pls_configuration.specs.Configuration.{has_repeat}
use Rattle.pls_splice.specs.Crossing.{named_after}
use Rattle.pls_splice.specs.declared.crossing.Ends.{Ends}

-- of two numbers each for the other
abbrev pub exchanged : ℕ → ℕ → ℕ → ℕ
exchanged a b x = if x == a then b else (if x == b then a else x)

pub exchanged-first : (a b : ℕ) → exchanged a b a ≡ b
exchanged-first a b = rw (eq-eqb a a refl) refl

pub exchanged-second : (a b : ℕ) → a ≢ b → exchanged a b b ≡ a
exchanged-second a b apart = rw (ne_eqb b a (λ e. apart (sym e)), eq-eqb b b refl) refl

pub exchanged-other : (a b x : ℕ) → x ≢ a → x ≢ b → exchanged a b x ≡ x
exchanged-other a b x not_a not_b = rw (ne_eqb x a not_a, ne_eqb x b not_b) refl

pub exchanged-twice : (a b : ℕ) → a ≢ b → (x : ℕ) → exchanged a b (exchanged a b x) ≡ x
exchanged-twice a b apart x = elim (cases_eq x a) [
  | inl e ↦ ap (λ (x : ℕ). exchanged a b (exchanged a b x)) e
      ∙ ap (exchanged a b) (exchanged-first a b) ∙ exchanged-second a b apart ∙ sym e
  | inr not_a ↦ elim (cases_eq x b) [
    | inl e ↦ ap (λ (x : ℕ). exchanged a b (exchanged a b x)) e
        ∙ ap (exchanged a b) (exchanged-second a b apart) ∙ exchanged-first a b ∙ sym e
    | inr not_b ↦ ap (exchanged a b) (exchanged-other a b x not_a not_b)
        ∙ exchanged-other a b x not_a not_b
  ]
]

-- a port with another name
abbrev pub renamed : (ℕ → ℕ) → Port → Port
renamed s port = record port { nbr = s port.nbr }

-- what a function that undoes itself makes of names
module _ (s : ℕ → ℕ) (twice : (x : ℕ) → s (s x) ≡ x) where
  pub turned_test : (y x : ℕ) → (y == s x) ≡ (s y == x)
  turned_test y x = elim (cases_eq y (s x)) [
    | inl e ↦ eq-eqb y (s x) e ∙ sym (eq-eqb (s y) x (ap s e ∙ twice x))
    | inr apart ↦ ne_eqb y (s x) apart
        ∙ sym (ne_eqb (s y) x (λ e. apart (sym (twice y) ∙ ap s e)))
  ]

  pub find-renamed : (y : ℕ) (ports : List Port)
      → find (λ port. y == port.nbr) (map (renamed s) ports)
      ≡ option_map (renamed s) (find (λ port. s y == port.nbr) ports)
  find-renamed y [] = refl
  find-renamed y (port ∷ ports) =
      ap (λ (b : Bool). cond b (Some (renamed s port))
      (find (λ port. y == port.nbr) (map (renamed s) ports))) (turned_test y port.nbr)
      ∙ by (s y == port.nbr) (find-renamed y ports)
    where
      by : (b : Bool) → find (λ port. y == port.nbr) (map (renamed s) ports)
          ≡ option_map (renamed s) (find (λ port. s y == port.nbr) ports)
          → cond b (Some (renamed s port)) (find (λ port. y == port.nbr) (map (renamed s) ports))
          ≡ option_map (renamed s) (cond b (Some port) (find (λ port. s y == port.nbr) ports))
      by true rest = refl
      by false rest = rest

  pub any-renamed : (y : ℕ) (ports : List Port)
      → list_any (λ port. y == port.nbr) (map (renamed s) ports)
      ≡ list_any (λ port. s y == port.nbr) ports
  any-renamed y [] = refl
  any-renamed y (port ∷ ports) = rw (turned_test y port.nbr, any-renamed y ports) refl

  any-names : (x : ℕ) (ports : List Port)
      → list_any (λ other. s x == other) (map (λ port. port.nbr) (map (renamed s) ports))
      ≡ list_any (λ other. x == other) (map (λ port. port.nbr) ports)
  any-names x [] = refl
  any-names x (port ∷ ports) =
      let same : (s x == s port.nbr) ≡ (x == port.nbr) =
      turned_test (s x) port.nbr ∙ ap (λ (x : ℕ). x == port.nbr) (twice x) in
      rw (same, any-names x ports) refl

  pub repeat-renamed : (ports : List Port)
      → has_repeat (map (λ port. port.nbr) (map (renamed s) ports))
      ≡ has_repeat (map (λ port. port.nbr) ports)
  repeat-renamed [] = refl
  repeat-renamed (port ∷ ports) = rw (any-names port.nbr ports, repeat-renamed ports) refl

-- the four ends are different
pub record AreApart (ends : Ends) : Type 0 where
  pub tail_head : ends.tail ≢ ends.head
  pub tails : ends.tail ≢ ends.other_tail
  pub tail_other_head : ends.tail ≢ ends.other_head
  pub head_other_tail : ends.head ≢ ends.other_tail
  pub heads : ends.head ≢ ends.other_head
  pub other_tail_head : ends.other_tail ≢ ends.other_head

abbrev pub IsTail : Ends → ℕ → Type 0
IsTail ends x = (x ≡ ends.tail) ⊎ (x ≡ ends.other_tail)

abbrev pub IsHead : Ends → ℕ → Type 0
IsHead ends x = (x ≡ ends.head) ⊎ (x ≡ ends.other_head)

-- at a tail the heads are exchanged, at a head the tails
abbrev pub swapped : Ends → ℕ → ℕ → ℕ
swapped ends own x =
    if (own == ends.tail || own == ends.other_tail) then exchanged ends.head ends.other_head x
    else (if (own == ends.head || own == ends.other_head)
    then exchanged ends.tail ends.other_tail x else x)

module _ (ends : Ends) (apart : AreApart ends) where
  pub at_tail : (own x : ℕ) → IsTail ends own
      → swapped ends own x ≡ exchanged ends.head ends.other_head x
  at_tail own x (inl e) = rw (eq-eqb own ends.tail e) refl
  at_tail own x (inr e) = rw (eq-eqb own ends.other_tail e) (by (own == ends.tail))
    where
      by : (b : Bool) → (if (b || true) then exchanged ends.head ends.other_head x
          else (if (own == ends.head || own == ends.other_head)
          then exchanged ends.tail ends.other_tail x else x))
          ≡ exchanged ends.head ends.other_head x
      by true = refl
      by false = refl

  pub at_neither : (own x : ℕ) → ¬ IsTail ends own → ¬ IsHead ends own → swapped ends own x ≡ x
  at_neither own x no_tail no_head = rw (
    ne_eqb own ends.tail (λ e. no_tail (inl e)),
    ne_eqb own ends.other_tail (λ e. no_tail (inr e)),
    ne_eqb own ends.head (λ e. no_head (inl e)),
    ne_eqb own ends.other_head (λ e. no_head (inr e)),
  ) refl

  pub no_head_is_tail : (x : ℕ) → IsHead ends x → ¬ IsTail ends x
  no_head_is_tail x (inl e) (inl f) = apart.tail_head (sym f ∙ e)
  no_head_is_tail x (inl e) (inr f) = apart.head_other_tail (sym e ∙ f)
  no_head_is_tail x (inr e) (inl f) = apart.tail_other_head (sym f ∙ e)
  no_head_is_tail x (inr e) (inr f) = apart.other_tail_head (sym f ∙ e)

  pub at_head : (own x : ℕ) → IsHead ends own
      → swapped ends own x ≡ exchanged ends.tail ends.other_tail x
  at_head own x is = rw (
    ne_eqb own ends.tail (λ e. no_head_is_tail own is (inl e)),
    ne_eqb own ends.other_tail (λ e. no_head_is_tail own is (inr e)),
  ) (by is)
    where
      by : IsHead ends own → (if (own == ends.head || own == ends.other_head)
          then exchanged ends.tail ends.other_tail x else x) ≡ exchanged ends.tail ends.other_tail x
      by (inl e) = rw (eq-eqb own ends.head e) refl
      by (inr e) = rw (eq-eqb own ends.other_head e) (or (own == ends.head))
        where
          or : (b : Bool) → (if (b || true) then exchanged ends.tail ends.other_tail x else x)
              ≡ exchanged ends.tail ends.other_tail x
          or true = refl
          or false = refl

  -- a node is a tail, a head or neither
  pub who : (x : ℕ) → IsTail ends x ⊎ (IsHead ends x ⊎ ((¬ IsTail ends x) × (¬ IsHead ends x)))
  who x = elim (cases_eq x ends.tail) [
    | inl e ↦ inl (inl e)
    | inr a ↦ elim (cases_eq x ends.other_tail) [
      | inl e ↦ inl (inr e)
      | inr b ↦ elim (cases_eq x ends.head) [
        | inl e ↦ inr (inl (inl e))
        | inr c ↦ elim (cases_eq x ends.other_head) [
          | inl e ↦ inr (inl (inr e))
          | inr d ↦ inr (inr (
            (λ is. elim is [ inl e ↦ a e | inr e ↦ b e ]),
            (λ is. elim is [ inl e ↦ c e | inr e ↦ d e ]),
          ))
        ]
      ]
    ]
  ]

  pub swapped-twice : (own x : ℕ) → swapped ends own (swapped ends own x) ≡ x
  swapped-twice own x = elim (who own) [
    | inl tail ↦ ap (swapped ends own) (at_tail own x tail)
        ∙ at_tail own (exchanged ends.head ends.other_head x) tail
        ∙ exchanged-twice ends.head ends.other_head apart.heads x
    | inr rest ↦ elim rest [
      | inl head ↦ ap (swapped ends own) (at_head own x head)
          ∙ at_head own (exchanged ends.tail ends.other_tail x) head
          ∙ exchanged-twice ends.tail ends.other_tail apart.tails x
      | inr neither ↦ ap (swapped ends own) (at_neither own x neither.0 neither.1)
          ∙ at_neither own x neither.0 neither.1
    ]
  ]

  -- a name stays unless it is a head's at a tail or a tail's at a head
  pub stays : (own x : ℕ) → (IsTail ends own → ¬ IsHead ends x) → (IsHead ends own → ¬ IsTail ends x)
      → swapped ends own x ≡ x
  stays own x at_a_tail at_a_head = elim (who own) [
    | inl tail ↦ at_tail own x tail
        ∙ exchanged-other ends.head ends.other_head x (λ e. at_a_tail tail (inl e))
        (λ e. at_a_tail tail (inr e))
    | inr rest ↦ elim rest [
      | inl head ↦ at_head own x head
          ∙ exchanged-other ends.tail ends.other_tail x (λ e. at_a_head head (inl e))
          (λ e. at_a_head head (inr e))
      | inr neither ↦ at_neither own x neither.0 neither.1
    ]
  ]

  pub own_stays : (own : ℕ) → swapped ends own own ≡ own
  own_stays own = stays own own (λ tail head. no_head_is_tail own head tail)
      (λ head tail. no_head_is_tail own head tail)

  -- where no edge joins a tail to the other edge's head, crossing exchanges
  pub named-swapped : (own x : ℕ) → (own ≡ ends.tail → x ≢ ends.other_head)
      → (own ≡ ends.other_tail → x ≢ ends.head) → (own ≡ ends.head → x ≢ ends.other_tail)
      → (own ≡ ends.other_head → x ≢ ends.tail) → named_after ends own x ≡ swapped ends own x
  named-swapped own x a b c d = elim (cases_eq own ends.tail) [
    | inl e ↦ rw (
      eq-eqb own ends.tail e,
      ne_eqb own ends.other_tail (λ f. apart.tails (sym e ∙ f)),
      ne_eqb own ends.head (λ f. apart.tail_head (sym e ∙ f)),
      ne_eqb own ends.other_head (λ f. apart.tail_other_head (sym e ∙ f)),
      ne_eqb x ends.other_head (a e),
    ) refl
    | inr not_tail ↦ elim (cases_eq own ends.other_tail) [
      | inl e ↦ rw (
        ne_eqb own ends.tail not_tail,
        eq-eqb own ends.other_tail e,
        ne_eqb own ends.head (λ f. apart.head_other_tail (sym f ∙ e)),
        ne_eqb own ends.other_head (λ f. apart.other_tail_head (sym e ∙ f)),
        ne_eqb x ends.head (b e),
      ) refl
      | inr not_other_tail ↦ elim (cases_eq own ends.head) [
        | inl e ↦ rw (
          ne_eqb own ends.tail not_tail,
          ne_eqb own ends.other_tail not_other_tail,
          eq-eqb own ends.head e,
          ne_eqb own ends.other_head (λ f. apart.heads (sym e ∙ f)),
          ne_eqb x ends.other_tail (c e),
        ) refl
        | inr not_head ↦ elim (cases_eq own ends.other_head) [
          | inl e ↦ rw (
            ne_eqb own ends.tail not_tail,
            ne_eqb own ends.other_tail not_other_tail,
            ne_eqb own ends.head not_head,
            eq-eqb own ends.other_head e,
            ne_eqb x ends.tail (d e),
          ) refl
          | inr not_other_head ↦ rw (
            ne_eqb own ends.tail not_tail,
            ne_eqb own ends.other_tail not_other_tail,
            ne_eqb own ends.head not_head,
            ne_eqb own ends.other_head not_other_head,
          ) refl
        ]
      ]
    ]
  ]
