-- Lines of rows, written one after another.
use Rattle.std.proofs.Common.{◌≡◌, ◌∙◌, ℕ, ◌+◌, ◌<◌, ◌≤◌, List, [], ◌∷◌, ◌++◌, Option, map, take, drop, length, get_or, refl, sym, ap, subst, append_assoc}
use Rattle.std.proofs.lemmas.List.{map-append, take-append-drop, take_more, take_all}
use Rattle.pls_streams.specs.Gathered.{Wrote, WroteFront}
use Rattle.pls_streams.proofs.Written.{front_first, front_later, wrote_both}
use Rattle.pls_lines.specs.Text.{text_of}
use Rattle.pls_lines.specs.laws.Fronts.{text_of-append}

module _ {X : Type 0} (line : X → List ℕ) (rows : List X) where
  -- lines in front of others, and of what else there is
  lines_rest : (i : ℕ) (others : List (List ℕ))
      → text_of (map line (take i rows)) ++ text_of (map line (drop i rows) ++ others)
      ≡ text_of (map line rows ++ others)
  lines_rest i others =
      sym (text_of-append (map line (take i rows)) (map line (drop i rows) ++ others))
      ∙ ap text_of
      (sym (append_assoc (map line (take i rows)) (map line (drop i rows)) others)
      ∙ ap (λ (lines : List (List ℕ)). lines ++ others)
      (sym (map-append line (take i rows) (drop i rows))
      ∙ ap (map line) (take-append-drop i rows)))

module _ {X : Type 0} (line : X → List ℕ) (rows : List X) (i : ℕ) where
  -- one more line
  lines_more : (d : X) → i < length rows
      → text_of (map line (take i rows)) ++ (line (get_or rows i d) ++ 10 ∷ [])
      ≡ text_of (map line (take (i + 1) rows))
  lines_more d within =
      sym (rw (
        take_more rows i d within,
        map-append line (take i rows) (get_or rows i d ∷ []),
        text_of-append (map line (take i rows)) (line (get_or rows i d) ∷ []),
      ) refl)

  pub lines_closed : (others : List (List ℕ)) → length rows ≤ i
      → text_of (map line (take i rows)) ++ text_of others ≡ text_of (map line rows ++ others)
  lines_closed others past =
      rw (take_all i rows past) (sym (text_of-append (map line rows) others))

  module _ (row d : X) (is : row ≡ get_or rows i d) (within : i < length rows) where
    with_row : text_of (map line (take i rows)) ++ (line row ++ 10 ∷ [])
        ≡ text_of (map line (take (i + 1) rows))
    with_row =
        ap (λ (row : X). text_of (map line (take i rows)) ++ (line row ++ 10 ∷ [])) is
        ∙ lines_more d within

    -- the line of one more row is written
    pub wrote_line : {p q r : List ℕ} {a b c : Option (List ℕ)} {f g h : ℕ} {S T U : ℕ → Type 0}
        → Wrote p q a b f g S T (text_of (map line (take i rows)))
        → Wrote q r b c g h T U (line row ++ 10 ∷ [])
        → Wrote p r a c f h S U (text_of (map line (take (i + 1) rows)))
    wrote_line {p} {q} {r} {a} {b} {c} {f} {g} {h} {S} {T} {U} before now =
        subst (Wrote p r a c f h S U) with_row
        (wrote_both (text_of (map line (take i rows))) (line row ++ 10 ∷ []) before now)

    -- or fails, and the text ends in a front of it
    pub failed_line : {p q : List ℕ} {a b c : Option (List ℕ)} {f g h : ℕ} {S T : ℕ → Type 0}
        (others : List (List ℕ)) → Wrote p q a b f g S T (text_of (map line (take i rows)))
        → WroteFront q b c g h T (line row ++ 10 ∷ [])
        → WroteFront p a c f h S (text_of (map line rows ++ others))
    failed_line {p} {q} {a} {b} {c} {f} {g} {h} {S} {T} others before now =
        let rest : List ℕ = text_of (map line (drop (i + 1) rows) ++ others) in
        subst (WroteFront p a c f h S)
        (ap (λ (front : List ℕ). front ++ rest) with_row ∙ lines_rest line rows (i + 1) others)
        (front_first (text_of (map line (take i rows)) ++ (line row ++ 10 ∷ [])) rest
        (front_later (text_of (map line (take i rows))) (line row ++ 10 ∷ []) before now))
