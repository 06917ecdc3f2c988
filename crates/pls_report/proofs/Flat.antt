-- Texts of a list, written one behind another.
use Rattle.std.proofs.Common.{◌≡◌, ◌∙◌, ℕ, ◌+◌, ◌<◌, ◌≤◌, List, [], ◌∷◌, ◌++◌, Option, take, drop, length, map, get_or, refl, sym, ap, subst, append-nil, append_assoc}
use Rattle.std.proofs.lemmas.Grind.{flat_map-append}
use Rattle.std.proofs.lemmas.List.{take-append-drop, take_all, take_more}
use Rattle.pls_sim.specs.declared.outcome.Outcome.{Outcome}
use Rattle.pls_lines.specs.Text.{text_of}
use Rattle.pls_lines.specs.laws.Fronts.{text_of-append}
use Rattle.pls_report.specs.Look.{look_closing, look_line, look_text}
use Rattle.pls_report.specs.inner.Kept.{joined_text, kept_text, row_line}
use Rattle.pls_report.specs.inner.Lines.{counts_of}
use Rattle.pls_streams.specs.Gathered.{Wrote, WroteFront}
use Rattle.pls_streams.proofs.Written.{front_first, front_later, wrote_both}

module _ (texts : List (List ℕ)) (i : ℕ) where
  -- one text more
  pub flat_more : (d : List ℕ) → i < length texts
      → joined_text (take i texts) ++ get_or texts i d ≡ joined_text (take (i + 1) texts)
  flat_more d within =
      sym (ap joined_text (take_more texts i d within)
      ∙ flat_map-append (λ text. text) (take i texts) (get_or texts i d ∷ [])
      ∙ ap (λ (text : List ℕ). joined_text (take i texts) ++ text) (append-nil (get_or texts i d)))

  -- all texts
  pub flat_all : length texts ≤ i → joined_text (take i texts) ≡ joined_text texts
  flat_all past = ap joined_text (take_all i texts past)

  module _ (text d : List ℕ) (is : text ≡ get_or texts i d) (within : i < length texts) where
    with_text : joined_text (take i texts) ++ text ≡ joined_text (take (i + 1) texts)
    with_text = ap (λ (text : List ℕ). joined_text (take i texts) ++ text) is ∙ flat_more d within

    -- one text more is written
    pub wrote_text : {p q r : List ℕ} {a b c : Option (List ℕ)} {f g h : ℕ} {S T U : ℕ → Type 0}
        → Wrote p q a b f g S T (joined_text (take i texts)) → Wrote q r b c g h T U text
        → Wrote p r a c f h S U (joined_text (take (i + 1) texts))
    wrote_text {p} {q} {r} {a} {b} {c} {f} {g} {h} {S} {T} {U} before now =
        subst (Wrote p r a c f h S U) with_text (wrote_both (joined_text (take i texts)) text before now)

    -- or fails, and the text ends in a front of it
    pub failed_text : {p q : List ℕ} {a b c : Option (List ℕ)} {f g h : ℕ} {S T : ℕ → Type 0}
        → Wrote p q a b f g S T (joined_text (take i texts)) → WroteFront q b c g h T text
        → WroteFront p a c f h S (joined_text texts)
    failed_text {p} {q} {a} {b} {c} {f} {g} {h} {S} {T} before now =
        let rest : List ℕ = joined_text (drop (i + 1) texts) in
        subst (WroteFront p a c f h S)
        (ap (λ (front : List ℕ). front ++ rest) with_text
        ∙ sym (flat_map-append (λ text. text) (take (i + 1) texts) (drop (i + 1) texts))
        ∙ ap joined_text (take-append-drop (i + 1) texts))
        (front_first (joined_text (take i texts) ++ text) rest
        (front_later (joined_text (take i texts)) text before now))

-- the lines of rows are their text
pub flat_rows : (rows : List (ℕ × Outcome × List ℕ))
    → joined_text (map row_line rows) ≡ text_of (map look_line rows)
flat_rows [] = refl
flat_rows (row ∷ rows) =
    append_assoc (look_line row) (10 ∷ []) (joined_text (map row_line rows))
    ∙ ap (λ (rest : List ℕ). look_line row ++ 10 ∷ rest) (flat_rows rows)

-- what is kept of a look is its text
pub kept_look : (number : ℕ) (rows : List (ℕ × Outcome × List ℕ))
    → kept_text number (map row_line rows) (counts_of rows) ≡ look_text number rows
kept_look number rows =
    ap (λ (lines : List ℕ). lines ++ (look_closing number rows ++ 10 ∷ [])) (flat_rows rows)
    ∙ sym (text_of-append (map look_line rows) (look_closing number rows ∷ []))
