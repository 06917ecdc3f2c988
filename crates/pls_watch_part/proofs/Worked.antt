-- The definitions at worked examples.
use Rattle.std.proofs.Common.{◌≡◌, ℕ, true, false, List, [], ◌∷◌, codes, decimal, refl}
use Rattle.pls_lines.specs.Text.{line_of}
use Rattle.pls_closing.specs.Closing.{is_closed}
use Rattle.pls_watch_part.specs.declared.watch_event.WatchEvent.TheVariants.{Restart, Relabel}
use Rattle.pls_watch_part.specs.declared.watch_event.WatchLine.{WatchLine}
use Rattle.pls_watch_part.specs.declared.watch_event.WatchLine.TheVariants.{Event, Look}
use Rattle.pls_watch_part.specs.WatchText.{is_look, looks_of, total_relabel_bits, watch_line}

-- a label without bits, and a look
empty_written : (node : ℕ) → watch_line (Event (Relabel node []))
    ≡ line_of (codes "relabel" ∷ decimal node ∷ decimal 0 ∷ codes "-" ∷ [])
empty_written node = refl

look_written : watch_line Look ≡ codes "look"
look_written = refl

-- two looks, and labels of three bits
abbrev lines : List WatchLine
lines =
    Event (Relabel 1 (true ∷ [])) ∷ Look ∷ Event (Relabel 2 (true ∷ false ∷ [])) ∷ Look ∷ []

lines_closed : is_closed is_look false lines ≡ true
lines_closed = refl

lines_looks : looks_of lines ≡ Look ∷ Look ∷ []
lines_looks = refl

lines_bits : total_relabel_bits lines ≡ 3
lines_bits = refl

-- no line is no part, and neither are lines behind the last look
none_closed : is_closed is_look false [] ≡ false
none_closed = refl

behind_closed : is_closed is_look false (Look ∷ Event (Restart 1) ∷ []) ≡ false
behind_closed = refl
