-- The letters at the front of a text.
use Rattle.std.specs.Prelude.{ℕ, suc, ◌&&◌, nat_le, Bool, List, [], ◌∷◌, if◌then◌else◌}

-- small letters
abbrev pub is_letter : ℕ → Bool
is_letter character = nat_le 97 character && nat_le character 122

-- how many letters stand in front
abbrev pub letters_ahead : List ℕ → ℕ
letters_ahead [] = 0
letters_ahead (character ∷ text) = if is_letter character then suc (letters_ahead text) else 0
