-- How deep parentheses stand in a text.
use Rattle.std.specs.Prelude.{ℕ, ◌+◌, ◌-◌, ◌==◌, max, List, [], ◌∷◌, if◌then◌else◌}

-- how deep parentheses stand behind a character: `(` raises the depth by one, and `)` lowers it by
-- one, but never below 0
abbrev pub depth_after : ℕ → ℕ → ℕ
depth_after depth character =
    if character == 40 then depth + 1 else (if character == 41 then depth - 1 else depth)

-- how deep parentheses stand at most, in front of a text and behind each of its characters
abbrev pub deepest : ℕ → List ℕ → ℕ
deepest depth [] = depth
deepest depth (character ∷ text) = max depth (deepest (depth_after depth character) text)
