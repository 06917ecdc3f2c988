-- The code and the listing of a set, at a worked example.
use Rattle.std.proofs.Common.{◌≡◌, [], ◌∷◌, refl}
use Rattle.std.specs.Prelude.{codes}
use Rattle.std.specs.Fmt.{digits}
use Rattle.pls_lines.specs.Text.{text_of}
use Rattle.pls_builtin.specs.Builtin.{bipartite_set}
use Rattle.pls_compile.specs.declared.instr.Instr.TheVariants.{Accept, Begin, Both, Eq, More, My, Nb, Next, Not, Push, Rule}
use Rattle.pls_compile.specs.Code.{code_of_rules}
use Rattle.pls_compile.specs.Listing.{listing_text}

-- the set `bipartite`, `all(not(eq(nb.colour,my.colour)))`
bipartite_code : code_of_rules bipartite_set.rules ≡ Push 1 ∷ Begin ∷ More 9 ∷ Nb 0 ∷ My 0 ∷ Eq
    ∷ Not ∷ Both ∷ Next 2 ∷ Rule 3 ∷ Accept ∷ []
bipartite_code = refl

bipartite_listing : listing_text (code_of_rules bipartite_set.rules) ≡ text_of (codes "code"
    ∷ codes "0 push 1" ∷ codes "1 begin" ∷ codes "2 more 9" ∷ codes "3 nb 0" ∷ codes "4 my 0"
    ∷ codes "5 eq" ∷ codes "6 not" ∷ codes "7 both" ∷ codes "8 next 2" ∷ codes "9 rule 3"
    ∷ codes "10 accept" ∷ codes "end" ∷ [])
unfolding digits
bipartite_listing = refl
