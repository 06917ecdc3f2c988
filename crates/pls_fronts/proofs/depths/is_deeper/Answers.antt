use Rattle.std.proofs.Common.{◌∙◌, suc, drop, sym, refl}
use Rattle.pls_fronts.proofs.DepthFrom.{deepest-at, deepest-past}
use Rattle.pls_fronts.proofs.depths.is_deeper.Goals as goal

pub returns-then-depth-most : goal.returns-then-depth-most
returns-then-depth-most c =
    let text = c.args.text.now in
    let most = c.args.most in
    let place = c.loop-character.character-index in
    sym (c.loop-character.invariant.left
    ∙ deepest-at most c.loop-character.depth place text _ c.loop-character.invariant.shallow
    c.loop-character-test.true refl
    ∙ deepest-past most _ (drop (suc place) text) (rw c.depth_after-depth.ensures at c.if-depth-most.true))
