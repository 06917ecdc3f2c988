use Rattle.pls_bits.proofs.Peeked.{begins_with}
use Rattle.pls_bits.proofs.cursor.Cursor.ahead.Goals as goal

pub returns : goal.returns
returns c =
    rw (← c.self.view_is) (begins_with c.self.inside.words.now c.self.inside.start c.self.inside.len
    c.window.result c.window.ensures)
