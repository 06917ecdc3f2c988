use Rattle.pls_app.proofs.trial.mark_lightest.Goals as goal

pub returns-clause-marked : goal.returns-clause-marked
returns-clause-marked c = record {
  joined = c.requires.connected;
  has = c.requires.lightest;
  marked = rw (c.unwrap.ensures, c.new-scheme.ensures) at c.in_ok-mark.ensures.marked;
  each = rw c.unwrap.ensures at c.in_ok-mark.ensures.each;
  accepted = rw (c.unwrap.ensures, c.new-scheme.ensures) at c.in_ok-mark.ensures.accepted;
  short = rw (c.unwrap.ensures, c.new-scheme.ensures) at c.in_ok-mark.ensures.short;
}
