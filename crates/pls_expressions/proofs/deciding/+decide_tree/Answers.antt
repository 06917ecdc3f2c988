use Rattle.pls_expressions.proofs.deciding.+decide_tree.Goals as goal

pub returns-in-Of : goal.returns-in-Of
returns-in-Of t c = rw (c.in-Of.is, ← c.new.ensures) c.decide.ensures

pub returns-in-Diameter : goal.returns-in-Diameter
returns-in-Diameter t c = rw (c.in-Diameter.is, ← c.new-in-Diameter.ensures) c.decide-in-Diameter.ensures

pub returns-in-Bridgeless : goal.returns-in-Bridgeless
returns-in-Bridgeless t c = rw c.in-Bridgeless.is c.decide-in-Bridgeless.ensures
