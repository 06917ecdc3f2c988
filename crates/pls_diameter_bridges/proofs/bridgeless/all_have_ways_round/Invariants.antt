use Rattle.pls_diameter_bridges.proofs.Crossed.{RoundSoFar}
use Rattle.pls_diameter_bridges.proofs.bridgeless.all_have_ways_round.Given as goal

abbrev pub invariant-loop-place : goal.invariant-loop-place
invariant-loop-place l = RoundSoFar l.net l.place
