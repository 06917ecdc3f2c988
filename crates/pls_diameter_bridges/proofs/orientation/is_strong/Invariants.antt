use Rattle.pls_diameter_bridges.proofs.Strong.{HaveWays}
use Rattle.pls_diameter_bridges.proofs.orientation.is_strong.Given as goal

-- the places so far have a way in and a way home
abbrev pub invariant-loop-place : goal.invariant-loop-place
invariant-loop-place l = HaveWays l.net l.numbers l.parents l.homes l.place
