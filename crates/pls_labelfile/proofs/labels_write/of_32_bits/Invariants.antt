use Rattle.std.proofs.Common.{◌<◌, ◌^◌, take}
use Rattle.std.specs.List.{All}
use Rattle.pls_configuration.specs.Configuration.{ids_of}
use Rattle.pls_labelfile.proofs.labels_write.of_32_bits.Given as goal

abbrev pub invariant-loop-place : goal.invariant-loop-place
invariant-loop-place l = All (λ id. id < 2 ^ 32) (take l.place (ids_of l.net))
