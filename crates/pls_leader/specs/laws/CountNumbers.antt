-- Labels of the number of nodes are six numbers.
use Rattle.std.proofs.Common.{refl}
use Rattle.pls_numbers.specs.Fixed.{AreNumbers}
use Rattle.pls_numbers.specs.laws.FixedLaws.{are_numbers}
use Rattle.pls_leader.specs.Count.{count_label, numbers_of_count}

pub count_numbers : AreNumbers 6 numbers_of_count count_label
count_numbers = are_numbers 6 numbers_of_count count_label refl (λ _. refl) (λ _. refl) (λ _. refl)
