-- The numbers of the statuses.
use Rattle.std.specs.Prelude.{ℕ}
use Rattle.pooma_top.specs.declared.status.Status.{Status}
use Rattle.pooma_top.specs.declared.status.Status.TheVariants.{Done, Usage, Refused, Faulted, ReadFault, WriteFault, OutOfMemory}

-- the number that the program ends with
abbrev pub number_of : Status → ℕ
number_of Done = 0
number_of Usage = 1
number_of Refused = 2
number_of Faulted = 3
number_of ReadFault = 4
number_of WriteFault = 5
number_of OutOfMemory = 6
