use Rattle.std.proofs.Common.{arith}
use Rattle.pooma_check.specs.Kept.{known_of}
use Rattle.pooma_check.proofs.Measured.{reads_of_assigned}
use Rattle.pooma_check.proofs.amount.joined_reads_few.Goals as goal

pub returns : goal.returns
returns c = λ target. rw (reads_of_assigned (known_of c.args.known.now) c.args.text.now c.args.op target c.args.value.now) (grind arith)
