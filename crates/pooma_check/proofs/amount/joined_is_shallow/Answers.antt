use Rattle.std.proofs.Common.{arith}
use Rattle.pooma_check.specs.Kept.{known_of}
use Rattle.pooma_check.proofs.Measured.{depth_of_assigned}
use Rattle.pooma_check.proofs.amount.joined_is_shallow.Goals as goal

pub returns : goal.returns
returns c = λ target. rw (depth_of_assigned (known_of c.args.known.now) c.args.text.now c.args.op target c.args.value.now) (grind arith)
