use Rattle.std.proofs.Common.{refl}
use Rattle.pooma_check.specs.Kept.{known_of}
use Rattle.pooma_check.proofs.Outcomes.{stops_early}
use Rattle.pooma_check.proofs.line.read_form.Goals as goal

pub returns-in-Err-clause-refused : goal.returns-in-Err-clause-refused
returns-in-Err-clause-refused c =
    let first = rw c.in-Err.is at c.in_ok-cause.ensures.cause in
    rw c.refuse.ensures (refl, stops_early c.args.number (known_of c.args.known.now) c.args.text.now c.args.form.now c.in-Err.cause (first c.args.number))
