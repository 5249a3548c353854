use Rattle.pooma_top.proofs.Statuses.{faulted_output_tells, refused_output_tells}
use Rattle.pooma_top.proofs.law.outputs_by_status.Goals as goal

pub returns : goal.returns
returns c = record { refused = refused_output_tells; faulted = faulted_output_tells }
