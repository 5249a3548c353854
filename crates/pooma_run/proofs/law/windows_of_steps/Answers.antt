use Rattle.pooma_run.proofs.Joined.{windows_joined, windows_some}
use Rattle.pooma_run.proofs.law.windows_of_steps.Goals as goal

pub returns : goal.returns
returns c = record { joined = λ pending steps. windows_joined steps pending; some = λ pending steps. windows_some steps pending }
