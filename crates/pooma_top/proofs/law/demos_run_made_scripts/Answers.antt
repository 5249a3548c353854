use Rattle.pooma_top.proofs.OneOutput.{demo_runs_made}
use Rattle.pooma_top.proofs.law.demos_run_made_scripts.Goals as goal

pub returns : goal.returns
returns c = λ most workers recipe any input made output few. demo_runs_made most few workers recipe any input made output
