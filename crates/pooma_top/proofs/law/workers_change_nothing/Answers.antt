use Rattle.pooma_top.proofs.OneOutput.{demos_alike, runs_alike}
use Rattle.pooma_top.proofs.law.workers_change_nothing.Goals as goal

pub returns : goal.returns
returns c = record {
  runs = λ most m n input output few. runs_alike most few m n input output;
  demos = λ most m n recipe input output few. demos_alike most few m n recipe input output;
}
