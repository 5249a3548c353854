use Rattle.pooma_model.proofs.Running.{next_run, next_world, runs_compose, runs_end, worlds_compose}
use Rattle.pooma_model.proofs.laws.runs_compose.Goals as goal

pub returns : goal.returns
returns c = record {
  front = runs_compose;
  ended = runs_end;
  world = worlds_compose;
  next = next_run;
  next_world = next_world;
}
