use Rattle.pooma_piece.specs.Meaning.{pieces}
use Rattle.pooma_window.specs.Windows.{IsPickedFrom, IsStopped}
use Rattle.pooma_run.specs.Workers.{SharedBy}
use Rattle.pooma_run.proofs.ToldEntries.{all_told, some_told}
use Rattle.pooma_run.proofs.works_laws.told_windows_are_first.Goals as goal

pub returns : goal.returns
returns c = record {
  picked = λ program known told old new has. all_told (IsPickedFrom pieces) (λ works window before after is. is.1.whole) program known told old new has;
  picked_short = λ program known told old new has. some_told (IsPickedFrom pieces) (λ works window before after is. is.1.whole) program known told old new (IsStopped pieces) has;
  shared = λ workers program known told has. all_told (SharedBy workers) (λ works window before after is. is.whole) program known told tt tt has;
  shared_short = λ workers program known told has. some_told (SharedBy workers) (λ works window before after is. is.whole) program known told tt tt _ has;
}
