use Rattle.std.proofs.Common.{sym}
use Rattle.pooma_model.proofs.DraftLines.{unended_is, unended_is_few}
use Rattle.pooma_model.proofs.draft.Draft.open_repeats.Goals as goal

pub returns-clause-count : goal.returns-clause-count
returns-clause-count c = rw (← c.self.view_is) (sym (unended_is _ _ _ _ c.self.invariant))

pub returns-clause-few : goal.returns-clause-few
returns-clause-few c = unended_is_few _ _ _ _ c.self.invariant
