use Rattle.std.proofs.Common.{◌∙◌, ap, arith}
use Rattle.pooma_model.specs.Order.{with_end}
use Rattle.pooma_model.proofs.DraftLines.{draft_ended, is_unended}
use Rattle.pooma_model.proofs.Ending.{draft_of-ended}
use Rattle.pooma_model.proofs.draft.Draft.end.Goals as goal

pub end_repeat-requires : goal.end_repeat-requires
end_repeat-requires c =
    let some = is_unended _ _ _ _ _ c.self.invariant c.self.view_is c.requires in omega (arith, c.self.invariant.ends)

pub overflow_sub-self : goal.overflow_sub-self
overflow_sub-self c = is_unended _ _ _ _ _ c.self.invariant c.self.view_is c.requires

pub invariant_of-self : goal.invariant_of-self
invariant_of-self c =
    rw c.end_repeat.ensures.lines
    (draft_ended _ _ _ _ _ (is_unended _ _ _ _ _ c.self.invariant c.self.view_is c.requires)
    (omega (arith, c.end_repeat.ensures.room, c.self.invariant.ends)) c.self.invariant)

pub returns : goal.returns
returns c =
    rw c.end_repeat.ensures.lines
    (draft_of-ended c.self.inside.declared c.self.inside.lines.items ∙ ap with_end c.self.view_is)
