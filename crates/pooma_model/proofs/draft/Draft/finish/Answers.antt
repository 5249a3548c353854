use Rattle.std.proofs.Common.{ap, arith, length, ◌∙◌}
use Rattle.pooma_model.proofs.DraftLines.{program_of_draft}
use Rattle.pooma_model.proofs.draft.Draft.finish.Goals as goal

pub of-requires : goal.of-requires
of-requires c =
    let count = ap (λ draft. length draft.statements) c.self.view_is in
    program_of_draft _ _ _ _ (ap (λ draft. draft.open_repeats) c.self.view_is ∙ c.requires.ended) (omega (arith, count, c.requires.few)) c.self.invariant
