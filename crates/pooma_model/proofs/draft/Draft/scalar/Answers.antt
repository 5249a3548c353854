use Rattle.pooma_model.proofs.DraftLines.{draft_declares}
use Rattle.pooma_model.proofs.Growing.{declaring-scalar, grows-scalar}
use Rattle.pooma_model.proofs.draft.Draft.scalar.Goals as goal

pub invariant_of-self : goal.invariant_of-self
invariant_of-self c =
    rw c.scalar.ensures.declared
    (draft_declares _ _ _ _ _ (declaring-scalar _ c.self.invariant.declaring) (grows-scalar _) c.self.invariant)
