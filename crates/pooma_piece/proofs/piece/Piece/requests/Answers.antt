use Rattle.std.proofs.Common.{sym, ◌∙◌, subst}
use Rattle.pooma_machine.specs.Steps.{IsRequestList}
use Rattle.pooma_piece.proofs.Asked.{are_requests}
use Rattle.pooma_piece.proofs.piece.Piece.requests.Goals as goal

pub returns-clause-form : goal.returns-clause-form
returns-clause-form c =
    subst IsRequestList (sym (c.as_slice.ensures ∙ c.self.invariant.requests_are)) (are_requests c.self.inside.write c.self.inside.reads.items)
