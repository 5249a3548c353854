use Rattle.std.proofs.Common.{◌≡◌, ap, arith}
use Rattle.pooma_model.proofs.DraftLines.{draft_pushes}
use Rattle.pooma_model.proofs.draft.Draft.push.Goals as goal

pub invariant_of-self-2 : goal.invariant_of-self-2
invariant_of-self-2 c =
    let same : c.self.inside.declared ≡ c.args.self.now.declared = ap (λ draft. draft.declared) c.self.view_is in
    rw (c.push_reserved.ensures.items, c.in_ok-reserve.ensures.items)
    (draft_pushes _ _ _ _ _ _ (rw same c.requires)
    (omega (arith, c.in_ok-reserve.ensures.ok, c.push_reserved.ensures.len, c.push_reserved.ensures.capacity)) c.self.invariant)
