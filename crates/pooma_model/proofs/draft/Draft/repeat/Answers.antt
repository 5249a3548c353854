use Rattle.std.proofs.Common.{◌≡◌, arith, length}
use Rattle.pooma_model.proofs.DraftLines.{draft_repeats, unended_is}
use Rattle.pooma_model.proofs.draft.Draft.repeat.Goals as goal

pub invariant_of-self-2 : goal.invariant_of-self-2
invariant_of-self-2 c =
    let count : length c.args.self.now.open_repeats ≡ c.self.inside.unended = rw (← c.self.view_is) (unended_is _ _ _ _ c.self.invariant) in
    rw (c.push_reserved.ensures.items, c.in_ok-reserve.ensures.items)
    (draft_repeats _ _ _ _ _ _ c.requires.some (omega (arith, count, c.requires.few))
    (omega (arith, c.in_ok-reserve.ensures.ok, c.push_reserved.ensures.len, c.push_reserved.ensures.capacity)) c.self.invariant)
