use Rattle.std.proofs.Common.{◌∷◌, ◌++◌, [], sym, ◌∙◌, ap}
use Rattle.std.proofs.lemmas.List.{take_more}
use Rattle.std.proofs.lemmas.Option.{get_or_from_slice_get, slice_get_within}
use Rattle.pooma_law.specs.Ser.{ser}
use Rattle.pooma_window.proofs.window.outcomes_of.Goals as goal

pub loop-j-preserved : goal.loop-j-preserved
loop-j-preserved g c =
    let all = (ser g.W.Work.meaning c.args.machine.now.plan c.args.machine.now.opening).outcomes in
    let outcome = c.outcome_at.result.now in
    let more = take_more all c.loop-j.j outcome (slice_get_within all c.loop-j.j outcome c.outcome_at.ensures) in
    c.in_ok-push.ensures.items ∙ (ap (λ outcomes. outcomes ++ outcome ∷ []) c.loop-j.invariant ∙ sym (rw (get_or_from_slice_get all c.loop-j.j outcome outcome c.outcome_at.ensures) at more))
