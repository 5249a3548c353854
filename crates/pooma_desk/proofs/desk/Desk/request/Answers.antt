use Rattle.std.proofs.Common.{◌<◌, All, length, map, refl, sym, ap, ◌∙◌, subst, arith}
use Rattle.std.specs.Arc.{arc_value}
use Rattle.pooma_machine.specs.Machine.{FitsShapes}
use Rattle.pooma_desk.specs.Tokens.{Started, Adds, Looks, requested, token_of}
use Rattle.pooma_desk.proofs.Turning.{adds_at}
use Rattle.pooma_desk.proofs.Asking.{plan_told}
use Rattle.pooma_desk.proofs.desk.Desk.request.Goals as goal

pub request_in_turn-requires-clause-start : goal.request_in_turn-requires-clause-start
request_in_turn-requires-clause-start g c = ap (λ (s : Started _ _). s.machine) (c.enter-turn.ensures.looks.same.from ∙ c.requires.desk)

pub request_in_turn-requires-clause-objects : goal.request_in_turn-requires-clause-objects
request_in_turn-requires-clause-objects g c = subst (λ (s : Started _ _). All (λ r. r.object < length s.machine.opening) (g.W.Work.meaning.requests (arc_value c.args.work))) c.requires.desk c.requires.objects

pub request_in_turn-requires-clause-fits : goal.request_in_turn-requires-clause-fits
request_in_turn-requires-clause-fits g c = subst (λ (s : Started _ _). FitsShapes g.W.Work.meaning (map g.W.Work.meaning.shape s.machine.opening) (arc_value c.args.work)) c.requires.desk c.requires.fits

pub returns-in-Ok-clause-ok : goal.returns-in-Ok-clause-ok
returns-in-Ok-clause-ok g c =
    let t = c.enter-turn in
    let adds = adds_at c.args.self.now.desk c.args.pass c.leave.result t.result.place.me.0 t.result.seat t.result.next (requested c.in-Ok.entry t.result.seat (arc_value c.args.work)) _ _ t.ensures.turn.placed refl t.ensures.looks c.in-Ok.ensures.noted c.leave.ensures.pass in
    subst (λ s. Adds c.args.pass c.leave.result (requested c.in-Ok.entry s (arc_value c.args.work))) t.ensures.seat adds

pub returns-in-Ok-clause-entry : goal.returns-in-Ok-clause-entry
returns-in-Ok-clause-entry g c =
    let e = c.in-Ok.ensures in
    let plan = ap length (plan_told c.args.self.now.desk c.leave.result c.request_in_turn.new.turn.place.me.0 c.request_in_turn.new.turn.machine c.leave.ensures.pass e.after) in
    omega (arith, plan, e.plan, e.entry)

pub returns-in-Err-clause-err : goal.returns-in-Err-clause-err
returns-in-Err-clause-err g c = subst (Looks c.args.pass) (sym (c.leave-in-Err.ensures.pass ∙ ap (λ m. token_of c.args.self.now.desk m.0) c.in-Err.ensures.err)) c.enter-turn.ensures.looks
