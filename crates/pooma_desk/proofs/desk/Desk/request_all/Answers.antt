use Rattle.std.proofs.Common.{◌<◌, All, length, map, sym, ap, ◌∙◌, subst}
use Rattle.std.specs.Arc.{arc_value}
use Rattle.pooma_machine.specs.Machine.{FitsShapes}
use Rattle.pooma_desk.specs.Tokens.{Started}
use Rattle.pooma_desk.proofs.Several.{requests_at}
use Rattle.pooma_desk.proofs.desk.Desk.request_all.Goals as goal

pub request_each-requires-clause-start : goal.request_each-requires-clause-start
request_each-requires-clause-start g c = ap (λ (s : Started _ _). s.machine) (c.enter-turn.ensures.looks.same.from ∙ c.requires.desk)

pub request_each-requires-clause-objects : goal.request_each-requires-clause-objects
request_each-requires-clause-objects g c = subst (λ (s : Started _ _). All (λ work. All (λ r. r.object < length s.machine.opening) (g.W.Work.meaning.requests (arc_value work))) c.args.works.items) c.requires.desk c.requires.objects

pub request_each-requires-clause-fits : goal.request_each-requires-clause-fits
request_each-requires-clause-fits g c = subst (λ (s : Started _ _). All (λ work. FitsShapes g.W.Work.meaning (map g.W.Work.meaning.shape s.machine.opening) (arc_value work)) c.args.works.items) c.requires.desk c.requires.fits

pub returns-clause-requests : goal.returns-clause-requests
returns-clause-requests g c =
    let t = c.enter-turn in
    let e = c.request_each.ensures in
    requests_at c.args.self.now.desk c.args.pass c.leave.result t.result.place.me.0 t.result.machine t.result.seat t.result.next c.issued-first.result
    (map arc_value c.args.works.items) e.noted.0 (map arc_value c.request_each.new.works.items) _ _
    t.ensures.turn.placed t.ensures.seat (sym t.ensures.after.plan) c.issued-first.ensures t.ensures.looks e.noted.1 e.noted.2 c.leave.ensures.pass
