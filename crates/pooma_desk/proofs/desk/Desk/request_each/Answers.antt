use Rattle.std.proofs.Common.{◌<◌, ◌++◌, All, length, map, [], ◌∷◌, suc, refl, sym, ap, ◌∙◌, subst, arith, append_assoc, length-append}
use Rattle.std.specs.Arc.{arc_value}
use Rattle.pooma_machine.specs.Machine.{FitsShapes}
use Rattle.pooma_desk.proofs.Several.{noted_none, requested_step}
use Rattle.pooma_desk.proofs.desk.Desk.request_each.Goals as goal

pub loop-work-init : goal.loop-work-init
loop-work-init g c = record {
  desk = refl;
  seat = refl;
  turn = c.requires.turn;
  after = c.requires.after;
  objects = c.requires.objects;
  fits = c.requires.fits;
  noted = ([], refl, omega arith, noted_none c.args.turn.now.place.me);
}

pub request_in_turn-requires-clause-objects : goal.request_in_turn-requires-clause-objects
request_in_turn-requires-clause-objects g c =
    let all = subst (λ items. All (λ work. All (λ r. r.object < length c.args.self.now.machine.opening) (g.W.Work.meaning.requests (arc_value work))) items) c.in-Some.ensures.items c.loop-work.invariant.objects in
    all 0 c.in-Some.work (omega arith)

pub request_in_turn-requires-clause-fits : goal.request_in_turn-requires-clause-fits
request_in_turn-requires-clause-fits g c =
    let all = subst (λ items. All (λ work. FitsShapes g.W.Work.meaning (map g.W.Work.meaning.shape c.args.self.now.machine.opening) (arc_value work)) items) c.in-Some.ensures.items c.loop-work.invariant.fits in
    all 0 c.in-Some.work (omega arith)

pub loop-work-preserved : goal.loop-work-preserved
loop-work-preserved g c =
    let h = c.loop-work.invariant in
    let e = c.in_default-request_in_turn.ensures in
    let work = arc_value c.in-Some.work in
    let asked = h.noted.0 in
    let items = c.in-Some.ensures.items in
    let rest = c.pop_front.new.self.items in
    let objects = subst (λ items. All (λ work. All (λ r. r.object < length c.args.self.now.machine.opening) (g.W.Work.meaning.requests (arc_value work))) items) items h.objects in
    let fits = subst (λ items. All (λ work. FitsShapes g.W.Work.meaning (map g.W.Work.meaning.shape c.args.self.now.machine.opening) (arc_value work)) items) items h.fits in
    let plan = e.plan in
    let last = h.noted.2 in
    record {
      desk = e.desk ∙ sym c.requires.desk;
      seat = e.seat ∙ h.seat;
      turn = e.turn;
      after = e.after;
      objects = λ k d below. objects (suc k) d (omega (arith, below));
      fits = λ k d below. fits (suc k) d (omega (arith, below));
      noted = (
        asked ++ work ∷ [],
        h.noted.1 ∙ (ap (λ items. asked ++ map arc_value items) items ∙ sym (append_assoc asked (work ∷ []) (map arc_value rest))),
        omega (arith, plan, last, length-append asked (work ∷ [])),
        requested_step c.args.turn.now.place.me c.loop-work.turn.place.me c.request_in_turn.new.turn.place.me (length c.args.turn.now.machine.plan) _ c.args.turn.now.seat c.loop-work.turn.seat asked work h.noted.3 e.noted (e.entry ∙ last) h.seat,
      );
    }
