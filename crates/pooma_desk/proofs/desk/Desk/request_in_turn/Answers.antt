use Rattle.std.proofs.Common.{◌<◌, All, length, map, [], ◌∷◌, sym, ap, ◌∙◌, subst, length-append}
use Rattle.std.specs.Arc.{arc_value}
use Rattle.pooma_machine.specs.Machine.{FitsShapes}
use Rattle.pooma_desk.specs.Rule.{IsAfter}
use Rattle.pooma_desk.specs.Steps.{noting}
use Rattle.pooma_desk.specs.Tokens.{requested}
use Rattle.pooma_desk.proofs.Calls.{may_request}
use Rattle.pooma_desk.proofs.Asking.{asked_is, in_turn_noting, after_request}
use Rattle.pooma_desk.proofs.desk.Desk.request_in_turn.Goals as goal

pub request-requires-clause-objects : goal.request-requires-clause-objects
request-requires-clause-objects g c =
    let opening = c.requires.after.opening ∙ ap (λ m. m.opening) c.requires.start in
    subst (λ l. All (λ r. r.object < length l) (g.W.Work.meaning.requests (arc_value c.args.work))) (sym opening) c.requires.objects

pub request-requires-clause-fits : goal.request-requires-clause-fits
request-requires-clause-fits g c =
    let opening = c.requires.after.opening ∙ ap (λ m. m.opening) c.requires.start in
    subst (λ l. FitsShapes g.W.Work.meaning (map g.W.Work.meaning.shape l) (arc_value c.args.work)) (sym opening) c.requires.fits

pub note-requires-clause-may : goal.note-requires-clause-may
note-requires-clause-may g c =
    let t = c.args.turn.now in
    may_request _ t.seat t.next c.in-Ok.entry c.work-asked.result.now c.requires.turn.placed

pub note-requires-clause-after : goal.note-requires-clause-after
note-requires-clause-after g c =
    let e = c.in-Ok.ensures in
    let is = asked_is _ _ _ _ _ e.plan e.entry c.work-asked.ensures.work in
    after_request _ _ _ _ c.in-Ok.entry c.args.turn.now.seat _ c.work-asked.result.now c.requires.after e.plan e.opening e.history e.entry is

pub returns-in-Ok-clause-turn : goal.returns-in-Ok-clause-turn
returns-in-Ok-clause-turn g c =
    let t = c.args.turn.now in
    in_turn_noting _ _ _ _ _ c.requires.turn (may_request _ t.seat t.next c.in-Ok.entry c.work-asked.result.now c.requires.turn.placed) c.note.ensures.known

pub returns-in-Ok-clause-after : goal.returns-in-Ok-clause-after
returns-in-Ok-clause-after g c =
    let e = c.in-Ok.ensures in
    let is = asked_is _ _ _ _ _ e.plan e.entry c.work-asked.ensures.work in
    subst (λ m. IsAfter m.0.start.machine c.request.new.self m.0.seen) (sym c.note.ensures.known) (after_request _ _ _ _ c.in-Ok.entry c.args.turn.now.seat _ c.work-asked.result.now c.requires.after e.plan e.opening e.history e.entry is)

pub returns-in-Ok-clause-noted : goal.returns-in-Ok-clause-noted
returns-in-Ok-clause-noted g c =
    let e = c.in-Ok.ensures in
    let t = c.args.turn.now in
    let is = asked_is _ _ _ _ _ e.plan e.entry c.work-asked.ensures.work in
    c.note.ensures.known ∙ ap (λ w. (noting t.place.me.0 (requested c.in-Ok.entry t.seat w), t.place.me.1)) is

pub returns-in-Ok-clause-plan : goal.returns-in-Ok-clause-plan
returns-in-Ok-clause-plan g c = ap length c.in-Ok.ensures.plan ∙ length-append c.args.turn.now.machine.plan (arc_value c.args.work ∷ [])
