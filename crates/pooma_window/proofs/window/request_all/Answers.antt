use Rattle.std.proofs.Common.{◌≡◌, ◌∷◌, ◌++◌, [], length, map, sym, ◌∙◌, ap, append_assoc}
use Rattle.std.specs.Arc.{arc_value}
use Rattle.std.specs.Vec.Iter.{into_iter_items}
use Rattle.std.proofs.lemmas.List.{map-append, length-map}
use Rattle.pooma_machine.specs.Values.{asks_of}
use Rattle.pooma_machine.specs.Machine.{FitsShapes}
use Rattle.pooma_window.specs.Windows.{AsksWithin}
use Rattle.pooma_window.proofs.Lists.{all_among}
use Rattle.pooma_window.proofs.Growth.{run_issued}
use Rattle.pooma_window.proofs.window.request_all.Goals as goal

pub request-requires-clause-objects : goal.request-requires-clause-objects
request-requires-clause-objects g c =
    let each = rw (c.loop-work.invariant.rest ∙ ap (λ rest. c.loop-work.yielded ++ rest) c.in-Some.ensures.steps.0) at c.requires.objects in
    rw c.loop-work.invariant.opening (all_among (AsksWithin g.W.Work.meaning (length c.args.machine.now.opening)) arc_value c.loop-work.yielded c.in-Some.work (into_iter_items c.next.new.self) each)

pub request-requires-clause-fits : goal.request-requires-clause-fits
request-requires-clause-fits g c =
    let each = rw (c.loop-work.invariant.rest ∙ ap (λ rest. c.loop-work.yielded ++ rest) c.in-Some.ensures.steps.0) at c.requires.fits in
    rw c.loop-work.invariant.opening (all_among (FitsShapes g.W.Work.meaning (map g.W.Work.meaning.shape c.args.machine.now.opening)) arc_value c.loop-work.yielded c.in-Some.work (into_iter_items c.next.new.self) each)

pub loop-work-preserved : goal.loop-work-preserved
loop-work-preserved g c =
    let number : length c.loop-work.machine.plan ≡ length (asks_of g.W.Work.meaning c.loop-work.machine.plan) = sym (length-map c.loop-work.machine.plan g.W.Work.meaning.requests) in
    let issued = run_issued (asks_of g.W.Work.meaning c.loop-work.machine.plan) (g.W.Work.meaning.requests (arc_value c.in-Some.work)) c.loop-work.machine.history (length c.loop-work.machine.plan) number c.loop-work.invariant.run in
    record {
      plan = c.in-Ok.ensures.plan ∙ (ap (λ plan. plan ++ arc_value c.in-Some.work ∷ []) c.loop-work.invariant.plan ∙ sym (map-append arc_value c.loop-work.yielded (c.in-Some.work ∷ [])));
      opening = c.in-Ok.ensures.opening ∙ c.loop-work.invariant.opening;
      run = rw (c.in-Ok.ensures.plan, c.in-Ok.ensures.history, map-append g.W.Work.meaning.requests c.loop-work.machine.plan (arc_value c.in-Some.work ∷ [])) issued;
      rest = c.loop-work.invariant.rest ∙ (ap (λ rest. c.loop-work.yielded ++ rest) c.in-Some.ensures.steps.0 ∙ sym (append_assoc c.loop-work.yielded (c.in-Some.work ∷ []) (into_iter_items c.next.new.self)));
    }
