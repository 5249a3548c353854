use Rattle.std.proofs.Common.{◌<◌, ◌∙◌, ap, sym, subst}
use Rattle.pooma_desk.specs.Tokens.{Started}
use Rattle.pooma_window.proofs.Seated.{left_with_passes, left_with_workers, nothing_asked, plan_stays}
use Rattle.pooma_window.proofs.sharing.by_workers.Goals as goal

pub gathered-pass-requires-clause-passes : goal.gathered-pass-requires-clause-passes
gathered-pass-requires-clause-passes g c =
    let slice = c.as_mut_slice.ensures in
    left_with_passes c.args.desk.now c.in_ok-places.places.len c.in_ok-places.places.items c.as_mut_slice.result.now c.run_places.new.places slice.value slice.len c.run_places.ensures

pub returns-clause-plan : goal.returns-clause-plan
returns-clause-plan g c =
    let slice = c.as_mut_slice.ensures in
    let left = left_with_workers c.args.desk.now c.in_ok-places.places.len c.in_ok-places.places.items c.as_mut_slice.result.now c.run_places.new.places slice.value slice.len c.run_places.ensures in
    let done = c.work_loop-pass.result.pass in
    let works = c.work_loop-pass.ensures.works in
    let all = c.gathered-pass.ensures in
    let from = works.same.from ∙ (all.from ∙ sym c.requires.from) in
    let seats = ap (λ (s : Started _ _). s.seats) from ∙ c.requires.seats in
    plan_stays c.args.first.from done from (nothing_asked c.gathered-pass.result done c.args.workers works all.quiet
    (λ seat within. all.seats seat (left seat (c.in_ok-places.ensures.workers seat within)))
    (λ n there. subst (λ s. n.event.seat < s) seats (c.seat-seat.ensures.named n there)))
