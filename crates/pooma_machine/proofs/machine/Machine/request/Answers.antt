use Rattle.std.proofs.Common.{◌∙◌, arith, [], ◌∷◌, length-append}
use Rattle.std.specs.Arc.{arc_value}
use Rattle.pooma_machine.proofs.Worth.{matches_request}
use Rattle.pooma_machine.proofs.machine.Machine.request.Goals as goal

pub invariant_of-self-2 : goal.invariant_of-self-2
invariant_of-self-2 g c =
    let e = c.in_ok-entry.ensures in
    let old = c.self.invariant.0 in
    let ranges = rw (← c.self.view_is) at c.requires.objects in
    let fits = rw (← c.self.view_is) at c.requires.fits in
    let room = c.in-Ok.ensures.ok in
    let count = old.outcomes_count in
    rw (e.plan, e.history, c.push_reserved.ensures.items, c.reserve.ensures.items) (
      matches_request g.W.Work.meaning c.self.inside.table.plan _ c.self.inside.table.history c.self.inside.objects c.self.inside.outcomes.items (arc_value c.args.work) c.args.seat old e.form fits ranges,
      e.objects ∙ c.self.invariant.1,
      omega (arith, length-append c.self.inside.table.plan (arc_value c.args.work ∷ []), e.spare, c.push_reserved.ensures.capacity, room, c.reserve.ensures.capacity, c.self.inside.outcomes.ok.0, c.self.invariant.2),
    )
