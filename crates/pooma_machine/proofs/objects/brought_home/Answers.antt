use Rattle.std.proofs.Common.{◌∙◌, ◌++◌, ap}
use Rattle.pooma_machine.specs.Slots.{content_in}
use Rattle.pooma_machine.proofs.Lending.{some_among}
use Rattle.pooma_machine.proofs.objects.brought_home.Goals as goal

pub into_shared-requires : goal.into_shared-requires
into_shared-requires g c =
    let there = rw (c.loop-slot.invariant.rest ∙ ap (λ rest. c.loop-slot.yielded ++ rest) c.in-Some.ensures.steps.0) at c.requires in
    some_among (content_in g.W.Work.content) c.loop-slot.yielded _ c.in-Some.slot there
