use Rattle.std.proofs.Common.{◌∙◌, sym}
use Rattle.std.proofs.lemmas.List.{map-set}
use Rattle.pooma_machine.specs.Slots.{content_in}
use Rattle.pooma_machine.specs.declared.slot.Slot.TheVariants as slot
use Rattle.pooma_machine.proofs.objects.Objects.give_back.Goals as goal

pub returns-in-Some-Some : goal.returns-in-Some-Some
returns-in-Some-Some g c =
    rw (← c.self.view_is, sym c.written.ensures ∙ c.in-Some-Some.is-0, c.in-Some-Some.is-1) (map-set (content_in g.W.Work.content) c.self.inside.slots.items c.in-Some-Some.object (slot.Owned c.in-Some-Some.value))
