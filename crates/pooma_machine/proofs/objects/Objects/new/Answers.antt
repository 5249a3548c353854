use Rattle.std.proofs.Common.{Some, refl}
use Rattle.std.specs.Arc.{arc_value}
use Rattle.pooma_machine.specs.Slots.{content_in}
use Rattle.pooma_machine.proofs.Lending.{map_both}
use Rattle.pooma_machine.proofs.objects.Objects.new.Goals as goal

pub returns-in-Ok-clause-there : goal.returns-in-Ok-clause-there
returns-in-Ok-clause-there g c =
    rw c.shared.ensures (map_both (content_in g.W.Work.content) _ (λ content. Some content) (λ arc. g.W.Work.content (arc_value arc)) c.args.values.items (λ a. refl))
