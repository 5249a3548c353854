use Rattle.std.proofs.lemmas.Result.{IfOk-weaker}
use Rattle.pooma_machine.specs.Slots.{contents}
use Rattle.pooma_machine.proofs.Ends.{all_back, values_back}
use Rattle.pooma_machine.proofs.machine.Machine.finish.Goals as goal

pub into_values-requires : goal.into_values-requires
into_values-requires g c =
    all_back g.W.Work.meaning c.self.inside.table.plan _ c.self.inside.table.history c.self.inside.objects c.self.inside.outcomes.items c.self.invariant.0 (rw (← c.self.view_is) at c.requires)

pub returns : goal.returns
returns g c =
    rw (← c.self.view_is) (IfOk-weaker c.into_values.result _ _
    (λ objects all. values_back g.W.Work.meaning c.self.inside.table.plan _ c.self.inside.table.history c.self.inside.objects c.self.inside.outcomes.items (contents g.W.Work.content objects.items) c.self.invariant.0 all)
    c.into_values.ensures)
