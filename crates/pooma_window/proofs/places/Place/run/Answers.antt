use Rattle.std.proofs.Common.{sym, ◌∙◌}
use Rattle.pooma_window.proofs.Seated.{still_seated}
use Rattle.pooma_window.proofs.places.Place.run.Goals as goal

pub returns : goal.returns
returns g c =
    still_seated c.args.desk.now c.args.self.now c.with-2.inside.pass.value c.in-Some.pass c.work_loop-worked.result.pass
    (sym c.self.view_is ∙ (sym c.deref_mut.ensures.value ∙ (sym c.take.ensures.value ∙ c.in-Some.is)))
    (c.with-2.view_is ∙ c.with.ensures)
    c.requires c.work_loop-worked.ensures.works
