use Rattle.std.proofs.Common.{◌∙◌, List, ap, subst}
use Rattle.std.specs.Prelude.{◌↔◌, All, IsTrue}
use Rattle.pooma_domain.specs.Cells.{Interval, IsOrdered}
use Rattle.pooma_stencil.specs.Stencils.{shrunk}
use Rattle.pooma_script.specs.Views.{positions_left}
use Rattle.pooma_script.proofs.places.leaves_some.Goals as goal

pub returns-in-None : goal.returns-in-None
returns-in-None c =
    let Same : List Interval → Type 0 = λ axes. IsTrue c.all_take_some.result ↔ All IsOrdered axes in
    subst Same (c.subs.ensures.positions ∙ ap (λ s. positions_left s c.args.reading.now.positions) c.in-None.ensures) c.all_take_some.ensures

pub returns-in-Some : goal.returns-in-Some
returns-in-Some c =
    let Same : List Interval → Type 0 = λ axes. IsTrue c.has_room.result ↔ All IsOrdered axes in
    subst Same (ap (λ axes. shrunk axes c.lower.result.now c.upper.result.now) c.subs-in-Some.ensures.positions
    ∙ ap (λ l. shrunk c.args.reading.now.positions l c.upper.result.now) c.lower.ensures
    ∙ ap (λ l. shrunk c.args.reading.now.positions c.in-Some.stencil.now.lower l) c.upper.ensures
    ∙ ap (λ s. positions_left s c.args.reading.now.positions) c.in-Some.ensures) c.has_room.ensures
