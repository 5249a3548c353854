use Rattle.std.proofs.Common.{◌≡◌, ◌∙◌, List, Option, ap, subst, sym}
use Rattle.std.specs.Prelude.{All}
use Rattle.pooma_domain.specs.Cells.{Interval, IsOrdered}
use Rattle.pooma_view.specs.Slots.{positions_of}
use Rattle.pooma_stencil.specs.Stencils.{Stenciled, result_positions}
use Rattle.pooma_script.specs.Views.{positions_left}
use Rattle.pooma_check.proofs.apart.positions_read.Goals as goal

pub unwrap-requires : goal.unwrap-requires
unwrap-requires c =
    let positions = c.args.reading.now.positions in
    let Left : Option Stenciled → Type 0 = λ s. All IsOrdered (positions_left s positions) in
    let Leaves : List Interval → Type 0 = λ axes. All IsOrdered (result_positions c.in-Some.stencil.now axes) in
    let same : c.positions-positions.result ≡ positions =
    c.positions-positions.ensures ∙ ap (λ v. positions_of v.slots) c.view_read.ensures.view ∙ c.view_read.ensures.places in
    c.result.ensures.found.1 (subst Leaves (sym same) (subst Left (sym c.in-Some.ensures) c.requires.numbers.1))
