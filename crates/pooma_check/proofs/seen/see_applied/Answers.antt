use Rattle.std.proofs.Common.{◌≡◌, List, ap, subst, ◌∙◌}
use Rattle.pooma_domain.specs.Cells.{Interval, IsBox}
use Rattle.pooma_stencil.specs.Stencils.{result_positions}
use Rattle.pooma_view.specs.Slots.{positions_of}
use Rattle.pooma_check.proofs.Sights.{few_left}
use Rattle.pooma_check.proofs.seen.see_applied.Goals as goal

pub returns-clause-parts : goal.returns-clause-parts
returns-clause-parts c = c.values_of_expansions.ensures.parts c.args.stencil.now c.args.view.now c.args.area.now c.dims-dims.ensures.valid
    (record { positions = c.requires.few.box; dims = c.requires.dims; room = c.requires.room }) c.dims-area.ensures.valid c.requires.inside

pub returns-clause-few : goal.returns-clause-few
returns-clause-few c =
    let positions = positions_of c.args.view.now.slots in
    let left : c.unwrap-left.result ≡ result_positions c.args.stencil.now positions =
    (rw c.unwrap-left.ensures at c.result.ensures.value) ∙ ap (result_positions c.args.stencil.now) c.positions.ensures in
    few_left c.order_of_cells.ensures.counted c.args.stencil.now positions c.dims-dims.ensures.valid c.requires.dims c.requires.few (subst (λ (b : List Interval). IsBox b) left c.dims-left.ensures.valid)
