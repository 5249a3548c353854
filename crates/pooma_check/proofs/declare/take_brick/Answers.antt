use Rattle.std.proofs.Common.{◌≡◌, ◌≤◌, List, length, sym, ap, subst, ◌∙◌}
use Rattle.pooma_domain.specs.Cells.{Interval, cells_of}
use Rattle.pooma_field.specs.Shapes.{Shaped}
use Rattle.pooma_layout.specs.Patches.{total_of}
use Rattle.pooma_script.specs.Layouts.{axes_of}
use Rattle.pooma_script.proofs.Bricks.{total_of_brick}
use Rattle.pooma_check.proofs.declare.take_brick.Goals as goal

pub note_array-requires-clause-few_cells : goal.note_array-requires-clause-few_cells
note_array-requires-clause-few_cells c =
    let total : c.shape_over-shape.result.total ≡ axes_of c.args.domain.now =
    ap (λ (s : Shaped). s.total) c.shape_over-shape.ensures ∙ (ap total_of c.in_ok-layout.ensures ∙ total_of_brick (axes_of c.args.domain.now)) in
    subst (λ (axes : List Interval). length (cells_of axes) ≤ 4194304) (sym total) c.requires.few_cells
