use Rattle.std.proofs.Common.{rules, ◌≡◌, ◌∙◌, ap, sym, ℤ, List, pos, ◌*ℤ◌, to_z, of_z, w32}
use Rattle.pooma_domain.specs.Neighbours.{moved_along}
use Rattle.pooma_view.proofs.FirstAlong.{cells_in_line}
use Rattle.pooma_view.proofs.views.View.row.Goals as goal

pub returns-clause-cells : goal.returns-clause-cells
returns-clause-cells c k some =
    let stride_is : to_z w32 (of_z w32 c.first_along-axis.result.1) ≡ c.first_along-axis.result.1 = search rules in
    rw stride_is
    (cells_in_line c.args.self.now.slots c.first_along-axis.result.0 c.first_along-axis.result.1 c.args.p.now k c.first_along-axis.ensures.first c.requires some
    ∙ ap (λ (cell : List ℤ). moved_along c.first_along-axis.result.0 (c.first_along-axis.result.1 *ℤ pos k) cell) (sym c.cell.ensures))
