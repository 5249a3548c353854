use Rattle.std.proofs.Common.{◌≡◌, sym, true, false, Bool}
use Rattle.pooma_domain.specs.Cells.{cells_of, IsIn}
use Rattle.pooma_piece.specs.Lent.{is_in}
use Rattle.pooma_piece.proofs.Areas.{passes_in}
use Rattle.pooma_piece.proofs.Tests.{all_pass_more, not_in, one_fails}
use Rattle.pooma_piece.proofs.fitting.has_each.Goals as goal

clash : {b : Bool} → b ≡ true → b ≡ false → ⊥
clash e f = cc

pub returns-then-not-contains : goal.returns-then-not-contains
returns-then-not-contains c =
    let area = c.args.area.now in
    let none = λ (h : IsIn area c.cell_at.result). clash (c.contains.ensures.1 h) c.if-not-contains.true in
    sym (one_fails (is_in area) (cells_of c.args.cells.now) c.loop-k.k c.cell_at.result c.cell_at.ensures.stands (not_in area c.cell_at.result none))

pub loop-k-preserved : goal.loop-k-preserved
loop-k-preserved c =
    all_pass_more (is_in c.args.area.now) (cells_of c.args.cells.now) c.loop-k.k c.cell_at.result c.cell_at.ensures.stands c.loop-k.invariant
    (passes_in c.args.area.now c.cell_at.result (c.contains.ensures.0 c.if-not-contains.false))
