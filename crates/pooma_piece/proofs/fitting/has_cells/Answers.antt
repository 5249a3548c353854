use Rattle.std.proofs.Common.{◌≡◌, sym, subst, true, false, Bool, List, ℤ}
use Rattle.pooma_domain.specs.Cells.{cells_of, IsIn}
use Rattle.pooma_view.specs.Slots.{cell_named}
use Rattle.pooma_piece.specs.Lent.{is_in}
use Rattle.pooma_piece.proofs.Areas.{passes_in}
use Rattle.pooma_piece.proofs.Tests.{all_pass_more, not_in, one_fails}
use Rattle.pooma_piece.proofs.fitting.has_cells.Goals as goal

clash : {b : Bool} → b ≡ true → b ≡ false → ⊥
clash e f = cc

pub returns-then-not-contains : goal.returns-then-not-contains
returns-then-not-contains c =
    let area = c.args.area.now in
    let cell = cell_named c.args.view.now.slots c.cell_at-p.result in
    let none = λ (h : IsIn area cell). clash (c.contains.ensures.1 (subst (IsIn area) (sym c.cell.ensures) h)) c.if-not-contains.true in
    sym (one_fails (λ (p : List ℤ). is_in area (cell_named c.args.view.now.slots p)) (cells_of c.args.positions.now) c.loop-k.k c.cell_at-p.result c.cell_at-p.ensures.stands (not_in area cell none))

pub loop-k-preserved : goal.loop-k-preserved
loop-k-preserved c =
    let area = c.args.area.now in
    let cell = cell_named c.args.view.now.slots c.cell_at-p.result in
    all_pass_more (λ (p : List ℤ). is_in area (cell_named c.args.view.now.slots p)) (cells_of c.args.positions.now) c.loop-k.k c.cell_at-p.result c.cell_at-p.ensures.stands c.loop-k.invariant
    (passes_in area cell (subst (IsIn area) c.cell.ensures (c.contains.ensures.0 c.if-not-contains.false)))
