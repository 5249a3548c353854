use Rattle.std.proofs.Common.{◌≡◌, ◌∙◌, ap, sym, subst, arith, rules, to_z, of_z, w64, ℤ, Some, Ok, Err, List, length, slice_get}
use Rattle.pooma_domain.specs.Cells.{Interval, cells_of, IsIn}
use Rattle.pooma_field.specs.Numbered.{with_number}
use Rattle.pooma_machine.specs.Slots.{contents}
use Rattle.pooma_piece.specs.Meaning.{content_of}
use Rattle.pooma_piece.proofs.Apart.{HasLaws}
use Rattle.pooma_piece.proofs.Steps.{IsSetUpTo, answer_at_end, answer_at_fault, cell_of_target, content_at_end, content_at_fault, one_more_numbered, one_more_set, position_of_target, sees_there, state, value_is}
use Rattle.pooma_piece.proofs.run.assign.Goals as goal
use Rattle.pooma_piece.proofs.run.assign.Goals.{After-cell_at-p, At-loop-k}

-- how far the patch and the values have come
set_so_far : (c : At-loop-k) → IsSetUpTo c.args.piece.now c.args.target.now c.args.patch.now.content c.loop-k.patch.content (contents content_of c.args.reads.now) c.loop-k.k
set_so_far c =
    let laws : HasLaws = record { kept = c.numbers_of_cells.ensures.all_kept; cells = record { members = c.order_of_cells.ensures.members; once = c.order_of_cells.ensures.once; ascending = c.order_of_cells.ensures.ascending } } in
    state laws c.numbers_of_cells.ensures.area c.args.piece.now c.args.target.now c.args.patch.now.content c.loop-k.patch.content (contents content_of c.args.reads.now) c.loop-k.k c.code-code.ensures.valid c.requires.task c.requires.fits c.area-area.ensures.full
    c.loop-k.invariant.content c.loop-k.invariant.numbers

-- which position is next
here : (c : After-cell_at-p) → slice_get (cells_of c.args.piece.now.positions) c.loop-k.k ≡ Some c.cell_at-p.result
here c = subst (λ (box : List Interval). slice_get (cells_of box) c.loop-k.k ≡ Some c.cell_at-p.result) c.positions-positions.ensures c.cell_at-p.ensures.stands

pub value_at-requires-clause-there : goal.value_at-requires-clause-there
value_at-requires-clause-there c =
    let at = goal.at.value_at-requires-clause-there c in
    sees_there _ _ _ _ _ _ (set_so_far at.At-loop-k) c.cell_at-p.result (here at.After-cell_at-p)

pub cell-requires : goal.cell-requires
cell-requires c =
    let at = goal.at.cell-requires c in
    let inside = subst (λ (box : List Interval). IsIn box c.cell_at-p.result) c.positions-positions.ensures c.cell_at-p.ensures.inside in
    position_of_target _ _ _ _ _ _ (set_so_far at.At-loop-k) c.cell_at-p.result inside

pub set-requires-clause-inside : goal.set-requires-clause-inside
set-requires-clause-inside c =
    let at = goal.at.set-requires-clause-inside c in
    subst (λ (cell : List ℤ). IsIn c.loop-k.patch.content.area cell) (sym c.cell.ensures) (cell_of_target _ _ _ _ _ _ (set_so_far at.At-loop-k) c.cell_at-p.result (here at.After-cell_at-p))

pub returns-in-Err-clause-content : goal.returns-in-Err-clause-content
returns-in-Err-clause-content c =
    let at = goal.at.returns-in-Err-clause-content c in
    let is = value_is _ _ _ _ _ _ (set_so_far at.At-loop-k) c.cell_at-p.result (here at.After-cell_at-p) (Err c.in-Err.kind) c.in-Err.ensures in
    content_at_fault _ _ _ _ _ _ (set_so_far at.At-loop-k) c.cell_at-p.result (here at.After-cell_at-p) c.in-Err.kind is

pub returns-in-Err-clause-outcome : goal.returns-in-Err-clause-outcome
returns-in-Err-clause-outcome c =
    let at = goal.at.returns-in-Err-clause-outcome c in
    let is = value_is _ _ _ _ _ _ (set_so_far at.At-loop-k) c.cell_at-p.result (here at.After-cell_at-p) (Err c.in-Err.kind) c.in-Err.ensures in
    answer_at_fault _ _ _ _ _ _ (set_so_far at.At-loop-k) c.cell_at-p.result (here at.After-cell_at-p) c.in-Err.kind is

pub returns-in-Err-clause-area : goal.returns-in-Err-clause-area
returns-in-Err-clause-area c = (set_so_far (goal.at.returns-in-Err-clause-area c).At-loop-k).area

pub loop-k-preserved : goal.loop-k-preserved
loop-k-preserved c =
    let so_far = set_so_far (goal.at.loop-k-preserved c).At-loop-k in
    let next = here (goal.at.loop-k-preserved c).After-cell_at-p in
    let p = c.cell_at-p.result in
    let is = value_is _ _ _ _ _ _ so_far p next (Ok c.in-Ok.x) c.in-Ok.ensures in
    let bare : to_z w64 (of_z w64 c.in-Ok.x) ≡ c.in-Ok.x = search rules in
    let now = c.loop-k.patch.content in
    record {
      content = c.set.ensures.content ∙ ap (λ (n : ℤ). with_number now c.cell.result n) bare ∙ ap (λ (cell : List ℤ). with_number now cell c.in-Ok.x) c.cell.ensures ∙ one_more_set _ _ _ _ _ _ so_far p next c.in-Ok.x is;
      numbers = one_more_numbered _ _ _ _ _ _ so_far p next c.in-Ok.x is;
      writable = c.set.ensures.writable;
    }

-- the positions are counted once
count_is : (c : At-loop-k) → c.count-k-end.result ≡ length (cells_of c.args.piece.now.positions)
count_is c = c.count-k-end.ensures.value ∙ ap (λ (box : List Interval). length (cells_of box)) c.positions-positions.ensures

pub returns-clause-content : goal.returns-clause-content
returns-clause-content c =
    let at = (goal.at.returns-clause-content c).At-loop-k in
    content_at_end _ _ _ _ _ _ (set_so_far at) (omega (arith, count_is at, c.loop-k-test.false))

pub returns-clause-outcome : goal.returns-clause-outcome
returns-clause-outcome c =
    let at = (goal.at.returns-clause-outcome c).At-loop-k in
    answer_at_end _ _ _ _ _ _ (set_so_far at) (omega (arith, count_is at, c.loop-k-test.false))

pub returns-clause-area : goal.returns-clause-area
returns-clause-area c = (set_so_far (goal.at.returns-clause-area c).At-loop-k).area
