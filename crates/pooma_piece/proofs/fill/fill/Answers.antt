use Rattle.std.proofs.Common.{◌≡◌, ◌≤◌, ◌∙◌, ap, subst, arith, to_z, of_z, w64, Some, List, length, slice_get}
use Rattle.std.proofs.lemmas.Int.{ints}
use Rattle.pooma_domain.specs.Cells.{Interval, cells_of, IsIn}
use Rattle.pooma_machine.specs.Slots.{contents}
use Rattle.pooma_piece.specs.Meaning.{content_of}
use Rattle.pooma_piece.proofs.Apart.{HasLaws}
use Rattle.pooma_piece.proofs.Fillings.{HasSlabs, IsFilledUpTo, filled_as_old, filled_at_end, filled_up_to, one_more_filled, set_there, sources_there}
use Rattle.pooma_piece.proofs.fill.fill.Goals as goal
use Rattle.pooma_piece.proofs.fill.fill.Goals.{After-cell_at-c, At-loop-k}

-- how far the patch has come
filled_so_far : (c : At-loop-k) → IsFilledUpTo c.args.piece.now c.args.shape.now c.args.slab.now c.args.array c.args.patch.now.content c.loop-k.patch.content (contents content_of c.args.reads.now) c.loop-k.k
filled_so_far c =
    let laws : HasLaws = record { kept = c.numbers_of_cells.ensures.all_kept; cells = record { members = c.order_of_cells.ensures.members; once = c.order_of_cells.ensures.once; ascending = c.order_of_cells.ensures.ascending } } in
    let slabs : HasSlabs = record { sources = c.slabs_in_order.ensures.sources; earlier = c.slabs_in_order.ensures.earlier } in
    filled_up_to laws slabs c.numbers_of_cells.ensures.area c.args.piece.now c.args.shape.now c.args.slab.now c.args.array c.args.patch.now.content c.loop-k.patch.content (contents content_of c.args.reads.now) c.loop-k.k c.code-code.ensures.valid c.requires.task c.requires.fits c.area-area.ensures.full
    c.loop-k.invariant.content

-- which cell is next
here : (c : After-cell_at-c) → slice_get (cells_of c.args.piece.now.positions) c.loop-k.k ≡ Some c.cell_at-c.result
here c = subst (λ (box : List Interval). slice_get (cells_of box) c.loop-k.k ≡ Some c.cell_at-c.result) c.positions-positions.ensures c.cell_at-c.ensures.stands

inside : (c : After-cell_at-c) → IsIn c.args.piece.now.positions c.cell_at-c.result
inside c = subst (λ (box : List Interval). IsIn box c.cell_at-c.result) c.positions-positions.ensures c.cell_at-c.ensures.inside

pub filled-x-requires-clause-inside : goal.filled-x-requires-clause-inside
filled-x-requires-clause-inside c = inside (goal.at.filled-x-requires-clause-inside c).After-cell_at-c

pub filled-x-requires-clause-there : goal.filled-x-requires-clause-there
filled-x-requires-clause-there c =
    let at = goal.at.filled-x-requires-clause-there c in
    sources_there _ _ _ _ _ _ _ _ (filled_so_far at.At-loop-k) c.cell_at-c.result (here at.After-cell_at-c)

pub set-requires-clause-inside : goal.set-requires-clause-inside
set-requires-clause-inside c =
    let at = goal.at.set-requires-clause-inside c in
    set_there _ _ _ _ _ _ _ _ (filled_so_far at.At-loop-k) c.cell_at-c.result (here at.After-cell_at-c)

pub loop-k-preserved : goal.loop-k-preserved
loop-k-preserved c =
    let at = goal.at.loop-k-preserved c in
    let so_far = filled_so_far at.At-loop-k in
    let cell = c.cell_at-c.result in
    let bare : to_z w64 (of_z w64 c.filled-x.result) ≡ c.filled-x.result = omega (arith, ints) in
    record {
      content = c.set.ensures.content ∙ one_more_filled _ _ _ _ _ _ _ _ so_far cell (here at.After-cell_at-c) _ (bare ∙ c.filled-x.ensures ∙ filled_as_old _ _ _ _ _ _ _ _ so_far cell (inside at.After-cell_at-c));
      writable = c.set.ensures.writable;
    }

pub returns-clause-content : goal.returns-clause-content
returns-clause-content c =
    let at = (goal.at.returns-clause-content c).At-loop-k in
    let count : c.count-k-end.result ≡ length (cells_of c.args.piece.now.positions) = c.count-k-end.ensures.value ∙ ap (λ (box : List Interval). length (cells_of box)) c.positions-positions.ensures in
    let end : length (cells_of c.args.piece.now.positions) ≤ c.loop-k.k = omega (arith, count, c.loop-k-test.false) in
    filled_at_end _ _ _ _ _ _ _ _ (filled_so_far at) end

pub returns-clause-area : goal.returns-clause-area
returns-clause-area c = (filled_so_far (goal.at.returns-clause-area c).At-loop-k).area
