use Rattle.std.proofs.Common.{◌≡◌, ◌∙◌, sym, subst, ℤ, Some, List, map, slice_get}
use Rattle.pooma_domain.specs.Cells.{Interval, cells_of, IsIn}
use Rattle.pooma_field.specs.ShapeOf.{shape_of}
use Rattle.pooma_field.specs.Slabs.{cell_sources}
use Rattle.pooma_machine.specs.Slots.{contents}
use Rattle.pooma_piece.specs.Meaning.{content_of}
use Rattle.std.specs.Option.{option_copied}
use Rattle.std.specs.Prelude.{option_map}
use Rattle.pooma_piece.specs.Lent.{have_sources}
use Rattle.pooma_piece.specs.Meaning.{area_of}
use Rattle.pooma_piece.proofs.Tests.{all_pass_more, one_fails}
use Rattle.pooma_piece.proofs.fitting.all_have_sources.Goals as goal

pub has_sources-requires-clause-inside : goal.has_sources-requires-clause-inside
has_sources-requires-clause-inside c =
    subst (λ (box : List Interval). IsIn box c.cell_at-c.result) c.positions-positions.ensures c.cell_at-c.ensures.inside

pub returns-then-not-has_sources : goal.returns-then-not-has_sources
returns-then-not-has_sources c =
    let piece = c.args.piece.now in
    let written = option_map area_of (option_map content_of (option_copied c.args.write)) in
    let reads = map area_of (contents content_of c.args.reads.now) in
    let test = λ (d : List ℤ). have_sources piece written reads piece.reads (cell_sources (shape_of c.args.shape.now) c.args.slab.now d) in
    let at = subst (λ (box : List Interval). slice_get (cells_of box) c.loop-k.k ≡ Some c.cell_at-c.result) c.positions-positions.ensures c.cell_at-c.ensures.stands in
    sym (one_fails test (cells_of piece.positions) c.loop-k.k c.cell_at-c.result at (sym c.has_sources.ensures ∙ c.if-not-has_sources.true))

pub loop-k-preserved : goal.loop-k-preserved
loop-k-preserved c =
    let piece = c.args.piece.now in
    let written = option_map area_of (option_map content_of (option_copied c.args.write)) in
    let reads = map area_of (contents content_of c.args.reads.now) in
    let test = λ (d : List ℤ). have_sources piece written reads piece.reads (cell_sources (shape_of c.args.shape.now) c.args.slab.now d) in
    let at = subst (λ (box : List Interval). slice_get (cells_of box) c.loop-k.k ≡ Some c.cell_at-c.result) c.positions-positions.ensures c.cell_at-c.ensures.stands in
    all_pass_more test (cells_of piece.positions) c.loop-k.k c.cell_at-c.result at c.loop-k.invariant (sym c.has_sources.ensures ∙ c.if-not-has_sources.false)
