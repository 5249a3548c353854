use Rattle.std.proofs.Common.{◌≡◌, ◌∙◌, sym, ap, map, arith, get_or, length, ◌<◌, Some, Bool, []}
use Rattle.std.proofs.lemmas.Option.{slice_get-get_or}
use Rattle.std.specs.Option.{option_copied}
use Rattle.std.specs.Prelude.{◌&&◌, option_map, slice_get}
use Rattle.pooma_domain.specs.Cells.{cells_of}
use Rattle.pooma_view.specs.Views.{Viewed}
use Rattle.pooma_expr.specs.Trees.{views_of}
use Rattle.pooma_machine.specs.Slots.{contents}
use Rattle.pooma_piece.specs.Lent.{has_cells, lent_for, read_in, task_fits}
use Rattle.pooma_piece.specs.Meaning.{area_of, content_of}
use Rattle.pooma_piece.proofs.Tests.{all_pass_more, one_fails}
use Rattle.pooma_piece.proofs.piece.Piece.fits.Goals as goal

no_view : Viewed
no_view = record { array = 0; slots = [] }

pub returns-then-not-finds : goal.returns-then-not-finds
returns-then-not-finds c =
    let piece = c.args.self.now in
    let written = option_map area_of (option_map content_of (option_copied c.args.write)) in
    let reads = map area_of (contents content_of c.args.reads.now) in
    let views = views_of piece.code in
    let test = λ (v : Viewed). has_cells (lent_for piece written reads (read_in piece v)) v.slots (cells_of piece.positions) in
    let same = ap length (c.reads-k-end.ensures.views ∙ ap views_of c.code.ensures.tree) in
    let within : c.loop-k.k < length views = omega (arith, c.loop-k-test.true, same) in
    let view = get_or views c.loop-k.k no_view in
    let at : slice_get views c.loop-k.k ≡ Some view = slice_get-get_or views c.loop-k.k no_view within in
    sym (ap (λ (b : Bool). b && task_fits piece.task piece written reads) (one_fails test views c.loop-k.k view at (sym (c.finds.ensures view at) ∙ c.if-not-finds.true)))

pub loop-k-preserved : goal.loop-k-preserved
loop-k-preserved c =
    let piece = c.args.self.now in
    let written = option_map area_of (option_map content_of (option_copied c.args.write)) in
    let reads = map area_of (contents content_of c.args.reads.now) in
    let views = views_of piece.code in
    let test = λ (v : Viewed). has_cells (lent_for piece written reads (read_in piece v)) v.slots (cells_of piece.positions) in
    let same = ap length (c.reads-k-end.ensures.views ∙ ap views_of c.code.ensures.tree) in
    let within : c.loop-k.k < length views = omega (arith, c.loop-k-test.true, same) in
    let view = get_or views c.loop-k.k no_view in
    let at : slice_get views c.loop-k.k ≡ Some view = slice_get-get_or views c.loop-k.k no_view within in
    all_pass_more test views c.loop-k.k view at c.loop-k.invariant (sym (c.finds.ensures view at) ∙ c.if-not-finds.false)
