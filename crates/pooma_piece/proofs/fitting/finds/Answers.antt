use Rattle.std.proofs.Common.{◌∙◌, sym, ap, map, Option, Some, List}
use Rattle.std.proofs.lemmas.Option.{same_Some}
use Rattle.std.specs.Option.{option_copied}
use Rattle.std.specs.Prelude.{option_map}
use Rattle.pooma_domain.specs.Cells.{Interval, cells_of}
use Rattle.pooma_machine.specs.Slots.{contents}
use Rattle.pooma_view.specs.Views.{Viewed}
use Rattle.pooma_piece.specs.Lent.{has_cells}
use Rattle.pooma_piece.specs.Meaning.{area_of, content_of}
use Rattle.pooma_piece.proofs.Tests.{source_found}
use Rattle.pooma_piece.proofs.fitting.finds.Goals as goal

pub returns-in-Some : goal.returns-in-Some
returns-in-Some c view vk =
    let piece = c.args.piece.now in
    let written = option_map area_of (option_map content_of (option_copied c.args.write)) in
    let reads = map area_of (contents content_of c.args.reads.now) in
    let found = c.in-Some.ensures ∙ source_found piece written reads c.args.read view c.source_at.result c.code-code.ensures.valid vk c.source_at.ensures in
    c.has_cells.ensures
    ∙ ap (λ (box : List Interval). has_cells (Some c.in-Some.area) c.view_at-view.result.now.slots (cells_of box)) c.positions.ensures
    ∙ ap (λ (v : Viewed). has_cells (Some c.in-Some.area) v.slots (cells_of piece.positions)) (same_Some _ view (sym c.view_at-view.ensures ∙ vk))
    ∙ ap (λ (o : Option (List Interval)). has_cells o view.slots (cells_of piece.positions)) found

pub returns-in-None : goal.returns-in-None
returns-in-None c view vk =
    let piece = c.args.piece.now in
    let written = option_map area_of (option_map content_of (option_copied c.args.write)) in
    let reads = map area_of (contents content_of c.args.reads.now) in
    let found = c.in-None.ensures ∙ source_found piece written reads c.args.read view c.source_at.result c.code-code.ensures.valid vk c.source_at.ensures in
    ap (λ (o : Option (List Interval)). has_cells o view.slots (cells_of piece.positions)) found
