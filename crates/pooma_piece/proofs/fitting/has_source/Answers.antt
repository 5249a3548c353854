use Rattle.std.proofs.Common.{◌∙◌, ap, map, Option, List}
use Rattle.std.specs.Option.{option_copied}
use Rattle.std.specs.Prelude.{option_map}
use Rattle.pooma_domain.specs.Cells.{Interval}
use Rattle.pooma_machine.specs.Slots.{contents}
use Rattle.pooma_piece.specs.Lent.{has_one}
use Rattle.pooma_piece.specs.Meaning.{area_of, content_of}
use Rattle.pooma_piece.proofs.Fillings.{one_in}
use Rattle.pooma_piece.proofs.Tests.{source_lent}
use Rattle.pooma_piece.proofs.fitting.has_source.Goals as goal

pub returns-in-Some : goal.returns-in-Some
returns-in-Some c object ok =
    let piece = c.args.piece.now in
    let written = option_map area_of (option_map content_of (option_copied c.args.write)) in
    let reads = map area_of (contents content_of c.args.reads.now) in
    one_in c.in-Some.area c.args.s.now c.contains.result c.contains.ensures
    ∙ ap (λ (o : Option (List Interval)). has_one o c.args.s.now) (c.in-Some.ensures ∙ source_lent piece written reads c.args.place object c.source_at.result ok c.source_at.ensures)

pub returns-in-None : goal.returns-in-None
returns-in-None c object ok =
    let piece = c.args.piece.now in
    let written = option_map area_of (option_map content_of (option_copied c.args.write)) in
    let reads = map area_of (contents content_of c.args.reads.now) in
    ap (λ (o : Option (List Interval)). has_one o c.args.s.now) (c.in-None.ensures ∙ source_lent piece written reads c.args.place object c.source_at.result ok c.source_at.ensures)
