use Rattle.std.proofs.Common.{◌∙◌, sym, ap, map, Some}
use Rattle.std.specs.Arc.{arc_value}
use Rattle.std.specs.Option.{option_copied}
use Rattle.std.specs.Prelude.{option_map}
use Rattle.std.specs.declared.alloc.Global.{Global}
use Rattle.std.specs.declared.sync.Arc.{Arc}
use Rattle.pooma_machine.specs.Slots.{contents}
use Rattle.pooma_field.specs.Numbered.{Numbered}
use Rattle.pooma_patch.specs.Patched.{Patched}
use Rattle.pooma_piece.specs.declared.source.Source.{Source}
use Rattle.pooma_piece.specs.Meaning.{area_of, content_of}
use Rattle.pooma_piece.specs.Sources.{from_source}
use Rattle.pooma_piece.proofs.Tests.{made_at, made_past}
use Rattle.pooma_piece.proofs.fitting.area_at.Goals as goal

abbrev content : Arc Patched Global → Numbered
content arc = content_of (arc_value arc)

pub returns-then-place-reads : goal.returns-then-place-reads
returns-then-place-reads c =
    let written = option_map area_of (option_map content_of (option_copied c.args.write)) in
    let reads = map area_of (contents content_of c.args.reads.now) in
    let at = made_at content area_of c.args.reads.now c.in-Read.place c.index-reads-place.result c.if-place-reads.true c.index-reads-place.is in
    ap Some (c.area-then-place-reads.ensures.value ∙ ap (λ (patch : Patched). patch.content.area) c.deref-patch.ensures)
    ∙ sym at
    ∙ ap (λ (s : Source). from_source s written reads) (sym c.in-Read.is)

pub returns-else-place-reads : goal.returns-else-place-reads
returns-else-place-reads c =
    let written = option_map area_of (option_map content_of (option_copied c.args.write)) in
    let reads = map area_of (contents content_of c.args.reads.now) in
    sym (made_past content area_of c.args.reads.now c.in-Read.place c.if-place-reads.false)
    ∙ ap (λ (s : Source). from_source s written reads) (sym c.in-Read.is)
