use Rattle.std.proofs.Common.{◌≡◌, ◌<◌, ◌∙◌, ap, sym, arith, to_z, of_z, w64, ℕ, Some, length, slice_get, get_or}
use Rattle.std.proofs.lemmas.Int.{ints}
use Rattle.std.proofs.lemmas.Option.{slice_get-get_or}
use Rattle.pooma_field.specs.ShapeOf.{shape_of}
use Rattle.pooma_field.specs.Slabs.{cell_sources}
use Rattle.pooma_machine.specs.Slots.{contents}
use Rattle.pooma_piece.specs.Meaning.{content_of}
use Rattle.pooma_piece.proofs.Fillings.{found_at, none_lent, number_lent, own_of, reads_of}
use Rattle.pooma_piece.proofs.Tests.{source_lent}
use Rattle.pooma_piece.specs.Lent.{number_in}
use Rattle.pooma_piece.proofs.fill.source_number.Goals as goal

pub returns-then-place-sources : goal.returns-then-place-sources
returns-then-place-sources c =
    let shape = c.args.shape.now in
    sym (none_lent c.args.piece.now (Some c.args.written.now.content) (contents content_of c.args.reads.now) c.args.piece.now.reads (cell_sources (shape_of shape) c.args.slab.now c.args.c.now) c.args.place
    (let count = c.sources.ensures (shape_of shape) c.args.c.now in omega (arith, count, c.if-place-sources.true)))

pub source_at-s-requires-clause-field : goal.source_at-s-requires-clause-field
source_at-s-requires-clause-field c = (own_of c.args.piece.now c.args.shape.now c.args.slab.now c.args.array c.code-code.ensures.valid c.requires.task).0

pub source_at-s-requires-clause-inside : goal.source_at-s-requires-clause-inside
source_at-s-requires-clause-inside c =
    (own_of c.args.piece.now c.args.shape.now c.args.slab.now c.args.array c.code-code.ensures.valid c.requires.task).1 c.args.c.now c.requires.inside

pub source_at-s-requires-clause-there : goal.source_at-s-requires-clause-there
source_at-s-requires-clause-there c =
    let count = c.sources.ensures (shape_of c.args.shape.now) c.args.c.now in omega (arith, count, c.if-place-sources.false)

pub source_at-from-requires : goal.source_at-from-requires
source_at-from-requires c =
    let count = c.sources.ensures (shape_of c.args.shape.now) c.args.c.now in
    let as_many = reads_of c.args.piece.now c.args.shape.now c.args.slab.now c.args.array c.args.c.now c.code-code.ensures.valid c.requires.task in
    omega (arith, count, as_many, c.if-place-sources.false)

pub number_at-requires : goal.number_at-requires
number_at-requires c =
    let piece = c.args.piece.now in
    let count = c.sources.ensures (shape_of c.args.shape.now) c.args.c.now in
    let as_many = reads_of piece c.args.shape.now c.args.slab.now c.args.array c.args.c.now c.code-code.ensures.valid c.requires.task in
    let within : c.args.place < length piece.reads = omega (arith, count, as_many, c.if-place-sources.false) in
    let object : ℕ = get_or piece.reads c.args.place 0 in
    let ok : slice_get piece.reads c.args.place ≡ Some object = slice_get-get_or piece.reads c.args.place 0 within in
    found_at piece (Some c.args.written.now.content) (contents content_of c.args.reads.now) c.args.place object c.source_at-from.result c.source_at-s.result ok c.source_at-from.ensures
    (c.requires.there c.args.place object c.source_at-s.result ok c.source_at-s.ensures)

pub returns : goal.returns
returns c =
    let piece = c.args.piece.now in
    let written = Some c.args.written.now.content in
    let reads = contents content_of c.args.reads.now in
    let count = c.sources.ensures (shape_of c.args.shape.now) c.args.c.now in
    let as_many = reads_of piece c.args.shape.now c.args.slab.now c.args.array c.args.c.now c.code-code.ensures.valid c.requires.task in
    let within : c.args.place < length piece.reads = omega (arith, count, as_many, c.if-place-sources.false) in
    let object : ℕ = get_or piece.reads c.args.place 0 in
    let ok : slice_get piece.reads c.args.place ≡ Some object = slice_get-get_or piece.reads c.args.place 0 within in
    let bare : to_z w64 (of_z w64 c.number_at.result) ≡ c.number_at.result = omega (arith, ints) in
    bare ∙ c.number_at.ensures
    ∙ ap (λ o. number_in o c.source_at-s.result) (source_lent piece written reads c.args.place object c.source_at-from.result ok c.source_at-from.ensures)
    ∙ sym (number_lent piece written reads piece.reads (cell_sources (shape_of c.args.shape.now) c.args.slab.now c.args.c.now) c.args.place object c.source_at-s.result ok c.source_at-s.ensures)
