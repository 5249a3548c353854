use Rattle.std.proofs.Common.{◌≡◌, ◌∙◌, arith, to_z, of_z, w64, Some}
use Rattle.std.proofs.lemmas.Int.{ints}
use Rattle.pooma_field.specs.ShapeOf.{shape_of}
use Rattle.pooma_field.specs.Slabs.{cell_sources}
use Rattle.pooma_machine.specs.Slots.{contents}
use Rattle.pooma_piece.specs.Meaning.{content_of}
use Rattle.pooma_piece.specs.Fills.{numbers_lent}
use Rattle.pooma_piece.proofs.Fillings.{own_of, value_alike}
use Rattle.pooma_piece.proofs.fill.filled.Goals as goal

pub value_at-requires-clause-field : goal.value_at-requires-clause-field
value_at-requires-clause-field c = (own_of c.args.piece.now c.args.shape.now c.args.slab.now c.args.array c.code-code.ensures.valid c.requires.task).0

pub value_at-requires-clause-inside : goal.value_at-requires-clause-inside
value_at-requires-clause-inside c =
    (own_of c.args.piece.now c.args.shape.now c.args.slab.now c.args.array c.code-code.ensures.valid c.requires.task).1 c.args.c.now c.requires.inside

pub returns : goal.returns
returns c =
    let piece = c.args.piece.now in
    let cells = cell_sources (shape_of c.args.shape.now) c.args.slab.now c.args.c.now in
    let numbers = numbers_lent piece (Some c.args.written.now.content) (contents content_of c.args.reads.now) piece.reads cells in
    let bare : to_z w64 (of_z w64 c.value_at.result) ≡ c.value_at.result = omega (arith, ints) in
    let first : to_z w64 (of_z w64 c.source_number-first.result) ≡ c.source_number-first.result = omega (arith, ints) in
    let second : to_z w64 (of_z w64 c.source_number-second.result) ≡ c.source_number-second.result = omega (arith, ints) in
    bare ∙ c.value_at.ensures ∙ value_alike (shape_of c.args.shape.now) c.args.slab.now c.args.c.now _ _ numbers (first ∙ c.source_number-first.ensures) (second ∙ c.source_number-second.ensures)
