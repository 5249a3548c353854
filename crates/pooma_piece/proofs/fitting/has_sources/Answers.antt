use Rattle.std.proofs.Common.{◌≡◌, ◌∙◌, ap, sym, subst, arith, ℕ, ℤ, Some, List, map, slice_get, get_or}
use Rattle.std.proofs.lemmas.Option.{slice_get-get_or}
use Rattle.pooma_field.specs.ShapeOf.{shape_of}
use Rattle.pooma_field.specs.Slabs.{cell_sources}
use Rattle.pooma_machine.specs.Slots.{contents}
use Rattle.pooma_piece.specs.Meaning.{content_of}
use Rattle.std.proofs.Common.{⊎_elim}
use Rattle.std.proofs.lemmas.Bool.{cases_lt}
use Rattle.std.proofs.lemmas.Option.{same_Some, slice_get_within}
use Rattle.std.specs.Option.{option_copied}
use Rattle.std.specs.Prelude.{option_map, true}
use Rattle.pooma_piece.specs.Lent.{has_one, lent_for}
use Rattle.pooma_piece.specs.Meaning.{area_of}
use Rattle.pooma_piece.proofs.Fillings.{all_there, one_missing, own_of, reads_of}
use Rattle.pooma_piece.proofs.fitting.has_sources.Goals as goal

pub source_at-s-requires-clause-field : goal.source_at-s-requires-clause-field
source_at-s-requires-clause-field c = (own_of c.args.piece.now c.args.shape.now c.args.slab.now c.args.array c.code-code.ensures.valid c.requires.task).0

pub source_at-s-requires-clause-inside : goal.source_at-s-requires-clause-inside
source_at-s-requires-clause-inside c =
    (own_of c.args.piece.now c.args.shape.now c.args.slab.now c.args.array c.code-code.ensures.valid c.requires.task).1 c.args.c.now c.requires.inside

pub source_at-s-requires-clause-there : goal.source_at-s-requires-clause-there
source_at-s-requires-clause-there c =
    let count = c.sources-place-end.ensures (shape_of c.args.shape.now) c.args.c.now in omega (arith, count, c.loop-place-test.true)

pub has_source-requires : goal.has_source-requires
has_source-requires c =
    let count = c.sources-place-end.ensures (shape_of c.args.shape.now) c.args.c.now in
    let as_many = reads_of c.args.piece.now c.args.shape.now c.args.slab.now c.args.array c.args.c.now c.code-code.ensures.valid c.requires.task in
    omega (arith, count, as_many, c.loop-place-test.true)

pub returns-then-not-has_source : goal.returns-then-not-has_source
returns-then-not-has_source c =
    let piece = c.args.piece.now in
    let shape = c.args.shape.now in
    let slab = c.args.slab.now in
    let written = option_map area_of (option_map content_of (option_copied c.args.write)) in
    let reads = map area_of (contents content_of c.args.reads.now) in
    let cells = cell_sources (shape_of shape) slab c.args.c.now in
    let own = own_of piece shape slab c.args.array c.code-code.ensures.valid c.requires.task in
    let count = c.sources-place-end.ensures (shape_of shape) c.args.c.now in
    let as_many = reads_of piece shape slab c.args.array c.args.c.now c.code-code.ensures.valid c.requires.task in
    let object : ℕ = get_or piece.reads c.loop-place.place 0 in
    let ok : slice_get piece.reads c.loop-place.place ≡ Some object = slice_get-get_or piece.reads c.loop-place.place 0 (omega (arith, count, as_many, c.loop-place-test.true)) in
    sym (one_missing piece written reads piece.reads cells c.loop-place.place object c.source_at-s.result ok c.source_at-s.ensures (sym (c.has_source.ensures object ok) ∙ c.if-not-has_source.true))

pub loop-place-preserved : goal.loop-place-preserved
loop-place-preserved c j object s below ok sk =
    let written = option_map area_of (option_map content_of (option_copied c.args.write)) in
    let reads = map area_of (contents content_of c.args.reads.now) in
    let cells = cell_sources (shape_of c.args.shape.now) c.args.slab.now c.args.c.now in
    ⊎_elim (λ h. c.loop-place.invariant j object s h ok sk)
    (λ h.
    let here : j ≡ c.loop-place.place = omega (arith, below, h) in
    let same : c.source_at-s.result ≡ s = same_Some _ _ (sym c.source_at-s.ensures ∙ ap (slice_get cells) (sym here) ∙ sk) in
    subst (λ (d : List ℤ). has_one (lent_for c.args.piece.now written reads object) d ≡ true) same
    (sym (c.has_source.ensures object (ap (slice_get c.args.piece.now.reads) (sym here) ∙ ok)) ∙ c.if-not-has_source.false))
    (cases_lt j c.loop-place.place)

pub returns : goal.returns
returns c =
    let piece = c.args.piece.now in
    let shape = c.args.shape.now in
    let slab = c.args.slab.now in
    let written = option_map area_of (option_map content_of (option_copied c.args.write)) in
    let reads = map area_of (contents content_of c.args.reads.now) in
    let cells = cell_sources (shape_of shape) slab c.args.c.now in
    let own = own_of piece shape slab c.args.array c.code-code.ensures.valid c.requires.task in
    let count = c.sources-place-end.ensures (shape_of shape) c.args.c.now in
    let as_many = reads_of piece shape slab c.args.array c.args.c.now c.code-code.ensures.valid c.requires.task in
    sym (all_there piece written reads piece.reads cells
    (λ j object s ok sk. c.loop-place.invariant j object s (omega (arith, count, slice_get_within cells j s sk, c.loop-place-test.false)) ok sk))
