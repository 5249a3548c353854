use Rattle.std.proofs.Common.{◌≡◌, ℕ, ◌<◌, ℤ, true, map, Some, List}
use Rattle.std.specs.Option.{option_copied}
use Rattle.std.specs.Prelude.{option_map, slice_get}
use Rattle.pooma_field.specs.ShapeOf.{shape_of}
use Rattle.pooma_field.specs.Slabs.{cell_sources}
use Rattle.pooma_machine.specs.Slots.{contents}
use Rattle.pooma_piece.specs.Lent.{has_one, lent_for}
use Rattle.pooma_piece.specs.Meaning.{area_of, content_of}
use Rattle.pooma_piece.proofs.fitting.has_sources.Given as goal

-- the sources so far are there
abbrev pub invariant-loop-place : goal.invariant-loop-place
invariant-loop-place l =
    let written = option_map area_of (option_map content_of (option_copied l.write)) in
    let reads = map area_of (contents content_of l.reads) in
    (j : ℕ) (object : ℕ) (s : List ℤ) → j < l.place → slice_get l.piece.reads j ≡ Some object → slice_get (cell_sources (shape_of l.shape) l.slab l.c) j ≡ Some s
    → has_one (lent_for l.piece written reads object) s ≡ true
