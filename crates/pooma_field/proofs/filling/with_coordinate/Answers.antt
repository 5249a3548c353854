use Rattle.std.proofs.Common.{◌≡◌, ◌∙◌, ap, arith, ℤ, take, slice_set, to_z, of_z, w32}
use Rattle.std.proofs.lemmas.Int.{ints}
use Rattle.pooma_field.proofs.SourceCells.{front_is}
use Rattle.pooma_field.proofs.filling.with_coordinate.Goals as goal

pub returns : goal.returns
returns c =
    front_is c.args.c.now c.coordinates-coordinates.result c.front.result c.dims-dims.result c.args.axis c.args.x c.coordinates-coordinates.ensures c.dims-dims.ensures.value c.dims-dims.ensures.few c.requires
    (c.front.ensures ∙ ap (λ (y : ℤ). take c.dims-dims.result (slice_set c.coordinates-coordinates.result c.args.axis y)) (let same : to_z w32 (of_z w32 c.args.x) ≡ c.args.x = omega (arith, ints) in same))
