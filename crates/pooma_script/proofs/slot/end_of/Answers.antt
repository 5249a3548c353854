use Rattle.std.proofs.Common.{◌≡◌, ◌-◌, ◌+ℤ◌, ◌*ℤ◌, FitsSigned, pos, rules, w32, w64, arith}
use Rattle.std.proofs.lemmas.Int.{ints, to_z-of_z}
use Rattle.pooma_script.proofs.Taken.{range_is_strided, range_way_fits}
use Rattle.pooma_script.proofs.slot.end_of.Goals as goal

pub product-requires : goal.product-requires
product-requires c =
    let f : FitsSigned w32 c.args.stride = search rules in
    let g : FitsSigned w64 c.args.stride = omega (arith, ints, f) in
    let h : FitsSigned w64 (pos (c.args.count - 1)) = omega (arith, ints, c.requires.few) in
    let way : FitsSigned w64 (c.args.stride *ℤ pos (c.args.count - 1)) =
    rw c.requires.counted (range_way_fits c.args.first c.args.last c.args.stride c.ranges.first c.ranges.last (rw (← c.requires.counted) c.requires.some)) in
    rw (c.from-2.ensures, c.one_less.ensures) (simp to_z-of_z way)

pub overflow_add-result : goal.overflow_add-result
overflow_add-result c =
    let f : FitsSigned w32 c.args.stride = search rules in
    let g : FitsSigned w64 c.args.stride = omega (arith, ints, f) in
    let h : FitsSigned w64 (pos (c.args.count - 1)) = omega (arith, ints, c.requires.few) in
    let f' : FitsSigned w32 c.args.first = search rules in
    let g' : FitsSigned w64 c.args.first = omega (arith, ints, f') in
    let way : FitsSigned w64 (c.args.stride *ℤ pos (c.args.count - 1)) =
    rw c.requires.counted (range_way_fits c.args.first c.args.last c.args.stride c.ranges.first c.ranges.last (rw (← c.requires.counted) c.requires.some)) in
    let end : FitsSigned w32 (c.args.first +ℤ c.args.stride *ℤ pos (c.args.count - 1)) =
    rw c.requires.counted (range_is_strided c.args.first c.args.last c.args.stride c.ranges.first c.ranges.last (rw (← c.requires.counted) c.requires.some)).2 in
    let step : c.product.result ≡ c.args.stride *ℤ pos (c.args.count - 1) = simp to_z-of_z at (rw (c.from-2.ensures, c.one_less.ensures) at c.product.ensures) in
    let base : c.from.result ≡ c.args.first = simp to_z-of_z at c.from.ensures in
    rw (base, step) (simp to_z-of_z (omega (arith, ints, end)))

pub returns : goal.returns
returns c =
    let f : FitsSigned w32 c.args.stride = search rules in
    let g : FitsSigned w64 c.args.stride = omega (arith, ints, f) in
    let h : FitsSigned w64 (pos (c.args.count - 1)) = omega (arith, ints, c.requires.few) in
    let f' : FitsSigned w32 c.args.first = search rules in
    let g' : FitsSigned w64 c.args.first = omega (arith, ints, f') in
    let way : FitsSigned w64 (c.args.stride *ℤ pos (c.args.count - 1)) =
    rw c.requires.counted (range_way_fits c.args.first c.args.last c.args.stride c.ranges.first c.ranges.last (rw (← c.requires.counted) c.requires.some)) in
    let end : FitsSigned w32 (c.args.first +ℤ c.args.stride *ℤ pos (c.args.count - 1)) =
    rw c.requires.counted (range_is_strided c.args.first c.args.last c.args.stride c.ranges.first c.ranges.last (rw (← c.requires.counted) c.requires.some)).2 in
    let whole : FitsSigned w64 (c.args.first +ℤ c.args.stride *ℤ pos (c.args.count - 1)) = omega (arith, ints, end) in
    let step : c.product.result ≡ c.args.stride *ℤ pos (c.args.count - 1) = simp to_z-of_z at (rw (c.from-2.ensures, c.one_less.ensures) at c.product.ensures) in
    let base : c.from.result ≡ c.args.first = simp to_z-of_z at c.from.ensures in
    rw (base, step) (simp to_z-of_z)
