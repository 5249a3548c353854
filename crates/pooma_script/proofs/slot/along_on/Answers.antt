use Rattle.std.proofs.Common.{◌≡◌, ◌∙◌, ◌-◌, ◌+ℤ◌, ◌*ℤ◌, FitsSigned, pos, refl, rules, sym, w32, w64, arith}
use Rattle.std.proofs.lemmas.Int.{ints, to_z-of_z}
use Rattle.pooma_domain.specs.Axes.{interval_of}
use Rattle.pooma_script.specs.Ends.{IsOn}
use Rattle.pooma_script.specs.Views.{count_to}
use Rattle.pooma_script.proofs.Heads.{not_true}
use Rattle.pooma_script.proofs.Taken.{ends_on_range, range_is_strided, too_many_on}
use Rattle.pooma_script.proofs.slot.along_on.Goals as goal

pub along-requires : goal.along-requires
along-requires c =
    let f : FitsSigned w32 c.args.first = search rules in
    let g : FitsSigned w32 c.args.last = search rules in
    let h : FitsSigned w32 c.args.stride = search rules in
    let count : c.count_to-count.result ≡ count_to c.args.first c.args.last c.args.stride = simp to_z-of_z at c.count_to-count.ensures in
    rw count (simp to_z-of_z (range_is_strided c.args.first c.args.last c.args.stride f g c.requires))

pub returns-then-count-ge-TOO_MANY-clause-found : goal.returns-then-count-ge-TOO_MANY-clause-found
returns-then-count-ge-TOO_MANY-clause-found c =
    let f : FitsSigned w32 c.args.first = search rules in
    let g : FitsSigned w32 c.args.last = search rules in
    let h : FitsSigned w32 c.args.stride = search rules in
    let count : c.count_to-count.result ≡ count_to c.args.first c.args.last c.args.stride = simp to_z-of_z at c.count_to-count.ensures in (
      λ t. absurd (not_true t),
      λ ends. absurd (too_many_on (interval_of c.args.axis) c.args.first c.args.last c.args.stride f g
          (omega (arith, ints, c.args.axis.low, c.args.axis.high)) (omega (arith, count)) ends),
    )

pub returns-then-not-inside-clause-found : goal.returns-then-not-inside-clause-found
returns-then-not-inside-clause-found c =
    let f : FitsSigned w32 c.args.first = search rules in
    let g : FitsSigned w32 c.args.last = search rules in
    let h : FitsSigned w32 c.args.stride = search rules in
    let f' : FitsSigned w64 c.args.first = omega (arith, ints, f) in
    let count : c.count_to-count.result ≡ count_to c.args.first c.args.last c.args.stride = simp to_z-of_z at c.count_to-count.ensures in
    let base : c.from.result ≡ c.args.first = simp to_z-of_z at c.from.ensures in
    let end : c.end_of-end.result ≡ c.args.first +ℤ c.args.stride *ℤ pos (count_to c.args.first c.args.last c.args.stride - 1) =
    rw count at (simp to_z-of_z at c.end_of-end.ensures) in
    let fits : FitsSigned w32 (c.args.first +ℤ c.args.stride *ℤ pos (count_to c.args.first c.args.last c.args.stride - 1)) =
    (range_is_strided c.args.first c.args.last c.args.stride f g c.requires).2 in
    let wide : FitsSigned w64 (c.args.first +ℤ c.args.stride *ℤ pos (count_to c.args.first c.args.last c.args.stride - 1)) = omega (arith, ints, fits) in (
      λ t. absurd (not_true t),
      λ ends.
          let on = (ends_on_range (interval_of c.args.axis) c.args.first c.args.last c.args.stride f g c.requires).0 ends in
          sym c.if-not-inside.true
          ∙ c.both-inside.ensures.1 (c.is_on.ensures.1 (rw base (simp to_z-of_z on.0)), c.is_on-2.ensures.1 (rw end (simp to_z-of_z on.1))),
    )

pub returns-clause-found : goal.returns-clause-found
returns-clause-found c =
    let f : FitsSigned w32 c.args.first = search rules in
    let g : FitsSigned w32 c.args.last = search rules in
    let h : FitsSigned w32 c.args.stride = search rules in
    let f' : FitsSigned w64 c.args.first = omega (arith, ints, f) in
    let count : c.count_to-count.result ≡ count_to c.args.first c.args.last c.args.stride = simp to_z-of_z at c.count_to-count.ensures in
    let base : c.from.result ≡ c.args.first = simp to_z-of_z at c.from.ensures in
    let end : c.end_of-end.result ≡ c.args.first +ℤ c.args.stride *ℤ pos (count_to c.args.first c.args.last c.args.stride - 1) =
    rw count at (simp to_z-of_z at c.end_of-end.ensures) in
    let fits : FitsSigned w32 (c.args.first +ℤ c.args.stride *ℤ pos (count_to c.args.first c.args.last c.args.stride - 1)) =
    (range_is_strided c.args.first c.args.last c.args.stride f g c.requires).2 in
    let wide : FitsSigned w64 (c.args.first +ℤ c.args.stride *ℤ pos (count_to c.args.first c.args.last c.args.stride - 1)) = omega (arith, ints, fits) in
    let on = c.both-inside.ensures.0 c.if-not-inside.false in
    let first_on : IsOn (interval_of c.args.axis) c.args.first = simp to_z-of_z at (rw base at (c.is_on.ensures.0 on.0)) in
    let last_on : IsOn (interval_of c.args.axis) (c.args.first +ℤ c.args.stride *ℤ pos (count_to c.args.first c.args.last c.args.stride - 1)) =
    simp to_z-of_z at (rw end at (c.is_on-2.ensures.0 on.1)) in (
      λ _. (ends_on_range (interval_of c.args.axis) c.args.first c.args.last c.args.stride f g c.requires).1 (first_on, last_on),
      λ _. refl,
    )

pub returns-clause-value : goal.returns-clause-value
returns-clause-value c =
    let f : FitsSigned w32 c.args.first = search rules in
    let g : FitsSigned w32 c.args.last = search rules in
    let h : FitsSigned w32 c.args.stride = search rules in
    let count : c.count_to-count.result ≡ count_to c.args.first c.args.last c.args.stride = simp to_z-of_z at c.count_to-count.ensures in
    rw count at (simp to_z-of_z at c.along.ensures)
