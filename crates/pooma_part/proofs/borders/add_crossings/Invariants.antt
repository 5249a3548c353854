use Rattle.std.proofs.Common.{ℤ, ◌⊎◌, take}
use Rattle.std.specs.Prelude.{◌↔◌, Any, Contains}
use Rattle.pooma_domain.specs.Axes.{interval_of}
use Rattle.pooma_part.specs.Crossing.{IsCrossing, IsInner}
use Rattle.pooma_part.proofs.borders.add_crossings.Given as goal

abbrev pub invariant-loop-border : goal.invariant-loop-border
invariant-loop-border l =
    (j : ℤ) → Contains l.places.items j
    ↔ (Contains l.initial.places.items j ⊎ (IsInner (interval_of l.axis) j × Any (λ border. IsCrossing l.numbers border j) (take l.border-index l.borders)))
