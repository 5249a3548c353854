-- Guard layers that a line leaves out.
use Rattle.std.proofs.Common.{◌≡◌, ◌<◌, ℤ, pos, ◌≤ℤ◌, List, [], ◌∷◌, length, refl, ◌∙◌, arith}
use Rattle.std.proofs.lemmas.Int.{ints}
use Rattle.std.proofs.lemmas.List.{length-map, length-replicate}
use Rattle.std.proofs.lemmas.List.Elements.{All-replicate}
use Rattle.std.specs.List.{AllZip}
use Rattle.std.specs.Prelude.{replicate}
use Rattle.pooma_domain.specs.Cells.{Interval, interval}
use Rattle.pooma_layout.specs.Axes.{IsCovering}
use Rattle.pooma_script.specs.declared.cause.LimitName.TheVariants as limit
use Rattle.pooma_script.specs.Layouts.{axes_of, layers}
use Rattle.pooma_script.specs.Tests.{AreFew}

-- no layers are few
pub none_are_few : (axes : List Interval) → AreFew limit.Guards (replicate (length axes) (pos 0))
none_are_few axes = All-replicate (λ n. (pos 0 ≤ℤ n) × (n ≤ℤ pos 8)) (length axes) (pos 0) (omega (arith, ints), omega (arith, ints))

-- and no more than an axis has numbers
pub none_are_covering : (axes : List Interval) → AllZip IsCovering axes (replicate (length axes) (pos 0))
none_are_covering [] = tt
none_are_covering (axis ∷ axes) = (omega (arith, ints), none_are_covering axes)

pub left_out_covers : (axes : List Interval) (list : List ℤ) → length list ≡ 0 → AllZip IsCovering axes (layers axes list)
left_out_covers axes [] h = none_are_covering axes
left_out_covers axes (n ∷ list) h = absurd (omega arith)

-- lists of layers that are left out fit, and those that are given have their own length
pub left_out_fit : (domain : List (ℤ × ℤ)) (list : List ℤ) → length list ≡ 0 → length (layers (axes_of domain) list) ≡ length domain
left_out_fit domain [] h = length-replicate (length (axes_of domain)) (pos 0) ∙ length-map domain (λ bounds. interval bounds.0 bounds.1)
left_out_fit domain (n ∷ list) h = absurd (omega arith)

pub given_fit : (domain : List (ℤ × ℤ)) (list : List ℤ) → 0 < length list → length (layers (axes_of domain) list) ≡ length list
given_fit domain [] h = absurd (omega arith)
given_fit domain (n ∷ list) h = refl
