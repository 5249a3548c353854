use Rattle.std.proofs.Common.{refl, ◌<◌, ◌≤◌, ◌*◌, ◌/◌, ◌-◌, ◌^◌, arith}
use Rattle.std.proofs.lemmas.Bool.{false≢true}
use Rattle.pooma_domain.specs.Axes.{interval_of}
use Rattle.pooma_domain.proofs.PaddedBox.{box_from_padded, volume}
use Rattle.pooma_domain.proofs.PaddedMoves.{three_box, quotient_tells, volume_of_box, length_along, product_some}
use Rattle.pooma_domain.proofs.boxes.BoxN.of3.Goals as goal

pub invariant_of-result : goal.invariant_of-result
invariant_of-result c =
    let fits : volume (interval_of c.args.a) (interval_of c.args.b) (interval_of c.args.c) < 2 ^ 63 =
    (quotient_tells (interval_of c.args.a) (interval_of c.args.b) (interval_of c.args.c) c.len.result c.len-2.result c.len-3.result
    (length_along _ _ _ c.len.ensures.value c.of-x.ensures.first c.of-x.ensures.last)
    (length_along _ _ _ c.len-2.ensures.value c.of-y.ensures.first c.of-y.ensures.last)
    (length_along _ _ _ c.len-3.ensures.value c.of-z.ensures.first c.of-z.ensures.last)
    (product_some _ _ c.len.ensures.some c.len-2.ensures.some)).0 c.if-len-layer.true in
    rw (c.of-x.ensures.first, c.of-x.ensures.last, c.of-y.ensures.first, c.of-y.ensures.last, c.of-z.ensures.first, c.of-z.ensures.last)
    (three_box (interval_of c.args.a) (interval_of c.args.b) (interval_of c.args.c) c.of-x.ensures.valid c.of-y.ensures.valid c.of-z.ensures.valid fits)

pub returns-then-len-layer-clause-found : goal.returns-then-len-layer-clause-found
returns-then-len-layer-clause-found c =
    let fits : volume (interval_of c.args.a) (interval_of c.args.b) (interval_of c.args.c) < 2 ^ 63 =
    (quotient_tells (interval_of c.args.a) (interval_of c.args.b) (interval_of c.args.c) c.len.result c.len-2.result c.len-3.result
    (length_along _ _ _ c.len.ensures.value c.of-x.ensures.first c.of-x.ensures.last)
    (length_along _ _ _ c.len-2.ensures.value c.of-y.ensures.first c.of-y.ensures.last)
    (length_along _ _ _ c.len-3.ensures.value c.of-z.ensures.first c.of-z.ensures.last)
    (product_some _ _ c.len.ensures.some c.len-2.ensures.some)).0 c.if-len-layer.true in (
      λ _. box_from_padded 3 (interval_of c.args.a) (interval_of c.args.b) (interval_of c.args.c)
          (three_box (interval_of c.args.a) (interval_of c.args.b) (interval_of c.args.c) c.of-x.ensures.valid c.of-y.ensures.valid c.of-z.ensures.valid fits),
      λ _. refl,
    )

pub returns-else-len-layer-clause-found : goal.returns-else-len-layer-clause-found
returns-else-len-layer-clause-found c = (
  λ h. absurd (false≢true h),
  λ h. absurd (
      let fits : c.len-3.result ≤ (2 ^ 63 - 1) / (c.len.result * c.len-2.result) =
      (quotient_tells (interval_of c.args.a) (interval_of c.args.b) (interval_of c.args.c) c.len.result c.len-2.result c.len-3.result
      (length_along _ _ _ c.len.ensures.value c.of-x.ensures.first c.of-x.ensures.last)
      (length_along _ _ _ c.len-2.ensures.value c.of-y.ensures.first c.of-y.ensures.last)
      (length_along _ _ _ c.len-3.ensures.value c.of-z.ensures.first c.of-z.ensures.last)
      (product_some _ _ c.len.ensures.some c.len-2.ensures.some)).1 (volume_of_box _ _ _ h) in
      omega (arith, fits, c.if-len-layer.false)),
)
