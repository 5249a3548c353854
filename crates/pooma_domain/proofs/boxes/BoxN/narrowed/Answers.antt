use Rattle.std.proofs.Common.{◌≢◌, arith}
use Rattle.pooma_domain.specs.Axes.{interval_of}
use Rattle.pooma_domain.proofs.PaddedMoves.{narrow_first, narrow_second, narrow_third}
use Rattle.pooma_domain.proofs.boxes.BoxN.narrowed.Goals as goal

pub invariant_of-t-5 : goal.invariant_of-t-5
invariant_of-t-5 c =
    rw (c.of-span.ensures.first, c.of-span.ensures.last)
    (narrow_first _ _ _ _ _ (interval_of c.args.axis) _ c.self.invariant c.self.view_is c.requires.there c.in-0.is c.of-span.ensures.valid c.requires.within).0

pub invariant_of-t-5-in-1 : goal.invariant_of-t-5-in-1
invariant_of-t-5-in-1 c =
    rw (c.of-span.ensures.first, c.of-span.ensures.last)
    (narrow_second _ _ _ _ _ (interval_of c.args.axis) _ c.self.invariant c.self.view_is c.requires.there c.in-1.is c.of-span.ensures.valid c.requires.within).0

pub invariant_of-result : goal.invariant_of-result
invariant_of-result c =
    let not_first : c.args.n ≢ 0 = λ e. omega (arith, c.in_default) in
    let not_second : c.args.n ≢ 1 = λ e. omega (arith, c.in_default) in
    rw (c.of-span.ensures.first, c.of-span.ensures.last)
    (narrow_third _ _ _ _ _ (interval_of c.args.axis) _ c.self.invariant c.self.view_is c.requires.there not_first not_second c.of-span.ensures.valid c.requires.within).0
