use Rattle.std.proofs.Common.{◌≡◌, ◌<◌, ◌%◌, ◌^◌, ◌∙◌, arith, to_z, of_z, ◌≤◌, ◌-◌, ◌*◌, to_z-of_z, FitsSigned, w64, rules}
use Rattle.std.specs.Prelude.{unsigned_abs, int_rem}
use native.Mathlib.Nat.{mod-lt}
use Rattle.pooma_lanes.proofs.Factors.{times_back, left_is, rem_of}
use Rattle.pooma_lanes.proofs.divisor.Divisor.remainder.Goals as goal

pub overflow_mul-left : goal.overflow_mul-left
overflow_mul-left c =
    let n = c.unsigned_abs-size.result in
    let le = times_back n c.self.inside.size c.quotient.result (c.quotient.ensures ∙ c.self.invariant.3 n c.unsigned_abs-size.ensures.bound) in
    record { fits = omega (arith, le, c.unsigned_abs-size.ensures.bound) }

pub returns : goal.returns
returns c =
    let n = c.unsigned_abs-size.result in
    let s = c.self.inside.size in
    let is = left_is n s c.quotient.result (c.quotient.ensures ∙ c.self.invariant.3 n c.unsigned_abs-size.ensures.bound) in
    let at_most : s ≤ 2 ^ 63 = c.self.invariant.4 in
    let low : n % s < s = mod-lt n c.self.invariant.1 in
    let a = to_z w64 (of_z w64 c.args.a) in
    let both : n % s ≡ unsigned_abs a % unsigned_abs c.self.inside.number = λ i. c.unsigned_abs-size.ensures.value i % c.self.invariant.0 i in
    let fits : FitsSigned w64 c.signed.result = search rules in
    let left = n - c.quotient.result * s in
    let small : left < 2 ^ 63 = omega (arith, is, low, at_most) in
    to_z-of_z fits ∙ rem_of a c.self.inside.number left c.signed.result (is ∙ both) c.signed.ensures.negative c.signed.ensures.positive small
    ∙ (λ i. int_rem (to_z-of_z c.ranges.a i) (c.self.view_is i))
