use Rattle.std.proofs.Common.{arith, rules, ◌≡◌, pos, neg_ℤ, ◌-ℤ◌, ◌≤ℤ◌, to_z, of_z, w32, w64, FitsSigned}
use Rattle.std.proofs.lemmas.Int.{ints}
use Rattle.pooma_view.specs.Steps.{IsStriding}
use Rattle.pooma_view.proofs.Runs.{striding_fits}
use Rattle.pooma_view.proofs.common.common_ends.Goals as goal

pub returns-in_err-least-clause-between : goal.returns-in_err-least-clause-between
returns-in_err-least-clause-between c z h k =
    absurd (c.in_err-least.ensures.least z ((c.of.ensures z).1 h) ((c.of-2.ensures z).1 k))

pub returns-in_err-negative-clause-between : goal.returns-in_err-negative-clause-between
returns-in_err-negative-clause-between c z h k =
    let back : neg_ℤ (neg_ℤ z) ≡ z = omega (arith, ints) in
    absurd (c.in_err-negative.ensures.least (neg_ℤ z)
    ((c.mirrored.ensures (neg_ℤ z)).1 (rw back ((c.of.ensures z).1 h)))
    ((c.mirrored-2.ensures (neg_ℤ z)).1 (rw back ((c.of-2.ensures z).1 k))))

-- the least number, and the negative of the greatest one
least_of : (c : goal.In_ok-negative) → IsStriding c.args.a.first c.args.a.stride c.args.a.count c.in_ok-least.least × IsStriding c.args.b.first c.args.b.stride c.args.b.count c.in_ok-least.least
least_of c =
    ((c.of.ensures c.in_ok-least.least).0 c.in_ok-least.ensures.found.0, (c.of-2.ensures c.in_ok-least.least).0 c.in_ok-least.ensures.found.1)

greatest_of : (c : goal.In_ok-negative) → IsStriding c.args.a.first c.args.a.stride c.args.a.count (neg_ℤ c.in_ok-negative.negative) × IsStriding c.args.b.first c.args.b.stride c.args.b.count (neg_ℤ c.in_ok-negative.negative)
greatest_of c = (
  (c.of.ensures (neg_ℤ c.in_ok-negative.negative)).0 ((c.mirrored.ensures c.in_ok-negative.negative).0 c.in_ok-negative.ensures.found.0),
  (c.of-2.ensures (neg_ℤ c.in_ok-negative.negative)).0 ((c.mirrored-2.ensures c.in_ok-negative.negative).0 c.in_ok-negative.ensures.found.1),
)

least_fits : (c : goal.In_ok-negative) → FitsSigned w32 c.in_ok-least.least
least_fits c =
    let first_fits : FitsSigned w32 c.args.a.first = search rules in
    striding_fits _ _ _ _ first_fits c.args.a.fits (least_of c).0

greatest_fits : (c : goal.In_ok-negative) → FitsSigned w32 (neg_ℤ c.in_ok-negative.negative)
greatest_fits c =
    let first_fits : FitsSigned w32 c.args.a.first = search rules in
    striding_fits _ _ _ _ first_fits c.args.a.fits (greatest_of c).0

pub overflow_cast-result : goal.overflow_cast-result
overflow_cast-result c = let fits = least_fits c in omega (arith, ints, fits)

pub overflow_cast-result-2 : goal.overflow_cast-result-2
overflow_cast-result-2 c = let fits = greatest_fits c in omega (arith, ints, fits)

pub returns-clause-least : goal.returns-clause-least
returns-clause-least c =
    let fits = least_fits c in
    let is : to_z w32 (of_z w32 (to_z w64 (of_z w64 c.in_ok-least.least))) ≡ c.in_ok-least.least = omega (arith, ints, fits) in
    rw is (least_of c)

pub returns-clause-greatest : goal.returns-clause-greatest
returns-clause-greatest c =
    let fits = greatest_fits c in
    let is : to_z w32 (of_z w32 (to_z w64 (of_z w64 (pos 0 -ℤ to_z w64 (of_z w64 c.in_ok-negative.negative))))) ≡ neg_ℤ c.in_ok-negative.negative = omega (arith, ints, fits) in
    rw is (greatest_of c)

pub returns-clause-between : goal.returns-clause-between
returns-clause-between c z h k =
    let small = least_fits c in
    let large = greatest_fits c in
    let low : c.in_ok-least.least ≤ℤ z = c.in_ok-least.ensures.least z ((c.of.ensures z).1 h) ((c.of-2.ensures z).1 k) in
    let back : neg_ℤ (neg_ℤ z) ≡ z = omega (arith, ints) in
    let high : c.in_ok-negative.negative ≤ℤ neg_ℤ z =
    c.in_ok-negative.ensures.least (neg_ℤ z)
    ((c.mirrored.ensures (neg_ℤ z)).1 (rw back ((c.of.ensures z).1 h)))
    ((c.mirrored-2.ensures (neg_ℤ z)).1 (rw back ((c.of-2.ensures z).1 k))) in
    (omega (arith, ints, small, low), omega (arith, ints, large, high))
