use Rattle.std.proofs.Common.{arith, ◌≡◌, ◌∙◌, ap, sym, subst, List, ◌≤ℤ◌}
use Rattle.std.proofs.lemmas.Int.{ints}
use Rattle.std.specs.Prelude.{slice_set, ◌<ℤ◌}
use Rattle.pooma_domain.specs.Axes.{interval_of}
use Rattle.pooma_domain.specs.Cells.{Interval}
use Rattle.pooma_domain.specs.Operations.{IsPart}
use Rattle.pooma_domain.proofs.BoxSets.{lower_part, upper_part}
use Rattle.pooma_domain.proofs.PaddedMoves.{same_interval}
use Rattle.pooma_domain.proofs.boxes.BoxN.cut.Goals as goal

pub overflow_sub-below : goal.overflow_sub-below
overflow_sub-below c =
    let b = c.requires.between (interval_of c.axis-whole.result) c.axis-whole.ensures in
    omega (arith, ints, b.0, c.axis-whole.result.low)

pub invariant_of-below : goal.invariant_of-below
invariant_of-below c =
    let b = c.requires.between (interval_of c.axis-whole.result) c.axis-whole.ensures in
    record {
      ordered = omega (arith, ints, b.0, c.axis-whole.result.low, c.axis-whole.result.high);
      low = omega (arith, ints, b.0, c.axis-whole.result.low, c.axis-whole.result.high);
      high = omega (arith, ints, b.0, b.1, c.axis-whole.result.low, c.axis-whole.result.high);
    }

pub invariant_of-above : goal.invariant_of-above
invariant_of-above c =
    let b = c.requires.between (interval_of c.axis-whole.result) c.axis-whole.ensures in
    record {
      ordered = omega (arith, ints, b.0, b.1, c.axis-whole.result.low, c.axis-whole.result.high);
      low = omega (arith, ints, b.0, b.1, c.axis-whole.result.low, c.axis-whole.result.high);
      high = omega (arith, ints, b.0, b.1, c.axis-whole.result.low, c.axis-whole.result.high);
    }

pub narrowed-requires-clause-within : goal.narrowed-requires-clause-within
narrowed-requires-clause-within c x e =
    let b = c.requires.between x e in
    let same : interval_of c.axis-whole.result ≡ x = cc (e, c.axis-whole.ensures) in
    let first : c.axis-whole.result.first ≡ x.first = ap (λ (i : Interval). i.first) same in
    (omega (arith, ints, first), omega (arith, ints, b.0, b.1, c.axis-whole.result.low, c.axis-whole.result.high))

pub narrowed-requires-2-clause-within : goal.narrowed-requires-2-clause-within
narrowed-requires-2-clause-within c x e =
    let b = c.requires.between x e in
    let same : interval_of c.axis-whole.result ≡ x = cc (e, c.axis-whole.ensures) in
    let last : c.axis-whole.result.last ≡ x.last = ap (λ (i : Interval). i.last) same in
    (omega (arith, ints, b.0), omega (arith, ints, last))

pub returns-clause-lower_axes : goal.returns-clause-lower_axes
returns-clause-lower_axes c x e =
    let b = c.requires.between x e in
    let same : interval_of c.axis-whole.result ≡ x = cc (e, c.axis-whole.ensures) in
    let first : c.axis-whole.result.first ≡ x.first = ap (λ (i : Interval). i.first) same in
    c.narrowed.ensures
    ∙ ap (λ i. slice_set c.args.self.now c.args.axis i)
    (same_interval _ _ (omega (arith, ints, first)) (omega (arith, ints, b.0, c.axis-whole.result.low, c.axis-whole.result.high)))

pub returns-clause-upper_axes : goal.returns-clause-upper_axes
returns-clause-upper_axes c x e =
    let same : interval_of c.axis-whole.result ≡ x = cc (e, c.axis-whole.ensures) in
    let last : c.axis-whole.result.last ≡ x.last = ap (λ (i : Interval). i.last) same in
    c.narrowed-2.ensures
    ∙ ap (λ i. slice_set c.args.self.now c.args.axis i) (same_interval _ _ (omega (arith, ints)) (omega (arith, ints, last)))

pub returns-clause-lower_cells : goal.returns-clause-lower_cells
returns-clause-lower_cells c =
    let x : Interval = interval_of c.axis-whole.result in
    let b = c.requires.between x c.axis-whole.ensures in
    subst (λ (box : List Interval). IsPart c.args.self.now c.args.axis (λ y. y <ℤ c.args.at) box) (sym (returns-clause-lower_axes c x c.axis-whole.ensures))
    (lower_part c.args.self.now c.args.axis x c.args.at c.axis-whole.ensures b.1)

pub returns-clause-upper_cells : goal.returns-clause-upper_cells
returns-clause-upper_cells c =
    let x : Interval = interval_of c.axis-whole.result in
    let b = c.requires.between x c.axis-whole.ensures in
    subst (λ (box : List Interval). IsPart c.args.self.now c.args.axis (λ y. c.args.at ≤ℤ y) box) (sym (returns-clause-upper_axes c x c.axis-whole.ensures))
    (upper_part c.args.self.now c.args.axis x c.args.at c.axis-whole.ensures b.0)
