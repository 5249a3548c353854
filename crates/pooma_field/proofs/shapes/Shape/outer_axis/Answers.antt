use Rattle.std.proofs.Common.{refl, ◌≡◌, ◌∙◌, sym, subst, arith, ℕ, suc, ◌-◌, length, drop, List, ℤ}
use Rattle.std.proofs.lemmas.Bool.{false≢true}
use Rattle.std.proofs.lemmas.Int.{ints}
use Rattle.pooma_domain.specs.Axes.{interval_of}
use Rattle.pooma_domain.specs.Cells.{Interval, IsIn}
use Rattle.pooma_field.proofs.AlongAxes.{IsOn}
use Rattle.pooma_field.proofs.SlabCells.{GoesBy, dims_of_cell, past_all, inside_one_more, coordinate_on, goes_by_greatest}
use Rattle.pooma_field.proofs.shapes.Shape.outer_axis.Goals as goal

pub loop-axis-init : goal.loop-axis-init
loop-axis-init c =
    let same : length c.args.c.now ≡ length c.args.self.now.total = dims_of_cell c.args.self.now.total c.args.c.now c.requires in
    record {
      seen = past_all c.args.self.now.physical c.args.c.now c.dims-axis.result c.dims-axis.ensures.value (same ∙ c.args.self.now.valid.same_dims);
      there = omega (arith, c.dims-axis.ensures.value);
    }

pub at-requires : goal.at-requires
at-requires c =
    let same : length c.args.c.now ≡ length c.args.self.now.total = dims_of_cell c.args.self.now.total c.args.c.now c.requires in
    omega (arith, same, c.args.self.now.valid.same_dims, c.loop-axis.invariant.there, c.loop-axis-test.true)

-- the later axes, counted from the one at hand
later_seen : (m n : ℕ) (box : List Interval) (c : List ℤ) → m ≡ suc n → IsIn (drop m box) (drop m c) → IsIn (drop (suc n) box) (drop (suc n) c)
later_seen m n box c e h = subst (λ (k : ℕ). IsIn (drop k box) (drop k c)) e h

off_axis : (c : goal.Then-not-holds) → IsOn (interval_of c.axis.result) c.at.result → ⊥
off_axis c on =
    false≢true (sym c.if-not-holds.true ∙ c.holds.ensures.1 (omega (arith, ints, on.low), omega (arith, ints, on.high)))

pub returns-then-not-holds-clause-outside : goal.returns-then-not-holds-clause-outside
returns-then-not-holds-clause-outside c =
    let by : GoesBy c.args.self.now.physical c.args.self.now.total c.args.c.now (c.loop-axis.axis - 1) = goes_by_greatest c.args.self.now.physical c.args.self.now.total c.args.c.now (c.loop-axis.axis - 1) (interval_of c.axis.result) c.at.result c.args.self.now.valid.same_dims c.requires c.axis.ensures c.at.ensures (off_axis c) (later_seen c.loop-axis.axis (c.loop-axis.axis - 1) c.args.self.now.physical c.args.c.now (omega (arith, c.loop-axis-test.true)) c.loop-axis.invariant.seen) in
    (by.there, by.by)

pub returns-then-not-holds-clause-physical : goal.returns-then-not-holds-clause-physical
returns-then-not-holds-clause-physical c = (
  λ e. absurd (false≢true (sym e)),
  λ inside. absurd (off_axis c (coordinate_on c.args.self.now.physical c.args.c.now (c.loop-axis.axis - 1) (interval_of c.axis.result) c.at.result c.axis.ensures c.at.ensures inside)),
)

pub loop-axis-preserved : goal.loop-axis-preserved
loop-axis-preserved c =
    let held = c.holds.ensures.0 c.if-not-holds.false in
    record {
      seen = inside_one_more c.args.self.now.physical c.args.c.now (c.loop-axis.axis - 1) (interval_of c.axis.result) c.at.result c.axis.ensures c.at.ensures
          (record { low = omega (arith, ints, held.0); high = omega (arith, ints, held.1) })
          (later_seen c.loop-axis.axis (c.loop-axis.axis - 1) c.args.self.now.physical c.args.c.now (omega (arith, c.loop-axis-test.true)) c.loop-axis.invariant.seen);
      there = omega (arith, c.loop-axis.invariant.there);
    }

pub returns-clause-physical : goal.returns-clause-physical
returns-clause-physical c = (
  λ e. subst (λ (k : ℕ). IsIn (drop k c.args.self.now.physical) (drop k c.args.c.now)) (let none : c.loop-axis.axis ≡ 0 = omega (arith, c.loop-axis-test.false) in none) c.loop-axis.invariant.seen,
  λ inside. refl,
)
