use Rattle.std.proofs.Common.{◌≡◌, ◌∙◌, sym, ap, subst, arith, ⊎_elim, slice_get, Some}
use Rattle.std.proofs.lemmas.Bool.{false≢true, cases_lt}
use Rattle.std.proofs.lemmas.Option.{slice_get_within, same_Some}
use Rattle.pooma_domain.specs.Axes.{interval_of}
use Rattle.pooma_domain.specs.Cells.{Interval}
use Rattle.pooma_field.specs.Shapes.{IsAround}
use Rattle.pooma_field.proofs.shapes.Shape.of.Goals as goal

pub returns-then-not-is_around-clause-found : goal.returns-then-not-is_around-clause-found
returns-then-not-is_around-clause-found c = (
  λ e. absurd (false≢true e),
  λ shape. absurd (false≢true (sym c.if-not-is_around.true ∙ c.is_around.ensures.1 (shape.around c.loop-axis.axis (interval_of c.axis.result) (interval_of c.axis-in-loop-axis.result) c.axis.ensures c.axis-in-loop-axis.ensures))),
)

pub loop-axis-preserved : goal.loop-axis-preserved
loop-axis-preserved c n p t below at_p at_t =
    ⊎_elim (λ h. c.loop-axis.invariant n p t h at_p at_t)
    (λ h.
    let here : n ≡ c.loop-axis.axis = omega (arith, below, h) in
    let of_p : slice_get c.args.physical n ≡ Some (interval_of c.axis.result) = ap (slice_get c.args.physical) here ∙ c.axis.ensures in
    let of_t : slice_get c.args.total n ≡ Some (interval_of c.axis-in-loop-axis.result) = ap (slice_get c.args.total) here ∙ c.axis-in-loop-axis.ensures in
    let same_p : interval_of c.axis.result ≡ p = same_Some _ _ (sym of_p ∙ at_p) in
    let same_t : interval_of c.axis-in-loop-axis.result ≡ t = same_Some _ _ (sym of_t ∙ at_t) in
    subst (λ (q : Interval). IsAround q t) same_p
    (subst (IsAround (interval_of c.axis.result)) same_t (c.is_around.ensures.0 c.if-not-is_around.false)))
    (cases_lt n c.loop-axis.axis)

pub invariant_of-result : goal.invariant_of-result
invariant_of-result c = record {
  valid = record {
    same_dims = omega (arith, c.dims-dims.ensures.value, c.dims.ensures.value, c.if-dims.false);
    around = λ n p t at_p at_t. c.loop-axis.invariant n p t (omega (arith, slice_get_within c.args.physical n p at_p, c.loop-axis-test.false, c.dims-dims.ensures.value)) at_p at_t;
    faced = λ faces is. c.are_faces_of.ensures.0 c.if-not-are_faces_of.false faces is ∙ c.dims-dims.ensures.value;
  };
}
