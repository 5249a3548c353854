use Rattle.std.proofs.Common.{◌≡◌, ℤ, ◌+ℤ◌, drop, FitsSigned, refl, sym, ap₂, subst, ◌∙◌, arith, rules, List, ◌∷◌}
use Rattle.std.specs.Prelude.{All, IsSome}
use Rattle.std.specs.Int.{w32}
use Rattle.std.proofs.lemmas.Int.{to_z-of_z}
use Rattle.pooma_domain.specs.Axes.{interval_of}
use Rattle.pooma_domain.specs.Cells.{Interval, IsBox}
use Rattle.pooma_domain.specs.declared.axes.Axis.{Axis}
use Rattle.pooma_stencil.specs.Stencils.{IsExtent}
use Rattle.pooma_stencil.proofs.Axes.{ends_of_shrunk}
use Rattle.pooma_stencil.proofs.Firsts.{AreFirst, split_of, first_and_later, later_axes, later_extents, shrunk_first, last_fits, first_is_ordered, later_are_ordered, all_are_ordered, ordered_where_found, interval_found, tells_nothing}
use Rattle.pooma_stencil.proofs.extents.+shrink.Goals as goal

-- the first axis and its extents are what the code takes out
are_first : (lower upper : List ℤ) (axis : Axis) (l u : ℤ) → FitsSigned w32 axis.first → FitsSigned w32 axis.last → FitsSigned w32 l → FitsSigned w32 u → lower ≡ l ∷ drop 1 lower → upper ≡ u ∷ drop 1 upper → All IsExtent lower → All IsExtent upper → AreFirst (interval_of axis) l u
are_first lower upper axis l u f g h i e d low high = record {
  axis = record { ordered = axis.ordered; low = axis.low; high = axis.high };
  low = (later_extents lower (drop 1 lower) l e low).0;
  high = (later_extents upper (drop 1 upper) u d high).0;
  first_fits = f;
  last_fits = g;
  low_fits = h;
  high_fits = i;
}

pub overflow_sub-last : goal.overflow_sub-last
overflow_sub-last t c =
    let is = are_first _ _ c.axis-axis.result _ _ (search rules) (search rules) (search rules) (search rules) (first_and_later _ _ _ c.at.ensures refl) (first_and_later _ _ _ c.at-2.ensures refl) c.requires.low c.requires.high in
    let l_fits : FitsSigned w32 c.at.result = search rules in
    let u_fits : FitsSigned w32 c.at-2.result = search rules in
    let a_fits : FitsSigned w32 c.axis-axis.result.last = search rules in
    let fit = last_fits (interval_of c.axis-axis.result) _ _ is.last_fits is.low_fits is.high_fits is.axis is.low is.high is.axis.ordered in
    let sum : FitsSigned w32 (c.at.result +ℤ c.at-2.result) = fit.0 in
    simp to_z-of_z fit.1

pub returns-in_default-clause-found : goal.returns-in_default-clause-found
returns-in_default-clause-found t c =
    let is = are_first _ _ c.axis-axis.result _ _ (search rules) (search rules) (search rules) (search rules) (first_and_later _ _ _ c.at.ensures refl) (first_and_later _ _ _ c.at-2.ensures refl) c.requires.low c.requires.high in
    let found = ordered_where_found (interval_of c.axis-axis.result) c.at.result c.at-2.result is (IsSome c.of.result) c.of.ensures.found in
    tells_nothing (λ h.
    let split = split_of _ _ _ _ _ _ _ _ _ (first_and_later _ _ _ c.axis-axis.ensures refl) (first_and_later _ _ _ c.at.ensures refl) (first_and_later _ _ _ c.at-2.ensures refl) in
    cc (subst IsSome c.in_default.is (found.1 (first_is_ordered _ _ _ _ _ _ _ _ _ split h))))

pub shrink-requires : goal.shrink-requires
shrink-requires t c =
    let later = later_axes _ _ _ _ _ _ _ c.at.ensures c.rest.ensures c.rest-2.ensures c.rest-3.ensures c.requires.low c.requires.high c.requires.dims.0 c.requires.dims.1 in
    (omega (arith, later.shorter, c.decreases), (later.low, (later.high, later.paired)))

pub returns-in_default-shrink-clause-found : goal.returns-in_default-shrink-clause-found
returns-in_default-shrink-clause-found t c =
    tells_nothing (λ h.
    let split = split_of _ _ _ _ _ _ _ _ _ (first_and_later _ _ _ c.axis-axis.ensures c.rest.ensures) (first_and_later _ _ _ c.at.ensures c.rest-2.ensures) (first_and_later _ _ _ c.at-2.ensures c.rest-3.ensures) in
    cc (subst IsSome c.in_default-shrink.is (c.shrink.ensures.found.1 (later_are_ordered _ _ _ _ _ _ _ _ _ split h))))

pub after-requires : goal.after-requires
after-requires t c =
    let is = are_first _ _ c.axis-axis.result _ _ (search rules) (search rules) (search rules) (search rules) (first_and_later _ _ _ c.at.ensures refl) (first_and_later _ _ _ c.at-2.ensures refl) c.requires.low c.requires.high in
    let found = ordered_where_found (interval_of c.axis-axis.result) c.at.result c.at-2.result is (IsSome c.of.result) c.of.ensures.found in
    let e = first_and_later _ _ _ c.axis-axis.ensures c.rest.ensures in
    let f = first_and_later _ _ _ c.at.ensures c.rest-2.ensures in
    let g = first_and_later _ _ _ c.at-2.ensures c.rest-3.ensures in
    let ordered = all_are_ordered _ _ _ _ _ _ _ _ _ (split_of _ _ _ _ _ _ _ _ _ e f g) (found.0 (subst IsSome (sym c.in-Some.is) refl)) (c.shrink.ensures.found.0 (subst IsSome (sym c.in-Some-shrink.is) refl)) in
    let ends = ends_of_shrunk _ _ _ c.requires.dims.0 c.requires.dims.1 c.requires.low c.requires.high ordered in
    subst IsBox
    (shrunk_first _ _ _ _ _ _ _ _ _ e f g
    ∙ ap₂ (λ (a : Interval) (axes : List Interval). a ∷ axes) (sym (interval_found (interval_of c.axis-axis.result) c.at.result c.at-2.result is _ _ c.in-Some.ensures.value.0 c.in-Some.ensures.value.1)) (sym c.in-Some-shrink.ensures.value))
    (c.boxes_within_boxes.ensures.valid _ _ c.dims.ensures.valid ordered ends.0 ends.1)

pub returns-clause-found : goal.returns-clause-found
returns-clause-found t c =
    let is = are_first _ _ c.axis-axis.result _ _ (search rules) (search rules) (search rules) (search rules) (first_and_later _ _ _ c.at.ensures refl) (first_and_later _ _ _ c.at-2.ensures refl) c.requires.low c.requires.high in
    let found = ordered_where_found (interval_of c.axis-axis.result) c.at.result c.at-2.result is (IsSome c.of.result) c.of.ensures.found in
    let split = split_of _ _ _ _ _ _ _ _ _ (first_and_later _ _ _ c.axis-axis.ensures c.rest.ensures) (first_and_later _ _ _ c.at.ensures c.rest-2.ensures) (first_and_later _ _ _ c.at-2.ensures c.rest-3.ensures) in (
      λ t'. all_are_ordered _ _ _ _ _ _ _ _ _ split (found.0 (subst IsSome (sym c.in-Some.is) refl)) (c.shrink.ensures.found.0 (subst IsSome (sym c.in-Some-shrink.is) refl)),
      λ h. refl,
    )

pub returns-clause-value : goal.returns-clause-value
returns-clause-value t c =
    let is = are_first _ _ c.axis-axis.result _ _ (search rules) (search rules) (search rules) (search rules) (first_and_later _ _ _ c.at.ensures refl) (first_and_later _ _ _ c.at-2.ensures refl) c.requires.low c.requires.high in
    c.after.ensures
    ∙ ap₂ (λ (a : Interval) (axes : List Interval). a ∷ axes) (interval_found (interval_of c.axis-axis.result) c.at.result c.at-2.result is _ _ c.in-Some.ensures.value.0 c.in-Some.ensures.value.1) c.in-Some-shrink.ensures.value
    ∙ sym (shrunk_first _ _ _ _ _ _ _ _ _ (first_and_later _ _ _ c.axis-axis.ensures c.rest.ensures) (first_and_later _ _ _ c.at.ensures c.rest-2.ensures) (first_and_later _ _ _ c.at-2.ensures c.rest-3.ensures))
