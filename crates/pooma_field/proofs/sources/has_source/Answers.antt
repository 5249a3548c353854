use Rattle.std.proofs.Common.{refl, ◌≡◌, ◌↔◌, sym, arith, subst, ℤ, Bool, not, IsTrue, true, false, to_z, of_z, w32}
use Rattle.std.proofs.lemmas.Bool.{false≢true}
use Rattle.std.proofs.lemmas.Int.{ints}
use Rattle.pooma_domain.specs.Axes.{interval_of}
use Rattle.pooma_domain.specs.Cells.{Interval}
use Rattle.pooma_field.specs.declared.faces.Ends.{Ends}
use Rattle.pooma_field.specs.declared.updaters.Updater.{Updater}
use Rattle.pooma_field.specs.Faces.{facing}
use Rattle.pooma_field.specs.Updaters.{IsConstant}
use Rattle.pooma_field.specs.ShapeOf.{shape_of}
use Rattle.pooma_field.proofs.SourceCells.{goes_by_dims, source_unless_constant}
use Rattle.pooma_field.proofs.sources.has_source.Goals as goal

pub at-x-requires : goal.at-x-requires
at-x-requires c = goes_by_dims (shape_of c.args.shape.now) c.args.axis c.args.c.now c.args.shape.now.valid c.requires

-- the updater that the call took, and the one that the face has
same_updater : (u : Updater) (ends : Ends) (axis : Interval) (x x' : ℤ) → x' ≡ x → u ≡ facing ends axis x' → u ≡ facing ends axis x
same_updater u ends axis x x' e f = subst (λ (v : ℤ). u ≡ facing ends axis v) e f

not_tells : (b : Bool) (P : Type 0) → (IsTrue b → P) × (P → IsTrue b) → IsTrue (not b) ↔ (P → ⊥)
not_tells true P h = (λ bad. absurd (false≢true bad), λ none. absurd (none (h.0 refl)))
not_tells false P h = (λ t p. false≢true (h.1 p), λ none. refl)

pub returns : goal.returns
returns c =
    let same : c.facing-updater.result ≡ facing c.ends.result (interval_of c.axis-numbers.result) c.at-x.result =
    same_updater c.facing-updater.result c.ends.result (interval_of c.axis-numbers.result) c.at-x.result _ (let bare : to_z w32 (of_z w32 c.at-x.result) ≡ c.at-x.result = omega (arith, ints) in bare) c.facing-updater.ensures in
    let told = not_tells c.is_constant.result (IsConstant c.facing-updater.result) c.is_constant.ensures in
    let source = source_unless_constant (shape_of c.args.shape.now) c.args.axis c.args.c.now c.in-Some.faces (interval_of c.axis-numbers.result) c.ends.result c.at-x.result c.in-Some.is
    (record { axis_there = c.axis-numbers.ensures; ends_there = c.ends.ensures; coordinate = c.at-x.ensures }) in (
      λ t. source.1 (λ constant. told.0 t (subst IsConstant (sym same) constant)),
      λ some. told.1 (λ constant. source.0 some (subst IsConstant same constant)),
    )
