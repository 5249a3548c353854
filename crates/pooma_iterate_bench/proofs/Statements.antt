-- The first statement of a program fits the arrays of its store.
use Rattle.std.proofs.Common.{◌≡◌, ◌∙◌, ℕ, List, ◌∷◌, ap, sym, subst, arith}
use Rattle.pooma_field.specs.Shapes.{Shaped}
use Rattle.pooma_layout.specs.Axes.{CutAxis}
use Rattle.pooma_model.specs.declared.statement.Statement.{Statement}
use Rattle.pooma_model.specs.Declarations.{Declared}
use Rattle.pooma_model.specs.Fit.{AreFit, IsFit}
use Rattle.pooma_split.specs.Splits.{declared_in}
use Rattle.pooma_store.specs.Stored.{Stored}

declared_alike : (declared : Declared) (store : Stored) (scalars : ℕ) → store.shapes ≡ declared.shapes → store.layouts ≡ declared.layouts
    → scalars ≡ declared.scalars → declared_in store scalars ≡ declared
declared_alike declared store scalars shapes layouts count =
    ap (λ (xs : List Shaped). record { shapes = xs; layouts = store.layouts; scalars = scalars }) shapes
    ∙ ap (λ (xs : List (List CutAxis)). record { shapes = declared.shapes; layouts = xs; scalars = scalars }) layouts
    ∙ ap (λ (n : ℕ). record { shapes = declared.shapes; layouts = declared.layouts; scalars = n }) count

pub given_fits : (declared : Declared) (store : Stored) (scalars : ℕ) (walk rest : List Statement) (statement : Statement) → store.shapes ≡ declared.shapes
    → store.layouts ≡ declared.layouts → scalars ≡ declared.scalars → AreFit declared walk → walk ≡ statement ∷ rest
    → IsFit (declared_in store scalars) statement.action
given_fits declared store scalars walk rest statement shapes layouts count fit given =
    let all : AreFit declared (statement ∷ rest) = subst (AreFit declared) given fit in
    subst (λ (d : Declared). IsFit d statement.action) (sym (declared_alike declared store scalars shapes layouts count)) (all 0 statement (omega arith))
