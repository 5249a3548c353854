-- The statement that a walk over fitting ones gives.
use Rattle.std.proofs.Common.{◌≡◌, List, ◌∷◌, sym, subst, arith}
use Rattle.pooma_model.specs.declared.statement.Statement.{Statement}
use Rattle.pooma_model.specs.Declarations.{Declared}
use Rattle.pooma_model.specs.Fit.{AreFit, IsFit}

pub given_fits : (declared scene : Declared) (walk rest : List Statement) (statement : Statement) → scene ≡ declared → AreFit declared walk
    → walk ≡ statement ∷ rest → IsFit scene statement.action
given_fits declared scene walk rest statement same fit given =
    let all : AreFit declared (statement ∷ rest) = subst (AreFit declared) given fit in
    subst (λ (d : Declared). IsFit d statement.action) (sym same) (all 0 statement (omega arith))
