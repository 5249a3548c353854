-- The statements that fitting lines execute fit.
use Rattle.std.proofs.Common.{◌≡◌, ◌-◌, ℕ, zero, suc, Some, List, [], ◌∷◌, ◌++◌, subst, sym}
use Rattle.std.specs.List.{All, AllByRecursion}
use Rattle.std.proofs.lemmas.List.Elements.{All-from_recursion, recursion_from_All}
use Rattle.pooma_model.specs.declared.lines.Line.{Line}
use Rattle.pooma_model.specs.declared.lines.Line.TheVariants.{Do, Repeat, End}
use Rattle.pooma_model.specs.declared.statement.Statement.{Statement}
use Rattle.pooma_model.specs.Declarations.{Declared}
use Rattle.pooma_model.specs.Fit.{AreFit, IsFit}
use Rattle.pooma_model.specs.Lines.{IsFitLine, depth_after, drafted}
use Rattle.pooma_model.specs.Walking.{lines_times, passed, statements_in}
use Rattle.pooma_model.proofs.Drafting.{statements-drafted}

abbrev FitLines : Declared → List Line → Type 0
FitLines declared lines = AllByRecursion (IsFitLine declared) lines

abbrev FitStatements : Declared → List Statement → Type 0
FitStatements declared statements = AllByRecursion (λ s. IsFit declared s.action) statements

fit-append : (declared : Declared) (xs ys : List Line) → FitLines declared xs → FitLines declared ys → FitLines declared (xs ++ ys)
fit-append declared [] ys f g = g
fit-append declared (x ∷ xs) ys f g = (f.0, fit-append declared xs ys f.1 g)

fit-times : (declared : Declared) (n : ℕ) (lines : List Line) → FitLines declared lines → FitLines declared (lines_times n lines)
fit-times declared zero lines f = tt
fit-times declared (suc n) lines f = fit-append declared lines (lines_times n lines) f (fit-times declared n lines f)

fit-passed : (declared : Declared) (lines : List Line) (later : List (List Line)) → FitLines declared lines → AllByRecursion (FitLines declared) later → FitLines declared (passed lines later)
fit-passed declared [] later f g = tt
fit-passed declared (Do s ∷ lines) later f g = (f.0, fit-passed declared lines later f.1 g)
fit-passed declared (Repeat n ∷ lines) later f g =
    let once : FitLines declared (passed lines []) = fit-passed declared lines [] f.1 tt in
    (f.0, fit-passed declared lines (lines_times (n - 1) (passed lines []) ∷ later) f.1 (fit-times declared (n - 1) (passed lines []) once, g))
fit-passed declared (End ∷ lines) [] f g = (tt, tt)
fit-passed declared (End ∷ lines) (turns ∷ later) f g = (tt, fit-append declared turns (passed lines later) g.0 (fit-passed declared lines later f.1 g.1))

fit-statements : (declared : Declared) (lines : List Line) → FitLines declared lines → FitStatements declared (statements_in lines)
fit-statements declared [] f = tt
fit-statements declared (Do s ∷ lines) f = (f.0, fit-statements declared lines f.1)
fit-statements declared (Repeat n ∷ lines) f = fit-statements declared lines f.1
fit-statements declared (End ∷ lines) f = fit-statements declared lines f.1

-- what fitting lines execute fits
pub fit-drafted : (declared : Declared) (lines : List Line) → depth_after 0 lines ≡ Some 0 → All (IsFitLine declared) lines → AreFit declared (drafted lines).statements
fit-drafted declared lines h fit =
    let order : FitStatements declared (statements_in (passed lines [])) =
    fit-statements declared (passed lines []) (fit-passed declared lines [] (recursion_from_All (IsFitLine declared) lines fit) tt) in
    subst (λ xs. AreFit declared xs) (sym (statements-drafted lines h)) (All-from_recursion (λ s. IsFit declared s.action) (statements_in (passed lines [])) order)
