-- Works that are pending, and how their window is told.
use Rattle.std.proofs.Common.{◌≡◌, ◌∙◌, ◌⊎◌, sym, inl, inr, ℕ, Bool, false, Option, List, map, length, ◌<◌, Result, Ok, Err, OnErr, arith}
use Rattle.std.specs.Prelude.{◌==◌}
use Rattle.std.proofs.lemmas.Bool.{eqb-false}
use Rattle.std.proofs.lemmas.List.{length-map}
use Rattle.pooma_machine.specs.Told.{Window}
use Rattle.pooma_run.specs.Turns.{NoneTold, WindowTold}
use Rattle.pooma_window.specs.Windows.{TellsOne}
use Rattle.pooma_run.proofs.Telling.{some_told}
use Rattle.pooma_run.proofs.Results.{on_err}

pub some_pending : {A B : Type 0} (f : A → B) (xs : List A) (n : ℕ) (empty : Bool) → n ≡ length xs → empty ≡ (n == 0) → empty ≡ false → 0 < length (map f xs)
some_pending f xs n empty is tests not =
    let other : n ≡ 0 → ⊥ = eqb-false n 0 (sym tests ∙ not) in
    rw (length-map xs f) (omega arith)

-- either no window was told of the works, and it stopped before, or theirs was
pub untold_or_theirs : {W S : Type 0} (tells : List W → Window → S → S → Type 0) (stops : List W → S → S → Type 0) (works : List W) (known told : Option (List Window)) (old new : S)
    → 0 < length works → ((told ≡ known) × stops works old new) ⊎ TellsOne known told (λ window. tells works window old new)
    → NoneTold stops works known told old new ⊎ WindowTold tells works known told old new
untold_or_theirs tells stops works known told old new some (inl untold) = inl (untold.0, inr untold.1)
untold_or_theirs tells stops works known told old new some (inr one) = inr (some_told tells works one.0 known told old new some one.1 one.2)

-- what is known of an error that is handed on
pub err_handed : {T U E F P Q : Type 0} (r : Result T E) (e : E) (s : Result U F) → r ≡ Err e → (P → Q) → OnErr r P → OnErr s Q
err_handed (Ok x) e s was so holds = absurd (cc was)
err_handed (Err x) e s was so holds = on_err s (so holds)
