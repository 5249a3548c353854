-- What holds of results, whatever they are.
use Rattle.std.proofs.Common.{◌≡◌, sym, subst, Result, Ok, Err, OnOk, OnErr}

-- what holds anyway holds where a call fails
pub on_err : {X E P : Type 0} (r : Result X E) → P → OnErr r P
on_err (Ok x) holds = tt
on_err (Err e) holds = holds

pub on_ok_so : {X E P Q : Type 0} (r : Result X E) → (P → Q) → OnOk r P → OnOk r Q
on_ok_so (Ok x) so holds = so holds
on_ok_so (Err e) so holds = tt

-- what holds of two values holds of what they are called elsewhere
pub at_ends : {A B : Type 0} (P : A → B → Type 0) (a same : A) (b like : B) → a ≡ same → b ≡ like → P same like → P a b
at_ends P a same b like one two holds = subst (λ x. P x b) (sym one) (subst (P same) (sym two) holds)
