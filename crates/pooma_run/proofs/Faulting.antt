-- Of which statement the earliest fault of works is.
use Rattle.std.proofs.Common.{◌≡◌, refl, subst, ℕ, Bool, true, false, Option, None, Some, List, [], ◌∷◌, map, rules}
use Rattle.std.specs.Prelude.{◌==◌, ◌||◌, All, IfSome, fold, if◌then◌else◌}
use Rattle.std.proofs.lemmas.List.Elements.{All-cons, All-head, All-nil, All-tail}
use Rattle.pooma_piece.specs.declared.outcome.Outcome.{Outcome}
use Rattle.pooma_piece.specs.declared.outcome.Outcome.TheVariants.{Done, Value, Fault}
use Rattle.pooma_piece.specs.Pieces.{Pieced}
use Rattle.pooma_piece.specs.Plans.{Faulted, faults_of, is_earlier, or_earlier, plan_fault}
use Rattle.pooma_run.specs.Steps.{has_statement}
use Rattle.pooma_run.specs.Told.{entries_of}

-- what holds of what is known and of each fault holds of the earliest
holds_of_one : (P : Faulted → Type 0) (faults : List Faulted) (known : Option Faulted) (fault : Faulted)
    → IfSome known P → All P faults → fold or_earlier known faults ≡ Some fault → P fault
holds_of_one P [] None fault knows each is = absurd (cc is)
holds_of_one P [] (Some first) fault knows each is = let same : first ≡ fault = cc in subst P same knows
holds_of_one P (next ∷ faults) None fault knows each is = holds_of_one P faults (Some next) fault (All-head P next faults each) (All-tail P next faults each) is
holds_of_one P (next ∷ faults) (Some first) fault knows each is =
    holds_of_one P faults (Some (if is_earlier next first then next else first)) fault (by (is_earlier next first)) (All-tail P next faults each) is
  where
    by : (b : Bool) → P (if b then next else first)
    by true = All-head P next faults each
    by false = knows

all_faults : (P : ℕ → Type 0) (statements : List ℕ) (outcomes : List Outcome) → All P statements → All (λ (fault : Faulted). P fault.statement) (faults_of statements outcomes)
all_faults P [] outcomes each = All-nil (λ (fault : Faulted). P fault.statement)
all_faults P (n ∷ statements) [] each = All-nil (λ (fault : Faulted). P fault.statement)
all_faults P (n ∷ statements) (Done ∷ outcomes) each = all_faults P statements outcomes (All-tail P n statements each)
all_faults P (n ∷ statements) (Value kept ∷ outcomes) each = all_faults P statements outcomes (All-tail P n statements each)
all_faults P (n ∷ statements) (Fault position kind ∷ outcomes) each =
    All-cons (λ (fault : Faulted). P fault.statement) (record { statement = n; position = position; kind = kind }) (faults_of statements outcomes)
    (All-head P n statements each) (all_faults P statements outcomes (All-tail P n statements each))

-- what holds of each statement holds of the one whose fault is the earliest
pub holds_of_fault : (P : ℕ → Type 0) (statements : List ℕ) (outcomes : List Outcome) (fault : Faulted) → All P statements → plan_fault statements outcomes ≡ Some fault → P fault.statement
holds_of_fault P statements outcomes fault each is =
    holds_of_one (λ (fault : Faulted). P fault.statement) (faults_of statements outcomes) None fault tt (all_faults P statements outcomes each) is

pub or_right : (a b : Bool) → b ≡ true → (a || b) ≡ true
or_right true b e = refl
or_right false b e = e

pub same_number : (n : ℕ) → (n == n) ≡ true
same_number n = search rules

all_have : (works : List Pieced) → All (λ n. has_statement n (entries_of works) ≡ true) (map (λ (piece : Pieced). piece.statement) works)
all_have [] = All-nil (λ n. has_statement n (entries_of []) ≡ true)
all_have (piece ∷ works) =
    All-cons (λ n. has_statement n (entries_of (piece ∷ works)) ≡ true) piece.statement (map (λ (piece : Pieced). piece.statement) works)
    (rw (same_number piece.statement) refl)
    (λ k n within. or_right _ _ (all_have works k n within))

-- a window has the statement whose fault is its earliest
pub has_fault : (works : List Pieced) (outcomes : List Outcome) (fault : Faulted) → plan_fault (map (λ (piece : Pieced). piece.statement) works) outcomes ≡ Some fault
    → has_statement fault.statement (entries_of works) ≡ true
has_fault works outcomes fault is =
    holds_of_fault (λ n. has_statement n (entries_of works) ≡ true) (map (λ (piece : Pieced). piece.statement) works) outcomes fault (all_have works) is

all_numbers : (P : ℕ → Type 0) (works : List Pieced) → All (λ (piece : Pieced). P piece.statement) works → All P (map (λ (piece : Pieced). piece.statement) works)
all_numbers P [] each = All-nil P
all_numbers P (piece ∷ works) each =
    All-cons P piece.statement (map (λ (piece : Pieced). piece.statement) works) (All-head (λ (piece : Pieced). P piece.statement) piece works each)
    (all_numbers P works (All-tail (λ (piece : Pieced). P piece.statement) piece works each))

-- and what holds of the statement of each work holds of it
pub fault_holds : (P : ℕ → Type 0) (works : List Pieced) (outcomes : List Outcome) (fault : Faulted) → All (λ (piece : Pieced). P piece.statement) works
    → plan_fault (map (λ (piece : Pieced). piece.statement) works) outcomes ≡ Some fault → P fault.statement
fault_holds P works outcomes fault each is = holds_of_fault P (map (λ (piece : Pieced). piece.statement) works) outcomes fault (all_numbers P works each) is
