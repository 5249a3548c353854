-- How a plan of pieces comes out: its first fault, in the order of the program.
use Rattle.std.specs.Prelude.{ℕ, ◌==◌, nat_lt, ℤ, int_lt, Bool, false, ◌&&◌, ◌||◌, Option, None, Some, List, [], ◌∷◌, fold, if◌then◌else◌}
use Rattle.std.specs.List.{cons_option}
use Rattle.pooma_num.specs.declared.fault.FaultKind.{FaultKind}
use Rattle.pooma_field.specs.Numbered.{is_same_cell}
use Rattle.pooma_piece.specs.declared.outcome.Outcome.{Outcome}
use Rattle.pooma_piece.specs.declared.outcome.Outcome.TheVariants.{Done, Value, Fault}

-- a fault in a plan: of which statement, at which of its positions, and which one
pub record Faulted : Type 0 where
  pub statement : ℕ
  pub position : List ℤ
  pub kind : FaultKind

abbrev pub fault_in : ℕ → Outcome → Option Faulted
fault_in statement Done = None
fault_in statement (Value kept) = None
fault_in statement (Fault position kind) = Some (record { statement = statement; position = position; kind = kind })

-- the faults among the outcomes of works of these statements
abbrev pub faults_of : List ℕ → List Outcome → List Faulted
faults_of [] outcomes = []
faults_of (statement ∷ statements) [] = []
faults_of (statement ∷ statements) (outcome ∷ outcomes) = cons_option (fault_in statement outcome) (faults_of statements outcomes)

-- whether a cell comes before another: on the greatest axis on which they differ it has the smaller coordinate
abbrev pub is_before : List ℤ → List ℤ → Bool
is_before [] ys = false
is_before (x ∷ xs) [] = false
is_before (x ∷ xs) (y ∷ ys) = is_before xs ys || (is_same_cell xs ys && int_lt x y)

-- whether a fault is of an earlier statement, or of the same one at an earlier position
abbrev pub is_earlier : Faulted → Faulted → Bool
is_earlier a b = nat_lt a.statement b.statement || ((a.statement == b.statement) && is_before a.position b.position)

abbrev pub or_earlier : Option Faulted → Faulted → Option Faulted
or_earlier None fault = Some fault
or_earlier (Some first) fault = Some (if is_earlier fault first then fault else first)

-- the earliest fault among the outcomes of works of these statements; none where no outcome is one
abbrev pub plan_fault : List ℕ → List Outcome → Option Faulted
plan_fault statements outcomes = fold or_earlier None (faults_of statements outcomes)
