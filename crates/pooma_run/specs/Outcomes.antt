-- What is found among the outcomes of a window, in the words of the definitions.
use Rattle.std.specs.Prelude.{◌≡◌, ◌≤◌, ◌^◌, ℤ, Option, None, Some, List, length, map, flat_map}
use Rattle.pooma_expr.specs.declared.reduction.Reduction.{Reduction}
use Rattle.pooma_piece.specs.declared.outcome.Outcome.{Outcome}
use Rattle.pooma_piece.specs.declared.outcome.Outcome.TheVariants.{Value}
use Rattle.pooma_piece.specs.Effects.{kept_of}
use Rattle.pooma_piece.specs.Plans.{Faulted}
use Rattle.pooma_run.specs.declared.faults.Fault as kept

-- a fault as it is kept
abbrev pub seen : kept.Fault → Faulted
seen fault = record { statement = fault.statement; position = fault.position; kind = fault.kind }

abbrev pub fault_seen : Option kept.Fault → Option Faulted
fault_seen None = None
fault_seen (Some fault) = Some (seen fault)

-- what a piece of a reduction answers for these numbers
abbrev pub value_of : Reduction → List ℤ → Outcome
value_of reduction numbers = Value (kept_of reduction numbers)

-- the lists, one after another
abbrev pub joined : List (List ℤ) → List ℤ
joined lists = flat_map (λ numbers. numbers) lists

-- pieces of a reduction answered for some numbers, not for none, and not for more than a statement has positions
pub record AreValues (reduction : Reduction) (outcomes : List Outcome) : Type 0 where
  pub lists : List (List ℤ)
  pub are : outcomes ≡ map (value_of reduction) lists
  pub some : 1 ≤ length (joined lists)
  pub few : length (joined lists) ≤ 2 ^ 23
