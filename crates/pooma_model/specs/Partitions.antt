-- A statement done in parts: boxes that have each of its positions once, and what positions make where they are given this.
use Rattle.std.specs.Prelude.{◌≡◌, ◌≢◌, ◌⊎◌, ◌↔◌, ℕ, ℤ, Option, Some, IfSome, List, flat_map, fold, slice_get, All, Any, AllPairs}
use Rattle.std.specs.List.{filter_map}
use Rattle.pooma_domain.specs.Cells.{Interval, IsBefore, IsIn, cells_of}
use Rattle.pooma_domain.specs.Operations.{HaveCommonCell}
use Rattle.pooma_num.specs.declared.fault.FaultKind.{FaultKind}
use Rattle.pooma_view.specs.declared.slots.Slot.{Slot}
use Rattle.pooma_view.specs.Slots.{cell_named}
use Rattle.pooma_field.specs.Numbered.{Change}
use Rattle.pooma_view.specs.Views.{Viewed}
use Rattle.pooma_field.specs.Worlds.{World, changed}
use Rattle.pooma_expr.specs.Values.{Checked}
use Rattle.pooma_model.specs.Assigning.{Fault, Given, Number, Nothing, Fails, Position, change_of, fault_of, first_of}
use Rattle.pooma_model.specs.Reducing.{number_in}

-- the cells of the whole box are those of these boxes, and no two of them have a common cell
pub record IsPartition (whole : List Interval) (boxes : List (List Interval)) : Type 0 where
  pub cells : (p : List ℤ) → IsIn whole p ↔ Any (λ box. IsIn box p) boxes
  pub apart : AllPairs (λ one other. HaveCommonCell one other → ⊥) boxes

-- the position lies in one of the boxes, and not in the one of this number
abbrev pub IsOfOthers : List (List Interval) → ℕ → List ℤ → Type 0
IsOfOthers boxes k q = (j : ℕ) × (box : List Interval) × (j ≢ k) × (slice_get boxes j ≡ Some box) × IsIn box q

-- no position stands at two places
abbrev pub StandOnce : List (List ℤ) → Type 0
StandOnce ps = (j k : ℕ) (q : List ℤ) → slice_get ps j ≡ Some q → slice_get ps k ≡ Some q → j ≡ k

-- the fault of the first of these positions that has one
abbrev pub fault_at : (List ℤ → Given) → List (List ℤ) → Option Fault
fault_at given ps = first_of (λ p. fault_of p (given p)) ps

-- what these positions change, each of them the cell that the slots name there
abbrev pub changes_at : (List ℤ → Given) → List Slot → List (List ℤ) → List Change
changes_at given slots ps = filter_map (λ p. change_of (cell_named slots p) (given p)) ps

-- the numbers at these positions
abbrev pub numbers_at : (List ℤ → Checked) → List (List ℤ) → List ℤ
numbers_at value ps = filter_map (λ p. number_in (value p)) ps

-- the world after these boxes, one after another, changed what their positions are given
abbrev pub changed_in_turn : World → Viewed → (List ℤ → Given) → List (List Interval) → World
changed_in_turn world target given boxes = fold (λ now box. changed now target.array (changes_at given target.slots (cells_of box))) world boxes

-- the numbers at the positions of these boxes, one list after another
abbrev pub numbers_in_turn : (List ℤ → Checked) → List (List Interval) → List ℤ
numbers_in_turn value boxes = flat_map (λ box. numbers_at value (cells_of box)) boxes

-- the number of a cell after its position was given this
abbrev pub number_after : Given → ℤ → ℤ
number_after (Number n) old = n
number_after Nothing old = old
number_after (Fails kind) old = old

-- the fault is at this position or at a later one
abbrev pub IsNotEarlier : List ℤ → Fault → Type 0
IsNotEarlier p fault = (q : List ℤ) → fault.place ≡ Position q → (p ≡ q) ⊎ IsBefore p q

-- the fault is that of a position of the box, and no position before it has one
pub record IsFirstFault (given : List ℤ → Given) (box : List Interval) (fault : Fault) : Type 0 where
  pub position : List ℤ
  pub place : fault.place ≡ Position position
  pub inside : IsIn box position
  pub fails : given position ≡ Fails fault.kind
  pub first : (q : List ℤ) → IsIn box q → ((kind : FaultKind) × (given q ≡ Fails kind)) → (position ≡ q) ⊎ IsBefore position q

-- the fault is that of one of the boxes, and none of them has one at an earlier position
pub record IsLeastFault (given : List ℤ → Given) (boxes : List (List Interval)) (fault : Fault) : Type 0 where
  pub position : List ℤ
  pub place : fault.place ≡ Position position
  pub has : Any (λ box. fault_at given (cells_of box) ≡ Some fault) boxes
  pub least : All (λ box. IfSome (fault_at given (cells_of box)) (IsNotEarlier position)) boxes
