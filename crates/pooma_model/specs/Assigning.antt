-- What an assignment does to a world.
use Rattle.std.specs.Prelude.{ℤ, pos, Option, None, Some, Ok, Err, List, [], ◌∷◌, if◌then◌else◌}
use Rattle.std.specs.List.{filter_map}
use Rattle.std.specs.Ordering.{int_eq}
use Rattle.pooma_domain.specs.Cells.{cells_of}
use Rattle.pooma_num.specs.declared.fault.FaultKind.{FaultKind}
use Rattle.pooma_view.specs.Slots.{cell_named, positions_of}
use Rattle.pooma_view.specs.Views.{Viewed}
use Rattle.pooma_field.specs.Numbered.{Change}
use Rattle.pooma_field.specs.Worlds.{World, changed}
use Rattle.pooma_expr.specs.declared.tree.Expr.{Expr}
use Rattle.pooma_expr.specs.declared.tree.Expr.TheOpen.{Expr-F}
use Rattle.pooma_expr.specs.declared.tree.Expr.TheViews.{roll-Expr}
use Rattle.pooma_expr.specs.Values.{Checked}
use Rattle.pooma_model.specs.Declarations.{Declared, value_in}

-- where a statement faults: at a position, or where the numbers of all positions are added up
pub data Place : Type 0 where
  Position : List ℤ → Place
  Sum : Place

pub record Fault : Type 0 where
  pub place : Place
  pub kind : FaultKind

-- what a statement makes of a world: another one, or its fault
pub data Effect : Type 0 where
  Becomes : World → Effect
  Faults : Fault → Effect

-- what is found, or else what is found later
abbrev pub found_or : {B : Type 0} → Option B → Option B → Option B
found_or (Some y) later = Some y
found_or None later = later

-- the first that is found along a list
abbrev pub first_of : {A B : Type 0} → (A → Option B) → List A → Option B
first_of f [] = None
first_of f (x ∷ xs) = found_or (f x) (first_of f xs)

-- What an assignment gives a position: a number, or none where its mask leaves it out, or a fault.
pub data Given : Type 0 where
  Number : ℤ → Given
  Nothing : Given
  Fails : FaultKind → Given

abbrev pub given_by : Checked → Given
given_by (Ok n) = Number n
given_by (Err kind) = Fails kind

-- a mask's own fault comes first; where it is 0 the value is not looked at
abbrev pub where_mask : Checked → Given → Given
where_mask (Ok n) given = if int_eq n (pos 0) then Nothing else given
where_mask (Err kind) given = Fails kind

abbrev pub given_at : Declared → World → Expr → Option Expr → List ℤ → Given
given_at declared world value None p = given_by (value_in declared world value p)
given_at declared world value (Some mask) p =
    where_mask (value_in declared world mask p) (given_by (value_in declared world value p))

abbrev pub fault_of : List ℤ → Given → Option Fault
fault_of p (Fails kind) = Some (record { place = Position p; kind = kind })
fault_of p (Number n) = None
fault_of p Nothing = None

abbrev pub change_of : List ℤ → Given → Option Change
change_of c (Number n) = Some (record { cell = c; number = n })
change_of c Nothing = None
change_of c (Fails kind) = None

-- the fault of the first position, in order, that has one
abbrev pub assignment_fault : Declared → World → Viewed → Expr → Option Expr → Option Fault
assignment_fault declared world target value mask =
    first_of (λ p. fault_of p (given_at declared world value mask p)) (cells_of (positions_of target.slots))

-- what the cells that the target names get
abbrev pub assignment_changes : Declared → World → Viewed → Expr → Option Expr → List Change
assignment_changes declared world target value mask =
    filter_map (λ p. change_of (cell_named target.slots p) (given_at declared world value mask p)) (cells_of (positions_of target.slots))

abbrev pub fault_or : Option Fault → World → Effect
fault_or (Some fault) world = Faults fault
fault_or None world = Becomes world

-- All values are taken in the world as it stands. Its fault, or the world where the cells that the target names have them.
abbrev pub assigned : Declared → Viewed → Expr → Option Expr → World → Effect
assigned declared target value mask world =
    fault_or (assignment_fault declared world target value mask) (changed world target.array (assignment_changes declared world target value mask))

-- the value where it is taken, and else what the target has
abbrev pub whole_value : Viewed → Expr → Option Expr → Expr
whole_value target value None = value
whole_value target value (Some mask) = roll-Expr (Expr-F.Where mask value (roll-Expr (Expr-F.Read target)))
