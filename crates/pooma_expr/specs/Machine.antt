-- What the operations of a code do to a stack of numbers.
use Rattle.std.specs.Prelude.{◌≡◌, ℕ, zero, suc, ◌+◌, ◌-◌, ◌<◌, ◌≤◌, ℤ, pos, neg_ℤ, unsigned_abs, if◌then◌else◌, Result, Ok, Err, List, [], ◌∷◌, slice_index_or}
use Rattle.std.specs.Ordering.{int_eq}
use Rattle.pooma_num.specs.declared.fault.FaultKind.{FaultKind}
use Rattle.pooma_expr.specs.declared.operation.Operation.{Operation}
use Rattle.pooma_expr.specs.declared.operation.Operation.TheVariants.{Push, PushIndex, PushRead, Negate, Absolute, Apply, SkipIfZero, Skip}
use Rattle.pooma_expr.specs.Values.{Checked, exact, result_of}

-- how many of the next operations are passed over, with the stack that is left, its top first; or a fault
abbrev pub Step : Type 0
Step = Result (ℕ × List ℤ) FaultKind

-- a number on top
abbrev pub push : Checked → List ℤ → Step
push (Ok x) stack = Ok (0, x ∷ stack)
push (Err fault) stack = Err fault

-- the top number, and what is below it
abbrev pub on_top : List ℤ → (ℤ → List ℤ → Step) → Step
on_top [] f = Ok (0, [])
on_top (x ∷ stack) f = f x stack

-- what an operation does, where each read has this number
abbrev pub step_of : (ℕ → ℤ) → List ℤ → Operation → List ℤ → Step
step_of number p (Push x) stack = Ok (0, x ∷ stack)
step_of number p (PushIndex axis) stack = Ok (0, slice_index_or p axis (pos 0) ∷ stack)
step_of number p (PushRead read) stack = Ok (0, number read ∷ stack)
step_of number p Negate stack = on_top stack (λ x below. push (exact (neg_ℤ x)) below)
step_of number p Absolute stack = on_top stack (λ x below. push (exact (pos (unsigned_abs x))) below)
step_of number p (Apply o) stack = on_top stack (λ y below. on_top below (λ x rest. push (result_of o x y) rest))
step_of number p (SkipIfZero count) stack = on_top stack (λ x below. Ok ((if int_eq x (pos 0) then count else 0), below))
step_of number p (Skip count) stack = Ok (count, stack)

-- what a run goes on with after a step
abbrev pub then_on : Step → (ℕ → List ℤ → Checked) → Checked
then_on (Ok r) next = next r.0 r.1
then_on (Err fault) next = Err fault

-- the number on top
abbrev pub top_of : List ℤ → ℤ
top_of [] = pos 0
top_of (x ∷ stack) = x

-- what operations come to, where so many of them are still to be passed over
abbrev pub outcome : (ℕ → ℤ) → List ℤ → List Operation → ℕ → List ℤ → Checked
outcome number p [] passed stack = Ok (top_of stack)
outcome number p (o ∷ os) (suc passed) stack = outcome number p os passed stack
outcome number p (o ∷ os) zero stack = then_on (step_of number p o stack) (outcome number p os)

-- what an operation needs: numbers to take, a place for one more, an axis of the position, a read that may be asked
abbrev pub CanStep : (ℕ → Type 0) → ℕ → ℕ → Operation → ℕ → Type 0
CanStep CanAsk dims places (Push x) height = height < places
CanStep CanAsk dims places (PushIndex axis) height = (axis < dims) × (height < places)
CanStep CanAsk dims places (PushRead read) height = CanAsk read × (height < places)
CanStep CanAsk dims places (Apply o) height = 2 ≤ height
CanStep CanAsk dims places (Skip count) height = Unit {0}
CanStep CanAsk dims places o height = 1 ≤ height

-- what holds after an operation, of how many are passed over and of how high the stack is
abbrev pub Leads : (ℕ → ℕ → Type 0) → Operation → ℕ → Type 0
Leads Next (Push x) height = Next 0 (height + 1)
Leads Next (PushIndex axis) height = Next 0 (height + 1)
Leads Next (PushRead read) height = Next 0 (height + 1)
Leads Next (Apply o) height = Next 0 (height - 1)
Leads Next (SkipIfZero count) height = Next count (height - 1) × Next 0 (height - 1)
Leads Next (Skip count) height = Next count height
Leads Next o height = Next 0 height

-- each operation that a run may come to has what it needs, and the run ends with one number on the stack
abbrev pub CanRun : (ℕ → Type 0) → ℕ → ℕ → List Operation → ℕ → ℕ → Type 0
CanRun CanAsk dims places [] zero height = height ≡ 1
CanRun CanAsk dims places [] (suc passed) height = ⊥
CanRun CanAsk dims places (o ∷ os) (suc passed) height = CanRun CanAsk dims places os passed height
CanRun CanAsk dims places (o ∷ os) zero height =
    CanStep CanAsk dims places o height × Leads (CanRun CanAsk dims places os) o height
