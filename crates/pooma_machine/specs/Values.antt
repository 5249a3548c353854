-- What a work means, and the objects' contents and the outcomes that a history gives. A value is seen here as its content:
-- what it stands for, however it is kept.
use Rattle.std.specs.Prelude.{◌==◌, ◌<◌, ℕ, Bool, true, false, IsTrue, List, [], map, length, slice_get, slice_set, Option, None, Some, find, filter, filter_map, fold, option_map, option_and_then, if◌then◌else◌}
use Rattle.pooma_queue.specs.declared.queue.Mode.{Mode}
use Rattle.pooma_queue.specs.declared.queue.Mode.TheVariants.{Read, Write}
use Rattle.pooma_machine.specs.declared.step.Request.{Request}
use Rattle.pooma_machine.specs.declared.step.Event.{Event}
use Rattle.pooma_machine.specs.declared.step.EventKind.{EventKind}
use Rattle.pooma_machine.specs.declared.step.EventKind.TheVariants as kind
use Rattle.pooma_machine.specs.Steps.{status_of, is_released}

-- what works of type W mean over values with contents V, with outcomes O and shapes S
pub record Meaning (W V O S : Type 0) : Type 0 where
  -- the number of the statement that the work is a part of
  pub statement : W → ℕ
  -- what it asks for
  pub requests : W → List Request
  -- the new content of the object that it writes, from the old one and those that it reads
  pub new_value : W → V → List V → V
  -- what it answers, from the same contents
  pub outcome : W → Option V → List V → O
  -- the shape of a content
  pub shape : V → S
  -- whether it fits objects of these shapes: of the one that it writes, and of those that it reads
  pub fits : W → Option S → List S → Bool

-- what is lent to an entry: the content of the object that it writes, if it writes one, and of those that it reads
pub record Lent (V : Type 0) : Type 0 where
  pub written : Option V
  pub reads : List V

abbrev pub is_write : Mode → Bool
is_write Read = false
is_write Write = true

abbrev pub is_read : Mode → Bool
is_read Read = true
is_read Write = false

-- the object that these requests ask to write, if they ask to write one
abbrev pub written_object : List Request → Option ℕ
written_object requests = option_map (λ r. r.object) (find (λ r. is_write r.mode) requests)

-- the objects that they ask to read
abbrev pub read_objects : List Request → List ℕ
read_objects requests = map (λ r. r.object) (filter (λ r. is_read r.mode) requests)

-- what objects of these contents lend to an entry with these requests
abbrev pub lent_by : {V : Type 0} → List V → List Request → Lent V
lent_by objects requests =
    record {
      written = option_and_then (slice_get objects) (written_object requests);
      reads = filter_map (slice_get objects) (read_objects requests);
    }

-- the objects' contents, with this one given back
abbrev pub put_back : {V : Type 0} → List V → Option ℕ → Option V → List V
put_back objects (Some object) (Some value) = slice_set objects object value
put_back objects (Some object) None = objects
put_back objects None value = objects

-- the function, with another value at one place
abbrev pub with_at : {X : Type 0} → (ℕ → X) → ℕ → X → ℕ → X
with_at f j x k = if k == j then x else f k

-- the objects' present contents; what was lent to each entry that was dispatched; the outcome of each that was released
pub record Values (V O : Type 0) : Type 0 where
  pub objects : List V
  pub lent : ℕ → Lent V
  pub outcome : ℕ → Option O

-- before the first event
abbrev pub opened : {V O : Type 0} → List V → Values V O
opened opening = record { objects = opening; lent = λ j. record { written = None; reads = [] }; outcome = λ j. None }

-- a dispatch lends the present contents of the entry's objects
abbrev pub lend : {W V O S : Type 0} → Meaning W V O S → ℕ → W → Values V O → Values V O
lend meaning j work now =
    record { objects = now.objects; lent = with_at now.lent j (lent_by now.objects (meaning.requests work)); outcome = now.outcome }

-- the work fits what is lent to it
abbrev pub FitsLent : {W V O S : Type 0} → Meaning W V O S → W → Lent V → Type 0
FitsLent meaning work lent = IsTrue (meaning.fits work (option_map meaning.shape lent.written) (map meaning.shape lent.reads))

-- the new content of the object that the work writes, from what was lent to it
abbrev pub new_value_of : {W V O S : Type 0} → Meaning W V O S → W → Lent V → Option V
new_value_of meaning work lent = option_map (λ old. meaning.new_value work old lent.reads) lent.written

-- what the work answers, from what was lent to it
abbrev pub outcome_of : {W V O S : Type 0} → Meaning W V O S → W → Lent V → O
outcome_of meaning work lent = meaning.outcome work lent.written lent.reads

-- a release puts the new content back, and keeps the outcome
abbrev pub give_back : {W V O S : Type 0} → Meaning W V O S → ℕ → W → Values V O → Values V O
give_back meaning j work now =
    record {
      objects = put_back now.objects (written_object (meaning.requests work)) (new_value_of meaning work (now.lent j));
      lent = now.lent;
      outcome = with_at now.outcome j (Some (outcome_of meaning work (now.lent j)));
    }

-- what an event of an entry with this work makes of them
abbrev pub values_next : {W V O S : Type 0} → Meaning W V O S → EventKind → ℕ → Option W → Values V O → Values V O
values_next meaning kind.Request j work now = now
values_next meaning kind.Dispatch j None now = now
values_next meaning kind.Dispatch j (Some work) now = lend meaning j work now
values_next meaning kind.Release j None now = now
values_next meaning kind.Release j (Some work) now = give_back meaning j work now

-- what they are after one further event
abbrev pub values_after : {W V O S : Type 0} → Meaning W V O S → List W → Values V O → Event → Values V O
values_after meaning plan now event = values_next meaning event.kind event.entry (slice_get plan event.entry) now

-- what a history of the plan's entries gives
abbrev pub values : {W V O S : Type 0} → Meaning W V O S → List W → List V → List Event → Values V O
values meaning plan opening history = fold (values_after meaning plan) (opened opening) history

-- each entry of the plan was released
abbrev pub IsComplete : {W : Type 0} → List W → List Event → Type 0
IsComplete plan history = (j : ℕ) → j < length plan → IsTrue (is_released (status_of history j))

-- what contracts see of a machine
pub record Account (W V : Type 0) : Type 0 where
  -- the work of each entry
  pub plan : List W
  -- the objects' contents before the first event
  pub opening : List V
  -- what has happened
  pub history : List Event
  -- for how many further entries there surely is room
  pub spare : ℕ

-- what contracts see of a loan, and of what comes back for it: the entry, its work and the contents lent to it
pub record Loaned (W V : Type 0) : Type 0 where
  pub entry : ℕ
  pub work : W
  pub lent : Lent V

-- what the entries of a plan ask for
abbrev pub asks_of : {W V O S : Type 0} → Meaning W V O S → List W → List (List Request)
asks_of meaning plan = map meaning.requests plan
