-- What is told of a window: its entries and its events.
use Rattle.std.specs.Prelude.{◌≡◌, ◌++◌, ◌∷◌, [], List, map, Option, Some, None}
use Rattle.pooma_machine.specs.declared.step.Event.{Event}
use Rattle.pooma_machine.specs.declared.journal.Entry.{Entry}
use Rattle.pooma_machine.specs.Values.{Meaning}
use Rattle.pooma_machine.specs.Told.{Window}

-- what a work is told as
abbrev pub entry_of : {W V O S : Type 0} → Meaning W V O S → W → Entry
entry_of meaning work = record { statement = meaning.statement work; requests = meaning.requests work }

-- the window of a machine with these works and this history
abbrev pub window_of : {W V O S : Type 0} → Meaning W V O S → List W → List Event → Window
window_of meaning plan history = record { entries = map (entry_of meaning) plan; events = history }

-- where the windows are known, this one was added at their end; where they are not, they still are not
abbrev pub Tells : Option (List Window) → Option (List Window) → Window → Type 0
Tells None new window = new ≡ None
Tells (Some windows) new window = new ≡ Some (windows ++ window ∷ [])
