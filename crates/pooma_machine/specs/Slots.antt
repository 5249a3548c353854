-- Where the objects' values are, and what they stand for.
use Rattle.std.specs.Prelude.{ℕ, List, map, filter_map, Option, Some, None, slice_get, option_map, option_and_then}
use Rattle.std.specs.Arc.{arc_value}
use Rattle.std.specs.declared.alloc.Global.{Global}
use Rattle.std.specs.declared.sync.Arc.{Arc}
use Rattle.pooma_machine.specs.declared.step.Request.{Request}
use Rattle.pooma_machine.specs.declared.slot.Slot.{Slot}
use Rattle.pooma_machine.specs.declared.slot.Slot.TheVariants.{Shared, Owned, Away}
use Rattle.pooma_machine.specs.Values.{Lent, read_objects, written_object}

-- the contents of shared values
abbrev pub contents : {V C : Type 0} → (V → C) → List (Arc V Global) → List C
contents content values = map (λ arc. content (arc_value arc)) values

-- the contents of a value that is lent to write, if there is one, and of those that are lent to read
abbrev pub contents_of : {V C : Type 0} → (V → C) → Option V → List (Arc V Global) → Lent C
contents_of content written reads = record { written = option_map content written; reads = contents content reads }

-- the content of a value that isn't lent to write
abbrev pub content_in : {V C : Type 0} → (V → C) → Slot V → Option C
content_in content (Shared arc) = Some (content (arc_value arc))
content_in content (Owned value) = Some (content value)
content_in content Away = None

-- the content of the object of this number, if it is there and isn't lent to write
abbrev pub home_at : {C : Type 0} → List (Option C) → ℕ → Option C
home_at homes object = option_and_then (λ home. home) (slice_get homes object)

-- what the objects that are there lend to read to an entry with these requests
abbrev pub reads_from : {C : Type 0} → List (Option C) → List Request → List C
reads_from homes requests = filter_map (home_at homes) (read_objects requests)

-- what they lend to it in all
abbrev pub lent_from : {C : Type 0} → List (Option C) → List Request → Lent C
lent_from homes requests = record { written = option_and_then (home_at homes) (written_object requests); reads = reads_from homes requests }
