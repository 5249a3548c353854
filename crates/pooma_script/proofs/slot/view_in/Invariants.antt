use Rattle.std.proofs.Common.{◌≡◌, ℕ, ◌<◌, length, take}
use Rattle.std.specs.Prelude.{map, slice_index_or}
use Rattle.pooma_parse.specs.declared.form.RawSub.{RawSub}
use Rattle.pooma_script.specs.Ends.{IsShort}
use Rattle.pooma_script.specs.Views.{slot_of}
use Rattle.pooma_script.proofs.slot.view_in.Given as goal

-- the slots so far
abbrev pub invariant-loop-n : goal.invariant-loop-n
invariant-loop-n l = (length l.slots ≡ 3) × (take l.n l.slots ≡ map slot_of (take l.n l.subs))
    × ((k : ℕ) → k < l.n → (d : RawSub) → IsShort (slice_index_or l.subs k d))
