use Rattle.std.proofs.Common.{length}
use Rattle.pooma_script.proofs.places.+has_room.Given as goal

-- the SUBs that are left
abbrev pub decreases-has_room : goal.decreases-has_room
decreases-has_room l = length l.subs.now
