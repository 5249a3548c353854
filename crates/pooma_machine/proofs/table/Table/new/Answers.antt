use Rattle.std.proofs.Common.{refl, arith}
use Rattle.pooma_machine.proofs.Keeps.{kept_empty, room_empty}
use Rattle.pooma_machine.proofs.table.Table.new.Goals as goal

pub invariant_of-result : goal.invariant_of-result
invariant_of-result g c =
    rw (c.new.ensures.items, c.new-2.ensures.items, c.new-4.ensures.items) (kept_empty c.in_ok-new.field-0 c.in_ok-new.ensures.empty, room_empty c.in_ok-new.field-0 _ _ _, omega arith, refl)
