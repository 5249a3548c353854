-- Passes of the measured desk may go to other threads, and the desk may be shared.
use denote.Param.Send.{IsSend, IsSync, sendable}
use denote.Builtin.{u64, unit}
use Rattle.std.proofs.Crossing.{crosses}
use Rattle.std.specs.contracts.option.Option as Option
use Rattle.pooma_desk.specs.contracts.pass.Pass as Pass
use Rattle.pooma_desk.specs.contracts.desk.Desk as Desk
use Rattle.pooma_desk.proofs.Crosses.{Pass-send, Desk-sync}
use Rattle.pooma_bench.specs.contracts.increment.Increment as Increment
use Rattle.pooma_bench.specs.contracts.increment.IncrementWork.TheImpl.{ghosts}

increment_send : IsSend Increment.the_row
increment_send = search (sendable, crosses) depth 20

increment_sync : IsSync Increment.the_row
increment_sync = search (sendable, crosses) depth 20

number_send : IsSend u64
number_send = search sendable

number_sync : IsSync u64
number_sync = search sendable

outcome_send : IsSend (Option.the_row u64)
outcome_send = search sendable depth 20

pub pass_send : IsSend (Pass.the_row Increment.the_row u64 (Option.the_row u64) u64 unit ghosts)
pass_send = Pass-send Increment.the_row u64 (Option.the_row u64) u64 unit ghosts increment_send increment_sync number_send number_sync outcome_send

pub desk_sync : IsSync (Desk.the_row Increment.the_row u64 (Option.the_row u64) u64 unit ghosts)
desk_sync = Desk-sync Increment.the_row u64 (Option.the_row u64) u64 unit ghosts increment_send increment_sync number_send number_sync outcome_send
