use denote.Param.Send.{IsSend, IsSync, sendable, param_send}
use denote.Builtin.{u64, unit}
use Rattle.std.proofs.Crossing.{crosses}
use Rattle.pooma_desk.specs.contracts.pass.Pass as Pass
use Rattle.pooma_desk.specs.contracts.desk.Desk as Desk
use Rattle.pooma_desk.proofs.Crosses.{Pass-send, Desk-sync}
use Rattle.pooma_iterate_tests.specs.contracts.desk.Adding as Adding
use Rattle.pooma_iterate_tests.specs.contracts.desk.AddingWork.TheImpl.{ghosts}
use Rattle.pooma_iterate_tests.specs.contracts.worker.Counting as Counting
use Rattle.pooma_iterate_tests.proofs.worker.two_loops.Lts.{arg-0-1, arg-0-3}
use Rattle.pooma_iterate_tests.proofs.worker.two_loops.Goals as goal

-- as for the test of threads: passes of the desk may go to other threads, and the desk may be shared
adding_send : IsSend Adding.the_row
adding_send = search (sendable, crosses) depth 20

adding_sync : IsSync Adding.the_row
adding_sync = search (sendable, crosses) depth 20

number_send : IsSend u64
number_send = search sendable

number_sync : IsSync u64
number_sync = search sendable

unit_send : IsSend unit
unit_send = search sendable

pass_send : IsSend (Pass.the_row Adding.the_row u64 unit u64 unit ghosts)
pass_send = Pass-send Adding.the_row u64 unit u64 unit ghosts adding_send adding_sync number_send number_sync unit_send

desk_sync : IsSync (Desk.the_row Adding.the_row u64 unit u64 unit ghosts)
desk_sync = Desk-sync Adding.the_row u64 unit u64 unit ghosts adding_send adding_sync number_send number_sync unit_send

counting_sync : IsSync Counting.the_row
counting_sync = search (sendable, crosses) depth 20

pub join-one-requires-send-F : goal.join-one-requires-send-F
join-one-requires-send-F g c κs within =
    let pass = pass_send in
    let desk = desk_sync in
    let gate = counting_sync in
    param_send 1 (arg-0-1 g.row.R g.R.laws g.R.Threads-dict g.R.Wait-dict κs) (search sendable depth 20)

pub join-one-requires-send-A : goal.join-one-requires-send-A
join-one-requires-send-A g c κs within =
    let pass = pass_send in
    param_send 3 (arg-0-3 g.row.R g.R.laws g.R.Threads-dict g.R.Wait-dict κs) (search sendable depth 20)
