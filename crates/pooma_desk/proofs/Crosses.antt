-- A pass may go to another thread, and threads may share a desk, where the machine behind it may go to another thread.
use denote.RattleType.{RattleType}
use denote.Param.Send.{IsSend, IsSync, sendable}
use Rattle.std.proofs.Crossing.{crosses, send, sync}
use Rattle.std.specs.contracts.alloc.Global as Heap
use Rattle.std.specs.contracts.prelude.GlobalAllocator.TheImpl as heap
use Rattle.std.specs.contracts.option.Option as Option
use Rattle.atomic_table.specs.declared.shared.TableRule as rule
use Rattle.atomic_table.specs.contracts.owned.Table as Kept
use Rattle.atomic_table.specs.contracts.shared.Seat as Seat
use Rattle.atomic_table.proofs.shared.Seat.TheSendSync as seat
use Rattle.atomic_table.proofs.shared.Shared.TheSendSync as shared
use Rattle.atomic_table.proofs.send_lease.SendLease.TheSendSync as leases
use Rattle.pooma_machine.specs.declared.work.Work.{Ghosts}
use Rattle.pooma_machine.specs.contracts.lines.Lines as Lines
use Rattle.pooma_machine.specs.contracts.objects.Objects as Objects
use Rattle.pooma_machine.specs.contracts.table.Table as Table
use Rattle.pooma_machine.specs.contracts.machine.Machine as Machine
use Rattle.pooma_desk.specs.contracts.pass.Pass as Pass
use Rattle.pooma_desk.specs.contracts.desk.Desk as Desk
use Rattle.pooma_desk.specs.contracts.sight.Sight as Sight
use Rattle.pooma_desk.specs.contracts.sight.Start as Start
use Rattle.pooma_desk.specs.contracts.sight.OneHistory as History
use Rattle.pooma_desk.specs.contracts.sight.OneHistoryTableRuleOptionMachineSightStart.TheImpl as impl

Lines-send : IsSend Lines.the_row
Lines-send = search (sendable, crosses) depth 20

Kept-sync : (S V K P : RattleType) (t : rule.Ghosts P.Denot S.Denot V.Denot K.Denot) → IsSend S → IsSync (Kept.the_field S V K P Heap.the_row t heap.ghosts).row
Kept-sync S V K P t s = search (sendable, crosses, shared.the_sync, leases.the_sync, send, sync) depth 20

module _ (W V O C S : RattleType) (g : Ghosts W.Denot V.Denot O.Denot C.Denot S.Denot) where
  Objects-send : IsSend V → IsSync V → IsSend (Objects.the_row W V O C S g)
  Objects-send sv yv = search (sendable, crosses) depth 20

  Table-send : IsSend W → IsSync W → IsSend (Table.the_row W V O C S g)
  Table-send sw yw = let lines = Lines-send in search (sendable, crosses) depth 20

  Machine-send : IsSend W → IsSync W → IsSend V → IsSync V → IsSend O → IsSend (Machine.the_row W V O C S g)
  Machine-send sw yw sv yv so = let objects = Objects-send sv yv in let table = Table-send sw yw in search (sendable, crosses) depth 20

  slot_send : IsSend W → IsSync W → IsSend V → IsSync V → IsSend O → IsSend (Option.the_row (Machine.the_row W V O C S g))
  slot_send sw yw sv yv so = let machine = Machine-send sw yw sv yv so in search sendable depth 20

  pub Pass-send : IsSend W → IsSync W → IsSend V → IsSync V → IsSend O → IsSend (Pass.the_row W V O C S g)
  Pass-send sw yw sv yv so =
      let place : IsSend (Seat.the_row (Option.the_row (Machine.the_row W V O C S g)) (Sight.the_row W V O C S g)) = seat.the_send _ _ (slot_send sw yw sv yv so) in
      search sendable depth 20

  pub Desk-sync : IsSend W → IsSync W → IsSend V → IsSync V → IsSend O → IsSync (Desk.the_row W V O C S g)
  Desk-sync sw yw sv yv so =
      let table = Kept-sync (Option.the_row (Machine.the_row W V O C S g)) (Sight.the_row W V O C S g) (Start.the_row W V O C S g) History.the_row (impl.ghosts W V O C S g impl.no_dict impl.no_dict impl.no_dict impl.no_dict) (slot_send sw yw sv yv so) in
      search sendable depth 20
