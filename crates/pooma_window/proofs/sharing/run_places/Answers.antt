use denote.Param.{param}
use denote.Param.Send.{sendable, param_send, param_sync}
use Rattle.std.proofs.Common.{None, get_or}
use Rattle.std.proofs.Crossing.{crosses}
use Rattle.pooma_desk.proofs.Crosses.{Pass-send, Desk-sync}
use Rattle.pooma_window.proofs.Seated.{zip_each, stays_at}
use Rattle.pooma_window.proofs.sharing.run_places.Lts.{arg-0-1, arg-0-2}
use Rattle.pooma_window.proofs.sharing.run_places.Goals as goal

pub for_each_mut-requires-send-T : goal.for_each_mut-requires-send-T
for_each_mut-requires-send-T g c κs within =
    let b = c.type_bounds in
    let pass = Pass-send (param 0 g.row.W) (param 3 g.row.W-Value) (param 4 g.row.W-Outcome) (param 5 g.row.W-Content) (param 6 g.row.W-Shape) g.W.Work b.send-W b.sync-W b.send-W-Value b.sync-W-Value b.send-W-Outcome in
    param_send 1 (arg-0-1 g.row.W g.row.R g.row.G g.row.W-Value g.row.W-Outcome g.row.W-Content g.row.W-Shape g.W.laws g.R.laws g.G.laws g.W.Value.laws g.W.Outcome.laws g.W.Content.laws g.W.Shape.laws g.W.Work g.W.Work-dict g.R.Threads g.R.Threads-dict g.R.Wait g.R.Wait-dict g.G.Gate g.G.Gate-dict g.W.Destruct-dict g.W.Value.Destruct-dict g.W.Outcome.Destruct-dict κs) (search (sendable, crosses) depth 20)

pub for_each_mut-requires-sync-F : goal.for_each_mut-requires-sync-F
for_each_mut-requires-sync-F g c κs within =
    let b = c.type_bounds in
    let rt = b.sync-R in
    let gate = b.sync-G in
    let desk = Desk-sync (param 0 g.row.W) (param 3 g.row.W-Value) (param 4 g.row.W-Outcome) (param 5 g.row.W-Content) (param 6 g.row.W-Shape) g.W.Work b.send-W b.sync-W b.send-W-Value b.sync-W-Value b.send-W-Outcome in
    param_sync 2 (arg-0-2 g.row.W g.row.R g.row.G g.row.W-Value g.row.W-Outcome g.row.W-Content g.row.W-Shape g.W.laws g.R.laws g.G.laws g.W.Value.laws g.W.Outcome.laws g.W.Content.laws g.W.Shape.laws g.W.Work g.W.Work-dict g.R.Threads g.R.Threads-dict g.R.Wait g.R.Wait-dict g.G.Gate g.G.Gate-dict g.W.Destruct-dict g.W.Value.Destruct-dict g.W.Outcome.Destruct-dict κs) (search (sendable, crosses) depth 20)

pub returns : goal.returns
returns g c =
    let desk = c.args.desk.now in
    let olds = c.args.places.now in
    let news = c.for_each_mut.new.s in
    zip_each desk olds news c.for_each_mut.auto.s (λ k within.
    let each = (c.for_each_mut.ensures k None within).1 in
    stays_at desk each.argument.now (get_or olds k None) each.after_call.now (get_or news k None) each.argument_is each.left each.call)
