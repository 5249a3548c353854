use Rattle.std.proofs.Common.{◌∙◌, ◌++◌, ◌∷◌, [], ap, false, arith, length-set, get_or, IsOk}
use Rattle.pooma_queue.specs.declared.queue.Mode.TheVariants.{Read}
use Rattle.pooma_machine.specs.declared.step.Request.{Request}
use Rattle.pooma_queue.specs.Requests.{Waiting}
use Rattle.pooma_machine.proofs.Queues.{entered_more, queue_read, line_not_yet, room_not_yet, on_ok_holds}
use Rattle.pooma_machine.proofs.lines.Lines.enter.Goals as goal

pub push-requires : goal.push-requires
push-requires c =
    let d : Request = record { object = 0; mode = Read } in
    let object = (get_or c.args.requests.now c.loop-request.request-index d).object in
    let within = c.requires.objects c.loop-request.request-index d c.loop-request-test.true in
    let same = c.loop-request.invariant.1 in
    let read = c.index_mut.ensures.value ∙ queue_read c.loop-request.self-inside.queues.items object c.index_mut.result.now (omega (arith, within)) in
    let line_is = line_not_yet c.args.self.now c.loop-request.self-inside.queues.items c.args.entry c.args.requests.now c.loop-request.request-index d c.requires.form c.loop-request-test.true c.loop-request.invariant.0 in
    rw (read, line_is) (c.requires.later object)

pub loop-request-preserved : goal.loop-request-preserved
loop-request-preserved c =
    let d : Request = record { object = 0; mode = Read } in
    let object = (get_or c.args.requests.now c.loop-request.request-index d).object in
    let within = c.requires.objects c.loop-request.request-index d c.loop-request-test.true in
    let same = c.loop-request.invariant.1 in
    let read = c.index_mut.ensures.value ∙ queue_read c.loop-request.self-inside.queues.items object c.index_mut.result.now (omega (arith, within)) in
    let room_is = room_not_yet c.args.self.now c.loop-request.self-inside.queues.items c.args.entry c.args.requests.now c.loop-request.request-index d c.requires.form c.loop-request-test.true c.loop-request.invariant.0 in
    let had = c.requires.room c.loop-request.request-index d c.loop-request-test.true in
    let read_room = ap (λ (w : Waiting). w.room) read in
    let pushed : IsOk c.push.result = c.push.ensures.succeeds (omega (arith, read_room, room_is, had)) in
    let room = on_ok_holds c.push.result _ c.push.ensures.room pushed in (
      entered_more c.args.self.now c.loop-request.self-inside.queues.items c.args.entry c.args.requests.now c.loop-request.request-index d c.push.new.self c.requires.form c.loop-request-test.true
          (omega (arith, within))
          (on_ok_holds c.push.result _ c.push.ensures.ok pushed ∙ ap (λ (w : Waiting). w.requests ++ (record { entry = c.args.entry; mode = (get_or c.args.requests.now c.loop-request.request-index d).mode; released = false }) ∷ []) read)
          (omega (arith, read_room, room))
          c.loop-request.invariant.0,
      length-set c.loop-request.self-inside.queues.items object c.push.new.self ∙ same,
    )
