use Rattle.std.proofs.Common.{◌∙◌, ap, map, arith, length-set, get_or}
use Rattle.pooma_queue.specs.declared.queue.Mode.TheVariants.{Read}
use Rattle.pooma_machine.specs.declared.step.Request.{Request}
use Rattle.pooma_queue.specs.Requests.{Waiting, let_go}
use Rattle.pooma_machine.proofs.Queues.{let_go_more, queue_read}
use Rattle.pooma_machine.proofs.lines.Lines.let_go.Goals as goal

pub loop-request-preserved : goal.loop-request-preserved
loop-request-preserved c =
    let d : Request = record { object = 0; mode = Read } in
    let object = (get_or c.args.requests.now c.loop-request.request-index d).object in
    let within = c.requires.objects c.loop-request.request-index d c.loop-request-test.true in
    let same = c.loop-request.invariant.1 in
    let read = c.index_mut.ensures.value ∙ queue_read c.loop-request.self-inside.queues.items object c.index_mut.result.now (omega (arith, within)) in (
      let_go_more c.args.self.now c.loop-request.self-inside.queues.items c.args.entry c.args.requests.now c.loop-request.request-index d c.release_entry.new.self c.requires.form c.loop-request-test.true
          (omega (arith, within))
          (c.release_entry.ensures.requests ∙ ap (λ (w : Waiting). map (let_go c.args.entry) w.requests) read)
          (c.release_entry.ensures.room ∙ ap (λ (w : Waiting). w.room) read)
          c.loop-request.invariant.0,
      length-set c.loop-request.self-inside.queues.items object c.release_entry.new.self ∙ same,
    )
