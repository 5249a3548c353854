use Rattle.std.proofs.Common.{◌∙◌, [], ap, option_map, sym}
use Rattle.std.proofs.lemmas.Option.{get_or_from_slice_get, slice_get-map}
use Rattle.pooma_queue.specs.declared.queue.Mode.TheVariants.{Read}
use Rattle.pooma_machine.specs.declared.step.Request.{Request}
use Rattle.pooma_machine.specs.Values.{asks_of}
use Rattle.pooma_window.proofs.Choosing.{all_over, next_over}
use Rattle.pooma_window.proofs.window.note_freed.Goals as goal

pub loop-request-preserved : goal.loop-request-preserved
loop-request-preserved g c =
    let d : Request = record { object = 0; mode = Read } in
    next_over (asks_of g.W.Work.meaning c.args.machine.now.plan) c.args.machine.now.history c.args.choices.now c.requests-request-items.result.now c.loop-request.request-index d
    c.loop-request.choices c.in_ok-ready.ready.items c.put_all.new.self c.loop-request-test.true c.loop-request.invariant c.in_ok-ready.ensures (rw c.deref.ensures.value at c.in_ok-put_all.ensures.ok)

pub returns : goal.returns
returns g c =
    let meaning = g.W.Work.meaning in
    let plan = c.args.machine.now.plan in
    let there = slice_get-map meaning.requests plan c.args.released ∙ ap (option_map meaning.requests) c.work.ensures.work in
    let asks = c.requests-request-items.ensures.requests ∙ sym (get_or_from_slice_get (asks_of meaning plan) c.args.released (meaning.requests c.work.result.now) [] there) in
    all_over (asks_of meaning plan) c.args.machine.now.history c.args.choices.now c.requests-request-items.result.now c.args.released c.loop-request.request-index
    c.loop-request.choices asks c.loop-request-test.false c.as_slice-ascending.ensures.ascending c.requires.freed c.loop-request.invariant
