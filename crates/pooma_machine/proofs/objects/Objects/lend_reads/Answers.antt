use Rattle.std.proofs.Common.{◌∙◌, ◌++◌, ◌∷◌, [], ap, sym, get_or}
use Rattle.std.proofs.lemmas.List.{map-append}
use Rattle.std.proofs.Math.Seq.{map-set_same}
use Rattle.std.specs.Arc.{arc_value}
use Rattle.pooma_queue.specs.declared.queue.Mode.TheVariants.{Read}
use Rattle.pooma_machine.specs.declared.step.Request.{Request}
use Rattle.pooma_machine.specs.Slots.{content_in, home_at}
use Rattle.pooma_machine.proofs.Lending.{image_at, image_within, lends_read, lends_nothing}
use Rattle.pooma_machine.proofs.objects.Objects.lend_reads.Goals.{then-not-is_write+in_ok-share+in_ok-push, else-not-is_write}
use Rattle.pooma_machine.proofs.objects.Objects.lend_reads.Goals as goal

pub returns-in_err-share-clause-same : goal.returns-in_err-share-clause-same
returns-in_err-share-clause-same g c =
    let f = content_in g.W.Work.content in
    map-set_same f c.loop-request.self-inside.slots.items _ c.share.new.slot c.index_mut.result.now (c.share.ensures.content ∙ ap f c.index_mut.ensures.value) ∙ c.loop-request.invariant.same

pub returns-in_err-push-clause-same : goal.returns-in_err-push-clause-same
returns-in_err-push-clause-same g c =
    let f = content_in g.W.Work.content in
    map-set_same f c.loop-request.self-inside.slots.items _ c.share.new.slot c.index_mut.result.now (c.share.ensures.content ∙ ap f c.index_mut.ensures.value) ∙ c.loop-request.invariant.same

pub loop-request-preserved : goal.loop-request-preserved
loop-request-preserved g c =
    let f = content_in g.W.Work.content in
    let d : Request = record { object = 0; mode = Read } in
    let i = c.loop-request.request-index in
    let object = (get_or c.args.requests.now i d).object in
    let same = c.loop-request.invariant.same in
    let read = c.loop-request.invariant.read in
    elim c.if-not-is_write.branch [
      | then-not-is_write+in_ok-share+in_ok-push w ↦
          let there = rw (← same) at (c.requires i d c.loop-request-test.true) in
          let within = image_within f c.loop-request.self-inside.slots.items object there in
          let value = ap (λ homes. home_at homes object) (sym same) ∙ (image_at f c.loop-request.self-inside.slots.items object w.index_mut.result.now within ∙ (sym (ap f w.index_mut.ensures.value) ∙ w.in_ok-share.ensures.ok)) in
          record {
            same = rw w.self-inside-is (map-set_same f c.loop-request.self-inside.slots.items object w.share.new.slot w.index_mut.result.now (w.share.ensures.content ∙ ap f w.index_mut.ensures.value) ∙ same);
            read = rw (w.reads-is, w.in_ok-push.ensures.items) (map-append (λ arc. g.W.Work.content (arc_value arc)) c.loop-request.reads.items (w.in_ok-share.field-0 ∷ []) ∙ (ap (λ xs. xs ++ g.W.Work.content (arc_value w.in_ok-share.field-0) ∷ []) read
                ∙ sym (lends_read (home_at c.args.self.now) c.args.requests.now i d (g.W.Work.content (arc_value w.in_ok-share.field-0)) c.loop-request-test.true (sym c.is_write.ensures ∙ w.if-not-is_write.true) value)));
          }
      | else-not-is_write w ↦
          record {
            same = rw w.self-inside-is same;
            read = rw w.reads-is (read ∙ sym (lends_nothing (home_at c.args.self.now) c.args.requests.now i d c.loop-request-test.true (sym c.is_write.ensures ∙ w.if-not-is_write.false)));
          }
    ]
