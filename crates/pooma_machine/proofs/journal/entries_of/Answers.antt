use Rattle.std.proofs.Common.{refl}
use Rattle.std.proofs.lemmas.List.{map_more}
use Rattle.std.proofs.lemmas.List.Elements.{All-push}
use Rattle.std.proofs.lemmas.Option.{get_or_from_slice_get, slice_get_within}
use Rattle.pooma_machine.specs.declared.journal.Entry.{Entry}
use Rattle.pooma_machine.specs.Journal.{entry_of}
use Rattle.pooma_machine.specs.Steps.{IsRequestList}
use Rattle.pooma_machine.proofs.journal.entries_of.Goals as goal

pub loop-j-preserved : goal.loop-j-preserved
loop-j-preserved g c =
    let pushed = c.in_ok-push.ensures.items in
    let is = c.work-work.ensures.work in
    let more = map_more (entry_of g.W.Work.meaning) c.args.machine.now.plan c.loop-j.j c.work-work.result.now (slice_get_within c.args.machine.now.plan c.loop-j.j c.work-work.result.now is) in
    let here = get_or_from_slice_get c.args.machine.now.plan c.loop-j.j c.work-work.result.now c.work-work.result.now is in (
      rw (pushed, c.loop-j.invariant.0, more, here, c.statement.ensures, c.in_ok-from_slice.ensures, c.requests.ensures.requests) refl,
      rw pushed (All-push (λ (entry : Entry). IsRequestList entry.requests) c.loop-j.entries.items _ c.loop-j.invariant.1 (rw c.in_ok-from_slice.ensures c.requests.ensures.form)),
    )
