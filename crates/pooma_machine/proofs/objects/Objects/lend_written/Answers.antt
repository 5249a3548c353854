use Rattle.std.proofs.Common.{◌∙◌, ap, sym, map, IsSome}
use Rattle.std.proofs.lemmas.List.{map-set}
use Rattle.std.proofs.Math.Seq.{map-set_same}
use Rattle.pooma_machine.specs.Slots.{content_in, home_at}
use Rattle.pooma_machine.proofs.Lending.{image_at, image_within, on_err_holds}
use Rattle.pooma_machine.proofs.objects.Objects.lend_written.Goals as goal

pub returns-in_err-value-in-Some-clause-err : goal.returns-in_err-value-in-Some-clause-err
returns-in_err-value-in-Some-clause-err g c =
    let same = c.in_err-value-in-Some.ensures.err ∙ ap (content_in g.W.Work.content) c.index_mut.ensures.value in
    on_err_holds c.from_residual.result _ (rw (← c.self.view_is) (map-set_same (content_in g.W.Work.content) c.self.inside.slots.items c.in-Some.object c.take.new.slot c.index_mut.result.now same))

pub returns-in_ok-value-in-Some-clause-ok : goal.returns-in_ok-value-in-Some-clause-ok
returns-in_ok-value-in-Some-clause-ok g c =
    let there : IsSome (home_at (map (content_in g.W.Work.content) c.self.inside.slots.items) c.in-Some.object) = rw (← c.self.view_is, c.in-Some.is) at c.requires in
    let within = image_within (content_in g.W.Work.content) c.self.inside.slots.items c.in-Some.object there in
    rw (← c.self.view_is, c.in-Some.is) (sym (image_at (content_in g.W.Work.content) c.self.inside.slots.items c.in-Some.object c.index_mut.result.now within ∙ (sym (ap (content_in g.W.Work.content) c.index_mut.ensures.value) ∙ c.in_ok-value-in-Some.ensures.ok)))

pub returns-in_ok-value-in-Some-clause-away : goal.returns-in_ok-value-in-Some-clause-away
returns-in_ok-value-in-Some-clause-away g c =
    rw (← c.self.view_is, c.in-Some.is, ← c.in_ok-value-in-Some.ensures.away) (map-set (content_in g.W.Work.content) c.self.inside.slots.items c.in-Some.object c.take.new.slot)
