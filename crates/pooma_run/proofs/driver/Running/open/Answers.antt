use Rattle.std.proofs.Common.{◌≡◌, ◌∙◌, ap, pos, List, map}
use Rattle.std.specs.Prelude.{replicate}
use Rattle.std.specs.Arc.{arc_value}
use Rattle.std.specs.declared.alloc.Global.{Global}
use Rattle.std.specs.declared.sync.Arc.{Arc}
use Rattle.pooma_piece.specs.Pieces.{Pieced}
use Rattle.pooma_run.specs.contracts.driver.Running.{the_view}
use Rattle.pooma_run.proofs.Beginning.{is_of_first}
use Rattle.pooma_run.proofs.Opening.{opens}
use Rattle.pooma_run.proofs.driver.Running.open.Goals as goal

pub returns-clause-underway : goal.returns-clause-underway
returns-clause-underway c =
    let kept = the_view (record { stale = c.in_ok-stale.stale; store = c.in_ok-store.store; scalars = c.in_ok-scalars.scalars; pending = c.new-2.result; bytes = c.new-3.result }) in
    let scalars : c.in_ok-scalars.scalars.items ≡ replicate c.args.program.now.declared.scalars (pos 0) =
    c.in_ok-scalars.ensures ∙ ap (λ n. replicate n (pos 0)) c.scalars.ensures in
    opens c.laws_below.ensures c.args.program.now kept
    (is_of_first c.args.program.now kept c.in_ok-stale.ensures.declared c.in_ok-stale.ensures.marks c.in_ok-stale.ensures.words c.in_ok-store.ensures.shapes c.in_ok-store.ensures.layouts
    c.objects-objects.ensures.valid c.in_ok-store.ensures.home scalars)
    c.in_ok-stale.ensures.marks c.in_ok-store.ensures.objects scalars (ap (λ (works : List (Arc Pieced Global)). map arc_value works) c.new-2.ensures.items) c.new-3.ensures.items
