use Rattle.std.proofs.Common.{◌∙◌, sym}
use Rattle.pooma_run.proofs.Earliest.{none_before, before_none}
use Rattle.pooma_run.proofs.faults.+is_before.Goals as goal
use Rattle.pooma_run.proofs.faults.+is_before.Goals.{then-dims-eq0-via-then-dims-eq0, then-dims-eq0-via-else-dims-eq0+then-dims-eq0-2}

pub returns-then-dims-eq0 : goal.returns-then-dims-eq0
returns-then-dims-eq0 t c =
    elim c.then-dims-eq0.branch [
      | then-dims-eq0-via-then-dims-eq0 w ↦ none_before c.args.a.now c.args.b.now (sym c.dims.ensures.value ∙ w.if-dims-eq0.true)
      | then-dims-eq0-via-else-dims-eq0+then-dims-eq0-2 w ↦ before_none c.args.a.now c.args.b.now (sym w.dims-else-dims-eq0.ensures.value ∙ w.if-dims-eq0-2.true)
    ]
