use Rattle.std.proofs.Common.{Err, ap}
use Rattle.pooma_top.proofs.Promises.{long_prepared, ok_kept, whole_prepared}
use Rattle.pooma_top.proofs.prepared.read_script.Goals as goal
use Rattle.pooma_top.proofs.prepared.read_script.Goals.{in-Ok, in-Err-TooLong}

pub returns-clause-prepared : goal.returns-clause-prepared
returns-clause-prepared g c =
    ok_kept
    c.match-read_all.prepared
    c.in_memory.result
    _
    c.in_memory.ensures
    (λ prepared is.
    elim c.match-read_all.branch [
      | in-Ok w ↦ (let found = rw (w.deref.ensures.value, ← w.prepared-is, is) at w.checked-prepared.ensures.prepared in
          whole_prepared _ _ _ _ _ w.in-Ok.ensures.bytes w.in-Ok.ensures.end found)
      | in-Err-TooLong w ↦ (let found = rw (← w.prepared-is, is) at w.refuse-prepared.ensures.answered in
          long_prepared _ _ _ _ _ _ (w.in-Err-TooLong.ensures.too_long (ap Err w.in-Err-TooLong.field-0-is)) w.too_long.ensures.line w.too_long.ensures.cause found)
    ])
