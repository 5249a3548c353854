use Rattle.std.proofs.Common.{◌≡◌, ◌<◌, ℕ, Bool, true, false, zero, suc, [], ◌∷◌, All, arith}
use Rattle.std.specs.Prelude.{if◌then◌else◌}
use Rattle.std.specs.Arc.{arc_value}
use Rattle.pooma_queue.specs.declared.queue.Mode.{Mode}
use Rattle.pooma_queue.specs.declared.queue.Mode.TheVariants.{Read, Write}
use Rattle.pooma_machine.specs.declared.step.Request.{Request}
use Rattle.pooma_iterate_tests.proofs.machine.take.Goals as goal

-- both objects are there
both_there : (first second : Mode) (objects : ℕ) → objects ≡ 2 → All (λ (r : Request). r.object < objects) ((record { object = 0; mode = first }) ∷ (record { object = 1; mode = second }) ∷ [])
both_there first second objects two zero d within = omega (arith, two)
both_there first second objects two (suc zero) d within = omega (arith, two)
both_there first second objects two (suc (suc k)) d within = absurd (omega (arith, within))

asks_both : (back : Bool) (objects : ℕ) → objects ≡ 2
    → All (λ (r : Request). r.object < objects) (if back then (record { object = 0; mode = Write }) ∷ (record { object = 1; mode = Read }) ∷ [] else (record { object = 0; mode = Read }) ∷ (record { object = 1; mode = Write }) ∷ [])
asks_both true objects two = both_there Write Read objects two
asks_both false objects two = both_there Read Write objects two

pub request-requires-clause-objects : goal.request-requires-clause-objects
request-requires-clause-objects c = asks_both (arc_value c.in_ok-work.work).back _ c.requires.both
