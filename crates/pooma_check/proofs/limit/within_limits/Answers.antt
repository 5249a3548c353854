use Rattle.pooma_script.specs.Limits.{late_limits}
use Rattle.pooma_script.specs.Tests.{IsWithin}
use Rattle.pooma_check.specs.Kept.{known_of}
use Rattle.pooma_check.proofs.Cuttable.{action_can_be_cut}
use Rattle.pooma_check.proofs.LimitOrder.{early_limits, found_in_front}
use Rattle.pooma_check.proofs.limit.within_limits.Goals as goal

pub returns-in-Some-clause-stops : goal.returns-in-Some-clause-stops
returns-in-Some-clause-stops c =
    found_in_front (λ l. IsWithin l c.args.number (known_of c.args.known.now) c.args.text.now c.args.form.now) early_limits late_limits c.in-Some.limit c.in-Some.ensures

pub first_passed_by_action-requires-clause-cut : goal.first_passed_by_action-requires-clause-cut
first_passed_by_action-requires-clause-cut c =
    action_can_be_cut (known_of c.args.known.now) c.args.text.now c.args.form.now c.in_ok-does.does c.requires.sound c.in_ok-does.ensures.action c.in_ok-does.ensures.positions
