use Rattle.std.proofs.Common.{refl, sym, subst}
use Rattle.pooma_check.specs.Kept.{IsKnown, known_of}
use Rattle.pooma_check.proofs.KnownAfter.{known_after}
use Rattle.pooma_check.proofs.Outcomes.{limited, stops_late}
use Rattle.pooma_check.proofs.line.read_sound.Goals as goal

pub returns-in-Stops-clause-refused : goal.returns-in-Stops-clause-refused
returns-in-Stops-clause-refused c =
    let first = rw c.in-Stops.is at c.in_ok-name.ensures.stops in
    rw c.refuse.ensures (refl, stops_late c.args.number (known_of c.args.known.now) c.args.text.now c.args.form.now c.in-Stops.name c.requires.sound first)

pub returns-in_ok-take-in-Goes-clause-kept : goal.returns-in_ok-take-in-Goes-clause-kept
returns-in_ok-take-in-Goes-clause-kept c =
    let goes = rw c.in-Goes.is at c.in_ok-name.ensures.goes in record {
      known = subst IsKnown (sym c.in_ok-take-in-Goes.ensures.known)
          (known_after c.args.number (known_of c.args.known.now) c.args.text.now c.args.form.now c.requires.kept.known
          (limited c.args.number (known_of c.args.known.now) c.args.text.now c.args.form.now goes.0));
      turns = c.in_ok-take-in-Goes.ensures.turns;
    }
