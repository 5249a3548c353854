use Rattle.pooma_check.proofs.Turns.{last_turns, no_turns}
use Rattle.pooma_check.proofs.repeats.turns_now.Goals as goal

pub returns-in-Some : goal.returns-in-Some
returns-in-Some c = last_turns c.args.known.now.draft.open_repeats c.deref.result.now c.in-Some.turns.now (rw c.deref.ensures.value c.requires) (rw c.in-Some.is at c.last.ensures.value)

pub returns-in-None : goal.returns-in-None
returns-in-None c = no_turns c.args.known.now.draft.open_repeats c.deref.result.now (rw c.deref.ensures.value c.requires) (rw c.in-None.is at c.last.ensures.value)
