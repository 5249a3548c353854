use Rattle.pooma_model.proofs.Walks.{end_is_passed, end_walks, repeat_walks, statement_walks}
use Rattle.pooma_model.proofs.walk.Walk.next.Goals as goal

pub invariant_of-self-in-Do : goal.invariant_of-self-in-Do
invariant_of-self-in-Do c =
    statement_walks _ _ _ _ c.walking-test.true c.walking.invariant _ c.in-Do.statement c.in-Do.is

pub walking-preserved-in-Repeat : goal.walking-preserved-in-Repeat
walking-preserved-in-Repeat c =
    rw c.begin.ensures
    (repeat_walks _ _ _ _ c.walking-test.true c.walking.invariant _ c.in-Repeat.turns c.in-Repeat.is)

pub walking-smaller : goal.walking-smaller
walking-smaller c =
    rw (c.pass_end-self-inside.ensures.place, c.pass_end-self-inside.ensures.turns)
    (end_is_passed _ _ _ _ c.walking-test.true c.walking.invariant _ c.in-End.is)

pub walking-preserved : goal.walking-preserved
walking-preserved c =
    rw (c.pass_end-self-inside.ensures.place, c.pass_end-self-inside.ensures.turns)
    (end_walks _ _ _ _ c.walking-test.true c.walking.invariant _ c.in-End.is)
