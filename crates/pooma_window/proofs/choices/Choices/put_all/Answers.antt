use Rattle.pooma_window.proofs.choices.Choices.put_all.Goals as goal

pub returns-clause-ok : goal.returns-clause-ok
returns-clause-ok c = rw c.as_slice.ensures.entries at c.in_ok-entries.ensures.exactly
