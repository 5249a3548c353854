use Rattle.pooma_window.proofs.window.run_entry.Goals as goal

pub returns-in-Ok-clause-freed : goal.returns-in-Ok-clause-freed
returns-in-Ok-clause-freed g c = rw (c.release-became.ensures.history, c.in-Ok.ensures.history, c.dispatch.ensures.plan, c.perform.ensures.entry, c.in-Ok.ensures.entry) at c.release-became.ensures.freed
