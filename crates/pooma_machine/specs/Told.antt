-- A window, as a journal tells it.
use Rattle.std.specs.Prelude.{List}
use Rattle.pooma_machine.specs.declared.step.Event.{Event}
use Rattle.pooma_machine.specs.declared.journal.Entry.{Entry}

pub record Window : Type 0 where
  pub entries : List Entry
  pub events : List Event
