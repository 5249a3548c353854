use Rattle.std.specs.Prelude.{option_copied}
use Rattle.pooma_desk.proofs.desk.Desk.request_in_turn.Given as goal

abbrev pub ghosts-note : goal.ghosts-note
ghosts-note g a = record { event = record { event = a._event; work = option_copied a._work } }
