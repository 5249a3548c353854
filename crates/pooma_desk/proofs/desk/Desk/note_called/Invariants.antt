use Rattle.std.proofs.Common.{None}
use Rattle.pooma_desk.proofs.desk.Desk.note_called.Given as goal

abbrev pub ghosts-note : goal.ghosts-note
ghosts-note g a = record { event = record { event = a._event; work = None } }
