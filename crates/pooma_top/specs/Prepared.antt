-- What is left to do for a task once its script is there.
use Rattle.std.specs.Prelude.{◌≡◌, ℕ, List, Some}
use Rattle.pooma_model.specs.Order.{Programmed}
use Rattle.pooma_model.specs.Serial.{serial_of}
use Rattle.pooma_script.specs.Scripts.{Script, IsScript, Runs, Refused}
use Rattle.pooma_top.specs.declared.command.Command.{Command}
use Rattle.pooma_top.specs.declared.command.Command.TheVariants as command
use Rattle.pooma_top.specs.declared.command.Task.{Task}
use Rattle.pooma_top.specs.declared.command.Task.TheVariants.{Read, Make, Demo}
use Rattle.pooma_top.specs.declared.prepared.Prepared.{Prepared}
use Rattle.pooma_top.specs.declared.prepared.Prepared.TheVariants.{Answered, Ready}
use Rattle.pooma_top.specs.Output.{IsDefined, Output, accepted_output, made_output, refused_output, run_output, script_of, shown}
use Rattle.pooma_top.specs.Tasks.{IsUpTo, workers_of}

-- what will be answered
abbrev pub promised : Prepared → Output
promised (Answered answer) = shown answer
promised (Ready program workers) = run_output (serial_of program)

-- this is the answer already
abbrev pub IsAnswered : Output → Prepared → Type 0
IsAnswered output (Answered answer) = shown answer ≡ output
IsAnswered output (Ready program workers) = ⊥

-- this program is to be run by so many workers
abbrev pub IsReady : Programmed → ℕ → Prepared → Type 0
IsReady program workers (Answered answer) = ⊥
IsReady program workers (Ready runs by) = (runs ≡ program) × (by ≡ workers)

-- what is left to do for a command with a script: a program is to be run where the command is to, and all else is answered
abbrev pub IsFor : Script → Command → Prepared → Type 0
IsFor (Refused line why) command prepared = IsAnswered (refused_output line why) prepared
IsFor (Runs program) command.Check prepared = IsAnswered accepted_output prepared
IsFor (Runs program) (command.Run workers) prepared = IsReady program workers prepared

-- and with the script that the bytes are
abbrev pub IsForBytes : Command → List ℕ → Prepared → Type 0
IsForBytes command bytes prepared = (script : Script) × IsScript bytes script × IsFor script command prepared

-- what is left to do for a task with this input
abbrev pub IsPrepared : Task → List ℕ → Prepared → Type 0
IsPrepared (Read command) input prepared = IsForBytes command input prepared
IsPrepared (Make recipe) input prepared = IsAnswered (made_output recipe) prepared
IsPrepared (Demo recipe workers) input prepared = IsForBytes (command.Run workers) (script_of recipe) prepared

-- whatever the input is: an answer is one of the definition, and a run is by as many workers as are asked for
abbrev pub IsFit : Task → Prepared → Type 0
IsFit task (Answered answer) = IsDefined answer.status
IsFit task (Ready program workers) = workers_of task ≡ Some workers

-- so many workers may be asked for
abbrev pub HasWorkers : ℕ → Prepared → Type 0
HasWorkers most (Answered answer) = Unit {0}
HasWorkers most (Ready program workers) = IsUpTo most workers
