-- What the program answers: the status and the bytes that are written.
use Rattle.std.specs.Prelude.{◌≡◌, ◌⊎◌, ℕ, ◌<◌, Bool, true, false, List, [], ◌∷◌, ◌++◌, length, codes, Option, Some}
use Rattle.std.specs.Io.KnownBytes.{Appends}
use Rattle.pooma_field.specs.Worlds.{World, opening_world}
use Rattle.pooma_model.specs.declared.statement.Statement.{Statement}
use Rattle.pooma_model.specs.Assigning.{Becomes, Fault, Faults}
use Rattle.pooma_model.specs.Declarations.{Declared}
use Rattle.pooma_model.specs.Order.{Programmed}
use Rattle.pooma_model.specs.Serial.{Run, effect_of, serial, serial_of}
use Rattle.pooma_model.specs.Texts.{fault_text}
use Rattle.pooma_print.specs.Texts.{refusal_text}
use Rattle.pooma_script.specs.declared.cause.Cause.{Cause}
use Rattle.pooma_script.specs.Scripts.{Script, IsScript, Runs, Refused}
use Rattle.pooma_maker.specs.Script.{made_script}
use Rattle.pooma_top.specs.declared.command.Command.{Command}
use Rattle.pooma_top.specs.declared.command.Command.TheVariants as command
use Rattle.pooma_top.specs.declared.command.Recipe.{Recipe}
use Rattle.pooma_top.specs.declared.command.Task.{Task}
use Rattle.pooma_top.specs.declared.command.Task.TheVariants.{Read, Make, Demo}
use Rattle.pooma_top.specs.declared.output.Answer.{Answer}
use Rattle.pooma_top.specs.declared.status.Status.{Status}
use Rattle.pooma_top.specs.declared.status.Status.TheVariants as status
use Rattle.pooma_top.specs.Causes.{cause_text}
use Rattle.pooma_top.specs.Tasks.{AsksFor, IsCommand, MakesScript}

pub record Output : Type 0 where
  pub bytes : List ℕ
  pub status : Status

-- how a run ended
abbrev pub ended : Bool → Status
ended true = status.Faulted
ended false = status.Done

abbrev pub run_output : Run → Output
run_output run = record { bytes = run.bytes; status = ended run.faulted }

abbrev pub refused_output : ℕ → Cause → Output
refused_output line why = record { bytes = refusal_text line (cause_text why); status = status.Refused }

abbrev pub accepted_output : Output
accepted_output = record { bytes = codes "ok" ++ 10 ∷ []; status = status.Done }

-- What a command makes of a script: the text of a refusal; or a word that it is a program, or the program's statements done one after
-- another, whoever does them.
abbrev pub output_of : Script → Command → Output
output_of (Refused line why) command = refused_output line why
output_of (Runs program) (command.Run workers) = run_output (serial_of program)
output_of (Runs program) command.Check = accepted_output

-- the command's output for the script that the bytes are
abbrev pub IsAnswer : Command → List ℕ → Output → Type 0
IsAnswer command bytes output = (script : Script) × IsScript bytes script × (output ≡ output_of script command)

-- the bytes of a made script
abbrev pub script_of : Recipe → List ℕ
script_of recipe = made_script recipe.seed recipe.lines

abbrev pub made_output : Recipe → Output
made_output recipe = record { bytes = script_of recipe; status = status.Done }

-- The output of a task: what its command makes of the input; or the made script, or what `run` makes of that one.
abbrev pub IsOutputOf : Task → List ℕ → Output → Type 0
IsOutputOf (Read command) input output = IsAnswer command input output
IsOutputOf (Make recipe) input output = output ≡ made_output recipe
IsOutputOf (Demo recipe workers) input output = IsAnswer (command.Run workers) (script_of recipe) output

-- The bytes and the status for words and an input, where so many workers are the most that may be asked for, and no bytes for other
-- words.
abbrev pub IsOutput : ℕ → List (List ℕ) → List ℕ → Output → Type 0
IsOutput most words input output =
    ((task : Task) × AsksFor most words task × IsOutputOf task input output)
    ⊎ ((IsCommand most words → ⊥) × (output ≡ record { bytes = []; status = status.Usage }))

-- the input that a task is given: what is left to read, where that is told; a made script is the same whatever is left
abbrev pub IsGiven : Task → Option (List ℕ) → List ℕ → Type 0
IsGiven (Read command) left input = left ≡ Some input
IsGiven (Make recipe) left input = Unit {0}
IsGiven (Demo recipe workers) left input = Unit {0}

-- the input that words are given
abbrev pub IsInput : List (List ℕ) → Option (List ℕ) → List ℕ → Type 0
IsInput words left input = (left ≡ Some input) ⊎ MakesScript words

-- a task does this command with these bytes: with what is read, or, as a run, with a made script
abbrev pub IsDoneBy : Task → List ℕ → Command → List ℕ → Type 0
IsDoneBy (Read asked) input does bytes = (asked ≡ does) × (bytes ≡ input)
IsDoneBy (Make recipe) input does bytes = ⊥
IsDoneBy (Demo recipe workers) input does bytes = (command.Run workers ≡ does) × (bytes ≡ script_of recipe)

-- for these words this command is done with these bytes
abbrev pub IsDoneWith : ℕ → List (List ℕ) → List ℕ → Command → List ℕ → Type 0
IsDoneWith most words input does bytes = (task : Task) × AsksFor most words task × IsDoneBy task input does bytes

-- these statements, done one after another from a world, fault nowhere and leave that one
abbrev pub LeadTo : Declared → List Statement → World → World → Type 0
LeadTo declared [] world left = left ≡ world
LeadTo declared (s ∷ rest) world left =
    (next : World) × (effect_of declared s.action world ≡ Becomes next) × LeadTo declared rest next left

-- the text is empty, or ends with a line end
abbrev pub IsOfLines : List ℕ → Type 0
IsOfLines text = (text ≡ []) ⊎ ((front : List ℕ) × (text ≡ front ++ 10 ∷ []))

-- One of the statements faults in the world to which those before it lead. The bytes are the lines that those print, and the text of
-- that fault at its line, which is the last.
pub record StopsAtFault (declared : Declared) (statements : List Statement) (opening : World) (bytes : List ℕ) : Type 0 where
  pub before : List Statement
  pub statement : Statement
  pub after : List Statement
  pub world : World
  pub fault : Fault
  pub order : statements ≡ before ++ statement ∷ after
  pub reached : LeadTo declared before opening world
  pub faults : effect_of declared statement.action world ≡ Faults fault
  pub lines : IsOfLines (serial declared before opening).bytes
  pub last : bytes ≡ (serial declared before opening).bytes ++ fault_text statement.line fault

-- the last line is the fault of the program's run
abbrev pub EndsInFault : Programmed → List ℕ → Type 0
EndsInFault program bytes =
    StopsAtFault program.declared program.order (opening_world program.declared.shapes program.declared.scalars) bytes

-- what is known to be held grew by a front of these bytes that is not all of them
abbrev pub AppendsLess : Option (List ℕ) → Option (List ℕ) → List ℕ → Type 0
AppendsLess old new bytes = (front : List ℕ) × (back : List ℕ) × (bytes ≡ front ++ back) × (0 < length back) × Appends old new front

-- what is known to be held grew by a front of these bytes
abbrev pub AppendsFront : Option (List ℕ) → Option (List ℕ) → List ℕ → Type 0
AppendsFront old new bytes = (front : List ℕ) × (back : List ℕ) × (bytes ≡ front ++ back) × Appends old new front

-- an answer of the definition
abbrev pub IsDefined : Status → Type 0
IsDefined status.Done = Unit {0}
IsDefined status.Refused = Unit {0}
IsDefined status.Faulted = Unit {0}
IsDefined other = ⊥

-- an answer with its bytes
abbrev pub shown : Answer → Output
shown answer = record { bytes = answer.text.items; status = answer.status }
