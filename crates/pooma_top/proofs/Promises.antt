-- What is left to read, what is prepared for it, and the output that is defined for it.
use Rattle.std.proofs.Common.{◌≡◌, ℕ, ◌+◌, List, ◌++◌, length, Option, None, Some, IfSome, append-nil, ap, sym, subst, ◌∙◌, refl, arith, inl, inr, length-append, Bool, true, false, Result, Ok, Err, MatchResult, IfOk, OnOk}
use Rattle.std.specs.Io.KnownBytes.{Consumes, IsAtEnd}
use Rattle.pooma_io.specs.Outside.{TakesExactly}
use Rattle.pooma_model.specs.Order.{Programmed}
use Rattle.pooma_model.specs.Serial.{serial_of}
use Rattle.pooma_script.specs.declared.cause.Cause.{Cause}
use Rattle.pooma_script.specs.declared.cause.Cause.TheVariants as cause
use Rattle.pooma_script.specs.declared.cause.LimitName.TheVariants as limit
use Rattle.pooma_script.specs.Scripts.{Script, IsScript, Refused, Runs}
use Rattle.pooma_top.specs.declared.command.Command.{Command}
use Rattle.pooma_top.specs.declared.command.Command.TheVariants.{Run, Check}
use Rattle.pooma_top.specs.declared.command.Task.{Task}
use Rattle.pooma_top.specs.declared.command.Task.TheVariants.{Read, Make, Demo}
use Rattle.pooma_top.specs.declared.output.Answer.{Answer}
use Rattle.pooma_top.specs.declared.prepared.Prepared.{Prepared}
use Rattle.pooma_top.specs.declared.prepared.Prepared.TheVariants.{Answered, Ready}
use Rattle.pooma_top.specs.Output.{IsAnswer, IsDefined, IsDoneBy, IsGiven, IsInput, IsOutput, IsOutputOf, Output, ended, output_of, refused_output, run_output, script_of, shown}
use Rattle.pooma_top.specs.Prepared.{HasWorkers, IsAnswered, IsFit, IsFor, IsForBytes, IsPrepared, IsReady, promised}
use Rattle.pooma_top.specs.Tasks.{AsksFor, IsAllowed, IsUpTo, MakesScript, RunsScript, words_of, workers_of}

-- an answer is all that is promised
pub answered_promised : (output : Output) (prepared : Prepared) → IsAnswered output prepared → promised prepared ≡ output
answered_promised output (Answered answer) is = is
answered_promised output (Ready program workers) is = absurd is

-- all that was left was read, so what is prepared for the bytes is prepared for what was left
pub whole_prepared : (does : Command) (old new : Option (List ℕ)) (bytes : List ℕ) (prepared : Prepared) → Consumes old new bytes → IsAtEnd new
    → IsForBytes does bytes prepared → IfSome old (λ input. IsForBytes does input prepared)
whole_prepared does None new bytes prepared taken end is = tt
whole_prepared does (Some xs) None bytes prepared taken end is = absurd taken
whole_prepared does (Some xs) (Some ys) bytes prepared taken end is =
    let same : xs ≡ bytes = taken ∙ ap (λ l. bytes ++ l) end ∙ append-nil bytes in
    rw same is

-- one byte past the limit was taken, so what was left is refused for its length
pub long_prepared : (does : Command) (old new : Option (List ℕ)) (prepared : Prepared) (line : ℕ) (why : Cause) → TakesExactly 1048577 old new
    → line ≡ 0 → why ≡ cause.Limit limit.ScriptBytes → IsAnswered (refused_output line why) prepared → IfSome old (λ input. IsForBytes does input prepared)
long_prepared does None new prepared line why taken at_none for_bytes is = tt
long_prepared does (Some xs) None prepared line why taken at_none for_bytes is = absurd taken
long_prepared does (Some xs) (Some ys) prepared line why taken at_none for_bytes is =
    let long : length xs ≡ length taken.0 + length ys = ap length taken.1 ∙ length-append taken.0 ys in (
      Refused line why,
      subst (λ (n : ℕ). IsScript xs (Refused n why)) (sym at_none) (subst (λ (w : Cause). IsScript xs (Refused 0 w)) (sym for_bytes) (inl (omega (arith, taken.2), refl))),
      is,
    )

-- the promise for a script is what is made of it
promised_for : (script : Script) (does : Command) (prepared : Prepared) → IsFor script does prepared → promised prepared ≡ output_of script does
promised_for (Refused line why) does prepared is = answered_promised _ prepared is
promised_for (Runs program) (Run workers) (Answered answer) is = absurd is
promised_for (Runs program) (Run workers) (Ready runs by) is = ap (λ (p : Programmed). run_output (serial_of p)) is.0
promised_for (Runs program) Check prepared is = answered_promised _ prepared is

promised_bytes : (does : Command) (bytes : List ℕ) (prepared : Prepared) (output : Output) → IsForBytes does bytes prepared → output ≡ promised prepared → IsAnswer does bytes output
promised_bytes does bytes prepared output is kept = (is.0, is.1, kept ∙ promised_for is.0 does prepared is.2)

-- who keeps the promise answers the task
pub promise_kept : (task : Task) (input : List ℕ) (prepared : Prepared) (output : Output) → IsPrepared task input prepared → output ≡ promised prepared
    → IsOutputOf task input output
promise_kept (Read does) input prepared output is kept = promised_bytes does input prepared output is kept
promise_kept (Make recipe) input prepared output is kept = kept ∙ answered_promised _ prepared is
promise_kept (Demo recipe workers) input prepared output is kept = promised_bytes (Run workers) (script_of recipe) prepared output is kept

-- an end of a run is of the definition
ended_defined : (faulted : Bool) → IsDefined (ended faulted)
ended_defined true = tt
ended_defined false = tt

-- and so is each promise
pub promise_defined : (task : Task) (prepared : Prepared) → IsFit task prepared → IsDefined (promised prepared).status
promise_defined task (Answered answer) fit = fit
promise_defined task (Ready program workers) fit = ended_defined (serial_of program).faulted

pub kept_defined : (task : Task) (prepared : Prepared) (answer : Answer) → IsFit task prepared → shown answer ≡ promised prepared → IsDefined answer.status
kept_defined task prepared answer fit kept =
    subst (λ (o : Output). IsDefined o.status) (sym kept) (promise_defined task prepared fit)

-- what is ready is run by as many workers as may be asked for
pub fit_crew : (most : ℕ) (task : Task) (prepared : Prepared) → IsAllowed most task → IsFit task prepared → HasWorkers most prepared
fit_crew most task (Answered answer) allowed fit = tt
fit_crew most (Read (Run n)) (Ready program workers) allowed fit = let same : n ≡ workers = cc in subst (IsUpTo most) same allowed
fit_crew most (Read Check) (Ready program workers) allowed fit = absurd (let no : ⊥ = cc in no)
fit_crew most (Make recipe) (Ready program workers) allowed fit = absurd (let no : ⊥ = cc in no)
fit_crew most (Demo recipe n) (Ready program workers) allowed fit = let same : n ≡ workers = cc in subst (IsUpTo most) same allowed.1

-- for a task that runs nothing there is nothing to run
pub unready : (task : Task) (prepared : Prepared) → workers_of task ≡ None → IsFit task prepared → (program : Programmed) (workers : ℕ) → IsReady program workers prepared → ⊥
unready task (Answered answer) none fit program workers ready = ready
unready task (Ready runs by) none fit program workers ready = cc

-- words that ask for no run ask for a task that runs nothing
pub runs_nothing : (words : List (List ℕ)) (task : Task) → words ≡ words_of task → (RunsScript words → ⊥) → workers_of task ≡ None
runs_nothing words (Read (Run n)) is no_run = absurd (no_run (n, inl is))
runs_nothing words (Read Check) is no_run = refl
runs_nothing words (Make recipe) is no_run = refl
runs_nothing words (Demo recipe n) is no_run = absurd (no_run (n, inr (recipe, is)))

module _ (one : (bytes : List ℕ) (a b : Script) → IsScript bytes a → IsScript bytes b → a ≡ b) where
  ready_bytes : (does : Command) (bytes : List ℕ) (prepared : Prepared) (workers : ℕ) (program : Programmed) → IsForBytes does bytes prepared → does ≡ Run workers
      → IsScript bytes (Runs program) → IsReady program workers prepared
  ready_bytes does bytes prepared workers program is runs script =
      subst
      (λ (d : Command). IsFor (Runs program) d prepared)
      runs
      (subst (λ (s : Script). IsFor s does prepared) (one bytes is.0 (Runs program) is.1 script) is.2)

  -- a program that is to be run is ready to be
  pub ready_for : (task : Task) (input : List ℕ) (prepared : Prepared) (bytes : List ℕ) (workers : ℕ) (program : Programmed) → IsPrepared task input prepared
      → IsDoneBy task input (Run workers) bytes → IsScript bytes (Runs program) → IsReady program workers prepared
  ready_for (Read does) input prepared bytes workers program is done script =
      ready_bytes does input prepared workers program is done.0 (subst (λ (b : List ℕ). IsScript b (Runs program)) done.1 script)
  ready_for (Make recipe) input prepared bytes workers program is done script = absurd done
  ready_for (Demo recipe n) input prepared bytes workers program is done script =
      ready_bytes (Run n) (script_of recipe) prepared workers program is done.0 (subst (λ (b : List ℕ). IsScript b (Runs program)) done.1 script)

-- what stays an answer behind want of memory keeps what is known of it
pub ok_kept : {A E F : Type 0} {P : A → Type 0} (r : Result A E) (s : Result A F) (e : F) → MatchResult r (λ found. s ≡ Ok found) (λ _. s ≡ Err e)
    → ((x : A) → r ≡ Ok x → P x) → IfOk s P
ok_kept {A} {E} {F} {P} (Ok x) s e kept holds = subst (λ (t : Result A F). IfOk t P) (sym kept) (holds x refl)
ok_kept {A} {E} {F} {P} (Err _) s e kept holds = subst (λ (t : Result A F). IfOk t P) (sym kept) tt

pub on_ok_kept : {A E F : Type 0} (P : Type 0) (r : Result A E) (s : Result A F) (e : F) → MatchResult r (λ found. s ≡ Ok found) (λ _. s ≡ Err e) → OnOk r P → OnOk s P
on_ok_kept {A} {E} {F} P (Ok x) s e kept holds = subst (λ (t : Result A F). OnOk t P) (sym kept) holds
on_ok_kept {A} {E} {F} P (Err _) s e kept holds = subst (λ (t : Result A F). OnOk t P) (sym kept) tt

-- words that ask for a script to be read ask for none that is made
read_unmade : (words : List (List ℕ)) (does : Command) → words ≡ words_of (Read does) → MakesScript words → ⊥
read_unmade words (Run n) is (recipe, inl made) = cc
read_unmade words (Run n) is (recipe, inr made) = let told = made.1 in cc
read_unmade words Check is (recipe, inl made) = cc
read_unmade words Check is (recipe, inr made) = let told = made.1 in cc

-- the input of the words is given to their task
pub given_for : (words : List (List ℕ)) (task : Task) (left : Option (List ℕ)) (input : List ℕ) → words ≡ words_of task → IsInput words left input → IsGiven task left input
given_for words (Read does) left input is (inl left_is) = left_is
given_for words (Read does) left input is (inr made) = absurd (read_unmade words does is made)
given_for words (Make recipe) left input is from = tt
given_for words (Demo recipe n) left input is from = tt

-- what a task makes of the input that it is given is the output of its words
pub output_asked : (most : ℕ) (words : List (List ℕ)) (task : Task) (left : Option (List ℕ)) (output : Output) → AsksFor most words task
    → ((input : List ℕ) → IsGiven task left input → IsOutputOf task input output) → (input : List ℕ) → IsInput words left input → IsOutput most words input output
output_asked most words task left output asks made input from = inl (task, asks, made input (given_for words task left input asks.1 from))
