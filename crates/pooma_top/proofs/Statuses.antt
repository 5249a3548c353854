-- What the status of an output tells of the script.
use Rattle.std.proofs.Common.{◌≡◌, inl, inr, ℕ, Bool, true, false, List, [], ◌∷◌, ◌++◌, map, flat_map, ℤ, refl, sym, subst, ap, ◌∙◌, append-nil, append_assoc}
use Rattle.std.specs.Fmt.{signed_decimal}
use Rattle.std.specs.List.{join_with_byte}
use Rattle.pooma_domain.specs.Cells.{Interval, cells_of}
use Rattle.pooma_field.specs.Worlds.{World, scalar_of}
use Rattle.pooma_model.specs.declared.statement.Action.{Action}
use Rattle.pooma_model.specs.declared.statement.Action.TheVariants as action
use Rattle.pooma_model.specs.declared.statement.Statement.{Statement}
use Rattle.pooma_model.specs.Assigning.{Effect, Becomes, Faults}
use Rattle.pooma_model.specs.Declarations.{Declared, seen_in}
use Rattle.pooma_model.specs.Order.{Programmed}
use Rattle.pooma_model.specs.Serial.{Run, effect_of, go_on, printed, serial, serial_of}
use Rattle.pooma_model.specs.Texts.{fault_text, row_text, view_text}
use Rattle.pooma_view.specs.Slots.{cell_named, positions_of}
use Rattle.pooma_print.specs.Texts.{refusal_text}
use Rattle.pooma_script.specs.declared.cause.Cause.{Cause}
use Rattle.pooma_script.specs.Scripts.{Script, IsScript, Runs, Refused}
use Rattle.pooma_top.specs.declared.command.Command.{Command}
use Rattle.pooma_top.specs.declared.command.Command.TheVariants as command
use Rattle.pooma_top.specs.declared.command.Task.TheVariants.{Read, Make, Demo}
use Rattle.pooma_top.specs.declared.status.Status.TheVariants as status
use Rattle.pooma_top.specs.Causes.{cause_text}
use Rattle.pooma_top.specs.Output.{EndsInFault, IsOfLines, StopsAtFault, IsAnswer, IsDoneWith, IsOutput, Output, ended, output_of, script_of}

-- lines behind lines
lines_append : (front back : List ℕ) → IsOfLines front → IsOfLines back → IsOfLines (front ++ back)
lines_append front back lines (inl none) = subst IsOfLines (sym (ap (λ (rest : List ℕ). front ++ rest) none ∙ append-nil front)) lines
lines_append front back lines (inr more) =
    inr (front ++ more.0, ap (λ (rest : List ℕ). front ++ rest) more.1 ∙ sym (append_assoc front more.0 (10 ∷ [])))

lines_of_all : {A : Type 0} (f : A → List ℕ) (xs : List A) → ((x : A) → IsOfLines (f x)) → IsOfLines (flat_map f xs)
lines_of_all f [] each = inl refl
lines_of_all f (x ∷ xs) each = lines_append (f x) (flat_map f xs) (each x) (lines_of_all f xs each)

lines_of_row : (numbers : List ℤ) → IsOfLines (row_text numbers)
lines_of_row numbers = inr (join_with_byte 32 (map signed_decimal numbers), refl)

lines_of_view : (number : List ℤ → ℤ) (axes : List Interval) → IsOfLines (view_text number axes)
lines_of_view number [] = lines_of_row (number [] ∷ [])
lines_of_view number (axis ∷ axes) = lines_of_all _ (cells_of axes) (λ rest. lines_of_row _)

-- what an action prints is lines
lines_printed : (declared : Declared) (does : Action) (world : World) → IsOfLines (printed declared does world)
lines_printed declared (action.Assign target value mask) world = inl refl
lines_printed declared (action.Reduce scalar reduction positions value) world = inl refl
lines_printed declared (action.PrintView view) world = lines_of_view (λ p. seen_in declared world view (cell_named view.slots p)) (positions_of view.slots)
lines_printed declared (action.PrintScalar scalar) world = lines_of_row (scalar_of world scalar ∷ [])
lines_printed declared action.Block world = inl refl

-- a run that faults ends in its fault
step_faults : (declared : Declared) (s : Statement) (rest : List Statement) (world : World) (effect : Effect) → effect_of declared s.action world ≡ effect
    → ((next : World) → (serial declared rest next).faulted ≡ true → StopsAtFault declared rest next (serial declared rest next).bytes)
    → (go_on s.line (printed declared s.action world) effect (serial declared rest)).faulted ≡ true
    → StopsAtFault declared (s ∷ rest) world (go_on s.line (printed declared s.action world) effect (serial declared rest)).bytes
step_faults declared s rest world (Faults fault) is later faulted =
    record { before = []; statement = s; after = rest; world = world; fault = fault; order = refl; reached = refl; faults = is; lines = inl refl; last = refl }
step_faults declared s rest world (Becomes next) is later faulted =
    let stops = later next faulted in
    let shown : List ℕ = printed declared s.action world in
    let whole : (serial declared (s ∷ stops.before) world).bytes ≡ shown ++ (serial declared stops.before next).bytes =
    ap (λ (effect : Effect). (go_on s.line shown effect (serial declared stops.before)).bytes) is in
    record {
      before = s ∷ stops.before;
      statement = stops.statement;
      after = stops.after;
      world = stops.world;
      fault = stops.fault;
      order = ap (λ (statements : List Statement). s ∷ statements) stops.order;
      reached = (next, is, stops.reached);
      faults = stops.faults;
      lines = subst IsOfLines (sym whole) (lines_append shown _ (lines_printed declared s.action world) stops.lines);
      last = ap (λ (text : List ℕ). shown ++ text) stops.last
          ∙ sym (append_assoc shown (serial declared stops.before next).bytes (fault_text stops.statement.line stops.fault))
          ∙ ap (λ (front : List ℕ). front ++ fault_text stops.statement.line stops.fault) (sym whole);
    }

serial_faults : (declared : Declared) (statements : List Statement) (world : World) → (serial declared statements world).faulted ≡ true
    → StopsAtFault declared statements world (serial declared statements world).bytes
serial_faults declared [] world faulted = absurd (let no : ⊥ = cc in no)
serial_faults declared (s ∷ rest) world faulted =
    step_faults declared s rest world (effect_of declared s.action world) refl (serial_faults declared rest) faulted

-- how a run ends
ends_unrefused : (faulted : Bool) → ended faulted ≡ status.Refused → ⊥
ends_unrefused true is = cc
ends_unrefused false is = cc

ends_faulted : (faulted : Bool) → ended faulted ≡ status.Faulted → faulted ≡ true
ends_faulted true is = refl
ends_faulted false is = absurd (let no : ⊥ = cc in no)

refusal_of : (input : List ℕ) (script : Script) (does : Command) → IsScript input script → (output_of script does).status ≡ status.Refused
    → (line : ℕ) × (why : Cause) × IsScript input (Refused line why) × ((output_of script does).bytes ≡ refusal_text line (cause_text why))
refusal_of input (Refused line why) does script is = (line, why, script, refl)
refusal_of input (Runs program) (command.Run workers) script is = absurd (ends_unrefused (serial_of program).faulted is)
refusal_of input (Runs program) command.Check script is = absurd (let no : ⊥ = cc in no)

-- what is told of a refused output
abbrev pub ToldRefused : ℕ → List (List ℕ) → List ℕ → Output → Type 0
ToldRefused most words input output =
    (does : Command) × (bytes : List ℕ) × (line : ℕ) × (why : Cause) × IsDoneWith most words input does bytes × IsScript bytes (Refused line why)
    × (output.bytes ≡ refusal_text line (cause_text why))

answer_refused : (most : ℕ) (words : List (List ℕ)) (input : List ℕ) (does : Command) (bytes : List ℕ) (output : Output) → IsDoneWith most words input does bytes
    → IsAnswer does bytes output → output.status ≡ status.Refused → ToldRefused most words input output
answer_refused most words input does bytes output done answer is =
    let found = refusal_of bytes answer.0 does answer.1 (sym (ap (λ (o : Output). o.status) answer.2) ∙ is) in
    (does, bytes, found.0, found.1, done, found.2, ap (λ (o : Output). o.bytes) answer.2 ∙ found.3)

pub refused_output_tells : (most : ℕ) (words : List (List ℕ)) (input : List ℕ) (output : Output) → IsOutput most words input output → output.status ≡ status.Refused
    → ToldRefused most words input output
refused_output_tells most words input output (inl (Read does, asks, of)) is =
    answer_refused most words input does input output (Read does, asks, (refl, refl)) of is
refused_output_tells most words input output (inl (Make recipe, asks, of)) is =
    absurd (let done : output.status ≡ status.Done = ap (λ (o : Output). o.status) of in let no : ⊥ = cc in no)
refused_output_tells most words input output (inl (Demo recipe workers, asks, of)) is =
    answer_refused most words input (command.Run workers) (script_of recipe) output (Demo recipe workers, asks, (refl, refl)) of is
refused_output_tells most words input output (inr p) is =
    absurd (let usage : output.status ≡ status.Usage = ap (λ (o : Output). o.status) p.1 in let no : ⊥ = cc in no)

fault_of : (input : List ℕ) (script : Script) (does : Command) → IsScript input script → (output_of script does).status ≡ status.Faulted
    → (workers : ℕ) × (program : Programmed) × IsScript input (Runs program) × (does ≡ command.Run workers) × EndsInFault program (output_of script does).bytes
fault_of input (Refused line why) does script is = absurd (let no : ⊥ = cc in no)
fault_of input (Runs program) (command.Run workers) script is =
    (workers, program, script, refl, serial_faults program.declared program.order _ (ends_faulted (serial_of program).faulted is))
fault_of input (Runs program) command.Check script is = absurd (let no : ⊥ = cc in no)

-- what is told of a faulted output
abbrev pub ToldFaulted : ℕ → List (List ℕ) → List ℕ → Output → Type 0
ToldFaulted most words input output =
    (workers : ℕ) × (bytes : List ℕ) × (program : Programmed) × IsDoneWith most words input (command.Run workers) bytes × IsScript bytes (Runs program)
    × EndsInFault program output.bytes

answer_faulted : (most : ℕ) (words : List (List ℕ)) (input : List ℕ) (does : Command) (bytes : List ℕ) (output : Output) → IsDoneWith most words input does bytes
    → IsAnswer does bytes output → output.status ≡ status.Faulted → ToldFaulted most words input output
answer_faulted most words input does bytes output done answer is =
    let found = fault_of bytes answer.0 does answer.1 (sym (ap (λ (o : Output). o.status) answer.2) ∙ is) in (
      found.0,
      bytes,
      found.1,
      subst (λ (k : Command). IsDoneWith most words input k bytes) found.3 done,
      found.2,
      subst (EndsInFault found.1) (sym (ap (λ (o : Output). o.bytes) answer.2)) found.4,
    )

pub faulted_output_tells : (most : ℕ) (words : List (List ℕ)) (input : List ℕ) (output : Output) → IsOutput most words input output → output.status ≡ status.Faulted
    → ToldFaulted most words input output
faulted_output_tells most words input output (inl (Read does, asks, of)) is =
    answer_faulted most words input does input output (Read does, asks, (refl, refl)) of is
faulted_output_tells most words input output (inl (Make recipe, asks, of)) is =
    absurd (let done : output.status ≡ status.Done = ap (λ (o : Output). o.status) of in let no : ⊥ = cc in no)
faulted_output_tells most words input output (inl (Demo recipe workers, asks, of)) is =
    answer_faulted most words input (command.Run workers) (script_of recipe) output (Demo recipe workers, asks, (refl, refl)) of is
faulted_output_tells most words input output (inr p) is =
    absurd (let usage : output.status ≡ status.Usage = ap (λ (o : Output). o.status) p.1 in let no : ⊥ = cc in no)
