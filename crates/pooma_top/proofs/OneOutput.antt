-- For the same words and the same input there is one output, and no second one.
use Rattle.std.proofs.Common.{◌≡◌, inl, inr, ⊎_elim, ℕ, zero, suc, ◌≤◌, ◌<◌, List, [], ◌∷◌, arith, codes, decimal, refl, sym, subst, ap, ◌∙◌, ◌↔◌}
use Rattle.std.proofs.lemmas.Bool.{cases_eq, cases_lt}
use Rattle.std.proofs.lemmas.Fmt.{decimal_injective}
use Rattle.pooma_script.specs.Scripts.{Script, IsScript, Refused, Runs}
use Rattle.pooma_logic.specs.Decided.{Or_not}
use Rattle.pooma_logic.proofs.Decided.{as_or_not, at_most_or_not, both_or_not, same_list_or_not, three_or_not}
use Rattle.pooma_top.specs.declared.command.Command.{Command}
use Rattle.pooma_top.specs.declared.command.Command.TheVariants.{Run, Check}
use Rattle.pooma_top.specs.declared.command.Recipe.{Recipe}
use Rattle.pooma_top.specs.declared.command.Task.{Task}
use Rattle.pooma_top.specs.declared.command.Task.TheVariants.{Read, Make, Demo}
use Rattle.pooma_top.specs.declared.status.Status.TheVariants.{Done, Usage}
use Rattle.pooma_top.specs.Output.{IsAnswer, IsDoneBy, IsDoneWith, IsOutput, IsOutputOf, Output, output_of, script_of}
use Rattle.pooma_top.specs.Tasks.{AsksFor, IsAllowed, IsCommand, IsInRange, IsUpTo, words_of}
use Rattle.pooma_top.proofs.Words.{AreNumbers, IsCrew, check_of, demo_of, make_of, run_of}

same_text_or_not : (a b : List ℕ) → Or_not (a ≡ b)
same_text_or_not = same_list_or_not cases_eq

-- the word is a number from a least one on and below a bound
record IsNumeral (word : List ℕ) (least bound : ℕ) : Type 0 where
  number : ℕ
  low : least ≤ number
  below : number < bound
  text : word ≡ decimal number

numeral_or_not : (word : List ℕ) (least bound : ℕ) → Or_not (IsNumeral word least bound)
numeral_or_not word least zero = inr (λ (n : IsNumeral word least 0). omega (arith, n.below))
numeral_or_not word least (suc bound) =
    ⊎_elim
    (λ last. inl (record { number = bound; low = last.0; below = omega arith; text = last.1 }))
    (λ not_last.
    as_or_not
    (λ (n : IsNumeral word least bound). record { number = n.number; low = n.low; below = omega (arith, n.below); text = n.text })
    (λ (n : IsNumeral word least (suc bound)).
    ⊎_elim
    (λ below. record { number = n.number; low = n.low; below = below; text = n.text })
    (λ above. let is : n.number ≡ bound = omega (arith, n.below) in absurd (not_last (omega (arith, n.low), n.text ∙ ap decimal is)))
    (cases_lt n.number bound))
    (numeral_or_not word least bound))
    (both_or_not (at_most_or_not least bound) (same_text_or_not word (decimal bound)))

numbers_or_not : (seed lines : List ℕ) → Or_not (AreNumbers seed lines)
numbers_or_not seed lines =
    as_or_not
    (λ (both : IsNumeral seed 0 2147483648 × IsNumeral lines 1 9001).
    record {
      recipe = record { seed = both.0.number; lines = both.1.number };
      range = (omega (arith, both.0.below), both.1.low, omega (arith, both.1.below));
      seed_text = both.0.text;
      lines_text = both.1.text;
    })
    (λ (numbers : AreNumbers seed lines). (
      record { number = numbers.recipe.seed; low = omega arith; below = omega (arith, numbers.range.0); text = numbers.seed_text },
      record { number = numbers.recipe.lines; low = numbers.range.1; below = omega (arith, numbers.range.2); text = numbers.lines_text },
    ))
    (both_or_not (numeral_or_not seed 0 2147483648) (numeral_or_not lines 1 9001))

crew_or_not : (most : ℕ) (word : List ℕ) → Or_not (IsCrew most word)
crew_or_not most word =
    as_or_not
    (λ (n : IsNumeral word 1 (suc most)). record { workers = n.number; range = (n.low, omega (arith, n.below)); text = n.text })
    (λ (crew : IsCrew most word). record { number = crew.workers; low = crew.range.0; below = omega (arith, crew.range.1); text = crew.text })
    (numeral_or_not word 1 (suc most))

-- no task has no words, or more than four
no_words : (task : Task) → [] ≡ words_of task → ⊥
no_words (Read (Run n)) is = cc
no_words (Read Check) is = cc
no_words (Make recipe) is = cc
no_words (Demo recipe n) is = cc

no_more_words : (a b c d e : List ℕ) (more : List (List ℕ)) (task : Task) → a ∷ b ∷ c ∷ d ∷ e ∷ more ≡ words_of task → ⊥
no_more_words a b c d e more (Read (Run n)) is = cc
no_more_words a b c d e more (Read Check) is = cc
no_more_words a b c d e more (Make recipe) is = cc
no_more_words a b c d e more (Demo recipe n) is = cc

command_or_not : (most : ℕ) (words : List (List ℕ)) → Or_not (IsCommand most words)
command_or_not most [] = inr (λ command. no_words command.0 command.1.1)
command_or_not most (a ∷ []) =
    as_or_not
    (λ (is : a ≡ codes "check"). (Read Check, (tt, ap (λ (w : List ℕ). w ∷ []) is)))
    (λ command. check_of a command.0 command.1.1)
    (same_text_or_not a (codes "check"))
command_or_not most (a ∷ b ∷ []) =
    as_or_not
    (λ (is : (a ≡ codes "run") × IsCrew most b). (Read (Run is.1.workers), (is.1.range, cc (is.0, is.1.text))))
    (λ command. run_of most a b command.0 command.1.0 command.1.1)
    (both_or_not (same_text_or_not a (codes "run")) (crew_or_not most b))
command_or_not most (a ∷ b ∷ c ∷ []) =
    as_or_not
    (λ (is : (a ≡ codes "make") × AreNumbers b c). (Make is.1.recipe, (is.1.range, cc (is.0, is.1.seed_text, is.1.lines_text))))
    (λ command. make_of most a b c command.0 command.1.0 command.1.1)
    (both_or_not (same_text_or_not a (codes "make")) (numbers_or_not b c))
command_or_not most (a ∷ b ∷ c ∷ d ∷ []) =
    as_or_not
    (λ (is : (a ≡ codes "demo") × AreNumbers b c × IsCrew most d).
    (Demo is.1.recipe is.2.workers, ((is.1.range, is.2.range), cc (is.0, is.1.seed_text, is.1.lines_text, is.2.text))))
    (λ command. demo_of most a b c d command.0 command.1.0 command.1.1)
    (three_or_not (same_text_or_not a (codes "demo")) (numbers_or_not b c) (crew_or_not most d))
command_or_not most (a ∷ b ∷ c ∷ d ∷ e ∷ more) = inr (λ command. no_more_words a b c d e more command.0 command.1.1)

-- the words of two tasks differ
same_recipe : (a b : Recipe) → IsInRange a → IsInRange b → decimal a.seed ≡ decimal b.seed → decimal a.lines ≡ decimal b.lines → a ≡ b
same_recipe a b range_a range_b seeds lines =
    let seed = decimal_injective a.seed b.seed (omega (arith, range_a.0)) (omega (arith, range_b.0)) seeds in
    let line = decimal_injective a.lines b.lines (omega (arith, range_a.2)) (omega (arith, range_b.2)) lines in
    λ i. record { seed = seed i; lines = line i }

-- what is made of a script does not depend on how many workers run it
same_output : (m n : ℕ) (script : Script) → output_of script (Run m) ≡ output_of script (Run n)
same_output m n (Refused line why) = refl
same_output m n (Runs program) = refl

by_any : (m n : ℕ) (bytes : List ℕ) (output : Output) → IsAnswer (Run m) bytes output → IsAnswer (Run n) bytes output
by_any m n bytes output answer = (answer.0, answer.1, answer.2 ∙ same_output m n answer.0)

module _ (most : ℕ) (few : most ≤ 64) where
  same_crew : (m n : ℕ) → IsUpTo most m → IsUpTo most n → decimal m ≡ decimal n → m ≡ n
  same_crew m n p q same = decimal_injective m n (omega (arith, few, p.1)) (omega (arith, few, q.1)) same

  pub same_task : (a b : Task) → IsAllowed most a → IsAllowed most b → words_of a ≡ words_of b → a ≡ b
  same_task (Read (Run m)) (Read (Run n)) p q same = let number : decimal m ≡ decimal n = cc in ap (λ (k : ℕ). Read (Run k)) (same_crew m n p q number)
  same_task (Read Check) (Read Check) p q same = refl
  same_task (Read (Run n)) (Read Check) p q same = absurd (let no : ⊥ = cc in no)
  same_task (Read Check) (Read (Run n)) p q same = absurd (let no : ⊥ = cc in no)
  same_task (Make a) (Make b) p q same =
      let seeds : decimal a.seed ≡ decimal b.seed = cc in
      let lines : decimal a.lines ≡ decimal b.lines = cc in
      ap Make (same_recipe a b p q seeds lines)
  same_task (Demo a m) (Demo b n) p q same =
      let seeds : decimal a.seed ≡ decimal b.seed = cc in
      let lines : decimal a.lines ≡ decimal b.lines = cc in
      let number : decimal m ≡ decimal n = cc in
      let recipe = same_recipe a b p.0 q.0 seeds lines in
      let crew = same_crew m n p.1 q.1 number in
      λ i. Demo (recipe i) (crew i)
  same_task (Make a) (Demo b n) p q same = absurd (let no : ⊥ = cc in no)
  same_task (Demo a m) (Make b) p q same = absurd (let no : ⊥ = cc in no)
  same_task (Read (Run n)) b p q same = absurd (let no : ⊥ = cc in no)
  same_task (Read Check) b p q same = absurd (let no : ⊥ = cc in no)
  same_task a (Read (Run n)) p q same = absurd (let no : ⊥ = cc in no)
  same_task a (Read Check) p q same = absurd (let no : ⊥ = cc in no)

  -- the output of words that ask for a task is that of the task
  pub output_of_asked : (words : List (List ℕ)) (task : Task) (input : List ℕ) (output : Output) → AsksFor most words task → IsOutput most words input output
      → IsOutputOf task input output
  output_of_asked words task input output asks (inl p) =
      subst (λ (t : Task). IsOutputOf t input output) (same_task p.0 task p.1.0 asks.0 (sym p.1.1 ∙ asks.1)) p.2
  output_of_asked words task input output asks (inr p) = absurd (p.0 (task, asks))

  -- what is done for words is done by the task that they ask for
  pub done_by : (words : List (List ℕ)) (task : Task) (input : List ℕ) (does : Command) (bytes : List ℕ) → AsksFor most words task → IsDoneWith most words input does bytes
      → IsDoneBy task input does bytes
  done_by words task input does bytes asks done =
      subst (λ (t : Task). IsDoneBy t input does bytes) (same_task done.0 task done.1.0 asks.0 (sym done.1.1 ∙ asks.1)) done.2

  -- whoever runs a script, the output is the same
  pub runs_alike : (m n : ℕ) (input : List ℕ) (output : Output) → IsUpTo most m → IsUpTo most n
      → IsOutput most (words_of (Read (Run m))) input output → IsOutput most (words_of (Read (Run n))) input output
  runs_alike m n input output p q of = inl (Read (Run n), (q, refl), by_any m n input output (output_of_asked _ (Read (Run m)) input output (p, refl) of))

  pub demos_alike : (m n : ℕ) (recipe : Recipe) (input : List ℕ) (output : Output) → IsInRange recipe → IsUpTo most m → IsUpTo most n
      → IsOutput most (words_of (Demo recipe m)) input output → IsOutput most (words_of (Demo recipe n)) input output
  demos_alike m n recipe input output range p q of =
      inl (
        Demo recipe n,
        ((range, q), refl),
        by_any m n (script_of recipe) output (output_of_asked _ (Demo recipe m) input output ((range, p), refl) of),
      )

  -- a demo is a run of the made script
  pub demo_runs_made : (workers : ℕ) (recipe : Recipe) (any input : List ℕ) (made output : Output) → IsInRange recipe → IsUpTo most workers
      → IsOutput most (words_of (Make recipe)) any made
      → IsOutput most (words_of (Demo recipe workers)) input output ↔ IsOutput most (words_of (Read (Run workers))) made.bytes output
  demo_runs_made workers recipe any input made output range crew is_made =
      let bytes : made.bytes ≡ script_of recipe = ap (λ (o : Output). o.bytes) (output_of_asked _ (Make recipe) any made (range, refl) is_made) in (
        λ demo. inl (
          Read (Run workers),
          (crew, refl),
          subst
              (λ (b : List ℕ). IsAnswer (Run workers) b output)
              (sym bytes)
              (output_of_asked _ (Demo recipe workers) input output ((range, crew), refl) demo),
        ),
        λ run. inl (
          Demo recipe workers,
          ((range, crew), refl),
          subst
              (λ (b : List ℕ). IsAnswer (Run workers) b output)
              bytes
              (output_of_asked _ (Read (Run workers)) made.bytes output (crew, refl) run),
        ),
      )

module _ (some : (bytes : List ℕ) → (script : Script) × IsScript bytes script) where
  output_for : (task : Task) (input : List ℕ) → (output : Output) × IsOutputOf task input output
  output_for (Read command) input = let script = some input in (output_of script.0 command, (script.0, script.1, refl))
  output_for (Make recipe) input = (record { bytes = script_of recipe; status = Done }, refl)
  output_for (Demo recipe n) input = let script = some (script_of recipe) in (output_of script.0 (Run n), (script.0, script.1, refl))

  -- words and an input have an output, where each input is a script
  pub some_output : (most : ℕ) (words : List (List ℕ)) (input : List ℕ) → (output : Output) × IsOutput most words input output
  some_output most words input =
      ⊎_elim
      (λ (command : IsCommand most words). let output = output_for command.0 input in (output.0, inl (command.0, command.1, output.1)))
      (λ (none : IsCommand most words → ⊥). (record { bytes = []; status = Usage }, inr (none, refl)))
      (command_or_not most words)

module _ (one : (bytes : List ℕ) (a b : Script) → IsScript bytes a → IsScript bytes b → a ≡ b) where
  answer_unique : (command : Command) (bytes : List ℕ) (a b : Output) → IsAnswer command bytes a → IsAnswer command bytes b → a ≡ b
  answer_unique command bytes a b p q = p.2 ∙ ap (λ (s : Script). output_of s command) (one bytes p.0 q.0 p.1 q.1) ∙ sym q.2

  task_unique : (task : Task) (input : List ℕ) (a b : Output) → IsOutputOf task input a → IsOutputOf task input b → a ≡ b
  task_unique (Read command) input a b p q = answer_unique command input a b p q
  task_unique (Make recipe) input a b p q = p ∙ sym q
  task_unique (Demo recipe n) input a b p q = answer_unique (Run n) (script_of recipe) a b p q

  -- and one at the most, where each input is one script at the most
  pub output_unique : (most : ℕ) (words : List (List ℕ)) (input : List ℕ) (a b : Output) → most ≤ 64 → IsOutput most words input a → IsOutput most words input b → a ≡ b
  output_unique most words input a b few (inl p) (inl q) =
      let same : q.0 ≡ p.0 = same_task most few q.0 p.0 q.1.0 p.1.0 (sym q.1.1 ∙ p.1.1) in
      task_unique p.0 input a b p.2 (subst (λ (t : Task). IsOutputOf t input b) same q.2)
  output_unique most words input a b few (inl p) (inr q) = absurd (q.0 (p.0, p.1))
  output_unique most words input a b few (inr p) (inl q) = absurd (p.0 (q.0, q.1))
  output_unique most words input a b few (inr p) (inr q) = p.1 ∙ sym q.1
