-- The order of executed statements on worked cases, from the definitions.
use Rattle.std.proofs.Common.{◌≡◌, ℕ, zero, suc, [], ◌∷◌, length, refl, ap}
use Rattle.pooma_model.specs.declared.lines.Line.TheVariants.{Do, Repeat, End}
use Rattle.pooma_model.specs.declared.statement.Statement.{Statement}
use Rattle.pooma_model.specs.Lines.{drafted}
use Rattle.pooma_model.specs.Order.{empty_draft, times, with_end, with_repeat, with_statements}
use Rattle.pooma_model.specs.Walking.{statements_from}

-- a repeat of two steps, and a print behind it
steps_are_repeated_together : (step copied shown : Statement) →
    (drafted (Repeat 2 ∷ Do step ∷ Do copied ∷ End ∷ Do shown ∷ [])).statements ≡ step ∷ copied ∷ step ∷ copied ∷ shown ∷ []
steps_are_repeated_together step copied shown = refl

-- an inner repeat is done whole in each turn of the outer one
repeats_in_a_repeat : (a b c d : Statement) →
    (drafted (Repeat 2 ∷ Do a ∷ Repeat 3 ∷ Do b ∷ End ∷ Do c ∷ End ∷ Do d ∷ [])).statements
    ≡ a ∷ b ∷ b ∷ b ∷ c ∷ a ∷ b ∷ b ∷ b ∷ c ∷ d ∷ []
repeats_in_a_repeat a b c d = refl

two_inner_repeats : (a b : Statement) →
    (drafted (Repeat 2 ∷ Repeat 2 ∷ Do a ∷ End ∷ Repeat 1 ∷ Do b ∷ End ∷ End ∷ [])).statements ≡ a ∷ a ∷ b ∷ a ∷ a ∷ b ∷ []
two_inner_repeats a b = refl

four_repeats : (s : Statement) →
    (drafted (Repeat 2 ∷ Repeat 1 ∷ Repeat 2 ∷ Repeat 2 ∷ Do s ∷ End ∷ End ∷ End ∷ End ∷ [])).statements
    ≡ s ∷ s ∷ s ∷ s ∷ s ∷ s ∷ s ∷ s ∷ []
four_repeats s = refl

-- a walk passes the same
a_walk_passes_them : (a b c d : Statement) →
    statements_from (Repeat 2 ∷ Do a ∷ Repeat 3 ∷ Do b ∷ End ∷ Do c ∷ End ∷ Do d ∷ []) 0 []
    ≡ a ∷ b ∷ b ∷ b ∷ c ∷ a ∷ b ∷ b ∷ b ∷ c ∷ d ∷ []
a_walk_passes_them a b c d = refl

-- what stands in an open repeat is not executed yet
an_open_repeat_waits : (a b : Statement) → (with_statements (b ∷ []) (with_repeat 2 (with_statements (a ∷ []) empty_draft))).statements ≡ a ∷ []
an_open_repeat_waits a b = refl

-- a repeat around one statement is so many statements, however many
as_many_as_turns : (n : ℕ) (s : Statement) → length (with_end (with_statements (s ∷ []) (with_repeat n empty_draft))).statements ≡ n
as_many_as_turns n s = in_all n
  where
    in_all : (k : ℕ) → length (times k (s ∷ [])) ≡ k
    in_all zero = refl
    in_all (suc k) = ap suc (in_all k)
