-- The words of a task.
use Rattle.std.proofs.Common.{◌≡◌, ℕ, Option, None, Some, IfNone, List, [], ◌∷◌, codes, decimal, length, map, get_or, arith, String, Global, string_bytes, ◌≤◌, ◌<◌}
use Rattle.pooma_top.specs.declared.command.Command.TheVariants.{Run, Check}
use Rattle.pooma_top.specs.declared.command.Recipe.{Recipe}
use Rattle.pooma_top.specs.declared.command.Task.{Task}
use Rattle.pooma_top.specs.declared.command.Task.TheVariants.{Read, Make, Demo}
use Rattle.pooma_top.specs.Tasks.{IsAllowed, IsInRange, IsUpTo, words_of}

-- one word is this one
pub one_word : (words : List (String Global)) (a : String Global) → 1 ≤ length words → length words < 2 → a ≡ get_or words 0 a
    → map string_bytes words ≡ string_bytes a ∷ []
one_word [] a some few at = absurd (omega arith)
one_word (v ∷ []) a some few at = cc
one_word (v ∷ w ∷ words) a some few at = absurd (omega arith)

-- two words are these two
pub two_words : (words : List (String Global)) (a b : String Global) → 2 ≤ length words → length words < 3 → a ≡ get_or words 0 a → b ≡ get_or words 1 b
    → map string_bytes words ≡ string_bytes a ∷ string_bytes b ∷ []
two_words [] a b some few at next = absurd (omega arith)
two_words (v ∷ []) a b some few at next = absurd (omega arith)
two_words (v ∷ w ∷ []) a b some few at next = cc
two_words (v ∷ w ∷ x ∷ words) a b some few at next = absurd (omega arith)

-- three words are these three
pub three_words : (words : List (String Global)) (a b c : String Global) → 3 ≤ length words → length words < 4 → a ≡ get_or words 0 a
    → b ≡ get_or words 1 b → c ≡ get_or words 2 c → map string_bytes words ≡ string_bytes a ∷ string_bytes b ∷ string_bytes c ∷ []
three_words [] a b c some few first second third = absurd (omega arith)
three_words (v ∷ []) a b c some few first second third = absurd (omega arith)
three_words (v ∷ w ∷ []) a b c some few first second third = absurd (omega arith)
three_words (v ∷ w ∷ x ∷ []) a b c some few first second third = cc
three_words (v ∷ w ∷ x ∷ y ∷ words) a b c some few first second third = absurd (omega arith)

-- four words are these four
pub four_words : (words : List (String Global)) (a b c d : String Global) → 4 ≤ length words → length words < 5 → a ≡ get_or words 0 a
    → b ≡ get_or words 1 b → c ≡ get_or words 2 c → d ≡ get_or words 3 d
    → map string_bytes words ≡ string_bytes a ∷ string_bytes b ∷ string_bytes c ∷ string_bytes d ∷ []
four_words [] a b c d some few first second third fourth = absurd (omega arith)
four_words (v ∷ []) a b c d some few first second third fourth = absurd (omega arith)
four_words (v ∷ w ∷ []) a b c d some few first second third fourth = absurd (omega arith)
four_words (v ∷ w ∷ x ∷ []) a b c d some few first second third fourth = absurd (omega arith)
four_words (v ∷ w ∷ x ∷ y ∷ []) a b c d some few first second third fourth = cc
four_words (v ∷ w ∷ x ∷ y ∷ z ∷ words) a b c d some few first second third fourth = absurd (omega arith)

-- one word that asks for something
pub check_of : (a : List ℕ) (task : Task) → a ∷ [] ≡ words_of task → a ≡ codes "check"
check_of a (Read Check) is = cc
check_of a (Read (Run n)) is = absurd (let no : ⊥ = cc in no)
check_of a (Make recipe) is = absurd (let no : ⊥ = cc in no)
check_of a (Demo recipe n) is = absurd (let no : ⊥ = cc in no)

-- a word is a number of workers that may be asked for
pub record IsCrew (most : ℕ) (word : List ℕ) : Type 0 where
  pub workers : ℕ
  pub range : IsUpTo most workers
  pub text : word ≡ decimal workers

-- two words that ask for something
pub run_of : (most : ℕ) (a b : List ℕ) (task : Task) → IsAllowed most task → a ∷ b ∷ [] ≡ words_of task → (a ≡ codes "run") × IsCrew most b
run_of most a b (Read (Run n)) allowed is = (cc, record { workers = n; range = allowed; text = cc })
run_of most a b (Read Check) allowed is = absurd (let no : ⊥ = cc in no)
run_of most a b (Make recipe) allowed is = absurd (let no : ⊥ = cc in no)
run_of most a b (Demo recipe n) allowed is = absurd (let no : ⊥ = cc in no)

-- two words are the numbers of a recipe that may be asked for
pub record AreNumbers (seed lines : List ℕ) : Type 0 where
  pub recipe : Recipe
  pub range : IsInRange recipe
  pub seed_text : seed ≡ decimal recipe.seed
  pub lines_text : lines ≡ decimal recipe.lines

-- three words that ask for something
pub make_of : (most : ℕ) (a b c : List ℕ) (task : Task) → IsAllowed most task → a ∷ b ∷ c ∷ [] ≡ words_of task → (a ≡ codes "make") × AreNumbers b c
make_of most a b c (Make recipe) allowed is = (cc, record { recipe = recipe; range = allowed; seed_text = cc; lines_text = cc })
make_of most a b c (Read (Run n)) allowed is = absurd (let no : ⊥ = cc in no)
make_of most a b c (Read Check) allowed is = absurd (let no : ⊥ = cc in no)
make_of most a b c (Demo recipe n) allowed is = absurd (let no : ⊥ = cc in no)

-- four words that ask for something
pub demo_of : (most : ℕ) (a b c d : List ℕ) (task : Task) → IsAllowed most task → a ∷ b ∷ c ∷ d ∷ [] ≡ words_of task
    → (a ≡ codes "demo") × AreNumbers b c × IsCrew most d
demo_of most a b c d (Demo recipe n) allowed is = (
  cc,
  record { recipe = recipe; range = allowed.0; seed_text = cc; lines_text = cc },
  record { workers = n; range = allowed.1; text = cc },
)
demo_of most a b c d (Read (Run n)) allowed is = absurd (let no : ⊥ = cc in no)
demo_of most a b c d (Read Check) allowed is = absurd (let no : ⊥ = cc in no)
demo_of most a b c d (Make recipe) allowed is = absurd (let no : ⊥ = cc in no)

-- a fact that holds at any rate holds where there is nothing
pub on_none : {A P : Type 0} (found : Option A) → P → IfNone found P
on_none None p = p
on_none (Some x) p = tt
