-- What the words ask for.
use Rattle.std.specs.Prelude.{◌≡◌, ◌⊎◌, ℕ, ◌≤◌, List, [], ◌∷◌, codes, decimal, Option, None, Some}
use Rattle.pooma_top.specs.declared.command.Command.{Command}
use Rattle.pooma_top.specs.declared.command.Command.TheVariants.{Run, Check}
use Rattle.pooma_top.specs.declared.command.Recipe.{Recipe}
use Rattle.pooma_top.specs.declared.command.Task.{Task}
use Rattle.pooma_top.specs.declared.command.Task.TheVariants.{Read, Make, Demo}

-- The words of a task. Numbers are decimal digits without a sign and without a leading zero.
abbrev pub words_of : Task → List (List ℕ)
words_of (Read (Run workers)) = codes "run" ∷ decimal workers ∷ []
words_of (Read Check) = codes "check" ∷ []
words_of (Make recipe) = codes "make" ∷ decimal recipe.seed ∷ decimal recipe.lines ∷ []
words_of (Demo recipe workers) = codes "demo" ∷ decimal recipe.seed ∷ decimal recipe.lines ∷ decimal workers ∷ []

-- the numbers of a recipe that may be asked for
abbrev pub IsInRange : Recipe → Type 0
IsInRange recipe = (recipe.seed ≤ 2147483647) × (1 ≤ recipe.lines) × (recipe.lines ≤ 9000)

-- a number of workers that may be asked for, where so many are the most
abbrev pub IsUpTo : ℕ → ℕ → Type 0
IsUpTo most workers = (1 ≤ workers) × (workers ≤ most)

-- a task that may be asked for, where so many workers are the most
abbrev pub IsAllowed : ℕ → Task → Type 0
IsAllowed most (Read (Run workers)) = IsUpTo most workers
IsAllowed most (Read Check) = Unit {0}
IsAllowed most (Make recipe) = IsInRange recipe
IsAllowed most (Demo recipe workers) = IsInRange recipe × IsUpTo most workers

-- the words ask for this task
abbrev pub AsksFor : ℕ → List (List ℕ) → Task → Type 0
AsksFor most words task = IsAllowed most task × (words ≡ words_of task)

-- the words ask for some task
abbrev pub IsCommand : ℕ → List (List ℕ) → Type 0
IsCommand most words = (task : Task) × AsksFor most words task

-- a task whose script is read
abbrev pub Reads : Task → Type 0
Reads (Read command) = Unit {0}
Reads (Make recipe) = ⊥
Reads (Demo recipe workers) = ⊥

-- a task whose script is made
abbrev pub Makes : Task → Type 0
Makes (Read command) = ⊥
Makes (Make recipe) = Unit {0}
Makes (Demo recipe workers) = Unit {0}

-- how many workers run its script, where it is run
abbrev pub workers_of : Task → Option ℕ
workers_of (Read (Run workers)) = Some workers
workers_of (Read Check) = None
workers_of (Make recipe) = None
workers_of (Demo recipe workers) = Some workers

-- the words ask for what is done with a script that is read
abbrev pub ReadsScript : List (List ℕ) → Type 0
ReadsScript words = (command : Command) × (words ≡ words_of (Read command))

-- the words ask for what is done with a made script
abbrev pub MakesScript : List (List ℕ) → Type 0
MakesScript words = (recipe : Recipe) × ((words ≡ words_of (Make recipe)) ⊎ ((workers : ℕ) × (words ≡ words_of (Demo recipe workers))))

-- the words ask for a script to be run
abbrev pub RunsScript : List (List ℕ) → Type 0
RunsScript words = (workers : ℕ) × ((words ≡ words_of (Read (Run workers))) ⊎ ((recipe : Recipe) × (words ≡ words_of (Demo recipe workers))))
