-- What the calls of a source and of a sink do, as far as the object tells it: what is left to read, what is held, how
-- often it has failed, and how often it was called.
use Rattle.std.specs.Prelude.{◌≡◌, ◌⊎◌, ℕ, ◌+◌, ◌-◌, ◌^◌, ◌<◌, ◌≤◌, min, nat_lt, if◌then◌else◌, List, ◌++◌, length, Option, None, Some, Result, IsErr}

-- the greatest value of a count, at which it stands still
abbrev pub LAST_COUNT : ℕ
LAST_COUNT = 2 ^ 64 - 1

-- one more, or the last value where the count stands there
abbrev pub next_count : ℕ → ℕ
next_count n = min (n + 1) LAST_COUNT

-- a count, as long as it is below its last value
abbrev pub told_count : ℕ → Option ℕ
told_count n = if nat_lt n LAST_COUNT then Some n else None

-- a count rose, or it stands at its last value
abbrev pub HasRisen : ℕ → ℕ → Type 0
HasRisen before now = (before < now) ⊎ (now ≡ LAST_COUNT)

-- a count of faults doesn't fall, and the call fails only where the count has risen
pub record HasCause {T E : Type 0} (before now : ℕ) (result : Result T E) : Type 0 where
  pub later : before ≤ now
  pub failed : IsErr result → HasRisen before now

-- a count of calls that is told rose by one, or isn't told any more; one that isn't told is not told later
abbrev pub CountsCall : Option ℕ → Option ℕ → Type 0
CountsCall None None = Unit {0}
CountsCall None (Some m) = ⊥
CountsCall (Some n) None = Unit {0}
CountsCall (Some n) (Some m) = m ≡ n + 1

-- a count of calls that is told rose by at most so many
abbrev pub CountsAtMost : Option ℕ → Option ℕ → ℕ → Type 0
CountsAtMost (Some n) (Some m) calls = m ≤ n + calls
CountsAtMost _ _ calls = Unit {0}

-- at most so many bytes were taken from the front of what was left, and no others
abbrev pub TakesAtMost : ℕ → Option (List ℕ) → Option (List ℕ) → Type 0
TakesAtMost most None new = Unit {0}
TakesAtMost most (Some xs) None = ⊥
TakesAtMost most (Some xs) (Some ys) = (taken : List ℕ) × (xs ≡ taken ++ ys) × (length taken ≤ most)

-- exactly so many bytes were taken from the front of what was left
abbrev pub TakesExactly : ℕ → Option (List ℕ) → Option (List ℕ) → Type 0
TakesExactly count None new = Unit {0}
TakesExactly count (Some xs) None = ⊥
TakesExactly count (Some xs) (Some ys) = (taken : List ℕ) × (xs ≡ taken ++ ys) × (length taken ≡ count)
