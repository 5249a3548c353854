-- What contracts see of a list that may be kept as one number.
use Rattle.std.specs.Prelude.{◌≡◌, ◌≢◌, ℕ, ◌<◌, ℤ, pos, Bool, List, length, slice_index_or, All}

-- the numbers in order, and whether they are kept as one
pub record Kept : Type 0 where
  pub numbers : List ℤ
  pub one : Bool

-- all of the numbers are the same
abbrev pub AreEqual : List ℤ → Type 0
AreEqual numbers = (v : ℤ) × All (λ x. x ≡ v) numbers

-- the number at this place is not the first one
abbrev pub IsOther : List ℤ → ℕ → Type 0
IsOther numbers k = (k < length numbers) × (slice_index_or numbers k (pos 0) ≢ slice_index_or numbers 0 (pos 0))
