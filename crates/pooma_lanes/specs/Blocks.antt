-- Eight numbers in the lanes of a vector.
use Rattle.std.specs.Prelude.{◌≡◌, ◌⊎◌, ℕ, ◌+◌, ◌<◌, ℤ, List, length, FitsSigned, Result, Ok}
use Rattle.std.specs.Int.{is_negative, w64}
use Rattle.std.specs.Simd.Lanes.{Each1}
use Rattle.pooma_num.specs.declared.fault.FaultKind.{FaultKind}
use Rattle.pooma_lanes.specs.Rows.{at_place}

-- eight numbers of 64 bits
pub record IsBlock (lanes : List ℤ) : Type 0 where
  pub count : length lanes ≡ 8
  pub fit : Each1 (FitsSigned w64) lanes

-- the eight numbers that a row has from a place on
pub record IsBlockOf (number : ℕ → ℤ) (at : ℕ) (lanes : List ℤ) : Type 0 where
  pub block : IsBlock lanes
  pub numbers : (k : ℕ) → k < 8 → at_place lanes k ≡ number (at + k)

-- what an operation on two numbers answers in each lane
abbrev pub Answers : (ℤ → ℤ → Result ℤ FaultKind → Type 0) → List ℤ → List ℤ → List ℤ → Type 0
Answers IsAnswer a b results = (k : ℕ) → k < 8 → IsAnswer (at_place a k) (at_place b k) (Ok (at_place results k))

-- in each lane the total has the sign of one of its parts
abbrev pub HaveSigns : List ℤ → List ℤ → List ℤ → Type 0
HaveSigns total a b = (k : ℕ) → k < 8
    → (is_negative (at_place total k) ≡ is_negative (at_place a k)) ⊎ (is_negative (at_place total k) ≡ is_negative (at_place b k))
