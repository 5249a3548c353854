-- Rows of a list: numbers at places that lie a stride apart.
use Rattle.std.specs.Prelude.{◌≡◌, ℕ, ◌<◌, ℤ, pos, ◌+ℤ◌, ◌*ℤ◌, ◌≤ℤ◌, ◌<ℤ◌, List, length, slice_index_or}

-- the place of the k-th number of a row, counted from 0; the stride may be negative
abbrev pub row_place : ℕ → ℤ → ℕ → ℤ
row_place first stride k = pos first +ℤ stride *ℤ pos k

-- each place of a row of so many numbers is one of a list that is so long
abbrev pub IsRowWithin : ℕ → ℤ → ℕ → ℕ → Type 0
IsRowWithin first stride count len =
    (k : ℕ) → k < count → (pos 0 ≤ℤ row_place first stride k) × (row_place first stride k <ℤ pos len)

-- the numbers of the row are those of the list at the row's places
abbrev pub IsRowOf : List ℤ → ℕ → ℤ → List ℤ → Type 0
IsRowOf numbers first stride row =
    (k j : ℕ) → k < length row → pos j ≡ row_place first stride k → slice_index_or row k (pos 0) ≡ slice_index_or numbers j (pos 0)

-- away from the places of a row of so many numbers the lists have the same
abbrev pub IsSameBeside : ℕ → ℤ → ℕ → List ℤ → List ℤ → Type 0
IsSameBeside first stride count old new =
    (j : ℕ) → ((k : ℕ) → k < count → pos j ≡ row_place first stride k → ⊥) → slice_index_or new j (pos 0) ≡ slice_index_or old j (pos 0)
