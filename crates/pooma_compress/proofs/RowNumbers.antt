-- Rows that are read and written number by number.
use Rattle.std.proofs.Common.{refl, sym, ap, ◌∙◌, arith, get_or, set, ⊎_elim, get_or-set_other, get_or-set_same}
use Rattle.std.proofs.lemmas.Bool.{cases_lt}
use Rattle.std.proofs.lemmas.Int.{ints}
use Rattle.std.specs.Prelude.{◌≡◌, ◌≢◌, ℕ, ◌+◌, ◌<◌, ℤ, pos, List, [], ◌∷◌, ◌++◌, length, take}
use Rattle.pooma_compress.specs.Rows.{row_place, IsSameBeside}
use Rattle.pooma_compress.proofs.RowPlaces.{places_differ}

-- the first k numbers of the row are those at their places
abbrev pub IsRowUpTo : List ℤ → ℕ → ℤ → ℕ → List ℤ → Type 0
IsRowUpTo numbers first stride k row = (i j : ℕ) → i < k → pos j ≡ row_place first stride i → get_or row i (pos 0) ≡ get_or numbers j (pos 0)

-- the same place
same_place : (i j : ℕ) (z : ℤ) → pos i ≡ z → pos j ≡ z → i ≡ j
same_place i j z p q = omega (arith, ints, p, q)

pub none_read : (numbers : List ℤ) (first : ℕ) (stride : ℤ) (row : List ℤ) → IsRowUpTo numbers first stride 0 row
none_read numbers first stride row i j below at = absurd (omega (arith, below))

pub one_more_read : (numbers row : List ℤ) (first k place : ℕ) (stride v : ℤ) → k < length row → pos place ≡ row_place first stride k → v ≡ get_or numbers place (pos 0) → IsRowUpTo numbers first stride k row → IsRowUpTo numbers first stride (k + 1) (set row k v)
one_more_read numbers row first k place stride v there at is read i j below at_j =
    ⊎_elim
    (λ before. (let other : i ≢ k = omega (arith, before) in get_or-set_other row k i v (pos 0) other) ∙ read i j before at_j)
    (λ after.
    let same : i ≡ k = omega (arith, below, after) in
    let here : j ≡ place = same_place j place (row_place first stride k) (at_j ∙ ap (row_place first stride) same) at in
    ap (λ (n : ℕ). get_or (set row k v) n (pos 0)) same ∙ get_or-set_same row k v (pos 0) there ∙ is ∙ ap (λ (n : ℕ). get_or numbers n (pos 0)) (sym here))
    (cases_lt i k)

-- the first k numbers of the row were put at their places, and nothing else changed
pub record IsWrittenUpTo (row : List ℤ) (first : ℕ) (stride : ℤ) (k : ℕ) (old new : List ℤ) : Type 0 where
  pub written : IsRowUpTo new first stride k row
  pub beside : IsSameBeside first stride k old new

pub none_written : (row : List ℤ) (first : ℕ) (stride : ℤ) (old : List ℤ) → IsWrittenUpTo row first stride 0 old old
none_written row first stride old = record {
  written = λ i j below at. absurd (omega (arith, below));
  beside = λ j apart. refl;
}

pub one_more_written : (row old new : List ℤ) (first k place : ℕ) (stride v : ℤ) → stride ≢ pos 0 → place < length new → pos place ≡ row_place first stride k → v ≡ get_or row k (pos 0) → IsWrittenUpTo row first stride k old new → IsWrittenUpTo row first stride (k + 1) old (set new place v)
one_more_written row old new first k place stride v apart there at is w = record {
  written = λ i j below at_j.
      ⊎_elim
      (λ before.
      let other : j ≢ place = λ same. places_differ first stride i k apart before (sym at_j ∙ ap pos same ∙ at) in
      w.written i j before at_j ∙ sym (get_or-set_other new place j v (pos 0) other))
      (λ after.
      let same : i ≡ k = omega (arith, below, after) in
      let here : j ≡ place = same_place j place (row_place first stride k) (at_j ∙ ap (row_place first stride) same) at in
      ap (λ (n : ℕ). get_or row n (pos 0)) same ∙ sym is ∙ sym (get_or-set_same new place v (pos 0) there) ∙ ap (λ (n : ℕ). get_or (set new place v) n (pos 0)) (sym here))
      (cases_lt i k);
  beside = λ j none.
      let other : j ≢ place = λ same. none k (omega arith) (ap pos same ∙ at) in
      get_or-set_other new place j v (pos 0) other ∙ w.beside j (λ i below. none i (omega (arith, below)));
}

-- the front of a list to which more was put
pub front_kept : (xs ys : List ℤ) → take (length xs) (xs ++ ys) ≡ xs
front_kept [] ys = refl
front_kept (x ∷ xs) ys = ap (λ (t : List ℤ). x ∷ t) (front_kept xs ys)
