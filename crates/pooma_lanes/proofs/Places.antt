-- How far a row is done: one place more, one block more, and the two parts together.
use Rattle.std.proofs.Common.{◌≡◌, ◌≢◌, ℕ, ◌+◌, ◌-◌, ◌<◌, ◌≤◌, ℤ, pos, ◌⊎◌, inl, inr, List, length, set, refl, sym, ◌∙◌, ap, subst, Result, Ok, Err, arith, get_or-set_same, get_or-set_other}
use lib.Lanes.{put_chunk}
use Rattle.std.proofs.lemmas.Simd.{get_or-put_chunk_below, get_or-put_chunk_at, get_or-put_chunk_above}
use Rattle.pooma_num.specs.declared.fault.FaultKind.{FaultKind}
use Rattle.pooma_lanes.specs.declared.row.Place.{Place}
use Rattle.pooma_lanes.specs.Rows.{at_place, IsDoneUpTo, IsDoneBetween, IsDoneFrom, IsDone, IsEach}

below_or_not : (k n : ℕ) → (k < n) ⊎ (n ≤ k)
below_or_not k n = grind arith

module _ (A : ℕ → Result ℤ FaultKind → Type 0) where
  pub nothing_done : (old : List ℤ) → IsDoneUpTo A old old 0
  nothing_done old = record { results = λ k lt. absurd (omega arith); others = λ k le. refl }

  pub none_done : (start : ℕ) (old : List ℤ) → IsDoneBetween A start old old start
  none_done start old = record { results = λ k le lt. absurd (omega arith); before = λ k lt. refl; others = λ k le. refl }

  pub one_more : (start : ℕ) (old new : List ℤ) (k : ℕ) (v : ℤ) → IsDoneBetween A start old new k → start ≤ k → k < length new → A k (Ok v)
      → IsDoneBetween A start old (set new k v) (k + 1)
  one_more start old new k v done from room is = record {
    results = λ j le lt. elim (below_or_not j k) [
      | inl l ↦ let apart : j ≢ k = omega arith in subst (λ z. A j (Ok z)) (sym (get_or-set_other new k j v (pos 0) apart)) (done.results j le l)
      | inr m ↦
          let here : k ≡ j = omega arith in
          subst (λ i. A i (Ok (at_place (set new k v) i))) here (subst (λ z. A k (Ok z)) (sym (get_or-set_same new k v (pos 0) room)) is)
    ];
    before = λ j lt. let apart : j ≢ k = omega arith in get_or-set_other new k j v (pos 0) apart ∙ done.before j lt;
    others = λ j le. let apart : j ≢ k = omega arith in get_or-set_other new k j v (pos 0) apart ∙ done.others j (omega arith);
  }

  pub block_more : (old new rs : List ℤ) (at : ℕ) → IsDoneUpTo A old new at → length rs ≡ 8 → at + 8 ≤ length new → ((k : ℕ) → k < 8 → A (at + k) (Ok (at_place rs k)))
      → IsDoneUpTo A old (put_chunk at new rs) (at + 8)
  block_more old new rs at done count room holds = record {
    results = λ k lt. elim (below_or_not k at) [
      | inl l ↦ subst (λ z. A k (Ok z)) (sym (get_or-put_chunk_below at new rs k (pos 0) l)) (done.results k l)
      | inr m ↦
          let here : at + (k - at) ≡ k = omega arith in
          subst (λ i. A i (Ok (at_place (put_chunk at new rs) i))) here
          (subst (λ z. A (at + (k - at)) (Ok z)) (sym (get_or-put_chunk_at at new rs (k - at) (pos 0) (omega arith) (omega arith))) (holds (k - at) (omega arith)))
    ];
    others = λ k le. get_or-put_chunk_above at new rs k (pos 0) (omega arith) ∙ done.others k (omega arith);
  }

  pub both_parts : (old mid new : List ℤ) (at end : ℕ) → IsDoneUpTo A old mid at → IsDoneBetween A at mid new end → at ≤ end → IsDoneUpTo A old new end
  both_parts old mid new at end first then le = record {
    results = λ k lt. elim (below_or_not k at) [ inl l ↦ subst (λ z. A k (Ok z)) (sym (then.before k l)) (first.results k l) | inr m ↦ then.results k m lt ];
    others = λ k m. then.others k m ∙ first.others k (omega arith);
  }

  pub whole : (old mid new : List ℤ) (at : ℕ) (result : Result (Unit {0}) Place) → at ≤ length old → length mid ≡ length old → IsDoneUpTo A old mid at
      → IsDoneFrom A at result mid new → IsDone A result old new
  whole old mid new at (Ok u) le long first then = subst (IsDoneUpTo A old new) long (both_parts old mid new at (length mid) first then (omega (arith, le, long)))
  whole old mid new at (Err place) le long first then = (omega (arith, then.1, long), both_parts old mid new at place.0 first then.2 then.0, then.3)

-- where no place has a fault, each has its number
pub each_done : (f : ℕ → ℤ) (old new : List ℤ) (result : Result (Unit {0}) Place) → length new ≡ length old → IsDone (λ k r. r ≡ Ok (f k)) result old new → IsEach f new
each_done f old new (Ok u) long done = λ k lt. number (done.results k (omega (arith, lt, long)))
  where
    number : {x y : ℤ} → ◌≡◌ {A = Result ℤ FaultKind} (Ok x) (Ok y) → x ≡ y
    number {x = x} e = ap (elim [ Ok z ↦ z | Err _ ↦ x ]) e
each_done f old new (Err place) long done = absurd (cc done.2.1)
