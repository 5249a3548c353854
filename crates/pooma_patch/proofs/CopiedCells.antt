-- The cells of a box, copied one after another.
use Rattle.std.proofs.Common.{sym, ap, ◌∙◌, subst, ⊎_elim, arith}
use Rattle.std.proofs.lemmas.Bool.{cases_lt}
use Rattle.std.proofs.lemmas.Option.{same_Some}
use Rattle.std.specs.Prelude.{◌≡◌, ◌≢◌, ℕ, ◌+◌, ◌<◌, ℤ, Some, List, slice_get}
use Rattle.pooma_domain.specs.Cells.{Interval, cells_of, IsIn}
use Rattle.pooma_field.specs.Numbered.{Numbered, number_at, with_number, IsFull}

-- what a change of one cell does, and that a cell stands in a box's order once
pub record HasLaws : Type 0 where
  pub set : (a : Numbered) (c : List ℤ) (n : ℤ) → IsFull a → IsIn a.area c → number_at (with_number a c n) c ≡ n
  pub kept : (a : Numbered) (c d : List ℤ) (n : ℤ) → IsFull a → d ≢ c → number_at (with_number a c n) d ≡ number_at a d
  pub once : (box : List Interval) (c : List ℤ) (j k : ℕ) → slice_get (cells_of box) j ≡ Some c → slice_get (cells_of box) k ≡ Some c → j ≡ k

-- the first k cells of the box have the numbers that they have in another one, and all else is as it was
pub record IsCopiedUpTo (box : List Interval) (k : ℕ) (from old new : Numbered) : Type 0 where
  pub done : (j : ℕ) (c : List ℤ) → j < k → slice_get (cells_of box) j ≡ Some c → number_at new c ≡ number_at from c
  pub rest : (c : List ℤ) → ((j : ℕ) → j < k → slice_get (cells_of box) j ≡ Some c → ⊥) → number_at new c ≡ number_at old c

pub one_more_copied : HasLaws → (box : List Interval) (k : ℕ) (from old now : Numbered) (cell : List ℤ) (v : ℤ) → IsFull now → IsIn now.area cell → slice_get (cells_of box) k ≡ Some cell → v ≡ number_at from cell → IsCopiedUpTo box k from old now → IsCopiedUpTo box (k + 1) from old (with_number now cell v)
one_more_copied laws box k from old now cell v full inside at is copied = record {
  done = λ j d below at_d. ⊎_elim
      (λ before. laws.kept now cell d v full (λ same. later_cell j before (at_d ∙ ap Some same)) ∙ copied.done j d before at_d)
      (λ after. this_cell d (ap (slice_get (cells_of box)) (let same : k ≡ j = omega (arith, below, after) in same) ∙ at_d))
      (cases_lt j k);
  rest = λ d none. laws.kept now cell d v full (λ same. none k (omega arith) (at ∙ ap Some (sym same)))
      ∙ copied.rest d (λ j below. none j (omega (arith, below)));
}
  where
    later_cell : (j : ℕ) → j < k → slice_get (cells_of box) j ≡ Some cell → ⊥
    later_cell j before at_j = let same : j ≡ k = laws.once box cell j k at_j at in omega (arith, same, before)

    this_cell : (d : List ℤ) → slice_get (cells_of box) k ≡ Some d → number_at (with_number now cell v) d ≡ number_at from d
    this_cell d at_d =
        subst (λ (x : List ℤ). number_at (with_number now cell v) x ≡ number_at from x) (same_Some cell d (sym at ∙ at_d))
        (laws.set now cell v full inside ∙ is)
