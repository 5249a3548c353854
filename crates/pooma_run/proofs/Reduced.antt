-- A reduction as its scalar is given its number, or the fault of its sum is written.
use Rattle.std.proofs.Common.{◌≡◌, ◌∙◌, refl, sym, ap, subst, ℕ, ◌+◌, ◌<◌, ◌≤◌, ℤ, Bool, true, false, Some, Result, Ok, Err, List, [], ◌∷◌, ◌++◌, length, map, arith}
use Rattle.std.specs.Bool.{OnFalse, OnTrue}
use Rattle.std.specs.Prelude.{IfErr, IfOk, OnOk, slice_set}
use Rattle.std.proofs.lemmas.List.{length-map}
use Rattle.std.specs.declared.alloc.AllocError.{AllocError}
use Rattle.pooma_domain.specs.Cells.{Interval}
use Rattle.pooma_expr.specs.declared.reduction.Reduction.{Reduction}
use Rattle.pooma_expr.specs.declared.tree.Expr.{Expr}
use Rattle.pooma_expr.specs.Reductions.{AllFit, result_over}
use Rattle.pooma_expr.specs.Values.{Checked}
use Rattle.pooma_expr.specs.Words.{IsWord}
use Rattle.pooma_model.specs.declared.statement.Action.TheVariants as action
use Rattle.pooma_model.specs.declared.statement.Statement.{Statement}
use Rattle.pooma_model.specs.Assigning.{Sum}
use Rattle.pooma_model.specs.Order.{Programmed}
use Rattle.pooma_model.specs.Texts.{fault_text}
use Rattle.pooma_model.specs.Serial.{serial_of}
use Rattle.pooma_piece.specs.declared.outcome.Outcome.{Outcome}
use Rattle.pooma_run.specs.Gathered.{HasLaws}
use Rattle.pooma_run.specs.Outcomes.{AreValues, joined, value_of}
use Rattle.pooma_run.specs.Plan.{fault_of_run}
use Rattle.pooma_run.specs.Underway.{IsConcluding, IsUnderway, Kept}
use Rattle.pooma_run.proofs.Concluding.{concluded_number, concluded_sum}

-- pieces answered for some numbers, so there are some
pub some_answered : (reduction : Reduction) (outcomes : List Outcome) → AreValues reduction outcomes → 0 < length outcomes
some_answered reduction outcomes values =
    let counted : length outcomes ≡ length values.lists = ap length values.are ∙ length-map values.lists (value_of reduction) in
    let there : 0 < length values.lists = by values.lists values.some in
    omega arith
  where
    by : (lists : List (List ℤ)) → 1 ≤ length (joined lists) → 0 < length lists
    by [] some = absurd (omega arith)
    by (numbers ∷ lists) some = omega arith

module _ (laws : HasLaws) (kept new : Kept) (s : Statement) (outcomes : List Outcome) (scalar : ℕ) (reduction : Reduction) (positions : List Interval) (value : Expr)
    (is : s.action ≡ action.Reduce scalar reduction positions value) where
  -- what is kept is what it was, but for the scalar or the bytes
  abbrev Gives : Checked → Bool → Type 0
  Gives (Ok n) faulted = (faulted ≡ false) × (new ≡ record kept { scalars = slice_set kept.scalars scalar n })
  Gives (Err kind) faulted = (faulted ≡ true) × (new ≡ record kept { bytes = kept.bytes ++ fault_text s.line (record { place = Sum; kind = kind }) })

  gives : (found : Checked) (result : Result Bool AllocError)
      → IfOk found (λ n. IfOk result (λ faulted. (faulted ≡ false) × (new ≡ record kept { scalars = slice_set kept.scalars scalar n })))
      → IfErr found (λ kind. IfOk result (λ faulted. (faulted ≡ true) × (new ≡ record kept { bytes = kept.bytes ++ fault_text s.line (record { place = Sum; kind = kind }) })))
      → IfOk result (Gives found)
  gives (Ok n) result given fault = given
  gives (Err kind) result given fault = fault

  stays_so : {P : Type 0} (found : Checked) (faulted : Bool) (part : Kept → P) → ((n : List ℤ) → part (record kept { scalars = n }) ≡ part kept) → ((bs : List ℕ) → part (record kept { bytes = bs }) ≡ part kept)
      → Gives found faulted → part new ≡ part kept
  stays_so (Ok n) faulted part one two gave = ap part gave.1 ∙ one (slice_set kept.scalars scalar n)
  stays_so (Err kind) faulted part one two gave = ap part gave.1 ∙ two (kept.bytes ++ fault_text s.line (record { place = Sum; kind = kind }))

  module _ (found : Checked) (result : Result Bool AllocError)
      (given : IfOk found (λ n. IfOk result (λ faulted. (faulted ≡ false) × (new ≡ record kept { scalars = slice_set kept.scalars scalar n }))))
      (fault : IfErr found (λ kind. IfOk result (λ faulted. (faulted ≡ true) × (new ≡ record kept { bytes = kept.bytes ++ fault_text s.line (record { place = Sum; kind = kind }) })))) where
    pub same_pending : OnOk result (new.pending ≡ kept.pending)
    same_pending = by result (gives found result given fault)
      where
        by : (r : Result Bool AllocError) → IfOk r (Gives found) → OnOk r (new.pending ≡ kept.pending)
        by (Ok faulted) gave = stays_so found faulted (λ (k : Kept). k.pending) (λ n. refl) (λ bs. refl) gave
        by (Err e) gave = tt

    pub same_stale : OnOk result (new.stale ≡ kept.stale)
    same_stale = by result (gives found result given fault)
      where
        by : (r : Result Bool AllocError) → IfOk r (Gives found) → OnOk r (new.stale ≡ kept.stale)
        by (Ok faulted) gave = stays_so found faulted (λ (k : Kept). k.stale) (λ n. refl) (λ bs. refl) gave
        by (Err e) gave = tt

    module _ (word : IfOk found IsWord) (gathers : (lists : List (List ℤ)) → outcomes ≡ map (value_of reduction) lists → AllFit (joined lists) → found ≡ result_over reduction (joined lists)) where
      pub reduced_on : IfOk result (λ faulted. OnFalse faulted ((program : Programmed) (number : ℕ) → IsConcluding program kept number s outcomes → IsUnderway program new (number + 1)))
      reduced_on = by found result (gives found result given fault) word gathers
        where
          by : (f : Checked) (r : Result Bool AllocError) → IfOk r (Gives f) → IfOk f IsWord → ((lists : List (List ℤ)) → outcomes ≡ map (value_of reduction) lists → AllFit (joined lists) → f ≡ result_over reduction (joined lists))
              → IfOk r (λ faulted. OnFalse faulted ((program : Programmed) (number : ℕ) → IsConcluding program kept number s outcomes → IsUnderway program new (number + 1)))
          by (Ok n) (Ok true) gave word so = tt
          by (Ok n) (Ok false) gave word so = λ program number here.
              subst (λ (k : Kept). IsUnderway program k (number + 1)) (sym gave.1)
              (concluded_number laws program kept number s outcomes here scalar reduction positions value n is word so)
          by (Err kind) (Ok true) gave word so = tt
          by (Err kind) (Ok false) gave word so = let no : false ≡ true = gave.0 in cc
          by f (Err e) gave word so = tt

      pub reduced_ended : IfOk result (λ faulted. OnTrue faulted ((program : Programmed) (number : ℕ) → IsConcluding program kept number s outcomes
          → (serial_of program ≡ record { bytes = new.bytes; faulted = true }) × (fault_of_run program ≡ Some number)))
      reduced_ended = by found result (gives found result given fault) gathers
        where
          by : (f : Checked) (r : Result Bool AllocError) → IfOk r (Gives f) → ((lists : List (List ℤ)) → outcomes ≡ map (value_of reduction) lists → AllFit (joined lists) → f ≡ result_over reduction (joined lists))
              → IfOk r (λ faulted. OnTrue faulted ((program : Programmed) (number : ℕ) → IsConcluding program kept number s outcomes
              → (serial_of program ≡ record { bytes = new.bytes; faulted = true }) × (fault_of_run program ≡ Some number)))
          by (Ok n) (Ok false) gave so = tt
          by (Ok n) (Ok true) gave so = let no : true ≡ false = gave.0 in cc
          by (Err kind) (Ok false) gave so = tt
          by (Err kind) (Ok true) gave so = λ program number here.
              let ended = concluded_sum laws program kept number s outcomes here scalar reduction positions value kind is so in
              (ended.0 ∙ ap (λ (k : Kept). record { bytes = k.bytes; faulted = true }) (sym gave.1), ended.1)
          by f (Err e) gave so = tt
