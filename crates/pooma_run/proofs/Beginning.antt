-- A run before its first statement, and behind its last one.
use Rattle.std.proofs.Common.{◌≡◌, ◌∙◌, sym, ap, subst, ℕ, zero, suc, ◌+◌, pos, Bool, false, Option, None, Some, List, [], ◌∷◌, drop, length, map, arith}
use Rattle.std.specs.Prelude.{All, IfNone, OnSome, is_none, replicate}
use Rattle.std.proofs.lemmas.List.{drop-drop, length-map, length-replicate}
use Rattle.std.proofs.lemmas.List.Elements.{All-head, All-replicate, All-tail}
use Rattle.pooma_expr.specs.Words.{IsWord}
use Rattle.pooma_field.specs.Shapes.{Shaped}
use Rattle.pooma_fill.specs.Marks.{declared_of, first_mark}
use Rattle.pooma_layout.specs.Axes.{CutAxis}
use Rattle.pooma_machine.specs.Told.{Window}
use Rattle.pooma_model.specs.declared.statement.Statement.{Statement}
use Rattle.pooma_model.specs.Order.{Programmed}
use Rattle.pooma_model.specs.Serial.{serial_of}
use Rattle.pooma_piece.specs.Pieces.{Pieced}
use Rattle.pooma_piece.specs.Words.{HaveWords}
use Rattle.pooma_split.specs.Statements.{fault_among}
use Rattle.pooma_store.specs.Stored.{AreArrays, IsStore}
use Rattle.pooma_run.specs.Steps.{window_with}
use Rattle.pooma_run.specs.Told.{HasTold, TellsUpTo, ToldAs}
use Rattle.pooma_run.specs.Underway.{IsOf, IsUnderway, Kept, WritesFault, completed, left}
use Rattle.pooma_run.proofs.Concluding.{ended_at_last, ran_whole}
use Rattle.pooma_run.proofs.Faulting.{has_fault}
use Rattle.pooma_run.proofs.Performed.{ends_so}
use Rattle.pooma_run.proofs.Performing.{tells_last}
use Rattle.pooma_run.proofs.Telling.{told_as_all, told_with_fault}

-- what does not change along a run holds of what is made first
pub is_of_first : (program : Programmed) (kept : Kept) → declared_of kept.stale ≡ program.declared → kept.stale.marks ≡ map first_mark kept.stale.shapes → All HaveWords kept.stale.shapes
    → kept.store.shapes ≡ program.declared.shapes → kept.store.layouts ≡ program.declared.layouts → IsStore kept.store → kept.store.lent ≡ false
    → kept.scalars ≡ replicate program.declared.scalars (pos 0) → IsOf program kept
is_of_first program kept declared marks constants shapes layouts store home scalars = record {
  declared = declared;
  in_store =
      ap (λ (ss : List Shaped). record { shapes = ss; layouts = kept.store.layouts; scalars = length kept.scalars }) shapes
      ∙ (ap (λ (ls : List (List CutAxis)). record { shapes = program.declared.shapes; layouts = ls; scalars = length kept.scalars }) layouts
      ∙ ap (λ (n : ℕ). record { shapes = program.declared.shapes; layouts = program.declared.layouts; scalars = n }) (ap length scalars ∙ length-replicate program.declared.scalars (pos 0)));
  arrays = subst (λ (ss : List Shaped). AreArrays ss program.declared.layouts) shapes (subst (AreArrays kept.store.shapes) layouts store.arrays);
  as_many = ap length marks ∙ length-map kept.stale.shapes first_mark;
  constants = constants;
  home = home;
  words = subst (All IsWord) (sym scalars) (All-replicate IsWord program.declared.scalars (pos 0) (record { sfits = omega arith }));
}

-- the next statement, and what is left behind it
pub left_behind : (order : List Statement) (n : ℕ) (s : Statement) (rest : List Statement) → drop n order ≡ s ∷ rest → rest ≡ drop (n + 1) order
left_behind order n s rest is = sym (ap (drop 1) is) ∙ drop-drop 1 n order

pub holds_of_next : (P : Statement → Type 0) (order : List Statement) (n : ℕ) (s : Statement) (rest : List Statement) → All P order → drop n order ≡ s ∷ rest → P s
holds_of_next P [] zero s rest each is = absurd (cc is)
holds_of_next P [] (suc n) s rest each is = absurd (cc is)
holds_of_next P (t ∷ order) zero s rest each is = let same : t ≡ s = cc in subst P same (All-head P t order each)
holds_of_next P (t ∷ order) (suc n) s rest each is = holds_of_next P order n s rest (All-tail P t order each) is

-- Behind the last statement: no fault was found, or one, whose text was written.
module _ {X : Type 0} (program : Programmed) (kept new : Kept) (number : ℕ) (found : Option X) (underway : IsUnderway program kept number) (last : drop number program.order ≡ [])
    (none : OnSome found (fault_among kept.pending (left kept) ≡ None)) (after : OnSome found (new ≡ completed kept)) (fault : IfNone found (WritesFault program kept new.bytes)) where
  pub last_serial : (faulted : Bool) → faulted ≡ is_none found → record { bytes = new.bytes; faulted = faulted } ≡ serial_of program
  last_serial faulted is = by found none after fault is
    where
      by : (o : Option X) → OnSome o (fault_among kept.pending (left kept) ≡ None) → OnSome o (new ≡ completed kept) → IfNone o (WritesFault program kept new.bytes) → faulted ≡ is_none o
          → record { bytes = new.bytes; faulted = faulted } ≡ serial_of program
      by None n a w e =
          ap (λ (b : Bool). record { bytes = new.bytes; faulted = b }) e
          ∙ sym (ends_so program kept new.bytes w (ended_at_last program kept number w.fault underway w.is))
      by (Some x) n a w e =
          ap (λ (b : Bool). record { bytes = new.bytes; faulted = b }) e
          ∙ (ap (λ (k : Kept). record { bytes = k.bytes; faulted = false }) a ∙ sym (ran_whole program kept number underway last n).0)

  module _ {S : Type 0} (tells : List Pieced → Window → S → S → Type 0) (known : Option (List Window)) (start : S) (told end : Option (List Window)) (state now : S)
      (upto : TellsUpTo tells program kept number known told start state) (one : ToldAs tells (window_with kept.pending) told end state now) where
    pub last_told : HasTold tells program known end start now
    last_told = by found none fault
      where
        by : (o : Option X) → OnSome o (fault_among kept.pending (left kept) ≡ None) → IfNone o (WritesFault program kept new.bytes) → HasTold tells program known end start now
        by None n w =
            told_with_fault tells program known start kept.pending [] told state (tells_last tells program known start kept number told state last upto) end now one w.fault.statement
            (ended_at_last program kept number w.fault underway w.is).first
            (has_fault kept.pending (left kept).outcomes w.fault w.is)
        by (Some x) n w =
            told_as_all tells program known start kept.pending told state (tells_last tells program known start kept number told state last upto) end now one
            (ran_whole program kept number underway last n).1
