-- What positions make, where two ways to find their values agree at each of them.
use Rattle.std.proofs.Common.{refl, ap, ◌∙◌, subst, inl, inr, ⊎_elim, cond, take}
use Rattle.std.specs.List.{cons_option, position_or_len}
use Rattle.std.specs.Prelude.{◌≡◌, ℕ, zero, suc, ◌+◌, ℤ, not, Ok, Err, is_err, List, [], ◌∷◌}
use Rattle.pooma_logic.proofs.Members.{Member}
use Rattle.pooma_view.specs.declared.slots.Slot.{Slot}
use Rattle.pooma_view.specs.Slots.{cell_named}
use Rattle.pooma_field.specs.Numbered.{Change}
use Rattle.pooma_expr.specs.Values.{Checked}
use Rattle.pooma_model.specs.Assigning.{Fails, Given, Nothing, Number, change_of, given_by}
use Rattle.pooma_model.specs.Partitions.{changes_at, numbers_at}
use Rattle.pooma_model.specs.Reducing.{number_in}
use Rattle.pooma_store.specs.Numbering.{EachCell}
use Rattle.pooma_piece.specs.declared.outcome.Outcome.{Outcome}
use Rattle.pooma_piece.specs.Effects.{before_fault, change_to, changes_over, fault_or, first_fault_or, number_of, numbers_over}

abbrev pub AgreeOn : (List ℤ → Checked) → (List ℤ → Checked) → List (List ℤ) → Type 0
AgreeOn f g ps = (p : List ℤ) → Member ps p → f p ≡ g p

later : (f g : List ℤ → Checked) (p : List ℤ) (ps : List (List ℤ)) → AgreeOn f g (p ∷ ps) → AgreeOn f g ps
later f g p ps same q m = same q (inr m)

pub same_first : (f g : List ℤ → Checked) (ps : List (List ℤ)) (o : Outcome) → AgreeOn f g ps → first_fault_or f ps o ≡ first_fault_or g ps o
same_first f g [] o same = refl
same_first f g (p ∷ ps) o same =
    ap (λ v. fault_or p v (first_fault_or f ps o)) (same p (inl refl)) ∙ ap (fault_or p (g p)) (same_first f g ps o (later f g p ps same))

same_place : (f g : List ℤ → Checked) (ps : List (List ℤ)) → AgreeOn f g ps → position_or_len (λ p. is_err (f p)) ps ≡ position_or_len (λ p. is_err (g p)) ps
same_place f g [] same = refl
same_place f g (p ∷ ps) same =
    ap (λ (v : Checked). cond (not (is_err v)) (1 + position_or_len (λ q. is_err (f q)) ps) 0) (same p (inl refl))
    ∙ ap (λ (n : ℕ). cond (not (is_err (g p))) (1 + n) 0) (same_place f g ps (later f g p ps same))

pub same_before : (f g : List ℤ → Checked) (ps : List (List ℤ)) → AgreeOn f g ps → before_fault f ps ≡ before_fault g ps
same_before f g ps same = ap (λ n. take n ps) (same_place f g ps same)

taken : {A : Type 0} (xs : List A) (n : ℕ) (x : A) → Member (take n xs) x → Member xs x
taken xs zero x m = absurd m
taken [] (suc n) x m = absurd m
taken (y ∷ ys) (suc n) x m = ⊎_elim (λ e. inl e) (λ l. inr (taken ys n x l)) m

pub before_member : (g : List ℤ → Checked) (ps : List (List ℤ)) (q : List ℤ) → Member (before_fault g ps) q → Member ps q
before_member g ps q m = taken ps (position_or_len (λ p. is_err (g p)) ps) q m

change_is : (c : List ℤ) (v : Checked) → change_to c v ≡ change_of c (given_by v)
change_is c (Ok n) = refl
change_is c (Err kind) = refl

pub same_changes : (f g : List ℤ → Checked) (slots : List Slot) (ps : List (List ℤ)) → AgreeOn f g ps → changes_over slots f ps ≡ changes_at (λ p. given_by (g p)) slots ps
same_changes f g slots [] same = refl
same_changes f g slots (p ∷ ps) same =
    ap (λ o. cons_option o (changes_over slots f ps)) (ap (change_to (cell_named slots p)) (same p (inl refl)) ∙ change_is (cell_named slots p) (g p))
    ∙ ap (cons_option (change_of (cell_named slots p) (given_by (g p)))) (same_changes f g slots ps (later f g p ps same))

number_is : (v : Checked) → number_of v ≡ number_in v
number_is (Ok n) = refl
number_is (Err kind) = refl

pub same_numbers : (f g : List ℤ → Checked) (ps : List (List ℤ)) → AgreeOn f g ps → numbers_over f ps ≡ numbers_at g ps
same_numbers f g [] same = refl
same_numbers f g (p ∷ ps) same =
    ap (λ o. cons_option o (numbers_over f ps)) (ap number_of (same p (inl refl)) ∙ number_is (g p))
    ∙ ap (cons_option (number_in (g p))) (same_numbers f g ps (later f g p ps same))

-- each changed cell is one that the slots name at one of the positions
pub change_cells : (given : List ℤ → Given) (slots : List Slot) (ps : List (List ℤ)) (P : List ℤ → Type 0) → ((q : List ℤ) → Member ps q → P (cell_named slots q)) → EachCell (changes_at given slots ps) P
change_cells given slots [] P each = λ k change at. cc
change_cells given slots (p ∷ ps) P each = by (given p) (change_cells given slots ps P (λ q m. each q (inr m)))
  where
    by : (v : Given) → EachCell (changes_at given slots ps) P → EachCell (cons_option (change_of (cell_named slots p) v) (changes_at given slots ps)) P
    by (Number n) rest zero change at = subst P (let same : cell_named slots p ≡ change.cell = ap (λ (c : Change). c.cell) (let e : record { cell = cell_named slots p; number = n } ≡ change = cc in e) in same) (each p (inl refl))
    by (Number n) rest (suc k) change at = rest k change at
    by Nothing rest k change at = rest k change at
    by (Fails kind) rest k change at = rest k change at
