-- Positions up to the first whose value is a fault.
use Rattle.std.proofs.Common.{refl, sym, ap, ◌∙◌, subst}
use Rattle.std.proofs.Math.Seq.{drop-cons}
use Rattle.std.proofs.lemmas.List.{take-append-drop, take_more}
use Rattle.std.proofs.lemmas.List.Elements.{filter_map-append}
use Rattle.std.proofs.lemmas.List.Sums.{take_while-cons}
use Rattle.std.proofs.lemmas.Option.{get_or_from_slice_get, slice_get_within}
use Rattle.std.specs.Prelude.{◌≡◌, ℕ, suc, ◌+◌, ℤ, Bool, true, false, not, is_err, Option, Some, Ok, Err, List, [], ◌∷◌, ◌++◌, take, drop, slice_get}
use Rattle.pooma_num.specs.declared.fault.FaultKind.{FaultKind}
use Rattle.pooma_view.specs.declared.slots.Slot.{Slot}
use Rattle.pooma_view.specs.Slots.{cell_named}
use Rattle.pooma_field.specs.Numbered.{Numbered, Change, with_number, with_changes}
use Rattle.pooma_expr.specs.Values.{Checked}
use Rattle.pooma_piece.specs.declared.outcome.Outcome.{Outcome}
use Rattle.pooma_piece.specs.declared.outcome.Outcome.TheVariants.{Fault}
use Rattle.pooma_piece.specs.Effects.{before_fault, change_to, changes_over, fault_or, first_fault_or, number_of, numbers_over}

-- no value at these positions is a fault
abbrev pub HaveNumbers : (List ℤ → Checked) → List (List ℤ) → Type 0
HaveNumbers value [] = Unit {0}
HaveNumbers value (p ∷ ps) = (is_err (value p) ≡ false) × HaveNumbers value ps

pub HaveNumbers-push : (value : List ℤ → Checked) (ps : List (List ℤ)) (p : List ℤ) → HaveNumbers value ps → is_err (value p) ≡ false → HaveNumbers value (ps ++ p ∷ [])
HaveNumbers-push value [] p h e = (e, tt)
HaveNumbers-push value (x ∷ ps) p h e = (h.0, HaveNumbers-push value ps p h.1 e)

otherwise_at_number : (p : List ℤ) (v : Checked) (o : Outcome) → is_err v ≡ false → fault_or p v o ≡ o
otherwise_at_number p (Ok n) o e = refl
otherwise_at_number p (Err kind) o e = cc

pub first_fault_behind : (value : List ℤ → Checked) (ps qs : List (List ℤ)) (o : Outcome) → HaveNumbers value ps → first_fault_or value (ps ++ qs) o ≡ first_fault_or value qs o
first_fault_behind value [] qs o h = refl
first_fault_behind value (p ∷ ps) qs o h = otherwise_at_number p (value p) _ h.0 ∙ first_fault_behind value ps qs o h.1

fault_at_fault : (p : List ℤ) (v : Checked) (kind : FaultKind) (o : Outcome) → v ≡ Err kind → fault_or p v o ≡ Fault p kind
fault_at_fault p v kind o e = ap (λ (c : Checked). fault_or p c o) e

-- a list is what stands before a place, what stands there, and the rest
pub parted : (ps : List (List ℤ)) (k : ℕ) (p : List ℤ) → slice_get ps k ≡ Some p → ps ≡ take k ps ++ p ∷ drop (suc k) ps
parted ps k p at =
    sym (take-append-drop k ps)
    ∙ ap (λ (rest : List (List ℤ)). take k ps ++ rest) (drop-cons ps k [] (slice_get_within ps k p at) ∙ ap (λ (q : List ℤ). q ∷ drop (suc k) ps) (get_or_from_slice_get ps k p [] at))

pub one_more : (ps : List (List ℤ)) (k : ℕ) (p : List ℤ) → slice_get ps k ≡ Some p → take (k + 1) ps ≡ take k ps ++ p ∷ []
one_more ps k p at =
    take_more ps k [] (slice_get_within ps k p at) ∙ ap (λ (q : List ℤ). take k ps ++ q ∷ []) (get_or_from_slice_get ps k p [] at)

pub first_fault_is : (value : List ℤ → Checked) (ps : List (List ℤ)) (k : ℕ) (p : List ℤ) (kind : FaultKind) (o : Outcome) → HaveNumbers value (take k ps) → slice_get ps k ≡ Some p → value p ≡ Err kind → first_fault_or value ps o ≡ Fault p kind
first_fault_is value ps k p kind o h at e =
    ap (λ (xs : List (List ℤ)). first_fault_or value xs o) (parted ps k p at)
    ∙ first_fault_behind value (take k ps) (p ∷ drop (suc k) ps) o h
    ∙ fault_at_fault p (value p) kind (first_fault_or value (drop (suc k) ps) o) e

pub no_fault_is : (value : List ℤ → Checked) (ps : List (List ℤ)) (o : Outcome) → HaveNumbers value ps → first_fault_or value ps o ≡ o
no_fault_is value [] o h = refl
no_fault_is value (p ∷ ps) o h = otherwise_at_number p (value p) _ h.0 ∙ no_fault_is value ps o h.1

passes : (b : Bool) → b ≡ false → not b ≡ true
passes b e = ap not e

fails : (v : Checked) (kind : FaultKind) → v ≡ Err kind → not (is_err v) ≡ false
fails v kind e = ap (λ (c : Checked). not (is_err c)) e

before_fault_behind : (value : List ℤ → Checked) (ps qs : List (List ℤ)) → HaveNumbers value ps → before_fault value (ps ++ qs) ≡ ps ++ before_fault value qs
before_fault_behind value [] qs h = refl
before_fault_behind value (p ∷ ps) qs h =
    let here : not (is_err (value p)) ≡ true = passes (is_err (value p)) h.0 in
    let rest : before_fault value (ps ++ qs) ≡ ps ++ before_fault value qs = before_fault_behind value ps qs h.1 in
    take_while-cons (λ (q : List ℤ). not (is_err (value q))) p (ps ++ qs) ∙ rw here (ap (λ (xs : List (List ℤ)). p ∷ xs) rest)

before_fault_none : (value : List ℤ → Checked) (p : List ℤ) (qs : List (List ℤ)) (kind : FaultKind) → value p ≡ Err kind → before_fault value (p ∷ qs) ≡ []
before_fault_none value p qs kind e =
    let here : not (is_err (value p)) ≡ false = fails (value p) kind e in
    take_while-cons (λ (q : List ℤ). not (is_err (value q))) p qs ∙ rw here refl

pub before_fault_is : (value : List ℤ → Checked) (ps : List (List ℤ)) (k : ℕ) (p : List ℤ) (kind : FaultKind) → HaveNumbers value (take k ps) → slice_get ps k ≡ Some p → value p ≡ Err kind → before_fault value ps ≡ take k ps
before_fault_is value ps k p kind h at e =
    ap (before_fault value) (parted ps k p at)
    ∙ before_fault_behind value (take k ps) (p ∷ drop (suc k) ps) h
    ∙ ap (λ (xs : List (List ℤ)). take k ps ++ xs) (before_fault_none value p (drop (suc k) ps) kind e)
    ∙ simp nothing_more
  where
    nothing_more : (xs : List (List ℤ)) → xs ++ [] ≡ xs
    nothing_more [] = refl
    nothing_more (x ∷ xs) = ap (λ (ys : List (List ℤ)). x ∷ ys) (nothing_more xs)

pub before_fault_all : (value : List ℤ → Checked) (ps : List (List ℤ)) → HaveNumbers value ps → before_fault value ps ≡ ps
before_fault_all value [] h = refl
before_fault_all value (p ∷ ps) h =
    let here : not (is_err (value p)) ≡ true = passes (is_err (value p)) h.0 in
    let rest : before_fault value ps ≡ ps = before_fault_all value ps h.1 in
    take_while-cons (λ (q : List ℤ). not (is_err (value q))) p ps ∙ rw here (ap (λ (xs : List (List ℤ)). p ∷ xs) rest)

pub with_changes-append : (a : Numbered) (xs ys : List Change) → with_changes a (xs ++ ys) ≡ with_changes (with_changes a xs) ys
with_changes-append a [] ys = refl
with_changes-append a (x ∷ xs) ys = with_changes-append (with_number a x.cell x.number) xs ys

-- one position more, which has a number
pub one_more_change : (slots : List Slot) (value : List ℤ → Checked) (a : Numbered) (ps : List (List ℤ)) (k : ℕ) (p : List ℤ) (n : ℤ) → slice_get ps k ≡ Some p → value p ≡ Ok n → with_changes a (changes_over slots value (take (k + 1) ps)) ≡ with_number (with_changes a (changes_over slots value (take k ps))) (cell_named slots p) n
one_more_change slots value a ps k p n at e =
    let f : List ℤ → Option Change = λ q. change_to (cell_named slots q) (value q) in
    let here : changes_over slots value (p ∷ []) ≡ record { cell = cell_named slots p; number = n } ∷ [] = rw e refl in
    ap (λ (xs : List (List ℤ)). with_changes a (changes_over slots value xs)) (one_more ps k p at)
    ∙ ap (with_changes a) (filter_map-append f (take k ps) (p ∷ []))
    ∙ ap (λ (xs : List Change). with_changes a (changes_over slots value (take k ps) ++ xs)) here
    ∙ with_changes-append a (changes_over slots value (take k ps)) _

pub one_more_number : (value : List ℤ → Checked) (ps : List (List ℤ)) (k : ℕ) (p : List ℤ) (n : ℤ) → slice_get ps k ≡ Some p → value p ≡ Ok n → numbers_over value (take (k + 1) ps) ≡ numbers_over value (take k ps) ++ n ∷ []
one_more_number value ps k p n at e =
    let here : numbers_over value (p ∷ []) ≡ n ∷ [] = rw e refl in
    ap (numbers_over value) (one_more ps k p at)
    ∙ filter_map-append (λ (q : List ℤ). number_of (value q)) (take k ps) (p ∷ [])
    ∙ ap (λ (xs : List ℤ). numbers_over value (take k ps) ++ xs) here

pub HaveNumbers-more : (value : List ℤ → Checked) (ps : List (List ℤ)) (k : ℕ) (p : List ℤ) (n : ℤ) → slice_get ps k ≡ Some p → value p ≡ Ok n → HaveNumbers value (take k ps) → HaveNumbers value (take (k + 1) ps)
HaveNumbers-more value ps k p n at e h =
    subst (HaveNumbers value) (sym (one_more ps k p at)) (HaveNumbers-push value (take k ps) p h (ap is_err e))
