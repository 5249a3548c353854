-- A run from operation to operation.
use Rattle.std.proofs.Common.{◌≡◌, ℕ, zero, suc, ◌+◌, ◌-◌, ◌<◌, ◌≤◌, ℤ, pos, Bool, true, false, cond, refl, sym, ap, subst, ◌∙◌, arith, List, [], ◌∷◌, length, get_or, drop, drop-cons, length-drop, Ok, Err}
use Rattle.std.proofs.Math.Seq.{drop-drop}
use Rattle.std.proofs.lemmas.List.{drop_all}
use Rattle.std.specs.Prelude.{neg_ℤ, unsigned_abs, slice_index_or}
use Rattle.std.specs.Ordering.{int_eq}
use Rattle.pooma_num.specs.declared.fault.FaultKind.{FaultKind}
use Rattle.pooma_expr.specs.declared.operation.Operation.{Operation}
use Rattle.pooma_expr.specs.declared.operation.Operation.TheVariants.{Push, PushIndex, PushRead, Negate, Absolute, Apply, SkipIfZero, Skip}
use Rattle.pooma_expr.specs.Values.{Checked, exact, result_of}
use Rattle.pooma_expr.specs.Machine.{Step, push, top_of, step_of, then_on, outcome, CanStep, Leads, CanRun}

-- what holds of two numbers holds of equal ones
moved : (Next : ℕ → ℕ → Type 0) (m n h k : ℕ) → m ≡ n → h ≡ k → Next m h → Next n k
moved Next m n h k e f holds = subst (λ i. Next i k) e (subst (λ j. Next m j) f holds)

-- what a step that gives these two gives
abbrev passed_of : Step → ℕ
passed_of (Ok r) = r.0
passed_of (Err fault) = 0

abbrev stack_of : Step → List ℤ
stack_of (Ok r) = r.1
stack_of (Err fault) = []

push_leads : (Next : ℕ → ℕ → Type 0) (c : Checked) (below : List ℤ) (n : ℕ) (t : List ℤ) (h : ℕ) → push c below ≡ Ok (n, t) → h ≡ suc (length below) → Next 0 h → Next n (length t)
push_leads Next (Ok x) below n t h e f holds =
    moved Next 0 n h (length t) (ap passed_of e) (f ∙ ap (λ c. length (stack_of c)) e) holds
push_leads Next (Err fault) below n t h e f holds = absurd cc

abbrev skip_step : ℕ → List ℤ → Bool → Step
skip_step count below b = Ok (cond b count 0, below)

-- where an operation has what it needs, what it leads to holds after it
leads_on : (Next : ℕ → ℕ → Type 0) (number : ℕ → ℤ) (p : List ℤ) (CanAsk : ℕ → Type 0) (dims places : ℕ) (o : Operation) (stack : List ℤ) (n : ℕ) (t : List ℤ) → CanStep CanAsk dims places o (length stack) → Leads Next o (length stack) → step_of number p o stack ≡ Ok (n, t) → Next n (length t)
leads_on Next number p CanAsk dims places (Push x) stack n t can leads e = push_leads Next (Ok x) stack n t _ e (omega arith) leads
leads_on Next number p CanAsk dims places (PushIndex axis) stack n t can leads e = push_leads Next (Ok (slice_index_or p axis (pos 0))) stack n t _ e (omega arith) leads
leads_on Next number p CanAsk dims places (PushRead read) stack n t can leads e = push_leads Next (Ok (number read)) stack n t _ e (omega arith) leads
leads_on Next number p CanAsk dims places Negate [] n t can leads e = absurd (omega arith)
leads_on Next number p CanAsk dims places Negate (x ∷ below) n t can leads e = push_leads Next (exact (neg_ℤ x)) below n t _ e refl leads
leads_on Next number p CanAsk dims places Absolute [] n t can leads e = absurd (omega arith)
leads_on Next number p CanAsk dims places Absolute (x ∷ below) n t can leads e = push_leads Next (exact (pos (unsigned_abs x))) below n t _ e refl leads
leads_on Next number p CanAsk dims places (Apply o) [] n t can leads e = absurd (omega arith)
leads_on Next number p CanAsk dims places (Apply o) (y ∷ []) n t can leads e = absurd (omega arith)
leads_on Next number p CanAsk dims places (Apply o) (y ∷ x ∷ below) n t can leads e = push_leads Next (result_of o x y) below n t _ e (omega arith) leads
leads_on Next number p CanAsk dims places (SkipIfZero count) [] n t can leads e = absurd (omega arith)
leads_on Next number p CanAsk dims places (SkipIfZero count) (x ∷ below) n t can leads e = skips (int_eq x (pos 0)) e
  where
    lower : length (x ∷ below) - 1 ≡ length below
    lower = omega arith

    skips : (b : Bool) → skip_step count below b ≡ Ok (n, t) → Next n (length t)
    skips true f = moved Next count n _ (length t) (ap passed_of f) (lower ∙ ap (λ c. length (stack_of c)) f) leads.0
    skips false f = moved Next 0 n _ (length t) (ap passed_of f) (lower ∙ ap (λ c. length (stack_of c)) f) leads.1
leads_on Next number p CanAsk dims places (Skip count) stack n t can leads e =
    moved Next count n _ (length t) (ap passed_of e) (ap (λ c. length (stack_of c)) e) leads

-- operations that are passed over are as good as not there
outcome-drop : (number : ℕ → ℤ) (p : List ℤ) (os : List Operation) (k : ℕ) (s : List ℤ) → k ≤ length os → outcome number p os k s ≡ outcome number p (drop k os) 0 s
outcome-drop number p [] zero s h = refl
outcome-drop number p [] (suc k) s h = absurd (omega arith)
outcome-drop number p (o ∷ os) zero s h = refl
outcome-drop number p (o ∷ os) (suc k) s h = outcome-drop number p os k s (omega arith)

can_drop : (CanAsk : ℕ → Type 0) (dims places : ℕ) (os : List Operation) (k h : ℕ) → CanRun CanAsk dims places os k h → (k ≤ length os) × CanRun CanAsk dims places (drop k os) 0 h
can_drop CanAsk dims places [] zero h can = (omega arith, can)
can_drop CanAsk dims places [] (suc k) h can = absurd can
can_drop CanAsk dims places (o ∷ os) zero h can = (omega arith, can)
can_drop CanAsk dims places (o ∷ os) (suc k) h can = let rest = can_drop CanAsk dims places os k h can in (omega arith, rest.1)

module _ (number : ℕ → ℤ) (p : List ℤ) (CanAsk : ℕ → Type 0) (places : ℕ) (os : List Operation) (end : Checked) where
  -- what is left to run from a place on can run, and comes to this end
  pub record IsAt (at : ℕ) (stack : List ℤ) : Type 0 where
    pub within : at ≤ length os
    pub can : CanRun CanAsk (length p) places (drop at os) 0 (length stack)
    pub same : outcome number p (drop at os) 0 stack ≡ end

  can_front : (at : ℕ) (stack : List ℤ) (d : Operation) → IsAt at stack → at < length os → CanRun CanAsk (length p) places (get_or os at d ∷ drop (suc at) os) 0 (length stack)
  can_front at stack d is h = subst (λ (xs : List Operation). CanRun CanAsk (length p) places xs 0 (length stack)) (drop-cons os at d h) is.can

  same_front : (at : ℕ) (stack : List ℤ) (d : Operation) → IsAt at stack → at < length os → then_on (step_of number p (get_or os at d) stack) (outcome number p (drop (suc at) os)) ≡ end
  same_front at stack d is h = sym (ap (λ (xs : List Operation). outcome number p xs 0 stack) (drop-cons os at d h)) ∙ is.same

  pub can_step : (at : ℕ) (stack : List ℤ) (d : Operation) → IsAt at stack → at < length os → CanStep CanAsk (length p) places (get_or os at d) (length stack)
  can_step at stack d is h = (can_front at stack d is h).0

  pub faults : (at : ℕ) (stack : List ℤ) (d : Operation) (fault : FaultKind) → IsAt at stack → at < length os → step_of number p (get_or os at d) stack ≡ Err fault → Err fault ≡ end
  faults at stack d fault is h f = sym (ap (λ (r : Step). then_on r (outcome number p (drop (suc at) os))) f) ∙ same_front at stack d is h

  drop-drop_behind : (at n : ℕ) → drop n (drop (suc at) os) ≡ drop (at + (1 + n)) os
  drop-drop_behind at n = let sum : suc at + n ≡ at + (1 + n) = omega arith in drop-drop n (suc at) os ∙ ap (λ (k : ℕ). drop k os) sum

  pub goes_on : (at : ℕ) (stack : List ℤ) (d : Operation) (n : ℕ) (t : List ℤ) → IsAt at stack → at < length os → step_of number p (get_or os at d) stack ≡ Ok (n, t) → IsAt (at + (1 + n)) t
  goes_on at stack d n t is h f =
      let rest = drop (suc at) os in
      let can = can_front at stack d is h in
      let led = leads_on (CanRun CanAsk (length p) places rest) number p CanAsk (length p) places (get_or os at d) stack n t can.0 can.1 f in
      let left = can_drop CanAsk (length p) places rest n (length t) led in
      let after = sym (ap (λ (r : Step). then_on r (outcome number p rest)) f) ∙ same_front at stack d is h in
      let behind = drop-drop_behind at n in
      record {
        within = omega (arith, left.0, length-drop (suc at) os);
        can = subst (λ (xs : List Operation). CanRun CanAsk (length p) places xs 0 (length t)) behind left.1;
        same = sym (ap (λ (xs : List Operation). outcome number p xs 0 t) behind) ∙ sym (outcome-drop number p rest n t left.0) ∙ after;
      }

  pub starts : CanRun CanAsk (length p) places os 0 0 → outcome number p os 0 [] ≡ end → IsAt 0 []
  starts can e = record { within = omega arith; can = can; same = e }

  pub ends : (at : ℕ) (stack : List ℤ) → IsAt at stack → length os ≤ at → (length stack ≡ 1) × (Ok (top_of stack) ≡ end)
  ends at stack is h =
      let none : drop at os ≡ [] = drop_all at os h in
      (subst (λ (xs : List Operation). CanRun CanAsk (length p) places xs 0 (length stack)) none is.can, sym (ap (λ (xs : List Operation). outcome number p xs 0 stack) none) ∙ is.same)

-- the same where as many places are counted otherwise
pub same_places : (number : ℕ → ℤ) (p : List ℤ) (CanAsk : ℕ → Type 0) (m n : ℕ) (os : List Operation) (end : Checked) (at : ℕ) (stack : List ℤ) → m ≡ n → IsAt number p CanAsk m os end at stack → IsAt number p CanAsk n os end at stack
same_places number p CanAsk m n os end at stack e is = subst (λ (k : ℕ). IsAt number p CanAsk k os end at stack) e is
