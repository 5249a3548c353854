-- The first entry that was not released.
use Rattle.std.proofs.Common.{◌≡◌, ◌+◌, ◌<◌, ◌≤◌, ℕ, suc, Bool, true, false, IsTrue, List, [], ◌∷◌, ◌++◌, length, get_or, set, not, Some, slice_get, refl, sym, ◌∙◌, ap, arith, inl, inr, get_or-set_same, get_or-set_other, length-set}
use Rattle.std.proofs.lemmas.Bool.Decides.{eqb_tells, leb_tells}
use Rattle.std.proofs.lemmas.List.Folds.{position_or_len-set, position_or_len_push}
use Rattle.std.proofs.lemmas.List.Sums.{fails_before_first, prefix_len_stops, prefix_len-le-length}
use Rattle.std.proofs.lemmas.Option.{get_or_from_slice_get, slice_get-get_or, slice_get_read}
use Rattle.pooma_machine.specs.declared.step.EventKind.TheVariants as kind
use Rattle.pooma_machine.specs.declared.step.Status.{Status}
use Rattle.pooma_machine.specs.declared.step.Status.TheVariants as status
use Rattle.pooma_queue.specs.Requests.{Waiting}
use Rattle.pooma_machine.specs.declared.step.Request.{Request}
use Rattle.pooma_machine.specs.declared.step.Event.{Event}
use Rattle.pooma_machine.specs.Steps.{IsLeastUnreleased, IsReady, is_out, is_released, next, status_of}
use Rattle.pooma_machine.specs.Kept.{IsKept, first_open}
use Rattle.pooma_machine.proofs.Keeps.{released_is}

abbrev pub is_unreleased : Status → Bool
is_unreleased s = not (is_released (Some s))

-- it is at the end at the most; each one before it was released; it was not
pub open_within : (statuses : List Status) → first_open statuses ≤ length statuses
open_within statuses = prefix_len-le-length (λ s. not (is_unreleased s)) statuses

pub open_before : (statuses : List Status) (k : ℕ) (d : Status) → k < first_open statuses → is_released (Some (get_or statuses k d)) ≡ true
open_before statuses k d h = turned (is_released (Some (get_or statuses k d))) (fails_before_first is_unreleased statuses k d h)
  where
    turned : (b : Bool) → not b ≡ false → b ≡ true
    turned true e = refl
    turned false e = absurd (cc e)

pub open_here : (statuses : List Status) (d : Status) → first_open statuses < length statuses → is_released (Some (get_or statuses (first_open statuses) d)) ≡ false
open_here statuses d h = turned (is_released (Some (get_or statuses (first_open statuses) d))) (prefix_len_stops (λ s. not (is_unreleased s)) statuses d h)
  where
    turned : (b : Bool) → not (not b) ≡ false → b ≡ false
    turned true e = absurd (cc e)
    turned false e = refl

-- it stays where one more entry comes
pub open_pushed : (statuses : List Status) (new : Status) → is_released (Some new) ≡ false → first_open (statuses ++ new ∷ []) ≡ first_open statuses
open_pushed statuses new unreleased =
    position_or_len_push is_unreleased statuses new
    ∙ elim (eqb_tells (first_open statuses) (length statuses)) [
      | inl end ↦ let at : first_open statuses ≡ length statuses = end.1 in rw (end.0, unreleased) (omega arith)
      | inr other ↦ rw other.0 refl
    ]

-- and where one that wasn't released is not released
pub open_kept : (statuses : List Status) (j : ℕ) (was now : Status) → slice_get statuses j ≡ Some was → is_released (Some was) ≡ false → is_released (Some now) ≡ false
    → first_open statuses ≡ first_open (set statuses j now)
open_kept statuses j was now at before after =
    let same : get_or statuses j was ≡ was = get_or_from_slice_get statuses j was was at in
    let tests : is_unreleased now ≡ is_unreleased (get_or statuses j was) = rw (same, before, after) refl in
    sym (position_or_len-set is_unreleased statuses j now was tests)

-- it does not go back where one is released
pub open_released : (statuses : List Status) (j : ℕ) (now : Status) → is_released (Some now) ≡ true → j < length statuses → first_open statuses ≤ first_open (set statuses j now)
open_released statuses j now released within =
    elim (leb_tells (first_open statuses) (first_open (set statuses j now))) [
      | inl t ↦ t.1
      | inr f ↦
          let l : length (set statuses j now) ≡ length statuses = length-set statuses j now in
          let there : first_open (set statuses j now) < first_open statuses = f.1 in
          let end = open_within statuses in
          let here = open_here (set statuses j now) now (omega arith) in
          let before = open_before statuses (first_open (set statuses j now)) now there in
          absurd (elim (eqb_tells (first_open (set statuses j now)) j) [
            | inl same ↦ cc (sym here ∙ (ap (λ k. is_released (Some (get_or (set statuses j now) k now))) same.1 ∙ (ap (λ s. is_released (Some s)) (get_or-set_same statuses j now now within) ∙ released)))
            | inr other ↦ cc (sym here ∙ (ap (λ s. is_released (Some s)) (get_or-set_other statuses j (first_open (set statuses j now)) now now other.1) ∙ before))
          ])
    ]

-- one further
pub open_further : (statuses : List Status) (first : ℕ) (d : Status) → first ≤ first_open statuses → first < length statuses → is_released (Some (get_or statuses first d)) ≡ true → first + 1 ≤ first_open statuses
open_further statuses first d le within released =
    elim (eqb_tells (first_open statuses) first) [
      | inl same ↦
          let here = open_here statuses d (omega (arith, same.1)) in
          absurd (cc (sym here ∙ (ap (λ k. is_released (Some (get_or statuses k d))) same.1 ∙ released)))
      | inr other ↦ omega (arith, other.1)
    ]

-- and where it ends
pub open_found : (statuses : List Status) (first : ℕ) (d : Status) → first ≤ first_open statuses → is_released (Some (get_or statuses first d)) ≡ false → first ≡ first_open statuses
open_found statuses first d le unreleased =
    elim (leb_tells (suc first) (first_open statuses)) [
      | inl t ↦ absurd (cc (sym unreleased ∙ open_before statuses first d t.1))
      | inr f ↦ omega (arith, f.1)
    ]

-- the first status that isn't released is that of the least entry that isn't
pub open_least : (plan : List (List Request)) (history : List Event) (statuses : List Status) (queues : List Waiting) (entries : ℕ) → IsKept plan history statuses queues → entries ≡ length plan
    → first_open statuses < length statuses → IsLeastUnreleased entries history (first_open statuses)
open_least plan history statuses queues entries kept all h =
    let count : length statuses ≡ length plan = kept.count in
    let d : Status = status.Waiting in
    record {
      there = omega arith;
      unreleased = ap is_released (kept.stands (first_open statuses) ∙ slice_get-get_or statuses (first_open statuses) d h) ∙ open_here statuses d h;
      before = λ i below. ap is_released (kept.stands i ∙ slice_get-get_or statuses i d (omega arith)) ∙ open_before statuses i d below;
    }

-- and where there is none, all were released
pub open_none : (plan : List (List Request)) (history : List Event) (statuses : List Status) (queues : List Waiting) → IsKept plan history statuses queues
    → length statuses ≤ first_open statuses → (j : ℕ) → j < length plan → IsTrue (is_released (status_of history j))
open_none plan history statuses queues kept h j within =
    let count : length statuses ≡ length plan = kept.count in
    let d : Status = status.Waiting in
    ap is_released (kept.stands j ∙ slice_get-get_or statuses j d (omega arith)) ∙ open_before statuses j d (omega arith)

-- a released entry can't be dispatched
pub released_unready : (plan : List (List Request)) (history : List Event) (j : ℕ) → IsTrue (is_released (status_of history j)) → IsReady plan history j → ⊥
released_unready plan history j released ready = absurd (cc (sym (ap is_released ready.0) ∙ released))

-- a release moves the place of the first open status no nearer
pub released_further : (plan : List (List Request)) (history : List Event) (statuses : List Status) (queues : List Waiting) (j : ℕ) (was new : Status) → IsKept plan history statuses queues
    → j < length plan → IsTrue (is_out (status_of history j)) → was ≡ get_or statuses j was → ((s : ℕ) → Some new ≡ next kind.Release s (Some was))
    → first_open statuses ≤ first_open (set statuses j new)
released_further plan history statuses queues j was new kept within out at is =
    let long = kept.count in
    let read : slice_get statuses j ≡ Some was = slice_get_read statuses (length statuses) j was refl (omega arith) at in
    let was_out : is_out (Some was) ≡ true = sym (ap is_out (kept.stands j ∙ read)) ∙ out in
    open_released statuses j new (released_is was new was_out is).1 (omega arith)
