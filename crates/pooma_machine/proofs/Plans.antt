-- Statuses, plans and legal histories, one event at a time.
use Rattle.std.proofs.Common.{◌≡◌, ◌≢◌, ◌+◌, ◌<◌, ◌≤◌, ℕ, List, [], ◌∷◌, ◌++◌, length, take, Some, None, slice_get, refl, sym, ◌∙◌, subst, arith, inl, inr, length-append}
use Rattle.std.proofs.lemmas.Bool.Decides.{leb_tells}
use Rattle.std.proofs.lemmas.List.{get_or_append_left, get_or_push, get_or_past, take-append-le}
use Rattle.std.proofs.lemmas.List.Sums.{fold-append, sum_by-append}
use Rattle.std.proofs.lemmas.Option.{slice_get_within}
use Rattle.std.proofs.Math.Seq.{take-append_seam}
use Rattle.pooma_queue.specs.declared.queue.Mode.{Mode}
use Rattle.pooma_machine.specs.declared.step.Request.{Request}
use Rattle.pooma_machine.specs.declared.step.Event.{Event}
use Rattle.pooma_machine.specs.declared.step.EventKind.{EventKind}
use Rattle.pooma_machine.specs.declared.step.EventKind.TheVariants as kind
use Rattle.pooma_machine.specs.Steps.{requests_of, AsksFor, Conflict, next, status_after, status_of, issued, Comes, MayCome, IsLegal, event_of}
use Rattle.pooma_logic.proofs.Elements.{contains_none}
use Rattle.pooma_machine.proofs.Listed.{same_test, other_test, slice_get_before, slice_get_last}

-- a further event changes the status of its own entry alone
pub status_own : (history : List Event) (kind : EventKind) (j seat : ℕ) → status_of (history ++ event_of kind j seat ∷ []) j ≡ next kind seat (status_of history j)
status_own history kind j seat = fold-append (status_after j) None history (event_of kind j seat ∷ []) ∙ rw (same_test j) refl

pub status_other : (history : List Event) (kind : EventKind) (i seat j : ℕ) → i ≢ j → status_of (history ++ event_of kind i seat ∷ []) j ≡ status_of history j
status_other history kind i seat j ne = fold-append (status_after j) None history (event_of kind i seat ∷ []) ∙ rw (other_test i j ne) refl

-- a further request is counted, and no other event is
pub issued_more : (history : List Event) (event : Event) → issued (history ++ event ∷ []) ≡ issued history + issued (event ∷ [])
issued_more history event = sum_by-append _ history (event ∷ [])

-- what the entries of a longer plan ask for
pub requests_of_old : (plan : List (List Request)) (requests : List Request) (i : ℕ) → i < length plan → requests_of (plan ++ requests ∷ []) i ≡ requests_of plan i
requests_of_old plan requests i h = get_or_append_left plan (requests ∷ []) [] i h

pub requests_of_new : (plan : List (List Request)) (requests : List Request) → requests_of (plan ++ requests ∷ []) (length plan) ≡ requests
requests_of_new plan requests = get_or_push plan requests [] (length plan) refl

-- only an entry of the plan asks for anything
pub asks_in_plan : (plan : List (List Request)) (i object : ℕ) (mode : Mode) → AsksFor plan i object mode → i < length plan
asks_in_plan plan i object mode asks =
    elim (leb_tells (length plan) i) [
      | inl t ↦ absurd (contains_none _ (rw (get_or_past plan i [] t.1) at asks))
      | inr f ↦ f.1
    ]

-- entries of a plan conflict as in a longer one
pub conflict_old : (plan : List (List Request)) (requests : List Request) (i j : ℕ) → i < length plan → j < length plan → Conflict (plan ++ requests ∷ []) i j → Conflict plan i j
conflict_old plan requests i j hi hj (object, over) = (
  object,
  record {
    one = over.one;
    other = over.other;
    asks_one = rw (requests_of_old plan requests i hi) at over.asks_one;
    asks_other = rw (requests_of_old plan requests j hj) at over.asks_other;
    conflicting = over.conflicting;
  },
)

-- what may come in a plan may come in a longer one
pub comes_more : (plan : List (List Request)) (requests : List Request) (history : List Event) (kind : EventKind) (j : ℕ) → j < length plan → Comes plan history kind j → Comes (plan ++ requests ∷ []) history kind j
comes_more plan requests history kind.Request j h comes = comes
comes_more plan requests history kind.Dispatch j h comes = (comes.0, λ i earlier conflict. comes.1 i earlier (conflict_old plan requests i j (omega arith) h conflict))
comes_more plan requests history kind.Release j h comes = comes

pub legal_more : (plan : List (List Request)) (requests : List Request) (history : List Event) → IsLegal plan history → IsLegal (plan ++ requests ∷ []) history
legal_more plan requests history legal k event at =
    let may = legal k event at in
    let within : event.entry < length plan = may.0 in
    (omega (arith, length-append plan (requests ∷ [])), comes_more plan requests (take k history) event.kind event.entry within may.1)

-- a legal history and an event that may come after it
pub legal_snoc : (plan : List (List Request)) (history : List Event) (event : Event) → IsLegal plan history → MayCome plan history event → IsLegal plan (history ++ event ∷ [])
legal_snoc plan history event legal may k found at =
    elim (leb_tells (length history) k) [
      | inl t ↦
          let past : length history ≤ k = t.1 in
          let within : k < length (history ++ event ∷ []) = slice_get_within (history ++ event ∷ []) k found at in
          let here : length history ≡ k = omega (arith, length-append history (event ∷ [])) in
          let last : Some event ≡ Some found = sym (slice_get_last history event) ∙ rw here at in
          let same : event ≡ found = cc in
          subst (λ i. MayCome plan (take i (history ++ event ∷ [])) found) here (rw take-append_seam (subst (λ e. MayCome plan history e) same may))
      | inr f ↦
          let before : k < length history = f.1 in
          let old : slice_get history k ≡ Some found = sym (slice_get_before history (event ∷ []) k before) ∙ at in
          let le : k ≤ length history = omega arith in
          rw (take-append-le k history (event ∷ []) le) (legal k found old)
    ]
