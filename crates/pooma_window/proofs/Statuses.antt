-- What a further event makes of the statuses, and what a status leaves open.
use Rattle.std.proofs.Common.{◌≡◌, ◌≢◌, ◌⊎◌, ◌==◌, ℕ, Bool, true, false, List, [], ◌∷◌, ◌++◌, Option, Some, None, refl, ◌∙◌, inl, inr}
use Rattle.std.proofs.lemmas.Bool.Decides.{eqb_tells}
use Rattle.std.proofs.lemmas.List.Sums.{fold-append}
use Rattle.pooma_machine.specs.declared.step.Event.{Event}
use Rattle.pooma_machine.specs.declared.step.EventKind.{EventKind}
use Rattle.pooma_machine.specs.declared.step.Status.{Status}
use Rattle.pooma_machine.specs.declared.step.Status.TheVariants as status
use Rattle.pooma_machine.specs.Steps.{next, status_after, status_of, is_out, is_released, event_of}

same_test : (j : ℕ) → (j == j) ≡ true
same_test j = elim (eqb_tells j j) [ inl t ↦ t.0 | inr n ↦ absurd (n.1 refl) ]

other_test : (i j : ℕ) → i ≢ j → (i == j) ≡ false
other_test i j ne = elim (eqb_tells i j) [ inl t ↦ absurd (ne t.1) | inr n ↦ n.0 ]

-- it changes the status of its own entry alone
pub status_own : (history : List Event) (kind : EventKind) (j seat : ℕ) → status_of (history ++ event_of kind j seat ∷ []) j ≡ next kind seat (status_of history j)
status_own history kind j seat = fold-append (status_after j) None history (event_of kind j seat ∷ []) ∙ rw (same_test j) refl

pub status_other : (history : List Event) (kind : EventKind) (i seat j : ℕ) → i ≢ j → status_of (history ++ event_of kind i seat ∷ []) j ≡ status_of history j
status_other history kind i seat j ne = fold-append (status_after j) None history (event_of kind i seat ∷ []) ∙ rw (other_test i j ne) refl

-- an entry that was issued, is not out and was not released is waiting
pub waiting_else : (now : Option Status) → (now ≡ None → ⊥) → is_out now ≡ false → is_released now ≡ false → now ≡ Some status.Waiting
waiting_else None issued out released = absurd (issued refl)
waiting_else (Some status.Waiting) issued out released = refl
waiting_else (Some (status.Out seat)) issued out released = absurd (cc out)
waiting_else (Some (status.Released seat)) issued out released = absurd (cc released)

pub true_or_false : (b : Bool) → (b ≡ true) ⊎ (b ≡ false)
true_or_false true = inl refl
true_or_false false = inr refl
