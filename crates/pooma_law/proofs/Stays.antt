-- What a history gives, as the history or the plan grows.
use Rattle.std.proofs.Common.{◌≡◌, ◌<◌, ℕ, suc, true, false, Bool, List, [], ◌∷◌, ◌++◌, length, take, drop, Some, is_some, slice_get, fold, refl, sym, ◌∙◌, ap, subst, arith, inl, inr, take-append-drop}
use Rattle.std.proofs.lemmas.Bool.Decides.{leb_tells}
use Rattle.std.proofs.lemmas.List.{length-map, map-append, take-map}
use Rattle.pooma_machine.specs.declared.step.Event.{Event}
use Rattle.pooma_machine.specs.Steps.{status_of, issued, is_released, IsLegal}
use Rattle.pooma_machine.specs.Values.{Meaning, Values, values, values_after, values_next, opened, asks_of}
use Rattle.pooma_law.specs.Ser.{ser}
use Rattle.pooma_law.specs.Histories.{WasDispatched}
use Rattle.pooma_law.proofs.Places.{get_left, there}
use Rattle.pooma_law.proofs.OneByOne.{length-ser_outcomes}
use Rattle.pooma_law.proofs.Growth.{legal_front, legal_longer, legal_issued, seat_kept, released_kept}
use Rattle.pooma_law.proofs.Statuses.{steady_of, seat_of_dispatched}
use Rattle.pooma_law.proofs.Agreement.{Agrees, agrees}

module _ {W X O S : Type 0} (m : Meaning W X O S) where
  -- works of other entries than those of the history do not count
  values_alike : (one other : List W) (now : Values X O) (history : List Event) → ((k : ℕ) (event : Event) → slice_get history k ≡ Some event → slice_get other event.entry ≡ slice_get one event.entry)
      → fold (values_after m other) now history ≡ fold (values_after m one) now history
  values_alike one other now [] alike = refl
  values_alike one other now (event ∷ rest) alike =
      ap (λ w. fold (values_after m other) (values_next m event.kind event.entry w now) rest) (alike 0 event refl)
      ∙ values_alike one other (values_after m one now event) rest (λ k e at. alike (suc k) e at)

  pub values_longer : (plan more : List W) (opening : List X) (history : List Event) → IsLegal (asks_of m plan) history → values m (plan ++ more) opening history ≡ values m plan opening history
  values_longer plan more opening history legal =
      values_alike plan (plan ++ more) (opened opening) history
      (λ k event at. get_left plan more event.entry (let may = (legal k event at).0 in omega (arith, length-map plan m.requests)))

  pub longer_asks : (plan more : List W) (history : List Event) → IsLegal (asks_of m plan) history → IsLegal (asks_of m (plan ++ more)) history
  longer_asks plan more history legal = subst (λ p. IsLegal p history) (sym (map-append m.requests plan more)) (legal_longer (asks_of m plan) (asks_of m more) history legal)

  pub issued_asks : (plan : List W) (history : List Event) → IsLegal (asks_of m plan) history → IsLegal (asks_of m (take (issued history) plan)) history
  issued_asks plan history legal = subst (λ p. IsLegal p history) (take-map m.requests (issued history) plan) (legal_issued (asks_of m plan) history legal)

  pub values_issued : (plan : List W) (opening : List X) (history : List Event) → IsLegal (asks_of m plan) history → values m (take (issued history) plan) opening history ≡ values m plan opening history
  values_issued plan opening history legal =
      let n = issued history in
      sym (values_longer (take n plan) (drop n plan) opening history (issued_asks plan history legal)) ∙ ap (λ p. values m p opening history) (take-append-drop n plan)

  pub lent_kept : (plan : List W) (opening : List X) (history later : List Event) → IsLegal (asks_of m plan) (history ++ later) → (j : ℕ) → WasDispatched history j
      → (values m plan opening (history ++ later)).lent j ≡ (values m plan opening history).lent j
  lent_kept plan opening history later legal j dispatched =
      let at = seat_of_dispatched history j dispatched in
      (agrees m plan opening (history ++ later) legal).lent j (ap is_some (seat_kept (asks_of m plan) history later j at.0 legal at.1))
      ∙ sym ((agrees m plan opening history (legal_front (asks_of m plan) history later legal)).lent j (ap is_some at.1))

  pub outcome_kept : (plan : List W) (opening : List X) (history later : List Event) → IsLegal (asks_of m plan) (history ++ later) → (j : ℕ) → is_released (status_of history j) ≡ true
      → (values m plan opening (history ++ later)).outcome j ≡ (values m plan opening history).outcome j
  outcome_kept plan opening history later legal j released =
      (agrees m plan opening (history ++ later) legal).outcomes j (released_kept (asks_of m plan) history later j legal released)
      ∙ sym ((agrees m plan opening history (legal_front (asks_of m plan) history later legal)).outcomes j released)

  -- an entry has an outcome exactly where it was released
  pub answered : (plan : List W) (opening : List X) (history : List Event) → IsLegal (asks_of m plan) history → (j : ℕ) → is_some ((values m plan opening history).outcome j) ≡ is_released (status_of history j)
  answered plan opening history legal j = by (is_released (status_of history j)) refl
    where
      old : Agrees m plan opening history
      old = agrees m plan opening history legal

      within : is_released (status_of history j) ≡ true → j < length plan
      within released =
          let most = (steady_of (asks_of m plan) history legal).within in
          elim (leb_tells (length plan) j) [
            | inl t ↦ absurd (cc (sym (ap is_released ((steady_of (asks_of m plan) history legal).fresh j (omega (arith, t.1, length-map plan m.requests)))) ∙ released))
            | inr f ↦ f.1
          ]

      by : (b : Bool) → is_released (status_of history j) ≡ b → is_some ((values m plan opening history).outcome j) ≡ is_released (status_of history j)
      by true released =
          let work = there (ser m plan opening).outcomes j (omega (arith, within released, length-ser_outcomes m plan opening)) in
          ap is_some (old.outcomes j released ∙ work.1) ∙ sym released
      by false open_still = ap is_some (old.unanswered j open_still) ∙ sym open_still
