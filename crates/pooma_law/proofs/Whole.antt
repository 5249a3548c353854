-- A history in which all entries were released gives what doing all of them one after another gives.
use Rattle.std.proofs.Common.{◌≡◌, ℕ, List, [], length, slice_get, lt-ltb, sym, ◌∙◌, ap, arith, inl, inr}
use Rattle.std.proofs.lemmas.Bool.Decides.{leb_tells}
use Rattle.std.proofs.lemmas.List.{length-map, get_or_past, take_all}
use Rattle.std.proofs.lemmas.Option.{slice_get_past}
use Rattle.pooma_machine.specs.declared.step.Event.{Event}
use Rattle.pooma_machine.specs.Steps.{is_released}
use Rattle.pooma_machine.specs.Values.{Meaning, values, asks_of, IsComplete}
use Rattle.pooma_law.specs.Ser.{ser}
use Rattle.pooma_law.specs.Writers.{asks_to_write}
use Rattle.pooma_law.proofs.Places.{same_by_place}
use Rattle.pooma_law.proofs.OneByOne.{length-ser_outcomes}
use Rattle.pooma_law.proofs.Agreement.{AreReleasedBelow, Agrees}

module _ {W X O S : Type 0} (m : Meaning W X O S) (plan : List W) (opening : List X) (history : List Event) (old : Agrees m plan opening history) (complete : IsComplete plan history) where
  all_below : (o : ℕ) → AreReleasedBelow (asks_of m plan) history o (length plan)
  all_below o i writes =
      elim (leb_tells (length plan) i) [
        | inl t ↦ absurd (cc (sym (ap (λ rs. asks_to_write rs o) (get_or_past (asks_of m plan) i [] (omega (arith, t.1, length-map plan m.requests)))) ∙ writes))
        | inr f ↦ complete i f.1 ∙ sym (lt-ltb i (length plan) f.1)
      ]

  pub whole_objects : (values m plan opening history).objects ≡ (ser m plan opening).objects
  whole_objects =
      same_by_place (values m plan opening history).objects (ser m plan opening).objects
      (λ o. old.objects o (length plan) (all_below o) ∙ ap (λ p. slice_get (ser m p opening).objects o) (take_all (length plan) plan (omega arith)))

  pub whole_outcomes : (j : ℕ) → (values m plan opening history).outcome j ≡ slice_get (ser m plan opening).outcomes j
  whole_outcomes j =
      elim (leb_tells (length plan) j) [
        | inl t ↦
            let within = old.steady.within in
            old.unanswered j (ap is_released (old.steady.fresh j (omega (arith, t.1, length-map plan m.requests))))
            ∙ sym (slice_get_past (ser m plan opening).outcomes j (omega (arith, t.1, length-ser_outcomes m plan opening)))
        | inr f ↦ old.outcomes j (complete j f.1)
      ]
