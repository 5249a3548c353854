-- A legal history has at most three events an entry, and three where it is complete.
use Rattle.std.proofs.Common.{◌≡◌, ◌≢◌, ◌+◌, ◌*◌, ◌<◌, ◌≤◌, ℕ, zero, suc, true, List, [], ◌∷◌, ◌++◌, length, Option, Some, None, refl, sym, ◌∙◌, ap, subst, arith, inl, inr, length-append}
use Rattle.std.proofs.lemmas.Bool.Decides.{eqb_tells}
use Rattle.pooma_machine.specs.declared.step.Request.{Request}
use Rattle.pooma_machine.specs.declared.step.Event.{Event}
use Rattle.pooma_machine.specs.declared.step.EventKind.{EventKind}
use Rattle.pooma_machine.specs.declared.step.EventKind.TheVariants as kind
use Rattle.pooma_machine.specs.declared.step.Status.{Status}
use Rattle.pooma_machine.specs.declared.step.Status.TheVariants as status
use Rattle.pooma_machine.specs.Steps.{next, status_of, is_released, MayCome, IsLegal}
use Rattle.pooma_law.proofs.Statuses.{IsSteady, StandsBefore, stands_before, status_own, status_other}
use Rattle.pooma_law.proofs.Told.{along_steady}

-- how many events an entry of this status has had
abbrev had : Option Status → ℕ
had None = 0
had (Some status.Waiting) = 1
had (Some (status.Out seat)) = 2
had (Some (status.Released seat)) = 3

-- the sum of a function over the numbers below n
abbrev total : (ℕ → ℕ) → ℕ → ℕ
total f zero = 0
total f (suc n) = total f n + f n

total_same : (f g : ℕ → ℕ) (n : ℕ) → ((i : ℕ) → i < n → g i ≡ f i) → total g n ≡ total f n
total_same f g zero same = refl
total_same f g (suc n) same =
    let before : total g n ≡ total f n = total_same f g n (λ i h. same i (omega arith)) in
    let here : g n ≡ f n = same n (omega arith) in
    cc

-- where one summand is greater by one, the sum is
total_more : (f g : ℕ → ℕ) (j n : ℕ) → j < n → g j ≡ f j + 1 → ((i : ℕ) → j ≢ i → g i ≡ f i) → total g n ≡ total f n + 1
total_more f g j zero h own others = absurd (omega arith)
total_more f g j (suc n) h own others =
    elim (eqb_tells j n) [
      | inl t ↦
          let same : j ≡ n = t.1 in
          let before : total g n ≡ total f n = total_same f g n (λ i below. others i (let ne : j ≢ i = omega arith in ne)) in
          let here : g n ≡ f n + 1 = subst (λ k. g k ≡ f k + 1) same own in
          omega arith
      | inr other ↦
          let ne : j ≢ n = other.1 in
          let before : total g n ≡ total f n + 1 = total_more f g j n (omega arith) own others in
          let here : g n ≡ f n = others n ne in
          omega arith
    ]

total_most : (f : ℕ → ℕ) (n most : ℕ) → ((i : ℕ) → f i ≤ most) → total f n ≤ most * n
total_most f zero most each = omega arith
total_most f (suc n) most each =
    let before : total f n ≤ most * n = total_most f n most each in
    let here : f n ≤ most = each n in
    grind arith

total_all : (f : ℕ → ℕ) (n each : ℕ) → ((i : ℕ) → i < n → f i ≡ each) → total f n ≡ each * n
total_all f zero each same = omega arith
total_all f (suc n) each same =
    let before : total f n ≡ each * n = total_all f n each (λ i h. same i (omega arith)) in
    let here : f n ≡ each = same n (omega arith) in
    grind arith

had_next : (act : EventKind) (seat : ℕ) (old : Option Status) → StandsBefore act old → had (next act seat old) ≡ had old + 1
had_next kind.Request seat old stands = rw stands refl
had_next kind.Dispatch seat old stands = rw stands refl
had_next kind.Release seat None stands = absurd (cc stands)
had_next kind.Release seat (Some status.Waiting) stands = absurd (cc stands)
had_next kind.Release seat (Some (status.Out at)) stands = refl
had_next kind.Release seat (Some (status.Released at)) stands = absurd (cc stands)

had_most : (now : Option Status) → had now ≤ 3
had_most None = omega arith
had_most (Some status.Waiting) = omega arith
had_most (Some (status.Out seat)) = omega arith
had_most (Some (status.Released seat)) = omega arith

had_all : (now : Option Status) → is_released now ≡ true → had now ≡ 3
had_all None released = absurd (cc released)
had_all (Some status.Waiting) released = absurd (cc released)
had_all (Some (status.Out seat)) released = absurd (cc released)
had_all (Some (status.Released seat)) released = refl

events_had : (plan : List (List Request)) (history : List Event) → IsLegal plan history → length history ≡ total (λ j. had (status_of history j)) (length plan)
events_had plan =
    along_steady plan (λ h. length h ≡ total (λ j. had (status_of h j)) (length plan)) (sym (total_all (λ j. had (status_of [] j)) (length plan) 0 (λ i h. refl) ∙ (let none : 0 * length plan ≡ 0 = omega arith in none))) step
  where
    step : (history : List Event) (event : Event) → IsSteady plan history → MayCome plan history event → length history ≡ total (λ j. had (status_of history j)) (length plan)
        → length (history ++ event ∷ []) ≡ total (λ j. had (status_of (history ++ event ∷ []) j)) (length plan)
    step history event steady may before =
        let more : total (λ j. had (status_of (history ++ event ∷ []) j)) (length plan) ≡ total (λ j. had (status_of history j)) (length plan) + 1 =
        total_more (λ j. had (status_of history j)) (λ j. had (status_of (history ++ event ∷ []) j)) event.entry (length plan) may.0
        (ap had (status_own history event.kind event.entry event.seat) ∙ had_next event.kind event.seat (status_of history event.entry) (stands_before plan history event.kind event.entry event.seat steady may))
        (λ i ne. ap had (status_other history event.kind event.entry event.seat i ne)) in
        omega (arith, length-append history (event ∷ []))

pub three_at_most : (plan : List (List Request)) (history : List Event) → IsLegal plan history → length history ≤ 3 * length plan
three_at_most plan history legal =
    omega (arith, events_had plan history legal, total_most (λ j. had (status_of history j)) (length plan) 3 (λ j. had_most (status_of history j)))

pub three_each : (plan : List (List Request)) (history : List Event) → IsLegal plan history → ((j : ℕ) → j < length plan → is_released (status_of history j) ≡ true) → length history ≡ 3 * length plan
three_each plan history legal complete =
    events_had plan history legal ∙ total_all (λ j. had (status_of history j)) (length plan) 3 (λ j h. had_all (status_of history j) (complete j h))
