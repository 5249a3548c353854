-- What holds while the entries of a window are requested.
use Rattle.std.proofs.Common.{◌≡◌, ◌≢◌, ◌+◌, ◌<◌, ◌≤◌, ℕ, List, [], ◌∷◌, ◌++◌, length, replicate, All, sum, refl, sym, ◌∙◌, ap, subst, arith, inl, inr, length-append}
use Rattle.std.proofs.lemmas.Bool.Decides.{eqb_tells}
use Rattle.std.proofs.lemmas.List.{length-replicate}
use Rattle.std.proofs.lemmas.List.Elements.{All-push, All-nil}
use Rattle.std.proofs.lemmas.List.Folds.{sum_by-replicate}
use Rattle.pooma_machine.specs.declared.step.Request.{Request}
use Rattle.pooma_machine.specs.declared.step.EventKind.TheVariants as kind
use Rattle.pooma_machine.specs.Steps.{IsWaiting, status_of, event_of}
use Rattle.pooma_machine.specs.Values.{Account, Values, values, opened}
use Rattle.pooma_bench.specs.declared.window.TheConstants.{OBJECTS, MOST_ENTRIES}
use Rattle.pooma_bench.specs.Increments.{increments}
use Rattle.pooma_bench.specs.Windows.{IsFresh, WritesAnObject, present, HasReleased}
use Rattle.pooma_machine.proofs.Plans.{status_own, status_other}
use Rattle.pooma_machine.proofs.Worth.{values_more}

-- so many entries were requested, and nothing else has happened
pub record HasRequested (machine : Account (List Request) ℕ) (entries : ℕ) : Type 0 where
  pub issued : length machine.plan ≡ entries
  pub opening : machine.opening ≡ replicate OBJECTS 0
  pub writes : All WritesAnObject machine.plan
  pub waiting : (j : ℕ) → j < entries → IsWaiting machine.history j
  pub events : length machine.history ≡ entries
  pub still : (plan : List (List Request)) → values increments plan machine.opening machine.history ≡ opened machine.opening

pub requested_none : (machine : Account (List Request) ℕ) → IsFresh machine → HasRequested machine 0
requested_none machine fresh =
    record {
      issued = ap length fresh.plan;
      opening = fresh.opening;
      writes = rw fresh.plan (All-nil WritesAnObject);
      waiting = λ j h. absurd (omega arith);
      events = ap length fresh.history;
      still = λ plan. rw fresh.history refl;
    }

pub requested_more : (machine now : Account (List Request) ℕ) (entries seat : ℕ) (work : List Request) → HasRequested machine entries → WritesAnObject work
    → now.plan ≡ machine.plan ++ work ∷ [] → now.history ≡ machine.history ++ event_of kind.Request (length machine.plan) seat ∷ [] → now.opening ≡ machine.opening
    → HasRequested now (entries + 1)
requested_more machine now entries seat work old writes plan history opening =
    let issued = old.issued in
    let events = old.events in
    record {
      issued = omega (arith, ap length plan, length-append machine.plan (work ∷ []));
      opening = opening ∙ old.opening;
      writes = subst (All WritesAnObject) (sym plan) (All-push WritesAnObject machine.plan work old.writes writes);
      waiting = waiting;
      events = omega (arith, ap length history, length-append machine.history (event_of kind.Request (length machine.plan) seat ∷ []));
      still = λ all.
          rw (history, opening) (values_more increments all machine.opening machine.history (event_of kind.Request (length machine.plan) seat) ∙ old.still all);
    }
  where
    waiting : (j : ℕ) → j < entries + 1 → IsWaiting now.history j
    waiting j h =
        elim (eqb_tells (length machine.plan) j) [
          | inl t ↦ ap (λ h. status_of h j) history ∙ subst (λ i. IsWaiting (machine.history ++ event_of kind.Request i seat ∷ []) j) (sym t.1) (status_own machine.history kind.Request j seat)
          | inr n ↦
              let issued = old.issued in
              let ne : length machine.plan ≢ j = n.1 in
              let before : j < entries = omega arith in
              ap (λ h. status_of h j) history ∙ (status_other machine.history kind.Request (length machine.plan) seat j ne ∙ old.waiting j before)
        ]

pub requested_all : (machine : Account (List Request) ℕ) (entries : ℕ) → HasRequested machine entries → entries ≤ MOST_ENTRIES → HasReleased machine entries 0
requested_all machine entries old limit =
    let objects : present machine ≡ replicate OBJECTS 0 =
    ap (λ (v : Values ℕ _). v.objects) (old.still machine.plan) ∙ old.opening in
    let events = old.events in
    record {
      issued = old.issued;
      limit = limit;
      within = omega arith;
      writes = old.writes;
      done = λ j h. absurd (omega arith);
      waiting = λ j _ h. old.waiting j h;
      events = omega arith;
      objects = ap length objects ∙ length-replicate {A = ℕ} OBJECTS 0;
      sum = ap sum objects ∙ sum_by-replicate (λ x. x) OBJECTS 0;
    }
