-- What a request and the start of a desk rest on.
use Rattle.std.proofs.Common.{◌≡◌, ◌<◌, ℕ, List, [], ◌∷◌, ◌++◌, length, refl, sym, ap, ◌∙◌, subst, append-nil}
use Rattle.std.specs.Prelude.{Option, Some, slice_get}
use Rattle.atomic_table.specs.Table.{Me}
use Rattle.atomic_table.specs.Seated.{TableId}
use Rattle.pooma_machine.specs.declared.step.EventKind.TheVariants as kind
use Rattle.pooma_machine.specs.Steps.{event_of, issued}
use Rattle.pooma_machine.specs.Values.{Account, Meaning}
use Rattle.pooma_law.specs.Histories.{IsHistoryOf}
use Rattle.pooma_desk.specs.declared.sight.Noted.{Noted}
use Rattle.pooma_desk.specs.Sight.{Began, Sight}
use Rattle.pooma_desk.specs.Rule.{IsAfter, MayNote}
use Rattle.pooma_desk.specs.Steps.{first_sight, noting, HasTaken}
use Rattle.pooma_desk.specs.Tokens.{Token, Looks, plan_of, token_of, requested}
use Rattle.pooma_desk.specs.Turns.{IsPlaced, IsOutside, IsInTurn}
use Rattle.pooma_desk.proofs.Fitting.{fits_first}
use Rattle.pooma_desk.proofs.Turning.{placed_noting, looks_taken, after_event}

get_last : {X : Type 0} (xs : List X) (x : X) → slice_get (xs ++ x ∷ []) (length xs) ≡ Some x
get_last [] x = refl
get_last (y ∷ xs) x = get_last xs x

-- the work at the end of a plan
pub asked_is : {W : Type 0} (plan new : List W) (work asked : W) (entry : ℕ) → new ≡ plan ++ work ∷ [] → entry ≡ length plan → slice_get new entry ≡ Some asked → asked ≡ work
asked_is plan new work asked entry grown last is =
    let e : Some asked ≡ Some work = sym is ∙ (ap (λ l. slice_get l entry) grown ∙ (ap (slice_get (plan ++ work ∷ [])) last ∙ get_last plan work)) in
    cc

module _ {W V : Type 0} where
  pub looks_from : (desk d : TableId) (pass : Token W V) (v w : Sight W V) (machine : Account W V) (seat next : ℕ) → token_of d v ≡ pass → d ≡ desk → IsPlaced v seat next → HasTaken v w machine → Looks pass (token_of desk w)
  looks_from desk d pass v w machine seat next is same p h = subst (λ k. Looks pass (token_of k w)) same (subst (λ t. Looks t (token_of d w)) is (looks_taken d v w machine seat next p h))

  pub in_turn_noting : (me new : Me (Option (Account W V)) (Sight W V)) (n : Noted W) (seat next : ℕ) → IsInTurn me seat next → MayNote me.0 n → new ≡ (noting me.0 n, me.1) → IsInTurn new seat next
  in_turn_noting me new n seat next t may is = subst (λ m. IsInTurn m seat next) (sym is) (record { placed = placed_noting me.0 n seat next t.placed may; holds = t.holds; empty = t.empty })

  -- the machine and the history after a request
  pub after_request : (start machine new : Account W V) (log : List (Noted W)) (entry seat : ℕ) (work asked : W) → IsAfter start machine log → new.plan ≡ machine.plan ++ work ∷ [] → new.opening ≡ machine.opening → new.history ≡ machine.history ++ event_of kind.Request (length machine.plan) seat ∷ [] → entry ≡ length machine.plan → asked ≡ work
      → IsAfter start new (log ++ requested entry seat asked ∷ [])
  after_request start machine new log entry seat work asked h plan opening history last is =
      after_event start machine new log (requested entry seat asked) h
      (plan ∙ ap (λ w. machine.plan ++ w ∷ []) (sym is))
      opening
      (history ∙ ap (λ k. machine.history ++ event_of kind.Request k seat ∷ []) (sym last))

  pub plan_told : (desk : TableId) (pass : Token W V) (v : Sight W V) (machine : Account W V) → pass ≡ token_of desk v → IsAfter v.start.machine machine v.seen → plan_of pass ≡ machine.plan
  plan_told desk pass v machine is after = ap plan_of is ∙ sym after.plan

  -- the first pass
  pub outside_first : {O S : Type 0} (meaning : Meaning W V O S) (start : Began W V) (me : Me (Option (Account W V)) (Sight W V)) → 0 < start.seats → IsHistoryOf meaning start.machine.plan start.machine.history → issued start.machine.history ≡ length start.machine.plan → me ≡ (first_sight start, []) → IsOutside meaning me 0 1
  outside_first meaning start me some legal count is =
      let plan : start.machine.plan ++ [] ≡ start.machine.plan = append-nil start.machine.plan in
      let history : start.machine.history ++ [] ≡ start.machine.history = append-nil start.machine.history in
      subst (λ m. IsOutside meaning m 0 1) (sym is) (record {
        placed = record { live = some; fits = fits_first start some; alone = refl; quiet = refl; own = refl; left = refl };
        legal = record { legal = subst (λ p. IsHistoryOf meaning p (start.machine.history ++ [])) (sym plan) (subst (IsHistoryOf meaning start.machine.plan) (sym history) legal); issued = ap issued history ∙ (count ∙ ap length (sym plan)) };
        outside = refl;
        none = refl;
      })
