-- What a release in the turn makes ready, and what a dispatch right behind it leaves of that.
use Rattle.std.proofs.Common.{◌≡◌, ◌<◌, ◌≤◌, ℕ, zero, suc, List, [], ◌∷◌, ◌++◌, Contains, refl, sym, ap, ◌∙◌, subst, arith, append_assoc, append-nil}
use Rattle.std.proofs.lemmas.List.{map-append}
use Rattle.std.proofs.lemmas.List.Elements.{filter_map-append}
use Rattle.std.specs.Prelude.{Option, Some, None, IsSome, ◌↔◌, slice_get}
use Rattle.atomic_table.specs.Table.{Me}
use Rattle.atomic_table.specs.Seated.{TableId}
use Rattle.pooma_logic.proofs.Elements.{contains_none}
use Rattle.pooma_machine.specs.declared.step.Request.{Request}
use Rattle.pooma_machine.specs.declared.step.Event.{Event}
use Rattle.pooma_machine.specs.declared.step.EventKind.TheVariants as kind
use Rattle.pooma_machine.specs.Steps.{IsReady, status_of, issued, event_of}
use Rattle.pooma_machine.specs.Values.{Account}
use Rattle.pooma_machine.specs.Became.{BecameReady, IsAscending, Woken, TellsReady}
use Rattle.pooma_desk.specs.declared.sight.Noted.{Noted}
use Rattle.pooma_desk.specs.Sight.{Sight}
use Rattle.pooma_desk.specs.Seen.{events_of, works_of, plan_after, history_after}
use Rattle.pooma_desk.specs.Steps.{noting}
use Rattle.pooma_desk.specs.Readied.{EndsWith, IsReadied, IsLeastReadied, NoneReadied, TellsReadied}
use Rattle.pooma_desk.specs.Tokens.{Token, plan_of, history_of, token_of, called}

-- an entry that may be dispatched is one of those that were issued
pub ready_is_issued : (plan : List (List Request)) (history : List Event) (j entries : ℕ) → IsReady plan history j → (IsSome (status_of history j) ↔ (j < issued history)) → issued history ≡ entries → j < entries
ready_is_issued plan history j entries ready known count =
    let below : j < issued history = known.0 (rw ready.0 refl) in
    subst (λ n. j < n) count below

-- the first of an ascending list is not above any other
first_is_least : (k : ℕ) (ks : List ℕ) (i : ℕ) → IsAscending (k ∷ ks) → Contains (k ∷ ks) i → k ≤ i
first_is_least k ks i up (zero, h, e) = omega (arith, e)
first_is_least k ks i up (suc m, h, e) =
    let below = up 0 (suc m) i (omega arith) h in
    omega (arith, below, e)

-- what is known of the entries that became ready, where the history ends with one event more
as_readied : (plan : List (List Request)) (before history : List Event) (event : Event) (j : ℕ) → history ≡ before ++ event ∷ [] → BecameReady plan before history j → IsReadied plan before event j
as_readied plan before history event j is became = subst (λ h. BecameReady plan before h j) is became

of_readied : (plan : List (List Request)) (before history : List Event) (event : Event) (j : ℕ) → history ≡ before ++ event ∷ [] → IsReadied plan before event j → BecameReady plan before history j
of_readied plan before history event j is readied = subst (λ h. BecameReady plan before h j) (sym is) readied

-- the first entry that is named is the least that became ready
pub first_is_readied : (plan : List (List Request)) (before history : List Event) (event : Event) (woken : Woken) (j : ℕ) → history ≡ before ++ event ∷ [] → TellsReady plan before history woken → slice_get woken.entries 0 ≡ Some j → IsLeastReadied plan before event j
first_is_readied plan before history event woken j is ([], list, names) first = absurd (nothing (sym (ap (λ l. slice_get l 0) names.0) ∙ first))
  where
    nothing : None ≡ Some j → ⊥
    nothing e = cc
first_is_readied plan before history event woken j is (k ∷ ks, list, names) first =
    let same : k ≡ j = same_some (sym (ap (λ l. slice_get l 0) names.0) ∙ first) in
    subst (IsLeastReadied plan before event) same (record {
      readied = as_readied plan before history event k is ((list.exactly k).0 (0, omega arith, refl));
      least = λ i readied. first_is_least k ks i list.ascending ((list.exactly i).1 (of_readied plan before history event i is readied));
    })
  where
    same_some : Some k ≡ Some j → k ≡ j
    same_some e = cc

-- where none is named, none became ready
pub none_is_readied : (plan : List (List Request)) (before history : List Event) (event : Event) (woken : Woken) → history ≡ before ++ event ∷ [] → TellsReady plan before history woken → ((j : ℕ) → slice_get woken.entries 0 ≡ Some j → ⊥) → NoneReadied plan before event
none_is_readied plan before history event woken is ([], list, names) none = λ j readied. contains_none j ((list.exactly j).1 (of_readied plan before history event j is readied))
none_is_readied plan before history event woken is (k ∷ ks, list, names) none = absurd (none k (ap (λ l. slice_get l 0) names.0))

-- what is told of a history that ends with the event is told of each that goes on from it
pub told_readied : (plan : List (List Request)) (before history whole later : List Event) (event : Event) (woken : Woken) → history ≡ before ++ event ∷ [] → TellsReady plan before history woken → whole ≡ before ++ event ∷ later → TellsReadied plan whole event woken
told_readied plan before history whole later event woken ends tells stands = record {
  before = before;
  later = later;
  stands = stands;
  tells = subst (λ h. TellsReady plan before h woken) ends tells;
}

module _ {W V : Type 0} where
  -- a dispatch requests no work, and is one event more
  plan_noting : (start : Account W V) (seen : List (Noted W)) (j seat : ℕ) → plan_after start (seen ++ called kind.Dispatch j seat ∷ []) ≡ plan_after start seen
  plan_noting start seen j seat = ap (λ l. start.plan ++ l) (filter_map-append (λ (m : Noted W). m.work) seen (called kind.Dispatch j seat ∷ []) ∙ append-nil (works_of seen))

  history_noting : (start : Account W V) (seen : List (Noted W)) (j seat : ℕ) → history_after start (seen ++ called kind.Dispatch j seat ∷ []) ≡ history_after start seen ++ event_of kind.Dispatch j seat ∷ []
  history_noting start seen j seat = ap (λ l. start.history ++ l) (map-append (λ (m : Noted W). m.event) seen (called kind.Dispatch j seat ∷ [])) ∙ sym (append_assoc start.history (events_of seen) (event_of kind.Dispatch j seat ∷ []))

  -- a history that ended with an event ends with it and a dispatch, once that is noted
  pub ends_then : (desk : TableId) (result : Token W V) (v : Sight W V) (event : Event) (j seat : ℕ) (P : List W → List Event → Type 0) (me : Me (Option (Account W V)) (Sight W V)) (out : List (ℕ × Option (Account W V))) → EndsWith (history_of (token_of desk v)) (event ∷ []) (P (plan_of (token_of desk v)))
      → me ≡ (noting v (called kind.Dispatch j seat), out) → result ≡ token_of desk me.0 → EndsWith (history_of result) (event ∷ event_of kind.Dispatch j seat ∷ []) (P (plan_of result))
  ends_then desk result v event j seat P me out (before, ends, holds) noted is =
      let now : result ≡ token_of desk (noting v (called kind.Dispatch j seat)) = is ∙ ap (λ (m : Me (Option (Account W V)) (Sight W V)). token_of desk m.0) noted in (
        before,
        ap history_of now ∙ (history_noting v.start.machine v.seen j seat ∙ (ap (λ h. h ++ event_of kind.Dispatch j seat ∷ []) ends ∙ append_assoc before (event ∷ []) (event_of kind.Dispatch j seat ∷ []))),
        subst (λ p. P p before) (sym (ap plan_of now ∙ plan_noting v.start.machine v.seen j seat)) holds,
      )
