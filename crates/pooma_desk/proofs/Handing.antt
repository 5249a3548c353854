-- Entries that are dispatched one after another, each of them the least from a number on that may be dispatched then.
use Rattle.std.proofs.Common.{◌≡◌, ◌≢◌, ◌<◌, ◌≤◌, ◌+◌, ℕ, true, false, List, [], ◌∷◌, ◌++◌, drop, Contains, eq-eqb, refl, sym, ap, ◌∙◌, subst, ◌⊎◌, inl, inr, arith, append_assoc, append-nil}
use Rattle.std.proofs.lemmas.Bool.{cases_eq, cases_lt, ne_eqb}
use Rattle.std.proofs.lemmas.List.{map-append}
use Rattle.std.proofs.lemmas.List.Sums.{fold-append}
use Rattle.std.proofs.lemmas.List.Elements.{filter-append, Contains-append_left, Contains-push_cases}
use Rattle.std.specs.Prelude.{Option, Some, None, IsTrue, slice_get}
use Rattle.atomic_table.specs.Table.{Me}
use Rattle.atomic_table.specs.Seated.{TableId}
use Rattle.pooma_machine.specs.declared.step.Request.{Request}
use Rattle.pooma_machine.specs.declared.step.Event.{Event}
use Rattle.pooma_machine.specs.declared.step.EventKind.{EventKind}
use Rattle.pooma_machine.specs.declared.step.EventKind.TheVariants as kind
use Rattle.pooma_machine.specs.declared.step.Status.TheVariants as status
use Rattle.pooma_machine.specs.Steps.{IsReady, IsLeastReady, status_of, status_after, is_released, event_of}
use Rattle.pooma_machine.specs.Values.{Account, Loaned, Meaning, Values, values, values_next, values_after, asks_of}
use Rattle.pooma_desk.specs.declared.sight.Noted.{Noted}
use Rattle.pooma_desk.specs.Sight.{Sight}
use Rattle.pooma_desk.specs.Seen.{plan_after, history_after, is_one_of, calls_under}
use Rattle.pooma_desk.specs.Rule.{first_of}
use Rattle.pooma_desk.specs.Steps.{noting, noting_all}
use Rattle.pooma_desk.specs.Tokens.{Token, HasOut, IsLoanOf, plan_of, history_of, token_of, called, all_called}
use Rattle.pooma_desk.specs.Readied.{EndsWith, DispatchesLeast, NoneReady, dispatches_of}
use Rattle.pooma_desk.proofs.Calls.{there_under, under_there}
use Rattle.pooma_desk.proofs.Several.{plan_called, history_called}

-- the status of an entry after the dispatch of another, and after its own
status_else : (history : List Event) (j seat i : ℕ) → i ≢ j → status_of (history ++ event_of kind.Dispatch j seat ∷ []) i ≡ status_of history i
status_else history j seat i ne = fold-append (status_after i) None history (event_of kind.Dispatch j seat ∷ []) ∙ rw (ne_eqb j i (λ e. ne (sym e))) refl

status_here : (history : List Event) (j seat : ℕ) → status_of (history ++ event_of kind.Dispatch j seat ∷ []) j ≡ Some (status.Out seat)
status_here history j seat = fold-append (status_after j) None history (event_of kind.Dispatch j seat ∷ []) ∙ rw (eq-eqb j j refl) refl

-- what is ready after a dispatch is another entry, and was ready before
pub ready_before : (plan : List (List Request)) (history : List Event) (j seat i : ℕ) → IsReady plan (history ++ event_of kind.Dispatch j seat ∷ []) i → (i ≢ j) × IsReady plan history i
ready_before plan history j seat i (waiting, free) = (other, (sym (status_else history j seat i other) ∙ waiting, λ k below conflict. released k (free k below conflict) (cases_eq k j)))
  where
    clash : Some (status.Out seat) ≡ Some status.Waiting → ⊥
    clash e = cc

    off : false ≡ true → ⊥
    off e = cc

    other : i ≢ j
    other e = clash (sym (status_here history j seat) ∙ subst (λ k. status_of (history ++ event_of kind.Dispatch j seat ∷ []) k ≡ Some status.Waiting) e waiting)

    released : (k : ℕ) → IsTrue (is_released (status_of (history ++ event_of kind.Dispatch j seat ∷ []) k)) → (k ≡ j) ⊎ (k ≢ j) → IsTrue (is_released (status_of history k))
    released k is (inl e) = absurd (off (sym (ap is_released (status_here history j seat)) ∙ subst (λ m. is_released (status_of (history ++ event_of kind.Dispatch j seat ∷ []) m) ≡ true) e is))
    released k is (inr ne) = subst (λ s. IsTrue (is_released s)) (status_else history j seat k ne) is

dispatches_more : (history : List Event) (seat : ℕ) (js : List ℕ) (j : ℕ) → history ++ dispatches_of seat (js ++ j ∷ []) ≡ (history ++ dispatches_of seat js) ++ event_of kind.Dispatch j seat ∷ []
dispatches_more history seat js j = ap (λ l. history ++ l) (map-append (λ k. event_of kind.Dispatch k seat) js (j ∷ [])) ∙ sym (append_assoc history (dispatches_of seat js) (event_of kind.Dispatch j seat ∷ []))

least_more : (plan : List (List Request)) (seat from : ℕ) (history : List Event) (js : List ℕ) (j : ℕ) → DispatchesLeast plan seat from history js → IsLeastReady plan (history ++ dispatches_of seat js) from j → DispatchesLeast plan seat from history (js ++ j ∷ [])
least_more plan seat from history [] j least next = (subst (λ h. IsLeastReady plan h from j) (append-nil history) next, tt)
least_more plan seat from history (k ∷ ks) j (first, later) next =
    (first, least_more plan seat from (history ++ event_of kind.Dispatch k seat ∷ []) ks j later (subst (λ h. IsLeastReady plan h from j) (sym (append_assoc history (event_of kind.Dispatch k seat ∷ []) (dispatches_of seat ks))) next))

-- these entries were dispatched so, and no further one below the next number is ready
pub record IsHanding (plan : List (List Request)) (seat from next : ℕ) (history : List Event) (js : List ℕ) : Type 0 where
  pub least : DispatchesLeast plan seat from history js
  pub not_below : from ≤ next
  pub below : (i : ℕ) → from ≤ i → i < next → IsReady plan (history ++ dispatches_of seat js) i → ⊥

pub handing_first : (plan : List (List Request)) (seat from : ℕ) (history : List Event) → IsHanding plan seat from from history []
handing_first plan seat from history = record { least = tt; not_below = omega arith; below = λ i low high ready. absurd (omega (arith, low, high)) }

-- the least from the next number on is the least of all
pub least_of_all : (plan : List (List Request)) (seat from next : ℕ) (history : List Event) (js : List ℕ) (j : ℕ) → IsHanding plan seat from next history js → IsLeastReady plan (history ++ dispatches_of seat js) next j → IsLeastReady plan (history ++ dispatches_of seat js) from j
least_of_all plan seat from next history js j h l =
    let low = h.not_below in
    let high = l.not_below in
    record {
      not_below = omega (arith, low, high);
      ready = l.ready;
      before = λ i above under ready.
          elim (cases_lt i next) [
            | inl near ↦ h.below i above near ready
            | inr far ↦ l.before i far under ready
          ];
    }

pub none_of_all : (plan : List (List Request)) (seat from next : ℕ) (history : List Event) (js : List ℕ) → IsHanding plan seat from next history js → NoneReady plan (history ++ dispatches_of seat js) next → NoneReady plan (history ++ dispatches_of seat js) from
none_of_all plan seat from next history js h none i above ready =
    elim (cases_lt i next) [
      | inl near ↦ h.below i above near ready
      | inr far ↦ none i far ready
    ]

pub handing_next : (plan : List (List Request)) (seat from next : ℕ) (history : List Event) (js : List ℕ) (j : ℕ) → IsHanding plan seat from next history js → IsLeastReady plan (history ++ dispatches_of seat js) next j → IsHanding plan seat from (j + 1) history (js ++ j ∷ [])
handing_next plan seat from next history js j h l =
    let low = h.not_below in
    let high = l.not_below in
    record {
      least = least_more plan seat from history js j h.least (least_of_all plan seat from next history js j h l);
      not_below = omega (arith, low, high);
      below = λ i above under ready.
          let r = ready_before plan (history ++ dispatches_of seat js) j seat i (subst (λ hs. IsReady plan hs i) (dispatches_more history seat js j) ready) in
          let ne = r.0 in
          elim (cases_lt i next) [
            | inl near ↦ h.below i above near r.1
            | inr far ↦ l.before i far (under_j i under ne) r.1
          ];
    }
  where
    under_j : (i : ℕ) → i < j + 1 → i ≢ j → i < j
    under_j i under ne = elim (cases_lt i j) [
      | inl less ↦ less
      | inr more ↦ absurd (ne (omega (arith, under, more)))
    ]

-- what was lent to another entry stays
lent_else : {W V O S : Type 0} (meaning : Meaning W V O S) (act : EventKind) (j : ℕ) (found : Option W) (now : Values V O) (i : ℕ) → i ≢ j → (values_next meaning act j found now).lent i ≡ now.lent i
lent_else meaning kind.Request j found now i ne = refl
lent_else meaning kind.Dispatch j None now i ne = refl
lent_else meaning kind.Dispatch j (Some work) now i ne = rw (ne_eqb i j ne) refl
lent_else meaning kind.Release j None now i ne = refl
lent_else meaning kind.Release j (Some work) now i ne = refl

module _ {W V : Type 0} where
  -- what the pass has out stays so, as it makes a call of another entry
  out_else : (desk : TableId) (v : Sight W V) (act : EventKind) (j seat number : ℕ) → number ≢ j → HasOut (token_of desk v) number → HasOut (token_of desk (noting v (called act j seat))) number
  out_else desk v act j seat number ne out = record {
    dispatch = out.dispatch;
    there = subst (λ l. Contains l out.dispatch) (sym more) (Contains-append_left (calls_under row v.seen) (calls_under row (n ∷ [])) out.dispatch out.there);
    lent = out.lent;
    entry = out.entry;
    kept = λ m at back of. let both = there_under row (v.seen ++ n ∷ []) m at in by m both.1 back of (Contains-push_cases v.seen n m both.0);
  }
    where
      row : List ℕ
      row = first_of v.seats ∷ drop 1 v.seats

      n : Noted W
      n = called act j seat

      more : calls_under row (v.seen ++ n ∷ []) ≡ calls_under row v.seen ++ calls_under row (n ∷ [])
      more = filter-append (λ (m : Noted W). is_one_of row m.event.seat) v.seen (n ∷ [])

      by : (m : Noted W) → is_one_of row m.event.seat ≡ true → m.event.kind ≡ kind.Release → m.event.entry ≡ number → Contains v.seen m ⊎ (n ≡ m) → ⊥
      by m own back of (inl old) = out.kept m (under_there row v.seen m old own) back of
      by m own back of (inr new) = ne (sym of ∙ sym (ap (λ (z : Noted W). z.event.entry) new))

  -- so does a loan
  pub loan_else : {O S : Type 0} (meaning : Meaning W V O S) (desk : TableId) (me new : Me (Option (Account W V)) (Sight W V)) (act : EventKind) (j seat : ℕ) (loan : Loaned W V) → new ≡ (noting me.0 (called act j seat), me.1) → loan.entry ≢ j
      → ((plan : List W) (opening : List V) (history : List Event) (event : Event) → values meaning plan opening (history ++ event ∷ []) ≡ values_after meaning plan (values meaning plan opening history) event)
      → IsLoanOf meaning (token_of desk me.0) loan → IsLoanOf meaning (token_of desk new.0) loan
  loan_else {O = O} meaning desk me new act j seat loan is ne next h =
      let v : Sight W V = me.0 in
      let plan : plan_after v.start.machine (v.seen ++ called act j seat ∷ []) ≡ plan_after v.start.machine v.seen = plan_called v.start.machine v.seen act seat (j ∷ []) in
      let history : history_after v.start.machine (v.seen ++ called act j seat ∷ []) ≡ history_after v.start.machine v.seen ++ event_of act j seat ∷ [] = history_called v.start.machine v.seen act seat (j ∷ []) in
      let now : Values V O = values meaning (plan_after v.start.machine v.seen) v.start.machine.opening (history_after v.start.machine v.seen) in
      let whole : (values meaning (plan_after v.start.machine (v.seen ++ called act j seat ∷ [])) v.start.machine.opening (history_after v.start.machine (v.seen ++ called act j seat ∷ []))).lent loan.entry ≡ now.lent loan.entry =
      (λ i. (values meaning (plan i) v.start.machine.opening (history i)).lent loan.entry)
      ∙ (ap (λ (x : Values V O). x.lent loan.entry) (next (plan_after v.start.machine v.seen) v.start.machine.opening (history_after v.start.machine v.seen) (event_of act j seat))
      ∙ lent_else meaning act j (slice_get (plan_after v.start.machine v.seen) j) now loan.entry ne) in
      subst (λ (m : Me (Option (Account W V)) (Sight W V)). IsLoanOf meaning (token_of desk m.0) loan) (sym is) (record {
        out = out_else desk v act j seat loan.entry ne h.out;
        work = ap (λ l. slice_get l loan.entry) plan ∙ h.work;
        lent = h.lent ∙ sym whole;
      })

  -- the plan and the history after such dispatches
  pub plan_handed : (desk : TableId) (old me : Me (Option (Account W V)) (Sight W V)) (seat : ℕ) (js : List ℕ) → me ≡ (noting_all old.0 (all_called kind.Dispatch seat js), old.1) → plan_of (token_of desk me.0) ≡ plan_of (token_of desk old.0)
  plan_handed desk old me seat js is = ap (λ (m : Me (Option (Account W V)) (Sight W V)). plan_of (token_of desk m.0)) is ∙ plan_called old.0.start.machine old.0.seen kind.Dispatch seat js

  pub history_handed : (desk : TableId) (old me : Me (Option (Account W V)) (Sight W V)) (seat : ℕ) (js : List ℕ) → me ≡ (noting_all old.0 (all_called kind.Dispatch seat js), old.1) → history_of (token_of desk me.0) ≡ history_of (token_of desk old.0) ++ dispatches_of seat js
  history_handed desk old me seat js is = ap (λ (m : Me (Option (Account W V)) (Sight W V)). history_of (token_of desk m.0)) is ∙ history_called old.0.start.machine old.0.seen kind.Dispatch seat js

  -- what the machine answers after such dispatches, of the history before them
  pub least_told : {O S : Type 0} (meaning : Meaning W V O S) (desk : TableId) (old me : Me (Option (Account W V)) (Sight W V)) (seat next j : ℕ) (js : List ℕ) → me ≡ (noting_all old.0 (all_called kind.Dispatch seat js), old.1)
      → IsLeastReady (asks_of meaning (plan_of (token_of desk me.0))) (history_of (token_of desk me.0)) next j → IsLeastReady (asks_of meaning (plan_of (token_of desk old.0))) (history_of (token_of desk old.0) ++ dispatches_of seat js) next j
  least_told meaning desk old me seat next j js is l =
      subst (λ h. IsLeastReady (asks_of meaning (plan_of (token_of desk old.0))) h next j) (history_handed desk old me seat js is)
      (subst (λ p. IsLeastReady (asks_of meaning p) (history_of (token_of desk me.0)) next j) (plan_handed desk old me seat js is) l)

  -- the least from the next number on is the least of all, and where there is none, there is none of all
  pub least_at : {O S : Type 0} (meaning : Meaning W V O S) (desk : TableId) (old me new : Me (Option (Account W V)) (Sight W V)) (seat from next j : ℕ) (js : List ℕ) → me ≡ (noting_all old.0 (all_called kind.Dispatch seat js), old.1) → new ≡ me
      → IsHanding (asks_of meaning (plan_of (token_of desk old.0))) seat from next (history_of (token_of desk old.0)) js
      → IsLeastReady (asks_of meaning (plan_of (token_of desk me.0))) (history_of (token_of desk me.0)) next j → IsLeastReady (asks_of meaning (plan_of (token_of desk new.0))) (history_of (token_of desk new.0)) from j
  least_at meaning desk old me new seat from next j js is same h l =
      let all = least_of_all (asks_of meaning (plan_of (token_of desk old.0))) seat from next (history_of (token_of desk old.0)) js j h (least_told meaning desk old me seat next j js is l) in
      subst (λ (m : Me (Option (Account W V)) (Sight W V)). IsLeastReady (asks_of meaning (plan_of (token_of desk m.0))) (history_of (token_of desk m.0)) from j) (sym same)
      (subst (λ h. IsLeastReady (asks_of meaning (plan_of (token_of desk me.0))) h from j) (sym (history_handed desk old me seat js is))
      (subst (λ p. IsLeastReady (asks_of meaning p) (history_of (token_of desk old.0) ++ dispatches_of seat js) from j) (sym (plan_handed desk old me seat js is)) all))

  pub none_at : {O S : Type 0} (meaning : Meaning W V O S) (desk : TableId) (old me new : Me (Option (Account W V)) (Sight W V)) (seat from next : ℕ) (js : List ℕ) → me ≡ (noting_all old.0 (all_called kind.Dispatch seat js), old.1) → new ≡ me
      → IsHanding (asks_of meaning (plan_of (token_of desk old.0))) seat from next (history_of (token_of desk old.0)) js
      → NoneReady (asks_of meaning (plan_of (token_of desk me.0))) (history_of (token_of desk me.0)) next → NoneReady (asks_of meaning (plan_of (token_of desk new.0))) (history_of (token_of desk new.0)) from
  none_at meaning desk old me new seat from next js is same h none =
      let told : NoneReady (asks_of meaning (plan_of (token_of desk old.0))) (history_of (token_of desk old.0) ++ dispatches_of seat js) next =
      subst (λ h. NoneReady (asks_of meaning (plan_of (token_of desk old.0))) h next) (history_handed desk old me seat js is)
      (subst (λ p. NoneReady (asks_of meaning p) (history_of (token_of desk me.0)) next) (plan_handed desk old me seat js is) none) in
      let all = none_of_all (asks_of meaning (plan_of (token_of desk old.0))) seat from next (history_of (token_of desk old.0)) js h told in
      subst (λ (m : Me (Option (Account W V)) (Sight W V)). NoneReady (asks_of meaning (plan_of (token_of desk m.0))) (history_of (token_of desk m.0)) from) (sym same)
      (subst (λ h. NoneReady (asks_of meaning (plan_of (token_of desk me.0))) h from) (sym (history_handed desk old me seat js is))
      (subst (λ p. NoneReady (asks_of meaning p) (history_of (token_of desk old.0) ++ dispatches_of seat js) from) (sym (plan_handed desk old me seat js is)) all))

  -- a turn that ends with such dispatches
  pub ends_handed : {O S : Type 0} (meaning : Meaning W V O S) (desk : TableId) (result : Token W V) (old me : Me (Option (Account W V)) (Sight W V)) (seat at from : ℕ) (js : List ℕ) → me ≡ (noting_all old.0 (all_called kind.Dispatch at js), old.1) → at ≡ seat → result ≡ token_of desk me.0
      → DispatchesLeast (asks_of meaning (plan_of (token_of desk old.0))) at from (history_of (token_of desk old.0)) js
      → EndsWith (history_of result) (dispatches_of seat js) (λ before. DispatchesLeast (asks_of meaning (plan_of result)) seat from before js)
  ends_handed meaning desk result old me seat at from js is here last least = (
    history_of (token_of desk old.0),
    ap history_of last ∙ (history_handed desk old me at js is ∙ ap (λ s. history_of (token_of desk old.0) ++ dispatches_of s js) here),
    subst (λ s. DispatchesLeast (asks_of meaning (plan_of result)) s from (history_of (token_of desk old.0)) js) here
        (subst (λ p. DispatchesLeast (asks_of meaning p) at from (history_of (token_of desk old.0)) js) (sym (ap plan_of last ∙ plan_handed desk old me at js is)) least),
  )
