-- What a dispatch and a release of a pass rest on.
use Rattle.std.proofs.Common.{◌≡◌, ◌<◌, ℕ, true, List, [], ◌∷◌, ◌++◌, length, drop, Contains, refl, sym, ap, ◌∙◌, subst, ◌⊎◌, inl, inr, arith, append_assoc, append-nil, length-append}
use Rattle.std.specs.Prelude.{◌↔◌, Option, Some, None, IsTrue, slice_get}
use Rattle.std.proofs.lemmas.List.{map-append}
use Rattle.std.proofs.lemmas.List.Elements.{filter_map-append, Contains-push, Contains-push_cases, Contains-append_right}
use Rattle.atomic_table.specs.Table.{Me}
use Rattle.atomic_table.specs.Seated.{TableId}
use Rattle.pooma_machine.specs.declared.step.Event.{Event}
use Rattle.pooma_machine.specs.declared.step.EventKind.TheVariants as kind
use Rattle.pooma_machine.specs.Steps.{Comes, MayCome, IsWaiting, issued, status_of, is_out, is_released, event_of}
use Rattle.pooma_machine.specs.Values.{Account, Meaning, Loaned, Values, Lent, values, asks_of}
use Rattle.pooma_law.specs.Histories.{IsHistoryOf}
use Rattle.pooma_desk.specs.declared.sight.Noted.{Noted}
use Rattle.pooma_desk.specs.Sight.{Sight}
use Rattle.pooma_desk.specs.Seen.{events_of, works_of, plan_after, history_after, is_one_of}
use Rattle.pooma_desk.specs.Rule.{IsAfter, MayNote, first_of}
use Rattle.pooma_desk.specs.Steps.{noting}
use Rattle.pooma_desk.specs.Tokens.{Token, Looks, Adds, AddsTwo, HasOut, IsLoanOf, own_calls, plan_of, history_of, values_after, token_of, called}
use Rattle.pooma_desk.specs.Turns.{IsPlaced, IsSeenLegal}
use Rattle.pooma_desk.proofs.Calls.{IsOut, as_event, there_under, under_there, event_there, not_released, get_front, own_first, may_dispatch}
use Rattle.pooma_desk.proofs.Fronts.{calls_more}
use Rattle.pooma_desk.proofs.Turning.{whole_row, after_event, legal_seen}

module _ {W V : Type 0} where
  -- the machine after a dispatch or a release
  pub after_called : (start machine new : Account W V) (log : List (Noted W)) (event : Event) → IsAfter start machine log → new.plan ≡ machine.plan → new.opening ≡ machine.opening → new.history ≡ machine.history ++ event ∷ [] → IsAfter start new (log ++ (record { event = event; work = None }) ∷ [])
  after_called start machine new log event h plan opening history = after_event start machine new log (record { event = event; work = None }) h (plan ∙ sym (append-nil machine.plan)) opening history

  -- what the machine has dispatched may be noted
  pub may_note_dispatch : {O S : Type 0} (meaning : Meaning W V O S) (v : Sight W V) (machine : Account W V) (seat next j : ℕ) → IsPlaced v seat next → IsAfter v.start.machine machine v.seen → IsHistoryOf meaning machine.plan machine.history → issued machine.history ≡ length machine.plan → IsWaiting machine.history j
      → ((plan : List W) (history : List Event) → IsHistoryOf meaning plan history → (k : ℕ) → IsTrue (is_released (status_of history k)) ↔ ((at : ℕ) × Contains history (event_of kind.Release k at)))
      → MayNote v (called kind.Dispatch j seat)
  may_note_dispatch meaning v machine seat next j placed after legal count waits released =
      let seen = legal_seen meaning v machine after legal count in
      may_dispatch v seat next j placed (subst (λ h. IsWaiting h j) after.history waits) (λ at there. (released (plan_after v.start.machine v.seen) (history_after v.start.machine v.seen) seen.legal j).1 (at, there))

  -- what was dispatched is out with the pass
  pub out_noted : (desk : TableId) (result : Token W V) (v : Sight W V) (seat next number : ℕ) (n : Noted W) (me : Me (Option (Account W V)) (Sight W V)) (out : List (ℕ × Option (Account W V))) → IsPlaced v seat next → MayNote v n → n.event.kind ≡ kind.Dispatch → n.event.entry ≡ number
      → me ≡ (noting v n, out) → result ≡ token_of desk me.0 → HasOut result number
  out_noted desk result v seat next number n me out p may lent entry noted is =
      subst (λ t. HasOut t number) (sym (is ∙ ap (λ (m : Me (Option (Account W V)) (Sight W V)). token_of desk m.0) noted)) (record {
        dispatch = n;
        there = under_there row (v.seen ++ n ∷ []) n (Contains-push v.seen n) (subst (λ xs. is_one_of xs n.event.seat ≡ true) (sym same) may.mine);
        lent = lent;
        entry = entry;
        kept = λ m at back of. by m back of (Contains-push_cases v.seen n m (there_under row (v.seen ++ n ∷ []) m at).0);
      })
    where
      row : List ℕ
      row = first_of v.seats ∷ drop 1 v.seats

      same : row ≡ v.seats
      same = whole_row v.seats seat p.own

      kinds : kind.Dispatch ≡ kind.Release → ⊥
      kinds e = cc

      by : (m : Noted W) → m.event.kind ≡ kind.Release → m.event.entry ≡ number → Contains v.seen m ⊎ (n ≡ m) → ⊥
      by m back of (inl old) = may.lent m old (record { lent = lent; back = back; entry = entry ∙ sym of })
      by m back of (inr new) = kinds (sym lent ∙ (ap (λ (z : Noted W). z.event.kind) new ∙ back))

  -- what the values after a pass's list are
  pub values_told : {O S : Type 0} (meaning : Meaning W V O S) (desk : TableId) (result : Token W V) (v : Sight W V) (machine : Account W V) → result ≡ token_of desk v → IsAfter v.start.machine machine v.seen → values meaning machine.plan machine.opening machine.history ≡ values_after meaning result
  values_told meaning desk result v machine is after = (λ i. values meaning (after.plan i) (after.opening i) (after.history i)) ∙ ap (λ (t : Token W V). values_after meaning t) (sym is)

  -- the plan and the history in the turn go on from the pass's
  pub plan_grows : (desk : TableId) (pass : Token W V) (v : Sight W V) (looks : Looks pass (token_of desk v)) → plan_after v.start.machine v.seen ≡ plan_of pass ++ works_of looks.more
  plan_grows desk pass v looks =
      ap (λ l. plan_after v.start.machine l) looks.seen
      ∙ (ap (λ s. s.machine.plan ++ works_of (pass.seen ++ looks.more)) looks.same.from
      ∙ (ap (λ l. pass.from.machine.plan ++ l) (filter_map-append (λ (m : Noted W). m.work) pass.seen looks.more)
      ∙ sym (append_assoc pass.from.machine.plan (works_of pass.seen) (works_of looks.more))))

  pub history_grows : (desk : TableId) (pass : Token W V) (v : Sight W V) (looks : Looks pass (token_of desk v)) → history_after v.start.machine v.seen ≡ history_of pass ++ events_of looks.more
  history_grows desk pass v looks =
      ap (λ l. history_after v.start.machine l) looks.seen
      ∙ (ap (λ s. s.machine.history ++ events_of (pass.seen ++ looks.more)) looks.same.from
      ∙ (ap (λ l. pass.from.machine.history ++ l) (map-append (λ (m : Noted W). m.event) pass.seen looks.more)
      ∙ sym (append_assoc pass.from.machine.history (events_of pass.seen) (events_of looks.more))))

  -- what was seen requested is there in the turn
  pub issued_in_turn : (desk : TableId) (pass : Token W V) (v : Sight W V) (j : ℕ) → Looks pass (token_of desk v) → j < length (plan_of pass) → j < length (plan_after v.start.machine v.seen)
  issued_in_turn desk pass v j looks below =
      let l : length (plan_after v.start.machine v.seen) ≡ length (plan_of pass ++ works_of looks.more) = ap length (plan_grows desk pass v looks) in
      omega (arith, l, length-append (plan_of pass) (works_of looks.more), below)

  pub work_in_turn : (desk : TableId) (pass : Token W V) (v : Sight W V) (machine : Account W V) (j : ℕ) (work : W) → Looks pass (token_of desk v) → IsAfter v.start.machine machine v.seen → slice_get (plan_of pass) j ≡ Some work → slice_get machine.plan j ≡ Some work
  work_in_turn desk pass v machine j work looks after is = ap (λ l. slice_get l j) (after.plan ∙ plan_grows desk pass v looks) ∙ get_front (plan_of pass) (works_of looks.more) j work is

  -- what was lent is what it was, as the history goes on
  pub lent_in_turn : {O S : Type 0} (meaning : Meaning W V O S) (desk : TableId) (pass : Token W V) (v : Sight W V) (machine : Account W V) (j : ℕ) (lent : Lent V) (looks : Looks pass (token_of desk v)) → IsAfter v.start.machine machine v.seen
      → values meaning (plan_of pass ++ works_of looks.more) pass.from.machine.opening (history_of pass) ≡ values meaning (plan_of pass) pass.from.machine.opening (history_of pass)
      → (values meaning (plan_of pass ++ works_of looks.more) pass.from.machine.opening (history_of pass ++ events_of looks.more)).lent j ≡ (values meaning (plan_of pass ++ works_of looks.more) pass.from.machine.opening (history_of pass)).lent j
      → lent ≡ (values_after meaning pass).lent j → lent ≡ (values meaning machine.plan machine.opening machine.history).lent j
  lent_in_turn {O = O} meaning desk pass v machine j lent looks after longer later is =
      let plan : machine.plan ≡ plan_of pass ++ works_of looks.more = after.plan ∙ plan_grows desk pass v looks in
      let history : machine.history ≡ history_of pass ++ events_of looks.more = after.history ∙ history_grows desk pass v looks in
      let opening : machine.opening ≡ pass.from.machine.opening = after.opening ∙ ap (λ s. s.machine.opening) looks.same.from in
      is ∙ (ap (λ (x : Values V O). x.lent j) (sym longer) ∙ (sym later ∙ ap (λ (x : Values V O). x.lent j) (λ i. values meaning (sym plan i) (sym opening i) (sym history i))))

  -- a loan of the pass's stays one as others make their calls
  out_stays : (pass now : Token W V) (number : ℕ) → own_calls now ≡ own_calls pass → HasOut pass number → HasOut now number
  out_stays pass now number same out = record {
    dispatch = out.dispatch;
    there = subst (λ l. Contains l out.dispatch) (sym same) out.there;
    lent = out.lent;
    entry = out.entry;
    kept = λ n at back of. out.kept n (subst (λ l. Contains l n) same at) back of;
  }

  pub loan_in_turn : {O S : Type 0} (meaning : Meaning W V O S) (desk : TableId) (pass : Token W V) (v : Sight W V) (machine : Account W V) (loan : Loaned W V) (looks : Looks pass (token_of desk v)) → IsAfter v.start.machine machine v.seen
      → values meaning (plan_of pass ++ works_of looks.more) pass.from.machine.opening (history_of pass) ≡ values meaning (plan_of pass) pass.from.machine.opening (history_of pass)
      → (values meaning (plan_of pass ++ works_of looks.more) pass.from.machine.opening (history_of pass ++ events_of looks.more)).lent loan.entry ≡ (values meaning (plan_of pass ++ works_of looks.more) pass.from.machine.opening (history_of pass)).lent loan.entry
      → IsLoanOf meaning pass loan → IsLoanOf meaning (token_of desk v) loan
  loan_in_turn {O = O} meaning desk pass v machine loan looks after longer later h = record {
    out = out_stays pass (token_of desk v) loan.entry looks.own h.out;
    work = ap (λ l. slice_get l loan.entry) (plan_grows desk pass v looks) ∙ get_front (plan_of pass) (works_of looks.more) loan.entry loan.work h.work;
    lent = lent_in_turn meaning desk pass v machine loan.entry loan.lent looks after longer later h.lent ∙ ap (λ (x : Values V O). x.lent loan.entry) (values_told meaning desk (token_of desk v) v machine refl after);
  }

  pub looks_self : (pass : Token W V) → Looks pass pass
  looks_self pass = record {
    same = record { from = refl; seat = refl; joined = refl; shares = refl; left = refl };
    more = [];
    seen = sym (append-nil pass.seen);
    own = refl;
  }

  -- what the pass has out is out in the machine
  pub out_in_machine : {O S : Type 0} (meaning : Meaning W V O S) (pass : Token W V) (v : Sight W V) (machine : Account W V) (number : ℕ) → IsAfter v.start.machine machine v.seen → IsSeenLegal meaning v → IsOut pass v number
      → ((front later : List Event) (event : Event) → IsHistoryOf meaning (plan_after v.start.machine v.seen) (front ++ event ∷ later) → MayCome (asks_of meaning (plan_after v.start.machine v.seen)) front event)
      → ((front later : List Event) → IsHistoryOf meaning (plan_after v.start.machine v.seen) (front ++ later) → IsHistoryOf meaning (plan_after v.start.machine v.seen) front)
      → ((front : List Event) → IsHistoryOf meaning (plan_after v.start.machine v.seen) front → (at : ℕ) → Contains front (event_of kind.Release number at) → IsTrue (is_released (status_of front number)))
      → ((seat : ℕ) → Contains (history_after v.start.machine v.seen) (event_of kind.Dispatch number seat) → ((at : ℕ) → Contains (history_after v.start.machine v.seen) (event_of kind.Release number at) → ⊥) → IsTrue (is_out (status_of (history_after v.start.machine v.seen) number)))
      → IsTrue (is_out (status_of machine.history number))
  out_in_machine meaning pass v machine number after legal out comes front released told =
      let plan : List W = plan_after v.start.machine v.seen in
      let whole : List Event = history_after v.start.machine v.seen in
      let there : Contains whole (event_of kind.Dispatch number out.dispatch.event.seat) = subst (Contains whole) out.is (Contains-append_right v.start.machine.history (events_of v.seen) out.dispatch.event (event_there v.seen out.dispatch out.there)) in
      subst (λ h. IsTrue (is_out (status_of h number))) (sym after.history) (told out.dispatch.event.seat there (λ at back.
      not_released pass v number at out
      (λ f event later is act.
      let may = comes f later event (subst (IsHistoryOf meaning plan) is legal.legal) in
      (subst (λ k. Comes (asks_of meaning plan) f k event.entry) act may.1).0)
      (λ f later is at_front. released f (front f later (subst (IsHistoryOf meaning plan) is legal.legal)) at at_front)
      back))

  pub out_there : (pass : Token W V) (number : ℕ) (out : HasOut pass number) → Contains (history_of pass) (event_of kind.Dispatch number out.dispatch.event.seat)
  out_there pass number out =
      let d = there_under (pass.seat ∷ pass.joined) pass.seen out.dispatch out.there in
      subst (Contains (history_of pass)) (as_event out.dispatch kind.Dispatch number out.lent out.entry) (Contains-append_right pass.from.machine.history (events_of pass.seen) out.dispatch.event (event_there pass.seen out.dispatch d.0))

  -- the legal history in the turn, as the pass's and more
  pub legal_grows : {O S : Type 0} (meaning : Meaning W V O S) (desk : TableId) (pass : Token W V) (v : Sight W V) (looks : Looks pass (token_of desk v)) → IsSeenLegal meaning v → IsHistoryOf meaning (plan_of pass ++ works_of looks.more) (history_of pass ++ events_of looks.more)
  legal_grows meaning desk pass v looks legal = subst (IsHistoryOf meaning (plan_of pass ++ works_of looks.more)) (history_grows desk pass v looks) (subst (λ p. IsHistoryOf meaning p (history_after v.start.machine v.seen)) (plan_grows desk pass v looks) legal.legal)

  pub history_told : (desk : TableId) (pass : Token W V) (v : Sight W V) (machine : Account W V) → pass ≡ token_of desk v → IsAfter v.start.machine machine v.seen → history_of pass ≡ machine.history
  history_told desk pass v machine is after = ap history_of is ∙ sym after.history

  -- the two events of a release and of a dispatch behind it, as a pass adds them
  pub adds_then : (desk : TableId) (pass result : Token W V) (v : Sight W V) (seat next : ℕ) (one n : Noted W) (me : Me (Option (Account W V)) (Sight W V)) (out : List (ℕ × Option (Account W V))) → Adds pass (token_of desk v) one → IsPlaced v seat next → n.event.seat ≡ seat
      → me ≡ (noting v n, out) → result ≡ token_of desk me.0 → AddsTwo pass result one n
  adds_then desk pass result v seat next one n me out adds p mine noted is =
      let own = subst (λ xs. is_one_of xs n.event.seat ≡ true) (sym (whole_row v.seats seat p.own)) (subst (λ s. is_one_of v.seats s ≡ true) (sym mine) (own_first v seat next p)) in
      subst (λ t. AddsTwo pass t one n) (sym (is ∙ ap (λ (m : Me (Option (Account W V)) (Sight W V)). token_of desk m.0) noted)) (record {
        same = record { from = adds.same.from; seat = adds.same.seat; joined = adds.same.joined; shares = adds.same.shares; left = adds.same.left };
        between = adds.between;
        seen = ap (λ l. l ++ n ∷ []) adds.seen ∙ append_assoc (pass.seen ++ adds.between) (one ∷ []) (n ∷ []);
        own = calls_more (first_of v.seats ∷ drop 1 v.seats) v.seen n own ∙ (ap (λ l. l ++ n ∷ []) adds.own ∙ append_assoc (own_calls pass) (one ∷ []) (n ∷ []));
      })
