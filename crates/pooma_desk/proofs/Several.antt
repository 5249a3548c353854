-- Several events in one turn.
use Rattle.std.proofs.Common.{◌≡◌, ◌+◌, ℕ, suc, true, List, [], ◌∷◌, ◌++◌, length, map, drop, refl, sym, ap, ◌∙◌, subst, arith, append_assoc, append-nil, length-append}
use Rattle.std.proofs.lemmas.List.{map-append}
use Rattle.std.proofs.lemmas.List.Elements.{filter-append, filter_map-append}
use Rattle.std.specs.Prelude.{Option}
use Rattle.atomic_table.specs.Table.{Me}
use Rattle.atomic_table.specs.Seated.{TableId}
use Rattle.pooma_machine.specs.declared.step.EventKind.{EventKind}
use Rattle.pooma_machine.specs.Steps.{event_of}
use Rattle.pooma_machine.specs.Values.{Account, Loaned}
use Rattle.pooma_desk.specs.declared.sight.Noted.{Noted}
use Rattle.pooma_desk.specs.Sight.{Sight}
use Rattle.pooma_desk.specs.Seen.{events_of, works_of, plan_after, history_after, is_one_of, calls_under}
use Rattle.pooma_desk.specs.Rule.{first_of}
use Rattle.pooma_desk.specs.Steps.{noting, noting_all}
use Rattle.pooma_desk.specs.Tokens.{Token, Looks, AddsAll, RequestsAll, own_calls, plan_of, token_of, called, requested, all_called, all_requested, entries_of}
use Rattle.pooma_desk.specs.Turns.{IsPlaced}
use Rattle.pooma_desk.proofs.Calls.{own_first}
use Rattle.pooma_desk.proofs.Turning.{whole_row}

-- a list of requests with one more behind it
pub requested_more : {W : Type 0} (entry seat : ℕ) (works : List W) (work : W) → all_requested entry seat (works ++ work ∷ []) ≡ all_requested entry seat works ++ requested (entry + length works) seat work ∷ []
requested_more entry seat [] work = ap (λ k. requested k seat work ∷ []) (omega arith)
requested_more entry seat (w ∷ ws) work =
    let far : (entry + 1) + length ws ≡ entry + suc (length ws) = omega arith in
    ap (λ l. requested entry seat w ∷ l) (requested_more (entry + 1) seat ws work ∙ ap (λ k. all_requested (entry + 1) seat ws ++ requested k seat work ∷ []) far)

-- the works and the events of such lists
pub works_requested : {W : Type 0} (entry seat : ℕ) (works : List W) → works_of (all_requested entry seat works) ≡ works
works_requested entry seat [] = refl
works_requested entry seat (w ∷ ws) = ap (λ l. w ∷ l) (works_requested (entry + 1) seat ws)

pub works_called : {W : Type 0} (act : EventKind) (seat : ℕ) (entries : List ℕ) → works_of {W = W} (all_called act seat entries) ≡ []
works_called act seat [] = refl
works_called {W = W} act seat (e ∷ es) = works_called {W = W} act seat es

pub events_called : (W : Type 0) (act : EventKind) (seat : ℕ) (entries : List ℕ) → events_of {W = W} (all_called act seat entries) ≡ map (λ j. event_of act j seat) entries
events_called W act seat [] = refl
events_called W act seat (e ∷ es) = ap (λ l. event_of act e seat ∷ l) (events_called W act seat es)

-- all of them are calls of the seat
pub calls_called : {W : Type 0} (seats : List ℕ) (act : EventKind) (seat : ℕ) (entries : List ℕ) → is_one_of seats seat ≡ true → calls_under {W = W} seats (all_called act seat entries) ≡ all_called act seat entries
calls_called seats act seat [] is = refl
calls_called {W = W} seats act seat (e ∷ es) is = rw is (ap (λ l. called act e seat ∷ l) (calls_called {W = W} seats act seat es is))

pub calls_requested : {W : Type 0} (seats : List ℕ) (entry seat : ℕ) (works : List W) → is_one_of seats seat ≡ true → calls_under seats (all_requested entry seat works) ≡ all_requested entry seat works
calls_requested seats entry seat [] is = refl
calls_requested seats entry seat (w ∷ ws) is = rw is (ap (λ l. requested entry seat w ∷ l) (calls_requested seats (entry + 1) seat ws is))

module _ {W V : Type 0} where
  noting_more : (v : Sight W V) (ns : List (Noted W)) (n : Noted W) → noting (noting_all v ns) n ≡ noting_all v (ns ++ n ∷ [])
  noting_more v ns n = ap (λ l. record { start = v.start; seats = v.seats; next = v.next; shares = v.shares; seen = l; others = v.others; told = v.told; holds = v.holds }) (append_assoc v.seen ns (n ∷ []))

  -- what is noted at the place before any of them, and with one more
  pub noted_none : (me : Me (Option (Account W V)) (Sight W V)) → me ≡ (noting_all me.0 [], me.1)
  noted_none me = ap (λ l. (record { start = me.0.start; seats = me.0.seats; next = me.0.next; shares = me.0.shares; seen = l; others = me.0.others; told = me.0.told; holds = me.0.holds }, me.1)) (sym (append-nil me.0.seen))

  pub noted_more : (old me new : Me (Option (Account W V)) (Sight W V)) (ns : List (Noted W)) (n : Noted W) → me ≡ (noting_all old.0 ns, old.1) → new ≡ (noting me.0 n, me.1) → new ≡ (noting_all old.0 (ns ++ n ∷ []), old.1)
  noted_more old me new ns n is then = then ∙ (ap (λ (m : Me (Option (Account W V)) (Sight W V)). (noting m.0 n, m.1)) is ∙ ap (λ w. (w, old.1)) (noting_more old.0 ns n))

  pub requested_step : (old me new : Me (Option (Account W V)) (Sight W V)) (first entry seat at : ℕ) (asked : List W) (work : W) → me ≡ (noting_all old.0 (all_requested first seat asked), old.1) → new ≡ (noting me.0 (requested entry at work), me.1)
      → entry ≡ first + length asked → at ≡ seat → new ≡ (noting_all old.0 (all_requested first seat (asked ++ work ∷ [])), old.1)
  requested_step old me new first entry seat at asked work is then last here =
      let ns : List (Noted W) = all_requested first seat asked in
      let grown : ns ++ requested entry at work ∷ [] ≡ all_requested first seat (asked ++ work ∷ []) = ap (λ k. ns ++ requested k at work ∷ []) last ∙ (ap (λ s. ns ++ requested (first + length asked) s work ∷ []) here ∙ sym (requested_more first seat asked work)) in
      noted_more old me new ns (requested entry at work) is then ∙ ap (λ l. (noting_all old.0 l, old.1)) grown

  pub called_step : (old me new : Me (Option (Account W V)) (Sight W V)) (act : EventKind) (seat at j : ℕ) (loans : List (Loaned W V)) (loan : Loaned W V) → me ≡ (noting_all old.0 (all_called act seat (entries_of loans)), old.1) → new ≡ (noting me.0 (called act j at), me.1)
      → loan.entry ≡ j → at ≡ seat → new ≡ (noting_all old.0 (all_called act seat (entries_of (loans ++ loan ∷ []))), old.1)
  called_step old me new act seat at j loans loan is then entry here =
      let ns : List (Noted W) = all_called act seat (entries_of loans) in
      let grown : ns ++ called act j at ∷ [] ≡ all_called act seat (entries_of (loans ++ loan ∷ [])) =
      ap (λ k. ns ++ called act k at ∷ []) (sym entry)
      ∙ (ap (λ s. ns ++ called act loan.entry s ∷ []) here
      ∙ (sym (map-append (λ k. called act k seat) (entries_of loans) (loan.entry ∷ []))
      ∙ ap (all_called act seat) (sym (map-append (λ (l : Loaned W V). l.entry) loans (loan ∷ []))))) in
      noted_more old me new ns (called act j at) is then ∙ ap (λ l. (noting_all old.0 l, old.1)) grown

  -- a pass with several events more
  pub adds_all_at : (desk : TableId) (pass result : Token W V) (v : Sight W V) (seat next : ℕ) (ns : List (Noted W)) (me : Me (Option (Account W V)) (Sight W V)) (out : List (ℕ × Option (Account W V))) → IsPlaced v seat next
      → ((seats : List ℕ) → is_one_of seats seat ≡ true → calls_under seats ns ≡ ns)
      → Looks pass (token_of desk v) → me ≡ (noting_all v ns, out) → result ≡ token_of desk me.0 → AddsAll pass result ns
  adds_all_at desk pass result v seat next ns me out p mine h noted is =
      let row : List ℕ = first_of v.seats ∷ drop 1 v.seats in
      let own : is_one_of row seat ≡ true = subst (λ xs. is_one_of xs seat ≡ true) (sym (whole_row v.seats seat p.own)) (own_first v seat next p) in
      subst (λ t. AddsAll pass t ns) (sym (is ∙ ap (λ (m : Me (Option (Account W V)) (Sight W V)). token_of desk m.0) noted)) (record {
        same = record { from = h.same.from; seat = h.same.seat; joined = h.same.joined; shares = h.same.shares; left = h.same.left };
        between = h.more;
        seen = ap (λ l. l ++ ns) h.seen;
        own = filter-append (λ (m : Noted W). is_one_of row m.event.seat) v.seen ns ∙ (ap (λ l. calls_under row v.seen ++ l) (mine row own) ∙ ap (λ l. l ++ ns) h.own);
      })

  -- and with several more behind these
  pub adds_more_at : (desk : TableId) (pass result : Token W V) (v : Sight W V) (seat next : ℕ) (ns ms : List (Noted W)) (me : Me (Option (Account W V)) (Sight W V)) (out : List (ℕ × Option (Account W V))) → IsPlaced v seat next
      → ((seats : List ℕ) → is_one_of seats seat ≡ true → calls_under seats ms ≡ ms)
      → AddsAll pass (token_of desk v) ns → me ≡ (noting_all v ms, out) → result ≡ token_of desk me.0 → AddsAll pass result (ns ++ ms)
  adds_more_at desk pass result v seat next ns ms me out p mine h noted is =
      let row : List ℕ = first_of v.seats ∷ drop 1 v.seats in
      let own : is_one_of row seat ≡ true = subst (λ xs. is_one_of xs seat ≡ true) (sym (whole_row v.seats seat p.own)) (own_first v seat next p) in
      subst (λ t. AddsAll pass t (ns ++ ms)) (sym (is ∙ ap (λ (m : Me (Option (Account W V)) (Sight W V)). token_of desk m.0) noted)) (record {
        same = record { from = h.same.from; seat = h.same.seat; joined = h.same.joined; shares = h.same.shares; left = h.same.left };
        between = h.between;
        seen = ap (λ l. l ++ ms) h.seen ∙ append_assoc (pass.seen ++ h.between) ns ms;
        own = filter-append (λ (m : Noted W). is_one_of row m.event.seat) v.seen ms ∙ (ap (λ l. calls_under row v.seen ++ l) (mine row own) ∙ (ap (λ l. l ++ ms) h.own ∙ append_assoc (own_calls pass) ns ms));
      })

  -- the plan after requests, and after other calls
  pub plan_requested : (start : Account W V) (seen : List (Noted W)) (entry seat : ℕ) (works : List W) → plan_after start (seen ++ all_requested entry seat works) ≡ plan_after start seen ++ works
  plan_requested start seen entry seat works =
      ap (λ l. start.plan ++ l) (filter_map-append (λ (m : Noted W). m.work) seen (all_requested entry seat works) ∙ ap (λ l. works_of seen ++ l) (works_requested entry seat works))
      ∙ sym (append_assoc start.plan (works_of seen) works)

  pub plan_called : (start : Account W V) (seen : List (Noted W)) (act : EventKind) (seat : ℕ) (entries : List ℕ) → plan_after start (seen ++ all_called act seat entries) ≡ plan_after start seen
  plan_called start seen act seat entries = ap (λ l. start.plan ++ l) (filter_map-append (λ (m : Noted W). m.work) seen (all_called act seat entries) ∙ (ap (λ l. works_of seen ++ l) (works_called {W = W} act seat entries) ∙ append-nil (works_of seen)))

  pub history_called : (start : Account W V) (seen : List (Noted W)) (act : EventKind) (seat : ℕ) (entries : List ℕ) → history_after start (seen ++ all_called act seat entries) ≡ history_after start seen ++ map (λ j. event_of act j seat) entries
  history_called start seen act seat entries =
      ap (λ l. start.history ++ l) (map-append (λ (m : Noted W). m.event) seen (all_called act seat entries) ∙ ap (λ l. events_of seen ++ l) (events_called W act seat entries))
      ∙ sym (append_assoc start.history (events_of seen) (map (λ j. event_of act j seat) entries))

  -- a list of works, some of which were requested in the turn
  pub requests_at : (desk : TableId) (pass result : Token W V) (v : Sight W V) (machine : Account W V) (seat next first : ℕ) (works asked rest : List W) (me : Me (Option (Account W V)) (Sight W V)) (out : List (ℕ × Option (Account W V))) → IsPlaced v seat next → seat ≡ pass.seat
      → plan_after v.start.machine v.seen ≡ machine.plan → first ≡ length machine.plan
      → Looks pass (token_of desk v) → works ≡ asked ++ rest → me ≡ (noting_all v (all_requested (length machine.plan) seat asked), out) → result ≡ token_of desk me.0 → RequestsAll pass result works rest first
  requests_at desk pass result v machine seat next first works asked rest me out p mine plan last h cut noted is =
      let adds : AddsAll pass result (all_requested (length machine.plan) seat asked) = adds_all_at desk pass result v seat next (all_requested (length machine.plan) seat asked) me out p (λ seats is. calls_requested seats (length machine.plan) seat asked is) h noted is in
      let grown : plan_of result ≡ machine.plan ++ asked =
      ap plan_of (is ∙ ap (λ (m : Me (Option (Account W V)) (Sight W V)). token_of desk m.0) noted) ∙ (plan_requested v.start.machine v.seen (length machine.plan) seat asked ∙ ap (λ l. l ++ asked) plan) in
      record {
        asked = asked;
        cut = cut;
        adds = subst (λ s. AddsAll pass result (all_requested first s asked)) mine (subst (λ k. AddsAll pass result (all_requested k seat asked)) (sym last) adds);
        entries = ap (λ k. k + length asked) last ∙ (sym (length-append machine.plan asked) ∙ sym (ap length grown));
      }
