-- What a pass keeps, in the turn and outside, and what its contracts say of it.
use Rattle.std.proofs.Common.{◌≡◌, ◌+◌, ℕ, true, List, [], ◌∷◌, ◌++◌, length, drop, refl, sym, ap, ◌∙◌, subst, arith, append_assoc, length-append}
use Rattle.std.proofs.lemmas.List.{map-append, length-map}
use Rattle.std.specs.Prelude.{Option, Some, None}
use Rattle.std.proofs.lemmas.List.Elements.{filter_map-append}
use mathlib.Core.Option.{none}
use Rattle.atomic_table.specs.Table.{Me, rest, step, Allows}
use Rattle.atomic_table.specs.Seated.{TableId}
use Rattle.pooma_machine.specs.declared.step.Event.{Event}
use Rattle.pooma_machine.specs.Steps.{issued}
use Rattle.pooma_machine.specs.Values.{Account, Meaning}
use Rattle.pooma_law.specs.Histories.{IsHistoryOf}
use Rattle.pooma_desk.specs.declared.sight.Noted.{Noted}
use Rattle.pooma_desk.specs.Sight.{Began, Sight}
use Rattle.pooma_desk.specs.Seen.{events_of, works_of, plan_after, is_one_of, calls_under, HasSeen}
use Rattle.pooma_desk.specs.Rule.{IsLive, IsAfter, IsKept, MayNote, first_of}
use Rattle.pooma_desk.specs.Steps.{taking, noting, leaving, HasTaken, Leaves}
use Rattle.pooma_desk.specs.Tokens.{Token, Looks, Adds, plan_of, history_of, token_of}
use Rattle.pooma_desk.specs.Turns.{IsResting, IsPlaced, IsSeenLegal, IsOutside, IsInTurn}
use Rattle.pooma_desk.proofs.Fronts.{calls_stay, calls_more, one_of_first}
use Rattle.pooma_desk.proofs.Fitting.{fits_leaving, fits_noting}
use Rattle.pooma_desk.proofs.Moves.{leaves_turn}

-- a row of seats is its first and the others
pub whole_row : (xs : List ℕ) (s : ℕ) → xs ≡ s ∷ drop 1 xs → first_of xs ∷ drop 1 xs ≡ xs
whole_row xs s is = ap (λ ys. first_of ys ∷ drop 1 ys) is ∙ sym is

module _ {W V : Type 0} where
  pub resting_outside : {O S : Type 0} (meaning : Meaning W V O S) (me : Me (Option (Account W V)) (Sight W V)) (seat next : ℕ) → IsOutside meaning me seat next → IsResting me.0
  resting_outside meaning me seat next h = record { live = h.placed.live; outside = h.outside; alone = h.placed.alone; quiet = h.placed.quiet }

  pub placed_taken : (v w : Sight W V) (machine : Account W V) (seat next : ℕ) → IsPlaced v seat next → HasTaken v w machine → IsPlaced w seat next
  placed_taken v w machine seat next p h = record {
    live = subst (λ (z : Sight W V). IsLive z) (sym h.is) p.live;
    fits = h.fits;
    alone = ap (λ (z : Sight W V). z.others) h.is ∙ p.alone;
    quiet = ap (λ (z : Sight W V). z.told) h.is ∙ p.quiet;
    own = subst (λ (z : Sight W V). z.seats ≡ seat ∷ drop 1 z.seats) (sym h.is) p.own;
    left = ap (λ (z : Sight W V). z.next) h.is ∙ p.left;
  }

  pub placed_leaving : (v : Sight W V) (seat next : ℕ) → IsPlaced v seat next → IsPlaced (leaving v) seat next
  placed_leaving v seat next p = record { live = p.live; fits = fits_leaving v.start v.seen v p.fits; alone = p.alone; quiet = p.quiet; own = p.own; left = p.left }

  pub placed_noting : (v : Sight W V) (n : Noted W) (seat next : ℕ) → IsPlaced v seat next → MayNote v n → IsPlaced (noting v n) seat next
  placed_noting v n seat next p may = record { live = p.live; fits = fits_noting v.start v.seen n v p.fits refl p.alone may; alone = p.alone; quiet = p.quiet; own = p.own; left = p.left }

  -- in the turn, once the machine was taken out
  pub in_turn : (v : Sight W V) (taken me : Me (Option (Account W V)) (Sight W V)) (machine : Account W V) (seat next : ℕ) → IsPlaced v seat next → HasTaken v taken.0 machine → me ≡ (taken.0, (0, None) ∷ []) → IsInTurn me seat next
  in_turn v taken me machine seat next p h is =
      subst (λ m. IsInTurn m seat next) (sym is) (record { placed = placed_taken v taken.0 machine seat next p h; holds = ap (λ (z : Sight W V). z.holds) h.is; empty = refl })

  -- the history of the machine is legal, so what was seen is
  pub legal_seen : {O S : Type 0} (meaning : Meaning W V O S) (v : Sight W V) (machine : Account W V) → IsAfter v.start.machine machine v.seen → IsHistoryOf meaning machine.plan machine.history → issued machine.history ≡ length machine.plan → IsSeenLegal meaning v
  legal_seen meaning v machine after legal count = record {
    legal = subst (λ h. IsHistoryOf meaning (plan_after v.start.machine v.seen) h) after.history (subst (λ p. IsHistoryOf meaning p machine.history) after.plan legal);
    issued = sym (ap issued after.history) ∙ (count ∙ ap length after.plan);
  }

  -- outside again
  pub outside_left : {O S : Type 0} (meaning : Meaning W V O S) (v : Sight W V) (me : Me (Option (Account W V)) (Sight W V)) (seat next : ℕ) → IsPlaced v seat next → IsSeenLegal meaning v → me ≡ (leaving v, []) → IsOutside meaning me seat next
  outside_left meaning v me seat next p legal is =
      subst (λ m. IsOutside meaning m seat next) (sym is) (record { placed = placed_leaving v seat next p; legal = record { legal = legal.legal; issued = legal.issued }; outside = refl; none = refl })

  -- what the contracts say
  pub looks_taking : (desk : TableId) (v : Sight W V) (seat : ℕ) (log : List (Noted W)) → v.seats ≡ seat ∷ drop 1 v.seats → HasSeen v.seats v.seen log → Looks (token_of desk v) (token_of desk (taking v log))
  looks_taking desk v seat log own h =
      let row = whole_row v.seats seat own in
      record {
        same = record { from = refl; seat = refl; joined = refl; shares = refl; left = refl };
        more = h.rest;
        seen = h.begins;
        own = ap (λ xs. calls_under xs log) row ∙ (calls_stay v.seats v.seen log h ∙ sym (ap (λ xs. calls_under xs v.seen) row));
      }

  pub looks_taken : (desk : TableId) (v w : Sight W V) (machine : Account W V) (seat next : ℕ) → IsPlaced v seat next → HasTaken v w machine → Looks (token_of desk v) (token_of desk w)
  looks_taken desk v w machine seat next p h = subst (λ z. Looks (token_of desk v) (token_of desk z)) (sym h.is) (looks_taking desk v seat w.seen p.own h.seen)

  pub adds_noting : (desk : TableId) (old : Token W V) (v : Sight W V) (n : Noted W) → Looks old (token_of desk v) → is_one_of (first_of v.seats ∷ drop 1 v.seats) n.event.seat ≡ true → Adds old (token_of desk (noting v n)) n
  adds_noting desk old v n h mine = record {
    same = record { from = h.same.from; seat = h.same.seat; joined = h.same.joined; shares = h.same.shares; left = h.same.left };
    between = h.more;
    seen = ap (λ l. l ++ n ∷ []) h.seen;
    own = calls_more (first_of v.seats ∷ drop 1 v.seats) v.seen n mine ∙ ap (λ l. l ++ n ∷ []) h.own;
  }

  -- the machine after one event more
  pub after_event : (start machine new : Account W V) (log : List (Noted W)) (n : Noted W) → IsAfter start machine log → new.plan ≡ machine.plan ++ works_of (n ∷ []) → new.opening ≡ machine.opening → new.history ≡ machine.history ++ n.event ∷ [] → IsAfter start new (log ++ n ∷ [])
  after_event start machine new log n h plan opening history = record {
    plan = plan ∙ (ap (λ p. p ++ works_of (n ∷ [])) h.plan ∙ (append_assoc start.plan (works_of log) (works_of (n ∷ [])) ∙ ap (λ p. start.plan ++ p) (sym (filter_map-append (λ (m : Noted W). m.work) log (n ∷ [])))));
    opening = opening ∙ h.opening;
    history = history ∙ (ap (λ l. l ++ n.event ∷ []) h.history ∙ (append_assoc start.history (events_of log) (n.event ∷ []) ∙ ap (λ l. start.history ++ l) (sym (map-append (λ (m : Noted W). m.event) log (n ∷ [])))));
  }

  module _ (start : Began W V) where
    -- what the last step asks, once the machine was put back
    pub leaves_from : (slots id : ℕ) (old me : Me (Option (Account W V)) (Sight W V)) (machine : Account W V) (seat next : ℕ) → IsInTurn old seat next → IsAfter old.0.start.machine machine old.0.seen
        → me ≡ (old.0, (0, Some machine) ∷ rest old.1) → Allows (IsKept start) slots id me 0 (λ _. 0) (λ _. Leaves (step slots 0 0 0 none) me 0)
    leaves_from slots id old me machine seat next t after is =
        subst (λ m. Allows (IsKept start) slots id m 0 (λ _. 0) (λ _. Leaves (step slots 0 0 0 none) m 0)) (sym is)
        (leaves_turn start slots id (old.0, (0, Some machine) ∷ rest old.1) machine t.placed.live t.holds after (ap (λ r. (0, Some machine) ∷ rest r) t.empty))

  -- what is known at the place after the last two steps
  pub left_turn : (old me new : Me (Option (Account W V)) (Sight W V)) (machine : Account W V) (seat next : ℕ) → IsInTurn old seat next → me ≡ (old.0, (0, Some machine) ∷ rest old.1) → new ≡ (leaving me.0, rest me.1) → new ≡ (leaving old.0, [])
  left_turn old me new machine seat next t is then = then ∙ (ap (λ m. (leaving m.0, rest m.1)) is ∙ ap (λ r. (leaving old.0, rest r)) t.empty)

  -- how many events the machine has had
  pub counted : (start machine : Account W V) (log : List (Noted W)) (n : Noted W) → IsAfter start machine (log ++ n ∷ []) → length machine.history ≡ length start.history + (length log + 1)
  counted start machine log n h =
      let is : length machine.history ≡ length (start.history ++ events_of (log ++ n ∷ [])) = ap length h.history in
      let events : length (events_of (log ++ n ∷ [])) ≡ length (log ++ n ∷ []) = length-map (log ++ n ∷ []) (λ (m : Noted W). m.event) in
      omega (arith, is, length-append start.history (events_of (log ++ n ∷ [])), events, length-append log (n ∷ []))

  -- the pass that a call gives back, where it made none and where it made one
  pub looks_at : (desk : TableId) (pass result : Token W V) (v : Sight W V) → Looks pass (token_of desk v) → result ≡ token_of desk v → Looks pass result
  looks_at desk pass result v h is = subst (Looks pass) (sym is) h

  pub adds_at : (desk : TableId) (pass result : Token W V) (v : Sight W V) (seat next : ℕ) (n : Noted W) (me : Me (Option (Account W V)) (Sight W V)) (out : List (ℕ × Option (Account W V))) → IsPlaced v seat next → n.event.seat ≡ seat
      → Looks pass (token_of desk v) → me ≡ (noting v n, out) → result ≡ token_of desk me.0 → Adds pass result n
  adds_at desk pass result v seat next n me out p mine h noted is =
      let row : is_one_of (first_of v.seats ∷ drop 1 v.seats) n.event.seat ≡ true = subst (λ xs. is_one_of xs n.event.seat ≡ true) (sym (whole_row v.seats seat p.own)) (subst (λ xs. is_one_of xs n.event.seat ≡ true) (sym p.own) (subst (λ s. is_one_of (s ∷ drop 1 v.seats) n.event.seat ≡ true) mine (one_of_first n.event.seat (drop 1 v.seats)))) in
      subst (λ t. Adds pass t n) (sym (is ∙ ap (λ (m : Me (Option (Account W V)) (Sight W V)). token_of desk m.0) noted)) (adds_noting desk pass v n h row)

  -- what holds of the machine's works and history holds of what the pass has seen
  pub told_of : (desk : TableId) (pass : Token W V) (v : Sight W V) (machine : Account W V) (P : List W → List Event → Type 0) → pass ≡ token_of desk v → IsAfter v.start.machine machine v.seen → P machine.plan machine.history → P (plan_of pass) (history_of pass)
  told_of desk pass v machine P is after h =
      subst (λ (t : Token W V). P (plan_of t) (history_of t)) (sym is) (subst (λ l. P (plan_after v.start.machine v.seen) l) after.history (subst (λ p. P p machine.history) after.plan h))
