-- Each step of a desk keeps the rule, and tells what it says it tells.
use Rattle.std.proofs.Common.{◌≡◌, ◌≢◌, ◌+◌, ◌<◌, ◌≤◌, ◌==◌, ℕ, zero, suc, Bool, true, false, List, [], ◌∷◌, ◌++◌, length, get_or, set, Contains, ltb, ltb-false, refl, sym, ap, ◌∙◌, subst, ◌⊎◌, inl, inr, arith, length-append, append-nil}
use Rattle.std.specs.Prelude.{Option, Some, slice_index}
use Rattle.std.proofs.lemmas.Bool.{cases_eq, le-ltb}
use mathlib.Core.Option.{some, none, some-injective, some-ne-none}
use lib.ListN.{get_elem?}
use prog.Atomic.{either}
use Rattle.atomic_table.specs.Table.{State, Me, Act, keeps, takes, gives, step, opening, stepped, carried_after, Valid, Allows, Splits, Joins, Final, Seen}
use Rattle.atomic_table.proofs.Lists.{set_here, at_set, set_else, set_again, at_longer, exchanged}
use Rattle.pooma_machine.specs.Values.{Account}
use Rattle.pooma_desk.specs.declared.sight.Noted.{Noted}
use Rattle.pooma_desk.specs.Sight.{Began}
use Rattle.pooma_desk.specs.Sight.{Sight}
use Rattle.pooma_desk.specs.Seen.{longer, HasSeen}
use Rattle.pooma_desk.specs.Rule.{IsLive, Fits, AreApart, IsAfter, IsFree, IsTaken, IsWhole, IsKept, MayNote, first_of}
use Rattle.pooma_desk.specs.Steps.{first_sight, given_away, newcomer, joining, joined, spent, taking, noting, leaving, Takes, Notes, Leaves, Peeks}
use Rattle.pooma_desk.specs.Steps.{Joins as JoinTells}
use Rattle.pooma_desk.specs.Turns.{IsResting}
use Rattle.pooma_desk.proofs.Fronts.{merged, longer_alone}
use Rattle.pooma_desk.proofs.Fitting.{fits_first, fits_beside, fits_noting, fits_taking, fits_leaving, fits_front, fits_given_away, fits_newcomer, fits_joining, fits_joined}
use Rattle.pooma_desk.proofs.Parting.{Both, apart_given, apart_newcomer, apart_halves, apart_joining, apart_joined, apart_again, turned}
use Rattle.pooma_desk.proofs.Keeping.{at_within, one_there, At, shares_set, shares_push, shares_two, fit_set, fit_push, apart_set, apart_push, whole_set, whole_new, whole_push, none_set, none_push, other_set, other_here, other_push}

both_false : {b : Bool} → b ≡ true → b ≡ false → ⊥
both_false t f = cc

set_same : (ns : List ℕ) (i : ℕ) → set ns i (get_or ns i 0) ≡ ns
set_same [] i = refl
set_same (n ∷ ns) zero = refl
set_same (n ∷ ns) (suc i) = ap (λ ms. n ∷ ms) (set_same ns i)

-- a front as long as the whole is the whole
front_whole : {W : Type 0} (seats : List ℕ) (seen log : List (Noted W)) → HasSeen seats seen log → length log ≤ length seen → seen ≡ log
front_whole {W = W} seats seen log h long = by h.rest h.begins
  where
    by : (rest : List (Noted W)) → log ≡ seen ++ rest → seen ≡ log
    by [] is = sym (is ∙ append-nil seen)
    by (n ∷ rest) is = let l : length log ≡ length (seen ++ n ∷ rest) = ap length is in absurd (omega (arith, l, length-append seen (n ∷ rest), long))

front_short : {W : Type 0} (seats : List ℕ) (seen log : List (Noted W)) → HasSeen seats seen log → length seen ≤ length log
front_short seats seen log h = let l : length log ≡ length (seen ++ h.rest) = ap length h.begins in omega (arith, l, length-append seen h.rest)

-- the longer of two fronts is the whole where one of them is
longer_first : {W : Type 0} (ys : List ℕ) (one other log : List (Noted W)) → one ≡ log → HasSeen ys other log → longer one other ≡ log
longer_first ys one other log is h = rw (le-ltb (length one) (length other) (let s = front_short ys other log h in let l : length one ≡ length log = ap length is in omega (arith, s, l))) is

longer_second : {W : Type 0} (xs : List ℕ) (one other log : List (Noted W)) → HasSeen xs one log → other ≡ log → longer one other ≡ log
longer_second xs one other log h is = by (ltb (length one) (length other)) refl
  where
    by : (b : Bool) → ltb (length one) (length other) ≡ b → longer one other ≡ log
    by true t = rw t is
    by false t = rw t (front_whole xs one log h (let f = ltb-false (length one) (length other) t in let l : length other ≡ length log = ap length is in omega (arith, f, l)))

module _ {W V : Type 0} (start : Began W V) where
  abbrev Slot : Type 0
  Slot = Option (Account W V)

  abbrev Table : Type 0
  Table = State Slot (Sight W V)

  abbrev Mine : Type 0
  Mine = Me Slot (Sight W V)

  -- the step takes one state to another that has these words, homes and sights
  same_again : (s : Table) (i id : ℕ) (v : Sight W V) → IsKept start s → At s.views id v → IsKept start (record { words = set s.words i (slice_index s.words i); homes = s.homes; views = set s.views id v })
  same_again s i id v kept at =
      subst (λ (x : List ℕ × List (Sight W V)). IsKept start (record { words = x.0; homes = s.homes; views = x.1 }))
      (λ k. (sym (set_same s.words i) k, sym (set_again s.views id v at) k)) kept

  -- who holds the turn stands at its place, and has seen all
  record IsHolder (s : Table) (id : ℕ) (v : Sight W V) (kept : IsKept start s) : Type 0 where
    taken : IsTaken kept.turn kept.log s
    here : taken.place ≡ id
    all : v.seen ≡ kept.log

  holder : (s : Table) (id : ℕ) (v : Sight W V) (kept : IsKept start s) → At s.views id v → v.holds ≡ true → IsHolder s id v kept
  holder s id v kept at holds = elim kept.held [
    | inl free ↦ absurd (both_false holds (free.nobody id v at))
    | inr taken ↦
        elim (cases_eq taken.place id) [
          | inl here ↦
              let is : taken.holder ≡ v = one_there s.views id taken.holder v (subst (λ k. At s.views k taken.holder) here taken.there) at in
              record { taken = taken; here = here; all = ap (λ (z : Sight W V). z.seen) (sym is) ∙ taken.seen }
          | inr ne ↦ absurd (both_false holds (taken.alone id v (λ e. ne (sym e)) at))
        ]
  ]

  -- who is outside is not the holder
  elsewhere : (s : Table) (id : ℕ) (v : Sight W V) (turn : ℕ) (log : List (Noted W)) → At s.views id v → v.holds ≡ false → (taken : IsTaken turn log s) → taken.place ≢ id
  elsewhere s id v turn log at outside taken here =
      let is : taken.holder ≡ v = one_there s.views id taken.holder v (subst (λ k. At s.views k taken.holder) here taken.there) at in
      both_false taken.holds (ap (λ (z : Sight W V). z.holds) is ∙ outside)

  -- the turn is as it was, where the sight at a place outside changes
  held_set : (s : Table) (id : ℕ) (v w : Sight W V) (words : List ℕ) (turn : ℕ) (log : List (Noted W)) → At s.views id v → v.holds ≡ false → w.holds ≡ false
      → IsFree start turn log s ⊎ IsTaken turn log s
      → IsFree start turn log (record { words = words; homes = s.homes; views = set s.views id w }) ⊎ IsTaken turn log (record { words = words; homes = s.homes; views = set s.views id w })
  held_set s id v w words turn log at outside still held = elim held [
    | inl free ↦ inl (record { word = free.word; machine = free.machine; home = free.home; after = free.after; nobody = none_set s.views id w (λ k u ne. free.nobody k u) still })
    | inr taken ↦
        inr (record {
          place = taken.place;
          holder = taken.holder;
          there = set_else s.views id taken.place w (elsewhere s id v turn log at outside taken) ∙ taken.there;
          live = taken.live;
          holds = taken.holds;
          word = taken.word;
          seen = taken.seen;
          away = taken.away;
          alone = other_set s.views taken.place id w taken.alone still;
        })
  ]

  held_push : (s : Table) (w : Sight W V) (turn : ℕ) (log : List (Noted W)) → w.holds ≡ false
      → IsFree start turn log s ⊎ IsTaken turn log s
      → IsFree start turn log (record { words = s.words; homes = s.homes; views = s.views ++ w ∷ [] }) ⊎ IsTaken turn log (record { words = s.words; homes = s.homes; views = s.views ++ w ∷ [] })
  held_push s w turn log still held = elim held [
    | inl free ↦ inl (record { word = free.word; machine = free.machine; home = free.home; after = free.after; nobody = none_push s.views w free.nobody still })
    | inr taken ↦
        inr (record {
          place = taken.place;
          holder = taken.holder;
          there = at_longer s.views (w ∷ []) taken.place taken.holder taken.there;
          live = taken.live;
          holds = taken.holds;
          word = taken.word;
          seen = taken.seen;
          away = taken.away;
          alone = other_push s.views taken.place w taken.alone still;
        })
  ]

  beside : (s : Table) (kept : IsKept start s) (id : ℕ) (v : Sight W V) → At s.views id v → IsLive v → (j : ℕ) (u : Sight W V) → j ≢ id → At s.views j u → IsLive u → Both start.seats v u
  beside s kept id v at live j u ne at_u live_u = (kept.apart id j v u (λ e. ne (sym e)) at at_u live live_u, kept.apart j id u v ne at_u at live_u live)

  -- Step 3, which takes the turn and the machine where the turn was free
  module _ (slots id seat : ℕ) (v : Sight W V) (out : List (ℕ × Slot)) (rests : IsResting v) (own : first_of v.seats ≡ seat) (s : Table) (kept : IsKept start s) (at : At s.views id v) where
    abbrev Next : ℕ → Type 0
    Next m = (w : Sight W V) × (a : Act Slot) × Valid s.homes out a × IsKept start (stepped s 0 m id out w a) × Takes (step slots 0 0 (seat + 1) none) (v, out) (slice_index s.words 0) (w, carried_after out a)

    abbrev found : ℕ
    found = slice_index s.words 0

    named : found ≡ kept.turn
    named = ap (λ ws. slice_index ws 0) kept.words

    fit : Fits start kept.log v
    fit = kept.fits id v at rests.live

    took : (free : IsFree start kept.turn kept.log s) → IsKept start (stepped s 0 (seat + 1) id out (taking v kept.log) (takes 0 (Some free.machine)))
    took free = record {
      log = kept.log;
      turn = seat + 1;
      words = ap (λ ws. set ws 0 (seat + 1)) kept.words;
      held = inr (record {
        place = id;
        holder = taking v kept.log;
        there = set_here s.views id (taking v kept.log) (at_within s.views id v at);
        live = rests.live;
        holds = refl;
        word = omega (arith, own);
        seen = refl;
        away = ap (λ hs. set hs 0 none) free.home;
        alone = other_here s.views id (taking v kept.log) (λ k u ne. free.nobody k u);
      });
      fits = fit_set start kept.log s.views id (taking v kept.log) (λ j u ne. kept.fits j u) (fits_taking start kept.log v fit);
      apart = apart_set start s.views id (taking v kept.log) kept.apart (λ j u ne there live. apart_again start v u v.shares kept.log v.told true (beside s kept id v at rests.live j u ne there live));
      shares = let t = shares_set s.views id v (taking v kept.log) at in let k = kept.shares in omega (arith, t, k);
      whole = whole_new kept.log s.views id v (taking v kept.log) at rests.live (ap (λ l. longer kept.log l) rests.quiet ∙ longer_alone kept.log);
    }

    hit : found ≡ 0 → Next (seat + 1)
    hit zero_is = elim kept.held [
      | inl free ↦ (
        taking v kept.log,
        takes 0 (Some free.machine),
        ap (λ hs. get_elem? hs 0) free.home,
        took free,
        (
          (λ _. (
            free.machine,
            record {
              is = refl;
              seen = fit.seen;
              fits = subst (λ z. Fits z kept.log (taking v kept.log)) (sym fit.same) (fits_taking start kept.log v fit);
              after = subst (λ (z : Began W V). IsAfter z.machine free.machine kept.log) (sym fit.same) free.after;
            },
            refl,
          )),
          λ ne. absurd (ne zero_is),
        ),
      )
      | inr taken ↦ let w = taken.word in absurd (omega (arith, w, named, zero_is))
    ]

    miss : found ≢ 0 → Next found
    miss ne = (v, keeps, tt, same_again s 0 id v kept at, ((λ zero_is. absurd (ne zero_is)), λ _. refl))

    takes_here : Next (either (found == 0) (seat + 1) found)
    takes_here = exchanged found 0 (seat + 1) Next hit miss

  pub takes_turn : (slots id seat : ℕ) (me : Mine) → IsResting me.0 → first_of me.0.seats ≡ seat → Allows (IsKept start) slots id me 0 (λ n. either (n == 0) (seat + 1) n) (Takes (step slots 0 0 (seat + 1) none) me)
  takes_turn slots id seat me rests own s kept long at small = takes_here slots id seat me.0 me.1 rests own s kept at

  -- A look at the turn, which changes nothing
  pub peeks_turn : (slots id : ℕ) (me : Mine) → Allows (IsKept start) slots id me 0 (λ n. n) (Peeks (step slots 0 0 0 none) me)
  peeks_turn slots id me s kept long at small = (me.0, keeps, tt, same_again s 0 id me.0 kept at, refl)

  -- Step 5, which counts an event and notes it
  pub notes_event : (slots id : ℕ) (v : Sight W V) (out : List (ℕ × Slot)) (n : Noted W) (count : ℕ) → IsLive v → v.holds ≡ true → v.others ≡ [] → v.told ≡ [] → MayNote v n → count ≡ length v.seen + 1
      → Allows (IsKept start) slots id (v, out) 1 (λ _. count) (λ _. Notes n (step slots 1 count 0 none) (v, out) count)
  notes_event slots id v out n count live holds alone quiet may counted s kept long at small =
      let h = holder s id v kept at holds in
      let fit : Fits start kept.log v = kept.fits id v at live in
      let w : Sight W V = noting v n in
      let log : List (Noted W) = kept.log ++ n ∷ [] in
      let all : v.seen ≡ kept.log = h.all in
      let larger : count ≡ length log = let l : length v.seen ≡ length kept.log = ap length all in omega (arith, counted, l, length-append kept.log (n ∷ [])) in
      let beyond : (j : ℕ) (u : Sight W V) → j ≢ id → At s.views j u → IsLive u → Fits start log u = λ j u ne there live_u.
      let b = beside s kept id v at live j u ne there live_u in
      fits_beside start kept.log n u (kept.fits j u there live_u)
      (λ is. b.0.seats n.event.seat (inl may.mine) is)
      (b.0.given n.event.seat (inl may.mine))
      (λ d at_d pair theirs. b.0.seats d.event.seat (inl (may.back d (subst (λ l. Contains l d) (sym all) at_d) pair)) theirs)
      (λ r at_r. may.lent r (subst (λ l. Contains l r) (sym all) at_r)) in (
        w,
        keeps,
        tt,
        record {
          log = log;
          turn = kept.turn;
          words = ap (λ ws. set ws 1 count) kept.words ∙ ap (λ k. kept.turn ∷ k ∷ []) larger;
          held = inr (record {
            place = id;
            holder = w;
            there = set_here s.views id w (at_within s.views id v at);
            live = live;
            holds = holds;
            word = h.taken.word ∙ ap (λ (z : Sight W V). suc (first_of z.seats)) (one_there s.views id h.taken.holder v (subst (λ k. At s.views k h.taken.holder) h.here h.taken.there) at);
            seen = ap (λ l. l ++ n ∷ []) all;
            away = h.taken.away;
            alone = other_here s.views id w (λ k u ne. h.taken.alone k u (λ e. ne (e ∙ h.here)));
          });
          fits = fit_set start log s.views id w beyond (fits_noting start kept.log n v fit all alone may);
          apart = apart_set start s.views id w kept.apart (λ j u ne there live_u. apart_again start v u v.shares (v.seen ++ n ∷ []) v.told v.holds (beside s kept id v at live j u ne there live_u));
          shares = let t = shares_set s.views id v w at in let k = kept.shares in omega (arith, t, k);
          whole = whole_new log s.views id v w at live (ap (λ l. longer (v.seen ++ n ∷ []) l) quiet ∙ (longer_alone (v.seen ++ n ∷ []) ∙ ap (λ l. l ++ n ∷ []) all));
        },
        refl,
      )

  -- Step 7, which gives the machine back and leaves the turn
  leaves_here : (slots id : ℕ) (v : Sight W V) (machine : Account W V) → IsLive v → v.holds ≡ true → IsAfter v.start.machine machine v.seen
      → Allows (IsKept start) slots id (v, (0, Some machine) ∷ []) 0 (λ _. 0) (λ _. Leaves (step slots 0 0 0 none) (v, (0, Some machine) ∷ []) 0)
  leaves_here slots id v machine live holds after s kept long at small =
      let h = holder s id v kept at holds in
      let fit : Fits start kept.log v = kept.fits id v at live in
      let w : Sight W V = leaving v in (
        w,
        gives,
        tt,
        record {
          log = kept.log;
          turn = 0;
          words = ap (λ ws. set ws 0 0) kept.words;
          held = inl (record {
            word = refl;
            machine = machine;
            home = ap (λ hs. set hs 0 (some (Some machine))) h.taken.away;
            after = subst (λ l. IsAfter start.machine machine l) h.all (subst (λ (z : Began W V). IsAfter z.machine machine v.seen) fit.same after);
            nobody = none_set s.views id w (λ k u ne. h.taken.alone k u (λ e. ne (e ∙ h.here))) refl;
          });
          fits = fit_set start kept.log s.views id w (λ j u ne. kept.fits j u) (fits_leaving start kept.log v fit);
          apart = apart_set start s.views id w kept.apart (λ j u ne there live_u. apart_again start v u v.shares v.seen v.told false (beside s kept id v at live j u ne there live_u));
          shares = let t = shares_set s.views id v w at in let k = kept.shares in omega (arith, t, k);
          whole = whole_set kept.log s.views id v w at kept.whole (λ is_live all. (is_live, all));
        },
        refl,
      )

  pub leaves_turn : (slots id : ℕ) (me : Mine) (machine : Account W V) → IsLive me.0 → me.0.holds ≡ true → IsAfter me.0.start.machine machine me.0.seen → me.1 ≡ (0, Some machine) ∷ []
      → Allows (IsKept start) slots id me 0 (λ _. 0) (λ _. Leaves (step slots 0 0 0 none) me 0)
  leaves_turn slots id me machine live holds after out =
      subst (λ cs. Allows (IsKept start) slots id (me.0, cs) 0 (λ _. 0) (λ _. Leaves (step slots 0 0 0 none) (me.0, cs) 0)) (sym out) (leaves_here slots id me.0 machine live holds after)

  -- Step 1, which gives a share and the least number left to a newcomer
  pub splits_seat : (id : ℕ) (v : Sight W V) → IsResting v → v.next < v.start.seats → Splits (IsKept start) id v (given_away v) (newcomer v)
  splits_seat id v rests some_left s kept at =
      let fit : Fits start kept.log v = kept.fits id v at rests.live in
      let count : v.start.seats ≡ start.seats = ap (λ (z : Began W V). z.seats) fit.same in
      let left : v.next < start.seats = omega (arith, some_left, count) in
      let more : start.seats < v.next + v.shares = fit.more in
      let still : IsLive (given_away v) = omega (arith, more, left) in
      let one : List (Sight W V) = set s.views id (given_away v) in
      let halves = apart_halves start kept.log v fit left in
      let fits_one = fit_set start kept.log s.views id (given_away v) (λ j u ne. kept.fits j u) (fits_given_away start kept.log v fit left) in
      let apart_one = apart_set start s.views id (given_away v) kept.apart (λ j u ne there live_u. apart_given start v u left (beside s kept id v at rests.live j u ne there live_u)) in
      let held_one = held_set s id v (given_away v) s.words kept.turn kept.log at rests.outside rests.outside kept.held in
      record {
        log = kept.log;
        turn = kept.turn;
        words = kept.words;
        held = held_push (record { words = s.words; homes = s.homes; views = one }) (newcomer v) kept.turn kept.log refl held_one;
        fits = fit_push start kept.log one (newcomer v) fits_one (fits_newcomer start kept.log v fit left);
        apart = apart_push start one (newcomer v) apart_one (λ j u there live_u.
            elim (at_set s.views id j (given_away v) u there) [
              | inl here ↦ subst (λ z. Both start.seats (newcomer v) z) here.1 (turned start (given_away v) (newcomer v) halves)
              | inr old ↦ apart_newcomer start kept.log v u fit (kept.fits j u old.1 live_u) left (beside s kept id v at rests.live j u old.0 old.1 live_u)
            ]);
        shares = let t = shares_set s.views id v (given_away v) at in let p = shares_push one (newcomer v) in let k = kept.shares in omega (arith, t, p, k, more, left);
        whole = whole_push kept.log one (newcomer v) (whole_set kept.log s.views id v (given_away v) at kept.whole (λ _ all. (still, all)));
      }

  -- Step 2: one is told of another, which is spent
  module _ (id other : ℕ) (v w : Sight W V) (rests : IsResting v) (rested : IsResting w) (s : Table) (kept : IsKept start s) (at : At s.views id v) (ne : other ≢ id) (there : At s.views other w) where
    abbrev both : Sight W V
    both = joining v w

    abbrev between : List (Sight W V)
    between = set s.views id both

    abbrev views : List (Sight W V)
    views = set between other spent

    fit_v : Fits start kept.log v
    fit_v = kept.fits id v at rests.live

    fit_w : Fits start kept.log w
    fit_w = kept.fits other w there rested.live

    two : Both start.seats v w
    two = beside s kept id v at rests.live other w ne there rested.live

    there_between : At between other w
    there_between = set_else s.views id other both ne ∙ there

    -- who is live now
    look : (k : ℕ) (u : Sight W V) → At views k u → IsLive u → ((k ≡ id) × (both ≡ u)) ⊎ ((k ≢ id) × (k ≢ other) × At s.views k u)
    look k u at_u live_u = elim (at_set between other k spent u at_u) [
      | inl here ↦ let none : 0 ≡ u.shares = ap (λ (z : Sight W V). z.shares) here.1 in absurd (omega (arith, none, live_u))
      | inr far ↦ elim (at_set s.views id k both u far.1) [
        | inl here ↦ inl here
        | inr old ↦ inr (old.0, far.0, old.1)
      ]
    ]

    fits_all : (k : ℕ) (u : Sight W V) → At views k u → IsLive u → Fits start kept.log u
    fits_all k u at_u live_u = elim (look k u at_u live_u) [
      | inl here ↦ subst (Fits start kept.log) here.1 (fits_joining start kept.log v w fit_v fit_w two.0 two.1 rests.alone rested.alone)
      | inr old ↦ kept.fits k u old.2 live_u
    ]

    with_both : (k : ℕ) (u : Sight W V) → k ≢ id → k ≢ other → At s.views k u → IsLive u → Both start.seats both u
    with_both k u far away at_u live_u = apart_joining start v w u (beside s kept id v at rests.live k u far at_u live_u) (beside s kept other w there rested.live k u away at_u live_u)

    apart_all : (k l : ℕ) (one those : Sight W V) → k ≢ l → At views k one → At views l those → IsLive one → IsLive those → AreApart start.seats one those
    apart_all k l one those differ at_k at_l live_k live_l = elim (look k one at_k live_k) [
      | inl here ↦ elim (look l those at_l live_l) [
        | inl too ↦ absurd (differ (here.0 ∙ sym too.0))
        | inr old ↦ subst (λ z. AreApart start.seats z those) here.1 (with_both l those old.0 old.1 old.2 live_l).0
      ]
      | inr old ↦ elim (look l those at_l live_l) [
        | inl here ↦ subst (λ z. AreApart start.seats one z) here.1 (with_both k one old.0 old.1 old.2 live_k).1
        | inr also ↦ kept.apart k l one those differ old.2 also.2 live_k live_l
      ]
    ]

    live_both : IsLive both
    live_both = let a = rests.live in omega (arith, a)

    whole_all : IsWhole kept.log views
    whole_all =
        let whole = kept.whole in
        let here : longer both.seen both.told ≡ kept.log → IsWhole kept.log views = λ all. record {
          place = id;
          sight = both;
          there = set_else between other id spent (λ e. ne (sym e)) ∙ set_here s.views id both (at_within s.views id v at);
          live = live_both;
          seen = all;
        } in
        let only : (u : Sight W V) → IsResting u → longer u.seen u.told ≡ kept.log → u.seen ≡ kept.log = λ u rest all. sym (longer_alone u.seen) ∙ (sym (ap (λ l. longer u.seen l) rest.quiet) ∙ all) in
        elim (cases_eq whole.place id) [
          | inl mine ↦
              let is : whole.sight ≡ v = one_there s.views id whole.sight v (subst (λ k. At s.views k whole.sight) mine whole.there) at in
              here (longer_first w.seats v.seen w.seen kept.log (only v rests (subst (λ (z : Sight W V). longer z.seen z.told ≡ kept.log) is whole.seen)) fit_w.seen)
          | inr far ↦ elim (cases_eq whole.place other) [
            | inl theirs ↦
                let is : whole.sight ≡ w = one_there s.views other whole.sight w (subst (λ k. At s.views k whole.sight) theirs whole.there) there in
                here (longer_second v.seats v.seen w.seen kept.log fit_v.seen (only w rested (subst (λ (z : Sight W V). longer z.seen z.told ≡ kept.log) is whole.seen)))
            | inr away ↦ record {
              place = whole.place;
              sight = whole.sight;
              there = set_else between other whole.place spent away ∙ (set_else s.views id whole.place both far ∙ whole.there);
              live = whole.live;
              seen = whole.seen;
            }
          ]
        ]

    joins_here : IsKept start (record { words = s.words; homes = s.homes; views = views })
    joins_here =
        record {
          log = kept.log;
          turn = kept.turn;
          words = kept.words;
          held = held_set (record { words = s.words; homes = s.homes; views = between }) other w spent s.words kept.turn kept.log there_between rested.outside refl (held_set s id v both s.words kept.turn kept.log at rests.outside rests.outside kept.held);
          fits = fits_all;
          apart = apart_all;
          shares = let t = shares_set s.views id v both at in let u = shares_set between other w spent there_between in let k = kept.shares in omega (arith, t, u, k);
          whole = whole_all;
        }

  pub joins_seats : (id other : ℕ) (v w : Sight W V) → IsResting v → IsResting w → Joins (IsKept start) id v other w (joining v w) spent
  joins_seats id other v w rests rested s kept at ne later =
      joins_here id other v w rests rested s kept at ne (sym (set_else s.views id other (joining v w) ne) ∙ later)

  -- the load that ends a join
  pub tells_joined : (slots id : ℕ) (v : Sight W V) (out : List (ℕ × Slot)) → IsLive v → v.holds ≡ false → Allows (IsKept start) slots id (v, out) 0 (λ n. n) (JoinTells (step slots 0 0 0 none) (v, out))
  tells_joined slots id v out live outside s kept long at small =
      let fit : Fits start kept.log v = kept.fits id v at live in
      let w : Sight W V = joined v in
      let m = merged v.seats v.others v.seen v.told kept.log fit.seen fit.told in
      let words : set s.words 0 (slice_index s.words 0) ≡ s.words = set_same s.words 0 in (
        w,
        keeps,
        tt,
        record {
          log = kept.log;
          turn = kept.turn;
          words = words ∙ kept.words;
          held = held_set s id v w (set s.words 0 (slice_index s.words 0)) kept.turn kept.log at outside outside kept.held;
          fits = fit_set start kept.log s.views id w (λ j u ne. kept.fits j u) (fits_joined start kept.log v fit);
          apart = apart_set start s.views id w kept.apart (λ j u ne there live_u. apart_joined start v u (beside s kept id v at live j u ne there live_u));
          shares = let t = shares_set s.views id v w at in let k = kept.shares in omega (arith, t, k);
          whole = whole_set kept.log s.views id v w at kept.whole (λ is_live all. (is_live, longer_alone (longer v.seen v.told) ∙ all));
        },
        (
          record {
            is = refl;
            seen = m.first;
            told = m.second;
            fits = subst (λ z. Fits z w.seen w) (sym fit.same) (fits_front start kept.log w (fits_joined start kept.log v fit) refl refl);
          },
          refl,
        ),
      )

  -- the start
  pub opens : (machine : Account W V) → 0 < start.seats → machine ≡ start.machine → IsKept start (opening (0 ∷ 0 ∷ []) (Some machine ∷ []) (first_sight start))
  opens machine some_seat is = record {
    log = [];
    turn = 0;
    words = refl;
    held = inl (record {
      word = refl;
      machine = machine;
      home = refl;
      after = record { plan = ap (λ (m : Account W V). m.plan) is ∙ sym (append-nil start.machine.plan); opening = ap (λ (m : Account W V). m.opening) is; history = ap (λ (m : Account W V). m.history) is ∙ sym (append-nil start.machine.history) };
      nobody = λ k u at. let e = (one k u at).1 in ap (λ (z : Sight W V). z.holds) (sym e);
    });
    fits = λ k u at live. subst (Fits start []) (one k u at).1 (fits_first start some_seat);
    apart = λ k l u w ne at_k at_l live live'. absurd (ne ((one k u at_k).0 ∙ sym (one l w at_l).0));
    shares = omega arith;
    whole = record { place = 0; sight = first_sight start; there = refl; live = some_seat; seen = refl };
  }
    where
      one : (k : ℕ) (u : Sight W V) → At (first_sight start ∷ []) k u → (k ≡ 0) × (first_sight start ≡ u)
      one zero u at = (refl, some-injective (first_sight start) u at)
      one (suc k) u at = absurd (some-ne-none u (sym at))

  -- the end, for the one who has all shares: the machine is at home, after all that this one has seen
  pub closes : (id : ℕ) (v : Sight W V) (words : List ℕ) (slots : List Slot) → IsResting v → v.shares ≡ v.start.seats → Final (Seen (IsKept start) id v) words slots
      → (machine : Account W V) × (get_elem? slots 0 ≡ some (Some machine)) × IsAfter v.start.machine machine v.seen
  closes id v words slots rests all (s, (kept, at), is_words, count, homes) =
      let fit : Fits start kept.log v = kept.fits id v at rests.live in
      let full : v.shares ≡ start.seats = all ∙ ap (λ (z : Began W V). z.seats) fit.same in
      let only : (k : ℕ) (u : Sight W V) → At s.views k u → IsLive u → k ≡ id = λ k u at_u live_u.
      elim (cases_eq k id) [
        | inl e ↦ e
        | inr ne ↦ let t = shares_two s.views k id u v ne at_u at in let m = kept.shares in absurd (omega (arith, t, m, full, live_u))
      ] in
      let whole = kept.whole in
      let here : whole.place ≡ id = only whole.place whole.sight whole.there whole.live in
      let is : whole.sight ≡ v = one_there s.views id whole.sight v (subst (λ k. At s.views k whole.sight) here whole.there) at in
      let seen : v.seen ≡ kept.log = sym (longer_alone v.seen) ∙ (sym (ap (λ l. longer v.seen l) rests.quiet) ∙ subst (λ (z : Sight W V). longer z.seen z.told ≡ kept.log) is whole.seen) in
      elim kept.held [
        | inl free ↦ (
          free.machine,
          homes 0 (Some free.machine) (ap (λ hs. get_elem? hs 0) free.home),
          subst (λ l. IsAfter v.start.machine free.machine l) (sym seen) (subst (λ (z : Began W V). IsAfter z.machine free.machine kept.log) (sym fit.same) free.after),
        )
        | inr taken ↦ absurd (elsewhere s id v kept.turn kept.log at rests.outside taken (only taken.place taken.holder taken.there taken.live))
      ]
