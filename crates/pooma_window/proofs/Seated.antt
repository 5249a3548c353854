-- How the passes of workers are dealt, kept by their loops and gathered, and what the one that is gathered has seen.
use Rattle.std.proofs.Common.{◌≡◌, ◌==◌, ◌<◌, ◌≤◌, ◌+◌, ◌-◌, ◌⊎◌, inl, inr, ℕ, zero, suc, true, List, [], ◌∷◌, ◌++◌, All, Option, None, Some, length, drop, take, get_or, Contains, refl, sym, ap, ◌∙◌, subst, arith, append-nil, eq-eqb}
use Rattle.std.specs.List.{range_with_len, AllZip}
use Rattle.std.proofs.lemmas.Bool.{cases_lt}
use Rattle.std.proofs.lemmas.List.{length-append, drop_all, take_all}
use Rattle.std.proofs.lemmas.List.FromFn.{length-range_with_len}
use Rattle.std.proofs.lemmas.List.Elements.{Contains-append_cases, Contains-get_or}
use Rattle.pooma_logic.proofs.Elements.{contains_first, contains_image, contains_none, contains_rest}
use Rattle.pooma_logic.proofs.Tested.{any_of_both, any_of_first, any_of_left, any_of_right, contains_kept, kept_passes}
use Rattle.pooma_machine.specs.declared.step.Event.{Event}
use Rattle.pooma_machine.specs.Steps.{IsLegal}
use Rattle.pooma_machine.specs.Values.{Account, Meaning, IsComplete, asks_of}
use Rattle.pooma_machine.specs.Journal.{window_of}
use Rattle.pooma_machine.specs.Told.{Window}
use Rattle.pooma_desk.specs.declared.sight.Noted.{Noted}
use Rattle.pooma_desk.specs.Rule.{first_of}
use Rattle.pooma_desk.specs.Seen.{is_one_of, events_of, works_of}
use Rattle.pooma_desk.specs.Tokens.{Started, Token, GoesOn, own_calls, seats_of, plan_of, history_of, keeping, newly}
use Rattle.pooma_worker.specs.Working.{Works, calls_of}
use Rattle.pooma_window.specs.Workers.{AsksNothing, IsWorkers, HasPass, IsSeated, HasWorker, StaysSeated, IsShared}

-- a loop adds no request
calls_without : {W : Type 0} (seat : ℕ) (entries : List ℕ) (n : Noted W) → Contains (calls_of seat entries) n → n.work ≡ None
calls_without {W} seat [] n there = absurd (contains_none n there)
calls_without {W} seat (j ∷ js) n (zero, h, e) = ap (λ (z : Noted W). z.work) (sym e)
calls_without {W} seat (j ∷ js) n (suc zero, h, e) = ap (λ (z : Noted W). z.work) (sym e)
calls_without {W} seat (j ∷ js) n (suc (suc k), h, e) = calls_without seat js n (k, omega arith, e)

-- the numbers from one on are that one and those from the next on
numbers_from : (a n rest : ℕ) → n ≡ suc rest → range_with_len a n ≡ a ∷ range_with_len (suc a) rest
numbers_from a n rest is = rw is (ap (λ k. a ∷ range_with_len k rest) next)
  where
    next : a + 1 ≡ suc a
    next = omega arith

-- without requests among these, no work is added
works_without : {W : Type 0} (seen : List (Noted W)) → ((n : Noted W) → Contains seen n → n.work ≡ None) → works_of seen ≡ []
works_without [] none = refl
works_without (n ∷ seen) none = rw (none n (contains_first n seen)) (works_without seen (λ m there. none m (contains_rest n seen m there)))

-- the seats of all events, those at the start and those since
pub seats_below : {W : Type 0} (before : List Event) (seen : List (Noted W)) (seats : ℕ) → All (λ (e : Event). e.seat < seats) before → ((n : Noted W) → Contains seen n → n.event.seat < seats) → All (λ (e : Event). e.seat < seats) (before ++ events_of seen)
seats_below [] seen seats all named k d within =
    let n = contains_image (λ (m : Noted _). m.event) seen (get_or (events_of seen) k d) (Contains-get_or (events_of seen) k d within) in
    subst (λ (e : Event). e.seat < seats) (sym n.2) (named n.0 n.1)
seats_below (e ∷ before) seen seats all named zero d within = all 0 d (omega arith)
seats_below (e ∷ before) seen seats all named (suc k) d within = seats_below before seen seats (λ i e h. all (suc i) e (omega arith)) named k d (omega arith)

-- what is written back over the whole of a slice is the whole of it
pub whole_written : {X : Type 0} (n : ℕ) (new old : List X) → length new ≡ length old → length old ≤ n → take n (new ++ drop (length new) old) ≡ new
whole_written n new old same within = rw (drop_all (length new) old (omega arith), append-nil new) (take_all n new (omega arith))

module _ {W V : Type 0} where
  pub quiet_at_first : (pass : Token W V) → own_calls pass ≡ [] → AsksNothing pass
  quiet_at_first pass none n there = absurd (contains_none n (subst (λ l. Contains l n) none there))

  pub still_quiet : (a b : Token W V) → Works a b → AsksNothing a → AsksNothing b
  still_quiet a b works quiet n there = by (Contains-append_cases (own_calls a) (calls_of a.seat works.entries) n (subst (λ l. Contains l n) works.own there))
    where
      by : Contains (own_calls a) n ⊎ Contains (calls_of a.seat works.entries) n → n.work ≡ None
      by (inl old) = quiet n old
      by (inr new) = calls_without a.seat works.entries n new

  pub still_seated : (desk : Started W V) (old new : Option (Token W V)) (a b : Token W V) → old ≡ Some a → new ≡ Some b → HasPass desk old → Works a b → StaysSeated desk old new
  still_seated desk old new a b was is has works =
      let p : IsWorkers desk a = subst (HasPass desk) was has in (
        subst (HasPass desk) (sym is) (record { from = works.same.from ∙ p.from; share = works.same.shares ∙ p.share; quiet = still_quiet a b works p.quiet }),
        λ seat here. subst (IsSeated seat) (sym is) (works.same.seat ∙ subst (IsSeated seat) was here),
      )

  -- of all places
  pub all_pass : (desk : Started W V) (olds news : List (Option (Token W V))) → AllZip (StaysSeated desk) olds news → All (HasPass desk) news
  all_pass desk [] [] each k d within = absurd (omega arith)
  all_pass desk [] (new ∷ news) each k d within = absurd each
  all_pass desk (old ∷ olds) [] each k d within = absurd each
  all_pass desk (old ∷ olds) (new ∷ news) each zero d within = each.0.0
  all_pass desk (old ∷ olds) (new ∷ news) each (suc k) d within = all_pass desk olds news each.1 k d (omega arith)

  pub all_there : (desk : Started W V) (olds news : List (Option (Token W V))) → AllZip (StaysSeated desk) olds news → length news ≡ length olds
  all_there desk [] [] each = refl
  all_there desk [] (new ∷ news) each = absurd each
  all_there desk (old ∷ olds) [] each = absurd each
  all_there desk (old ∷ olds) (new ∷ news) each = ap suc (all_there desk olds news each.1)

  pub all_seated : (desk : Started W V) (olds news : List (Option (Token W V))) → AllZip (StaysSeated desk) olds news → (seat : ℕ) → HasWorker olds seat → HasWorker news seat
  all_seated desk [] [] each seat here = absurd here
  all_seated desk [] (new ∷ news) each seat here = absurd each
  all_seated desk (old ∷ olds) [] each seat here = absurd each
  all_seated desk (old ∷ olds) (new ∷ news) each seat (inl here) = inl (each.0.1 seat here)
  all_seated desk (old ∷ olds) (new ∷ news) each seat (inr here) = inr (all_seated desk olds news each.1 seat here)

  pub stays_at : (desk : Started W V) (before old after new : Option (Token W V)) → before ≡ old → after ≡ new → StaysSeated desk before after → StaysSeated desk old new
  stays_at desk before old after new was is stays = subst (λ o. StaysSeated desk o new) was (subst (StaysSeated desk before) is stays)

  pub zip_each : (desk : Started W V) (olds news : List (Option (Token W V))) → length news ≡ length olds → ((k : ℕ) → k < length olds → StaysSeated desk (get_or olds k None) (get_or news k None)) → AllZip (StaysSeated desk) olds news
  zip_each desk [] [] same each = tt
  zip_each desk [] (new ∷ news) same each = absurd (omega arith)
  zip_each desk (old ∷ olds) [] same each = absurd (omega arith)
  zip_each desk (old ∷ olds) (new ∷ news) same each = (each 0 (omega arith), zip_each desk olds news (omega arith) (λ k within. each (suc k) (omega arith)))

  -- a place behind others
  pub worker_before : (places more : List (Option (Token W V))) (seat : ℕ) → HasWorker places seat → HasWorker (places ++ more) seat
  worker_before [] more seat here = absurd here
  worker_before (place ∷ places) more seat (inl here) = inl here
  worker_before (place ∷ places) more seat (inr here) = inr (worker_before places more seat here)

  pub worker_last : (places : List (Option (Token W V))) (place : Option (Token W V)) (seat : ℕ) → IsSeated seat place → HasWorker (places ++ place ∷ []) seat
  worker_last [] place seat here = inl here
  worker_last (other ∷ places) place seat here = inr (worker_last places place seat here)

  worker_where : (places : List (Option (Token W V))) (place : Option (Token W V)) (seat : ℕ) → HasWorker (places ++ place ∷ []) seat → HasWorker places seat ⊎ IsSeated seat place
  worker_where [] place seat (inl here) = inr here
  worker_where [] place seat (inr here) = absurd here
  worker_where (other ∷ places) place seat (inl here) = inl (inl here)
  worker_where (other ∷ places) place seat (inr here) = by (worker_where places place seat here)
    where
      by : HasWorker places seat ⊎ IsSeated seat place → HasWorker (other ∷ places) seat ⊎ IsSeated seat place
      by (inl before) = inl (inr before)
      by (inr last) = inr last

  -- so many passes were split off
  pub record HasDealt (desk : Started W V) (seats : ℕ) (places : List (Option (Token W V))) (first : Token W V) : Type 0 where
    pub from : first.from ≡ desk
    pub seat : first.seat ≡ 0
    pub shares : first.shares + length places ≡ seats
    pub left : first.left ≡ range_with_len (suc (length places)) (seats - suc (length places))
    pub quiet : own_calls first ≡ []
    pub passes : All (HasPass desk) places
    pub workers : (seat : ℕ) → 0 < seat → seat ≤ length places → HasWorker places seat

  pub none_dealt : (desk : Started W V) (seats : ℕ) (first : Token W V) → first.from ≡ desk → first.seat ≡ 0 → first.shares ≡ seats → first.left ≡ range_with_len 1 (seats - 1) → own_calls first ≡ [] → HasDealt desk seats [] first
  none_dealt desk seats first from seat shares left quiet =
      record {
        from = from;
        seat = seat;
        shares = omega arith;
        left = left;
        quiet = quiet;
        passes = λ k d within. absurd (omega arith);
        workers = λ seat some few. absurd (omega arith);
      }

  pub some_left : (desk : Started W V) (seats : ℕ) (places : List (Option (Token W V))) (first : Token W V) → HasDealt desk seats places first → suc (length places) < seats → 0 < length first.left
  some_left desk seats places first dealt more = let n = ap length dealt.left ∙ length-range_with_len (suc (length places)) (seats - suc (length places)) in omega arith

  all_and_last : (P : Option (Token W V) → Type 0) (places : List (Option (Token W V))) (place : Option (Token W V)) → All P places → P place → All P (places ++ place ∷ [])
  all_and_last P [] place all last zero d within = last
  all_and_last P [] place all last (suc k) d within = absurd (omega arith)
  all_and_last P (other ∷ places) place all last zero d within = all 0 d (omega arith)
  all_and_last P (other ∷ places) place all last (suc k) d within = all_and_last P places place (λ k d h. all (suc k) d (omega arith)) last k d (omega arith)

  one_dealt : (desk : Started W V) (seats : ℕ) (places : List (Option (Token W V))) (first kept other : Token W V) → HasDealt desk seats places first → suc (length places) < seats → kept ≡ keeping first → other ≡ newly first → own_calls other ≡ [] → HasDealt desk seats (places ++ Some other ∷ []) kept
  one_dealt desk seats places first kept other dealt more is_kept is_new alone =
      let k = length places in
      let count : length (places ++ Some other ∷ []) ≡ suc k = length-append places (Some other ∷ []) ∙ omega arith in
      let left : first.left ≡ suc k ∷ range_with_len (suc (suc k)) (seats - suc (suc k)) = dealt.left ∙ numbers_from (suc k) (seats - suc k) (seats - suc (suc k)) (omega arith) in
      let seat : other.seat ≡ suc k = ap (λ (t : Token W V). t.seat) is_new ∙ ap first_of left in
      record {
        from = ap (λ (t : Token W V). t.from) is_kept ∙ dealt.from;
        seat = ap (λ (t : Token W V). t.seat) is_kept ∙ dealt.seat;
        shares = (let s = ap (λ (t : Token W V). t.shares) is_kept in let d = dealt.shares in omega arith);
        left = subst (λ m. kept.left ≡ range_with_len (suc m) (seats - suc m)) (sym count) (ap (λ (t : Token W V). t.left) is_kept ∙ ap (drop 1) left);
        quiet = ap own_calls is_kept ∙ dealt.quiet;
        passes = all_and_last (HasPass desk) places (Some other) dealt.passes (record { from = ap (λ (t : Token W V). t.from) is_new ∙ dealt.from; share = ap (λ (t : Token W V). t.shares) is_new; quiet = quiet_at_first other alone });
        workers = λ number some few. by number seat (cases_lt k number) some (subst (λ m. number ≤ m) count few);
      }
    where
      by : (number : ℕ) → other.seat ≡ suc (length places) → (length places < number) ⊎ (number ≤ length places) → 0 < number → number ≤ suc (length places) → HasWorker (places ++ Some other ∷ []) number
      by number seat (inl above) some few = worker_last places (Some other) number (seat ∙ omega arith)
      by number seat (inr within) some few = worker_before places (Some other ∷ []) number (dealt.workers number some within)

  pub next_dealt : (desk : Started W V) (seats counter : ℕ) (places items : List (Option (Token W V))) (place : Option (Token W V)) (first kept other : Token W V)
      → HasDealt desk seats places first × (suc (length places) ≡ counter) → counter < seats
      → kept ≡ keeping first → other ≡ newly first → own_calls other ≡ []
      → items ≡ places ++ place ∷ [] → place ≡ Some other
      → HasDealt desk seats items kept × (suc (length items) ≡ counter + 1)
  next_dealt desk seats counter places items place first kept other (dealt, count) more is_kept is_new alone grown here =
      let is : items ≡ places ++ Some other ∷ [] = grown ∙ ap (λ p. places ++ p ∷ []) here in
      let one_more = ap length is ∙ length-append places (Some other ∷ []) in (
        subst (λ l. HasDealt desk seats l kept) (sym is) (one_dealt desk seats places first kept other dealt (omega arith) is_kept is_new alone),
        omega arith,
      )

  -- all passes were dealt, the first last
  pub all_dealt : (desk : Started W V) (seats : ℕ) (places items : List (Option (Token W V))) (place : Option (Token W V)) (first : Token W V) → HasDealt desk seats places first → suc (length places) ≡ seats
      → items ≡ places ++ place ∷ [] → place ≡ Some first
      → (length items ≡ seats) × All (HasPass desk) items × ((seat : ℕ) → seat < seats → HasWorker items seat)
  all_dealt desk seats places items place first dealt all grown here =
      let is : items ≡ places ++ Some first ∷ [] = grown ∙ ap (λ p. places ++ p ∷ []) here in (
        ap length is ∙ (length-append places (Some first ∷ []) ∙ omega arith),
        subst (All (HasPass desk)) (sym is) (all_and_last (HasPass desk) places (Some first) dealt.passes (record { from = dealt.from; share = (let d = dealt.shares in omega arith); quiet = quiet_at_first first dealt.quiet })),
        λ seat within. subst (λ l. HasWorker l seat) (sym is) (each seat within),
      )
    where
      each : (seat : ℕ) → seat < seats → HasWorker (places ++ Some first ∷ []) seat
      each zero within = worker_last places (Some first) 0 dealt.seat
      each (suc seat) within = worker_before places (Some first ∷ []) (suc seat) (dealt.workers (suc seat) (omega arith) (omega arith))

  -- of all these places some were gathered into this pass, and these are left
  pub record HasGathered (desk : Started W V) (all rest : List (Option (Token W V))) (pass : Token W V) : Type 0 where
    pub from : pass.from ≡ desk
    pub shares : pass.shares + length rest ≡ length all
    pub seats : (seat : ℕ) → HasWorker all seat → HasWorker rest seat ⊎ (is_one_of (seats_of pass) seat ≡ true)
    pub quiet : AsksNothing pass
    pub passes : All (HasPass desk) rest

  all_before : (P : Option (Token W V) → Type 0) (places : List (Option (Token W V))) (place : Option (Token W V)) → All P (places ++ place ∷ []) → All P places
  all_before P [] place all k d within = absurd (omega arith)
  all_before P (other ∷ places) place all zero d within = all 0 d (omega arith)
  all_before P (other ∷ places) place all (suc k) d within = all_before P places place (λ i e h. all (suc i) e (omega arith)) k d (omega arith)

  all_at_last : (P : Option (Token W V) → Type 0) (places : List (Option (Token W V))) (place : Option (Token W V)) → All P (places ++ place ∷ []) → P place
  all_at_last P [] place all = all 0 place (omega arith)
  all_at_last P (other ∷ places) place all = all_at_last P places place (λ i e h. all (suc i) e (omega arith))

  pub last_has_pass : (desk : Started W V) (all rest : List (Option (Token W V))) (place : Option (Token W V)) → all ≡ rest ++ place ∷ [] → All (HasPass desk) all → HasPass desk place
  last_has_pass desk all rest place is has = all_at_last (HasPass desk) rest place (subst (All (HasPass desk)) is has)

  seat_is_one : (pass : Token W V) (seat : ℕ) → pass.seat ≡ seat → is_one_of (seats_of pass) seat ≡ true
  seat_is_one pass seat is = subst (λ s. is_one_of (seats_of pass) s ≡ true) is (any_of_first (λ one. one == pass.seat) pass.seat pass.joined (eq-eqb pass.seat pass.seat refl))

  pub one_gathered : (desk : Started W V) (all rest : List (Option (Token W V))) (place : Option (Token W V)) (pass : Token W V) → all ≡ rest ++ place ∷ [] → place ≡ Some pass → All (HasPass desk) all → HasGathered desk all rest pass
  one_gathered desk all rest place pass is here has =
      let p : IsWorkers desk pass = subst (HasPass desk) here (last_has_pass desk all rest place is has) in
      record {
        from = p.from;
        shares = (let s = p.share in let n = ap length is ∙ length-append rest (place ∷ []) in omega arith);
        seats = λ seat there. by seat (worker_where rest place seat (subst (λ l. HasWorker l seat) is there));
        quiet = p.quiet;
        passes = all_before (HasPass desk) rest place (subst (All (HasPass desk)) is has);
      }
    where
      by : (seat : ℕ) → HasWorker rest seat ⊎ IsSeated seat place → HasWorker rest seat ⊎ (is_one_of (seats_of pass) seat ≡ true)
      by seat (inl there) = inl there
      by seat (inr last) = inr (seat_is_one pass seat (subst (IsSeated seat) here last))

  -- what a join makes of two passes
  pub record IsJoined (one other new : Token W V) : Type 0 where
    pub from : new.from ≡ one.from
    pub seat : new.seat ≡ one.seat
    pub joined : new.joined ≡ one.joined ++ other.seat ∷ other.joined
    pub shares : new.shares ≡ one.shares + other.shares
    pub calls : GoesOn one new.seen
    pub other_calls : GoesOn other new.seen

  seats_joined : (one other new : Token W V) → IsJoined one other new → seats_of new ≡ seats_of one ++ seats_of other
  seats_joined one other new j = ap (λ s. s ∷ new.joined) j.seat ∙ ap (λ l. one.seat ∷ l) j.joined

  quiet_joined : (one other new : Token W V) → IsJoined one other new → AsksNothing one → AsksNothing other → AsksNothing new
  quiet_joined one other new j quiet quiet_too n there = by (any_of_both (λ seat. seat == n.event.seat) (seats_of one) (seats_of other) (subst (λ l. is_one_of l n.event.seat ≡ true) (seats_joined one other new j) at.1))
    where
      at : Contains new.seen n × (is_one_of (seats_of new) n.event.seat ≡ true)
      at = kept_passes (λ (m : Noted W). is_one_of (seats_of new) m.event.seat) new.seen n there

      by : (is_one_of (seats_of one) n.event.seat ≡ true) ⊎ (is_one_of (seats_of other) n.event.seat ≡ true) → n.work ≡ None
      by (inl mine) = quiet n (subst (λ l. Contains l n) j.calls.own (contains_kept (λ (m : Noted W). is_one_of (seats_of one) m.event.seat) new.seen n at.0 mine))
      by (inr mine) = quiet_too n (subst (λ l. Contains l n) j.other_calls.own (contains_kept (λ (m : Noted W). is_one_of (seats_of other) m.event.seat) new.seen n at.0 mine))

  pub next_gathered : (desk : Started W V) (all rest less : List (Option (Token W V))) (place : Option (Token W V)) (one other new : Token W V) → HasGathered desk all rest one → rest ≡ less ++ place ∷ [] → place ≡ Some other → IsJoined one other new → HasGathered desk all less new
  next_gathered desk all rest less place one other new g is here j =
      let p : IsWorkers desk other = subst (HasPass desk) here (last_has_pass desk rest less place is g.passes) in
      record {
        from = j.from ∙ g.from;
        shares = (let s = p.share in let t = j.shares in let u = g.shares in let n = ap length is ∙ length-append less (place ∷ []) in omega arith);
        seats = λ seat there. by seat (g.seats seat there);
        quiet = quiet_joined one other new j g.quiet p.quiet;
        passes = all_before (HasPass desk) less place (subst (All (HasPass desk)) is g.passes);
      }
    where
      is_one : (seat : ℕ) → is_one_of (seats_of one ++ seats_of other) seat ≡ true → is_one_of (seats_of new) seat ≡ true
      is_one seat e = subst (λ l. is_one_of l seat ≡ true) (sym (seats_joined one other new j)) e

      last : (seat : ℕ) → HasWorker less seat ⊎ IsSeated seat place → HasWorker less seat ⊎ (is_one_of (seats_of new) seat ≡ true)
      last seat (inl there) = inl there
      last seat (inr at) = inr (is_one seat (any_of_right (λ one. one == seat) (seats_of one) (seats_of other) (seat_is_one other seat (subst (IsSeated seat) here at))))

      by : (seat : ℕ) → HasWorker rest seat ⊎ (is_one_of (seats_of one) seat ≡ true) → HasWorker less seat ⊎ (is_one_of (seats_of new) seat ≡ true)
      by seat (inl there) = last seat (worker_where less place seat (subst (λ l. HasWorker l seat) is there))
      by seat (inr mine) = inr (is_one seat (any_of_left (λ one. one == seat) (seats_of one) (seats_of other) mine))

  pub all_gathered : (desk : Started W V) (all : List (Option (Token W V))) (pass : Token W V) → HasGathered desk all [] pass → (seat : ℕ) → HasWorker all seat → is_one_of (seats_of pass) seat ≡ true
  all_gathered desk all pass g seat there = by (g.seats seat there)
    where
      by : HasWorker {W = W} {V = V} [] seat ⊎ (is_one_of (seats_of pass) seat ≡ true) → is_one_of (seats_of pass) seat ≡ true
      by (inl none) = absurd none
      by (inr mine) = mine

  -- a pass that has the seats of all, and has requested nothing, has seen no request
  pub nothing_asked : (pass done : Token W V) (seats : ℕ) → Works pass done → AsksNothing pass → ((seat : ℕ) → seat < seats → is_one_of (seats_of pass) seat ≡ true) → ((n : Noted W) → Contains done.seen n → n.event.seat < seats) → works_of done.seen ≡ []
  nothing_asked pass done seats works quiet mine named = works_without done.seen (λ n there. still_quiet pass done works quiet n (contains_kept (λ (m : Noted W). is_one_of (seats_of done) m.event.seat) done.seen n there (own n there)))
    where
      same : seats_of done ≡ seats_of pass
      same = ap (λ s. s ∷ done.joined) works.same.seat ∙ ap (λ l. pass.seat ∷ l) works.same.joined

      own : (n : Noted W) → Contains done.seen n → is_one_of (seats_of done) n.event.seat ≡ true
      own n there = subst (λ l. is_one_of l n.event.seat ≡ true) (sym same) (mine n.event.seat (named n there))

  -- the places of a whole slice, written back, have passes, and are those of the same workers
  pub left_with_passes : (desk : Started W V) (n : ℕ) (olds slice news : List (Option (Token W V))) → slice ≡ olds → length slice ≡ n → AllZip (StaysSeated desk) slice news → All (HasPass desk) (take n (news ++ drop (length news) olds))
  left_with_passes desk n olds slice news is count each =
      let here = ap length is in
      let same = all_there desk slice news each in
      subst (All (HasPass desk)) (sym (whole_written n news olds (omega arith) (omega arith))) (all_pass desk slice news each)

  pub left_with_workers : (desk : Started W V) (n : ℕ) (olds slice news : List (Option (Token W V))) → slice ≡ olds → length slice ≡ n → AllZip (StaysSeated desk) slice news → (seat : ℕ) → HasWorker olds seat → HasWorker (take n (news ++ drop (length news) olds)) seat
  left_with_workers desk n olds slice news is count each seat there =
      let here = ap length is in
      let same = all_there desk slice news each in
      subst (λ l. HasWorker l seat) (sym (whole_written n news olds (omega arith) (omega arith))) (all_seated desk slice news each seat (subst (λ l. HasWorker l seat) (sym is) there))

  -- so the plan is that of the start
  pub plan_stays : (start : Started W V) (done : Token W V) → done.from ≡ start → works_of done.seen ≡ [] → plan_of done ≡ start.machine.plan
  plan_stays start done from none = ap (λ (f : Started W V). f.machine.plan ++ works_of done.seen) from ∙ (ap (λ l. start.machine.plan ++ l) none ∙ append-nil start.machine.plan)

  -- what a machine has that was closed for a pass that has seen all
  pub shared_by : {O S : Type 0} (meaning : Meaning W V O S) (workers : ℕ) (start : Started W V) (pass : Token W V) (done : Account W V)
      → pass.from ≡ start → done.plan ≡ plan_of pass → done.history ≡ history_of pass
      → IsLegal (asks_of meaning done.plan) done.history → IsComplete (plan_of pass) (history_of pass)
      → 0 < workers → All (λ (e : Event). e.seat ≡ 0) start.machine.history → ((n : Noted W) → Contains pass.seen n → n.event.seat < workers)
      → IsShared meaning workers done.plan (window_of meaning done.plan done.history)
  shared_by meaning workers start pass done from plan history legal complete some before named =
      record {
        whole = record { entries = refl; legal = legal; complete = subst (λ p. IsComplete p done.history) (sym plan) (subst (IsComplete (plan_of pass)) (sym history) complete) };
        seats = subst (All (λ (e : Event). e.seat < workers)) (sym history) (seats_below pass.from.machine.history pass.seen workers (subst (λ (f : Started W V). All (λ (e : Event). e.seat < workers) f.machine.history) (sym from) (λ k d within. (let at = before k d within in omega arith))) named);
      }

  -- more workers may have done the same
  pub more_workers : {O S : Type 0} (meaning : Meaning W V O S) (few many : ℕ) (works : List W) (window : Window) → few ≤ many → IsShared meaning few works window → IsShared meaning many works window
  more_workers meaning few many works window more shared = record { whole = shared.whole; seats = λ k d within. (let below = shared.seats k d within in omega arith) }
