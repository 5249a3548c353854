-- What each event keeps of a machine's parts, and what the search for a holder says of an entry.
use Rattle.std.proofs.Common.{◌≡◌, ◌≢◌, ◌+◌, ◌-◌, ◌*◌, ◌<◌, ◌≤◌, ℕ, suc, true, false, Option, None, List, [], ◌∷◌, ◌++◌, map, length, get_or, set, Some, None, slice_get, refl, sym, ◌∙◌, ap, subst, arith, inl, inr, ◌⊎◌, IsTrue, Contains, length-append, length-set, All}
use Rattle.std.proofs.lemmas.Bool.Decides.{eqb_tells, leb_tells}
use Rattle.std.proofs.lemmas.List.{get_or_append_left, get_or_push, get_or_default, get_or_past, get_or-map, length-map, map-append}
use Rattle.std.proofs.lemmas.Option.{slice_get_past, slice_get_read, slice_get_within, get_or_from_slice_get}
use Rattle.pooma_queue.specs.declared.queue.Mode.{Mode}
use Rattle.pooma_queue.specs.Requests.{Waiting}
use Rattle.pooma_machine.specs.declared.step.Request.{Request}
use Rattle.pooma_machine.specs.declared.step.Event.{Event}
use Rattle.pooma_machine.specs.declared.step.EventKind.{EventKind}
use Rattle.pooma_machine.specs.declared.step.EventKind.TheVariants as kind
use Rattle.pooma_machine.specs.declared.step.Status.{Status}
use Rattle.pooma_machine.specs.declared.step.Status.TheVariants as status
use Rattle.pooma_machine.specs.declared.lines.Holder.{Holder}
use Rattle.pooma_machine.specs.declared.refusal.DispatchError.{DispatchError}
use Rattle.pooma_machine.specs.declared.refusal.DispatchError.TheVariants.{Already, NotReady, OutOfMemory}
use Rattle.pooma_machine.specs.Causes.{Explains}
use Rattle.pooma_machine.specs.Steps.{IsRequestList, AsksFor, requests_of, ConflictOver, status_of, is_released, is_out, IsWaiting, NothingBlocks, IsReady, IsHeldBack, event_of, next, seat_of}
use Rattle.pooma_machine.specs.Lines.{line, room_at, asked_at, line_after, held_by}
use Rattle.pooma_machine.specs.Kept.{IsKept, IsSound, HasRoom, owed}
use Rattle.std.proofs.lemmas.List.Sums.{sum_by-set, sum_by-append}
use Rattle.pooma_logic.proofs.Elements.{contains_none}
use Rattle.pooma_machine.proofs.Listed.{slice_get_before, slice_get_last, slice_get_behind, slice_get_written, slice_get_kept}
use Rattle.pooma_machine.proofs.Plans.{asks_in_plan, status_own, status_other, issued_more, conflict_old, legal_more, legal_snoc}
use Rattle.pooma_machine.proofs.Ties.{tied_same, tied_entered, tied_let_go}
use Rattle.pooma_machine.proofs.Holders.{held_by_none, held_by_some}

-- a further element is at the end alone
pub slice_get_pushed : {X : Type 0} (xs : List X) (x : X) (k : ℕ) → length xs ≢ k → slice_get (xs ++ x ∷ []) k ≡ slice_get xs k
slice_get_pushed xs x k ne =
    elim (leb_tells (suc k) (length xs)) [
      | inl t ↦ slice_get_before xs (x ∷ []) k t.1
      | inr f ↦
          let past : length xs ≤ k = omega (arith, f.1) in
          let behind : length xs < k = omega arith in
          slice_get_behind xs x k behind ∙ sym (slice_get_past xs k past)
    ]

-- a further list of requests
pub form_pushed : (plan : List (List Request)) (requests : List Request) → All IsRequestList plan → IsRequestList requests → All IsRequestList (plan ++ requests ∷ [])
form_pushed plan requests all form k d h =
    elim (leb_tells (suc k) (length plan)) [
      | inl t ↦ rw (get_or_append_left plan (requests ∷ []) d k t.1) (all k d t.1)
      | inr f ↦
          let at : length plan ≡ k = omega (arith, f.1, length-append plan (requests ∷ [])) in
          rw (get_or_push plan requests d k at) form
    ]

-- a further request, a dispatch and a release leave a history sound
pub sound_request : (plan : List (List Request)) (history : List Event) (requests : List Request) (seat : ℕ) → IsSound plan history → IsRequestList requests
    → IsSound (plan ++ requests ∷ []) (history ++ event_of kind.Request (length plan) seat ∷ [])
sound_request plan history requests seat sound form =
    record {
      legal = legal_snoc (plan ++ requests ∷ []) history (event_of kind.Request (length plan) seat) (legal_more plan requests history sound.legal) (longer, sym sound.issued);
      issued = let one = issued_more history (event_of kind.Request (length plan) seat) in let was = sound.issued in omega (arith, length-append plan (requests ∷ []));
      ended = λ j past.
          let long = length-append plan (requests ∷ []) in
          let ne : length plan ≢ j = omega (arith, long, past) in
          status_other history kind.Request (length plan) seat j ne ∙ sound.ended j (omega (arith, long, past));
      passed = passed;
      form = form_pushed plan requests sound.form form;
    }
  where
    longer : length plan < length (plan ++ requests ∷ [])
    longer = omega (arith, length-append plan (requests ∷ []))

    passed : (j : ℕ) → j < length (plan ++ requests ∷ []) → IsWaiting (history ++ event_of kind.Request (length plan) seat ∷ []) j ⊎ NothingBlocks (plan ++ requests ∷ []) (history ++ event_of kind.Request (length plan) seat ∷ []) j
    passed j h =
        elim (eqb_tells (length plan) j) [
          | inl t ↦ inl (subst (λ i. IsWaiting (history ++ event_of kind.Request (length plan) seat ∷ []) i) t.1 (status_own history kind.Request (length plan) seat))
          | inr n ↦
              let ne : length plan ≢ j = n.1 in
              let before : j < length plan = omega (arith, length-append plan (requests ∷ [])) in
              elim (sound.passed j before) [
                | inl waits ↦ inl (status_other history kind.Request (length plan) seat j ne ∙ waits)
                | inr nothing ↦ inr (λ i earlier conflict.
                    let other : length plan ≢ i = omega arith in
                    ap is_released (status_other history kind.Request (length plan) seat i other) ∙ nothing i earlier (conflict_old plan requests i j (omega arith) before conflict))
              ]
        ]

-- what was released before an event of an entry that was not, is so after it
pub released_stays : (history : List Event) (event : Event) (i : ℕ) → is_released (status_of history event.entry) ≡ false → IsTrue (is_released (status_of history i))
    → IsTrue (is_released (status_of (history ++ event ∷ []) i))
released_stays history event i not_yet was =
    let ne : event.entry ≢ i = λ e. absurd (cc (sym not_yet ∙ (ap (λ k. is_released (status_of history k)) e ∙ was))) in
    ap is_released (status_other history event.kind event.entry event.seat i ne) ∙ was

pub sound_dispatch : (plan : List (List Request)) (history : List Event) (j seat : ℕ) → IsSound plan history → j < length plan → IsReady plan history j
    → IsSound plan (history ++ event_of kind.Dispatch j seat ∷ [])
sound_dispatch plan history j seat sound within ready =
    record {
      legal = legal_snoc plan history (event_of kind.Dispatch j seat) sound.legal (within, ready);
      issued = let none = issued_more history (event_of kind.Dispatch j seat) in let was = sound.issued in omega arith;
      ended = λ i past. let ne : j ≢ i = omega arith in status_other history kind.Dispatch j seat i ne ∙ sound.ended i past;
      passed = passed;
      form = sound.form;
    }
  where
    not_yet : is_released (status_of history j) ≡ false
    not_yet = ap is_released ready.0

    passed : (i : ℕ) → i < length plan → IsWaiting (history ++ event_of kind.Dispatch j seat ∷ []) i ⊎ NothingBlocks plan (history ++ event_of kind.Dispatch j seat ∷ []) i
    passed i h =
        elim (eqb_tells j i) [
          | inl t ↦ inr (subst (λ k. NothingBlocks plan (history ++ event_of kind.Dispatch j seat ∷ []) k) t.1 (λ k earlier conflict. released_stays history (event_of kind.Dispatch j seat) k not_yet (ready.1 k earlier conflict)))
          | inr n ↦
              elim (sound.passed i h) [
                | inl w ↦ inl (status_other history kind.Dispatch j seat i n.1 ∙ w)
                | inr none ↦ inr (λ k earlier conflict. released_stays history (event_of kind.Dispatch j seat) k not_yet (none k earlier conflict))
              ]
        ]

-- an entry that is out neither waits nor was released
pub out_is : (now : Option Status) → is_out now ≡ true → (is_released now ≡ false) × (now ≡ Some status.Waiting → ⊥)
out_is None out = absurd (cc out)
out_is (Some status.Waiting) out = absurd (cc out)
out_is (Some (status.Released at)) out = absurd (cc out)
out_is (Some (status.Out at)) out = (refl, λ e. absurd (cc e))

pub sound_release : (plan : List (List Request)) (history : List Event) (j seat : ℕ) → IsSound plan history → j < length plan → IsTrue (is_out (status_of history j))
    → IsSound plan (history ++ event_of kind.Release j seat ∷ [])
sound_release plan history j seat sound within out =
    record {
      legal = legal_snoc plan history (event_of kind.Release j seat) sound.legal (within, out);
      issued = let none = issued_more history (event_of kind.Release j seat) in let was = sound.issued in omega arith;
      ended = λ i past. let ne : j ≢ i = omega arith in status_other history kind.Release j seat i ne ∙ sound.ended i past;
      passed = passed;
      form = sound.form;
    }
  where
    was : (is_released (status_of history j) ≡ false) × (status_of history j ≡ Some status.Waiting → ⊥)
    was = out_is (status_of history j) out

    passed : (i : ℕ) → i < length plan → IsWaiting (history ++ event_of kind.Release j seat ∷ []) i ⊎ NothingBlocks plan (history ++ event_of kind.Release j seat ∷ []) i
    passed i h =
        elim (sound.passed i h) [
          | inl w ↦ inl (status_other history kind.Release j seat i (λ e. absurd (was.1 (ap (status_of history) e ∙ w))) ∙ w)
          | inr none ↦ inr (λ k earlier conflict. released_stays history (event_of kind.Release j seat) k was.0 (none k earlier conflict))
        ]

-- and they leave the statuses and the queues those that it gives
pub kept_request : (plan : List (List Request)) (history : List Event) (statuses : List Status) (queues now : List Waiting) (requests : List Request) (seat : ℕ)
    → IsKept plan history statuses queues → IsRequestList requests → ((o : ℕ) → line now o ≡ line queues o ++ asked_at (length plan) requests o)
    → IsKept (plan ++ requests ∷ []) (history ++ event_of kind.Request (length plan) seat ∷ []) (statuses ++ status.Waiting ∷ []) now
kept_request plan history statuses queues now requests seat kept form lines =
    record {
      sound = sound_request plan history requests seat kept.sound form;
      count = let was = kept.count in omega (arith, length-append plan (requests ∷ []), length-append statuses (status.Waiting ∷ []));
      stands = stands;
      tied = tied_entered plan (λ i. is_released (status_of history i)) _ queues now requests kept.tied form
          (λ i h. let ne : length plan ≢ i = omega arith in ap is_released (status_other history kind.Request (length plan) seat i ne))
          (ap is_released (status_own history kind.Request (length plan) seat)) lines;
    }
  where
    stands : (j : ℕ) → status_of (history ++ event_of kind.Request (length plan) seat ∷ []) j ≡ slice_get (statuses ++ status.Waiting ∷ []) j
    stands j =
        elim (eqb_tells (length plan) j) [
          | inl t ↦ subst (λ i. status_of (history ++ event_of kind.Request (length plan) seat ∷ []) i ≡ slice_get (statuses ++ status.Waiting ∷ []) i) t.1
              (status_own history kind.Request (length plan) seat ∙ sym (subst (λ i. slice_get (statuses ++ status.Waiting ∷ []) i ≡ Some status.Waiting) kept.count (slice_get_last statuses status.Waiting)))
          | inr n ↦
              status_other history kind.Request (length plan) seat j n.1 ∙ (kept.stands j ∙ sym (slice_get_pushed statuses status.Waiting j (λ e. n.1 (sym kept.count ∙ e))))
        ]

-- the statuses after an event of an entry that is there
pub stands_set : (history : List Event) (statuses : List Status) (kind : EventKind) (j seat : ℕ) (new : Status) → ((i : ℕ) → status_of history i ≡ slice_get statuses i) → j < length statuses
    → next kind seat (status_of history j) ≡ Some new → (i : ℕ) → status_of (history ++ event_of kind j seat ∷ []) i ≡ slice_get (set statuses j new) i
stands_set history statuses kind j seat new stands within is i =
    elim (eqb_tells j i) [
      | inl t ↦ subst (λ k. status_of (history ++ event_of kind j seat ∷ []) k ≡ slice_get (set statuses j new) k) t.1 (status_own history kind j seat ∙ (is ∙ sym (slice_get_written statuses j new within)))
      | inr n ↦ status_other history kind j seat i n.1 ∙ (stands i ∙ sym (slice_get_kept statuses j i new (λ e. n.1 (sym e))))
    ]

pub kept_dispatch : (plan : List (List Request)) (history : List Event) (statuses : List Status) (queues : List Waiting) (j seat : ℕ)
    → IsKept plan history statuses queues → j < length plan → IsReady plan history j
    → IsKept plan (history ++ event_of kind.Dispatch j seat ∷ []) (set statuses j (status.Out seat)) queues
kept_dispatch plan history statuses queues j seat kept within ready =
    record {
      sound = sound_dispatch plan history j seat kept.sound within ready;
      count = length-set statuses j (status.Out seat) ∙ kept.count;
      stands = stands_set history statuses kind.Dispatch j seat (status.Out seat) kept.stands (let count = kept.count in omega arith) refl;
      tied = tied_same plan (λ i. is_released (status_of history i)) _ queues same kept.tied;
    }
  where
    same : (i : ℕ) → is_released (status_of history i) ≡ is_released (status_of (history ++ event_of kind.Dispatch j seat ∷ []) i)
    same i =
        elim (eqb_tells j i) [
          | inl t ↦ subst (λ k. is_released (status_of history k) ≡ is_released (status_of (history ++ event_of kind.Dispatch j seat ∷ []) k)) t.1 (ap is_released ready.0 ∙ sym (ap is_released (status_own history kind.Dispatch j seat)))
          | inr n ↦ sym (ap is_released (status_other history kind.Dispatch j seat i n.1))
        ]

-- what a release makes of the status of an entry that is out
pub released_is : (was new : Status) → is_out (Some was) ≡ true → ((seat : ℕ) → Some new ≡ next kind.Release seat (Some was)) → (owed was ≡ owed new + 1) × (is_released (Some new) ≡ true)
released_is status.Waiting new out is = absurd (cc out)
released_is (status.Released at) new out is = absurd (cc out)
released_is (status.Out at) new out is = let e : Some new ≡ Some (status.Released at) = is 0 in let same : new ≡ status.Released at = cc in rw same (refl, refl)

pub kept_release : (plan : List (List Request)) (history : List Event) (statuses : List Status) (queues now : List Waiting) (j seat : ℕ) (was new : Status)
    → IsKept plan history statuses queues → j < length plan → slice_get statuses j ≡ Some was → is_out (Some was) ≡ true → ((s : ℕ) → Some new ≡ next kind.Release s (Some was))
    → ((o : ℕ) → line now o ≡ line_after j (requests_of plan j) o (line queues o))
    → IsKept plan (history ++ event_of kind.Release j seat ∷ []) (set statuses j new) now
kept_release plan history statuses queues now j seat was new kept within read out is lines =
    record {
      sound = sound_release plan history j seat kept.sound within (ap is_out here ∙ out);
      count = length-set statuses j new ∙ kept.count;
      stands = stands_set history statuses kind.Release j seat new kept.stands (let count = kept.count in omega arith) after;
      tied = tied_let_go plan (λ i. is_released (status_of history i)) _ queues now j kept.tied
          (λ i ne. ap is_released (status_other history kind.Release j seat i (λ e. ne (sym e)))) (ap is_released (status_own history kind.Release j seat ∙ after) ∙ (released_is was new out is).1) lines;
    }
  where
    here : status_of history j ≡ Some was
    here = kept.stands j ∙ read

    after : next kind.Release seat (status_of history j) ≡ Some new
    after = ap (next kind.Release seat) here ∙ sym (is seat)

-- nothing blocks an entry for which the search finds nothing
pub nothing_held : (plan : List (List Request)) (history : List Event) (statuses : List Status) (queues : List Waiting) (j : ℕ) → IsKept plan history statuses queues
    → held_by queues j (requests_of plan j) ≡ None → NothingBlocks plan history j
nothing_held plan history statuses queues j kept none i earlier conflict = held_by_none plan (λ i. is_released (status_of history i)) queues j kept.tied none i earlier conflict

-- an entry is held back by what it finds
pub held_back : (plan : List (List Request)) (history : List Event) (statuses : List Status) (queues : List Waiting) (j : ℕ) (held : Holder) → IsKept plan history statuses queues
    → j < length plan → IsWaiting history j → held_by queues j (requests_of plan j) ≡ Some held → IsHeldBack plan history j held.object held.by
held_back plan history statuses queues j held kept within waits some =
    let c = held_by_some plan (λ i. is_released (status_of history i)) queues j held kept.tied (kept.sound.form j [] within) some in
    record {
      waiting = waits;
      blocked = record { earlier = c.0; conflict = (held.object, c.1); unreleased = c.2 };
      first = λ i blocks. (c.3 i blocks.conflict.0 blocks.earlier blocks.unreleased blocks.conflict.1).0;
      over = c.1;
      least = λ o over. (c.3 held.by o c.0 c.2 over).1 refl;
    }

-- an entry is held back by one entry over one object
pub held_back_once : (plan : List (List Request)) (history : List Event) (j o by p other : ℕ) → IsHeldBack plan history j o by → IsHeldBack plan history j p other → (o ≡ p) × (by ≡ other)
held_back_once plan history j o by p other a b =
    let le : by ≤ other = a.first other b.blocked in
    let ge : other ≤ by = b.first by a.blocked in
    let same : by ≡ other = omega arith in
    let low : o ≤ p = a.least p (subst (λ i. ConflictOver plan i j p) (sym same) b.over) in
    let high : p ≤ o = b.least o (subst (λ i. ConflictOver plan i j o) same a.over) in
    (omega arith, same)

-- and then something blocks it
pub held_back_blocked : (plan : List (List Request)) (history : List Event) (j o by : ℕ) → IsHeldBack plan history j o by → NothingBlocks plan history j → ⊥
held_back_blocked plan history j o by held nothing =
    let was = nothing by held.blocked.earlier held.blocked.conflict in
    absurd (cc (sym held.blocked.unreleased ∙ was))

-- an entry is refused for one cause
pub explained_once : (plan : List (List Request)) (history : List Event) (j : ℕ) (a b : DispatchError) → Explains plan history j a → Explains plan history j b → a ≡ b
explained_once plan history j (Already at) (Already seat) one other = let same : Some at ≡ Some seat = sym one ∙ other in let e : at ≡ seat = cc in ap Already e
explained_once plan history j (Already at) (NotReady object by) one other = absurd (cc (sym one ∙ ap seat_of other.waiting))
explained_once plan history j (Already at) OutOfMemory one other = absurd (cc (sym one ∙ ap seat_of other.0))
explained_once plan history j (NotReady object by) (Already at) one other = absurd (cc (sym other ∙ ap seat_of one.waiting))
explained_once plan history j (NotReady object by) (NotReady o i) one other =
    let same = held_back_once plan history j object by o i one other in
    ap (λ x. NotReady x by) same.0 ∙ ap (NotReady o) same.1
explained_once plan history j (NotReady object by) OutOfMemory one other = absurd (held_back_blocked plan history j object by one other.1)
explained_once plan history j OutOfMemory (Already at) one other = absurd (cc (sym other ∙ ap seat_of one.0))
explained_once plan history j OutOfMemory (NotReady object by) one other = absurd (held_back_blocked plan history j object by other one.1)
explained_once plan history j OutOfMemory OutOfMemory one other = refl

-- what an entry asks for is there
pub in_range : (plan : List (List Request)) (history : List Event) (statuses : List Status) (queues : List Waiting) (j : ℕ) → IsKept plan history statuses queues
    → All (λ r. r.object < length queues) (requests_of plan j)
in_range plan history statuses queues j kept k d h =
    let r = get_or (requests_of plan j) k d in
    let there = kept.tied.there j (get_or (requests_of plan j) k d).object (get_or (requests_of plan j) k d).mode (k, h, get_or_default (requests_of plan j) k (get_or (requests_of plan j) k d) d h) in
    elim (leb_tells (suc (get_or (requests_of plan j) k d).object) (length queues)) [
      | inl t ↦ t.1
      | inr f ↦
          let past : length queues ≤ (get_or (requests_of plan j) k d).object = omega (arith, f.1) in
          absurd (contains_none _ (rw (ap (λ (w : Waiting). w.requests) (get_or_past queues (get_or (requests_of plan j) k d).object (record { requests = []; room = 0 }) past)) at there))
    ]

-- what is asked for by the j-th of some works
pub asks_read : {A W : Type 0} (f : A → W) (r : W → List Request) (xs : List A) (j : ℕ) (x : A) → j < length xs → x ≡ get_or xs j x → requests_of (map r (map f xs)) j ≡ r (f x)
asks_read f r xs j x h is =
    let within : j < length (map f xs) = omega (arith, length-map xs f) in
    get_or-map r (map f xs) j (f x) [] within ∙ ap r (get_or-map f xs j x (f x) h ∙ ap f (sym is))

-- what the search for a holder says of an entry that was not dispatched
pub waits_where : (here : Status) → seat_of (Some here) ≡ None → here ≡ status.Waiting
waits_where status.Waiting none = refl
waits_where (status.Out seat) none = absurd (cc none)
waits_where (status.Released seat) none = absurd (cc none)

pub searched : (plan : List (List Request)) (history : List Event) (statuses : List Status) (queues : List Waiting) (j : ℕ) (here : Status) (requests : List Request) → IsKept plan history statuses queues
    → j < length plan → here ≡ get_or statuses j here → seat_of (Some here) ≡ None → requests ≡ requests_of plan j
    → (held_by queues j requests ≡ None → IsReady plan history j) × ((held : Holder) → held_by queues j requests ≡ Some held → IsHeldBack plan history j held.object held.by)
searched plan history statuses queues j here requests kept within at none are = (
  λ nothing. (waits, nothing_held plan history statuses queues j kept (sym (found are) ∙ nothing)),
  λ held some. held_back plan history statuses queues j held kept within waits (sym (found are) ∙ some),
)
  where
    waits : IsWaiting history j
    waits = let count = kept.count in kept.stands j ∙ slice_get_read statuses (length statuses) j here refl (omega arith) at ∙ ap Some (waits_where here none)

    found : requests ≡ requests_of plan j → held_by queues j requests ≡ held_by queues j (requests_of plan j)
    found e = ap (held_by queues j) e

-- each work is an entry of the plan
pub asks_of_works : {A W : Type 0} (f : A → W) (r : W → List Request) (xs : List A) → length (map r (map f xs)) ≡ length xs
asks_of_works f r xs = length-map (map f xs) r ∙ length-map xs f

-- an entry of a status that owes events leaves room for one, and then owes one less
pub owes_less : (entries events spare works_room statuses_room history_room : ℕ) (statuses : List Status) (queues : List Waiting) (j : ℕ) (was now : Status)
    → HasRoom entries events statuses queues spare works_room statuses_room history_room
    → slice_get statuses j ≡ Some was → owed was ≡ owed now + 1
    → (events < history_room) × HasRoom entries (events + 1) (set statuses j now) queues spare works_room statuses_room history_room
owes_less entries events spare works_room statuses_room history_room statuses queues j was now room here less =
    let within = slice_get_within statuses j was here in
    let at : get_or statuses j was ≡ was = get_or_from_slice_get statuses j was was here in
    let sums = sum_by-set owed statuses j now was within in
    let own = ap owed at in
    let owes = room.owes in
    let for_events = room.for_events in (
      omega arith,
      record {
        owes = omega arith;
        for_works = room.for_works;
        for_statuses = room.for_statuses;
        for_events = room.for_events;
        for_requests = room.for_requests;
      },
    )

-- more room is room
pub room_more : (entries events spare a b c a' b' c' : ℕ) (statuses : List Status) (queues now : List Waiting) → HasRoom entries events statuses queues spare a b c
    → a ≤ a' → b ≤ b' → c ≤ c' → ((o : ℕ) → room_at queues o ≤ room_at now o) → length now ≡ length queues
    → HasRoom entries events statuses now spare a' b' c'
room_more entries events spare a b c a' b' c' statuses queues now room ha hb hc more count =
    let works = room.for_works in
    let statuses' = room.for_statuses in
    let history = room.for_events in
    record {
      owes = room.owes;
      for_works = omega arith;
      for_statuses = omega arith;
      for_events = omega arith;
      for_requests = λ o h. let was = room.for_requests o (omega arith) in let is = more o in omega arith;
    }

-- only the requests of the queues matter
pub kept_lines : (plan : List (List Request)) (history : List Event) (statuses : List Status) (queues now : List Waiting) → IsKept plan history statuses queues
    → ((o : ℕ) → line now o ≡ line queues o) → IsKept plan history statuses now
kept_lines plan history statuses queues now kept same =
    record {
      sound = kept.sound;
      count = kept.count;
      stands = kept.stands;
      tied = record {
        stands = λ o asked h. kept.tied.stands o asked (rw (same o) at h);
        there = λ i o mode asks. rw (same o) (kept.tied.there i o mode asks);
        order = λ o. rw (same o) (kept.tied.order o);
      };
    }

-- queues with the same requests, and more room
pub lines_grown : (plan : List (List Request)) (history : List Event) (statuses : List Status) (queues now : List Waiting) (entries events spare a b c a' b' c' : ℕ)
    → IsKept plan history statuses queues → HasRoom entries events statuses queues spare a b c
    → ((o : ℕ) → line now o ≡ line queues o) → ((o : ℕ) → room_at queues o ≤ room_at now o) → length now ≡ length queues → a ≤ a' → b ≤ b' → c ≤ c'
    → IsKept plan history statuses now × HasRoom entries events statuses now spare a' b' c'
lines_grown plan history statuses queues now entries events spare a b c a' b' c' kept room lines rooms count ha hb hc =
    (kept_lines plan history statuses queues now kept lines, room_more entries events spare a b c a' b' c' statuses queues now room ha hb hc rooms count)

-- a release, with all that it brings
pub release_upheld : (plan : List (List Request)) (history : List Event) (statuses : List Status) (queues now : List Waiting) (j seat entries events spare a b c : ℕ) (was new : Status)
    → IsKept plan history statuses queues → HasRoom entries events statuses queues spare a b c
    → j < length plan → IsTrue (is_out (status_of history j)) → was ≡ get_or statuses j was → ((s : ℕ) → Some new ≡ next kind.Release s (Some was))
    → ((o : ℕ) → line now o ≡ line_after j (requests_of plan j) o (line queues o)) → ((o : ℕ) → room_at now o ≡ room_at queues o) → length now ≡ length queues
    → (events < c) × IsKept plan (history ++ event_of kind.Release j seat ∷ []) (set statuses j new) now × HasRoom entries (events + 1) (set statuses j new) now spare a b c
release_upheld plan history statuses queues now j seat entries events spare a b c was new kept room within out at is lines rooms count =
    let long = kept.count in
    let read : slice_get statuses j ≡ Some was = slice_get_read statuses (length statuses) j was refl (omega arith) at in
    let was_out : is_out (Some was) ≡ true = sym (ap is_out (kept.stands j ∙ read)) ∙ out in
    let less = owes_less entries events spare a b c statuses queues j was new room read (released_is was new was_out is).0 in
    (less.0, kept_release plan history statuses queues now j seat was new kept within read was_out is lines, room_more entries (events + 1) spare a b c a b c (set statuses j new) queues now less.1 (omega arith) (omega arith) (omega arith) (λ o. omega (arith, rooms o)) count)

-- a further entry takes one of the spare ones, or has room of its own
pub room_request : (entries events spare a b c : ℕ) (statuses : List Status) (queues now : List Waiting) → HasRoom entries events statuses queues spare a b c
    → entries + 1 ≤ a → entries + 1 ≤ b → 3 * (entries + 1) ≤ c → ((o : ℕ) → room_at queues o ≤ room_at now o + 1) → length now ≡ length queues
    → HasRoom (entries + 1) (events + 1) (statuses ++ status.Waiting ∷ []) now (spare - 1) a b c
room_request entries events spare a b c statuses queues now room ha hb hc less count =
    let works = room.for_works in
    let statuses' = room.for_statuses in
    let history = room.for_events in
    let owes = room.owes in
    let sums = sum_by-append owed statuses (status.Waiting ∷ []) in
    record {
      owes = omega arith;
      for_works = omega arith;
      for_statuses = omega arith;
      for_events = omega arith;
      for_requests = λ o h. let was = room.for_requests o (omega arith) in let is = less o in omega arith;
    }

-- the entries have had no more events than they may have
pub events_bound : (entries events spare a b c : ℕ) (statuses : List Status) (queues : List Waiting) → HasRoom entries events statuses queues spare a b c → events ≤ 3 * entries
events_bound entries events spare a b c statuses queues room = let owes = room.owes in omega arith

-- the requests in a queue are of entries of the plan
pub entries_before : (plan : List (List Request)) (history : List Event) (statuses : List Status) (queues : List Waiting) (o : ℕ) → IsKept plan history statuses queues
    → All (λ asked. asked.entry < length plan) (line queues o)
entries_before plan history statuses queues o kept k d h =
    let here = get_or (line queues o) k d in
    asks_in_plan plan (get_or (line queues o) k d).entry o (get_or (line queues o) k d).mode
    (kept.tied.stands o (get_or (line queues o) k d) (k, h, get_or_default (line queues o) k (get_or (line queues o) k d) d h)).0

-- a further entry, with all that it brings
pub request_upheld : {A W : Type 0} (f : A → W) (r : W → List Request) (works works' : List A) (work : A) (history history' : List Event) (statuses statuses' : List Status)
    (queues now : List Waiting) (seat entry spare a b c : ℕ)
    → IsKept (map r (map f works)) history statuses queues → HasRoom (length works) (length history) statuses queues spare a b c
    → IsRequestList (r (f work)) → entry ≡ length works
    → works' ≡ works ++ work ∷ [] → history' ≡ history ++ event_of kind.Request entry seat ∷ [] → statuses' ≡ statuses ++ status.Waiting ∷ []
    → ((o : ℕ) → line now o ≡ line queues o ++ asked_at entry (r (f work)) o) → ((o : ℕ) → room_at queues o ≤ room_at now o + 1) → length now ≡ length queues
    → length works + 1 ≤ a → length works + 1 ≤ b → 3 * (length works + 1) ≤ c
    → IsKept (map r (map f works')) history' statuses' now × HasRoom (length works') (length history') statuses' now (spare - 1) a b c
request_upheld f r works works' work history history' statuses statuses' queues now seat entry spare a b c kept room form entry_is works_are history_is statuses_are lines rooms count ha hb hc =
    let n : entry ≡ length (map r (map f works)) = entry_is ∙ sym (asks_of_works f r works) in
    let more = kept_request (map r (map f works)) history statuses queues now (r (f work)) seat kept form (λ o. subst (λ i. line now o ≡ line queues o ++ asked_at i (r (f work)) o) n (lines o)) in
    let plan_is : map r (map f (works ++ work ∷ [])) ≡ map r (map f works) ++ r (f work) ∷ [] = ap (map r) (map-append f works (work ∷ [])) ∙ map-append r (map f works) (f work ∷ []) in
    rw (works_are, history_is, statuses_are, plan_is, length-append works (work ∷ []), length-append history (event_of kind.Request entry seat ∷ [])) (
      subst (λ i. IsKept (map r (map f works) ++ r (f work) ∷ []) (history ++ event_of kind.Request i seat ∷ []) (statuses ++ status.Waiting ∷ []) now) (sym n) more,
      room_request (length works) (length history) spare a b c statuses queues now room ha hb hc rooms count,
    )

-- queues with no requests
pub line_empty : (queues : List Waiting) (o : ℕ) → All (λ queue. queue.requests ≡ []) queues → line queues o ≡ []
line_empty queues o empty =
    elim (leb_tells (suc o) (length queues)) [
      | inl t ↦ empty o (record { requests = []; room = 0 }) t.1
      | inr f ↦ ap (λ (w : Waiting). w.requests) (get_or_past queues o (record { requests = []; room = 0 }) (omega (arith, f.1)))
    ]

-- before the first event
pub sound_empty : IsSound [] []
sound_empty =
    record {
      legal = λ k event at. absurd (cc at);
      issued = refl;
      ended = λ j h. refl;
      passed = λ j h. absurd (omega arith);
      form = λ k d h. absurd (omega arith);
    }

pub kept_empty : (queues : List Waiting) → All (λ queue. queue.requests ≡ []) queues → IsKept [] [] [] queues
kept_empty queues empty =
    record {
      sound = sound_empty;
      count = refl;
      stands = λ j. refl;
      tied = record {
        stands = λ o asked h. absurd (contains_none asked (rw (line_empty queues o empty) at h));
        there = λ i o mode asks. absurd (contains_none _ (asks_none_at i o mode asks));
        order = λ o. rw (line_empty queues o empty) (λ i j d lt h. absurd (omega arith));
      };
    }
  where
    asks_none_at : (i o : ℕ) (mode : Mode) → AsksFor [] i o mode → Contains {X = Request} [] (record { object = o; mode = mode })
    asks_none_at i o mode asks = asks

pub room_empty : (queues : List Waiting) (a b c : ℕ) → HasRoom 0 0 [] queues 0 a b c
room_empty queues a b c = record { owes = refl; for_works = omega arith; for_statuses = omega arith; for_events = omega arith; for_requests = λ o h. omega arith }
