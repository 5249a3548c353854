-- Which entries a release made ready: those that it held back over one of its objects, and that nothing holds back now.
use Rattle.std.proofs.Common.{◌≡◌, ◌≢◌, ◌↔◌, ◌⊎◌, ◌||◌, ◌+◌, ◌-◌, ◌<◌, ℕ, suc, Bool, true, false, IsTrue, List, [], ◌∷◌, ◌++◌, length, take, drop, get_or, slice_get, length-take, Contains, All, Option, Some, None, refl, sym, ◌∙◌, ap, subst, arith, inl, inr, nat_lt}
use Rattle.std.proofs.lemmas.Bool.Decides.{eqb_tells, leb_tells}
use Rattle.std.proofs.lemmas.List.{get_or_past, get_or_default, get_or-take, get_or-drop, length-drop}
use Rattle.std.proofs.lemmas.Option.{slice_get-get_or, get_or_from_slice_get}
use Rattle.std.specs.List.{position_or_len, prefix_len}
use Rattle.pooma_queue.specs.declared.queue.Mode.{Mode}
use Rattle.pooma_queue.specs.declared.queue.Mode.TheVariants.{Read, Write}
use Rattle.pooma_queue.specs.declared.queue.Asked.{Asked}
use Rattle.pooma_queue.specs.Requests.{Waiting, MayGoOn, OnlyLastWrites, conflicts, holds_back, front_of, open_part}
use Rattle.pooma_machine.specs.declared.step.Request.{Request}
use Rattle.pooma_machine.specs.declared.step.Event.{Event}
use Rattle.pooma_machine.specs.declared.step.EventKind.TheVariants as kind
use Rattle.pooma_machine.specs.declared.step.Status.TheVariants as status
use Rattle.pooma_machine.specs.Steps.{IsRequestList, requests_of, AsksFor, ConflictOver, Conflict, IsReady, IsWaiting, NothingBlocks, event_of, status_of, is_out, is_released, next}
use Rattle.pooma_machine.specs.Became.{BecameReady, IsListOf, IsFreed, IsFreedOver, IsFreedBy, Woken, Names, Notes, with_entry}
use Rattle.pooma_machine.specs.declared.step.Status.{Status}
use Rattle.pooma_machine.specs.Lines.{line, IsTied}
use Rattle.pooma_machine.specs.Kept.{IsKept}
use Rattle.pooma_machine.proofs.Keeps.{in_range}
use Rattle.std.proofs.lemmas.List.Elements.{Contains-get_or}
use Rattle.pooma_logic.proofs.Decided.{contains_or_not, same_ℕ_or_not}
use Rattle.pooma_logic.proofs.Elements.{contains_none}
use Rattle.pooma_machine.proofs.Listed.{taken_in, dropped_in, taken_more, find_nothing}
use Rattle.pooma_machine.proofs.Plans.{status_own, status_other, asks_in_plan}
use Rattle.pooma_machine.proofs.Ties.{request_of}
use Rattle.pooma_machine.proofs.Holders.{holding_says}
use Rattle.pooma_machine.proofs.Dispatching.{out_not_released}
use Rattle.pooma_machine.proofs.Named.{with_has, has_with, with_ascending, names_with}

-- each request of the front is one of the queue's
pub front_in : (requests : List Asked) (a : Asked) → Contains (front_of requests) a → Contains requests a
front_in requests a h =
    dropped_in (prefix_len (λ (b : Asked). b.released) requests) requests a
    (taken_in (position_or_len (holds_back Read) (open_part requests) + 1) (open_part requests) a h)

-- what conflicts one way conflicts the other way
pub conflicts_back : (one other : Mode) → conflicts one other ≡ conflicts other one
conflicts_back Read Read = refl
conflicts_back Read Write = refl
conflicts_back Write Read = refl
conflicts_back Write Write = refl

-- an entry asks for an object in one mode
pub one_mode : (requests : List Request) (object : ℕ) (a b : Mode) → IsRequestList requests → Contains requests (record { object = object; mode = a }) → Contains requests (record { object = object; mode = b }) → a ≡ b
one_mode requests object a b form (i, hi, ei) (k, hk, ek) =
    let oi : (get_or requests i d).object ≡ object = ap (λ (r : Request). r.object) ei' in
    let ok : (get_or requests k d).object ≡ object = ap (λ (r : Request). r.object) ek' in
    elim (eqb_tells i k) [
      | inl same ↦
          let at : get_or requests i d ≡ get_or requests k d = ap (λ n. get_or requests n d) same.1 in
          ap (λ (r : Request). r.mode) (sym ei' ∙ (at ∙ ek'))
      | inr other ↦
          elim (leb_tells (suc i) k) [
            | inl t ↦ let lt : (get_or requests i d).object < (get_or requests k d).object = (form i k d t.1 hk).0 in absurd (omega arith)
            | inr f ↦ let lt : (get_or requests k d).object < (get_or requests i d).object = (form k i d (omega (arith, f.1, other.1)) hi).0 in absurd (omega arith)
          ]
    ]
  where
    d : Request
    d = record { object = object; mode = a }

    ei' : get_or requests i d ≡ record { object = object; mode = a }
    ei' = ei

    ek' : get_or requests k d ≡ record { object = object; mode = b }
    ek' = get_or_default requests k d (record { object = object; mode = b }) hk ∙ ek

-- the numbers noted are the same where the tests agree
pub notes_same : (P Q : ℕ → Type 0) (old new : Woken) → ((c : ℕ) → P c ↔ Q c) → Notes P old new → Notes Q old new
notes_same P Q old new same noted whole up names =
    let n = noted whole up names in (
      n.0,
      n.1,
      n.2,
      λ c. (
        λ h. elim ((n.3 c).0 h) [ inl there ↦ inl there | inr p ↦ inr ((same c).0 p) ],
        λ h. (n.3 c).1 (elim h [ inl there ↦ inl there | inr q ↦ inr ((same c).1 q) ]),
      ),
    )

-- one more number noted
pub notes_more : (P : ℕ → Type 0) (old now new : Woken) (j : ℕ) → Notes P old now → new.entries ≡ take 16 (with_entry j now.entries)
    → new.more ≡ (now.more || nat_lt 16 (length (with_entry j now.entries))) → Notes (λ c. P c ⊎ (c ≡ j)) old new
notes_more P old now new j noted entries more whole up names =
    let n = noted whole up names in (
      with_entry j n.0,
      with_ascending j n.0 n.1,
      names_with now new n.0 j n.2 entries more,
      λ c. (
        λ h. elim (with_has j n.0 c h) [
          | inl there ↦ elim ((n.3 c).0 there) [ inl before ↦ inl before | inr p ↦ inr (inl p) ]
          | inr same ↦ inr (inr same)
        ],
        λ h. has_with j n.0 c (by c ((n.3 c).1) h),
      ),
    )
  where
    by : {A B C : Type 0} (c : ℕ) → (A ⊎ B → C) → A ⊎ (B ⊎ (c ≡ j)) → C ⊎ (c ≡ j)
    by c old (inl a) = inl (old (inl a))
    by c old (inr (inl b)) = inl (old (inr b))
    by c old (inr (inr e)) = inr e

-- among these requests there is one of this entry that is freed
abbrev pub FreedAmong : List (List Request) → List Event → ℕ → Mode → List Asked → ℕ → Type 0
FreedAmong plan history j mode xs c = (asked : Asked) × Contains xs asked × (asked.entry ≡ c) × IsFreed plan history j mode asked

-- one more request is looked at
pub freed_noted : (plan : List (List Request)) (history : List Event) (j : ℕ) (mode : Mode) (xs : List Asked) (i : ℕ) (d : Asked) (old now new : Woken) → i < length xs
    → IsFreed plan history j mode (get_or xs i d) → Notes (FreedAmong plan history j mode (take i xs)) old now
    → new.entries ≡ take 16 (with_entry (get_or xs i d).entry now.entries) → new.more ≡ (now.more || nat_lt 16 (length (with_entry (get_or xs i d).entry now.entries)))
    → Notes (FreedAmong plan history j mode (take (i + 1) xs)) old new
freed_noted plan history j mode xs i d old now new within freed noted entries more =
    notes_same (λ c. FreedAmong plan history j mode (take i xs) c ⊎ (c ≡ (get_or xs i d).entry)) (FreedAmong plan history j mode (take (i + 1) xs)) old new
    (λ c. (to c, from c))
    (notes_more (FreedAmong plan history j mode (take i xs)) old now new (get_or xs i d).entry noted entries more)
  where
    to : (c : ℕ) → FreedAmong plan history j mode (take i xs) c ⊎ (c ≡ (get_or xs i d).entry) → FreedAmong plan history j mode (take (i + 1) xs) c
    to c (inl (a, there, is, f)) = (a, (taken_more xs i d a within).1 (inl there), is, f)
    to c (inr e) = (get_or xs i d, (taken_more xs i d (get_or xs i d) within).1 (inr refl), sym e, freed)

    from : (c : ℕ) → FreedAmong plan history j mode (take (i + 1) xs) c → FreedAmong plan history j mode (take i xs) c ⊎ (c ≡ (get_or xs i d).entry)
    from c (a, there, is, f) =
        elim ((taken_more xs i d a within).0 there) [
          | inl before ↦ inl (a, before, is, f)
          | inr e ↦ inr (sym is ∙ ap (λ (b : Asked). b.entry) e)
        ]

pub freed_passed : (plan : List (List Request)) (history : List Event) (j : ℕ) (mode : Mode) (xs : List Asked) (i : ℕ) (d : Asked) (old now : Woken) → i < length xs
    → (IsFreed plan history j mode (get_or xs i d) → ⊥) → Notes (FreedAmong plan history j mode (take i xs)) old now → Notes (FreedAmong plan history j mode (take (i + 1) xs)) old now
freed_passed plan history j mode xs i d old now within not_freed noted =
    notes_same (FreedAmong plan history j mode (take i xs)) (FreedAmong plan history j mode (take (i + 1) xs)) old now (λ c. (to c, from c)) noted
  where
    to : (c : ℕ) → FreedAmong plan history j mode (take i xs) c → FreedAmong plan history j mode (take (i + 1) xs) c
    to c (a, there, is, f) = (a, (taken_more xs i d a within).1 (inl there), is, f)

    from : (c : ℕ) → FreedAmong plan history j mode (take (i + 1) xs) c → FreedAmong plan history j mode (take i xs) c
    from c (a, there, is, f) =
        elim ((taken_more xs i d a within).0 there) [
          | inl before ↦ (a, before, is, f)
          | inr e ↦ absurd (not_freed (subst (IsFreed plan history j mode) e f))
        ]

-- nothing noted yet
pub notes_none : (P : ℕ → Type 0) (old : Woken) → ((c : ℕ) → P c → ⊥) → Notes P old old
notes_none P old none whole up names = (whole, up, names, λ c. (λ h. inl h, λ h. elim h [ inl there ↦ there | inr p ↦ absurd (none c p) ]))

-- each entry of a plan whose lists are in form asks in form
pub form_at : (plan : List (List Request)) (j : ℕ) → All IsRequestList plan → IsRequestList (requests_of plan j)
form_at plan j form =
    elim (leb_tells (suc j) (length plan)) [
      | inl t ↦ form j [] t.1
      | inr f ↦ subst IsRequestList (sym (get_or_past plan j [] (omega (arith, f.1)))) nothing
    ]
  where
    nothing : IsRequestList []
    nothing i k d lt within = absurd (omega arith)

-- a front in which what may go on stands has the request of each entry that is ready and asks for the object
pub ready_in_front : (plan : List (List Request)) (history : List Event) (queues : List Waiting) (front : List Asked) (object c : ℕ) (mode : Mode)
    → ((k : ℕ) (asked : Asked) → MayGoOn (line queues object) k asked → Contains front asked)
    → IsTied plan (λ i. is_released (status_of history i)) queues → IsReady plan history c → AsksFor plan c object mode
    → Contains front (record { entry = c; mode = mode; released = is_released (status_of history c) })
ready_in_front plan history queues front object c mode has tied ready asks = let there = tied.there c object mode asks in has there.0 asked (may there.0 there.1 there.2)
  where
    asked : Asked
    asked = record { entry = c; mode = mode; released = is_released (status_of history c) }

    free : (b : Asked) → Contains (line queues object) b → b.entry < c → (t : Bool) → holds_back mode b ≡ t → holds_back mode b ≡ false
    free b in_line earlier false e = e
    free b in_line earlier true e =
        let stands = tied.stands object b in_line in
        let says = holding_says mode b e in
        let over : ConflictOver plan b.entry c object = record { one = b.mode; other = mode; asks_one = stands.0; asks_other = asks; conflicting = says.1 } in
        let done : is_released (status_of history b.entry) ≡ true = ready.1 b.entry earlier (object, over) in
        absurd (cc (sym says.0 ∙ (stands.1 ∙ done)))

    may : (k : ℕ) → k < length (line queues object) → get_or (line queues object) k asked ≡ asked → MayGoOn (line queues object) k asked
    may k within at =
        record {
          there = read;
          unreleased = ap is_released ready.0;
          granted = rw read (find_nothing (holds_back mode) (take k (line queues object)) (λ i d h.
              let below : i < k = omega (arith, length-take k (line queues object)) in
              let b = get_or (line queues object) i d in
              let earlier : b.entry < (get_or (line queues object) k d).entry = tied.order object i k d below within in
              let own : (get_or (line queues object) k d).entry ≡ c = ap (λ (q : Asked). q.entry) (get_or_from_slice_get (line queues object) k asked d read) in
              rw (get_or-take k (line queues object) i d below) (free b (Contains-get_or (line queues object) i d (omega arith)) (omega arith) (holds_back mode b) refl)));
        }
      where
        read : slice_get (line queues object) k ≡ Some asked
        read = slice_get-get_or (line queues object) k asked within ∙ ap Some at

-- the requests of it that the mode conflicts with have what is freed over the object, and no more
pub freed_over : (plan : List (List Request)) (history : List Event) (queues : List Waiting) (front held : List Asked) (j object : ℕ) (mode : Mode) (c : ℕ)
    → front ≡ front_of (line queues object) → ((k : ℕ) (asked : Asked) → MayGoOn (line queues object) k asked → Contains front asked)
    → ((a : Asked) → Contains held a → Contains front a) → ((a : Asked) → Contains front a → holds_back mode a ≡ true → Contains held a)
    → IsTied plan (λ i. is_released (status_of history i)) queues → All IsRequestList plan → AsksFor plan j object mode
    → FreedAmong plan history j mode held c ↔ IsFreedOver plan history j object c
freed_over plan history queues front held j object mode c part has of_these all tied form asks = (to, from)
  where
    to : FreedAmong plan history j mode held c → IsFreedOver plan history j object c
    to (a, there, is, f) =
        let stands = tied.stands object a (front_in (line queues object) a (subst (λ xs. Contains xs a) part (of_these a there))) in
        subst (λ k. IsFreedOver plan history j object k) is (record {
          later = f.later;
          over = record { one = mode; other = a.mode; asks_one = asks; asks_other = stands.0; conflicting = conflicts_back mode a.mode ∙ f.conflicting };
          ready = f.ready;
        })

    from : IsFreedOver plan history j object c → FreedAmong plan history j mode held c
    from f =
        let mine : f.over.one ≡ mode = one_mode (requests_of plan j) object f.over.one mode (form_at plan j form) f.over.asks_one asks in
        let conflicting : conflicts f.over.other mode ≡ true = conflicts_back f.over.other mode ∙ (ap (λ m. conflicts m f.over.other) (sym mine) ∙ f.over.conflicting) in
        let unreleased : is_released (status_of history c) ≡ false = ap is_released f.ready.0 in
        let asked : Asked = record { entry = c; mode = f.over.other; released = is_released (status_of history c) } in
        let stands : Contains front asked = ready_in_front plan history queues front object c f.over.other has tied f.ready f.over.asks_other in
        (asked, all asked stands (rw (unreleased, conflicting) refl), refl, record { later = f.later; conflicting = conflicting; ready = f.ready })

-- where only the last of a front may be an open request to write, there is none but that
pub last_writes : (front : List Asked) (a : Asked) → OnlyLastWrites front → Contains front a → holds_back Read a ≡ true → Contains (drop (length front - 1) front) a
last_writes front a only (k, h, e) writes =
    elim (eqb_tells k (length front - 1)) [
      | inl last ↦
          let read : get_or (drop (length front - 1) front) 0 a ≡ get_or front (length front - 1 + 0) a = get_or-drop (length front - 1) front 0 a in
          let at : length front - 1 + 0 ≡ k = omega (arith, last.1) in
          (0, omega (arith, h, length-drop (length front - 1) front), read ∙ (ap (λ n. get_or front n a) at ∙ e))
      | inr other ↦
          let before : k < length front - 1 = omega (arith, other.1, h) in
          let none = only k a (omega (arith, before, length-take (length front - 1) front)) in
          absurd (cc (sym none ∙ (ap (holds_back Read) (get_or-take (length front - 1) front k a before ∙ e) ∙ writes)))
    ]

-- an object that an entry asks for is there
pub object_there : (plan : List (List Request)) (history : List Event) (statuses : List Status) (queues : List Waiting) (j object : ℕ) (mode : Mode) → IsKept plan history statuses queues
    → AsksFor plan j object mode → object < length queues
object_there plan history statuses queues j object mode kept (k, h, e) =
    subst (λ (r : Request). r.object < length queues) e (in_range plan history statuses queues j kept k (record { object = object; mode = mode }) h)

-- a request of a queue is of an entry of the plan
pub asked_in_plan : (plan : List (List Request)) (f : ℕ → Bool) (queues : List Waiting) (object : ℕ) (a : Asked) → IsTied plan f queues → Contains (line queues object) a → a.entry < length plan
asked_in_plan plan f queues object a tied h = asks_in_plan plan a.entry object a.mode (tied.stands object a h).0

-- an answer that names a list of the numbers for which it holds
abbrev pub NamesThose : (ℕ → Type 0) → Woken → Type 0
NamesThose P woken = (whole : List ℕ) × IsListOf P whole × Names woken whole

pub names_those_same : (P Q : ℕ → Type 0) (woken : Woken) → ((c : ℕ) → P c ↔ Q c) → NamesThose P woken → NamesThose Q woken
names_those_same P Q woken same (whole, list, names) =
    (whole, record { ascending = list.ascending; exactly = λ c. (λ h. (same c).0 ((list.exactly c).0 h), λ q. (list.exactly c).1 ((same c).1 q)) }, names)

-- one that names nothing, where it holds for nothing
pub names_nothing : (P : ℕ → Type 0) (woken : Woken) → ((c : ℕ) → P c → ⊥) → woken.entries ≡ [] → woken.more ≡ false → NamesThose P woken
names_nothing P woken none entries more =
    ([], record { ascending = λ i j d lt within. absurd (omega arith); exactly = λ c. (λ h. absurd (contains_none c h), λ p. absurd (none c p)) }, (entries, more))

-- further ones noted
pub names_those_more : (P Q : ℕ → Type 0) (old new : Woken) → NamesThose P old → Notes Q old new → NamesThose (λ c. P c ⊎ Q c) new
names_those_more P Q old new (whole, list, names) noted =
    let n = noted whole list.ascending names in (
      n.0,
      record {
        ascending = n.1;
        exactly = λ c. (
          λ h. elim ((n.3 c).0 h) [ inl there ↦ inl ((list.exactly c).0 there) | inr q ↦ inr q ],
          λ h. (n.3 c).1 (elim h [ inl p ↦ inl ((list.exactly c).1 p) | inr q ↦ inr q ]),
        );
      },
      n.2,
    )

-- an entry is freed over an object for which one of these requests of this one asks
abbrev pub FreedOverSome : List (List Request) → List Event → ℕ → List Request → ℕ → Type 0
FreedOverSome plan history j requests c = (r : Request) × Contains requests r × IsFreedOver plan history j r.object c

pub freed_over_more : (plan : List (List Request)) (history : List Event) (j : ℕ) (requests : List Request) (i : ℕ) (d : Request) (old new : Woken) → i < length requests
    → NamesThose (FreedOverSome plan history j (take i requests)) old → Notes (IsFreedOver plan history j (get_or requests i d).object) old new
    → NamesThose (FreedOverSome plan history j (take (i + 1) requests)) new
freed_over_more plan history j requests i d old new within named noted =
    names_those_same (λ c. FreedOverSome plan history j (take i requests) c ⊎ IsFreedOver plan history j (get_or requests i d).object c) (FreedOverSome plan history j (take (i + 1) requests)) new
    (λ c. (to c, from c))
    (names_those_more (FreedOverSome plan history j (take i requests)) (IsFreedOver plan history j (get_or requests i d).object) old new named noted)
  where
    to : (c : ℕ) → FreedOverSome plan history j (take i requests) c ⊎ IsFreedOver plan history j (get_or requests i d).object c → FreedOverSome plan history j (take (i + 1) requests) c
    to c (inl (r, there, f)) = (r, (taken_more requests i d r within).1 (inl there), f)
    to c (inr f) = (get_or requests i d, (taken_more requests i d (get_or requests i d) within).1 (inr refl), f)

    from : (c : ℕ) → FreedOverSome plan history j (take (i + 1) requests) c → FreedOverSome plan history j (take i requests) c ⊎ IsFreedOver plan history j (get_or requests i d).object c
    from c (r, there, f) =
        elim ((taken_more requests i d r within).0 there) [
          | inl before ↦ inl (r, before, f)
          | inr e ↦ inr (subst (λ (q : Request). IsFreedOver plan history j q.object c) e f)
        ]

-- over all its requests, those are freed that it conflicts with
pub freed_by : (plan : List (List Request)) (history : List Event) (j : ℕ) (requests : List Request) (c : ℕ) → requests ≡ requests_of plan j
    → FreedOverSome plan history j requests c ↔ IsFreedBy plan history j c
freed_by plan history j requests c same = (
  λ h. (h.0.object, h.2),
  λ h.
      let f : IsFreedOver plan history j h.0 c = h.1 in
      (request_of h.0 f.over.one, subst (λ rs. Contains rs (request_of h.0 f.over.one)) (sym same) f.over.asks_one, f),
)

-- what a release frees is what became ready by it
pub freed_became : (plan : List (List Request)) (history : List Event) (j seat : ℕ) (woken : Woken) → IsTrue (is_out (status_of history j))
    → NamesThose (IsFreedBy plan (history ++ event_of kind.Release j seat ∷ []) j) woken
    → NamesThose (BecameReady plan history (history ++ event_of kind.Release j seat ∷ [])) woken
freed_became plan history j seat woken out (whole, list, names) = (
  whole,
  record { ascending = list.ascending; exactly = λ c. (λ h. became c ((list.exactly c).0 h), λ b. listed c (contains_or_not same_ℕ_or_not whole c) b) },
  names,
)
  where
    after : List Event
    after = history ++ event_of kind.Release j seat ∷ []

    became : (c : ℕ) → IsFreedBy plan after j c → BecameReady plan history after c
    became c (object, f) = (f.ready, λ before. out_not_released (status_of history j) out (before.1 j f.later (object, f.over)))

    other : (c : ℕ) → IsWaiting after c → j ≢ c
    other c waiting same =
        released_waits (status_of history j) out (sym (status_own history kind.Release j seat) ∙ (ap (status_of after) same ∙ waiting))
      where
        released_waits : (s : Option Status) → is_out s ≡ true → next kind.Release seat s ≡ Some status.Waiting → ⊥
        released_waits (Some (status.Out at)) o w = cc w
        released_waits (Some status.Waiting) o w = cc o
        released_waits (Some (status.Released at)) o w = cc o
        released_waits None o w = cc w

    waits : (c : ℕ) → IsWaiting after c → IsWaiting history c
    waits c waiting = sym (status_other history kind.Release j seat c (other c waiting)) ∙ waiting

    listed : (c : ℕ) → Contains whole c ⊎ (Contains whole c → ⊥) → BecameReady plan history after c → Contains whole c
    listed c (inl there) b = there
    listed c (inr none) b = absurd (b.1 (waits c b.0.0, clear))
      where
        clear : NothingBlocks plan history c
        clear i earlier conflict =
            elim (eqb_tells j i) [
              | inl same ↦
                  let mine : Conflict plan j c = subst (λ k. Conflict plan k c) (sym same.1) conflict in
                  let before : j < c = subst (λ k. k < c) (sym same.1) earlier in
                  absurd (none ((list.exactly c).1 (mine.0, record { later = before; over = mine.1; ready = b.0 })))
              | inr differs ↦ subst (λ s. IsTrue (is_released s)) (status_other history kind.Release j seat i differs.1) (b.0.1 i earlier conflict)
            ]

-- so what became ready by it conflicts with the released entry
pub became_conflicts : (plan : List (List Request)) (history : List Event) (j seat : ℕ) (woken : Woken) → IsTrue (is_out (status_of history j))
    → NamesThose (IsFreedBy plan (history ++ event_of kind.Release j seat ∷ []) j) woken
    → (c : ℕ) → BecameReady plan history (history ++ event_of kind.Release j seat ∷ []) c → Conflict plan j c
unfolding freed_became
became_conflicts plan history j seat woken out (whole, list, names) c became =
    let listed = ((freed_became plan history j seat woken out (whole, list, names)).1.exactly c).1 became in
    let freed = (list.exactly c).0 listed in
    (freed.0, freed.1.over)
