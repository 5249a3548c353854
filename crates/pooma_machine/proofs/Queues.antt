-- What single steps do to the queues of the objects.
use Rattle.std.proofs.Common.{◌≡◌, ◌≢◌, ◌+◌, ◌<◌, ◌≤◌, ℕ, suc, false, List, [], ◌∷◌, ◌++◌, length, map, get_or, Contains, take, set, refl, sym, ◌∙◌, ap, subst, arith, inl, inr, ◌||◌, get_or-set_same, get_or-set_other, append_assoc, Result, Ok, Err, OnOk, IsOk, length-take}
use Rattle.std.proofs.Math.Bool.{or-false, or-true}
use Rattle.std.proofs.lemmas.Bool.Decides.{eqb_tells}
use Rattle.std.proofs.lemmas.List.{append-nil, take_more, get_or-take, get_or_default}
use Rattle.pooma_queue.specs.declared.queue.Mode.{Mode}
use Rattle.pooma_logic.proofs.Elements.{contains_cases, contains_none}
use Rattle.pooma_queue.specs.Requests.{Waiting, let_go}
use Rattle.pooma_machine.specs.declared.step.Request.{Request}
use Rattle.pooma_machine.specs.Steps.{IsRequestList}
use Rattle.pooma_machine.specs.Lines.{queue_at, line, room_at, asked_at, asks_here, line_after}

-- the queue that was written, and the others
pub queue_written : (queues : List Waiting) (k : ℕ) (w : Waiting) → k < length queues → queue_at (set queues k w) k ≡ w
queue_written queues k w h = get_or-set_same queues k w _ h

pub queue_kept : (queues : List Waiting) (k o : ℕ) (w : Waiting) → k ≢ o → queue_at (set queues k w) o ≡ queue_at queues o
queue_kept queues k o w ne = get_or-set_other queues k o w _ (λ e. ne (sym e))

-- what two parts of a list of requests ask for
pub asked_append : (entry : ℕ) (xs ys : List Request) (o : ℕ) → asked_at entry (xs ++ ys) o ≡ asked_at entry xs o ++ asked_at entry ys o
asked_append entry [] ys o = refl
asked_append entry (x ∷ xs) ys o =
    elim (eqb_tells x.object o) [
      | inl t ↦ rw t.0 (ap (λ rest. (record { entry = entry; mode = x.mode; released = false }) ∷ rest) (asked_append entry xs ys o))
      | inr f ↦ rw f.0 (asked_append entry xs ys o)
    ]

pub asks_append : (xs ys : List Request) (o : ℕ) → asks_here (xs ++ ys) o ≡ (asks_here xs o || asks_here ys o)
asks_append [] ys o = refl
asks_append (x ∷ xs) ys o = elim (eqb_tells x.object o) [ inl t ↦ rw t.0 refl | inr f ↦ rw f.0 (asks_append xs ys o) ]

-- an object that is not asked for gets nothing
pub not_asked : (entry : ℕ) (requests : List Request) (o : ℕ) → asks_here requests o ≡ false → asked_at entry requests o ≡ []
not_asked entry [] o none = refl
not_asked entry (x ∷ xs) o none =
    elim (eqb_tells x.object o) [
      | inl t ↦ absurd (cc (rw t.0 at none))
      | inr f ↦ rw f.0 (not_asked entry xs o (rw f.0 at none))
    ]

-- none of the requests is for an object, if each is for another one
pub asks_none : (requests : List Request) (o : ℕ) → ((k : ℕ) (d : Request) → k < length requests → (get_or requests k d).object ≢ o) → asks_here requests o ≡ false
asks_none [] o each = refl
asks_none (x ∷ xs) o each =
    elim (eqb_tells x.object o) [
      | inl t ↦ absurd (each 0 x (omega arith) t.1)
      | inr f ↦ rw f.0 (asks_none xs o (λ k d h. each (suc k) d (omega arith)))
    ]

-- an object that is not asked for is in none of the requests
pub asks_not : (requests : List Request) (o : ℕ) (mode : Mode) → asks_here requests o ≡ false → Contains requests (record { object = o; mode = mode }) → ⊥
asks_not [] o mode none h = contains_none _ h
asks_not (x ∷ xs) o mode none h =
    elim (eqb_tells x.object o) [
      | inl t ↦ absurd (cc (rw t.0 at none))
      | inr f ↦
          elim (contains_cases x xs _ h) [
            | inl e ↦ absurd (f.1 (sym (ap (λ q. q.object) e)))
            | inr more ↦ asks_not xs o mode (rw f.0 at none) more
          ]
    ]

-- no request before the i-th is for its object
pub not_before : (requests : List Request) (i : ℕ) (d : Request) → IsRequestList requests → i < length requests → asks_here (take i requests) (get_or requests i d).object ≡ false
not_before requests i d form h =
    asks_none (take i requests) (get_or requests i d).object (λ k e within same.
    let l : k < i = omega (arith, length-take i requests) in
    let lt : (get_or requests k e).object < (get_or requests i e).object = (form k i e l h).0 in
    let here : (get_or requests k e).object ≡ (get_or requests i d).object = ap (λ r. r.object) (sym (get_or-take i requests k e l)) ∙ same in
    let there : (get_or requests i e).object ≡ (get_or requests i d).object = ap (λ r. r.object) (get_or_default requests i e d h) in
    absurd (omega arith))

-- what one more of the requests asks for
pub asked_more : (entry : ℕ) (requests : List Request) (i : ℕ) (d : Request) (o : ℕ) → i < length requests
    → asked_at entry (take (i + 1) requests) o ≡ asked_at entry (take i requests) o ++ asked_at entry (get_or requests i d ∷ []) o
asked_more entry requests i d o h =
    ap (λ rs. asked_at entry rs o) (take_more requests i d h) ∙ asked_append entry (take i requests) (get_or requests i d ∷ []) o

pub asks_more : (requests : List Request) (i : ℕ) (d : Request) (o : ℕ) → i < length requests
    → asks_here (take (i + 1) requests) o ≡ (asks_here (take i requests) o || asks_here (get_or requests i d ∷ []) o)
asks_more requests i d o h =
    ap (λ rs. asks_here rs o) (take_more requests i d h) ∙ asks_append (take i requests) (get_or requests i d ∷ []) o

-- the queues after some of an entry's requests were put into them
pub record Entered (old now : List Waiting) (entry : ℕ) (done : List Request) : Type 0 where
  pub lines : (o : ℕ) → line now o ≡ line old o ++ asked_at entry done o
  pub rooms : (o : ℕ) → room_at old o ≤ room_at now o + 1
  pub rest : (o : ℕ) → asks_here done o ≡ false → room_at old o ≤ room_at now o

pub entered_more : (old now : List Waiting) (entry : ℕ) (requests : List Request) (i : ℕ) (d : Request) (w : Waiting)
    → IsRequestList requests → i < length requests → (get_or requests i d).object < length now
    → w.requests ≡ line now (get_or requests i d).object ++ record { entry = entry; mode = (get_or requests i d).mode; released = false } ∷ []
    → room_at now (get_or requests i d).object ≤ w.room + 1
    → Entered old now entry (take i requests)
    → Entered old (set now (get_or requests i d).object w) entry (take (i + 1) requests)
entered_more old now entry requests i d w form h there put room before = record { lines = lines; rooms = rooms; rest = rest }
  where
    here : (o : ℕ) → (get_or requests i d).object ≡ o → line (set now (get_or requests i d).object w) o ≡ line old o ++ (asked_at entry (take i requests) o ++ (record { entry = entry; mode = (get_or requests i d).mode; released = false }) ∷ [])
    here o e =
        subst (λ p. line (set now (get_or requests i d).object w) p ≡ line old p ++ (asked_at entry (take i requests) p ++ (record { entry = entry; mode = (get_or requests i d).mode; released = false }) ∷ [])) e
        (ap (λ q. q.requests) (queue_written now (get_or requests i d).object w there)
        ∙ (put
        ∙ (ap (λ xs. xs ++ (record { entry = entry; mode = (get_or requests i d).mode; released = false }) ∷ []) (before.lines (get_or requests i d).object)
        ∙ append_assoc (line old (get_or requests i d).object) (asked_at entry (take i requests) (get_or requests i d).object) ((record { entry = entry; mode = (get_or requests i d).mode; released = false }) ∷ []))))

    lines : (o : ℕ) → line (set now (get_or requests i d).object w) o ≡ line old o ++ asked_at entry (take (i + 1) requests) o
    lines o =
        rw (asked_more entry requests i d o h)
        (elim (eqb_tells (get_or requests i d).object o) [
          | inl t ↦ rw t.0 (here o t.1)
          | inr f ↦ rw (f.0, append-nil) (ap (λ q. q.requests) (queue_kept now (get_or requests i d).object o w f.1) ∙ before.lines o)
        ])

    rooms : (o : ℕ) → room_at old o ≤ room_at (set now (get_or requests i d).object w) o + 1
    rooms o =
        elim (eqb_tells (get_or requests i d).object o) [
          | inl t ↦
              let e = ap (λ q. q.room) (queue_written now (get_or requests i d).object w there) in
              let r = before.rest (get_or requests i d).object (not_before requests i d form h) in
              subst (λ p. room_at old p ≤ room_at (set now (get_or requests i d).object w) p + 1) t.1 (rw e (omega arith))
          | inr f ↦ rw (ap (λ q. q.room) (queue_kept now (get_or requests i d).object o w f.1)) (before.rooms o)
        ]

    rest : (o : ℕ) → asks_here (take (i + 1) requests) o ≡ false → room_at old o ≤ room_at (set now (get_or requests i d).object w) o
    rest o none =
        elim (eqb_tells (get_or requests i d).object o) [
          | inl t ↦ absurd (cc (rw (asks_more requests i d o h, t.0, or-true) at none))
          | inr f ↦ rw (ap (λ q. q.room) (queue_kept now (get_or requests i d).object o w f.1)) (before.rest o (rw (asks_more requests i d o h, f.0, or-false) at none))
        ]

-- the queues after an entry let go of some of what it asked for
pub record LetGo (old now : List Waiting) (entry : ℕ) (done : List Request) : Type 0 where
  pub lines : (o : ℕ) → line now o ≡ line_after entry done o (line old o)
  pub rooms : (o : ℕ) → room_at now o ≡ room_at old o

pub let_go_more : (old now : List Waiting) (entry : ℕ) (requests : List Request) (i : ℕ) (d : Request) (w : Waiting)
    → IsRequestList requests → i < length requests → (get_or requests i d).object < length now
    → w.requests ≡ map (let_go entry) (line now (get_or requests i d).object)
    → w.room ≡ room_at now (get_or requests i d).object
    → LetGo old now entry (take i requests)
    → LetGo old (set now (get_or requests i d).object w) entry (take (i + 1) requests)
let_go_more old now entry requests i d w form h there put room before = record { lines = lines; rooms = rooms }
  where
    here : line (set now (get_or requests i d).object w) (get_or requests i d).object ≡ map (let_go entry) (line old (get_or requests i d).object)
    here =
        let none = not_before requests i d form h in
        let same : line now (get_or requests i d).object ≡ line old (get_or requests i d).object = (rw none at (before.lines (get_or requests i d).object)) in
        ap (λ q. q.requests) (queue_written now (get_or requests i d).object w there) ∙ (put ∙ ap (map (let_go entry)) same)

    lines : (o : ℕ) → line (set now (get_or requests i d).object w) o ≡ line_after entry (take (i + 1) requests) o (line old o)
    lines o =
        rw (asks_more requests i d o h)
        (elim (eqb_tells (get_or requests i d).object o) [
          | inl t ↦ rw (t.0, or-true) (subst (λ p. line (set now (get_or requests i d).object w) p ≡ map (let_go entry) (line old p)) t.1 here)
          | inr f ↦ rw (f.0, or-false) (ap (λ q. q.requests) (queue_kept now (get_or requests i d).object o w f.1) ∙ before.lines o)
        ])

    rooms : (o : ℕ) → room_at (set now (get_or requests i d).object w) o ≡ room_at old o
    rooms o =
        elim (eqb_tells (get_or requests i d).object o) [
          | inl t ↦ subst (λ p. room_at (set now (get_or requests i d).object w) p ≡ room_at old p) t.1 (ap (λ q. q.room) (queue_written now (get_or requests i d).object w there) ∙ (room ∙ before.rooms (get_or requests i d).object))
          | inr f ↦ ap (λ q. q.room) (queue_kept now (get_or requests i d).object o w f.1) ∙ before.rooms o
        ]

-- a queue that was read
pub queue_read : (queues : List Waiting) (k : ℕ) (read : Waiting) → k < length queues → get_or queues k read ≡ queue_at queues k
queue_read queues k read h = get_or_default queues k read _ h

-- until an entry's next request is put into its queue, this queue is as it was
pub line_not_yet : (old now : List Waiting) (entry : ℕ) (requests : List Request) (i : ℕ) (d : Request) → IsRequestList requests → i < length requests
    → Entered old now entry (take i requests) → line now (get_or requests i d).object ≡ line old (get_or requests i d).object
line_not_yet old now entry requests i d form h before =
    before.lines (get_or requests i d).object
    ∙ rw (not_asked entry (take i requests) (get_or requests i d).object (not_before requests i d form h), append-nil) refl

-- and it has the room that it had
pub room_not_yet : (old now : List Waiting) (entry : ℕ) (requests : List Request) (i : ℕ) (d : Request) → IsRequestList requests → i < length requests
    → Entered old now entry (take i requests) → room_at old (get_or requests i d).object ≤ room_at now (get_or requests i d).object
room_not_yet old now entry requests i d form h before = before.rest (get_or requests i d).object (not_before requests i d form h)

-- what holds at a value, where there is one
pub on_ok_holds : {T E : Type 0} (r : Result T E) (P : Type 0) → OnOk r P → IsOk r → P
on_ok_holds (Ok x) P h ok = h
on_ok_holds (Err e) P h ok = absurd (cc ok)
