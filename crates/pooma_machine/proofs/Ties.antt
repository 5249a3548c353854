-- How the queues go on standing for a plan's requests.
use Rattle.std.proofs.Common.{◌≡◌, ◌≢◌, ◌<◌, ℕ, suc, Bool, true, false, List, [], ◌∷◌, ◌++◌, length, map, get_or, Contains, refl, sym, ◌∙◌, ap, subst, arith, inl, inr, ◌⊎◌, ◌==◌, length-append}
use Rattle.std.proofs.lemmas.Bool.Decides.{eqb_tells}
use Rattle.std.proofs.lemmas.List.{append-nil, get_or_default, same_lists, get_or-map, length-map}
use Rattle.std.proofs.lemmas.List.Quantifiers.{all_pairs_push}
use Rattle.std.proofs.lemmas.List.Elements.{Contains-append_left, Contains-append_right, Contains-append_cases}
use Rattle.pooma_queue.specs.declared.queue.Mode.{Mode}
use Rattle.pooma_queue.specs.declared.queue.Asked.{Asked}
use Rattle.pooma_queue.specs.Requests.{Waiting, IsInOrder, let_go, released}
use Rattle.pooma_machine.specs.declared.step.Request.{Request}
use Rattle.pooma_machine.specs.Steps.{IsRequestList, requests_of, AsksFor}
use Rattle.pooma_machine.specs.Lines.{line, IsTied, asked_at, asks_here, line_after}
use Rattle.pooma_logic.proofs.Elements.{contains_cases, contains_first, contains_rest, contains_none, contains_map, contains_image}
use Rattle.pooma_machine.proofs.Listed.{same_test, other_test}
use Rattle.pooma_machine.proofs.Plans.{requests_of_old, requests_of_new, asks_in_plan}
use Rattle.pooma_machine.proofs.Queues.{asks_none, asks_not, not_asked}

abbrev pub request_of : ℕ → Mode → Request
request_of object mode = record { object = object; mode = mode }

abbrev pub asked_of : ℕ → Mode → Bool → Asked
asked_of entry mode released = record { entry = entry; mode = mode; released = released }

-- it matters only which entries were released
pub tied_same : (plan : List (List Request)) (f g : ℕ → Bool) (queues : List Waiting) → ((i : ℕ) → f i ≡ g i) → IsTied plan f queues → IsTied plan g queues
tied_same plan f g queues same tied =
    record {
      stands = λ o asked h. let s = tied.stands o asked h in (s.0, s.1 ∙ same asked.entry);
      there = λ i o mode asks. subst (λ (b : Bool). Contains (line queues o) (record { entry = i; mode = mode; released = b })) (same i) (tied.there i o mode asks);
      order = tied.order;
    }

-- what an entry's requests add to a queue are its own requests of that object
pub asked_contains : (entry : ℕ) (requests : List Request) (o : ℕ) (asked : Asked) → Contains (asked_at entry requests o) asked
    → (asked.entry ≡ entry) × Contains requests (record { object = o; mode = asked.mode }) × (asked.released ≡ false)
asked_contains entry [] o asked h = absurd (contains_none asked h)
asked_contains entry (r ∷ rs) o asked h =
    elim (eqb_tells r.object o) [
      | inl t ↦
          elim (contains_cases _ (asked_at entry rs o) asked (rw t.0 at h)) [
            | inl e ↦ (
              ap (λ a. a.entry) e,
              subst (λ (q : Request). Contains (r ∷ rs) q) (own (ap (λ a. a.mode) e) t.1) (contains_first r rs),
              ap (λ a. a.released) e,
            )
            | inr more ↦ let rest = asked_contains entry rs o asked more in (rest.0, contains_rest r rs _ rest.1, rest.2)
          ]
      | inr f ↦ let rest = asked_contains entry rs o asked (rw f.0 at h) in (rest.0, contains_rest r rs _ rest.1, rest.2)
    ]
  where
    own : asked.mode ≡ r.mode → r.object ≡ o → r ≡ request_of o asked.mode
    own m e = subst (λ p. r ≡ request_of p asked.mode) e (subst (λ q. r ≡ request_of r.object q) (sym m) refl)

-- and all of them
pub asked_there : (entry : ℕ) (requests : List Request) (o : ℕ) (mode : Mode) → Contains requests (record { object = o; mode = mode })
    → Contains (asked_at entry requests o) (record { entry = entry; mode = mode; released = false })
asked_there entry [] o mode h = absurd (contains_none _ h)
asked_there entry (r ∷ rs) o mode h =
    elim (contains_cases r rs _ h) [
      | inl e ↦
          let object : o ≡ r.object = ap (λ q. q.object) e in
          let m : mode ≡ r.mode = ap (λ q. q.mode) e in
          let test : (r.object == o) ≡ true = rw object (same_test r.object) in
          rw test (rw m (contains_first (record { entry = entry; mode = r.mode; released = false }) (asked_at entry rs o)))
      | inr more ↦
          elim (eqb_tells r.object o) [
            | inl t ↦ rw t.0 (contains_rest _ (asked_at entry rs o) _ (asked_there entry rs o mode more))
            | inr f ↦ rw f.0 (asked_there entry rs o mode more)
          ]
    ]

-- the rest of a list of requests is one
pub form_rest : (r : Request) (rs : List Request) → IsRequestList (r ∷ rs) → IsRequestList rs
form_rest r rs form i j d lt within = form (suc i) (suc j) d (omega arith) (omega arith)

-- and it doesn't ask for the object of the first
pub form_first : (r : Request) (rs : List Request) → IsRequestList (r ∷ rs) → asks_here rs r.object ≡ false
form_first r rs form =
    asks_none rs r.object (λ k d h same. let lt : r.object < (get_or rs k d).object = (form 0 (suc k) d (omega arith) (omega arith)).0 in absurd (omega arith))

-- an entry adds at most one request to a queue
pub asked_short : (entry : ℕ) (requests : List Request) (o : ℕ) → IsRequestList requests
    → (asked_at entry requests o ≡ []) ⊎ ((mode : Mode) × (asked_at entry requests o ≡ (record { entry = entry; mode = mode; released = false }) ∷ []))
asked_short entry [] o form = inl refl
asked_short entry (r ∷ rs) o form =
    elim (eqb_tells r.object o) [
      | inl t ↦
          let none : asked_at entry rs o ≡ [] = subst (λ p. asked_at entry rs p ≡ []) t.1 (not_asked entry rs r.object (form_first r rs form)) in
          inr (r.mode, rw (t.0, none) refl)
      | inr f ↦ rw f.0 (asked_short entry rs o (form_rest r rs form))
    ]

-- the requests of a further entry, behind all others
pub tied_entered : (plan : List (List Request)) (f g : ℕ → Bool) (queues now : List Waiting) (requests : List Request) → IsTied plan f queues → IsRequestList requests
    → ((i : ℕ) → i < length plan → g i ≡ f i) → g (length plan) ≡ false
    → ((o : ℕ) → line now o ≡ line queues o ++ asked_at (length plan) requests o)
    → IsTied (plan ++ requests ∷ []) g now
tied_entered plan f g queues now requests tied form old own lines = record { stands = stands; there = there; order = order }
  where
    stands : (o : ℕ) (asked : Asked) → Contains (line now o) asked → AsksFor (plan ++ requests ∷ []) asked.entry o asked.mode × (asked.released ≡ g asked.entry)
    stands o asked h =
        elim (Contains-append_cases (line queues o) (asked_at (length plan) requests o) asked (rw (lines o) at h)) [
          | inl before ↦
              let s = tied.stands o asked before in
              let within = asks_in_plan plan asked.entry o asked.mode s.0 in
              (rw (requests_of_old plan requests asked.entry within) s.0, s.1 ∙ sym (old asked.entry within))
          | inr new ↦
              let n = asked_contains (length plan) requests o asked new in
              (subst (λ i. AsksFor (plan ++ requests ∷ []) i o asked.mode) (sym n.0) (rw (requests_of_new plan requests) n.1), n.2 ∙ sym (ap g n.0 ∙ own))
        ]

    there : (i o : ℕ) (mode : Mode) → AsksFor (plan ++ requests ∷ []) i o mode → Contains (line now o) (record { entry = i; mode = mode; released = g i })
    there i o mode asks =
        let within = asks_in_plan (plan ++ requests ∷ []) i o mode asks in
        elim (eqb_tells i (length plan)) [
          | inl t ↦
              let mine : Contains requests (record { object = o; mode = mode }) = rw requests_of_new at (subst (λ k. AsksFor (plan ++ requests ∷ []) k o mode) t.1 asks) in
              let new = Contains-append_right (line queues o) (asked_at (length plan) requests o) _ (asked_there (length plan) requests o mode mine) in
              rw (lines o) (subst (λ (a : Asked). Contains (line queues o ++ asked_at (length plan) requests o) a) (entry_is i mode t.1) new)
          | inr n ↦
              let ne : i ≢ length plan = n.1 in
              let before : i < length plan = omega (arith, length-append plan (requests ∷ [])) in
              let was : AsksFor plan i o mode = rw (requests_of_old plan requests i before) at asks in
              rw (lines o, old i before) (Contains-append_left (line queues o) (asked_at (length plan) requests o) _ (tied.there i o mode was))
        ]
      where
        entry_is : (k : ℕ) (m : Mode) → k ≡ length plan → asked_of (length plan) m false ≡ asked_of k m (g k)
        entry_is k m e = subst (λ b. asked_of (length plan) m false ≡ asked_of k m b) (sym (ap g e ∙ own)) (ap (λ n. asked_of n m false) (sym e))

    order : (o : ℕ) → IsInOrder (line now o)
    order o =
        rw (lines o) (elim (asked_short (length plan) requests o form) [
          | inl none ↦ rw (none, append-nil) (tied.order o)
          | inr one ↦
              rw one.1 (all_pairs_push (λ a b. a.entry < b.entry) (line queues o) _ (tied.order o) (λ k d h.
              let asked = get_or (line queues o) k d in
              asks_in_plan plan (get_or (line queues o) k d).entry o (get_or (line queues o) k d).mode (tied.stands o (get_or (line queues o) k d) (k, h, get_or_self (line queues o) k d h)).0))
        ])
      where
        get_or_self : (xs : List Asked) (k : ℕ) (d : Asked) → k < length xs → get_or xs k (get_or xs k d) ≡ get_or xs k d
        get_or_self xs k d h = get_or_default xs k (get_or xs k d) d h

-- an entry that let go keeps its number and its mode
pub let_go_entry : (j : ℕ) (asked : Asked) → (let_go j asked).entry ≡ asked.entry
let_go_entry j asked = elim (eqb_tells asked.entry j) [ inl t ↦ rw t.0 refl | inr f ↦ rw f.0 refl ]

pub let_go_mode : (j : ℕ) (asked : Asked) → (let_go j asked).mode ≡ asked.mode
let_go_mode j asked = elim (eqb_tells asked.entry j) [ inl t ↦ rw t.0 refl | inr f ↦ rw f.0 refl ]

-- where an entry doesn't ask for an object, none of the requests there is its own, and they stay as they are
pub line_let_go : (plan : List (List Request)) (f : ℕ → Bool) (queues : List Waiting) (j o : ℕ) → IsTied plan f queues
    → line_after j (requests_of plan j) o (line queues o) ≡ map (let_go j) (line queues o)
line_let_go plan f queues j o tied = by_test (asks_here (requests_of plan j) o) refl
  where
    other : asks_here (requests_of plan j) o ≡ false → (k : ℕ) (d : Asked) → k < length (line queues o) → (get_or (line queues o) k d).entry ≢ j
    other none k d h own =
        let s = tied.stands o (get_or (line queues o) k d) (k, h, get_or_default (line queues o) k (get_or (line queues o) k d) d h) in
        asks_not (requests_of plan j) o (get_or (line queues o) k d).mode none (subst (λ i. AsksFor plan i o (get_or (line queues o) k d).mode) own s.0)

    by_test : (b : Bool) → asks_here (requests_of plan j) o ≡ b → line_after j (requests_of plan j) o (line queues o) ≡ map (let_go j) (line queues o)
    by_test true e = rw e refl
    by_test false e =
        rw e (same_lists (line queues o) (map (let_go j) (line queues o)) (sym (length-map (line queues o) (let_go j))) (λ k d h.
        sym (get_or-map (let_go j) (line queues o) k d d h ∙ rw (other_test (get_or (line queues o) k d).entry j (other e k d h)) refl)))

-- an entry let go of all that it asked for
pub tied_let_go : (plan : List (List Request)) (f g : ℕ → Bool) (queues now : List Waiting) (j : ℕ) → IsTied plan f queues
    → ((i : ℕ) → i ≢ j → g i ≡ f i) → g j ≡ true
    → ((o : ℕ) → line now o ≡ line_after j (requests_of plan j) o (line queues o))
    → IsTied plan g now
tied_let_go plan f g queues now j tied others own lines = record { stands = stands; there = there; order = order }
  where
    line_is : (o : ℕ) → line now o ≡ map (let_go j) (line queues o)
    line_is o = lines o ∙ line_let_go plan f queues j o tied

    flag : (asked : Asked) → asked.released ≡ f asked.entry → (let_go j asked).released ≡ g asked.entry
    flag asked was =
        elim (eqb_tells asked.entry j) [
          | inl t ↦ rw t.0 (sym (ap g t.1 ∙ own))
          | inr n ↦ rw n.0 (was ∙ sym (others asked.entry n.1))
        ]

    stands : (o : ℕ) (asked : Asked) → Contains (line now o) asked → AsksFor plan asked.entry o asked.mode × (asked.released ≡ g asked.entry)
    stands o asked h =
        let was = contains_image (let_go j) (line queues o) asked (rw (line_is o) at h) in
        let s = tied.stands o was.0 was.1 in
        subst (λ (a : Asked). AsksFor plan a.entry o a.mode × (a.released ≡ g a.entry)) (sym was.2)
        (rw (let_go_entry j was.0, let_go_mode j was.0) (s.0, flag was.0 s.1))

    there : (i o : ℕ) (mode : Mode) → AsksFor plan i o mode → Contains (line now o) (record { entry = i; mode = mode; released = g i })
    there i o mode asks =
        rw (line_is o) (subst (λ (a : Asked). Contains (map (let_go j) (line queues o)) a) (same i mode) (contains_map (let_go j) (line queues o) (asked_of i mode (f i)) (tied.there i o mode asks)))
      where
        same : (k : ℕ) (m : Mode) → let_go j (asked_of k m (f k)) ≡ asked_of k m (g k)
        same k m =
            elim (eqb_tells k j) [
              | inl t ↦ rw t.0 (ap (λ b. asked_of k m b) (sym (ap g t.1 ∙ own)))
              | inr n ↦ rw n.0 (ap (λ b. asked_of k m b) (sym (others k n.1)))
            ]

    order : (o : ℕ) → IsInOrder (line now o)
    order o =
        rw (line_is o) (λ i k d lt within.
        let l : k < length (line queues o) = omega (arith, length-map (line queues o) (let_go j)) in
        let li : i < length (line queues o) = omega arith in
        rw (get_or-map (let_go j) (line queues o) i d d li, get_or-map (let_go j) (line queues o) k d d l, let_go_entry j (get_or (line queues o) i d), let_go_entry j (get_or (line queues o) k d)) (tied.order o i k d lt l))
