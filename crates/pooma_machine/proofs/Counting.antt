-- What the queues count is how many pairs of an entry and an object hold an entry back.
use Rattle.std.proofs.Common.{◌≡◌, ◌↔◌, ◌+◌, ◌-◌, ◌*◌, ◌^◌, ◌<◌, ◌≤◌, ℕ, zero, suc, Bool, true, false, List, [], ◌∷◌, ◌++◌, length, map, take, get_or, filter, All, AllPairs, Contains, refl, sym, ◌∙◌, ap, subst, arith, inl, inr, length-append}
use Rattle.std.proofs.lemmas.List.{length-map, get_or_default}
use Rattle.std.proofs.lemmas.List.Sums.{length-filter, sum_by-cons, sum_by_more}
use Rattle.std.proofs.lemmas.List.Elements.{Contains-append_left, Contains-append_right, Contains-append_cases}
use Rattle.pooma_queue.specs.declared.queue.Mode.{Mode}
use Rattle.pooma_queue.specs.declared.queue.Asked.{Asked}
use Rattle.pooma_queue.specs.Requests.{Waiting, IsInOrder, IsInTurn, AsksHere, conflicts, holds_back, held_back_by}
use Rattle.pooma_machine.specs.declared.step.Request.{Request}
use Rattle.pooma_machine.specs.declared.step.Event.{Event}
use Rattle.pooma_machine.specs.Steps.{IsRequestList, requests_of, NothingBlocks, status_of, is_released}
use Rattle.pooma_machine.specs.Counts.{Hold, Holds, IsCount}
use Rattle.pooma_machine.specs.Kept.{IsSound}
use Rattle.pooma_machine.specs.Lines.{line, IsTied, counted}
use Rattle.pooma_logic.proofs.Elements.{contains_cases, contains_first, contains_rest, contains_none, contains_map, contains_image}
use Rattle.pooma_logic.proofs.Tested.{contains_kept, kept_passes}
use Rattle.pooma_machine.proofs.Ties.{request_of, asked_of, form_rest}
use Rattle.pooma_machine.proofs.Plans.{asks_in_plan}
use Rattle.pooma_machine.proofs.Holders.{is_holder, holder_says, holder_passes, order_rest, order_first, form_below}

-- an element is in front of all those behind it
pub pairs_cons : {X : Type 0} (R : X → X → Type 0) (x : X) (xs : List X) → ((y : X) → Contains xs y → R x y) → AllPairs R xs → AllPairs R (x ∷ xs)
pairs_cons R x xs first rest zero zero d lt within = absurd (omega arith)
pairs_cons R x xs first rest zero (suc j) d lt within = first (get_or xs j d) (j, omega arith, get_or_default xs j (get_or xs j d) d (omega arith))
pairs_cons R x xs first rest (suc i) zero d lt within = absurd (omega arith)
pairs_cons R x xs first rest (suc i) (suc j) d lt within = rest i j d (omega arith) (omega arith)

pub pairs_rest : {X : Type 0} (R : X → X → Type 0) (x : X) (xs : List X) → AllPairs R (x ∷ xs) → AllPairs R xs
pairs_rest R x xs all i j d lt within = all (suc i) (suc j) d (omega arith) (omega arith)

pub pairs_first : {X : Type 0} (R : X → X → Type 0) (x : X) (xs : List X) (y : X) → AllPairs R (x ∷ xs) → Contains xs y → R x y
pairs_first R x xs y all h = let within = h.1 in subst (R x) h.2 (all 0 (suc h.0) y (omega arith) (omega (arith, within)))

-- of two lists of which each element of the one may be in front of each of the other
pub pairs_append : {X : Type 0} (R : X → X → Type 0) (xs ys : List X) → AllPairs R xs → AllPairs R ys → ((x y : X) → Contains xs x → Contains ys y → R x y) → AllPairs R (xs ++ ys)
pairs_append R [] ys one other across = other
pairs_append R (x ∷ xs) ys one other across =
    pairs_cons R x (xs ++ ys) (λ y h. elim (Contains-append_cases xs ys y h) [ inl l ↦ pairs_first R x xs y one l | inr r ↦ across x y (contains_first x xs) r ])
    (pairs_append R xs ys (pairs_rest R x xs one) other (λ u v hu hv. across u v (contains_rest x xs u hu) hv))

abbrev pub Differ : Hold → Hold → Type 0
Differ a b = a ≡ b → ⊥

abbrev pub hold_at : ℕ → Asked → Hold
hold_at object asked = record { by = asked.entry; object = object }

-- what holds entry j back over the object of a request, and over those of a list of requests
abbrev pub holds_over : List Waiting → ℕ → Request → List Hold
holds_over queues j r = map (hold_at r.object) (filter (is_holder j r.mode) (line queues r.object))

abbrev pub holds_of : List Waiting → ℕ → List Request → List Hold
holds_of queues j [] = []
holds_of queues j (r ∷ rs) = holds_over queues j r ++ holds_of queues j rs

-- they are as many as were counted
pub holds_length : (queues : List Waiting) (j : ℕ) (requests : List Request) → counted queues j requests ≡ length (holds_of queues j requests)
holds_length queues j [] = refl
holds_length queues j (r ∷ rs) =
    let rest = holds_length queues j rs in
    let one : counted queues j (r ∷ rs) ≡ held_back_by (line queues r.object) j r.mode + counted queues j rs = sum_by-cons (λ (q : Request). held_back_by (line queues q.object) j q.mode) r rs in
    let both = length-append (holds_over queues j r) (holds_of queues j rs) in
    let over = length-map (filter (is_holder j r.mode) (line queues r.object)) (hold_at r.object) in
    let kept : length (filter (is_holder j r.mode) (line queues r.object)) ≡ held_back_by (line queues r.object) j r.mode = length-filter (is_holder j r.mode) (line queues r.object) in
    omega (arith, rest, one, both, over, kept)

-- each is of some request
pub hold_from : (queues : List Waiting) (j : ℕ) (requests : List Request) (hold : Hold) → Contains (holds_of queues j requests) hold
    → (r : Request) × Contains requests r × Contains (holds_over queues j r) hold
hold_from queues j [] hold h = absurd (contains_none hold h)
hold_from queues j (r ∷ rs) hold h =
    elim (Contains-append_cases (holds_over queues j r) (holds_of queues j rs) hold h) [
      | inl l ↦ (r, contains_first r rs, l)
      | inr more ↦ let rest = hold_from queues j rs hold more in (rest.0, contains_rest r rs rest.0 rest.1, rest.2)
    ]

pub hold_among : (queues : List Waiting) (j : ℕ) (requests : List Request) (r : Request) (hold : Hold) → Contains requests r → Contains (holds_over queues j r) hold → Contains (holds_of queues j requests) hold
hold_among queues j [] r hold asks h = absurd (contains_none r asks)
hold_among queues j (x ∷ xs) r hold asks h =
    elim (contains_cases x xs r asks) [
      | inl same ↦ Contains-append_left (holds_over queues j x) (holds_of queues j xs) hold (subst (λ q. Contains (holds_over queues j q) hold) same h)
      | inr more ↦ Contains-append_right (holds_over queues j x) (holds_of queues j xs) hold (hold_among queues j xs r hold more h)
    ]

-- the object of a hold is that of its request
pub hold_object : (queues : List Waiting) (j : ℕ) (r : Request) (hold : Hold) → Contains (holds_over queues j r) hold → hold.object ≡ r.object
hold_object queues j r hold h = ap (λ (x : Hold). x.object) (contains_image (hold_at r.object) (filter (is_holder j r.mode) (line queues r.object)) hold h).2

-- no two of one object are the same, since a queue has one request of an entry
pub over_distinct : (object : ℕ) (p : Asked → Bool) (xs : List Asked) → IsInOrder xs → AllPairs Differ (map (hold_at object) (filter p xs))
over_distinct object p [] order = λ i j d lt within. absurd (omega arith)
over_distinct object p (x ∷ xs) order = by (over_distinct object p xs (order_rest x xs order)) (p x) refl
  where
    by : AllPairs Differ (map (hold_at object) (filter p xs)) → (t : Bool) → p x ≡ t → AllPairs Differ (map (hold_at object) (filter p (x ∷ xs)))
    by rest true e =
        rw e (pairs_cons Differ (hold_at object x) (map (hold_at object) (filter p xs)) (λ y h same.
        let from = contains_image (hold_at object) (filter p xs) y h in
        let below : x.entry < from.0.entry = order_first x xs from.0 order (kept_passes p xs from.0 from.1).0 in
        let equal : x.entry ≡ from.0.entry = ap (λ (a : Hold). a.by) (same ∙ from.2) in
        absurd (omega (arith, below, equal))) rest)
    by rest false e = rw e rest

-- nor of two objects
pub all_distinct : (queues : List Waiting) (j : ℕ) (requests : List Request) → IsRequestList requests → ((o : ℕ) → IsInOrder (line queues o)) → AllPairs Differ (holds_of queues j requests)
all_distinct queues j [] form order = λ i k d lt within. absurd (omega arith)
all_distinct queues j (r ∷ rs) form order =
    pairs_append Differ (holds_over queues j r) (holds_of queues j rs) (over_distinct r.object (is_holder j r.mode) (line queues r.object) (order r.object)) (all_distinct queues j rs (form_rest r rs form) order)
    (λ x y hx hy same.
    let from = hold_from queues j rs y hy in
    let below : r.object < from.0.object = form_below r rs from.0 form from.1 in
    let one = hold_object queues j r x hx in
    let other = hold_object queues j from.0 y from.2 in
    let equal : x.object ≡ y.object = ap (λ (a : Hold). a.object) same in
    absurd (omega (arith, below, one, other, equal)))

-- what is counted is the number of the holds on an entry
pub counted_is : (plan : List (List Request)) (history : List Event) (queues : List Waiting) (j : ℕ) → IsTied plan (λ i. is_released (status_of history i)) queues → IsRequestList (requests_of plan j)
    → IsCount plan history j (counted queues j (requests_of plan j))
counted_is plan history queues j tied form = (
  holds_of queues j (requests_of plan j),
  all_distinct queues j (requests_of plan j) form tied.order,
  λ hold. (says hold, has hold),
  holds_length queues j (requests_of plan j),
)
  where
    says : (hold : Hold) → Contains (holds_of queues j (requests_of plan j)) hold → Holds plan history j hold
    says hold h =
        let from = hold_from queues j (requests_of plan j) hold h in
        let r = from.0 in
        let image = contains_image (hold_at r.object) (filter (is_holder j r.mode) (line queues r.object)) hold from.2 in
        let kept = kept_passes (is_holder j r.mode) (line queues r.object) image.0 image.1 in
        let tells = holder_says j r.mode image.0 kept.1 in
        let stands = tied.stands r.object image.0 kept.0 in
        subst (Holds plan history j) (sym image.2)
        (record { earlier = tells.0; unreleased = sym stands.1 ∙ tells.1; over = record { one = image.0.mode; other = r.mode; asks_one = stands.0; asks_other = from.1; conflicting = tells.2 } })

    has : (hold : Hold) → Holds plan history j hold → Contains (holds_of queues j (requests_of plan j)) hold
    has hold holds =
        let over = holds.over in
        let asked = asked_of hold.by over.one (is_released (status_of history hold.by)) in
        let there = tied.there hold.by hold.object over.one over.asks_one in
        let kept = contains_kept (is_holder j over.other) (line queues hold.object) asked there (holder_passes j over.other asked holds.earlier holds.unreleased over.conflicting) in
        hold_among queues j (requests_of plan j) (request_of hold.object over.other) hold over.asks_other (contains_map (hold_at hold.object) (filter (is_holder j over.other) (line queues hold.object)) asked kept)

-- there is none exactly where nothing blocks the entry
pub count_none : (plan : List (List Request)) (history : List Event) (j count : ℕ) → IsCount plan history j count → (count ≡ 0) ↔ NothingBlocks plan history j
count_none plan history j count is = (free, none)
  where
    free : count ≡ 0 → NothingBlocks plan history j
    free nothing i earlier conflict = by (is_released (status_of history i)) refl
      where
        by : (t : Bool) → is_released (status_of history i) ≡ t → is_released (status_of history i) ≡ true
        by true e = e
        by false e =
            let there = (is.2 (record { by = i; object = conflict.0 })).1 (record { earlier = earlier; unreleased = e; over = conflict.1 }) in
            let within = there.1 in
            absurd (omega (arith, within, is.3, nothing))

    none : NothingBlocks plan history j → count ≡ 0
    none nothing = by is.0 (λ hold h. let holds = (is.2 hold).0 h in cc (sym holds.unreleased ∙ nothing hold.by holds.earlier (hold.object, holds.over))) is.3
      where
        by : (holds : List Hold) → ((hold : Hold) → Contains holds hold → ⊥) → count ≡ length holds → count ≡ 0
        by [] never e = e
        by (h ∷ hs) never e = absurd (never h (contains_first h hs))

-- what holds nothing back was released, or does not conflict
pub holds_not : (mode : Mode) (asked : Asked) → (conflicts asked.mode mode ≡ true → asked.released ≡ true) → holds_back mode asked ≡ false
holds_not mode asked gone = by asked.released (conflicts asked.mode mode) refl refl
  where
    by : (r c : Bool) → asked.released ≡ r → conflicts asked.mode mode ≡ c → holds_back mode asked ≡ false
    by true c e f = rw e refl
    by false false e f = rw (e, f) refl
    by false true e f = absurd (cc (sym e ∙ gone f))

-- nothing in a queue was released before its turn
pub in_turn : (plan : List (List Request)) (history : List Event) (queues : List Waiting) (o : ℕ) → IsSound plan history → IsTied plan (λ i. is_released (status_of history i)) queues → IsInTurn (line queues o)
in_turn plan history queues o sound tied i k d lt within gone =
    let xs = line queues o in
    let one : Contains (line queues o) (get_or (line queues o) i d) = (i, omega (arith, lt, within), get_or_default xs i (get_or xs i d) d (omega (arith, lt, within))) in
    let other : Contains (line queues o) (get_or (line queues o) k d) = (k, within, get_or_default xs k (get_or xs k d) d within) in
    let first = tied.stands o (get_or (line queues o) i d) one in
    let later = tied.stands o (get_or (line queues o) k d) other in
    let before : (get_or (line queues o) i d).entry < (get_or (line queues o) k d).entry = tied.order o i k d lt within in
    holds_not (get_or (line queues o) k d).mode (get_or (line queues o) i d) (λ conflicting.
    elim (sound.passed (get_or (line queues o) k d).entry (asks_in_plan plan (get_or (line queues o) k d).entry o (get_or (line queues o) k d).mode later.0)) [
      | inl waits ↦ absurd (cc (sym (ap is_released waits) ∙ (sym later.1 ∙ gone)))
      | inr free ↦
          first.1 ∙ free (get_or (line queues o) i d).entry before
          (o, record { one = (get_or (line queues o) i d).mode; other = (get_or (line queues o) k d).mode; asks_one = first.0; asks_other = later.0; conflicting = conflicting })
    ])

-- an entry's requests stand in the queues
pub asks_here : (plan : List (List Request)) (f : ℕ → Bool) (queues : List Waiting) (j : ℕ) → IsTied plan f queues → All (λ r. AsksHere j r.mode (line queues r.object)) (requests_of plan j)
asks_here plan f queues j tied k d h =
    let r = get_or (requests_of plan j) k d in
    (f j, tied.there j (get_or (requests_of plan j) k d).object (get_or (requests_of plan j) k d).mode (k, h, get_or_default (requests_of plan j) k (get_or (requests_of plan j) k d) d h))

-- a request stands not behind the place that its object's number names
pub request_below : (requests : List Request) → IsRequestList requests → (i : ℕ) (d : Request) → i < length requests → i ≤ (get_or requests i d).object
request_below requests form zero d within = omega arith
request_below requests form (suc i) d within =
    let before = request_below requests form i d (omega arith) in
    let above : (get_or requests i d).object < (get_or requests (suc i) d).object = (form i (suc i) d (omega arith) within).0 in
    omega (arith, before, above)

-- one request more
pub counted_more : (queues : List Waiting) (j : ℕ) (requests : List Request) (i : ℕ) (d r : Request) (n total : ℕ) → i < length requests → get_or requests i d ≡ r → n ≡ held_back_by (line queues r.object) j r.mode
    → total ≡ counted queues j (take i requests) → total + n ≡ counted queues j (take (i + 1) requests)
counted_more queues j requests i d r n total within is counts before =
    let more = sum_by_more (λ (q : Request). held_back_by (line queues q.object) j q.mode) requests i d within in
    let here : held_back_by (line queues (get_or requests i d).object) j (get_or requests i d).mode ≡ held_back_by (line queues r.object) j r.mode = ap (λ (q : Request). held_back_by (line queues q.object) j q.mode) is in
    omega (arith, more, here, counts, before)

-- the counts over objects of numbers of 32 bits, of entries of such, make one of 64 bits
pub sum_fits : (index object entry total n : ℕ) → index ≤ object → object < 2 ^ 32 → entry < 2 ^ 32 → total ≤ index * (2 ^ 32 - 1) → n ≤ entry → total + n < 2 ^ 64
sum_fits index object entry total n below small few sum more = omega (arith, below, small, few, sum, more)
