-- How many of the requests before a place hold back one of some mode.
use Rattle.std.proofs.Common.{Some, min, IfSome, slice_get, get_or-set_same, get_or-set_other, length-take, length-set, ◌≡◌, ◌+◌, ◌-◌, ◌<◌, ◌≤◌, ◌&&◌, ℕ, zero, suc, Bool, true, false, not, cond, nat_lt, List, [], ◌∷◌, ◌++◌, length, map, take, get_or, set, refl, sym, ◌∙◌, ap, subst, arith, inl, inr, length-append}
use Rattle.std.proofs.lemmas.Bool.Decides.{leb_tells, eqb_tells}
use Rattle.std.proofs.lemmas.Bool.{lt-ltb, lt-leb}
use Rattle.std.proofs.lemmas.List.{length-map, map_push, get_or_append_left, take_all, take-append-le, get_or_default}
use Rattle.std.proofs.lemmas.Option.{slice_get_read}
use Rattle.std.proofs.lemmas.List.Sums.{sum_by-cons, sum_by_push, sum_by-set, count_by-le-length, count_by_more_no, count_by_more_yes, fails_before_first, passes_at_first, prefix_len_is}
use Rattle.std.proofs.Math.Seq.{map-set_same, get_or-append_seam}
use Rattle.std.specs.List.{count_by, prefix_len}
use Rattle.pooma_queue.specs.declared.queue.Mode.{Mode}
use Rattle.pooma_queue.specs.declared.queue.Mode.TheVariants.{Read, Write}
use Rattle.pooma_queue.specs.declared.queue.Asked.{Asked}
use Rattle.pooma_queue.specs.Requests.{holds_back, first_holding, released, is_to_write, held_back_by, AsksHere, IsInOrder, IsInTurn, IsTally}

-- what an element adds to a count
abbrev pub one_if : Bool → ℕ
one_if passes = cond passes 1 0

-- a count, from the first element on
pub counts_cons : {X : Type 0} (p : X → Bool) (x : X) (xs : List X) → count_by p (x ∷ xs) ≡ one_if (p x) + count_by p xs
counts_cons p x xs = sum_by-cons (λ y. one_if (p y)) x xs

-- where none passes, the count is 0
pub counts_none : {X : Type 0} (p : X → Bool) (xs : List X) → ((i : ℕ) (d : X) → i < length xs → p (get_or xs i d) ≡ false) → count_by p xs ≡ 0
counts_none p [] none = refl
counts_none p (x ∷ xs) none =
    let first : one_if (p x) ≡ 0 = ap one_if (none 0 x (omega arith)) in
    let rest = counts_none p xs (λ i d within. none (suc i) d (omega arith)) in
    omega (arith, counts_cons p x xs, first, rest)

-- two tests of which each passes just what the other does count the same
pub counts_same : {X : Type 0} (p q : X → Bool) (xs : List X) → ((i : ℕ) (d : X) → i < length xs → p (get_or xs i d) ≡ q (get_or xs i d)) → count_by p xs ≡ count_by q xs
counts_same p q [] same = refl
counts_same p q (x ∷ xs) same =
    let first : one_if (p x) ≡ one_if (q x) = ap one_if (same 0 x (omega arith)) in
    let rest = counts_same p q xs (λ i d within. same (suc i) d (omega arith)) in
    omega (arith, counts_cons p x xs, counts_cons q x xs, first, rest)

-- before a place the first test counts what the second does, and behind it nothing
pub counts_before : {X : Type 0} (p q : X → Bool) (xs : List X) (k : ℕ) → ((i : ℕ) (d : X) → i < k → i < length xs → p (get_or xs i d) ≡ q (get_or xs i d))
    → ((i : ℕ) (d : X) → k ≤ i → i < length xs → p (get_or xs i d) ≡ false) → count_by p xs ≡ count_by q (take k xs)
counts_before p q xs zero same none = counts_none p xs (λ i d within. none i d (omega arith) within)
counts_before p q [] (suc k) same none = refl
counts_before p q (x ∷ xs) (suc k) same none =
    let first : one_if (p x) ≡ one_if (q x) = ap one_if (same 0 x (omega arith) (omega arith)) in
    let rest = counts_before p q xs k (λ i d below within. same (suc i) d (omega arith) (omega arith)) (λ i d past within. none (suc i) d (omega arith) (omega arith)) in
    omega (arith, counts_cons p x xs, counts_cons q x (take k xs), first, rest)

-- one element further
pub counts_further : {X : Type 0} (p : X → Bool) (xs : List X) (i : ℕ) (d : X) → i < length xs → count_by p (take (i + 1) xs) ≡ count_by p (take i xs) + one_if (p (get_or xs i d))
counts_further {X = X} p xs i d within = by (p (get_or xs i d)) refl
  where
    by : (t : Bool) → p (get_or xs i d) ≡ t → count_by p (take (i + 1) xs) ≡ count_by p (take i xs) + one_if (p (get_or xs i d))
    by true e = let one : one_if (p (get_or xs i d)) ≡ 1 = ap one_if e in omega (arith, count_by_more_yes p xs i d within e, one)
    by false e = let none : one_if (p (get_or xs i d)) ≡ 0 = ap one_if e in omega (arith, count_by_more_no p xs i d within e, none)

-- up to a place before which none passes, the count is 0
pub counts_none_before : {X : Type 0} (p : X → Bool) (xs : List X) (w k : ℕ) (d : X) → k ≤ w → k ≤ length xs → ((i : ℕ) → i < w → p (get_or xs i d) ≡ false) → count_by p (take k xs) ≡ 0
counts_none_before p xs w zero d le within none = refl
counts_none_before p xs w (suc k) d le within none =
    let before = counts_none_before p xs w k d (omega arith) (omega arith) none in
    let more = count_by_more_no p xs k d (omega arith) (none k (omega arith)) in
    let at : suc k ≡ k + 1 = omega arith in
    ap (λ n. count_by p (take n xs)) at ∙ (more ∙ before)

-- where the first test passes nothing before a place, and from there on what the second does, it counts the rest of that
pub counts_from : {X : Type 0} (p q : X → Bool) (xs : List X) (w n : ℕ) (d : X) → w + n ≤ length xs → ((i : ℕ) → i < w → p (get_or xs i d) ≡ false)
    → ((i : ℕ) → w ≤ i → i < length xs → p (get_or xs i d) ≡ q (get_or xs i d)) → count_by p (take (w + n) xs) + count_by q (take w xs) ≡ count_by q (take (w + n) xs)
counts_from p q xs w zero d within none same =
    let start = counts_none_before p xs w w d (omega arith) (omega arith) none in
    let here : w + 0 ≡ w = omega arith in
    subst (λ m. count_by p (take m xs) + count_by q (take w xs) ≡ count_by q (take m xs)) (sym here) (omega (arith, start))
counts_from p q xs w (suc n) d within none same =
    let before = counts_from p q xs w n d (omega arith) none same in
    let one = counts_further p xs (w + n) d (omega arith) in
    let other = counts_further q xs (w + n) d (omega arith) in
    let head : one_if (p (get_or xs (w + n) d)) ≡ one_if (q (get_or xs (w + n) d)) = ap one_if (same (w + n) (omega arith) (omega arith)) in
    let at : w + suc n ≡ w + n + 1 = omega arith in
    subst (λ m. count_by p (take m xs) + count_by q (take w xs) ≡ count_by q (take m xs)) (sym at) (omega (arith, before, one, other, head))

-- what passes a test and what fails it are all
pub counts_all : {X : Type 0} (p : X → Bool) (xs : List X) → count_by (λ x. not (p x)) xs + count_by p xs ≡ length xs
counts_all p [] = refl
counts_all {X = X} p (x ∷ xs) =
    let rest = counts_all p xs in
    let both : one_if (p x) + one_if (not (p x)) ≡ 1 = by (p x) in
    omega (arith, counts_cons p x xs, counts_cons (λ y. not (p y)) x xs, rest, both)
  where
    by : (t : Bool) → one_if t + one_if (not t) ≡ 1
    by true = refl
    by false = refl

-- a test of what a function makes of the elements
pub counts_map : {X Y : Type 0} (f : X → Y) (p : Y → Bool) (xs : List X) (k : ℕ) → count_by p (take k (map f xs)) ≡ count_by (λ x. p (f x)) (take k xs)
counts_map f p xs zero = refl
counts_map f p [] (suc k) = refl
counts_map f p (x ∷ xs) (suc k) =
    let rest = counts_map f p xs k in
    omega (arith, counts_cons p (f x) (take k (map f xs)), counts_cons (λ y. p (f y)) x (take k xs), rest)

-- what holds back a read is to write and open, and holds back each later one
pub open_write : (asked : Asked) → holds_back Read asked ≡ true → (asked.released ≡ false) × (asked.mode ≡ Write)
open_write asked holds = by asked.released asked.mode refl refl
  where
    by : (r : Bool) (m : Mode) → asked.released ≡ r → asked.mode ≡ m → (asked.released ≡ false) × (asked.mode ≡ Write)
    by true m e f = absurd (cc (rw e at holds))
    by false Read e f = absurd (cc (rw (e, f) at holds))
    by false Write e f = (e, f)

pub holds_any : (mode : Mode) (asked : Asked) → asked.released ≡ false → asked.mode ≡ Write → holds_back mode asked ≡ true
holds_any Read asked unreleased write = rw (unreleased, write) refl
holds_any Write asked unreleased write = rw (unreleased, write) refl

-- of those that are open, a write is held back by each, and a read by those to write
pub write_held : (asked : Asked) → holds_back Write asked ≡ not asked.released
write_held asked = by asked.released asked.mode refl refl
  where
    by : (r : Bool) (m : Mode) → asked.released ≡ r → asked.mode ≡ m → holds_back Write asked ≡ not asked.released
    by true m e f = rw e refl
    by false Read e f = rw (e, f) refl
    by false Write e f = rw (e, f) refl

pub read_held : (asked : Asked) → asked.released ≡ false → holds_back Read asked ≡ is_to_write asked.mode
read_held asked unreleased = rw unreleased refl

-- what is to write and holds back no read was released
pub write_released : (asked : Asked) → asked.mode ≡ Write → holds_back Read asked ≡ false → asked.released ≡ true
write_released asked write none = by asked.released refl
  where
    by : (r : Bool) → asked.released ≡ r → asked.released ≡ true
    by true e = e
    by false e = absurd (cc (rw (e, write) at none))

-- from the first open request to write on, nothing was released
pub open_behind : (requests : List Asked) → IsInTurn requests → (i : ℕ) (d : Asked) → first_holding Read requests ≤ i → i < length requests → (get_or requests i d).released ≡ false
open_behind requests turn i d past within =
    elim (eqb_tells w i) [
      | inl same ↦ subst (λ n. (get_or requests n d).released ≡ false) same.1 first.0
      | inr other ↦ by (get_or requests i d).released refl (omega (arith, other.1, past))
    ]
  where
    w : ℕ
    w = first_holding Read requests

    first : ((get_or requests w d).released ≡ false) × ((get_or requests w d).mode ≡ Write)
    first = open_write (get_or requests w d) (passes_at_first (holds_back Read) requests d (omega (arith, past, within)))

    by : (r : Bool) → (get_or requests i d).released ≡ r → w < i → (get_or requests i d).released ≡ false
    by false e before = e
    by true e before = absurd (cc (sym (holds_any (get_or requests i d).mode (get_or requests w d) first.0 first.1) ∙ turn w i d before within e))

-- no open request to write stands before the first
pub no_write_before : (requests : List Asked) (k : ℕ) → k ≤ first_holding Read requests → k ≤ length requests → 0 ≡ count_by (holds_back Read) (take k requests)
no_write_before requests k le within =
    let d : Asked = record { entry = 0; mode = Read; released = false } in
    sym (counts_none_before (holds_back Read) requests (first_holding Read requests) k d le within (λ i below. fails_before_first (holds_back Read) requests i d below))

-- and behind it each one to write is open
pub writes_from : (requests : List Asked) (writes : List ℕ) (written k from to : ℕ) → IsInTurn requests → IsTally (map (λ a. a.mode) requests) writes written
    → first_holding Read requests ≤ k → k < length requests → from ≡ get_or writes (first_holding Read requests) from → to ≡ get_or writes k to
    → count_by (holds_back Read) (take k requests) + from ≡ to
writes_from requests writes written k from to turn tally le within begins ends =
    let d : Asked = record { entry = 0; mode = Read; released = false } in
    let w : ℕ = first_holding Read requests in
    let n : ℕ = k - w in
    let at : w + n ≡ k = omega (arith, le) in
    let long = tally.long in
    let l : length (map (λ (a : Asked). a.mode) requests) ≡ length requests = length-map requests (λ (a : Asked). a.mode) in
    let low : from ≡ count_by (λ (a : Asked). is_to_write a.mode) (take w requests) = begins ∙ (tally.before w from (omega (arith, long, l, le, within)) ∙ counts_map (λ (a : Asked). a.mode) is_to_write requests w) in
    let high : to ≡ count_by (λ (a : Asked). is_to_write a.mode) (take k requests) = ends ∙ (tally.before k to (omega (arith, long, l, within)) ∙ counts_map (λ (a : Asked). a.mode) is_to_write requests k) in
    let rest = counts_from (holds_back Read) (λ (a : Asked). is_to_write a.mode) requests w n d (omega (arith, at, within)) (λ i below. fails_before_first (holds_back Read) requests i d below)
    (λ i past inside. read_held (get_or requests i d) (open_behind requests turn i d past inside)) in
    let here : count_by (holds_back Read) (take k requests) + count_by (λ (a : Asked). is_to_write a.mode) (take w requests) ≡ count_by (λ (a : Asked). is_to_write a.mode) (take k requests)
    = subst (λ m. count_by (holds_back Read) (take m requests) + count_by (λ (a : Asked). is_to_write a.mode) (take w requests) ≡ count_by (λ (a : Asked). is_to_write a.mode) (take m requests)) at rest in
    omega (arith, low, high, here)

-- a request to write before the first open one was released, and so was all before it
pub none_before_released : (requests : List Asked) (k : ℕ) → IsInTurn requests → k < first_holding Read requests → k < length requests → IfSome (slice_get requests k) (λ a. a.mode ≡ Write)
    → 0 ≡ count_by (holds_back Write) (take k requests)
none_before_released requests k turn below within write =
    let d : Asked = record { entry = 0; mode = Read; released = false } in
    let asked : Asked = get_or requests k d in
    let got = slice_get_read requests (length requests) k asked refl within (sym (get_or_default requests k asked d within)) in
    let mode : asked.mode ≡ Write = rw got at write in
    let gone = write_released asked mode (fails_before_first (holds_back Read) requests k d below) in
    sym (counts_none_before (holds_back Write) requests k k d (omega arith) (omega (arith, within)) (λ i before. subst (λ m. holds_back m (get_or requests i d) ≡ false) mode (turn i k d before within gone)))

-- a request to write that is open has all released ones before it
pub open_from : (requests : List Asked) (k gone : ℕ) → IsInTurn requests → first_holding Read requests ≤ k → k < length requests → gone ≡ count_by (λ a. a.released) requests
    → count_by (holds_back Write) (take k requests) + gone ≡ k
open_from requests k gone turn le within is =
    let before : count_by (λ (a : Asked). a.released) requests ≡ count_by (λ (a : Asked). a.released) (take k requests) = counts_before (λ (a : Asked). a.released) (λ (a : Asked). a.released) requests k (λ i d below inside. refl)
    (λ i d past inside. open_behind requests turn i d (omega (arith, le, past)) inside) in
    let same : count_by (holds_back Write) (take k requests) ≡ count_by (λ (a : Asked). not a.released) (take k requests) = counts_same (holds_back Write) (λ (a : Asked). not a.released) (take k requests) (λ i d inside. write_held (get_or (take k requests) i d)) in
    let all = counts_all (λ (a : Asked). a.released) (take k requests) in
    let l : length (take k requests) ≡ min k (length requests) = length-take k requests in
    omega (arith, before, same, all, l, within, is)

-- the place at which an entry's request stands, and what it has before it
pub record IsPlaceOf (requests : List Asked) (entry : ℕ) (mode : Mode) (place : ℕ) : Type 0 where
  pub there : place < length requests
  pub asks : IfSome (slice_get requests place) (λ asked. asked.mode ≡ mode)
  pub count : held_back_by requests entry mode ≡ count_by (holds_back mode) (take place requests)
  pub few : count_by (holds_back mode) (take place requests) ≤ entry

-- a request stands not before the place that its entry's number names
pub place_below : (requests : List Asked) → IsInOrder requests → (i : ℕ) (d : Asked) → i < length requests → i ≤ (get_or requests i d).entry
place_below requests order zero d within = omega arith
place_below requests order (suc i) d within =
    let before = place_below requests order i d (omega arith) in
    let above : (get_or requests i d).entry < (get_or requests (suc i) d).entry = order i (suc i) d (omega arith) within in
    omega (arith, before, above)

pub place_of : (requests : List Asked) (entry : ℕ) (mode : Mode) (place : ℕ) → IsInOrder requests → AsksHere entry mode requests → place ≡ prefix_len (λ asked. nat_lt asked.entry entry) requests
    → IsPlaceOf requests entry mode place
place_of requests entry mode place order asks is =
    subst (IsPlaceOf requests entry mode) (sym (is ∙ found)) (record { there = within; asks = rw got refl; count = count; few = few })
  where
    asked : Asked
    asked = record { entry = entry; mode = mode; released = asks.0 }

    at : ℕ
    at = asks.1.0

    within : at < length requests
    within = asks.1.1

    here : (d : Asked) → get_or requests at d ≡ asked
    here d = get_or_default requests at d asked within ∙ asks.1.2

    got : slice_get requests at ≡ Some asked
    got = slice_get_read requests (length requests) at asked refl within (sym asks.1.2)

    earlier : (i : ℕ) (d : Asked) → i < at → nat_lt (get_or requests i d).entry entry ≡ true
    earlier i d below =
        let lt : (get_or requests i d).entry < (get_or requests at d).entry = order i at d below within in
        lt-ltb (get_or requests i d).entry entry (subst (λ (a : Asked). (get_or requests i d).entry < a.entry) (here d) lt)

    late : (i : ℕ) (d : Asked) → at ≤ i → i < length requests → nat_lt (get_or requests i d).entry entry ≡ false
    late i d past inside =
        let own : (get_or requests at d).entry ≡ entry = ap (λ (a : Asked). a.entry) (here d) in
        let above : entry < suc (get_or requests i d).entry = elim (eqb_tells at i) [
          | inl same ↦ let e : (get_or requests at d).entry ≡ (get_or requests i d).entry = ap (λ n. (get_or requests n d).entry) same.1 in omega (arith, own, e)
          | inr other ↦ let lt : (get_or requests at d).entry < (get_or requests i d).entry = order at i d (omega (arith, other.1, past)) inside in omega (arith, own, lt)
        ] in
        lt-leb (suc (get_or requests i d).entry) entry above

    found : prefix_len (λ (a : Asked). nat_lt a.entry entry) requests ≡ at
    found = prefix_len_is (λ (a : Asked). nat_lt a.entry entry) requests at asked (omega (arith, within)) (λ i below. earlier i asked below) (λ h. late at asked (omega arith) within)

    count : held_back_by requests entry mode ≡ count_by (holds_back mode) (take at requests)
    count = counts_before (λ (a : Asked). nat_lt a.entry entry && holds_back mode a) (holds_back mode) requests at (λ i d below inside. rw (earlier i d below) refl) (λ i d past inside. rw (late i d past inside) refl)

    few : count_by (holds_back mode) (take at requests) ≤ entry
    few =
        let low = place_below requests order at asked within in
        let own : (get_or requests at asked).entry ≡ entry = ap (λ (a : Asked). a.entry) (here asked) in
        let l : length (take at requests) ≡ min at (length requests) = length-take at requests in
        let most = count_by-le-length (holds_back mode) (take at requests) in
        omega (arith, low, own, l, most)

-- a further request
pub tally_push : (requests : List Asked) (asked : Asked) (writes : List ℕ) (written more : ℕ) → IsTally (map (λ a. a.mode) requests) writes written → more ≡ written + one_if (is_to_write asked.mode)
    → IsTally (map (λ a. a.mode) (requests ++ asked ∷ [])) (writes ++ written ∷ []) more
tally_push requests asked writes written more tally is = subst (λ modes. IsTally modes (writes ++ written ∷ []) more) (sym (map_push (λ (a : Asked). a.mode) requests asked)) (record { long = long; before = before; all = all })
  where
    modes : List Mode
    modes = map (λ a. a.mode) requests

    long : length (writes ++ written ∷ []) ≡ length (modes ++ asked.mode ∷ [])
    long = omega (arith, length-append writes (written ∷ []), length-append modes (asked.mode ∷ []), tally.long)

    before : (k d : ℕ) → k < length (writes ++ written ∷ []) → get_or (writes ++ written ∷ []) k d ≡ count_by is_to_write (take k (modes ++ asked.mode ∷ []))
    before k d within =
        elim (leb_tells (suc k) (length writes)) [
          | inl t ↦ get_or_append_left writes (written ∷ []) d k t.1 ∙ (tally.before k d t.1 ∙ ap (count_by is_to_write) (sym (take-append-le k modes (asked.mode ∷ []) (omega (arith, t.1, tally.long)))))
          | inr f ↦
              let at : k ≡ length writes = omega (arith, f.1, within, length-append writes (written ∷ [])) in
              subst (λ n. get_or (writes ++ written ∷ []) n d ≡ count_by is_to_write (take n (modes ++ asked.mode ∷ []))) (sym at)
              (get_or-append_seam writes written [] d ∙ (tally.all ∙ ap (count_by is_to_write) (sym (take-append-le (length writes) modes (asked.mode ∷ []) (omega (arith, tally.long)) ∙ take_all (length writes) modes (omega (arith, tally.long))))))
        ]

    all : more ≡ count_by is_to_write (modes ++ asked.mode ∷ [])
    all = let pushed = sum_by_push (λ m. one_if (is_to_write m)) modes asked.mode in omega (arith, is, tally.all, pushed)

-- what is pushed was not released
pub released_push : (requests : List Asked) (asked : Asked) (gone : ℕ) → asked.released ≡ false → gone ≡ count_by (λ a. a.released) requests → gone ≡ count_by (λ a. a.released) (requests ++ asked ∷ [])
released_push requests asked gone unreleased is =
    let pushed = sum_by_push (λ (a : Asked). one_if a.released) requests asked in
    let none : one_if asked.released ≡ 0 = ap one_if unreleased in
    omega (arith, is, pushed, none)

-- what a release leaves as it was, and what it makes of the number of those released
pub record Goes (requests : List Asked) (k : ℕ) (asked : Asked) (writes : List ℕ) (written gone : ℕ) : Type 0 where
  pub order : IsInOrder (set requests k (released asked))
  pub tally : IsTally (map (λ a. a.mode) (set requests k (released asked))) writes written
  pub count : gone + one_if (not asked.released) ≡ count_by (λ a. a.released) (set requests k (released asked))

pub goes : (requests : List Asked) (k : ℕ) (asked : Asked) (writes : List ℕ) (written gone : ℕ) → k < length requests → asked ≡ get_or requests k asked → IsInOrder requests
    → IsTally (map (λ a. a.mode) requests) writes written → gone ≡ count_by (λ a. a.released) requests → Goes requests k asked writes written gone
goes requests k asked writes written gone within is order tally count =
    record {
      order = in_order;
      tally = subst (λ modes. IsTally modes writes written) (sym (map-set_same (λ (a : Asked). a.mode) requests k (released asked) asked (ap (λ (a : Asked). a.mode) is))) tally;
      count = counted;
    }
  where
    entry_at : (i : ℕ) (d : Asked) → i < length requests → (get_or (set requests k (released asked)) i d).entry ≡ (get_or requests i d).entry
    entry_at i d inside =
        elim (eqb_tells i k) [
          | inl same ↦
              subst (λ n. (get_or (set requests k (released asked)) n d).entry ≡ (get_or requests n d).entry) (sym same.1)
              (ap (λ (a : Asked). a.entry) (get_or-set_same requests k (released asked) d within) ∙ ap (λ (a : Asked). a.entry) (is ∙ get_or_default requests k asked d within))
          | inr other ↦ ap (λ (a : Asked). a.entry) (get_or-set_other requests k i (released asked) d other.1)
        ]

    in_order : IsInOrder (set requests k (released asked))
    in_order i j d lt inside =
        let l = length-set requests k (released asked) in
        let here : j < length requests = omega (arith, l, inside) in
        let low = entry_at i d (omega (arith, here, lt)) in
        let high = entry_at j d here in
        let was : (get_or requests i d).entry < (get_or requests j d).entry = order i j d lt here in
        omega (arith, low, high, was)

    counted : gone + one_if (not asked.released) ≡ count_by (λ (a : Asked). a.released) (set requests k (released asked))
    counted =
        let changed = sum_by-set (λ (a : Asked). one_if a.released) requests k (released asked) asked within in
        let old : one_if (get_or requests k asked).released ≡ one_if asked.released = ap (λ (a : Asked). one_if a.released) (sym is) in
        let both = by asked.released in
        omega (arith, changed, old, both, count)
      where
        by : (t : Bool) → one_if t + one_if (not t) ≡ 1
        by true = refl
        by false = refl

-- of one that was open it makes one more
pub one_more : (requests : List Asked) (k : ℕ) (asked : Asked) (n : ℕ) → k < length requests → asked ≡ get_or requests k asked → IfSome (slice_get requests k) (λ a. a.released ≡ false) → n + one_if (not asked.released) ≡ n + 1
one_more requests k asked n within is out =
    let got = slice_get_read requests (length requests) k asked refl within is in
    let unreleased : asked.released ≡ false = rw got at out in
    let one : one_if (not asked.released) ≡ 1 = ap (λ t. one_if (not t)) unreleased in
    omega (arith, one)

-- the same of the list that a search reads
pub place_read : (requests read : List Asked) (entry : ℕ) (mode : Mode) (place : ℕ) → IsInOrder requests → AsksHere entry mode requests → place ≡ prefix_len (λ asked. nat_lt asked.entry entry) read → read ≡ requests
    → IsPlaceOf requests entry mode place
place_read requests read entry mode place order asks is same =
    place_of requests entry mode place order asks (is ∙ ap (prefix_len (λ (asked : Asked). nat_lt asked.entry entry)) same)
