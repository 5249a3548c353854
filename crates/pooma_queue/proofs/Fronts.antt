-- The requests that may go on stand at the front of a queue.
use Rattle.std.proofs.Common.{◌≡◌, ◌+◌, ◌-◌, ◌<◌, ◌≤◌, ℕ, zero, suc, Bool, true, false, List, [], ◌∷◌, length, take, drop, min, get_or, find, slice_get, Contains, Some, None, cond, refl, sym, ◌∙◌, ap, subst, arith, inl, inr, length-take}
use Rattle.std.proofs.lemmas.Bool.Decides.{leb_tells}
use Rattle.std.proofs.lemmas.List.{take_all, get_or-take, length-drop}
use Rattle.std.proofs.lemmas.List.Sums.{prefix_len_is, fails_before_first, passes_at_first}
use Rattle.std.specs.List.{position_or_len, prefix_len}
use Rattle.std.proofs.lemmas.Option.{slice_get_within}
use Rattle.pooma_queue.specs.declared.queue.Mode.{Mode}
use Rattle.pooma_queue.specs.declared.queue.Mode.TheVariants.{Read, Write}
use Rattle.pooma_queue.specs.declared.queue.Asked.{Asked}
use Rattle.pooma_queue.specs.Requests.{holds_back, first_holding, open_part, front_of, MayGoOn, OnlyLastWrites}
use Rattle.pooma_queue.proofs.Places.{all_before}
use Rattle.pooma_queue.proofs.Holding.{first_within, first_from, holds_no_write, write_not_later}

-- the open requests begin with the first that holds back a write
pub open_first : (requests : List Asked) → prefix_len (λ a. a.released) requests ≡ first_holding Write requests
open_first requests =
    let d : Asked = record { entry = 0; mode = Read; released = false } in
    prefix_len_is (λ (a : Asked). a.released) requests (first_holding Write requests) d (first_within (holds_back Write) requests)
    (λ k below. holds_no_write (get_or requests k d) (fails_before_first (holds_back Write) requests k d below))
    (λ h. unreleased (get_or requests (first_holding Write requests) d) (passes_at_first (holds_back Write) requests d h))
  where
    unreleased : (a : Asked) → holds_back Write a ≡ true → a.released ≡ false
    unreleased a holds = by a.released refl
      where
        by : (t : Bool) → a.released ≡ t → a.released ≡ false
        by true e = absurd (cc (rw e at holds))
        by false e = e

-- the front goes from there to the first that holds back a read, with it
pub front_is : (requests : List Asked) (first end : ℕ) → first ≡ first_holding Write requests → end ≡ min (length requests) (first_holding Read requests + 1)
    → take (end - first) (drop first requests) ≡ front_of requests
front_is requests first end begins ends =
    ends_there ∙ ap (λ n. take (position_or_len (holds_back Read) (drop n requests) + 1) (drop n requests)) (begins ∙ sym (open_first requests))
  where
    part : List Asked
    part = drop first requests

    long : length part ≡ length requests - first
    long = length-drop first requests

    before : first ≤ first_holding Read requests
    before = subst (λ n. n ≤ first_holding Read requests) (sym begins) (write_not_later requests)

    from : first + position_or_len (holds_back Read) part ≡ first_holding Read requests
    from = first_from (holds_back Read) requests first before

    ends_there : take (end - first) part ≡ take (position_or_len (holds_back Read) part + 1) part
    ends_there =
        elim (leb_tells (first_holding Read requests + 1) (length requests)) [
          | inl t ↦ let same : end - first ≡ position_or_len (holds_back Read) part + 1 = omega (arith, t.1, from, ends) in rw same refl
          | inr f ↦
              take_all (end - first) part (omega (arith, f.1, ends, long)) ∙ sym (take_all (position_or_len (holds_back Read) part + 1) part (omega (arith, f.1, from, long)))
        ]

-- and so only its last may be an open request to write
pub only_last_writes : (requests : List Asked) → OnlyLastWrites (front_of requests)
only_last_writes requests =
    all_before (λ (a : Asked). holds_back Read a ≡ false) (front_of requests) (length (front_of requests) - 1) (λ k d below within.
    let l = length-take (position_or_len (holds_back Read) (open_part requests) + 1) (open_part requests) in
    let early : k < position_or_len (holds_back Read) (open_part requests) = omega (arith, l, below) in
    ap (holds_back Read) (get_or-take (position_or_len (holds_back Read) (open_part requests) + 1) (open_part requests) k d (omega arith)) ∙ fails_before_first (holds_back Read) (open_part requests) k d early)

-- where a search finds nothing before a place, nothing before it passes
pub passes_none : {X : Type 0} (p : X → Bool) (xs : List X) (k i : ℕ) (d : X) → find p (take k xs) ≡ None → i < k → i < length xs → p (get_or xs i d) ≡ false
passes_none p xs zero i d none below within = absurd (omega arith)
passes_none p [] (suc k) i d none below within = absurd (omega arith)
passes_none {X = X} p (x ∷ xs) (suc k) i d none below within = at (λ none j below within. passes_none p xs k j d none below within) (p x) refl i below within
  where
    at : (find p (take k xs) ≡ None → (j : ℕ) → j < k → j < length xs → p (get_or xs j d) ≡ false) → (t : Bool) → p x ≡ t → (i : ℕ) → i < suc k → i < length (x ∷ xs) → p (get_or (x ∷ xs) i d) ≡ false
    at rest true e i below within = absurd (cc (rw e at none))
    at rest false e zero below within = e
    at rest false e (suc i) below within = rest (rw e at none) i (omega arith) (omega arith)

-- an element is among those up to the first that passes, where none before it passes
pub in_up_to : {X : Type 0} (p : X → Bool) (xs : List X) (k : ℕ) (x : X) → slice_get xs k ≡ Some x → ((i : ℕ) (d : X) → i < k → p (get_or xs i d) ≡ false)
    → Contains (take (position_or_len p xs + 1) xs) x
in_up_to p [] k x at before = absurd (cc at)
in_up_to p (y ∷ ys) zero x at before =
    let same : y ≡ x = cc in
    let l : position_or_len p (y ∷ ys) + 1 ≡ suc (position_or_len p (y ∷ ys)) = omega arith in
    rw l (0, omega arith, same)
in_up_to p (y ∷ ys) (suc k) x at before =
    let more = in_up_to p ys k x at (λ i d below. before (suc i) d (omega arith)) in
    let l : 1 + position_or_len p ys + 1 ≡ suc (position_or_len p ys + 1) = omega arith in
    rw (before 0 y (omega arith), l) (suc more.0, (let within = more.1 in omega arith), more.2)

-- an open request that holds back no request of some mode is not to write
pub holds_no_read : (mode : Mode) (asked : Asked) → holds_back mode asked ≡ false → holds_back Read asked ≡ false
holds_no_read mode asked none = by asked.released asked.mode mode refl refl none
  where
    by : (released : Bool) (one other : Mode) → asked.released ≡ released → asked.mode ≡ one → holds_back other asked ≡ false → holds_back Read asked ≡ false
    by true one other e m none = rw e refl
    by false Read other e m none = rw (e, m) refl
    by false Write Read e m none = none
    by false Write Write e m none = absurd (cc (rw (e, m) at none))

-- the requests that may go on stand at the front
pub front_has : (requests : List Asked) (k : ℕ) (asked : Asked) → slice_get requests k ≡ Some asked → asked.released ≡ false
    → ((i : ℕ) (d : Asked) → i < k → holds_back Read (get_or requests i d) ≡ false) → Contains (front_of requests) asked
front_has [] k asked at unreleased before = absurd (cc at)
front_has (x ∷ xs) k asked at unreleased before = by (λ j there none. front_has xs j asked there unreleased none) x.released refl k at before
  where
    by : ((j : ℕ) → slice_get xs j ≡ Some asked → ((i : ℕ) (d : Asked) → i < j → holds_back Read (get_or xs i d) ≡ false) → Contains (front_of xs) asked) → (t : Bool) → x.released ≡ t
        → (k : ℕ) → slice_get (x ∷ xs) k ≡ Some asked → ((i : ℕ) (d : Asked) → i < k → holds_back Read (get_or (x ∷ xs) i d) ≡ false) → Contains (front_of (x ∷ xs)) asked
    by rest true e zero at before = let same : x ≡ asked = cc in absurd (cc (sym unreleased ∙ (ap (λ (a : Asked). a.released) (sym same) ∙ e)))
    by rest true e (suc k) at before =
        let l : 1 + prefix_len (λ (a : Asked). a.released) xs ≡ suc (prefix_len (λ (a : Asked). a.released) xs) = omega arith in
        rw (e, l) (rest k at (λ i d below. before (suc i) d (omega arith)))
    by rest false e k at before =
        let whole : open_part (x ∷ xs) ≡ x ∷ xs = ap (λ t. drop (cond t (1 + prefix_len (λ (a : Asked). a.released) xs) 0) (x ∷ xs)) e in
        subst (λ (part : List Asked). Contains (take (position_or_len (holds_back Read) part + 1) part) asked) (sym whole) (in_up_to (holds_back Read) (x ∷ xs) k asked at before)

pub may_go_on_in_front : (requests : List Asked) (k : ℕ) (asked : Asked) → MayGoOn requests k asked → Contains (front_of requests) asked
may_go_on_in_front requests k asked may =
    let none : find (holds_back asked.mode) (take k requests) ≡ None = rw may.there at may.granted in
    let within = slice_get_within requests k asked may.there in
    front_has requests k asked may.there may.unreleased (λ i d below. holds_no_read asked.mode (get_or requests i d) (passes_none (holds_back asked.mode) requests k i d none below (omega arith)))
