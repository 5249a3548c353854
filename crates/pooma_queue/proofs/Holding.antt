-- The first place whose request holds back one of some mode.
use Rattle.std.proofs.Common.{◌≡◌, ◌≢◌, ◌+◌, ◌<◌, ◌≤◌, ◌&&◌, ℕ, zero, suc, Bool, true, false, not, nat_lt, min, List, [], ◌∷◌, ◌++◌, length, take, drop, get_or, set, find, slice_get, Some, None, refl, sym, ◌∙◌, ap, subst, arith, inl, inr, get_or-set_same, get_or-set_other, length-take, length-set}
use Rattle.std.proofs.Math.Bool.{and-false}
use Rattle.std.proofs.lemmas.Bool.{lt-leb, lt-ltb}
use Rattle.std.proofs.lemmas.Bool.Decides.{leb_tells, eqb_tells}
use Rattle.std.proofs.lemmas.List.{get_or-take}
use Rattle.std.proofs.lemmas.List.Folds.{find_at, position_or_len_push}
use Rattle.std.proofs.lemmas.List.Sums.{fails_before_first, passes_at_first, position_or_len_is, prefix_len-le-length}
use Rattle.std.proofs.lemmas.Option.{slice_get-get_or, slice_get_past, slice_get_read}
use Rattle.std.specs.List.{position_or_len}
use Rattle.pooma_queue.specs.declared.queue.Mode.{Mode}
use Rattle.pooma_queue.specs.declared.queue.Mode.TheVariants.{Read, Write}
use Rattle.pooma_queue.specs.declared.queue.Asked.{Asked}
use Rattle.pooma_queue.specs.Requests.{holds_back, first_holding, blocker_of, holder_of, IsInOrder}

-- it is at the end at the most
pub first_within : {X : Type 0} (p : X → Bool) (xs : List X) → position_or_len p xs ≤ length xs
first_within p xs = prefix_len-le-length (λ x. not (p x)) xs

-- it may be looked for from each place on that is not behind it
pub first_from : {X : Type 0} (p : X → Bool) (xs : List X) (from : ℕ) → from ≤ position_or_len p xs → from + position_or_len p (drop from xs) ≡ position_or_len p xs
first_from p xs zero le = omega arith
first_from p [] (suc from) le = absurd (omega arith)
first_from {X = X} p (x ∷ xs) (suc from) le = at (λ more. first_from p xs from more) (p x) refl
  where
    at : (from ≤ position_or_len p xs → from + position_or_len p (drop from xs) ≡ position_or_len p xs) → (t : Bool) → p x ≡ t → suc from + position_or_len p (drop from xs) ≡ position_or_len p (x ∷ xs)
    at rest true e = let none : position_or_len p (x ∷ xs) ≡ 0 = rw e refl in absurd (omega arith)
    at rest false e =
        let more : position_or_len p (x ∷ xs) ≡ 1 + position_or_len p xs = rw e refl in
        let goes = rest (omega arith) in
        omega arith

-- a search before a place finds what is there, or nothing
pub found_before : {X : Type 0} (p : X → Bool) (xs : List X) (k : ℕ) (d : X) → position_or_len p xs < k → k ≤ length xs → find p (take k xs) ≡ Some (get_or xs (position_or_len p xs) d)
found_before p xs k d below within =
    let n : ℕ = position_or_len p xs in
    let l : length (take k xs) ≡ min k (length xs) = length-take k xs in
    let same : position_or_len p (take k xs) ≡ n = position_or_len_is p (take k xs) n d (omega arith)
    (λ i h. ap p (get_or-take k xs i d (omega arith)) ∙ fails_before_first p xs i d h)
    (λ h. ap p (get_or-take k xs n d below) ∙ passes_at_first p xs d (omega arith)) in
    find_at p (take k xs) ∙ (ap (slice_get (take k xs)) same ∙ (slice_get-get_or (take k xs) n d (omega arith) ∙ ap Some (get_or-take k xs n d below)))

pub none_before : {X : Type 0} (p : X → Bool) (xs : List X) (k : ℕ) (d : X) → k ≤ position_or_len p xs → find p (take k xs) ≡ None
none_before p xs k d past =
    let l : length (take k xs) ≡ min k (length xs) = length-take k xs in
    let same : position_or_len p (take k xs) ≡ length (take k xs) = position_or_len_is p (take k xs) (length (take k xs)) d (omega arith)
    (λ i h. ap p (get_or-take k xs i d (omega arith)) ∙ fails_before_first p xs i d (omega arith))
    (λ h. absurd (omega arith)) in
    find_at p (take k xs) ∙ slice_get_past (take k xs) (position_or_len p (take k xs)) (omega arith)

-- it does not go back where what fails is put in
pub set_no_nearer : {X : Type 0} (p : X → Bool) (xs : List X) (k : ℕ) (x : X) → p x ≡ false → k < length xs → position_or_len p xs ≤ position_or_len p (set xs k x)
set_no_nearer p xs k x fails within =
    elim (leb_tells (position_or_len p xs) (position_or_len p (set xs k x))) [
      | inl t ↦ t.1
      | inr f ↦
          let l : length (set xs k x) ≡ length xs = length-set xs k x in
          let end = first_within p xs in
          let n : ℕ = position_or_len p (set xs k x) in
          let nearer : n < position_or_len p xs = f.1 in
          let passes = passes_at_first p (set xs k x) x (omega arith) in
          absurd (elim (eqb_tells n k) [
            | inl same ↦ cc (sym passes ∙ (ap (λ i. p (get_or (set xs k x) i x)) same.1 ∙ (ap p (get_or-set_same xs k x x within) ∙ fails)))
            | inr other ↦ cc (sym passes ∙ (ap p (get_or-set_other xs k n x x other.1) ∙ fails_before_first p xs n x nearer))
          ])
    ]

-- what holds back no write was released
pub holds_no_write : (asked : Asked) → holds_back Write asked ≡ false → asked.released ≡ true
holds_no_write asked none = by asked.released asked.mode refl refl none
  where
    by : (released : Bool) (mode : Mode) → asked.released ≡ released → asked.mode ≡ mode → holds_back Write asked ≡ false → asked.released ≡ true
    by true mode e m none = e
    by false Read e m none = absurd (cc (rw (e, m) at none))
    by false Write e m none = absurd (cc (rw (e, m) at none))

-- and what was not holds back a write
pub holds_write : (asked : Asked) → asked.released ≡ false → holds_back Write asked ≡ true
holds_write asked unreleased = by asked.mode refl
  where
    by : (mode : Mode) → asked.mode ≡ mode → holds_back Write asked ≡ true
    by Read m = rw (unreleased, m) refl
    by Write m = rw (unreleased, m) refl

-- what holds back a write comes not behind what holds back a read
pub write_not_later : (requests : List Asked) → first_holding Write requests ≤ first_holding Read requests
write_not_later requests =
    elim (leb_tells (first_holding Write requests) (first_holding Read requests)) [
      | inl t ↦ t.1
      | inr f ↦
          let d : Asked = record { entry = 0; mode = Read; released = false } in
          let end = first_within (holds_back Write) requests in
          let n : ℕ = first_holding Read requests in
          let nearer : n < first_holding Write requests = f.1 in
          let released = holds_no_write (get_or requests n d) (fails_before_first (holds_back Write) requests n d nearer) in
          let none : holds_back Read (get_or requests n d) ≡ false = rw released refl in
          absurd (cc (sym none ∙ passes_at_first (holds_back Read) requests d (omega arith)))
    ]

-- of requests in order, the holder of one by a later entry is there, where that one is of an earlier entry
pub holder_there : (requests : List Asked) (entry place : ℕ) (mode : Mode) (asked : Asked) → place ≡ first_holding mode requests → place < length requests → asked ≡ get_or requests place asked
    → asked.entry < entry → holder_of requests entry mode ≡ Some asked
holder_there requests entry place mode asked is within at earlier =
    let before : nat_lt asked.entry entry ≡ true = lt-ltb asked.entry entry earlier in
    let holds : holds_back mode asked ≡ true = ap (holds_back mode) (at ∙ ap (λ n. get_or requests n asked) is) ∙ passes_at_first (holds_back mode) requests asked (omega (arith, is, within)) in
    let same : position_or_len (λ a. nat_lt a.entry entry && holds_back mode a) requests ≡ place = position_or_len_is (λ a. nat_lt a.entry entry && holds_back mode a) requests place asked (omega (arith, within))
    (λ k below. rw (fails_before_first (holds_back mode) requests k asked (omega (arith, is, below))) (and-false _))
    (λ h. rw (← at, before) holds) in
    find_at (λ a. nat_lt a.entry entry && holds_back mode a) requests ∙ (ap (slice_get requests) same ∙ slice_get_read requests (length requests) place asked refl within at)

-- and there is none, where that one is not, or none holds back
pub no_holder : (requests : List Asked) (entry place : ℕ) (mode : Mode) → IsInOrder requests → place ≡ first_holding mode requests
    → ((d : Asked) → place < length requests → entry ≤ (get_or requests place d).entry) → holder_of requests entry mode ≡ None
no_holder requests entry place mode order is late =
    let d : Asked = record { entry = 0; mode = Read; released = false } in
    let same : position_or_len (λ a. nat_lt a.entry entry && holds_back mode a) requests ≡ length requests = position_or_len_is (λ a. nat_lt a.entry entry && holds_back mode a) requests (length requests) d (omega arith)
    (λ k within. fails k d within) (λ h. absurd (omega arith)) in
    find_at (λ a. nat_lt a.entry entry && holds_back mode a) requests ∙ slice_get_past requests _ (omega (arith, same))
  where
    fails : (k : ℕ) (d : Asked) → k < length requests → (nat_lt (get_or requests k d).entry entry && holds_back mode (get_or requests k d)) ≡ false
    fails k d within =
        elim (leb_tells (suc k) place) [
          | inl t ↦ rw (fails_before_first (holds_back mode) requests k d (omega (arith, t.1, is))) (and-false _)
          | inr f ↦
              let here : entry ≤ (get_or requests place d).entry = late d (omega (arith, f.1, within)) in
              let behind : entry ≤ (get_or requests k d).entry = elim (eqb_tells place k) [
                | inl same ↦ subst (λ i. entry ≤ (get_or requests i d).entry) same.1 here
                | inr other ↦ let above : (get_or requests place d).entry < (get_or requests k d).entry = order place k d (omega (arith, f.1, other.1)) within in omega (arith, above, here)
              ] in
              rw (lt-leb (suc (get_or requests k d).entry) entry (omega (arith, behind))) refl
        ]

-- it stays where one more comes that passes, and where there was one before
pub first_stays : {X : Type 0} (p : X → Bool) (xs : List X) (x : X) → p x ≡ true → position_or_len p (xs ++ x ∷ []) ≡ position_or_len p xs
first_stays p xs x passes =
    position_or_len_push p xs x ∙ elim (eqb_tells (position_or_len p xs) (length xs)) [ inl t ↦ rw (t.0, passes) (omega (arith, t.1)) | inr f ↦ rw f.0 refl ]

pub first_before : {X : Type 0} (p : X → Bool) (xs : List X) (x : X) → position_or_len p xs ≢ length xs → position_or_len p (xs ++ x ∷ []) ≡ position_or_len p xs
first_before p xs x there = position_or_len_push p xs x ∙ elim (eqb_tells (position_or_len p xs) (length xs)) [ inl t ↦ absurd (there t.1) | inr f ↦ rw f.0 refl ]

-- and goes on with the end where none passes
pub first_goes_on : {X : Type 0} (p : X → Bool) (xs : List X) (x : X) → p x ≡ false → position_or_len p xs ≡ length xs → position_or_len p (xs ++ x ∷ []) ≡ position_or_len p xs + 1
first_goes_on p xs x fails end =
    position_or_len_push p xs x ∙ elim (eqb_tells (position_or_len p xs) (length xs)) [ inl t ↦ rw (t.0, fails) (omega (arith, end)) | inr f ↦ absurd (f.1 end) ]

-- it is further than a place at which none is, at one that passes, and at the end
pub first_further : {X : Type 0} (p : X → Bool) (xs : List X) (from : ℕ) (d : X) → from ≤ position_or_len p xs → from < length xs → p (get_or xs from d) ≡ false → from + 1 ≤ position_or_len p xs
first_further p xs from d low within fails =
    elim (eqb_tells from (position_or_len p xs)) [
      | inl same ↦
          let passes = passes_at_first p xs d (omega (arith, same.1, within)) in
          absurd (cc (sym passes ∙ (ap (λ n. p (get_or xs n d)) (sym same.1) ∙ fails)))
      | inr other ↦ omega (arith, other.1, low)
    ]

pub first_here : {X : Type 0} (p : X → Bool) (xs : List X) (from : ℕ) (d : X) → from ≤ position_or_len p xs → p (get_or xs from d) ≡ true → from ≡ position_or_len p xs
first_here p xs from d low passes =
    elim (leb_tells (suc from) (position_or_len p xs)) [
      | inl t ↦ absurd (cc (sym (fails_before_first p xs from d t.1) ∙ passes))
      | inr f ↦ omega (arith, f.1, low)
    ]

pub first_past : {X : Type 0} (p : X → Bool) (xs : List X) (from : ℕ) → from ≤ position_or_len p xs → length xs ≤ from → from ≡ position_or_len p xs
first_past p xs from low past = let end = first_within p xs in omega (arith, end, low, past)

-- the blocker of a request is there, where that is before it
pub blocker_there : (requests : List Asked) (k place : ℕ) (asked blocker : Asked) → k < length requests → asked ≡ get_or requests k asked → place ≡ first_holding asked.mode requests → place < k
    → blocker ≡ get_or requests place blocker → blocker_of requests k ≡ Some blocker
blocker_there requests k place asked blocker there at is before holds =
    let got : slice_get requests k ≡ Some asked = slice_get_read requests (length requests) k asked refl there at in
    rw got (found_before (holds_back asked.mode) requests k blocker (omega (arith, is, before)) (omega (arith, there)) ∙ ap Some (ap (λ n. get_or requests n blocker) (sym is) ∙ sym holds))

pub no_blocker : (requests : List Asked) (k place : ℕ) (asked : Asked) → k < length requests → asked ≡ get_or requests k asked → place ≡ first_holding asked.mode requests → k ≤ place
    → blocker_of requests k ≡ None
no_blocker requests k place asked there at is behind =
    let got : slice_get requests k ≡ Some asked = slice_get_read requests (length requests) k asked refl there at in
    rw got (none_before (holds_back asked.mode) requests k asked (omega (arith, is, behind)))
