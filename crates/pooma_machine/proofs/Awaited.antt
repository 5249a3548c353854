-- The least entry that is ready and asks for an object: it is the first ready one in the front of the object's queue.
use Rattle.std.proofs.Common.{◌≡◌, ◌+◌, ◌-◌, ◌<◌, ◌≤◌, ℕ, suc, true, false, List, length, take, drop, get_or, Contains, sym, ◌∙◌, ap, subst, arith, inl, inr, nat_lt, min, length-take}
use Rattle.std.proofs.lemmas.Bool.Decides.{eqb_tells, leb_tells}
use Rattle.std.proofs.lemmas.List.{get_or-take, get_or-drop, get_or_default, length-drop, take_all}
use Rattle.std.specs.List.{position_or_len, prefix_len}
use Rattle.std.specs.List.Sorted.{IsPartitionPoint}
use Rattle.pooma_queue.specs.declared.queue.Asked.{Asked}
use Rattle.pooma_queue.specs.declared.queue.Mode.TheVariants.{Read}
use Rattle.pooma_queue.specs.Requests.{IsInOrder, MayGoOn, Waiting, front_of, holds_back, open_part}
use Rattle.pooma_machine.specs.declared.step.Request.{Request}
use Rattle.pooma_machine.specs.declared.step.Event.{Event}
use Rattle.pooma_machine.specs.Steps.{IsLeastReadyFor, IsReady, IsReadyFor, is_released, status_of}
use Rattle.pooma_machine.specs.Lines.{IsTied, line}
use Rattle.std.proofs.lemmas.List.Elements.{Contains-get_or}
use Rattle.pooma_machine.proofs.Listed.{dropped_in, taken_more}
use Rattle.pooma_machine.proofs.Waking.{front_in, ready_in_front}

-- the rest of requests in order is in order
pub in_order_dropped : (requests : List Asked) (n : ℕ) → IsInOrder requests → IsInOrder (drop n requests)
in_order_dropped requests n order i j d lt within =
    let l : length (drop n requests) ≡ length requests - n = length-drop n requests in
    let a : get_or (drop n requests) i d ≡ get_or requests (n + i) d = get_or-drop n requests i d in
    let b : get_or (drop n requests) j d ≡ get_or requests (n + j) d = get_or-drop n requests j d in
    rw (a, b) (order (n + i) (n + j) d (omega arith) (omega arith))

-- the front of a queue in order is in order
pub front_in_order : (requests : List Asked) → IsInOrder requests → IsInOrder (front_of requests)
front_in_order requests order i j d lt within =
    let n : ℕ = position_or_len (holds_back Read) (open_part requests) + 1 in
    let long : length (take n (open_part requests)) ≡ min n (length (open_part requests)) = length-take n (open_part requests) in
    let short : j < length (take n (open_part requests)) = within in
    rw (get_or-take n (open_part requests) i d (omega arith), get_or-take n (open_part requests) j d (omega arith))
    (in_order_dropped requests (prefix_len (λ (asked : Asked). asked.released) requests) order i j d lt (omega arith))

-- where the requests of earlier entries end, those of later ones begin
module _ (requests : List Asked) (entry end : ℕ) (parts : IsPartitionPoint (λ (asked : Asked). nat_lt asked.entry entry ≡ true) (λ asked. nat_lt asked.entry entry ≡ false) requests end) where
  pub later_only : (a : Asked) → Contains (drop end requests) a → Contains requests a × (entry ≤ a.entry)
  later_only a (k, h, e) =
      let long : length (drop end requests) ≡ length requests - end = length-drop end requests in
      let at : get_or requests (end + k) a ≡ a = sym (get_or-drop end requests k a) ∙ e in
      let test : nat_lt a.entry entry ≡ false = ap (λ (b : Asked). nat_lt b.entry entry) (sym at) ∙ parts.1 (end + k) a (omega arith) (omega arith) in (
        dropped_in end requests a (k, h, e),
        elim (leb_tells (suc a.entry) entry) [ inl t ↦ absurd (cc (sym test ∙ t.0)) | inr f ↦ omega (arith, f.1) ],
      )

  pub later_all : (a : Asked) → Contains requests a → entry ≤ a.entry → Contains (drop end requests) a
  later_all a (k, h, e) low =
      elim (leb_tells (suc k) end) [
        | inl t ↦
            let test : nat_lt a.entry entry ≡ true = ap (λ (b : Asked). nat_lt b.entry entry) (sym e) ∙ parts.0 k a (omega arith) t.1 in
            absurd (elim (leb_tells (suc a.entry) entry) [ inl below ↦ omega (arith, below.1) | inr not ↦ cc (sym test ∙ not.0) ])
        | inr f ↦
            let long : length (drop end requests) ≡ length requests - end = length-drop end requests in
            let same : end + (k - end) ≡ k = omega (arith, f.1) in
            (k - end, omega (arith, f.1), get_or-drop end requests (k - end) a ∙ (ap (λ n. get_or requests n a) same ∙ e))
      ]

-- none of these requests is of an entry that is ready
abbrev pub NoneReady : List (List Request) → List Event → List Asked → Type 0
NoneReady plan history requests = (a : Asked) → Contains requests a → IsReady plan history a.entry → ⊥

pub none_ready_more : (plan : List (List Request)) (history : List Event) (rest : List Asked) (k : ℕ) (d : Asked) → k < length rest
    → NoneReady plan history (take k rest) → (IsReady plan history (get_or rest k d).entry → ⊥) → NoneReady plan history (take (k + 1) rest)
none_ready_more plan history rest k d within none not a there ready =
    elim ((taken_more rest k d a within).0 there) [
      | inl before ↦ none a before ready
      | inr here ↦ not (subst (λ (b : Asked). IsReady plan history b.entry) here ready)
    ]

-- what is left of a front behind the requests of the entries before a number
module _ (plan : List (List Request)) (history : List Event) (queues : List Waiting) (front rest : List Asked) (object from : ℕ)
    (part : front ≡ front_of (line queues object)) (has : (k : ℕ) (asked : Asked) → MayGoOn (line queues object) k asked → Contains front asked)
    (tied : IsTied plan (λ i. is_released (status_of history i)) queues)
    (only : (a : Asked) → Contains rest a → Contains front a × (from ≤ a.entry)) (all : (a : Asked) → Contains front a → from ≤ a.entry → Contains rest a) where
  -- what its queue has of such an entry
  abbrev asked_by : (i : ℕ) → IsReadyFor plan history object i → Asked
  asked_by i ready = record { entry = i; mode = ready.1; released = is_released (status_of history i) }

  in_rest : (i : ℕ) → from ≤ i → (ready : IsReadyFor plan history object i) → Contains rest (asked_by i ready)
  in_rest i low ready = all (asked_by i ready) (ready_in_front plan history queues front object i ready.1 has tied ready.0 ready.2) low

  -- the first entry of it that is ready is the least
  pub first_ready_least : IsInOrder rest → (k : ℕ) (d : Asked) → k < length rest → NoneReady plan history (take k rest) → IsReady plan history (get_or rest k d).entry
      → IsLeastReadyFor plan history object from (get_or rest k d).entry
  first_ready_least order k d within none ready =
      let here = only (get_or rest k d) (Contains-get_or rest k d within) in
      let stands = tied.stands object (get_or rest k d) (front_in (line queues object) (get_or rest k d) (subst (λ xs. Contains xs (get_or rest k d)) part here.0)) in
      record { not_below = here.1; ready = (ready, (get_or rest k d).mode, stands.0); before = before }
    where
      before : (i : ℕ) → from ≤ i → i < (get_or rest k d).entry → IsReadyFor plan history object i → ⊥
      before i low lt ready = by (in_rest i low ready)
        where
          by : Contains rest (asked_by i ready) → ⊥
          by (p, h, e) =
              elim (leb_tells (suc p) k) [
                | inl t ↦ none (asked_by i ready) (p, omega (arith, t.1, length-take k rest), get_or-take k rest p (asked_by i ready) t.1 ∙ e) ready.0
                | inr f ↦
                    let at : (get_or rest p d).entry ≡ i = ap (λ (b : Asked). b.entry) (get_or_default rest p d (asked_by i ready) h ∙ e) in
                    elim (eqb_tells k p) [
                      | inl same ↦ let is : (get_or rest k d).entry ≡ i = ap (λ n. (get_or rest n d).entry) same.1 ∙ at in omega arith
                      | inr other ↦ let above : (get_or rest k d).entry < (get_or rest p d).entry = order k p d (omega (arith, f.1, other.1)) h in omega arith
                    ]
              ]

  -- where none of it is, there is none
  pub none_ready_for : (k : ℕ) → length rest ≤ k → NoneReady plan history (take k rest) → (i : ℕ) → from ≤ i → IsReadyFor plan history object i → ⊥
  none_ready_for k end none i low ready = none (asked_by i ready) (rw (take_all k rest end) (in_rest i low ready)) ready.0
