-- The requests of a queue before those of an entry stand at its beginning.
use Rattle.std.proofs.Common.{◌≡◌, ◌≢◌, ◌<◌, ◌≤◌, ℕ, suc, true, false, List, length, get_or, sym, ◌∙◌, ap, arith, inl, inr, nat_lt}
use Rattle.std.proofs.lemmas.Bool.{ltb-true, leb-false}
use Rattle.std.proofs.lemmas.Bool.Decides.{leb_tells, eqb_tells}
use Rattle.std.proofs.lemmas.List.Sums.{prefix_len_is, prefix_len_passes, prefix_len_stops}
use Rattle.std.proofs.lemmas.List.Sorted.{IsPartitionedBy-ltb}
use Rattle.std.specs.List.{prefix_len}
use Rattle.std.specs.List.Sorted.{IsPartitionedBy, IsPartitionPoint}
use Rattle.pooma_queue.specs.declared.queue.Mode.TheVariants.{Read}
use Rattle.pooma_queue.specs.declared.queue.Asked.{Asked}
use Rattle.pooma_queue.specs.Requests.{IsInOrder}

-- the requests of earlier entries come before the others
pub order_parts : (requests : List Asked) (entry : ℕ) → IsInOrder requests → IsPartitionedBy (λ asked. nat_lt asked.entry entry) requests
order_parts requests entry order = IsPartitionedBy-ltb (λ (asked : Asked). asked.entry) requests entry rises
  where
    rises : (i j : ℕ) (d : Asked) → i ≤ j → j < length requests → (get_or requests i d).entry ≤ (get_or requests j d).entry
    rises i j d le within =
        elim (eqb_tells i j) [
          | inl same ↦ let e : (get_or requests i d).entry ≡ (get_or requests j d).entry = ap (λ k. (get_or requests k d).entry) same.1 in omega arith
          | inr other ↦ let lt : (get_or requests i d).entry < (get_or requests j d).entry = order i j d (omega (arith, other.1)) within in omega arith
        ]

-- where they part, the earlier ones end
pub earlier_end : (requests : List Asked) (entry end : ℕ) → end ≤ length requests
    → IsPartitionPoint (λ (asked : Asked). nat_lt asked.entry entry ≡ true) (λ asked. nat_lt asked.entry entry ≡ false) requests end
    → prefix_len (λ asked. nat_lt asked.entry entry) requests ≡ end
earlier_end requests entry end le parts =
    let d : Asked = record { entry = 0; mode = Read; released = false } in
    prefix_len_is (λ (asked : Asked). nat_lt asked.entry entry) requests end d le (λ k below. parts.0 k d (omega arith) below) (λ within. parts.1 end d (omega arith) within)

-- where the request behind those of earlier entries is of another entry, no request is of this one
pub none_of : (requests : List Asked) (place entry : ℕ) → IsInOrder requests → place ≡ prefix_len (λ asked. nat_lt asked.entry entry) requests
    → ((d : Asked) → place < length requests → (get_or requests place d).entry ≢ entry) → (k : ℕ) (d : Asked) → k < length requests → (get_or requests k d).entry ≢ entry
none_of requests place entry order is other k d within =
    elim (leb_tells (suc k) place) [
      | inl t ↦
          let passes = prefix_len_passes (λ (asked : Asked). nat_lt asked.entry entry) requests k d (omega (arith, t.1, is)) in
          let earlier = ltb-true (get_or requests k d).entry entry passes in
          λ e. absurd (omega (arith, earlier, e))
      | inr f ↦ elim (eqb_tells k place) [
        | inl same ↦ λ e. other d (omega (arith, same.1, within)) (sym (ap (λ n. (get_or requests n d).entry) same.1) ∙ e)
        | inr further ↦
            let there : place < k = omega (arith, f.1, further.1) in
            let stops : nat_lt (get_or requests place d).entry entry ≡ false = ap (λ n. nat_lt (get_or requests n d).entry entry) is ∙ prefix_len_stops (λ (asked : Asked). nat_lt asked.entry entry) requests d (omega (arith, is, there, within)) in
            let late : entry < suc (get_or requests place d).entry = leb-false (suc (get_or requests place d).entry) entry stops in
            let above : (get_or requests place d).entry < (get_or requests k d).entry = order place k d there within in
            λ e. absurd (omega (arith, late, above, e))
      ]
    ]
