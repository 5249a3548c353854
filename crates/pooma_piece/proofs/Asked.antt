-- The requests for some objects are a list of requests, and which ones they are.
use Rattle.std.proofs.Common.{refl, sym, ap, ◌∙◌, subst, ⊎_elim, arith, get_or}
use Rattle.std.proofs.lemmas.Bool.{cases_lt}
use Rattle.std.proofs.lemmas.Bool.Decides.{nat_tests}
use Rattle.std.proofs.lemmas.List.Edits.{length-insert, get_or-insert_below, get_or-insert_at, get_or-insert_above}
use Rattle.std.proofs.lemmas.List.Sums.{prefix_len-le-length, prefix_len_passes, prefix_len_stops}
use Rattle.std.specs.List.{insert, list_any, prefix_len}
use Rattle.std.specs.Prelude.{◌≡◌, ◌==◌, nat_lt, ℕ, zero, suc, ◌+◌, ◌-◌, ◌<◌, ◌≤◌, Bool, true, false, Option, None, Some, List, [], ◌∷◌, length, fold, ◌||◌}
use Rattle.std.proofs.Common.{cond}
use Rattle.pooma_queue.specs.declared.queue.Mode.TheVariants.{Read, Write}
use Rattle.pooma_machine.specs.declared.step.Request.{Request}
use Rattle.pooma_machine.specs.Steps.{IsRequestList}
use Rattle.pooma_piece.specs.Requests.{request, requests_for, with_read, write_request}

-- one request stands before another
abbrev Before : Request → Request → Type 0
Before a b = (a.object < b.object) × (a.mode ≡ Write → b.mode ≡ Write → ⊥)

before_as : (a b a' b' : Request) → a' ≡ a → b' ≡ b → Before a b → Before a' b'
before_as a b a' b' e f h = subst (λ (x : Request). Before x b') (sym e) (subst (Before a) (sym f) h)

or_false : (a b : Bool) → (a || b) ≡ false → (a ≡ false) × (b ≡ false)
or_false true b e = absurd (cc)
or_false false b e = (refl, e)

each_fails : (p : Request → Bool) (xs : List Request) (k : ℕ) (d : Request) → list_any p xs ≡ false → k < length xs → p (get_or xs k d) ≡ false
each_fails p [] k d e h = absurd (omega arith)
each_fails p (x ∷ xs) zero d e h = (or_false (p x) (list_any p xs) e).0
each_fails p (x ∷ xs) (suc k) d e h = each_fails p xs k d (or_false (p x) (list_any p xs) e).1 (omega arith)

-- the test of a number below another, and of two numbers that are the same, read as facts
below_is : (a b : ℕ) → nat_lt a b ≡ true → a < b
below_is a b e = grind (arith, nat_tests)

not_below_is : (a b : ℕ) → nat_lt a b ≡ false → (a == b) ≡ false → b < a
not_below_is a b e f = grind (arith, nat_tests)

-- a request to read goes in behind those for objects of lesser numbers
one_more_read : (xs : List Request) (o : ℕ) → IsRequestList xs → list_any (λ r. r.object == o) xs ≡ false → IsRequestList (insert xs (prefix_len (λ r. nat_lt r.object o) xs) (request Read o))
one_more_read xs o h none i j d before within =
    let n : ℕ = prefix_len (λ r. nat_lt r.object o) xs in
    let most : n ≤ length xs = prefix_len-le-length (λ r. nat_lt r.object o) xs in
    let count : length (insert xs n (request Read o)) ≡ length xs + 1 = length-insert xs n (request Read o) most in
    ⊎_elim
    (λ (low : j < n).
    before_as _ _ _ _ (get_or-insert_below xs n (request Read o) d i (omega (arith, low, before)) most) (get_or-insert_below xs n (request Read o) d j low most)
    (h i j d before (omega (arith, low, most))))
    (λ (high : n ≤ j).
    ⊎_elim
    (λ (low : i < n).
    ⊎_elim
    (λ (above : n < j).
    let j' : ℕ = j - 1 in
    let is : j ≡ j' + 1 = omega (arith, above) in
    before_as _ _ _ _ (get_or-insert_below xs n (request Read o) d i low most)
    (ap (λ (k : ℕ). get_or (insert xs n (request Read o)) k d) is ∙ get_or-insert_above xs n (request Read o) d j' (omega (arith, above, is)) most)
    (h i j' d (omega (arith, low, above, is)) (omega (arith, is, within, count))))
    (λ (at : j ≤ n).
    let is : j ≡ n = omega (arith, at, high) in
    before_as _ _ _ _ (get_or-insert_below xs n (request Read o) d i low most)
    (ap (λ (k : ℕ). get_or (insert xs n (request Read o)) k d) is ∙ get_or-insert_at xs n (request Read o) d most)
    (below_is _ o (prefix_len_passes (λ r. nat_lt r.object o) xs i d low), λ a b. cc))
    (cases_lt n j))
    (λ (from : n ≤ i).
    let j' : ℕ = j - 1 in
    let is : j ≡ j' + 1 = omega (arith, before) in
    let there : j' < length xs = omega (arith, is, within, count) in
    let second : get_or (insert xs n (request Read o)) j d ≡ get_or xs j' d =
    ap (λ (k : ℕ). get_or (insert xs n (request Read o)) k d) is ∙ get_or-insert_above xs n (request Read o) d j' (omega (arith, from, before, is)) most in
    let stops : nat_lt (get_or xs n d).object o ≡ false = prefix_len_stops (λ r. nat_lt r.object o) xs d (omega (arith, from, before, is, there)) in
    let other : ((get_or xs n d).object == o) ≡ false = each_fails (λ r. r.object == o) xs n d none (omega (arith, from, before, is, there)) in
    let higher : o < (get_or xs n d).object = not_below_is _ o stops other in
    ⊎_elim
    (λ (above : n < i).
    let i' : ℕ = i - 1 in
    let is' : i ≡ i' + 1 = omega (arith, above) in
    before_as _ _ _ _ (ap (λ (k : ℕ). get_or (insert xs n (request Read o)) k d) is' ∙ get_or-insert_above xs n (request Read o) d i' (omega (arith, above, is')) most) second
    (h i' j' d (omega (arith, is, is', before)) there))
    (λ (at : i ≤ n).
    let is' : i ≡ n = omega (arith, at, from) in
    before_as (request Read o) _ _ _ (ap (λ (k : ℕ). get_or (insert xs n (request Read o)) k d) is' ∙ get_or-insert_at xs n (request Read o) d most) second (
      ⊎_elim
          (λ (later : n < j'). omega (arith, higher, (h n j' d later there).0))
          (λ (same : j' ≤ n). let equal : j' ≡ n = omega (arith, same, is, is', before) in subst (λ (k : ℕ). o < (get_or xs k d).object) (sym equal) higher)
          (cases_lt n j'),
      λ a b. cc,
    ))
    (cases_lt n i))
    (cases_lt i n))
    (cases_lt j n)

with_read_keeps : (xs : List Request) (o : ℕ) → IsRequestList xs → IsRequestList (with_read xs o)
with_read_keeps xs o h =
    elim (list_any (λ (r : Request). r.object == o) xs) as (λ b. list_any (λ (r : Request). r.object == o) xs ≡ b → IsRequestList (cond b xs (insert xs (prefix_len (λ (r : Request). nat_lt r.object o) xs) (request Read o)))) [
      | true ↦ λ e. h
      | false ↦ λ e. one_more_read xs o h e
    ] refl

all_read : (os : List ℕ) (xs : List Request) → IsRequestList xs → IsRequestList (fold with_read xs os)
all_read [] xs h = h
all_read (o ∷ os) xs h = all_read os (with_read xs o) (with_read_keeps xs o h)

write_alone : (write : Option ℕ) → IsRequestList (write_request write)
write_alone None i j d before within = absurd (omega arith)
write_alone (Some o) i j d before within = absurd (omega arith)

pub are_requests : (write : Option ℕ) (reads : List ℕ) → IsRequestList (requests_for write reads)
are_requests write reads = all_read reads (write_request write) (write_alone write)
