-- What holds at each place of a list, and of its beginnings.
use Rattle.std.proofs.Common.{◌≡◌, ◌≢◌, ◌<◌, ◌≤◌, ℕ, List, [], ◌∷◌, length, get_or, take, set, ◌++◌, IfSome, IsNone, ◌↔◌, map, ◌∙◌, ap, min, All, Option, Some, None, slice_get, option_map, refl, sym, subst, arith, inl, inr, get_or-set_same, get_or-set_other, length-take, length-set}
use Rattle.std.proofs.lemmas.Bool.Decides.{eqb_tells, leb_tells}
use Rattle.std.proofs.lemmas.List.{get_or-take, same_lists, get_or-map, get_or_read, length-map}
use Rattle.std.proofs.lemmas.List.Quantifiers.{all_pairs_push}
use Rattle.std.proofs.lemmas.Option.{slice_get_read}
use Rattle.pooma_queue.specs.declared.queue.Asked.{Asked}
use Rattle.pooma_queue.specs.Requests.{released, IsInOrder, let_go}

-- what holds at each place below the end of a beginning holds of it
pub all_before : {X : Type 0} (P : X → Type 0) (xs : List X) (n : ℕ) → ((k : ℕ) (d : X) → k < n → k < length xs → P (get_or xs k d)) → All P (take n xs)
all_before P xs n each k d h =
    let l : length (take n xs) ≡ min n (length xs) = length-take n xs in
    let below : k < n = omega arith in
    let within : k < length xs = omega arith in
    subst P (sym (get_or-take n xs k d below)) (each k d below within)

-- a request that is written again, released
pub set_released : (requests : List Asked) (k : ℕ) (asked : Asked) → k < length requests → asked ≡ get_or requests k asked
    → IfSome (slice_get requests k) (λ a. set requests k (released asked) ≡ set requests k (released a))
set_released requests k asked there is =
    let got : slice_get requests k ≡ Some asked = slice_get_read requests (length requests) k asked refl there is in
    rw got refl

-- a further request of a later entry
pub in_order_push : (requests : List Asked) (asked : Asked) → IsInOrder requests → All (λ a. a.entry < asked.entry) requests → IsInOrder (requests ++ asked ∷ [])
in_order_push requests asked order later = all_pairs_push (λ a b. a.entry < b.entry) requests asked order later

-- there is no entry of a request exactly where there is no request
pub none_found : (found : Option ℕ) (request : Option Asked) → found ≡ option_map (λ a. a.entry) request → IsNone found ↔ (request ≡ None)
none_found found None e = rw e (λ _. refl, λ _. refl)
none_found found (Some a) e = rw e (λ h. absurd (cc h), λ h. absurd (cc h))

-- the request of another entry stays as it is
pub let_go_other : (entry : ℕ) (asked : Asked) → asked.entry ≢ entry → let_go entry asked ≡ asked
let_go_other entry asked ne =
    elim (eqb_tells asked.entry entry) [ inl t ↦ absurd (ne t.1) | inr f ↦ rw f.0 refl ]

-- this entry's request is released
pub let_go_own : (entry : ℕ) (asked : Asked) → asked.entry ≡ entry → let_go entry asked ≡ released asked
let_go_own entry asked e =
    elim (eqb_tells asked.entry entry) [ inl t ↦ rw t.0 refl | inr f ↦ absurd (f.1 e) ]

-- nothing changes where this entry has no request
pub let_go_none : (requests : List Asked) (entry : ℕ) → ((k : ℕ) (d : Asked) → k < length requests → (get_or requests k d).entry ≢ entry) → map (let_go entry) requests ≡ requests
let_go_none requests entry none =
    same_lists (map (let_go entry) requests) requests (length-map requests (let_go entry)) (λ k d h.
    let within : k < length requests = omega (arith, length-map requests (let_go entry)) in
    get_or-map (let_go entry) requests k d d within ∙ let_go_other entry (get_or requests k d) (none k d within))

-- the entries of a queue in order are distinct
pub other_entry : (requests : List Asked) (i k : ℕ) (d : Asked) → IsInOrder requests → i < length requests → k < length requests → i ≢ k → (get_or requests i d).entry ≢ (get_or requests k d).entry
other_entry requests i k d order hi hk ne same =
    elim (leb_tells k i) [
      | inl t ↦
          let above : k ≤ i = t.1 in
          let lt : (get_or requests k d).entry < (get_or requests i d).entry = order k i d (omega arith) hi in
          absurd (omega arith)
      | inr f ↦ let lt : (get_or requests i d).entry < (get_or requests k d).entry = order i k d f.1 hk in absurd (omega arith)
    ]

-- one write releases this entry's request
pub let_go_set : (requests : List Asked) (entry k : ℕ) (asked : Asked) → IsInOrder requests → k < length requests → asked ≡ get_or requests k asked → asked.entry ≡ entry
    → set requests k (released asked) ≡ map (let_go entry) requests
let_go_set requests entry k asked order there is own =
    same_lists (set requests k (released asked)) (map (let_go entry) requests) (length-set requests k (released asked) ∙ sym (length-map requests (let_go entry))) (λ i d h.
    let within : i < length requests = omega (arith, length-set requests k (released asked)) in
    at i d within ∙ sym (get_or-map (let_go entry) requests i d d within))
  where
    at : (i : ℕ) (d : Asked) → i < length requests → get_or (set requests k (released asked)) i d ≡ let_go entry (get_or requests i d)
    at i d within =
        elim (eqb_tells i k) [
          | inl t ↦
              let here : get_or requests i d ≡ asked = ap (λ j. get_or requests j d) t.1 ∙ sym (get_or_read requests k asked there is d) in
              ap (λ j. get_or (set requests k (released asked)) j d) t.1 ∙ (get_or-set_same requests k (released asked) d there ∙ (sym (let_go_own entry asked own) ∙ ap (let_go entry) (sym here)))
          | inr f ↦
              let there' : get_or requests k d ≡ asked = sym (get_or_read requests k asked there is d) in
              let ne : (get_or requests i d).entry ≢ entry = λ e. other_entry requests i k d order within there f.1 (e ∙ (sym own ∙ ap (λ a. a.entry) (sym there'))) in
              get_or-set_other requests k i (released asked) d f.1 ∙ sym (let_go_other entry (get_or requests i d) ne)
        ]
