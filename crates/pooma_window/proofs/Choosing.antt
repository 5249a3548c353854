-- The list of the entries that are ready, as it is made of single entries.
use Rattle.std.proofs.Common.{◌≡◌, ◌⊎◌, ◌↔◌, ◌+◌, ◌<◌, ◌≤◌, ℕ, false, List, [], ◌∷◌, ◌++◌, refl, length, take, get_or, Contains, sym, ◌∙◌, ap, subst, arith, inl, inr, nat_lt, min, length-take}
use Rattle.std.proofs.lemmas.Bool.Decides.{leb_tells, eqb_tells}
use Rattle.std.proofs.lemmas.List.{take_all, get_or-take, get_or_default, take_more}
use Rattle.std.proofs.lemmas.List.Elements.{Contains-get_or}
use Rattle.std.proofs.lemmas.List.Quantifiers.{all_pairs_push}
use Rattle.pooma_logic.proofs.Decided.{contains_or_not, same_ℕ_or_not}
use Rattle.pooma_logic.proofs.Elements.{contains_none}
use Rattle.pooma_machine.specs.declared.step.Request.{Request}
use Rattle.pooma_machine.specs.declared.step.Event.{Event}
use Rattle.pooma_machine.specs.Steps.{Conflict, IsReady, IsLeastReady, IsReadyFor, requests_of}
use Rattle.pooma_machine.specs.Became.{IsAscending, IsListOf}
use Rattle.pooma_window.proofs.Lists.{behind_cases, behind_last, behind_others}

-- each of these may be run
abbrev pub AreReady : List (List Request) → List Event → List ℕ → Type 0
AreReady plan history list = (j : ℕ) → Contains list j → IsReady plan history j

-- these are all that may be run below a number
abbrev pub HaveBelow : List (List Request) → List Event → ℕ → List ℕ → Type 0
HaveBelow plan history from list = (j : ℕ) → j < from → IsReady plan history j → Contains list j

-- those that may be run now and are not in the old list
abbrev pub IsNew : List (List Request) → List Event → List ℕ → ℕ → Type 0
IsNew plan history old j = IsReady plan history j × (Contains old j → ⊥)

-- the new list is the old one with one more entry
abbrev pub HasMore : List ℕ → ℕ → List ℕ → Type 0
HasMore old entry new = (j : ℕ) → Contains new j ↔ (Contains old j ⊎ (j ≡ entry))

module _ (plan : List (List Request)) (history : List Event) where
  pub more_ready : (old new : List ℕ) (entry : ℕ) → AreReady plan history old → IsReady plan history entry → HasMore old entry new → AreReady plan history new
  more_ready old new entry stays ready more j there =
      elim ((more j).0 there) [ inl before ↦ stays j before | inr same ↦ subst (IsReady plan history) (sym same) ready ]

  -- with the least one from a number on, all below the next number are there
  pub more_below : (old new : List ℕ) (from entry : ℕ) → HaveBelow plan history from old → IsLeastReady plan history from entry → HasMore old entry new → HaveBelow plan history (entry + 1) new
  more_below old new from entry below least more j lt ready =
      elim (leb_tells from j) [
        | inr before ↦ (more j).1 (inl (below j before.1 ready))
        | inl behind ↦
            elim (eqb_tells j entry) [
              | inl same ↦ (more j).1 (inr same.1)
              | inr other ↦ absurd (least.before j behind.1 (omega (arith, other.1)) ready)
            ]
      ]

  -- where there is none from a number on, those below it are all
  pub all_found : (list : List ℕ) (from : ℕ) → IsAscending list → AreReady plan history list → HaveBelow plan history from list → ((j : ℕ) → from ≤ j → IsReady plan history j → ⊥)
      → IsListOf (IsReady plan history) list
  all_found list from up stays below none =
      record {
        ascending = up;
        exactly = λ j. (stays j, λ ready. elim (leb_tells from j) [ inr before ↦ below j before.1 ready | inl behind ↦ absurd (none j behind.1 ready) ]);
      }

  module _ (old whole named : List ℕ) (list_of : IsListOf (IsNew plan history old) whole) (names : named ≡ take 16 whole) where
    -- an entry that is named may be run
    pub named_ready : (k : ℕ) → k < length named → IsReady plan history (get_or named k 0)
    named_ready k within =
        let long : length (take 16 whole) ≡ min 16 (length whole) = length-take 16 whole in
        let short : k < length (take 16 whole) = subst (λ list. k < length list) names within in
        let e : get_or named k 0 ≡ get_or whole k 0 = ap (λ list. get_or list k 0) names ∙ get_or-take 16 whole k 0 (omega arith) in
        let there : k < length whole = omega arith in
        subst (IsReady plan history) (sym e) ((list_of.exactly (get_or whole k 0)).0 (k, there, get_or_default whole k (get_or whole k 0) 0 there)).0

    -- with all that are named where these are all that are new, and with the old ones, the list is whole
    pub all_named : (list : List ℕ) (k : ℕ) → nat_lt 16 (length whole) ≡ false → length named ≤ k → IsAscending list → AreReady plan history list
        → ((j : ℕ) → Contains old j → Contains list j) → ((j : ℕ) → Contains (take k named) j → Contains list j) → IsListOf (IsReady plan history) list
    all_named list k few end up stays kept put =
        record {
          ascending = up;
          exactly = λ j. (
            stays j,
            λ ready. elim (contains_or_not same_ℕ_or_not old j) [
              | inl before ↦ kept j before
              | inr not ↦ put j (rw (take_all k named end, names, take_all 16 whole short) ((list_of.exactly j).1 (ready, not)))
            ],
          );
        }
      where
        short : length whole ≤ 16
        short = elim (leb_tells 17 (length whole)) [ inl many ↦ absurd (cc (sym few ∙ many.0)) | inr not ↦ omega (arith, not.1) ]

-- the first places and one more
pub more_named : (named : List ℕ) (k : ℕ) (old new : List ℕ) → k < length named → HasMore old (get_or named k 0) new → ((j : ℕ) → Contains (take k named) j → Contains old j)
    → (j : ℕ) → Contains (take (k + 1) named) j → Contains new j
more_named named k old new within more put j there =
    elim (behind_cases (take k named) (get_or named k 0) j (rw (take_more named k 0 within) at there)) [
      | inl before ↦ (more j).1 (inl (put j before))
      | inr same ↦ (more j).1 (inr same)
    ]

-- these are all below a number for which it holds
pub record HasAllBelow (holds : ℕ → Type 0) (from : ℕ) (list : List ℕ) : Type 0 where
  pub up : IsAscending list
  pub stays : (j : ℕ) → Contains list j → holds j × (j < from)
  pub below : (j : ℕ) → j < from → holds j → Contains list j

module _ (holds : ℕ → Type 0) where
  pub none_below : (from : ℕ) (list : List ℕ) → from ≡ 0 → list ≡ [] → HasAllBelow holds from list
  none_below from list zero none = record {
    up = λ i j d lt within. let empty : length list ≡ 0 = rw none refl in absurd (omega arith);
    stays = λ j there. absurd (contains_none j (rw none at there));
    below = λ j lt h. absurd (omega arith);
  }

  -- with the least one from there on, all below the next number are there
  pub next_below : (from entry : ℕ) (list more : List ℕ) → HasAllBelow holds from list → from ≤ entry → holds entry → ((i : ℕ) → from ≤ i → i < entry → holds i → ⊥)
      → more ≡ list ++ entry ∷ [] → HasAllBelow holds (entry + 1) more
  next_below from entry list more all low here before is = record {
    up = rw is (all_pairs_push (λ a b. a < b) list entry all.up (λ k d h. let lt : get_or list k d < from = (all.stays (get_or list k d) (Contains-get_or list k d h)).1 in omega arith));
    stays = λ j there. elim (behind_cases list entry j (rw is at there)) [
      | inl old ↦ let lt : j < from = (all.stays j old).1 in ((all.stays j old).0, omega arith)
      | inr same ↦ (subst holds (sym same) here, omega (arith, same))
    ];
    below = λ j lt h. rw is (elim (leb_tells from j) [
      | inr old ↦ behind_others list entry j (all.below j old.1 h)
      | inl behind ↦ elim (eqb_tells j entry) [
        | inl same ↦ subst (Contains (list ++ entry ∷ [])) (sym same.1) (behind_last list entry)
        | inr other ↦ absurd (before j behind.1 (omega (arith, other.1)) h)
      ]
    ]);
  }

  -- where there is none from there on, these are all
  pub all_below : (from : ℕ) (list : List ℕ) → HasAllBelow holds from list → ((j : ℕ) → from ≤ j → holds j → ⊥) → IsListOf holds list
  all_below from list all none = record {
    ascending = all.up;
    exactly = λ j. (λ there. (all.stays j there).0, λ h. elim (leb_tells from j) [ inr old ↦ all.below j old.1 h | inl behind ↦ absurd (none j behind.1 h) ]);
  }

-- the new list is the old one with these entries
abbrev pub HasThese : List ℕ → List ℕ → List ℕ → Type 0
HasThese old these new = (j : ℕ) → Contains new j ↔ (Contains old j ⊎ Contains these j)

-- the list has what is ready and asks for an object of one of these requests, what it had before, and nothing else
pub record HasOver (plan : List (List Request)) (history : List Event) (old : List ℕ) (requests : List Request) (list : List ℕ) : Type 0 where
  pub stays : AreReady plan history list
  pub had : (j : ℕ) → Contains old j → Contains list j
  pub over : (r : Request) → Contains requests r → (j : ℕ) → IsReadyFor plan history r.object j → Contains list j

module _ (plan : List (List Request)) (history : List Event) (old : List ℕ) where
  pub none_over : (requests : List Request) → requests ≡ [] → AreReady plan history old → HasOver plan history old requests old
  none_over requests none stays = record { stays = stays; had = λ j there. there; over = λ r there j ready. absurd (contains_none r (rw none at there)) }

  pub next_over : (requests : List Request) (k : ℕ) (d : Request) (list these new : List ℕ) → k < length requests → HasOver plan history old (take k requests) list
      → IsListOf (IsReadyFor plan history (get_or requests k d).object) these → HasThese list these new → HasOver plan history old (take (k + 1) requests) new
  next_over requests k d list these new within before ready more = record {
    stays = λ j there. elim ((more j).0 there) [ inl had ↦ before.stays j had | inr put ↦ ((ready.exactly j).0 put).0 ];
    had = λ j there. (more j).1 (inl (before.had j there));
    over = λ r there j asks. elim (behind_cases (take k requests) (get_or requests k d) r (rw (take_more requests k d within) at there)) [
      | inl earlier ↦ (more j).1 (inl (before.over r earlier j asks))
      | inr same ↦ (more j).1 (inr ((ready.exactly j).1 (subst (λ (q : Request). IsReadyFor plan history q.object j) same asks)))
    ];
  }

  -- where what is ready and not among the old ones conflicts with an entry, and these are its requests, the list is whole
  pub all_over : (requests : List Request) (entry k : ℕ) (list : List ℕ) → requests ≡ requests_of plan entry → length requests ≤ k → IsAscending list
      → ((j : ℕ) → IsReady plan history j → (Contains old j → ⊥) → Conflict plan entry j)
      → HasOver plan history old (take k requests) list → IsListOf (IsReady plan history) list
  all_over requests entry k list are end up freed has = record { ascending = up; exactly = λ j. (has.stays j, λ ready. by j ready (contains_or_not same_ℕ_or_not old j)) }
    where
      by : (j : ℕ) → IsReady plan history j → Contains old j ⊎ (Contains old j → ⊥) → Contains list j
      by j ready (inl there) = has.had j there
      by j ready (inr not) = over j ready (freed j ready not)
        where
          over : (j : ℕ) → IsReady plan history j → Conflict plan entry j → Contains list j
          over j ready (object, both) =
              let mine : Contains requests (record { object = object; mode = both.one }) = rw are both.asks_one in
              has.over (record { object = object; mode = both.one }) (rw (take_all k requests end) mine) j (ready, both.other, both.asks_other)
