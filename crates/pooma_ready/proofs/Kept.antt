-- Each step of an end keeps the rule.
use Rattle.std.proofs.Common.{◌≡◌, ◌≢◌, ℕ, zero, suc, ◌≤◌, Bool, true, false, not, true≢false, List, [], ◌∷◌, ◌++◌, length, set, sym, refl, ap, ◌∙◌, subst, ⊎_elim}
use native.Mathlib.Omega.{arith}
use mathlib.Core.Option.{some, some-ne-none}
use lib.ListN.{get_elem?}
use Rattle.crossbeam_deque.specs.Tasks.{Pushes, Takes, Forks, Finds, FindsFew}
use Rattle.crossbeam_deque.proofs.Lists.{at_set, at_snoc}
use Rattle.pooma_ready.specs.declared.ends.Known.{Known}
use Rattle.pooma_ready.specs.Dealing.{IsDealt, GoesOn, OwnerFindsNone, ThiefFindsNone}
use Rattle.pooma_ready.specs.Rule.{known, Knows, Rule}
use Rattle.pooma_ready.proofs.Dealt.{goes_on_still, goes_on_from_itself, more_put, more_given, more_stolen}

-- the place of a new end is behind the others
at_the_end : (l : List Known) (a b : Known) (j : ℕ) → get_elem? l j ≢ some b → get_elem? (l ++ a ∷ []) j ≡ some b → j ≡ length l
at_the_end [] a b zero n e = refl
at_the_end [] a b (suc j) n e = absurd (some-ne-none b (sym e))
at_the_end (x ∷ xs) a b zero n e = absurd (n e)
at_the_end (x ∷ xs) a b (suc j) n e = ap suc (at_the_end xs a b j n e)

abbrev AllKnow : (ℕ → Known → Type 0) → List Known → Type 0
AllKnow F views = (end : ℕ) (v : Known) → get_elem? views end ≡ some v → F end v

-- one end changes, and the others still know what they knew
one_changes : (F : ℕ → Known → Type 0) (views : List Known) (end : ℕ) (w : Known) → F end w → ((j : ℕ) (u : Known) → j ≢ end → get_elem? views j ≡ some u → F j u) → AllKnow F (set views end w)
one_changes F views end w mine others j u e = ⊎_elim (λ (x : (j ≡ end) × (w ≡ u)). subst (λ (y : ℕ × Known). F y.0 y.1) (λ i. (sym x.0 i, x.1 i)) mine)
    (λ (x : (j ≢ end) × (get_elem? views j ≡ some u)). others j u x.0 x.1) (at_set views end j w u e)

pub begins : Rule [] (known true true [] [] [] ∷ [])
begins = (
  0,
  0,
  [],
  [],
  [],
  ([], refl, refl, refl),
  one_changes (Knows 0 0 [] [] []) (known true true [] [] [] ∷ []) 0 (known true true [] [] [])
      ((λ _. (refl, refl, refl)), λ _. (refl, refl, goes_on_from_itself [], goes_on_from_itself []))
      (λ j u other e. absurd (other (at_the_end [] _ u j (λ x. some-ne-none u (sym x)) e))),
)

pub puts : (end : ℕ) (v : Known) (xs : List ℕ) → v.owns ≡ true → Pushes Rule end v xs (λ w. w ≡ known v.owns v.steals (v.put ++ xs) v.given v.stolen)
puts end v xs may items views h at = let w : Known = known v.owns v.steals (v.put ++ xs) v.given v.stolen in let mine = h.6 end v at in let put = h.2 ++ xs in let is = mine.0 may in (
  w,
  (
    h.0,
    h.1,
    put,
    h.3,
    h.4,
    more_put h.2 h.3 h.4 items xs h.5,
    one_changes (Knows h.0 h.1 put h.3 h.4) views end w (
      (λ _. (is.0, ap (λ l. l ++ xs) is.1, is.2)),
      λ s. ((mine.1 s).0, (mine.1 s).1, subst (λ l. GoesOn l put) (sym (ap (λ l. l ++ xs) is.1)) (goes_on_from_itself put), (mine.1 s).3),
    )
        (λ j u other e. let its = h.6 j u e in (
          (λ p. absurd (other ((its.0 p).0 ∙ sym is.0))),
          λ s. ((its.1 s).0, (its.1 s).1, goes_on_still u.put h.2 xs (its.1 s).2, (its.1 s).3),
        )),
  ),
  refl,
)

pub takes : (end : ℕ) (v : Known) → v.owns ≡ true → Takes Rule end v 1 (λ xs w. w ≡ known v.owns v.steals v.put (v.given ++ xs) v.stolen)
takes end v may xs items views _ _ h at = let w : Known = known v.owns v.steals v.put (v.given ++ xs) v.stolen in let mine = h.6 end v at in let given = h.3 ++ xs in let is = mine.0 may in (
  w,
  (
    h.0,
    h.1,
    h.2,
    given,
    h.4,
    more_given h.2 h.3 h.4 items xs h.5,
    one_changes (Knows h.0 h.1 h.2 given h.4) views end w (
      (λ _. (is.0, is.1, ap (λ l. l ++ xs) is.2)),
      λ s. ((mine.1 s).0, (mine.1 s).1, (mine.1 s).2, subst (λ l. GoesOn l given) (sym (ap (λ l. l ++ xs) is.2)) (goes_on_from_itself given)),
    )
        (λ j u other e. let its = h.6 j u e in (
          (λ p. absurd (other ((its.0 p).0 ∙ sym is.0))),
          λ s. ((its.1 s).0, (its.1 s).1, (its.1 s).2, goes_on_still u.given h.3 xs (its.1 s).3),
        )),
  ),
  refl,
)

pub steals : (end : ℕ) (v : Known) → v.steals ≡ true → Takes Rule end v 1 (λ xs w. w ≡ known v.owns v.steals v.put v.given (v.stolen ++ xs))
steals end v may xs items views _ _ h at = let w : Known = known v.owns v.steals v.put v.given (v.stolen ++ xs) in let mine = h.6 end v at in let stolen = h.4 ++ xs in let is = mine.1 may in (
  w,
  (
    h.0,
    h.1,
    h.2,
    h.3,
    stolen,
    more_stolen h.2 h.3 h.4 items xs h.5,
    one_changes (Knows h.0 h.1 h.2 h.3 stolen) views end w (mine.0, λ _. (is.0, ap (λ l. l ++ xs) is.1, is.2, is.3))
        (λ j u other e. ((h.6 j u e).0, λ s. absurd (other (((h.6 j u e).1 s).0 ∙ sym is.0)))),
  ),
  refl,
)

pub parts : (end : ℕ) (v : Known) → v.owns ≡ true → v.steals ≡ true → Forks Rule end v (known v.owns false v.put v.given []) (known false true v.put v.given v.stolen)
parts end v a b items views h at = let l : Known = known v.owns false v.put v.given [] in let r : Known = known false true v.put v.given v.stolen in let mine = h.6 end v at in let vs : List Known = set views end l in
    let Old : ℕ → Known → Type 0 = λ j u. (u.owns ≡ true → (j ≡ h.0) × (u.put ≡ h.2) × (u.given ≡ h.3)) × (u.steals ≢ true) in
    let old : AllKnow Old vs = one_changes Old views end l ((λ _. mine.0 a), λ p. true≢false (sym p)) (λ j u other e. ((h.6 j u e).0, λ p. other (((h.6 j u e).1 p).0 ∙ sym (mine.1 b).0))) in (
      h.0,
      length vs,
      h.2,
      h.3,
      h.4,
      h.5,
      λ j u e. ⊎_elim (λ x. ((old j u x).0, λ p. absurd ((old j u x).1 p)))
          (λ (is : r ≡ u). (
            (λ p. absurd (true≢false (sym (ap (λ (y : Known). y.owns) is ∙ p)))),
            λ p. (
              at_the_end vs r u j (λ x. (old j u x).1 p) e,
              ap (λ (y : Known). y.stolen) (sym is) ∙ (mine.1 b).1,
              subst (λ (y : Known). GoesOn y.put h.2) is (mine.1 b).2,
              subst (λ (y : Known). GoesOn y.given h.3) is (mine.1 b).3,
            ),
          )) (at_snoc vs r u j e),
    )

steals_where_not : (b : Bool) → not b ≡ false → b ≡ true
steals_where_not true e = refl
steals_where_not false e = absurd (true≢false e)

empty_where_none : (items : List ℕ) → length items ≤ 0 → items ≡ []
empty_where_none [] e = refl
empty_where_none (x ∷ xs) e = absurd (omega (arith, e))

-- an end that finds the deque empty knows that all was dealt out
pub owner_finds : (end : ℕ) (v : Known) → v.owns ≡ true → v.stolen ≡ [] → Finds Rule end v (OwnerFindsNone v.put v.given (not v.steals))
owner_finds end v may none views h at = let mine = h.6 end v at in let is = mine.0 may in (
  h.4,
  subst (λ (y : List ℕ × List ℕ). IsDealt y.0 y.1 h.4 []) (λ i. (sym is.1 i, sym is.2 i)) h.5,
  λ e. sym (mine.1 (steals_where_not v.steals e)).1 ∙ none,
)

pub thief_finds : (end : ℕ) (v : Known) → v.steals ≡ true → FindsFew Rule 0 end v (ThiefFindsNone v.put v.given v.stolen)
thief_finds end v may items views few h at = let is = (h.6 end v at).1 may in
    (h.2, h.3, is.2, is.3, subst (λ l. IsDealt h.2 h.3 l []) (sym is.1) (subst (λ l. IsDealt h.2 h.3 h.4 l) (empty_where_none items few) h.5))
