-- Lists in which each element stands once, and what is made of them in any order.
use Rattle.std.proofs.Common.{refl, sym, ap, ◌∙◌, subst, inl, inr, ⊎_elim, arith}
use Rattle.std.specs.Prelude.{◌≡◌, ◌⊎◌, ◌↔◌, ℕ, zero, suc, Some, List, [], ◌∷◌, ◌++◌, slice_get}
use Rattle.pooma_logic.proofs.Members.{Member, member_cases, member_left, member_right, stands_at}

-- no element stands in the list twice
abbrev pub Distinct : {A : Type 0} → List A → Type 0
Distinct [] = Unit {0}
Distinct (x ∷ xs) = (Member xs x → ⊥) × Distinct xs

-- a list of which no element stands at two places
pub distinct_by_places : {A : Type 0} (xs : List A) → ((j k : ℕ) (x : A) → slice_get xs j ≡ Some x → slice_get xs k ≡ Some x → j ≡ k) → Distinct xs
distinct_by_places [] once = tt
distinct_by_places (x ∷ xs) once = (
  λ m. let at = stands_at xs x m in let same : zero ≡ suc at.0 = once zero (suc at.0) x refl at.1 in absurd (omega arith),
  distinct_by_places xs (λ j k y at_j at_k. let same : suc j ≡ suc k = once (suc j) (suc k) y at_j at_k in omega arith),
)

pub distinct_joined : {A : Type 0} (xs ys : List A) → Distinct xs → Distinct ys → ((x : A) → Member xs x → Member ys x → ⊥) → Distinct (xs ++ ys)
distinct_joined [] ys dx dy apart = dy
distinct_joined (x ∷ xs) ys dx dy apart = (
  λ m. ⊎_elim (λ l. dx.0 l) (λ r. apart x (inl refl) r) (member_cases xs ys x m),
  distinct_joined xs ys dx.1 dy (λ z l r. apart z (inr l) r),
)

-- an element, what stands before it and what stands behind it
pub taken_out : {A : Type 0} (xs : List A) (x : A) → Member xs x → (front : List A) × (back : List A) × (xs ≡ front ++ x ∷ back)
taken_out [] x m = absurd m
taken_out (y ∷ ys) x m =
    ⊎_elim (λ e. ([], ys, ap (λ z. z ∷ ys) e))
    (λ later. let out = taken_out ys x later in (y ∷ out.0, out.1, ap (λ zs. y ∷ zs) out.2))
    m

pub with_middle : {A : Type 0} (front : List A) (x : A) (back : List A) (z : A) → Member (front ++ back) z → Member (front ++ x ∷ back) z
with_middle front x back z m =
    ⊎_elim (λ l. member_left front (x ∷ back) z l) (λ r. member_right front (x ∷ back) z (inr r)) (member_cases front back z m)

-- without an element in the middle, the others still stand once, and it is none of them
pub without : {A : Type 0} (front : List A) (x : A) (back : List A) → Distinct (front ++ x ∷ back) → (Member (front ++ back) x → ⊥) × Distinct (front ++ back)
without [] x back d = d
without (y ∷ front) x back d =
    let rest = without front x back d.1 in (
      λ m. ⊎_elim (λ e. d.0 (subst (Member (front ++ x ∷ back)) (sym e) (member_right front (x ∷ back) x (inl refl)))) (λ later. rest.0 later) m,
      (λ m. d.0 (with_middle front x back y m), rest.1),
    )

pub beside : {A : Type 0} (front : List A) (x : A) (back : List A) (z : A) → Member (front ++ x ∷ back) z → (x ≡ z) ⊎ Member (front ++ back) z
beside front x back z m =
    ⊎_elim (λ l. inr (member_left front back z l))
    (λ r. ⊎_elim (λ e. inl e) (λ b. inr (member_right front back z b)) r)
    (member_cases front (x ∷ back) z m)

-- What is made of a list, one element after another, where two elements may be exchanged: of good elements it makes fine results.
module _ {A R : Type 0} (make : List A → R) (step : A → R → R) (Good : A → Type 0) (Fine : R → Type 0)
    (first : (x : A) (xs : List A) → make (x ∷ xs) ≡ step x (make xs))
    (none : Fine (make []))
    (keeps : (x : A) (r : R) → Good x → Fine r → Fine (step x r))
    (turn : (x y : A) (r : R) → Good x → Good y → Fine r → step x (step y r) ≡ step y (step x r)) where
  fine : (xs : List A) → ((x : A) → Member xs x → Good x) → Fine (make xs)
  fine [] good = none
  fine (x ∷ xs) good =
      subst Fine (sym (first x xs)) (keeps x (make xs) (good x (inl refl)) (fine xs (λ y m. good y (inr m))))

  to_front : (front : List A) (x : A) (back : List A) → ((y : A) → Member (front ++ x ∷ back) y → Good y) → make (front ++ x ∷ back) ≡ make (x ∷ (front ++ back))
  to_front [] x back good = refl
  to_front (y ∷ front) x back good =
      first y (front ++ x ∷ back)
      ∙ ap (step y) (to_front front x back (λ z m. good z (inr m)) ∙ first x (front ++ back))
      ∙ turn y x (make (front ++ back)) (good y (inl refl)) (good x (inr (member_right front (x ∷ back) x (inl refl)))) (fine (front ++ back) (λ z m. good z (inr (with_middle front x back z m))))
      ∙ ap (step x) (sym (first y (front ++ back)))
      ∙ sym (first x (y ∷ (front ++ back)))

  -- the order of the elements does not count
  pub in_any_order : (xs ys : List A) → Distinct xs → Distinct ys → ((x : A) → Member xs x ↔ Member ys x) → ((x : A) → Member xs x → Good x) → make xs ≡ make ys
  in_any_order [] [] dx dy same good = refl
  in_any_order [] (y ∷ ys) dx dy same good = absurd ((same y).1 (inl refl))
  in_any_order (x ∷ xs) ys dx dy same good =
      let out = taken_out ys x ((same x).0 (inl refl)) in
      let d : Distinct (out.0 ++ x ∷ out.1) = subst Distinct out.2 dy in
      let rest = without out.0 x out.1 d in
      first x xs
      ∙ ap (step x) (in_any_order xs (out.0 ++ out.1) dx.1 rest.1
      (λ z. (
        λ m. ⊎_elim (λ e. absurd (dx.0 (subst (Member xs) (sym e) m))) (λ o. o)
            (beside out.0 x out.1 z (subst (λ l. Member l z) out.2 ((same z).0 (inr m)))),
        λ m. ⊎_elim (λ e. absurd (rest.0 (subst (Member (out.0 ++ out.1)) (sym e) m))) (λ o. o)
            ((same z).1 (subst (λ l. Member l z) (sym out.2) (with_middle out.0 x out.1 z m))),
      ))
      (λ z m. good z (inr m)))
      ∙ sym (first x (out.0 ++ out.1))
      ∙ sym (to_front out.0 x out.1 (λ z m. good z ((same z).1 (subst (λ l. Member l z) (sym out.2) m))))
      ∙ ap make (sym out.2)
