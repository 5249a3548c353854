-- What holds of each element of a list and each later one.
use Rattle.std.proofs.Common.{suc, inl, inr, refl, List, [], ◌∷◌, ◌++◌, Contains, arith}
use Rattle.std.specs.Prelude.{All, AllPairs}
use Rattle.std.proofs.lemmas.List.Elements.{All-append, All-contains, Contains-append_left}
use Rattle.std.proofs.lemmas.List.Kept.{AllPairs-cons}
use Rattle.pooma_logic.proofs.Members.{Member, all_members, contains_of}

module _ {X : Type 0} (R : X → X → Type 0) where
  pub pairs_none : AllPairs R []
  pairs_none i j d before within = absurd (omega (arith, within))

  -- of the first one and each later one, and of the later ones
  pub pairs_first : (x : X) (xs : List X) → AllPairs R (x ∷ xs) → All (R x) xs
  pairs_first x xs pairs k d within = pairs 0 (suc k) d (omega arith) (omega arith)

  pub pairs_rest : (x : X) (xs : List X) → AllPairs R (x ∷ xs) → AllPairs R xs
  pairs_rest x xs pairs i j d before within = pairs (suc i) (suc j) d (omega arith) (omega arith)

  pub pairs_with_first : (x : X) (xs : List X) → AllPairs R (x ∷ xs) → (y : X) → Contains xs y → R x y
  pairs_with_first x xs pairs y there = All-contains (R x) xs y (pairs_first x xs pairs) there

  -- of two lists after one another
  pub pairs_of_both : (xs ys : List X) → AllPairs R xs → AllPairs R ys → ((x y : X) → Member xs x → Member ys y → R x y) → AllPairs R (xs ++ ys)
  pairs_of_both [] ys one two across = two
  pairs_of_both (x ∷ xs) ys one two across =
      AllPairs-cons R x (xs ++ ys)
      (All-append (R x) xs ys (pairs_first x xs one) (all_members (R x) ys (λ y m. across x y (inl refl) m)))
      (pairs_of_both xs ys (pairs_rest x xs one) two (λ y z m n. across y z (inr m) n))

  pub pairs_in_front : (xs ys : List X) → AllPairs R (xs ++ ys) → AllPairs R xs
  pairs_in_front [] ys pairs = pairs_none
  pairs_in_front (x ∷ xs) ys pairs =
      AllPairs-cons R x xs (all_members (R x) xs (λ y m. pairs_with_first x (xs ++ ys) pairs y (Contains-append_left xs ys y (contains_of xs y m))))
      (pairs_in_front xs ys (pairs_rest x (xs ++ ys) pairs))
