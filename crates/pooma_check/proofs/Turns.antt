-- How often the open repeats are done, as it is kept.
use Rattle.std.proofs.Common.{◌≡◌, ℕ, suc, ◌-◌, min, List, [], ◌∷◌, ◌++◌, length, None, Some, refl, ap, ◌∙◌, arith}
use Rattle.std.specs.Prelude.{slice_get}
use Rattle.pooma_model.specs.Order.{Frame}
use Rattle.pooma_script.specs.declared.count.TheConstants.{CAP}
use Rattle.pooma_check.specs.Kept.{turns_kept, turns_of}

get_behind : {A : Type 0} (xs : List A) (y : A) → slice_get (xs ++ y ∷ []) (length xs) ≡ Some y
get_behind [] y = refl
get_behind (x ∷ xs) y = get_behind xs y

long : {A : Type 0} (xs : List A) (y : A) → length (xs ++ y ∷ []) - 1 ≡ length xs
long [] y = refl
long (x ∷ xs) y = let h = long xs y in let more = longer xs y in omega (arith, h, more)
  where
    longer : {A : Type 0} (xs : List A) (y : A) → length (xs ++ y ∷ []) ≡ suc (length xs)
    longer [] y = refl
    longer (x ∷ xs) y = ap (λ n. suc n) (longer xs y)

-- the last of what is kept is that of all open repeats
last_kept : (frame : Frame) (frames : List Frame) → slice_get (turns_kept (frame ∷ frames)) (length (turns_kept (frame ∷ frames)) - 1) ≡ Some (min (turns_of (frame ∷ frames)) CAP)
last_kept frame frames =
    let y = min (turns_of (frame ∷ frames)) CAP in
    ap (slice_get (turns_kept frames ++ y ∷ [])) (long (turns_kept frames) y) ∙ get_behind (turns_kept frames) y

pub last_turns : (frames : List Frame) (items : List ℕ) (x : ℕ) → items ≡ turns_kept frames → Some x ≡ slice_get items (length items - 1) → x ≡ min (turns_of frames) CAP
last_turns [] items x is at = let none : Some x ≡ None = at ∙ ap (λ l. slice_get l (length l - 1)) is in cc
last_turns (frame ∷ frames) items x is at =
    let same : Some x ≡ Some (min (turns_of (frame ∷ frames)) CAP) = at ∙ (ap (λ l. slice_get l (length l - 1)) is ∙ last_kept frame frames) in cc

pub no_turns : (frames : List Frame) (items : List ℕ) → items ≡ turns_kept frames → None ≡ slice_get items (length items - 1) → 1 ≡ min (turns_of frames) CAP
no_turns [] items is at = refl
no_turns (frame ∷ frames) items is at =
    let same : None ≡ Some (min (turns_of (frame ∷ frames)) CAP) = at ∙ (ap (λ l. slice_get l (length l - 1)) is ∙ last_kept frame frames) in cc
