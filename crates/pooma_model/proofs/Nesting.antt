-- Lines in which repeats stand in one another: how deep a line stands, and what stands behind the end of a repeat.
use Rattle.std.proofs.Common.{◌≡◌, ◌+◌, ◌<◌, ◌≤◌, ℕ, zero, suc, true, false, cond, Some, None, List, [], ◌∷◌, ◌++◌, length, refl, sym, ◌∙◌, ap, subst, arith, add-one, lt-ltb}
use Rattle.std.specs.Prelude.{nat_lt}
use borrow.Author.Tests.{ltb-true}
use Rattle.pooma_model.specs.declared.lines.Line.{Line}
use Rattle.pooma_model.specs.declared.lines.Line.TheVariants.{Do, Repeat, End}
use Rattle.pooma_model.specs.Lines.{depth_after}
use Rattle.pooma_model.specs.Walking.{outside}

some_zero : (n : ℕ) → Some n ≡ Some 0 → n ≡ 0
some_zero n h = cc

pub depth_in_repeat : (n turns m : ℕ) (lines : List Line) → depth_after n (Repeat (suc turns) ∷ lines) ≡ Some m → depth_after (suc n) lines ≡ Some m
depth_in_repeat n turns m lines h =
    elim (nat_lt n 4) as (λ b. cond b (depth_after (suc n) lines) None ≡ Some m → depth_after (suc n) lines ≡ Some m)
    [ true ↦ λ k. k | false ↦ λ k. cc ] h

-- behind the end of the repeat that stands so many repeats around, so many fewer stand around
pub depth-outside : (lines : List Line) (inner n depth : ℕ) → depth ≡ inner + suc n → depth_after depth lines ≡ Some 0 → depth_after n (outside inner lines) ≡ Some 0
depth-outside [] inner n depth is h = let none : depth ≡ 0 = some_zero depth h in absurd (omega arith)
depth-outside (Do s ∷ lines) inner n depth is h = depth-outside lines inner n depth is h
depth-outside (Repeat zero ∷ lines) inner n depth is h = cc
depth-outside (Repeat (suc turns) ∷ lines) inner n depth is h =
    depth-outside lines (suc inner) n (suc depth) (omega arith) (depth_in_repeat depth turns 0 lines h)
depth-outside (End ∷ lines) inner n zero is h = cc
depth-outside (End ∷ lines) zero n (suc depth) is h =
    let same : depth ≡ n = omega arith in subst (λ (k : ℕ). depth_after k lines ≡ Some 0) same h
depth-outside (End ∷ lines) (suc inner) n (suc depth) is h = depth-outside lines inner n depth (omega arith) h

-- the repeats are left one after another
pub outside-suc : (lines : List Line) (n : ℕ) → outside (suc n) lines ≡ outside 0 (outside n lines)
outside-suc [] n = refl
outside-suc (Do s ∷ lines) n = outside-suc lines n
outside-suc (Repeat turns ∷ lines) n = outside-suc lines (suc n)
outside-suc (End ∷ lines) zero = refl
outside-suc (End ∷ lines) (suc n) = outside-suc lines n

pub length-outside : (lines : List Line) (n : ℕ) → length (outside n lines) ≤ length lines
length-outside [] n = omega arith
length-outside (Do s ∷ lines) n = omega (arith, length-outside lines n)
length-outside (Repeat turns ∷ lines) n = omega (arith, length-outside lines (suc n))
length-outside (End ∷ lines) zero = omega arith
length-outside (End ∷ lines) (suc n) = omega (arith, length-outside lines n)

-- lines behind others begin as deep as those end
pub depth-append : (front lines : List Line) (n m : ℕ) → depth_after n front ≡ Some m → depth_after n (front ++ lines) ≡ depth_after m lines
depth-append [] lines n m h = let same : n ≡ m = cc in ap (λ k. depth_after k lines) same
depth-append (Do s ∷ front) lines n m h = depth-append front lines n m h
depth-append (Repeat zero ∷ front) lines n m h = cc
depth-append (Repeat (suc turns) ∷ front) lines n m h =
    elim (nat_lt n 4)
    as (λ b. cond b (depth_after (suc n) front) None ≡ Some m → cond b (depth_after (suc n) (front ++ lines)) None ≡ depth_after m lines)
    [ true ↦ λ k. depth-append front lines (suc n) m k | false ↦ λ k. cc ] h
depth-append (End ∷ front) lines zero m h = cc
depth-append (End ∷ front) lines (suc n) m h = depth-append front lines n m h

-- lines in front of the head of a repeat end one repeat less deep
pub depth_before_repeat : (front : List Line) (turns n m : ℕ) → depth_after n (front ++ Repeat turns ∷ []) ≡ Some (suc m) → depth_after n front ≡ Some m
depth_before_repeat [] zero n m h = cc
depth_before_repeat [] (suc turns) n m h =
    let deeper : Some (suc n) ≡ Some (suc m) = depth_in_repeat n turns (suc m) [] h in cc
depth_before_repeat (Do s ∷ front) turns n m h = depth_before_repeat front turns n m h
depth_before_repeat (Repeat zero ∷ front) turns n m h = cc
depth_before_repeat (Repeat (suc k) ∷ front) turns n m h =
    elim (nat_lt n 4)
    as (λ b. cond b (depth_after (suc n) (front ++ Repeat turns ∷ [])) None ≡ Some (suc m) → cond b (depth_after (suc n) front) None ≡ Some m)
    [ true ↦ λ k. depth_before_repeat front turns (suc n) m k | false ↦ λ k. cc ] h
depth_before_repeat (End ∷ front) turns zero m h = cc
depth_before_repeat (End ∷ front) turns (suc n) m h = depth_before_repeat front turns n m h

-- a repeat stands in at most three others
pub repeat_has_room : (n turns m : ℕ) (lines : List Line) → depth_after n (Repeat (suc turns) ∷ lines) ≡ Some m → n < 4
repeat_has_room n turns m lines h =
    elim (nat_lt n 4)
    as (λ b. nat_lt n 4 ≡ b → cond b (depth_after (suc n) lines) None ≡ Some m → n < 4)
    [ true ↦ λ below k. ltb-true n 4 below | false ↦ λ below k. cc ] refl h

-- four repeats are the most
pub depth_is_few : (lines : List Line) (n m : ℕ) → n ≤ 4 → depth_after n lines ≡ Some m → m ≤ 4
depth_is_few [] n m few h = let same : n ≡ m = cc in omega arith
depth_is_few (Do s ∷ lines) n m few h = depth_is_few lines n m few h
depth_is_few (Repeat zero ∷ lines) n m few h = cc
depth_is_few (Repeat (suc turns) ∷ lines) n m few h =
    let room : n < 4 = repeat_has_room n turns m lines h in
    depth_is_few lines (suc n) m (omega arith) (depth_in_repeat n turns m lines h)
depth_is_few (End ∷ lines) zero m few h = cc
depth_is_few (End ∷ lines) (suc n) m few h = depth_is_few lines n m (omega arith) h

-- a repeat with a turn in less than four others
pub repeat_is_nested : (n turns : ℕ) → 0 < turns → n < 4 → depth_after n (Repeat turns ∷ []) ≡ Some (n + 1)
repeat_is_nested n zero some few = absurd (omega arith)
repeat_is_nested n (suc turns) some few =
    ap (λ b. cond b (Some (suc n)) None) (lt-ltb n 4 few) ∙ ap Some (sym (add-one n))
