-- What several calls of a source take, one after another.
use Rattle.std.proofs.Common.{◌≡◌, ℕ, ◌+◌, ◌<◌, ◌≤◌, Option, None, Some, List, [], ◌++◌, length, refl, sym, ap, ◌∙◌, arith, append_assoc, length-append, take, ◌-◌}
use Rattle.std.proofs.lemmas.List.{length-take}
use Rattle.std.specs.Io.KnownBytes.{Consumes, Keeps}
use Rattle.pooma_io.specs.Outside.{CountsCall, CountsAtMost, TakesAtMost, TakesExactly}

-- before the first call nothing is taken
pub consumes_none : (left : Option (List ℕ)) → Consumes left left []
consumes_none None = tt
consumes_none (Some xs) = refl

-- what two calls took, one after the other
pub consumes_more : (before between now : Option (List ℕ)) (first second : List ℕ) →
    Consumes before between first → Consumes between now second → Consumes before now (first ++ second)
consumes_more None between now first second h k = tt
consumes_more (Some xs) None now first second h k = absurd h
consumes_more (Some xs) (Some ys) None first second h k = absurd k
consumes_more (Some xs) (Some ys) (Some zs) first second h k =
    h ∙ ap (λ (rest : List ℕ). first ++ rest) k ∙ sym (append_assoc first second zs)

-- a call that took nothing
pub consumes_kept : (before between now : Option (List ℕ)) (bytes : List ℕ) → Consumes before between bytes → Keeps between now → Consumes before now bytes
consumes_kept None between now bytes h k = tt
consumes_kept (Some xs) None now bytes h k = absurd h
consumes_kept (Some xs) (Some ys) None bytes h k = absurd k
consumes_kept (Some xs) (Some ys) (Some zs) bytes h k = h ∙ ap (λ (rest : List ℕ). bytes ++ rest) (sym k)

-- bytes that were taken are at most so many, if they are
pub takes_at_most : (most : ℕ) (before now : Option (List ℕ)) (bytes : List ℕ) → Consumes before now bytes → length bytes ≤ most → TakesAtMost most before now
takes_at_most most None now bytes h few = tt
takes_at_most most (Some xs) None bytes h few = absurd h
takes_at_most most (Some xs) (Some ys) bytes h few = (bytes, h, few)

-- and exactly so many, if they are
pub takes_exactly : (count : ℕ) (before now : Option (List ℕ)) (bytes : List ℕ) → Consumes before now bytes → length bytes ≡ count → TakesExactly count before now
takes_exactly count None now bytes h size = tt
takes_exactly count (Some xs) None bytes h size = absurd h
takes_exactly count (Some xs) (Some ys) bytes h size = (bytes, h, size)

-- before the first call none is counted
pub counts_none : (reads : Option ℕ) → CountsAtMost reads reads 0
counts_none None = tt
counts_none (Some n) = omega arith

-- one call more
pub counts_more : (before between now : Option ℕ) (calls : ℕ) → CountsAtMost before between calls → CountsCall between now → CountsAtMost before now (calls + 1)
counts_more None between now calls h k = tt
counts_more (Some n) None None calls h k = tt
counts_more (Some n) None (Some m) calls h k = absurd k
counts_more (Some n) (Some i) None calls h k = tt
counts_more (Some n) (Some i) (Some m) calls h k = omega arith

-- at most so many are at most more
pub counts_weaker : (before now : Option ℕ) (calls most : ℕ) → CountsAtMost before now calls → calls ≤ most → CountsAtMost before now most
counts_weaker None now calls most h le = tt
counts_weaker (Some n) None calls most h le = tt
counts_weaker (Some n) (Some m) calls most h le = omega arith

-- a read of more than what the limit leaves, which asked for one byte more at most, is one byte past the limit
pub length-passes : (limit n : ℕ) (bytes piece : List ℕ) → length bytes ≤ limit → limit - length bytes < n → n ≤ limit - length bytes + 1 →
    n ≤ length piece → length (bytes ++ take n piece) ≡ limit + 1
length-passes limit n bytes piece within more asked full = omega (arith, length-append bytes (take n piece), length-take n piece)

-- what a front has is at most as many as were asked for
pub length-front : (most n : ℕ) (bytes : List ℕ) → n ≤ length (take most bytes) → n ≤ most
length-front most n bytes within = omega (arith, length-take most bytes)
