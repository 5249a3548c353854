-- Numbers that are put into a deque, and given out one after another to its owner and to one thief.
use Rattle.std.specs.Prelude.{◌≡◌, ℕ, Bool, true, false, List, [], ◌∷◌, ◌++◌, cond, ◌==◌, ◌+◌}

-- a number that was given out, and whether to the owner
abbrev pub Gift : Type 0
Gift = Bool × ℕ

-- all numbers given out
abbrev pub numbers : List Gift → List ℕ
numbers [] = []
numbers ((b, x) ∷ later) = x ∷ numbers later

-- those given to the owner
abbrev pub to_owner : List Gift → List ℕ
to_owner [] = []
to_owner ((true, x) ∷ later) = x ∷ to_owner later
to_owner ((false, x) ∷ later) = to_owner later

-- those given to the thief
abbrev pub to_thief : List Gift → List ℕ
to_thief [] = []
to_thief ((true, x) ∷ later) = to_thief later
to_thief ((false, x) ∷ later) = x ∷ to_thief later

-- first in, first out: what was put is what was given out, in the order in which it was, and then what the deque holds
abbrev pub IsDealt : List ℕ → List ℕ → List ℕ → List ℕ → Type 0
IsDealt put given stolen items = (gifts : List Gift) × (put ≡ numbers gifts ++ items) × (given ≡ to_owner gifts) × (stolen ≡ to_thief gifts)

-- a list went on from what it was
abbrev pub GoesOn : List ℕ → List ℕ → Type 0
GoesOn before now = (more : List ℕ) × (now ≡ before ++ more)

-- at a moment the deque was empty: all that the owner had put was given to it and to the thief, if one was made
abbrev pub OwnerFindsNone : List ℕ → List ℕ → Bool → Type 0
OwnerFindsNone put given robbed = (stolen : List ℕ) × IsDealt put given stolen [] × (robbed ≡ false → stolen ≡ [])

-- at a moment the deque was empty: all that the owner had put by then was given to it and to the thief
abbrev pub ThiefFindsNone : List ℕ → List ℕ → List ℕ → Type 0
ThiefFindsNone put_before given_before stolen =
    (put : List ℕ) × (given : List ℕ) × GoesOn put_before put × GoesOn given_before given × IsDealt put given stolen []

-- how often a number is in a list
abbrev pub times : ℕ → List ℕ → ℕ
times x [] = 0
times x (y ∷ ys) = cond (y == x) 1 0 + times x ys
