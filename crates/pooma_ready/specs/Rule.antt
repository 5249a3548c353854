-- The rule of a deque, between any two steps. Each end has a number of its own, and `views` at that number is what it knows.
use Rattle.std.specs.Prelude.{◌≡◌, ℕ, Bool, true, List, [], ◌∷◌, ◌++◌}
use mathlib.Core.Option.{some}
use lib.ListN.{get_elem?}
use Rattle.pooma_ready.specs.Dealing.{IsDealt, GoesOn}
use Rattle.pooma_ready.specs.declared.ends.Known.{Known}

abbrev pub known : Bool → Bool → List ℕ → List ℕ → List ℕ → Known
known owns steals put given stolen = record { owns = owns; steals = steals; put = put; given = given; stolen = stolen }

-- what a thief knows that was given one more
abbrev pub with_stolen : Known → ℕ → Known
with_stolen v j = known v.owns v.steals v.put v.given (v.stolen ++ j ∷ [])

-- who owns the deque knows what was put and what it was given; who may steal knows what it was given, and how far the owner was
abbrev pub Knows : ℕ → ℕ → List ℕ → List ℕ → List ℕ → ℕ → Known → Type 0
Knows owner thief put given stolen end v =
    (v.owns ≡ true → (end ≡ owner) × (v.put ≡ put) × (v.given ≡ given)) × (v.steals ≡ true → (end ≡ thief) × (v.stolen ≡ stolen) × GoesOn v.put put × GoesOn v.given given)

-- one end owns, one end may steal, and the numbers are dealt to them
abbrev pub Rule : List ℕ → List Known → Type 0
Rule items views = (owner : ℕ) × (thief : ℕ) × (put : List ℕ) × (given : List ℕ) × (stolen : List ℕ) × IsDealt put given stolen items
    × ((end : ℕ) (v : Known) → get_elem? views end ≡ some v → Knows owner thief put given stolen end v)
