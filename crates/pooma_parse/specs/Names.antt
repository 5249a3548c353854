-- The words of the language, which are no names.
use Rattle.std.specs.Prelude.{List, ℕ, [], ◌∷◌, codes, Contains}

abbrev pub reserved_words : List (List ℕ)
reserved_words =
    codes "layout" ∷ codes "blocks" ∷ codes "cuts" ∷ codes "internal" ∷ codes "external" ∷ codes "brick" ∷ codes "array" ∷ codes "on"
    ∷ codes "field" ∷ codes "faces" ∷ codes "constant" ∷ codes "periodic" ∷ codes "reflect" ∷ codes "antireflect" ∷ codes "extrapolate"
    ∷ codes "stencil" ∷ codes "lower" ∷ codes "upper" ∷ codes "scalar" ∷ codes "print" ∷ codes "block" ∷ codes "repeat" ∷ codes "end"
    ∷ codes "index" ∷ codes "where" ∷ codes "min" ∷ codes "max" ∷ codes "abs" ∷ codes "sum" ∷ codes "all" ∷ codes "any" ∷ codes "count"
    ∷ codes "bitand" ∷ codes "bitor" ∷ codes "script" ∷ codes "when" ∷ codes "dynamic" ∷ codes "create" ∷ codes "destroy"
    ∷ codes "backfill" ∷ codes "shiftup" ∷ []

-- NAME: a word that is not reserved
abbrev pub IsName : List ℕ → Type 0
IsName text = Contains reserved_words text → ⊥
