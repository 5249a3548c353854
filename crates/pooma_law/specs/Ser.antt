-- What is left when the works of a plan are done one after another, each whole before the next is begun.
use Rattle.std.specs.Prelude.{List, [], ◌∷◌, ◌++◌, fold}
use Rattle.pooma_machine.specs.Values.{Meaning, lent_by, new_value_of, outcome_of, put_back, written_object}

-- the objects' values, and the outcomes of the works that were done, in their order
pub record Results (V O : Type 0) : Type 0 where
  pub objects : List V
  pub outcomes : List O

-- before the first work
abbrev pub at_first : {V O : Type 0} → List V → Results V O
at_first opening = record { objects = opening; outcomes = [] }

-- after one work more, done on what the objects lend to it: the object that it writes has the new value, and its outcome is
-- the last
abbrev pub with_work : {W V O S : Type 0} → Meaning W V O S → Results V O → W → Results V O
with_work meaning now work =
    let lent = lent_by now.objects (meaning.requests work) in
    record {
      objects = put_back now.objects (written_object (meaning.requests work)) (new_value_of meaning work lent);
      outcomes = now.outcomes ++ outcome_of meaning work lent ∷ [];
    }

-- after all works of the plan, from these values of the objects on
abbrev pub ser : {W V O S : Type 0} → Meaning W V O S → List W → List V → Results V O
ser meaning plan opening = fold (with_work meaning) (at_first opening) plan
