-- The repeats in which a walk stands, the innermost first.
use Rattle.std.specs.Prelude.{ℕ, zero, suc, List, [], ◌∷◌}
use Rattle.pooma_model.specs.declared.turns.Turn.{Turn}

-- a place among the lines, and the repeats in which it is reached
pub record Place : Type 0 where
  pub place : ℕ
  pub turns : List Turn

abbrev pub again_or_out : ℕ → ℕ → List Turn → ℕ → Place
again_or_out zero start turns behind = record { place = behind; turns = turns }
again_or_out (suc left) start turns behind = record { place = start; turns = record { start = start; left = left } ∷ turns }

-- where a walk goes on at the end of the innermost repeat: at its start where it is done again, else behind the end and out of it
abbrev pub behind_end : List Turn → ℕ → Place
behind_end [] behind = record { place = behind; turns = [] }
behind_end (turn ∷ turns) behind = again_or_out turn.left turn.start turns behind
