-- What is appended to a text, and the text of a refusal.
use Rattle.std.specs.Prelude.{◌≡◌, ℕ, zero, suc, ℤ, List, [], ◌∷◌, ◌++◌, codes, decimal}
use Rattle.std.specs.Fmt.{signed_decimal}
use Rattle.pooma_model.specs.Assigning.{Place, Position, Sum}
use Rattle.pooma_print.specs.declared.fault.FaultPlace.{FaultPlace}
use Rattle.pooma_print.specs.declared.fault.FaultPlace.TheVariants as at

-- the refusal of a line for the cause of this text
abbrev pub refusal_text : ℕ → List ℕ → List ℕ
refusal_text line text = codes "refused line " ++ decimal line ++ codes ": " ++ text ++ 10 ∷ []

-- the bytes have grown by a front of the text
pub record GrowsByFront (old new text : List ℕ) : Type 0 where
  pub front : List ℕ
  pub back : List ℕ
  pub whole : text ≡ front ++ back
  pub grown : new ≡ old ++ front

-- the place of a fault, in the words of the definition of a run
abbrev pub place_of : FaultPlace → Place
place_of (at.Position p) = Position p
place_of at.Sum = Sum

-- the number at a place of a list whose numbers have a separator between each two
abbrev pub joined_number : ℕ → ℕ → ℤ → List ℕ
joined_number separator zero n = signed_decimal n
joined_number separator (suc place) n = separator ∷ signed_decimal n
