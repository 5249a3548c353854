-- The signs of the language, each as its bytes.
use Rattle.std.specs.Prelude.{ℕ, List, [], ◌∷◌, codes}

-- the signs of two bytes
abbrev pub double_signs : List (List ℕ)
double_signs =
    codes "<=" ∷ codes ">=" ∷ codes "==" ∷ codes "!=" ∷ codes "+=" ∷ codes "-=" ∷ codes "*=" ∷ []

-- the signs of one byte
abbrev pub single_signs : List ℕ
single_signs = codes "()[],:=+-*/%<>&|@"
