-- The two forms in which a list is kept.
use Rattle.std.specs.Prelude.{ℤ, Bool, true, false, List, replicate}
use Rattle.pooma_compress.specs.declared.cells.Form.{Form}
use Rattle.pooma_compress.specs.declared.cells.Form.TheVariants.{One, Whole}

-- the numbers that a form stands for
abbrev pub numbers_of : Form → List ℤ
numbers_of (One value len) = replicate len value
numbers_of (Whole values) = values.items

abbrev pub is_one_form : Form → Bool
is_one_form (One value len) = true
is_one_form (Whole values) = false
