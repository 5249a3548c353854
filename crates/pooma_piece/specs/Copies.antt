-- What a guard copy makes of the patches that are lent to it.
use Rattle.std.specs.Prelude.{ℤ, Option, List}
use Rattle.pooma_field.specs.Numbered.{Numbered, Change}
use Rattle.pooma_piece.specs.Lent.{copied_from, lent_for, number_in}
use Rattle.pooma_piece.specs.Pieces.{Pieced}

-- the cell gets the number that it has in the patch that is read
abbrev pub copy_change : Pieced → Option Numbered → List Numbered → List ℤ → Change
copy_change piece written reads c = record { cell = c; number = number_in (lent_for piece written reads (copied_from piece)) c }
