-- Where what is lent for an object stands among all that is lent, and what is read there.
use Rattle.std.specs.Prelude.{◌≡◌, ℕ, ◌==◌, ℤ, pos, Option, None, Some, List, slice_get, if◌then◌else◌}
use Rattle.std.specs.List.{position_or_len}
use Rattle.pooma_domain.specs.Cells.{IsIn}
use Rattle.pooma_view.specs.Slots.{cell_named, positions_of}
use Rattle.pooma_view.specs.Views.{Viewed}
use Rattle.pooma_field.specs.Numbered.{Numbered}
use Rattle.pooma_expr.specs.Trees.{views_of}
use Rattle.pooma_expr.specs.Values.{Contents}
use Rattle.pooma_machine.specs.declared.step.Request.{Request}
use Rattle.pooma_machine.specs.Values.{read_objects}
use Rattle.pooma_piece.specs.declared.source.Source.{Source}
use Rattle.pooma_piece.specs.declared.source.Source.TheVariants.{Written, Read}
use Rattle.pooma_piece.specs.Lent.{is_written, lent_for, number_in}
use Rattle.pooma_piece.specs.Pieces.{Pieced}

-- where what is lent for the object stands: it is what is written, or one of those that are read
abbrev pub source_of : Option ℕ → List Request → ℕ → Source
source_of write requests object =
    if is_written write object then Written else Read (position_or_len (λ o. o == object) (read_objects requests))

abbrev pub from_source : {A : Type 0} → Source → Option A → List A → Option A
from_source Written written reads = written
from_source (Read k) written reads = slice_get reads k

-- the number that a view names at a position, where it is read there
abbrev pub read_from : Option Viewed → Option Source → Option Numbered → List Numbered → List ℤ → ℤ
read_from None source written reads p = pos 0
read_from (Some view) None written reads p = pos 0
read_from (Some view) (Some source) written reads p = number_in (from_source source written reads) (cell_named view.slots p)

-- the number of a read, of which these are the views and the sources
abbrev pub number_read : List Viewed → List Source → Option Numbered → List Numbered → ℕ → List ℤ → ℤ
number_read views sources written reads k p = read_from (slice_get views k) (slice_get sources k) written reads p

-- there is such a read, it has the position, and the patch in which it is read has the cell
pub record CanRead (views : List Viewed) (sources : List Source) (written : Option Numbered) (reads : List Numbered) (k : ℕ) (p : List ℤ) : Type 0 where
  pub view : Viewed
  pub source : Source
  pub content : Numbered
  pub view_is : slice_get views k ≡ Some view
  pub source_is : slice_get sources k ≡ Some source
  pub position : IsIn (positions_of view.slots) p
  pub lent : from_source source written reads ≡ Some content
  pub inside : IsIn content.area (cell_named view.slots p)

-- the content in which the object is read has the cell
pub record HasCellOf (piece : Pieced) (written : Option Numbered) (reads : List Numbered) (object : ℕ) (c : List ℤ) : Type 0 where
  pub content : Numbered
  pub lent : lent_for piece written reads object ≡ Some content
  pub inside : IsIn content.area c

-- each cell that the piece reads at the position is there
abbrev pub CanSee : Pieced → Option Numbered → List Numbered → List ℤ → Type 0
CanSee piece written reads p =
    (k : ℕ) (view : Viewed) (object : ℕ) → slice_get (views_of piece.code) k ≡ Some view → slice_get piece.reads k ≡ Some object
    → HasCellOf piece written reads object (cell_named view.slots p)

-- each cell that the piece reads at the position has the number that the views' arrays are said to have
abbrev pub SeesAs : Pieced → Option Numbered → List Numbered → Contents → List ℤ → Type 0
SeesAs piece written reads has p =
    (k : ℕ) (view : Viewed) (object : ℕ) → slice_get (views_of piece.code) k ≡ Some view → slice_get piece.reads k ≡ Some object
    → number_in (lent_for piece written reads object) (cell_named view.slots p) ≡ has view (cell_named view.slots p)

-- what is found at the source has the cell
pub record HasCellAt (source : Source) (written : Option Numbered) (reads : List Numbered) (c : List ℤ) : Type 0 where
  pub content : Numbered
  pub lent : from_source source written reads ≡ Some content
  pub inside : IsIn content.area c

-- each of these cells is in the content in which it is read
abbrev pub FindsSources : Pieced → Option Numbered → List Numbered → List (List ℤ) → Type 0
FindsSources piece written reads cells =
    (k : ℕ) (object : ℕ) (c : List ℤ) → slice_get piece.reads k ≡ Some object → slice_get cells k ≡ Some c
    → HasCellOf piece written reads object c
