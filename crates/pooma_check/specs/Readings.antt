-- What is asked of readings one by one.
use Rattle.std.specs.Prelude.{◌≡◌, Bool, true, false, ◌≤◌, pos, neg_ℤ, ◌≤ℤ◌, List, [], ◌∷◌, length, All, Option, None, Some}
use Rattle.pooma_domain.specs.Cells.{Interval, IsOrdered, cells_of}
use Rattle.pooma_field.specs.Shapes.{Shaped}
use Rattle.pooma_view.specs.Slots.{positions_of}
use Rattle.pooma_view.specs.Views.{Viewed}
use Rattle.pooma_expr.specs.Trees.{views_of}
use Rattle.pooma_stencil.specs.Expansions.{expansion}
use Rattle.pooma_stencil.specs.Stencils.{Stenciled}
use Rattle.pooma_model.specs.Declarations.{Declared, MOST_CELLS, shape_at}
use Rattle.pooma_model.specs.Fit.{IsReadable}
use Rattle.pooma_script.specs.Statements.{first_positions}
use Rattle.pooma_script.specs.Tests.{HasOwnAxes, HasPositions}
use Rattle.pooma_script.specs.Views.{Reading, positions_read}

-- the positions of a reading; where there is none, the one position without axes
abbrev pub positions_of_first : Option Reading → List Interval
positions_of_first None = []
positions_of_first (Some reading) = positions_read reading

-- the one position without axes, or the positions of what is read first
abbrev pub positions_for : Bool → List Reading → List Interval
positions_for true readings = []
positions_for false readings = first_positions readings

-- all numbers of the axis lie near 0: those of a layout's domain, with its guard layers
pub record IsNearby (axis : Interval) : Type 0 where
  pub low : neg_ℤ (pos 1000008) ≤ℤ axis.first
  pub high : axis.last ≤ℤ pos 1000008

-- The shape of an array that is there: it has one to three axes, as many in both domains, not too many cells, and numbers near 0.
pub record IsShapeThere (shape : Shaped) : Type 0 where
  pub some : 1 ≤ length shape.physical
  pub few_axes : length shape.physical ≤ 3
  pub same : length shape.total ≡ length shape.physical
  pub few_cells : length (cells_of shape.total) ≤ MOST_CELLS
  pub near : All IsNearby shape.total

-- a reading has as many SUBs as its array has axes, each range has a number, and each cell of its view is one of the array
pub record IsSoundReading (declared : Declared) (reading : Reading) : Type 0 where
  pub own : HasOwnAxes declared reading
  pub numbers : HasPositions reading
  pub inside : IsReadable declared reading.view

-- The same of its view alone, whatever stencil is on it.
pub record CanView (declared : Declared) (reading : Reading) : Type 0 where
  pub slots : length reading.view.slots ≡ length (shape_at declared reading.view.array).physical
  pub taking : All IsOrdered reading.positions
  pub inside : IsReadable declared reading.view

-- the positions of a reading's view are those that its SUBs have
abbrev pub HasPlaces : Reading → Type 0
HasPlaces reading = positions_of reading.view.slots ≡ reading.positions

-- the views that are read: the view itself, or those of the stencil's body, one for each offset
abbrev pub views_by : Option Stenciled → Viewed → List Viewed
views_by None view = view ∷ []
views_by (Some stencil) view = views_of (expansion stencil view)

abbrev pub views_of_reading : Reading → List Viewed
views_of_reading reading = views_by reading.stencil reading.view
