-- Numbers of 64 bits in the contents of objects, and the pieces that make such numbers of such numbers.
use Rattle.std.specs.Prelude.{List, All, IsTrue}
use Rattle.std.specs.Option.{ForSome}
use Rattle.pooma_domain.specs.Cells.{IsAxis}
use Rattle.pooma_field.specs.declared.faces.Ends.{Ends}
use Rattle.pooma_field.specs.declared.shapes.Shape.{Shape}
use Rattle.pooma_field.specs.declared.updaters.Updater.{Updater}
use Rattle.pooma_field.specs.declared.updaters.Updater.TheVariants.{Constant, Periodic, Reflect, Antireflect, Extrapolate}
use Rattle.pooma_field.specs.Numbered.{Numbered}
use Rattle.pooma_expr.specs.Words.{IsWord, literals_fit}
use Rattle.pooma_piece.specs.declared.task.Task.{Task}
use Rattle.pooma_piece.specs.declared.task.Task.TheVariants.{Assign, Reduce, Fill, Guard}
use Rattle.pooma_piece.specs.Pieces.{Pieced}

-- each number of the objects is one
abbrev pub AllWords : List Numbered → Type 0
AllWords objects = All (λ object. All IsWord object.numbers) objects

-- the constant of the updater, if it is one, is such a number
abbrev pub GivesWord : Updater → Type 0
GivesWord (Constant k) = IsWord k
GivesWord Periodic = Unit {0}
GivesWord Reflect = Unit {0}
GivesWord Antireflect = Unit {0}
GivesWord Extrapolate = Unit {0}

abbrev pub GiveWords : Ends → Type 0
GiveWords ends = GivesWord ends.low × GivesWord ends.high

-- so are those of the faces of an array of this shape
abbrev pub HaveWords : Shape → Type 0
HaveWords shape = ForSome shape.faces (λ faces. All GiveWords faces)

abbrev pub TaskMakesWords : Task → Pieced → Type 0
TaskMakesWords (Assign target) piece = All IsAxis piece.positions × IsTrue (literals_fit piece.code)
TaskMakesWords (Reduce reduction) piece = Unit {0}
TaskMakesWords (Fill shape slab array) piece = GivesWord slab.updater
TaskMakesWords (Guard array) piece = Unit {0}

-- The piece sets cells to such numbers, where those that it reads are such: its literals are, or its updater's constant is; a guard copy sets no others.
abbrev pub MakesWords : Pieced → Type 0
MakesWords piece = TaskMakesWords piece.task piece
