-- How much a script may have.
use Rattle.std.specs.Prelude.{ℕ, Bool, true, false, List, [], ◌∷◌}
use Rattle.pooma_script.specs.declared.cause.LimitName.{LimitName}
use Rattle.pooma_script.specs.declared.cause.LimitName.TheVariants as limit

-- a script may have so much of each, and no more
abbrev pub most : LimitName → ℕ
most limit.ScriptBytes = 1048576
most limit.Lines = 10000
most limit.Name = 32
most limit.Arrays = 256
most limit.Coordinate = 1000000
most limit.Patches = 256
most limit.Guards = 8
most limit.Extents = 8
most limit.ArrayCells = 4194304
most limit.AllocatedCells = 16777216
most limit.Views = 64
most limit.Depth = 256
most limit.Repeats = 4
most limit.Parts = 65536
most limit.Statements = 1048576
most limit.PrintedValues = 4194304

-- the limits that a line can pass, in their order
abbrev pub line_limits : List LimitName
line_limits =
    limit.Lines ∷ limit.Name ∷ limit.Arrays ∷ limit.Coordinate ∷ limit.Patches ∷ limit.Guards ∷ limit.Extents ∷ limit.ArrayCells
    ∷ limit.AllocatedCells ∷ limit.Views ∷ limit.Depth ∷ limit.Repeats ∷ limit.Parts ∷ limit.Statements ∷ limit.PrintedValues ∷ []

-- the last of them, which are told of what the line does once that is made
abbrev pub late_limits : List LimitName
late_limits = limit.Parts ∷ limit.Statements ∷ limit.PrintedValues ∷ []

abbrev pub is_early : LimitName → Bool
is_early limit.Parts = false
is_early limit.Statements = false
is_early limit.PrintedValues = false
is_early other = true
