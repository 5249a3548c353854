-- The texts of the causes for which scripts are refused.
use Rattle.std.specs.Prelude.{ℕ, List, ◌++◌, codes}
use Rattle.pooma_script.specs.declared.cause.Cause.{Cause}
use Rattle.pooma_script.specs.declared.cause.Cause.TheVariants as cause
use Rattle.pooma_script.specs.declared.cause.LimitName.{LimitName}
use Rattle.pooma_script.specs.declared.cause.LimitName.TheVariants as limit

abbrev pub limit_text : LimitName → List ℕ
limit_text limit.ScriptBytes = codes "script bytes"
limit_text limit.Lines = codes "lines"
limit_text limit.Name = codes "name"
limit_text limit.Arrays = codes "arrays"
limit_text limit.Coordinate = codes "coordinate"
limit_text limit.Patches = codes "patches"
limit_text limit.Guards = codes "guards"
limit_text limit.Extents = codes "extents"
limit_text limit.ArrayCells = codes "array cells"
limit_text limit.AllocatedCells = codes "allocated cells"
limit_text limit.Views = codes "views"
limit_text limit.Depth = codes "depth"
limit_text limit.Repeats = codes "repeats"
limit_text limit.Parts = codes "parts"
limit_text limit.Statements = codes "statements"
limit_text limit.PrintedValues = codes "printed values"

abbrev pub cause_text : Cause → List ℕ
cause_text cause.Syntax = codes "syntax"
cause_text cause.Name = codes "name"
cause_text cause.Dimension = codes "dimension"
cause_text cause.Empty = codes "empty"
cause_text cause.Outside = codes "outside"
cause_text cause.Unequal = codes "unequal"
cause_text cause.Overlap = codes "overlap"
cause_text (cause.Limit name) = codes "limit (" ++ limit_text name ++ codes ")"
cause_text cause.OpenRepeat = codes "open repeat"
