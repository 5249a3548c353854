-- The operators of a line as those of a tree.
use Rattle.std.specs.Prelude.{List, ℕ, codes, if◌then◌else◌}
use Rattle.std.specs.Str.{bytes_eq}
use Rattle.pooma_parse.specs.declared.form.RawOp.{RawOp}
use Rattle.pooma_parse.specs.declared.form.RawOp.TheVariants as raw
use Rattle.pooma_parse.specs.declared.form.Updater4.{Updater4}
use Rattle.pooma_parse.specs.declared.form.Updater4.TheVariants as written
use Rattle.pooma_field.specs.declared.updaters.Updater.{Updater}
use Rattle.pooma_field.specs.declared.updaters.Updater.TheVariants as updater
use Rattle.pooma_expr.specs.declared.tree.Op.{Op}
use Rattle.pooma_expr.specs.declared.tree.Op.TheVariants as op
use Rattle.pooma_expr.specs.declared.reduction.Reduction.{Reduction}
use Rattle.pooma_expr.specs.declared.reduction.Reduction.TheVariants as reduction

abbrev pub op_of : RawOp → Op
op_of raw.Add = op.Add
op_of raw.Sub = op.Sub
op_of raw.Mul = op.Mul
op_of raw.Div = op.Div
op_of raw.Rem = op.Rem
op_of raw.Min = op.Min
op_of raw.Max = op.Max
op_of raw.Less = op.Less
op_of raw.LessEq = op.LessEq
op_of raw.Greater = op.Greater
op_of raw.GreaterEq = op.GreaterEq
op_of raw.Equal = op.Equal
op_of raw.Unequal = op.Unequal
op_of raw.BitAnd = op.BitAnd
op_of raw.BitOr = op.BitOr

abbrev pub updater_of : Updater4 → Updater
updater_of (written.Constant n) = updater.Constant n
updater_of written.Periodic = updater.Periodic
updater_of written.Reflect = updater.Reflect
updater_of written.Antireflect = updater.Antireflect
updater_of written.Extrapolate = updater.Extrapolate

-- the reduction of a word, which the grammar lets be one of these eight
abbrev pub reduction_of : List ℕ → Reduction
reduction_of word =
    if bytes_eq word (codes "sum") then reduction.Sum else
    if bytes_eq word (codes "min") then reduction.Min else
    if bytes_eq word (codes "max") then reduction.Max else
    if bytes_eq word (codes "all") then reduction.All else
    if bytes_eq word (codes "any") then reduction.Any else
    if bytes_eq word (codes "count") then reduction.Count else
    if bytes_eq word (codes "bitand") then reduction.BitAnd else reduction.BitOr
