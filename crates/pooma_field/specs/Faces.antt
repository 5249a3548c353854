-- The updaters of a field's faces, by axis.
use Rattle.std.specs.Prelude.{ℤ, List, [], ◌∷◌, if◌then◌else◌, int_lt}
use Rattle.pooma_domain.specs.Cells.{Interval}
use Rattle.pooma_field.specs.declared.faces.Ends.{Ends}
use Rattle.pooma_field.specs.declared.updaters.Updater.{Updater}

-- two updaters for each axis, in order: that of its low face, and that of its high face
abbrev pub by_axis : List Updater → List Ends
by_axis [] = []
by_axis (low ∷ []) = []
by_axis (low ∷ high ∷ updaters) = record { low = low; high = high } ∷ by_axis updaters

-- the updater of the face on the side of a number beside the axis
abbrev pub facing : Ends → Interval → ℤ → Updater
facing ends axis x = if int_lt x axis.first then ends.low else ends.high
