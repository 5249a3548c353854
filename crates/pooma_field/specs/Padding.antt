-- How the updaters of fewer than three axes are kept as those of three.
use Rattle.std.specs.Prelude.{◌≡◌, ℕ, ◌≤◌, pos}
use Rattle.pooma_field.specs.declared.faces.Ends.{Ends}
use Rattle.pooma_field.specs.declared.updaters.Updater.TheVariants.{Constant}

-- what stands for the faces of an axis that the field does not have
abbrev pub no_ends : Ends
no_ends = record { low = Constant (pos 0); high = Constant (pos 0) }

-- the faces of one to three axes, and those that the field does not have are constant 0
pub record ArePaddedFaces (dims : ℕ) (x y z : Ends) : Type 0 where
  pub some : 1 ≤ dims
  pub few : dims ≤ 3
  pub no_y : dims ≤ 1 → y ≡ no_ends
  pub no_z : dims ≤ 2 → z ≡ no_ends
