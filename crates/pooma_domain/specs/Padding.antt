-- How a cell and a box of fewer than three axes are kept as one of three.
use Rattle.std.specs.Prelude.{◌≡◌, ℕ, zero, suc, ◌*◌, ◌^◌, ◌<◌, ◌≤◌, ℤ, pos, [], ◌∷◌, length, take, slice_index_or}
use Rattle.std.proofs.Common.{refl, sym, arith, lit≤}
use Rattle.pooma_domain.specs.Cells.{Interval, interval, axis_length, IsAxis}

-- at most three coordinates, and those that the cell does not have are 0
pub record IsPaddedCell (dims : ℕ) (x y z : ℤ) : Type 0 where
  pub few : dims ≤ 3
  pub no_x : dims ≤ 0 → x ≡ pos 0
  pub no_y : dims ≤ 1 → y ≡ pos 0
  pub no_z : dims ≤ 2 → z ≡ pos 0

-- what stands for an axis that a box does not have
abbrev pub no_axis : Interval
no_axis = interval (pos 0) (pos 0)

-- at most three axes, those that the box does not have are 0:0, and the cells are no more than a signed number of 64 bits counts
pub record IsPaddedBox (dims : ℕ) (x y z : Interval) : Type 0 where
  pub few : dims ≤ 3
  pub no_x : dims ≤ 0 → x ≡ no_axis
  pub no_y : dims ≤ 1 → y ≡ no_axis
  pub no_z : dims ≤ 2 → z ≡ no_axis
  pub x_axis : IsAxis x
  pub y_axis : IsAxis y
  pub z_axis : IsAxis z
  pub countable : axis_length x * axis_length y * axis_length z < 2 ^ 63

pub length-padded : {A : Type 0} (d : ℕ) (x y z : A) → d ≤ 3 → length (take d (x ∷ y ∷ z ∷ [])) ≡ d
length-padded zero x y z h = refl
length-padded (suc zero) x y z h = refl
length-padded (suc (suc zero)) x y z h = refl
length-padded (suc (suc (suc zero))) x y z h = refl
length-padded (suc (suc (suc (suc d)))) x y z h = absurd (omega arith)

-- what stands at each of three places is given back by a front of the list, where what the front lacks is the default
pub first-padded : {A : Type 0} (d : ℕ) (x y z e : A) → d ≤ 3 → (d ≤ 0 → x ≡ e) → slice_index_or (take d (x ∷ y ∷ z ∷ [])) 0 e ≡ x
first-padded zero x y z e h n = sym (n (lit≤ tt))
first-padded (suc zero) x y z e h n = refl
first-padded (suc (suc zero)) x y z e h n = refl
first-padded (suc (suc (suc zero))) x y z e h n = refl
first-padded (suc (suc (suc (suc d)))) x y z e h n = absurd (omega arith)

pub second-padded : {A : Type 0} (d : ℕ) (x y z e : A) → d ≤ 3 → (d ≤ 1 → y ≡ e) → slice_index_or (take d (x ∷ y ∷ z ∷ [])) 1 e ≡ y
second-padded zero x y z e h n = sym (n (lit≤ tt))
second-padded (suc zero) x y z e h n = sym (n (lit≤ tt))
second-padded (suc (suc zero)) x y z e h n = refl
second-padded (suc (suc (suc zero))) x y z e h n = refl
second-padded (suc (suc (suc (suc d)))) x y z e h n = absurd (omega arith)

pub third-padded : {A : Type 0} (d : ℕ) (x y z e : A) → d ≤ 3 → (d ≤ 2 → z ≡ e) → slice_index_or (take d (x ∷ y ∷ z ∷ [])) 2 e ≡ z
third-padded zero x y z e h n = sym (n (lit≤ tt))
third-padded (suc zero) x y z e h n = sym (n (lit≤ tt))
third-padded (suc (suc zero)) x y z e h n = sym (n (lit≤ tt))
third-padded (suc (suc (suc zero))) x y z e h n = refl
third-padded (suc (suc (suc (suc d)))) x y z e h n = absurd (omega arith)
