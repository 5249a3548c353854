-- What a stencil is, and the positions of its result.
use Rattle.std.specs.Prelude.{◌≡◌, ◌≤◌, ℤ, pos, ◌-ℤ◌, ◌≤ℤ◌, List, length, All}
use Rattle.pooma_domain.specs.Cells.{Interval, interval, IsIn}
use Rattle.pooma_domain.specs.Operations.{each_of, moved, reaches}
use Rattle.pooma_stencil.specs.declared.body.Body.{Body}
use Rattle.pooma_stencil.specs.Bodies.{offsets_of}

-- how far a body reads below and above a position on each axis, and the body
pub record Stenciled : Type 0 where
  pub lower : List ℤ
  pub upper : List ℤ
  pub body : Body

-- an extent is 0 to 8
abbrev pub IsExtent : ℤ → Type 0
IsExtent n = (pos 0 ≤ℤ n) × (n ≤ℤ pos 8)

-- one to three axes, with a lower and an upper extent each, and no offset beyond them
pub record IsStencil (s : Stenciled) : Type 0 where
  pub some : 1 ≤ length s.lower
  pub few : length s.lower ≤ 3
  pub paired : length s.upper ≡ length s.lower
  pub low : All IsExtent s.lower
  pub high : All IsExtent s.upper
  pub within : All (IsIn (reaches s.lower s.upper)) (offsets_of s.body)

-- the axes without their last numbers, as many as both extents
abbrev pub shrunk : List Interval → List ℤ → List ℤ → List Interval
shrunk axes lower upper = each_of (λ axis extents. interval axis.first (axis.last -ℤ extents)) axes (moved lower upper)

-- the positions of a stencil's result, where its view has these
abbrev pub result_positions : Stenciled → List Interval → List Interval
result_positions s positions = shrunk positions s.lower s.upper
