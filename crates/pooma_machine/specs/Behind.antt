-- What a call leaves behind a reference that it was handed, if it was handed one.
use Rattle.std.specs.Prelude.{◌⊎◌, Option, None, Some}
use Rattle.std.proofs.Common.{inl, inr}
use Rattle.std.specs.Borrow.{MutBor}

-- the last value behind an optional reference
abbrev pub left_behind : {V : Type 0} → Unit {0} ⊎ ((MutBor V × Unit {0}) ⊎ ⊥) → Option V
left_behind (inl none) = None
left_behind (inr (inl some)) = Some some.0.now
left_behind (inr (inr never)) = absurd never
