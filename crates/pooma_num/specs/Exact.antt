-- What a call of the checked arithmetic answers: the exact number, or the named fault.
use Rattle.std.specs.Prelude.{◌≡◌, ◌≢◌, ℤ, pos, Result, Ok, Err, FitsSigned}
use Rattle.std.specs.Int.{w64}
use Rattle.pooma_num.specs.declared.fault.FaultKind.{FaultKind}
use Rattle.pooma_num.specs.declared.fault.FaultKind.TheVariants.{Overflow, ZeroDivisor}

-- this number where it fits 64 bits, and else the overflow
abbrev pub IsExact : Result ℤ FaultKind → ℤ → Type 0
IsExact (Ok x) z = FitsSigned w64 z × (x ≡ z)
IsExact (Err e) z = (¬ (FitsSigned w64 z)) × (e ≡ Overflow)

-- a zero divisor, and at any other divisor this number where it fits 64 bits, and else the overflow
abbrev pub IsExactDivision : Result ℤ FaultKind → ℤ → ℤ → Type 0
IsExactDivision (Ok x) divisor z = (divisor ≢ pos 0) × FitsSigned w64 z × (x ≡ z)
IsExactDivision (Err Overflow) divisor z = (divisor ≢ pos 0) × (¬ (FitsSigned w64 z))
IsExactDivision (Err ZeroDivisor) divisor z = divisor ≡ pos 0
