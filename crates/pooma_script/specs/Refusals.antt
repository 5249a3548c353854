-- What the error of a check says.
use Rattle.std.specs.Prelude.{ℕ}
use Rattle.pooma_script.specs.declared.cause.Cause.{Cause}
use Rattle.pooma_script.specs.declared.cause.CheckError.{CheckError}
use Rattle.pooma_script.specs.declared.cause.CheckError.TheVariants as error

-- where a script is refused, what holds of the line and of the cause
abbrev pub IfRefused : CheckError → (ℕ → Cause → Type 0) → Type 0
IfRefused (error.Refused refusal) Holds = Holds refusal.line refusal.cause
IfRefused error.OutOfMemory Holds = Unit {0}
