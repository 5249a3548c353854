-- What an error says, in other words.
use Rattle.std.proofs.Common.{ℕ}
use Rattle.std.specs.Prelude.{Result, Ok, Err, IfErr}
use Rattle.pooma_script.specs.declared.cause.Cause.{Cause}
use Rattle.pooma_script.specs.declared.cause.CheckError.{CheckError}
use Rattle.pooma_script.specs.declared.cause.CheckError.TheVariants as error
use Rattle.pooma_script.specs.Refusals.{IfRefused}

pub refused_too : (P Q : ℕ → Cause → Type 0) → ((line : ℕ) (why : Cause) → P line why → Q line why) → (e : CheckError) → IfRefused e P → IfRefused e Q
refused_too P Q so (error.Refused refusal) h = so refusal.line refusal.cause h
refused_too P Q so error.OutOfMemory h = tt

pub answered_too : {T : Type 0} (P Q : ℕ → Cause → Type 0) → ((line : ℕ) (why : Cause) → P line why → Q line why) → (r : Result T CheckError)
    → IfErr r (λ e. IfRefused e P) → IfErr r (λ e. IfRefused e Q)
answered_too P Q so (Ok x) h = tt
answered_too P Q so (Err e) h = refused_too P Q so e h
