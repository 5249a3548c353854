-- A recursion on a count of turns, beside a loop that counts up.
use Rattle.std.proofs.Common.{◌≡◌, ℕ, suc, ◌+◌, ◌-◌, ◌<◌, ◌≤◌, List, [], ◌∷◌, ◌++◌, Option, Some, true, ap, ◌∙◌, sym, codes, arith}
use Rattle.pooma_parse.specs.declared.form.RawExpr.{RawExpr}
use Rattle.pooma_parse.specs.declared.form.RawExpr.TheVariants.{Bin}
use Rattle.pooma_parse.specs.declared.form.RawOp.{RawOp}
use Rattle.pooma_parse.specs.Expressions.{Level}
use Rattle.pooma_parse.specs.Reader.{Reader, begins_sign, behind, operator_at, read_entries, read_operands}
use Rattle.pooma_parse.specs.Tokens.{Lexeme}

pub one_more : {X : Type 0} {x : X} (f : ℕ → X) (n at : ℕ) → at < n → x ≡ f (n - at) → x ≡ f (suc (n - (at + 1)))
one_more f n at below e = let turn : n - at ≡ suc (n - (at + 1)) = omega arith in e ∙ ap f turn

pub no_more : {X : Type 0} {x : X} (f : ℕ → X) (n at : ℕ) → n ≤ at → x ≡ f (n - at) → x ≡ f 0
no_more f n at done e = let none : n - at ≡ 0 = omega arith in e ∙ ap f none

-- one entry more was read
pub entry_read : {A : Type 0} {X : Option (List A × List Lexeme)} (p : Reader A) (n at : ℕ) (found : List A) (old new : List Lexeme) (x : A) → at < n
    → X ≡ read_entries p (n - at) found old → true ≡ begins_sign (codes ",") old → p (behind old) ≡ Some (x, new)
    → X ≡ read_entries p (n - (at + 1)) (found ++ x ∷ []) new
unfolding read_entries
entry_read p n at found old new x below e comma entry =
    let more = one_more (λ k. read_entries p k found old) n at below e in rw (sym comma, entry) at more

-- one operand more was read
pub operand_read : {X : Option (RawExpr × List Lexeme)} (level : Level) (p : Reader RawExpr) (n at : ℕ) (before : RawExpr) (old new : List Lexeme) (op : RawOp) (next : RawExpr)
    → at < n → X ≡ read_operands level p (n - at) before old → Some op ≡ operator_at level old → p (behind old) ≡ Some (next, new)
    → X ≡ read_operands level p (n - (at + 1)) (Bin op before next) new
unfolding read_operands
operand_read level p n at before old new op next below e sign operand =
    let more = one_more (λ k. read_operands level p k before old) n at below e in rw (sym sign, operand) at more
