-- What is read where so many parentheses and minuses may still be opened.
use Rattle.std.proofs.Common.{◌≡◌, ℕ, zero, suc, ◌-◌, ◌<◌, true, false, List, None, refl, sym, arith, codes, nat_lt}
use Rattle.std.proofs.lemmas.Bool.Decides.{nat_tests}
use Rattle.pooma_parse.specs.declared.expression.Place.{Place}
use Rattle.pooma_parse.specs.declared.form.RawExpr.TheVariants as tree
use Rattle.pooma_parse.specs.Languages.{MOST_NUM}
use Rattle.pooma_parse.specs.Reader.{and_then, begins_named, begins_number, begins_sign, behind, expr_within, primary_within, pure, read_named, read_nested, read_number, read_primary, read_unary, unary_within}
use Rattle.pooma_parse.specs.Tokens.{Lexeme}

pub primary_number : (place : Place) (n : ℕ) (tokens : List Lexeme) → true ≡ begins_number tokens
    → primary_within place n tokens ≡ and_then (read_number MOST_NUM tokens) (λ n. pure (tree.Number n))
unfolding primary_within read_primary
primary_number place zero tokens number = rw (sym number) refl
primary_number place (suc n) tokens number = rw (sym number) refl

-- something may be opened
open_depth : (n : ℕ) → nat_lt 0 (suc n) ≡ true
open_depth n = grind (arith, nat_tests)

pub primary_named : (place : Place) (n : ℕ) (tokens : List Lexeme) → false ≡ begins_number tokens → true ≡ begins_named place tokens
    → primary_within place n tokens ≡ read_named (nat_lt 0 n) tokens
unfolding primary_within read_primary
primary_named place zero tokens number name = rw (sym number, sym name) refl
primary_named place (suc n) tokens number name = rw (sym number, sym name, open_depth n) refl

pub primary_shut : (place : Place) (n : ℕ) (tokens : List Lexeme) → false ≡ begins_number tokens → false ≡ begins_named place tokens → n ≡ 0
    → primary_within place n tokens ≡ None
unfolding primary_within read_primary
primary_shut place zero tokens number name none = rw (sym number, sym name) refl
primary_shut place (suc n) tokens number name none = absurd (omega arith)

pub primary_nested : (place : Place) (n : ℕ) (tokens : List Lexeme) → false ≡ begins_number tokens → false ≡ begins_named place tokens → 0 < n
    → primary_within place n tokens ≡ read_nested place (expr_within place (n - 1)) tokens
unfolding primary_within read_primary
primary_nested place zero tokens number name some = absurd (omega arith)
primary_nested place (suc n) tokens number name some =
    let less : suc n - 1 ≡ n = omega arith in rw (less, sym number, sym name) refl

pub unary_plain : (place : Place) (n : ℕ) (tokens : List Lexeme) → false ≡ begins_sign (codes "-") tokens
    → unary_within place n tokens ≡ primary_within place n tokens
unfolding unary_within read_unary primary_within
unary_plain place zero tokens minus = rw (sym minus) refl
unary_plain place (suc n) tokens minus = rw (sym minus) refl

pub unary_shut : (place : Place) (n : ℕ) (tokens : List Lexeme) → true ≡ begins_sign (codes "-") tokens → n ≡ 0
    → unary_within place n tokens ≡ None
unfolding unary_within read_unary
unary_shut place zero tokens minus none = rw (sym minus) refl
unary_shut place (suc n) tokens minus none = absurd (omega arith)

pub unary_minus : (place : Place) (n : ℕ) (tokens : List Lexeme) → true ≡ begins_sign (codes "-") tokens → 0 < n
    → unary_within place n tokens ≡ and_then (unary_within place (n - 1) (behind tokens)) (λ operand. pure (tree.Neg operand))
unfolding unary_within read_unary
unary_minus place zero tokens minus some = absurd (omega arith)
unary_minus place (suc n) tokens minus some =
    let less : suc n - 1 ≡ n = omega arith in rw (less, sym minus) refl
