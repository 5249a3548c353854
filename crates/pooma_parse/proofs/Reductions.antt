-- The right side of a reduction is no expression.
use Rattle.std.proofs.Common.{◌≡◌, ℕ, zero, suc, true, false, not, if◌then◌else◌, List, [], ◌∷◌, ◌++◌, Option, Some, None, refl, sym, ap, ◌∙◌, subst, inl, inr, arith, codes, Contains, bytes_eq}
use Rattle.std.specs.List.{list_any}
use Rattle.pooma_text.specs.declared.span.Span.{Span}
use Rattle.pooma_text.specs.declared.token.TokenKind.TheVariants.{Word}
use Rattle.pooma_parse.specs.declared.expression.Place.{Place}
use Rattle.pooma_parse.specs.declared.expression.Place.TheVariants.{InLine}
use Rattle.pooma_parse.specs.declared.form.RawExpr.{RawExpr}
use Rattle.pooma_parse.specs.declared.form.RawOp.{RawOp}
use Rattle.pooma_parse.specs.declared.form.RawOp.TheVariants as op
use Rattle.pooma_parse.specs.Expressions.{EXPR}
use Rattle.pooma_parse.specs.Forms.{RED, reductions}
use Rattle.pooma_parse.specs.Languages.{parens}
use Rattle.pooma_parse.specs.Reader.{Reader, and_then, begins, begins_name, begins_number, begins_reduction, begins_sign, begins_word, expect, expr_within, is_reserved, read_both, read_compared, read_expr, read_nested, read_own, read_primary, read_reduction_word, read_repeated, read_unary, same_kind, span_of, unary_within}
use Rattle.pooma_parse.specs.Tokens.{Lexeme, sign_token, word_token}
use Rattle.pooma_parse.proofs.Atoms.{and_parts, among_contains, begins_of, contains_among, same_kind_is, sign_exact, span_at, span_read, token_begins, token_of}
use Rattle.pooma_parse.proofs.Exact.{Any, Begins, Exact, cut, if_cases, if_false, if_true, some_same, step}
use Rattle.pooma_parse.proofs.Operands.{within_exact}
use Rattle.pooma_parse.proofs.Commas.{closed_exact}
use Rattle.pooma_parse.proofs.Operators.{Follows, before_comma, closes}
use Rattle.pooma_parse.proofs.Trees.{Deep}

-- ---- the word of a reduction

red_at : (tokens rest : List Lexeme) (v : Span) → begins_reduction tokens ≡ true → span_of tokens tokens ≡ Some (v, rest) → Begins (RED v) tokens rest
unfolding begins_reduction
red_at [] rest v test e = absurd (cc)
red_at (t ∷ tokens) rest v test e =
    let parts = and_parts (same_kind t.kind Word) (list_any (bytes_eq t.text) reductions) test in
    let kinds = same_kind_is t.kind Word parts.0 in
    let at = span_at t tokens rest v e in
    record {
      front = t ∷ [];
      spelled = (t.text, among_contains reductions t.text parts.1, ap (λ k. token_of k t.text t.span ∷ []) kinds ∙ ap (λ s. token_of Word t.text s ∷ []) at.0);
      whole = ap (λ r. t ∷ r) at.1;
    }

red_test : (text : List ℕ) (span : Span) (rest : List Lexeme) → Contains reductions text → begins_reduction (word_token text span ∷ rest) ≡ true
unfolding begins_reduction
red_test text span rest found = contains_among reductions text found

pub red_begins : {tokens rest : List Lexeme} {v : Span} → Begins (RED v) tokens rest → (text : List ℕ) × Contains reductions text × (tokens ≡ word_token text v ∷ rest)
red_begins {rest = rest} b = (b.spelled.0, b.spelled.1, b.whole ∙ ap (λ s. s ++ rest) b.spelled.2)

pub red_exact : Exact Any RED read_reduction_word
unfolding read_reduction_word
red_exact = record {
  sound = λ tokens rest v e. elim (if_cases (begins_reduction tokens) e) [
    | inl so ↦ red_at tokens rest v so.0 so.1
    | inr other ↦ absurd (cc (other.1))
  ];
  complete = λ tokens rest v b any.
      let at = red_begins b in
      subst (λ s. (if begins_reduction s then span_of s s else None) ≡ Some (v, rest)) (sym at.2)
      (if_true None (red_test at.0 v rest at.1) (span_read (word_token at.0 v) rest));
}

-- ---- a reduction's word and an inside in parentheses

pub none_first : {A B : Type 0} {o : Option (A × List Lexeme)} (f : A → Reader B) → o ≡ None → and_then o f ≡ None
none_first f e = ap (λ o. and_then o f) e

is_none : {A : Type 0} (o : Option A) → ((v : A) → o ≡ Some v → ⊥) → o ≡ None
is_none None f = refl
is_none (Some v) f = absurd (f v refl)

-- a value with one more parenthesis allowed
deeper : {place : Place} {n : ℕ} {v : RawExpr} {tokens rest : List Lexeme} → Begins (Deep place EXPR n v) tokens rest → Begins (Deep place EXPR (suc n) v) tokens rest
deeper b = record { front = b.front; spelled = (b.spelled.0, omega (arith, b.spelled.1)); whole = b.whole }

comma_no_close : (s t : Span) (a b : List Lexeme) → sign_token (codes ",") s ∷ a ≡ sign_token (codes ")") t ∷ b → ⊥
unfolding begins
comma_no_close s t a b e = let same : begins_sign (codes ",") (sign_token (codes ",") s ∷ a) ≡ begins_sign (codes ",") (sign_token (codes ")") t ∷ b) = ap (begins_sign (codes ",")) e in cc

-- one inside in parentheses is not two
one_not_two : (n : ℕ) (o : RawOp) (x : RawExpr) (mid rest : List Lexeme) → Begins (parens (Deep InLine EXPR (suc n) x)) mid rest → read_both o (expr_within InLine n) mid ≡ None
unfolding read_both
one_not_two n o x mid rest b = is_none _ (λ v e.
    let opened = step (sign_exact (codes "(")) e in
    let left = step (closed_exact (within_exact InLine n) (codes ",") before_comma) opened.more in
    let first = cut left.spelled in
    let inside = cut (cut b).other in
    let same_start : (cut b).mid ≡ opened.mid = sym (begins_of (cut b).one).1 ∙ (begins_of opened.spelled).1 in
    let at_comma = token_begins first.other in
    let at_close = token_begins inside.other in
    let one = (within_exact InLine (suc n)).complete opened.mid first.mid left.value (deeper first.one)
    (subst (Follows EXPR) (sym at_comma.1) (before_comma at_comma.0 left.mid)) in
    let two = (within_exact InLine (suc n)).complete (cut b).mid inside.mid x inside.one
    (subst (Follows EXPR) (sym at_close.1) (closes at_close.0 rest)) in
    let ends : first.mid ≡ inside.mid = ap (λ p. p.1) (some_same (sym one ∙ sym (ap (expr_within InLine (suc n)) same_start) ∙ two)) in
    comma_no_close at_comma.0 at_close.0 left.mid rest (sym at_comma.1 ∙ ends ∙ at_close.1))

own_none : (tokens : List Lexeme) → begins_word (codes "index") tokens ≡ false → read_own InLine tokens ≡ None
unfolding read_own expect
own_none tokens e = none_first _ (none_first _ (if_false _ e refl))

-- what follows the word of a reduction as its one inside is not nested
no_nested : (n : ℕ) (x : RawExpr) (text : List ℕ) (span : Span) (mid rest : List Lexeme) → Contains reductions text
    → Begins (parens (Deep InLine EXPR (suc n) x)) mid rest → read_nested InLine (expr_within InLine n) (word_token text span ∷ mid) ≡ None
unfolding read_nested begins
no_nested n x text span mid rest (zero, lt, e) b = subst (λ t. read_nested InLine (expr_within InLine n) (word_token t span ∷ mid) ≡ None) e (own_none (word_token (codes "sum") span ∷ mid) refl)
no_nested n x text span mid rest (suc zero, lt, e) b = subst (λ t. read_nested InLine (expr_within InLine n) (word_token t span ∷ mid) ≡ None) e (one_not_two n op.Min x mid rest b)
no_nested n x text span mid rest (suc (suc zero), lt, e) b = subst (λ t. read_nested InLine (expr_within InLine n) (word_token t span ∷ mid) ≡ None) e (one_not_two n op.Max x mid rest b)
no_nested n x text span mid rest (suc (suc (suc zero)), lt, e) b = subst (λ t. read_nested InLine (expr_within InLine n) (word_token t span ∷ mid) ≡ None) e (own_none (word_token (codes "all") span ∷ mid) refl)
no_nested n x text span mid rest (suc (suc (suc (suc zero))), lt, e) b = subst (λ t. read_nested InLine (expr_within InLine n) (word_token t span ∷ mid) ≡ None) e (own_none (word_token (codes "any") span ∷ mid) refl)
no_nested n x text span mid rest (suc (suc (suc (suc (suc zero)))), lt, e) b = subst (λ t. read_nested InLine (expr_within InLine n) (word_token t span ∷ mid) ≡ None) e (own_none (word_token (codes "count") span ∷ mid) refl)
no_nested n x text span mid rest (suc (suc (suc (suc (suc (suc zero))))), lt, e) b = subst (λ t. read_nested InLine (expr_within InLine n) (word_token t span ∷ mid) ≡ None) e (own_none (word_token (codes "bitand") span ∷ mid) refl)
no_nested n x text span mid rest (suc (suc (suc (suc (suc (suc (suc zero)))))), lt, e) b = subst (λ t. read_nested InLine (expr_within InLine n) (word_token t span ∷ mid) ≡ None) e (own_none (word_token (codes "bitor") span ∷ mid) refl)
no_nested n x text span mid rest (suc (suc (suc (suc (suc (suc (suc (suc k))))))), lt, e) b = absurd (omega arith)

-- the words of the reductions are no names
reduction_reserved : (text : List ℕ) → Contains reductions text → is_reserved text ≡ true
unfolding is_reserved
reduction_reserved text (zero, lt, e) = subst (λ t. is_reserved t ≡ true) e refl
reduction_reserved text (suc zero, lt, e) = subst (λ t. is_reserved t ≡ true) e refl
reduction_reserved text (suc (suc zero), lt, e) = subst (λ t. is_reserved t ≡ true) e refl
reduction_reserved text (suc (suc (suc zero)), lt, e) = subst (λ t. is_reserved t ≡ true) e refl
reduction_reserved text (suc (suc (suc (suc zero))), lt, e) = subst (λ t. is_reserved t ≡ true) e refl
reduction_reserved text (suc (suc (suc (suc (suc zero)))), lt, e) = subst (λ t. is_reserved t ≡ true) e refl
reduction_reserved text (suc (suc (suc (suc (suc (suc zero))))), lt, e) = subst (λ t. is_reserved t ≡ true) e refl
reduction_reserved text (suc (suc (suc (suc (suc (suc (suc zero)))))), lt, e) = subst (λ t. is_reserved t ≡ true) e refl
reduction_reserved text (suc (suc (suc (suc (suc (suc (suc (suc k))))))), lt, e) = absurd (omega arith)

-- where no operand is read, no expression is
pub no_expr : (p : Reader RawExpr) (tokens : List Lexeme) → p tokens ≡ None → read_expr p tokens ≡ None
unfolding read_repeated read_compared
no_expr p tokens e = none_first _ (none_first _ (none_first _ (none_first _ (none_first _ e))))

-- the word of a reduction with its inside is no expression
pub reduction_no_expr : (n : ℕ) (v : Span) (x : RawExpr) (tokens mid rest : List Lexeme) → Begins (RED v) tokens mid → Begins (parens (Deep InLine EXPR (suc n) x)) mid rest
    → expr_within InLine (suc n) tokens ≡ None
unfolding unary_within read_unary read_primary begins begins_number begins_name
reduction_no_expr n v x tokens mid rest red b =
    let at = red_begins red in
    let reserved = reduction_reserved at.0 at.1 in
    let unary : unary_within InLine (suc n) (word_token at.0 v ∷ mid) ≡ None =
    if_false _ (ap not reserved) (no_nested n x at.0 v mid rest at.1 b) in
    no_expr (unary_within InLine (suc n)) tokens (subst (λ s. unary_within InLine (suc n) s ≡ None) (sym at.2) unary)
