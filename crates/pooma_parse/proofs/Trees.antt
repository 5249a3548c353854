-- Expressions are read as the grammar says: operators that may be repeated, and comparisons.
use Rattle.std.proofs.Common.{◌≡◌, ℕ, zero, suc, max, ◌≤◌, List, [], ◌++◌, Some, None, refl, sym, ap, ◌∙◌, subst, inl, inr, arith, length}
use Rattle.pooma_parse.specs.declared.expression.Place.{Place}
use Rattle.pooma_parse.specs.declared.form.RawExpr.{RawExpr}
use Rattle.pooma_parse.specs.declared.form.RawExpr.TheVariants as tree
use Rattle.pooma_parse.specs.Expressions.{Level, ADD, COMPARE, IsRepeated, add_of_muls, and_of_compares, expr_of_ands, mul_of_unaries, Behind, Says, alone, compared, repeated, no_more, one_more, nesting, nesting_behind}
use Rattle.pooma_parse.specs.Languages.{Language, just, ◌⨾◌}
use Rattle.pooma_parse.specs.Reader.{Reader, behind, by_operator, operator_at, pure, read_compared, read_operands, read_repeated, ◌>>=◌}
use Rattle.pooma_parse.specs.Tokens.{Lexeme}
use Rattle.pooma_parse.proofs.Atoms.{token_begins}
use Rattle.pooma_parse.proofs.Commas.{begins_shorter}
use Rattle.pooma_parse.proofs.Exact.{Begins, Exact, and_then_some, cut, done, nothing_ends, step, then_begins}
use Rattle.pooma_parse.proofs.Operators.{Follows, by_cases, comparison_stands, follows_operand, no_operator, operator_is, operator_stands}

-- an expression by a production in which no more than so many parentheses and minuses stand one in another
abbrev pub Deep : Place → Level → ℕ → RawExpr → Language
Deep place level n whole tokens = (says : Says place level tokens whole) × (nesting says ≤ n)

abbrev pub DeepBehind : Place → Level → Level → ℕ → RawExpr → RawExpr → Language
DeepBehind place level operand n before whole tokens = (says : Behind place level operand before tokens whole) × (nesting_behind says ≤ n)

-- what begins with a language begins with the tokens that belong to it
pub as_just : {L : Language} {tokens rest : List Lexeme} (b : Begins L tokens rest) → Begins (just b.front) tokens rest
as_just b = record { front = b.front; spelled = refl; whole = b.whole }

pub from_just : {L : Language} {front tokens rest : List Lexeme} → Begins (just front) tokens rest → L front → Begins L tokens rest
from_just {front = front} {rest = rest} b l = record { front = front; spelled = l; whole = b.whole ∙ ap (λ s. s ++ rest) b.spelled }

max_below : (a b : ℕ) {n : ℕ} → a ≤ n → b ≤ n → max a b ≤ n
max_below a b ha hb = omega arith

-- the first operand of a phrase and what is behind it, each at its place
record Operands (place : Place) (level operand : Level) (n : ℕ) (v : RawExpr) (tokens rest : List Lexeme) : Type 0 where
  first : RawExpr
  mid : List Lexeme
  back : List Lexeme
  one : Begins (Deep place operand n first) tokens mid
  says : Behind place level operand first back v
  deep : nesting_behind says ≤ n
  other : Begins (just back) mid rest

make_operands : {place : Place} {level operand : Level} (n : ℕ) {front back whole tokens rest : List Lexeme} {first v : RawExpr}
    (one : Says place operand front first) (more : Behind place level operand first back v) → (just front ⨾ just back) whole
    → max (nesting one) (nesting_behind more) ≤ n → Begins (just whole) tokens rest → Operands place level operand n v tokens rest
make_operands n {back = back} {first = first} one more t deep b =
    let parts = cut (from_just b t) in
    let left : nesting one ≤ n = omega arith in
    let right : nesting_behind more ≤ n = omega arith in
    record { first = first; mid = parts.mid; back = back; one = from_just parts.one (one, left); says = more; deep = right; other = parts.other }

operands_of : {place : Place} {level operand : Level} (n : ℕ) → IsRepeated level operand → {front tokens rest : List Lexeme} {v : RawExpr}
    (says : Says place level front v) → nesting says ≤ n → Begins (just front) tokens rest → Operands place level operand n v tokens rest
operands_of n expr_of_ands (repeated expr_of_ands first more t) deep b = make_operands n first more t deep b
operands_of n and_of_compares (repeated and_of_compares first more t) deep b = make_operands n first more t deep b
operands_of n add_of_muls (repeated add_of_muls first more t) deep b = make_operands n first more t deep b
operands_of n mul_of_unaries (repeated mul_of_unaries first more t) deep b = make_operands n first more t deep b

-- the operands of what is behind one may be followed by what follows
behind_follows : {place : Place} {level operand : Level} → IsRepeated level operand → {before whole : RawExpr} {front mid rest : List Lexeme}
    → Behind place level operand before front whole → Begins (just front) mid rest → Follows level rest → Follows operand mid
behind_follows {operand = operand} r {mid = mid} {rest = rest} (no_more t) b f =
    let same : mid ≡ rest = nothing_ends (from_just b t) in
    subst (Follows operand) (sym same) (follows_operand r rest f)
behind_follows {operand = operand} r {mid = mid} {rest = rest} (one_more o c next more t) b f =
    let first = cut (from_just b t) in
    let at = token_begins first.one in
    subst (Follows operand) (sym at.1) (operator_stands r o c at.0 first.mid).1

module _ {place : Place} {n : ℕ} {level operand : Level} (r : IsRepeated level operand) {p : Reader RawExpr}
    (exact : Exact (Follows operand) (Deep place operand n) p) where
  operands_sound : (k : ℕ) (before : RawExpr) (tokens rest : List Lexeme) (v : RawExpr) → read_operands level p k before tokens ≡ Some (v, rest)
      → Begins (DeepBehind place level operand n before v) tokens rest
  unfolding read_operands
  operands_sound zero before tokens rest v e =
      done (DeepBehind place level operand n before) e (record { front = []; spelled = (no_more refl, omega arith); whole = refl })
  operands_sound (suc k) before tokens rest v e = elim (by_cases (operator_at level tokens) _ (pure before) tokens e) [
    | inl none ↦ done (DeepBehind place level operand n before) none.1 (record { front = []; spelled = (no_more refl, omega arith); whole = refl })
    | inr some ↦
        let sign = operator_is level tokens some.0 some.1 in
        let next = step exact some.2 in
        let more = operands_sound k (tree.Bin some.0 before next.value) next.mid rest v next.more in
        let whole = then_begins sign.1 (then_begins (as_just next.spelled) (as_just more)) in
        record {
          front = whole.front;
          spelled = (one_more some.0 sign.0 next.spelled.spelled.0 more.spelled.0 whole.spelled, max_below (nesting next.spelled.spelled.0) (nesting_behind more.spelled.0) next.spelled.spelled.1 more.spelled.1);
          whole = whole.whole;
        }
  ]

  operands_complete : (k : ℕ) {before v : RawExpr} {front : List Lexeme} (says : Behind place level operand before front v) (tokens rest : List Lexeme)
      → nesting_behind says ≤ n → Begins (just front) tokens rest → length tokens ≤ k → Follows level rest
      → read_operands level p k before tokens ≡ Some (v, rest)
  unfolding read_operands
  operands_complete zero {before} (no_more t) tokens rest deep b few f = ap (λ s. Some (before, s)) (nothing_ends (from_just b t))
  operands_complete (suc k) {before} (no_more t) tokens rest deep b few f =
      let same : tokens ≡ rest = nothing_ends (from_just b t) in
      let none : operator_at level tokens ≡ None = ap (operator_at level) same ∙ no_operator r rest f in
      ap (λ o. by_operator o (λ op. p >>= (λ next. read_operands level p k (tree.Bin op before next))) (pure before) tokens) none ∙ ap (λ s. Some (before, s)) same
  operands_complete zero (one_more o c next more t) tokens rest deep b few f =
      let at = token_begins (cut (from_just b t)).one in absurd (omega (arith, few, ap length at.1))
  operands_complete (suc k) {before} {v} (one_more o c next more t) tokens rest deep b few f =
      let sign = cut (from_just b t) in
      let at = token_begins sign.one in
      let left : nesting next ≤ n = omega arith in
      let right : nesting_behind more ≤ n = omega arith in
      let stands = operator_stands r o c at.0 sign.mid in
      let some : operator_at level tokens ≡ Some o = ap (operator_at level) at.1 ∙ stands.0 in
      let item = cut sign.other in
      let read = exact.complete sign.mid item.mid _ (from_just item.one (next, left)) (behind_follows r more item.other f) in
      let fewer : length item.mid ≤ k = omega (arith, few, ap length at.1, begins_shorter item.one) in
      let further = operands_complete k more item.mid rest right item.other fewer f in
      ap (λ x. by_operator x (λ op. p >>= (λ next. read_operands level p k (tree.Bin op before next))) (pure before) tokens) some
      ∙ and_then_some _ (ap p (ap behind at.1) ∙ read) further

  repeated_read : (tokens rest : List Lexeme) (v : RawExpr) → Begins (Deep place level n v) tokens rest → Follows level rest
      → read_repeated level p tokens ≡ Some (v, rest)
  unfolding read_repeated
  repeated_read tokens rest v b f =
      let parts = operands_of n r b.spelled.0 b.spelled.1 (as_just b) in
      let read = exact.complete tokens parts.mid parts.first parts.one (behind_follows r parts.says parts.other f) in
      and_then_some _ read (operands_complete (length parts.mid) parts.says parts.mid rest parts.deep parts.other (omega arith) f)

  pub repeated_exact : Exact (Follows level) (Deep place level n) (read_repeated level p)
  unfolding read_repeated
  repeated_exact = record {
    sound = λ tokens rest v e.
        let first = step exact e in
        let more = operands_sound (length first.mid) first.value first.mid rest v first.more in
        let whole = then_begins (as_just first.spelled) (as_just more) in
        record {
          front = whole.front;
          spelled = (repeated r first.spelled.spelled.0 more.spelled.0 whole.spelled, max_below (nesting first.spelled.spelled.0) (nesting_behind more.spelled.0) first.spelled.spelled.1 more.spelled.1);
          whole = whole.whole;
        };
    complete = λ tokens rest v b f. repeated_read tokens rest v b f;
  }

-- ---- comparisons

module _ {place : Place} {n : ℕ} {p : Reader RawExpr} (exact : Exact (Follows ADD) (Deep place ADD n) p) where
  compared_read : {v : RawExpr} {front : List Lexeme} (says : Says place COMPARE front v) (tokens rest : List Lexeme) → nesting says ≤ n
      → Begins (just front) tokens rest → Follows COMPARE rest → read_compared p tokens ≡ Some (v, rest)
  unfolding read_compared
  compared_read (repeated none first more t) tokens rest deep b f = elim none [ ]
  compared_read {v} (alone only) tokens rest deep b f =
      and_then_some _ (exact.complete tokens rest v (from_just b (only, deep)) f.1)
      (ap (λ o. by_operator o (λ op. p >>= (λ right. pure (tree.Bin op v right))) (pure v) rest) f.0)
  compared_read (compared {left = x} {right = y} o left c right t) tokens rest deep b f =
      let parts = cut (from_just b t) in
      let sign = cut parts.other in
      let at = token_begins sign.one in
      let shallow_left : nesting left ≤ n = omega arith in
      let shallow_right : nesting right ≤ n = omega arith in
      let stands = comparison_stands o c at.0 sign.mid in
      let first = exact.complete tokens parts.mid x (from_just parts.one (left, shallow_left)) (subst (Follows ADD) (sym at.1) stands.1) in
      let some : operator_at COMPARE parts.mid ≡ Some o = ap (operator_at COMPARE) at.1 ∙ stands.0 in
      let second = exact.complete sign.mid rest y (from_just sign.other (right, shallow_right)) f.1 in
      and_then_some _ first
      (ap (λ z. by_operator z (λ op. p >>= (λ right. pure (tree.Bin op x right))) (pure x) parts.mid) some
      ∙ and_then_some _ (ap p (ap behind at.1) ∙ second) refl)

  pub compared_exact : Exact (Follows COMPARE) (Deep place COMPARE n) (read_compared p)
  unfolding read_compared
  compared_exact = record {
    sound = λ tokens rest v e.
        let left = step exact e in
        elim (by_cases (operator_at COMPARE left.mid) _ (pure left.value) left.mid left.more) [
          | inl none ↦ done (Deep place COMPARE n) none.1 (record { front = left.spelled.front; spelled = (alone left.spelled.spelled.0, left.spelled.spelled.1); whole = left.spelled.whole })
          | inr some ↦
              let sign = operator_is COMPARE left.mid some.0 some.1 in
              let right = step exact some.2 in
              let whole = then_begins (as_just left.spelled) (then_begins sign.1 (as_just right.spelled)) in
              done (Deep place COMPARE n) right.more (record {
                front = whole.front;
                spelled = (compared some.0 left.spelled.spelled.0 sign.0 right.spelled.spelled.0 whole.spelled, max_below (nesting left.spelled.spelled.0) (nesting right.spelled.spelled.0) left.spelled.spelled.1 right.spelled.spelled.1);
                whole = whole.whole;
              })
        ];
    complete = λ tokens rest v b f. compared_read b.spelled.0 tokens rest b.spelled.1 (as_just b) f;
  }
