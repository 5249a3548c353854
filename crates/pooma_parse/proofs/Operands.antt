-- Expressions are read as the grammar says: UNARY and PRIMARY.
use Rattle.std.proofs.Common.{◌≡◌, ℕ, zero, suc, ℤ, ◌≤◌, Bool, true, false, not, List, Option, Some, None, refl, sym, ap, ◌∙◌, subst, inl, inr, arith, codes, Contains, bytes_eq}
use Rattle.pooma_text.specs.declared.span.Span.{Span}
use Rattle.pooma_text.specs.declared.token.TokenKind.TheVariants.{Word, Sign}
use Rattle.pooma_parse.specs.declared.expression.Place.{Place}
use Rattle.pooma_parse.specs.declared.expression.Place.TheVariants.{InBody, InLine}
use Rattle.pooma_parse.specs.declared.form.RawExpr.{RawExpr}
use Rattle.pooma_parse.specs.declared.form.RawExpr.TheVariants as tree
use Rattle.pooma_parse.specs.declared.form.RawOp.{RawOp}
use Rattle.pooma_parse.specs.declared.form.RawOp.TheVariants as op
use Rattle.pooma_parse.specs.declared.form.RawView.{RawView}
use Rattle.pooma_parse.specs.declared.form.RawSub.{RawSub}
use Rattle.pooma_parse.specs.Expressions.{EXPR, PRIMARY, UNARY, add_of_muls, and_of_compares, expr_of_ands, mul_of_unaries, Says, absolute, apply, at, choice, group, index, literal, minus, nesting, of_both, of_two, operator_text, primary, repeated, view}
use Rattle.pooma_parse.specs.Languages.{Language, INT, MOST_NUM, NUM, SMALL, just, listed, name, parens, sign, word, ◌⨾◌}
use Rattle.pooma_parse.specs.Lists.{BRACKETS, SUB, VIEW}
use Rattle.pooma_parse.specs.Reader.{Reader, begins, begins_name, begins_named, begins_number, begins_sign, begins_word, expect_sign, expect_word, expr_within, is_reserved, pure, read_both, read_choice, read_expr, read_int, read_listed, read_named, read_nested, read_own, read_parens, read_primary, read_small, read_unary, refuse, unary_within, ◌>>◌}
use Rattle.pooma_parse.specs.Tokens.{Lexeme}
use Rattle.pooma_parse.proofs.Atoms.{begins_is, begins_of, name_begins, name_exact, name_test, number_begins, number_exact, number_no_sign, sign_exact, token_begins, word_exact}
use Rattle.pooma_parse.proofs.Commas.{Before, NoSign, closed_exact, parens_exact}
use Rattle.pooma_parse.proofs.Exact.{Any, Begins, Exact, and_then_some, cut, done, first_of_two, if_cases, if_false, if_true, nothing_ends, step, then_begins}
use Rattle.pooma_parse.proofs.Operators.{AfterUnary, Follows, before_comma, closes}
use Rattle.pooma_parse.proofs.Parts.{brackets_exact, closes_list, ints_exact, other_sign, small_exact, view_exact}
use Rattle.pooma_parse.proofs.Trees.{Deep, as_just, compared_exact, from_just, repeated_exact}

-- from UNARY up to EXPR
pub expr_exact : {place : Place} {n : ℕ} {p : Reader RawExpr} → Exact AfterUnary (Deep place UNARY n) p → Exact (Follows EXPR) (Deep place EXPR n) (read_expr p)
expr_exact exact =
    repeated_exact expr_of_ands (repeated_exact and_of_compares (compared_exact (repeated_exact add_of_muls (repeated_exact mul_of_unaries exact))))

-- ---- parentheses

-- an inside with its tokens, in parentheses
record Parenthesised (L : Language) (tokens rest : List Lexeme) : Type 0 where
  front : List Lexeme
  inside : L front
  around : Begins (parens (just front)) tokens rest

parenthesised : {L : Language} {tokens rest : List Lexeme} → Begins (parens L) tokens rest → Parenthesised L tokens rest
parenthesised b =
    let opened = cut b in
    let inner = cut opened.other in
    record { front = inner.one.front; inside = inner.one.spelled; around = then_begins opened.one (then_begins (as_just inner.one) inner.other) }

in_parens : {L : Language} {front tokens rest : List Lexeme} → Begins (parens (just front)) tokens rest → L front → Begins (parens L) tokens rest
in_parens b l =
    let opened = cut b in
    let inner = cut opened.other in
    then_begins opened.one (then_begins (from_just inner.one l) inner.other)

-- ---- which token comes first

first_word : (text : List ℕ) (other : List ℕ) {tokens rest : List Lexeme} → Begins (word text) tokens rest → begins_sign other tokens ≡ false
unfolding begins
first_word text other b = ap (begins_sign other) (token_begins b).1

next_word : (text other : List ℕ) → bytes_eq text other ≡ false → {tokens rest : List Lexeme} → Begins (word text) tokens rest → begins_word other tokens ≡ false
unfolding begins
next_word text other apart b = ap (begins_word other) (token_begins b).1 ∙ apart

sign_no_word : (text other : List ℕ) {tokens rest : List Lexeme} → Begins (sign text) tokens rest → begins_word other tokens ≡ false
unfolding begins
sign_no_word text other b = ap (begins_word other) (token_begins b).1

word_no_number : (text : List ℕ) {tokens rest : List Lexeme} → Begins (word text) tokens rest → begins_number tokens ≡ false
unfolding begins_number
word_no_number text b = ap begins_number (token_begins b).1

sign_no_number : (text : List ℕ) {tokens rest : List Lexeme} → Begins (sign text) tokens rest → begins_number tokens ≡ false
unfolding begins_number
sign_no_number text b = ap begins_number (token_begins b).1

name_no_sign : (other : List ℕ) {tokens rest : List Lexeme} {span : Span} → Begins (name span) tokens rest → NoSign other tokens
unfolding begins
name_no_sign other b = ap (begins_sign other) (name_begins b).2

unnamed : (place : Place) (tokens : List Lexeme) → begins_name tokens ≡ false → begins_named place tokens ≡ false
unnamed InLine tokens e = e
unnamed InBody tokens e = refl

sign_no_name : (text : List ℕ) {tokens rest : List Lexeme} → Begins (sign text) tokens rest → begins_name tokens ≡ false
unfolding begins_name
sign_no_name text b = ap begins_name (token_begins b).1

reserved_no_name : (text : List ℕ) → is_reserved text ≡ true → {tokens rest : List Lexeme} → Begins (word text) tokens rest → begins_name tokens ≡ false
unfolding begins_name
reserved_no_name text reserved b = ap begins_name (token_begins b).1 ∙ ap not reserved

-- ---- names, numbers, and what only a line or only a body has

named_place : (place : Place) (tokens : List Lexeme) → begins_named place tokens ≡ true → place ≡ InLine
named_place InLine tokens e = refl
named_place InBody tokens e = absurd (cc)

closes_view : Before (codes ")") (NoSign (codes "["))
unfolding begins
closes_view span rest = refl

any_close : Before (codes ")") Any
any_close span rest = tt

named_sound : (deep : Bool) (n : ℕ) → (deep ≡ true → 1 ≤ n) → (tokens rest : List Lexeme) (v : RawExpr) → read_named deep tokens ≡ Some (v, rest)
    → Begins (Deep InLine PRIMARY n v) tokens rest
unfolding read_named
named_sound deep n deep_enough tokens rest v e =
    let first = step name_exact e in
    elim (if_cases (begins_sign (codes "(") first.mid) first.more) [
      | inl so ↦ elim (if_cases deep so.1) [
        | inl opens ↦
            let seen = step (parens_exact view_exact closes_view) opens.1 in
            let whole = then_begins first.spelled seen.spelled in
            done (Deep InLine PRIMARY n) seen.more (record { front = whole.front; spelled = (apply first.value seen.value refl whole.spelled, deep_enough opens.0); whole = whole.whole })
        | inr shut ↦ absurd (cc (shut.1))
      ]
      | inr other ↦
          let subs = step brackets_exact other.1 in
          let whole = then_begins first.spelled subs.spelled in
          done (Deep InLine PRIMARY n) subs.more (record {
            front = whole.front;
            spelled = (view (record { name = first.value; subs = subs.value }) refl whole.spelled, omega arith);
            whole = whole.whole;
          })
    ]

-- what stands behind the name of a view is no parenthesis
brackets_no_paren : (subs : Option (List RawSub)) (tokens rest : List Lexeme) → Begins (BRACKETS subs) tokens rest → NoSign (codes "(") rest → NoSign (codes "(") tokens
brackets_no_paren None tokens rest b none = ap (begins_sign (codes "(")) (nothing_ends b) ∙ none
brackets_no_paren (Some subs) tokens rest b none = other_sign (codes "[") (codes "(") refl (cut {A = sign (codes "[")} {B = listed SUB subs ⨾ sign (codes "]")} b).one

view_complete : (deep : Bool) (seen : RawView) (tokens rest : List Lexeme) → Begins (VIEW seen) tokens rest → AfterUnary rest → read_named deep tokens ≡ Some (tree.View seen, rest)
unfolding read_named
view_complete deep seen tokens rest b f =
    let first = cut b in
    and_then_some _ (name_exact.complete _ _ seen.name first.one tt)
    (if_false _ (brackets_no_paren seen.subs first.mid rest first.other f.0)
    (and_then_some _ (brackets_exact.complete _ _ seen.subs first.other f.1) refl))

apply_complete : (stencil : Span) (seen : RawView) (tokens rest : List Lexeme) → Begins (name stencil ⨾ parens (VIEW seen)) tokens rest
    → read_named true tokens ≡ Some (tree.Apply stencil seen, rest)
unfolding read_named
apply_complete stencil seen tokens rest b =
    let first = cut b in
    and_then_some _ (name_exact.complete _ _ stencil first.one tt)
    (if_true _ (begins_of (cut first.other).one).0
    (and_then_some _ ((parens_exact view_exact closes_view).complete _ _ seen first.other tt) refl))

own_sound : (place : Place) (n : ℕ) (tokens rest : List Lexeme) (v : RawExpr) → read_own place tokens ≡ Some (v, rest) → Begins (Deep place PRIMARY (suc n) v) tokens rest
unfolding read_own
own_sound InLine n tokens rest v e =
    let both = first_of_two ((expect_word (codes "index") >> read_parens read_small) tokens) (λ axis. pure (tree.Index axis)) e in
    let first = step (word_exact (codes "index")) both.read in
    let whole = then_begins first.spelled ((parens_exact small_exact any_close).sound _ _ _ first.more) in
    done (Deep InLine PRIMARY (suc n)) both.more (record { front = whole.front; spelled = (index both.value refl whole.spelled, omega arith); whole = whole.whole })
own_sound InBody n tokens rest v e =
    let both = first_of_two ((expect_sign (codes "@") >> read_parens (read_listed read_int)) tokens) (λ offset. pure (tree.At offset)) e in
    let first = step (sign_exact (codes "@")) both.read in
    let whole = then_begins first.spelled ((parens_exact ints_exact closes_list).sound _ _ _ first.more) in
    done (Deep InBody PRIMARY (suc n)) both.more (record { front = whole.front; spelled = (at both.value refl whole.spelled, omega arith); whole = whole.whole })

index_complete : (axis : ℤ) (tokens rest : List Lexeme) → Begins (word (codes "index") ⨾ parens (SMALL axis)) tokens rest → read_own InLine tokens ≡ Some (tree.Index axis, rest)
unfolding read_own
index_complete axis tokens rest b =
    let first = cut b in
    and_then_some _ (and_then_some _ ((word_exact (codes "index")).complete _ _ tt first.one tt) ((parens_exact small_exact any_close).complete _ _ axis first.other tt)) refl

at_complete : (offset : List ℤ) (tokens rest : List Lexeme) → Begins (sign (codes "@") ⨾ parens (listed INT offset)) tokens rest → read_own InBody tokens ≡ Some (tree.At offset, rest)
unfolding read_own
at_complete offset tokens rest b =
    let first = cut b in
    and_then_some _ (and_then_some _ ((sign_exact (codes "@")).complete _ _ tt first.one tt) ((parens_exact ints_exact closes_list).complete _ _ offset first.other tt)) refl

-- a number begins a literal and nothing else
literal_complete : (place : Place) (deep : Bool) (inner : Reader RawExpr) (n : ℤ) (tokens rest : List Lexeme) → Begins (NUM n) tokens rest
    → read_primary place deep inner tokens ≡ Some (tree.Number n, rest)
unfolding read_primary begins_number
literal_complete place deep inner n tokens rest b =
    if_true _ (ap begins_number (number_begins b).4) (and_then_some _ ((number_exact MOST_NUM).complete _ _ n b tt) refl)

-- a name begins what is read behind a name
name_first : (deep : Bool) (inner : Reader RawExpr) (span : Span) {r : Option (RawExpr × List Lexeme)} (tokens rest : List Lexeme) → Begins (name span) tokens rest
    → read_named deep tokens ≡ r → read_primary InLine deep inner tokens ≡ r
unfolding read_primary begins_number
name_first deep inner span tokens rest b e =
    let first = name_begins b in
    if_false _ (ap begins_number first.2) (if_true _ (ap begins_name first.2 ∙ name_test first.0 span rest first.1) e)

-- what is neither a number nor a name stands in parentheses
nested_first : (place : Place) (inner : Reader RawExpr) {r : Option (RawExpr × List Lexeme)} (tokens : List Lexeme) → begins_number tokens ≡ false → begins_name tokens ≡ false
    → read_nested place inner tokens ≡ r → read_primary place true inner tokens ≡ r
unfolding read_primary
nested_first place inner tokens number name e = if_false _ number (if_false _ (unnamed place tokens name) e)

primary_sound : (place : Place) (deep : Bool) (n : ℕ) (inner : Reader RawExpr) → (deep ≡ true → 1 ≤ n)
    → (deep ≡ true → (tokens rest : List Lexeme) (v : RawExpr) → read_nested place inner tokens ≡ Some (v, rest) → Begins (Deep place PRIMARY n v) tokens rest)
    → (tokens rest : List Lexeme) (v : RawExpr) → read_primary place deep inner tokens ≡ Some (v, rest) → Begins (Deep place PRIMARY n v) tokens rest
unfolding read_primary
primary_sound place deep n inner deep_enough nested tokens rest v e = elim (if_cases (begins_number tokens) e) [
  | inl so ↦
      let k = step (number_exact MOST_NUM) so.1 in
      done (Deep place PRIMARY n) k.more (record { front = k.spelled.front; spelled = (literal k.value k.spelled.spelled, omega arith); whole = k.spelled.whole })
  | inr other ↦ elim (if_cases (begins_named place tokens) other.1) [
    | inl so ↦
        let here = named_place place tokens so.0 in
        subst (λ p. Begins (Deep p PRIMARY n v) tokens rest) (sym here) (named_sound deep n deep_enough tokens rest v so.1)
    | inr none ↦ elim (if_cases deep none.1) [
      | inl opens ↦ nested opens.0 tokens rest v opens.1
      | inr shut ↦ absurd (cc (shut.1))
    ]
  ]
]

-- the same, where the place is known by an equation
view_first : (deep : Bool) (inner : Reader RawExpr) (seen : RawView) {place : Place} → place ≡ InLine → (tokens rest : List Lexeme) → Begins (VIEW seen) tokens rest → AfterUnary rest
    → read_primary place deep inner tokens ≡ Some (tree.View seen, rest)
view_first deep inner seen here tokens rest b f =
    subst (λ p. read_primary p deep inner tokens ≡ Some (tree.View seen, rest)) (sym here)
    (name_first deep inner seen.name tokens _ (cut b).one (view_complete deep seen tokens rest b f))

-- what stands before another phrase is no minus sign
primary_no_minus : {place : Place} {v : RawExpr} {front tokens rest : List Lexeme} → Says place PRIMARY front v → Begins (just front) tokens rest → NoSign (codes "-") tokens
primary_no_minus (repeated none first more t) b = elim none [ ]
primary_no_minus (literal k t) b = number_no_sign (codes "-") (from_just b t)
primary_no_minus (group only t) b = other_sign (codes "(") (codes "-") refl (cut (from_just b t)).one
primary_no_minus (absolute only t) b = first_word (codes "abs") (codes "-") (cut (from_just b t)).one
primary_no_minus (of_both o c left right t) b = first_word (operator_text o) (codes "-") (cut (from_just b t)).one
primary_no_minus (choice test one other t) b = first_word (codes "where") (codes "-") (cut (from_just b t)).one
primary_no_minus (index axis here t) b = first_word (codes "index") (codes "-") (cut (from_just b t)).one
primary_no_minus (view seen here t) b = name_no_sign (codes "-") (cut (from_just b t)).one
primary_no_minus (apply stencil seen here t) b = name_no_sign (codes "-") (cut (from_just b t)).one
primary_no_minus (at offset here t) b = other_sign (codes "@") (codes "-") refl (cut (from_just b t)).one

as_unary : {place : Place} {n : ℕ} {v : RawExpr} {tokens rest : List Lexeme} → Begins (Deep place PRIMARY n v) tokens rest → Begins (Deep place UNARY n v) tokens rest
as_unary b = record { front = b.front; spelled = (primary b.spelled.0, b.spelled.1); whole = b.whole }

-- ---- what stands in parentheses

module _ {place : Place} {n : ℕ} {inner : Reader RawExpr} (exact : Exact (Follows EXPR) (Deep place EXPR n) inner) where
  abbrev Nested : RawExpr → Language
  Nested = Deep place PRIMARY (suc n)

  inside_exact : Exact Any (λ v. parens (Deep place EXPR n v)) (read_parens inner)
  inside_exact = parens_exact exact closes

  both_sound : (o : RawOp) → Contains of_two o → (tokens mid rest : List Lexeme) (v : RawExpr) → Begins (word (operator_text o)) tokens mid
      → read_both o inner mid ≡ Some (v, rest) → Begins (Nested v) tokens rest
  unfolding read_both
  both_sound o c tokens mid rest v named e =
      let opened = step (sign_exact (codes "(")) e in
      let left = step (closed_exact exact (codes ",") before_comma) opened.more in
      let right = step (closed_exact exact (codes ")") closes) left.more in
      let one = cut left.spelled in
      let two = cut right.spelled in
      let inside = then_begins (as_just one.one) (then_begins one.other (as_just two.one)) in
      let whole = then_begins named (then_begins opened.spelled (then_begins inside two.other)) in
      done Nested right.more (record {
        front = whole.front;
        spelled = (of_both o c one.one.spelled.0 two.one.spelled.0 whole.spelled, omega (arith, one.one.spelled.1, two.one.spelled.1));
        whole = whole.whole;
      })

  both_complete : (o : RawOp) {front back mid rest : List Lexeme} {x y : RawExpr} (left : Says place EXPR front x) (right : Says place EXPR back y)
      → nesting left ≤ n → nesting right ≤ n → Begins (parens (just front ⨾ sign (codes ",") ⨾ just back)) mid rest → read_both o inner mid ≡ Some (tree.Bin o x y, rest)
  unfolding read_both
  both_complete o {x = x} {y = y} left right shallow_left shallow_right b =
      let opened = cut b in
      let inside = cut opened.other in
      let one = cut inside.one in
      let two = cut one.other in
      and_then_some _ ((sign_exact (codes "(")).complete _ _ tt opened.one tt)
      (and_then_some _ ((closed_exact exact (codes ",") before_comma).complete _ _ x (then_begins (from_just one.one (left, shallow_left)) two.one) tt)
      (and_then_some _ ((closed_exact exact (codes ")") closes).complete _ _ y (then_begins (from_just two.other (right, shallow_right)) inside.other) tt) refl))

  choice_sound : (tokens mid rest : List Lexeme) (v : RawExpr) → Begins (word (codes "where")) tokens mid → read_choice inner mid ≡ Some (v, rest) → Begins (Nested v) tokens rest
  unfolding read_choice
  choice_sound tokens mid rest v named e =
      let opened = step (sign_exact (codes "(")) e in
      let test = step (closed_exact exact (codes ",") before_comma) opened.more in
      let one = step (closed_exact exact (codes ",") before_comma) test.more in
      let other = step (closed_exact exact (codes ")") closes) one.more in
      let p = cut test.spelled in
      let q = cut one.spelled in
      let r = cut other.spelled in
      let inside = then_begins (as_just p.one) (then_begins p.other (then_begins (as_just q.one) (then_begins q.other (as_just r.one)))) in
      let whole = then_begins named (then_begins opened.spelled (then_begins inside r.other)) in
      done Nested other.more (record {
        front = whole.front;
        spelled = (choice p.one.spelled.0 q.one.spelled.0 r.one.spelled.0 whole.spelled, omega (arith, p.one.spelled.1, q.one.spelled.1, r.one.spelled.1));
        whole = whole.whole;
      })

  choice_complete : {front then_front else_front mid rest : List Lexeme} {x y z : RawExpr} (test : Says place EXPR front x) (one : Says place EXPR then_front y) (other : Says place EXPR else_front z)
      → nesting test ≤ n → nesting one ≤ n → nesting other ≤ n
      → Begins (parens (just front ⨾ sign (codes ",") ⨾ just then_front ⨾ sign (codes ",") ⨾ just else_front)) mid rest
      → read_choice inner mid ≡ Some (tree.Where x y z, rest)
  unfolding read_choice
  choice_complete {x = x} {y = y} {z = z} test one other shallow_test shallow_one shallow_other b =
      let opened = cut b in
      let inside = cut opened.other in
      let p = cut inside.one in
      let q = cut p.other in
      let r = cut q.other in
      let s = cut r.other in
      and_then_some _ ((sign_exact (codes "(")).complete _ _ tt opened.one tt)
      (and_then_some _ ((closed_exact exact (codes ",") before_comma).complete _ _ x (then_begins (from_just p.one (test, shallow_test)) q.one) tt)
      (and_then_some _ ((closed_exact exact (codes ",") before_comma).complete _ _ y (then_begins (from_just r.one (one, shallow_one)) s.one) tt)
      (and_then_some _ ((closed_exact exact (codes ")") closes).complete _ _ z (then_begins (from_just s.other (other, shallow_other)) inside.other) tt) refl)))

  nested_sound : (tokens rest : List Lexeme) (v : RawExpr) → read_nested place inner tokens ≡ Some (v, rest) → Begins (Nested v) tokens rest
  unfolding read_nested
  nested_sound tokens rest v e = elim (if_cases (begins_sign (codes "(") tokens) e) [
    | inl so ↦
        let inside = parenthesised (inside_exact.sound tokens rest v so.1) in
        record { front = inside.around.front; spelled = (group inside.inside.0 inside.around.spelled, omega (arith, inside.inside.1)); whole = inside.around.whole }
    | inr a ↦ elim (if_cases (begins_word (codes "abs") tokens) a.1) [
      | inl so ↦
          let only = step inside_exact so.1 in
          let inside = parenthesised only.spelled in
          let whole = then_begins (begins_is Word (codes "abs") tokens so.0) inside.around in
          done Nested only.more (record { front = whole.front; spelled = (absolute inside.inside.0 whole.spelled, omega (arith, inside.inside.1)); whole = whole.whole })
      | inr b ↦ elim (if_cases (begins_word (codes "min") tokens) b.1) [
        | inl so ↦ both_sound op.Min (zero, omega arith, refl) tokens _ rest v (begins_is Word (codes "min") tokens so.0) so.1
        | inr c ↦ elim (if_cases (begins_word (codes "max") tokens) c.1) [
          | inl so ↦ both_sound op.Max (suc zero, omega arith, refl) tokens _ rest v (begins_is Word (codes "max") tokens so.0) so.1
          | inr d ↦ elim (if_cases (begins_word (codes "where") tokens) d.1) [
            | inl so ↦ choice_sound tokens _ rest v (begins_is Word (codes "where") tokens so.0) so.1
            | inr own ↦ own_sound place n tokens rest v own.1
          ]
        ]
      ]
    ]
  ]

  group_complete : (v : RawExpr) (tokens rest : List Lexeme) → Begins (parens (Deep place EXPR n v)) tokens rest → read_primary place true inner tokens ≡ Some (v, rest)
  unfolding read_nested
  group_complete v tokens rest b =
      let first = (cut b).one in
      nested_first place inner tokens (sign_no_number (codes "(") first) (sign_no_name (codes "(") first)
      (if_true _ (begins_of first).0 (inside_exact.complete tokens rest v b tt))

  absolute_complete : (v : RawExpr) (tokens rest : List Lexeme) → Begins (word (codes "abs") ⨾ parens (Deep place EXPR n v)) tokens rest
      → read_primary place true inner tokens ≡ Some (tree.Abs v, rest)
  unfolding read_nested is_reserved
  absolute_complete v tokens rest b =
      let first = cut b in
      let at = begins_of first.one in
      nested_first place inner tokens (word_no_number (codes "abs") first.one) (reserved_no_name (codes "abs") refl first.one)
      (if_false _ (first_word (codes "abs") (codes "(") first.one)
      (if_true _ at.0 (and_then_some _ (ap (read_parens inner) at.1 ∙ inside_exact.complete _ _ v first.other tt) refl)))

  min_complete : {mid : List Lexeme} (tokens : List Lexeme) {r : Option (RawExpr × List Lexeme)} → Begins (word (codes "min")) tokens mid → read_both op.Min inner mid ≡ r → read_primary place true inner tokens ≡ r
  unfolding read_nested is_reserved
  min_complete tokens b e =
      let at = begins_of b in
      nested_first place inner tokens (word_no_number (codes "min") b) (reserved_no_name (codes "min") refl b)
      (if_false _ (first_word (codes "min") (codes "(") b) (if_false _ (next_word (codes "min") (codes "abs") refl b)
      (if_true _ at.0 (ap (read_both op.Min inner) at.1 ∙ e))))

  max_complete : {mid : List Lexeme} (tokens : List Lexeme) {r : Option (RawExpr × List Lexeme)} → Begins (word (codes "max")) tokens mid → read_both op.Max inner mid ≡ r → read_primary place true inner tokens ≡ r
  unfolding read_nested is_reserved
  max_complete tokens b e =
      let at = begins_of b in
      nested_first place inner tokens (word_no_number (codes "max") b) (reserved_no_name (codes "max") refl b)
      (if_false _ (first_word (codes "max") (codes "(") b) (if_false _ (next_word (codes "max") (codes "abs") refl b) (if_false _ (next_word (codes "max") (codes "min") refl b)
      (if_true _ at.0 (ap (read_both op.Max inner) at.1 ∙ e)))))

  where_complete : {mid : List Lexeme} (tokens : List Lexeme) {r : Option (RawExpr × List Lexeme)} → Begins (word (codes "where")) tokens mid → read_choice inner mid ≡ r → read_primary place true inner tokens ≡ r
  unfolding read_nested is_reserved
  where_complete tokens b e =
      let at = begins_of b in
      nested_first place inner tokens (word_no_number (codes "where") b) (reserved_no_name (codes "where") refl b)
      (if_false _ (first_word (codes "where") (codes "(") b) (if_false _ (next_word (codes "where") (codes "abs") refl b)
      (if_false _ (next_word (codes "where") (codes "min") refl b) (if_false _ (next_word (codes "where") (codes "max") refl b)
      (if_true _ at.0 (ap (read_choice inner) at.1 ∙ e))))))

  index_first : (axis : ℤ) → place ≡ InLine → (tokens rest : List Lexeme) → Begins (word (codes "index") ⨾ parens (SMALL axis)) tokens rest
      → read_primary place true inner tokens ≡ Some (tree.Index axis, rest)
  unfolding read_nested is_reserved
  index_first axis here tokens rest b =
      let first = (cut b).one in
      nested_first place inner tokens (word_no_number (codes "index") first) (reserved_no_name (codes "index") refl first)
      (if_false _ (first_word (codes "index") (codes "(") first) (if_false _ (next_word (codes "index") (codes "abs") refl first)
      (if_false _ (next_word (codes "index") (codes "min") refl first) (if_false _ (next_word (codes "index") (codes "max") refl first)
      (if_false _ (next_word (codes "index") (codes "where") refl first)
      (subst (λ p. read_own p tokens ≡ Some (tree.Index axis, rest)) (sym here) (index_complete axis tokens rest b)))))))

  at_first : (offset : List ℤ) → place ≡ InBody → (tokens rest : List Lexeme) → Begins (sign (codes "@") ⨾ parens (listed INT offset)) tokens rest
      → read_primary place true inner tokens ≡ Some (tree.At offset, rest)
  unfolding read_nested
  at_first offset here tokens rest b =
      let first = (cut b).one in
      nested_first place inner tokens (sign_no_number (codes "@") first) (sign_no_name (codes "@") first)
      (if_false _ (other_sign (codes "@") (codes "(") refl first) (if_false _ (sign_no_word (codes "@") (codes "abs") first)
      (if_false _ (sign_no_word (codes "@") (codes "min") first) (if_false _ (sign_no_word (codes "@") (codes "max") first)
      (if_false _ (sign_no_word (codes "@") (codes "where") first)
      (subst (λ p. read_own p tokens ≡ Some (tree.At offset, rest)) (sym here) (at_complete offset tokens rest b)))))))

  apply_first : (stencil : Span) (seen : RawView) → place ≡ InLine → (tokens rest : List Lexeme) → Begins (name stencil ⨾ parens (VIEW seen)) tokens rest
      → read_primary place true inner tokens ≡ Some (tree.Apply stencil seen, rest)
  apply_first stencil seen here tokens rest b =
      subst (λ p. read_primary p true inner tokens ≡ Some (tree.Apply stencil seen, rest)) (sym here)
      (name_first true inner stencil tokens _ (cut b).one (apply_complete stencil seen tokens rest b))

  primary_complete : {v : RawExpr} {front : List Lexeme} (says : Says place PRIMARY front v) (tokens rest : List Lexeme) → nesting says ≤ suc n
      → Begins (just front) tokens rest → AfterUnary rest → read_primary place true inner tokens ≡ Some (v, rest)
  primary_complete (repeated none first more t) tokens rest deep b f = elim none [ ]
  primary_complete (literal k t) tokens rest deep b f = literal_complete place true inner k tokens rest (from_just b t)
  primary_complete {v} (group only t) tokens rest deep b f =
      let shallow : nesting only ≤ n = omega arith in
      group_complete v tokens rest (in_parens (from_just b t) (only, shallow))
  primary_complete (absolute {only = x} only t) tokens rest deep b f =
      let shallow : nesting only ≤ n = omega arith in
      let first = cut (from_just b t) in
      absolute_complete x tokens rest (then_begins first.one (in_parens first.other (only, shallow)))
  primary_complete (of_both {left = x} {right = y} o (zero, lt, e) left right t) tokens rest deep b f =
      let shallow_left : nesting left ≤ n = omega arith in
      let shallow_right : nesting right ≤ n = omega arith in
      let first = cut (from_just b t) in
      let read = both_complete o left right shallow_left shallow_right first.other in
      let word_is = subst (λ x. Begins (word (operator_text x)) tokens first.mid) (sym e) first.one in
      min_complete tokens word_is (subst (λ z. read_both z inner first.mid ≡ Some (tree.Bin o x y, rest)) (sym e) read)
  primary_complete (of_both {left = x} {right = y} o (suc zero, lt, e) left right t) tokens rest deep b f =
      let shallow_left : nesting left ≤ n = omega arith in
      let shallow_right : nesting right ≤ n = omega arith in
      let first = cut (from_just b t) in
      let read = both_complete o left right shallow_left shallow_right first.other in
      let word_is = subst (λ x. Begins (word (operator_text x)) tokens first.mid) (sym e) first.one in
      max_complete tokens word_is (subst (λ z. read_both z inner first.mid ≡ Some (tree.Bin o x y, rest)) (sym e) read)
  primary_complete (of_both o (suc (suc k), lt, e) left right t) tokens rest deep b f = absurd (omega arith)
  primary_complete (choice test one other t) tokens rest deep b f =
      let shallow_test : nesting test ≤ n = omega arith in
      let shallow_one : nesting one ≤ n = omega arith in
      let shallow_other : nesting other ≤ n = omega arith in
      let first = cut (from_just b t) in
      where_complete tokens first.one (choice_complete test one other shallow_test shallow_one shallow_other first.other)
  primary_complete (index axis here t) tokens rest deep b f = index_first axis here tokens rest (from_just b t)
  primary_complete (view seen here t) tokens rest deep b f = view_first true inner seen here tokens rest (from_just b t) f
  primary_complete (apply stencil seen here t) tokens rest deep b f = apply_first stencil seen here tokens rest (from_just b t)
  primary_complete (at offset here t) tokens rest deep b f = at_first offset here tokens rest (from_just b t)

  unary_complete : (unary : Reader RawExpr) → Exact AfterUnary (Deep place UNARY n) unary → {v : RawExpr} {front : List Lexeme} (says : Says place UNARY front v)
      (tokens rest : List Lexeme) → nesting says ≤ suc n → Begins (just front) tokens rest → AfterUnary rest → read_unary place true unary inner tokens ≡ Some (v, rest)
  unfolding read_unary
  unary_complete unary below (repeated none first more t) tokens rest deep b f = elim none [ ]
  unary_complete unary below (minus {operand = x} operand t) tokens rest deep b f =
      let shallow : nesting operand ≤ n = omega arith in
      let first = cut (from_just b t) in
      let at = begins_of first.one in
      if_true _ at.0 (and_then_some _ (ap unary at.1 ∙ below.complete _ _ x (from_just first.other (operand, shallow)) f) refl)
  unary_complete unary below (primary only) tokens rest deep b f =
      if_false _ (primary_no_minus only b) (primary_complete only tokens rest deep b f)

  deeper_exact : (unary : Reader RawExpr) → Exact AfterUnary (Deep place UNARY n) unary → Exact AfterUnary (Deep place UNARY (suc n)) (read_unary place true unary inner)
  unfolding read_unary
  deeper_exact unary below = record {
    sound = λ tokens rest v e. elim (if_cases (begins_sign (codes "-") tokens) e) [
      | inl so ↦
          let operand = step below so.1 in
          let whole = then_begins (begins_is Sign (codes "-") tokens so.0) (as_just operand.spelled) in
          done (Deep place UNARY (suc n)) operand.more (record {
            front = whole.front;
            spelled = (minus operand.spelled.spelled.0 whole.spelled, omega (arith, operand.spelled.spelled.1));
            whole = whole.whole;
          })
      | inr other ↦
          as_unary (primary_sound place true (suc n) inner (λ _. omega arith) (λ _. nested_sound) tokens rest v other.1)
    ];
    complete = λ tokens rest v b f. unary_complete unary below b.spelled.0 tokens rest b.spelled.1 (as_just b) f;
  }

-- ---- where nothing may be opened

shut_complete : (place : Place) {v : RawExpr} {front : List Lexeme} (says : Says place PRIMARY front v) (tokens rest : List Lexeme) → nesting says ≤ 0
    → Begins (just front) tokens rest → AfterUnary rest → read_primary place false refuse tokens ≡ Some (v, rest)
shut_complete place (repeated none first more t) tokens rest deep b f = elim none [ ]
shut_complete place (literal k t) tokens rest deep b f = literal_complete place false refuse k tokens rest (from_just b t)
shut_complete place (view seen here t) tokens rest deep b f = view_first false refuse seen here tokens rest (from_just b t) f
shut_complete place (group only t) tokens rest deep b f = absurd (omega arith)
shut_complete place (absolute only t) tokens rest deep b f = absurd (omega arith)
shut_complete place (of_both o c left right t) tokens rest deep b f = absurd (omega arith)
shut_complete place (choice test one other t) tokens rest deep b f = absurd (omega arith)
shut_complete place (index axis here t) tokens rest deep b f = absurd (omega arith)
shut_complete place (apply stencil seen here t) tokens rest deep b f = absurd (omega arith)
shut_complete place (at offset here t) tokens rest deep b f = absurd (omega arith)

shut_unary : (place : Place) {v : RawExpr} {front : List Lexeme} (says : Says place UNARY front v) (tokens rest : List Lexeme) → nesting says ≤ 0
    → Begins (just front) tokens rest → AfterUnary rest → read_unary place false refuse refuse tokens ≡ Some (v, rest)
unfolding read_unary
shut_unary place (repeated none first more t) tokens rest deep b f = elim none [ ]
shut_unary place (minus operand t) tokens rest deep b f = absurd (omega arith)
shut_unary place (primary only) tokens rest deep b f = if_false _ (primary_no_minus only b) (shut_complete place only tokens rest deep b f)

no_nested : (place : Place) (n : ℕ) → false ≡ true → (tokens rest : List Lexeme) (v : RawExpr) → read_nested place refuse tokens ≡ Some (v, rest) → Begins (Deep place PRIMARY n v) tokens rest
no_nested place n e tokens rest v read = absurd (cc)

shut_exact : (place : Place) → Exact AfterUnary (Deep place UNARY 0) (read_unary place false refuse refuse)
unfolding read_unary
shut_exact place = record {
  sound = λ tokens rest v e. elim (if_cases (begins_sign (codes "-") tokens) e) [
    | inl so ↦ absurd (cc (so.1))
    | inr other ↦ as_unary (primary_sound place false 0 refuse (λ e. absurd (cc)) (no_nested place 0) tokens rest v other.1)
  ];
  complete = λ tokens rest v b f. shut_unary place b.spelled.0 tokens rest b.spelled.1 (as_just b) f;
}

pub unary_exact : (place : Place) (n : ℕ) → Exact AfterUnary (Deep place UNARY n) (unary_within place n)
unfolding unary_within
unary_exact place zero = shut_exact place
unary_exact place (suc n) = deeper_exact (expr_exact (unary_exact place n)) (unary_within place n) (unary_exact place n)

-- an expression with so many parentheses and minuses one in another is read as the grammar says
pub within_exact : (place : Place) (n : ℕ) → Exact (Follows EXPR) (Deep place EXPR n) (expr_within place n)
within_exact place n = expr_exact (unary_exact place n)
