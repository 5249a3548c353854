-- The names of a form are parts of the line.
use Rattle.std.proofs.Common.{◌≡◌, ℕ, zero, suc, ◌<◌, ◌≤◌, ℤ, List, [], ◌∷◌, ◌++◌, Option, Some, None, refl, sym, ap, subst, arith, length, map, get_or, take, drop, ◌-◌, Bool, true, false, nat_le}
use Rattle.std.proofs.lemmas.Bool.Decides.{nat_tests}
use Rattle.pooma_text.specs.declared.span.Span.{Span}
use Rattle.pooma_text.specs.declared.token.Token.{Token}
use Rattle.pooma_text.specs.declared.token.TokenKind.{TokenKind}
use Rattle.pooma_text.specs.declared.token.TokenKind.TheVariants.{Word, Number, Sign}
use Rattle.pooma_text.specs.Lines.{IsPart, text_at}
use Rattle.pooma_text.specs.Tokens.{IsLongest, IsToken, Runs}
use Rattle.pooma_parse.specs.declared.expression.Place.{Place}
use Rattle.pooma_parse.specs.declared.form.RawExpr.{RawExpr, fold-roll-RawExpr, roll-RawExpr}
use Rattle.pooma_parse.specs.declared.form.RawExpr.TheOpen.{RawExpr-F}
use Rattle.pooma_parse.specs.declared.form.RawExpr.TheVariants as tree
use Rattle.pooma_parse.specs.declared.form.RawOp.{RawOp}
use Rattle.pooma_parse.specs.declared.form.RawLine.{RawLine}
use Rattle.pooma_parse.specs.declared.form.RawLine.TheVariants as line
use Rattle.pooma_parse.specs.declared.form.RawSub.{RawSub}
use Rattle.pooma_parse.specs.declared.form.RawView.{RawView}
use Rattle.pooma_parse.specs.Expressions.{Level, Behind, Says, absolute, alone, apply, at, choice, compared, group, index, literal, minus, no_more, of_both, one_more, primary, repeated, view}
use Rattle.pooma_parse.specs.Forms.{BRACKETED, LINE}
use Rattle.pooma_parse.specs.Languages.{Language, name, parens, ◌⨾◌}
use Rattle.pooma_parse.specs.Lists.{VIEW}
use Rattle.pooma_parse.specs.Lines.{Spells}
use Rattle.pooma_parse.specs.Spans.{names_in, names_of, names_of_node}
use Rattle.pooma_parse.specs.Tokens.{Lexeme, lexeme_of}

-- what holds of each span, and of the span of each token
abbrev Every : (Span → Type 0) → List Span → Type 0
Every P [] = Unit {0}
Every P (s ∷ spans) = P s × Every P spans

abbrev Each : (Span → Type 0) → List Lexeme → Type 0
Each P [] = Unit {0}
Each P (t ∷ tokens) = P t.span × Each P tokens

-- the names of an expression by its cases
names_number : (n : ℤ) → names_in (tree.Number n) ≡ []
unfolding roll-RawExpr denote.Hole.Carrier.roll
names_number n = fold-roll-RawExpr (List Span) names_of_node (RawExpr-F.Number n)

names_index : (axis : ℤ) → names_in (tree.Index axis) ≡ []
unfolding roll-RawExpr denote.Hole.Carrier.roll
names_index axis = fold-roll-RawExpr (List Span) names_of_node (RawExpr-F.Index axis)

names_view : (seen : RawView) → names_in (tree.View seen) ≡ seen.name ∷ []
unfolding roll-RawExpr denote.Hole.Carrier.roll
names_view seen = fold-roll-RawExpr (List Span) names_of_node (RawExpr-F.View seen)

names_apply : (stencil : Span) (seen : RawView) → names_in (tree.Apply stencil seen) ≡ stencil ∷ seen.name ∷ []
unfolding roll-RawExpr denote.Hole.Carrier.roll
names_apply stencil seen = fold-roll-RawExpr (List Span) names_of_node (RawExpr-F.Apply stencil seen)

names_at : (offset : List ℤ) → names_in (tree.At offset) ≡ []
unfolding roll-RawExpr denote.Hole.Carrier.roll
names_at offset = fold-roll-RawExpr (List Span) names_of_node (RawExpr-F.At offset)

names_neg : (operand : RawExpr) → names_in (tree.Neg operand) ≡ names_in operand
unfolding roll-RawExpr denote.Hole.Carrier.roll
names_neg operand = fold-roll-RawExpr (List Span) names_of_node (RawExpr-F.Neg operand)

names_abs : (operand : RawExpr) → names_in (tree.Abs operand) ≡ names_in operand
unfolding roll-RawExpr denote.Hole.Carrier.roll
names_abs operand = fold-roll-RawExpr (List Span) names_of_node (RawExpr-F.Abs operand)

names_bin : (o : RawOp) (left right : RawExpr) → names_in (tree.Bin o left right) ≡ names_in left ++ names_in right
unfolding roll-RawExpr denote.Hole.Carrier.roll
names_bin o left right = fold-roll-RawExpr (List Span) names_of_node (RawExpr-F.Bin o left right)

names_where : (condition then_value else_value : RawExpr) → names_in (tree.Where condition then_value else_value) ≡ names_in condition ++ names_in then_value ++ names_in else_value
unfolding roll-RawExpr denote.Hole.Carrier.roll
names_where condition then_value else_value = fold-roll-RawExpr (List Span) names_of_node (RawExpr-F.Where condition then_value else_value)

module _ (P : Span → Type 0) where
  every_both : (a b : List Span) → Every P a → Every P b → Every P (a ++ b)
  every_both [] b ea eb = eb
  every_both (s ∷ a) b ea eb = (ea.0, every_both a b ea.1 eb)

  front_of : (a b : List Lexeme) → Each P (a ++ b) → Each P a
  front_of [] b e = tt
  front_of (t ∷ a) b e = (e.0, front_of a b e.1)

  back_of : (a b : List Lexeme) → Each P (a ++ b) → Each P b
  back_of [] b e = e
  back_of (t ∷ a) b e = back_of a b e.1

  front_part : {A B : Language} {tokens : List Lexeme} (t : (A ⨾ B) tokens) → Each P tokens → Each P t.front
  front_part t e = front_of t.front t.back (subst (Each P) t.whole e)

  back_part : {A B : Language} {tokens : List Lexeme} (t : (A ⨾ B) tokens) → Each P tokens → Each P t.back
  back_part t e = back_of t.front t.back (subst (Each P) t.whole e)

  -- the inside of parentheses
  inside_part : {A : Language} {tokens : List Lexeme} (t : parens A tokens) → Each P tokens → Each P t.other.front
  inside_part t e = front_part t.other (back_part t e)

  name_part : {span : Span} {tokens : List Lexeme} → name span tokens → Each P tokens → P span
  name_part n e = (subst (Each P) n.2 e).0

  view_part : (seen : RawView) {tokens : List Lexeme} → VIEW seen tokens → Each P tokens → P seen.name
  view_part seen v e = name_part v.one (front_part v e)

  mutual
    says_names : {place : Place} {level : Level} {tokens : List Lexeme} {v : RawExpr} → Says place level tokens v → Each P tokens → Every P (names_in v)
    says_names (repeated r first more t) e =
        behind_names more (says_names first (subst (Each P) t.one (front_part t e))) (subst (Each P) t.other (back_part t e))
    says_names (alone only) e = says_names only e
    says_names (compared {left = x} {right = y} o left c right t) e = subst (Every P) (sym (names_bin o x y)) (every_both _ _ (says_names left (subst (Each P) t.one (front_part t e)))
        (says_names right (subst (Each P) t.other.other (back_part t.other (back_part t e)))))
    says_names (minus {operand = x} operand t) e = subst (Every P) (sym (names_neg x)) (says_names operand (subst (Each P) t.other (back_part t e)))
    says_names (primary only) e = says_names only e
    says_names (literal n t) e = subst (Every P) (sym (names_number n)) tt
    says_names (group only t) e = says_names only (subst (Each P) t.other.one (inside_part t e))
    says_names (absolute {only = x} only t) e = subst (Every P) (sym (names_abs x)) (says_names only (subst (Each P) t.other.other.one (inside_part t.other (back_part t e))))
    says_names (of_both {left = x} {right = y} o c left right t) e =
        let inside = inside_part t.other (back_part t e) in
        let both = t.other.other.one in
        subst (Every P) (sym (names_bin o x y)) (every_both _ _ (says_names left (subst (Each P) both.one (front_part both inside)))
        (says_names right (subst (Each P) both.other.other (back_part both.other (back_part both inside)))))
    says_names (choice {condition = x} {then_value = y} {else_value = z} test one other t) e =
        let inside = inside_part t.other (back_part t e) in
        let all = t.other.other.one in
        let behind = all.other.other in
        let rest = back_part all.other (back_part all inside) in
        subst (Every P) (sym (names_where x y z))
        (every_both _ _ (every_both _ _ (says_names test (subst (Each P) all.one (front_part all inside))) (says_names one (subst (Each P) behind.one (front_part behind rest))))
        (says_names other (subst (Each P) behind.other.other (back_part behind.other (back_part behind rest)))))
    says_names (index axis here t) e = subst (Every P) (sym (names_index axis)) tt
    says_names (view seen here t) e = subst (Every P) (sym (names_view seen)) (view_part seen t e, tt)
    says_names (apply stencil seen here t) e = subst (Every P) (sym (names_apply stencil seen)) (name_part t.one (front_part t e), (view_part seen t.other.other.one (inside_part t.other (back_part t e)), tt))
    says_names (at offset here t) e = subst (Every P) (sym (names_at offset)) tt

    behind_names : {place : Place} {level operand : Level} {before : RawExpr} {tokens : List Lexeme} {v : RawExpr} → Behind place level operand before tokens v
        → Every P (names_in before) → Each P tokens → Every P (names_in v)
    behind_names (no_more t) known e = known
    behind_names (one_more {before = x} {next = y} o c next more t) known e =
        let rest = back_part t e in
        behind_names more (subst (Every P) (sym (names_bin o x y)) (every_both _ _ known (says_names next (subst (Each P) t.other.one (front_part t.other rest))))) (subst (Each P) t.other.other (back_part t.other rest))

  bracketed_part : (seen : RawView) (subs : Option (List RawSub)) (tokens : List Lexeme) → BRACKETED seen subs tokens → Each P tokens → P seen.name
  bracketed_part seen None tokens b e = absurd b
  bracketed_part seen (Some subs) tokens b e = view_part seen b e

  line_names : (form : RawLine) (tokens : List Lexeme) → LINE form tokens → Each P tokens → Every P (names_of form)
  line_names (line.Layout layout domain cutting internal external) tokens l e = (name_part l.other.one (front_part l.other (back_part l e)), tt)
  line_names (line.Brick brick domain) tokens l e = (name_part l.other.one (front_part l.other (back_part l e)), tt)
  line_names (line.Array array layout) tokens l e =
      let a = back_part l e in
      (name_part l.other.one (front_part l.other a), (name_part l.other.other.other (back_part l.other.other (back_part l.other a)), tt))
  line_names (line.Field field layout faces) tokens l e =
      let a = back_part l e in
      let b = back_part l.other.other (back_part l.other a) in
      (name_part l.other.one (front_part l.other a), (name_part l.other.other.other.one (front_part l.other.other.other b), tt))
  line_names (line.Stencil stencil lower upper body) tokens l e =
      let a = back_part l e in
      let b = l.other.other.other.other.other in
      let d = back_part l.other.other.other.other (back_part l.other.other.other (back_part l.other.other (back_part l.other a))) in
      (name_part l.other.one (front_part l.other a), says_names b.other.other.0 (back_part b.other (back_part b d)))
  line_names (line.Assign target o value) tokens l e = (view_part target l.one (front_part l e), says_names l.other.other.0 (back_part l.other (back_part l e)))
  line_names (line.Scalar scalar value) tokens l e =
      let a = back_part l e in
      (name_part l.other.one (front_part l.other a), says_names l.other.other.other.0 (back_part l.other.other (back_part l.other a)))
  line_names (line.Reduce scalar reduction value) tokens l e =
      let a = back_part l e in
      let r = l.other.other.other in
      let b = back_part l.other.other (back_part l.other a) in
      (name_part l.other.one (front_part l.other a), ((subst (Each P) r.one.2 (front_part r b)).0, says_names r.other.other.one.0 (inside_part r.other (back_part r b))))
  line_names (line.PrintView seen) tokens l e = (bracketed_part seen seen.subs _ l.other (back_part l e), tt)
  line_names (line.PrintName printed) tokens l e = (name_part l.other (back_part l e), tt)
  line_names line.Block tokens l e = tt
  line_names (line.Repeat turns) tokens l e = tt
  line_names line.End tokens l e = tt

-- ---- parts of the line

every_at : (P : Span → Type 0) (spans : List Span) → Every P spans → (k : ℕ) (d : Span) → k < length spans → P (get_or spans k d)
every_at P [] e k d lt = absurd (omega arith)
every_at P (s ∷ spans) e zero d lt = e.0
every_at P (s ∷ spans) e (suc k) d lt = every_at P spans e.1 k d (omega arith)

no_empty_token : (kind : TokenKind) → IsToken kind [] → ⊥
no_empty_token Word t = t
no_empty_token Number t = t.0 refl
no_empty_token Sign t = t

-- no token ends before it starts, since nothing would be in it
backward_none : (line : List ℕ) (span : Span) → span.end ≤ span.start → text_at line span ≡ []
backward_none line span back = let none : span.end - span.start ≡ 0 = omega arith in ap (λ n. take n (drop span.start line)) none

forward_part : (line : List ℕ) (token : Token) → IsLongest line token → (test : Bool) → test ≡ nat_le token.span.start token.span.end → token.span.start ≤ token.span.end
forward_part line token l true e = grind (arith, nat_tests)
forward_part line token l false e =
    let back : token.span.end ≤ token.span.start = grind (arith, nat_tests) in
    absurd (no_empty_token token.kind (subst (IsToken token.kind) (backward_none line token.span back) l.fits))

text_part : (line : List ℕ) (token : Token) → IsLongest line token → IsPart line token.span
text_part line token l = record { forward = forward_part line token l (nat_le token.span.start token.span.end) refl; within = l.within }

token_parts : (line : List ℕ) (from : ℕ) (tokens : List Token) (to : ℕ) → Runs line from tokens to → Each (IsPart line) (map (lexeme_of line) tokens)
token_parts line from [] to r = tt
token_parts line from (t ∷ tokens) to r = (text_part line t r.1, token_parts line t.span.end tokens to r.2)

-- the names of a form that a line spells are parts of the line
pub names_are_parts : (line : List ℕ) (form : RawLine) → Spells line form → (k : ℕ) (d : Span) → k < length (names_of form) → IsPart line (get_or (names_of form) k d)
names_are_parts line form s =
    every_at (IsPart line) (names_of form) (line_names (IsPart line) form (map (lexeme_of line) s.tokens) s.says (token_parts line 0 s.tokens s.whole.0 s.whole.1))
