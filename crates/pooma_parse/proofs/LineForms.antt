-- The forms of a line are read as the grammar says.
use Rattle.std.proofs.Common.{◌≡◌, ℕ, ℤ, false, List, [], ◌∷◌, Option, Some, None, refl, sym, ap, ◌∙◌, subst, inl, inr, codes, append-nil}
use Rattle.pooma_text.specs.declared.span.Span.{Span}
use Rattle.pooma_text.specs.declared.token.TokenKind.TheVariants.{Sign}
use Rattle.pooma_parse.specs.declared.expression.Place.TheVariants.{InBody, InLine}
use Rattle.pooma_parse.specs.declared.form.RawAssign.{RawAssign}
use Rattle.pooma_parse.specs.declared.form.RawAssign.TheVariants as assign
use Rattle.pooma_parse.specs.declared.form.RawExpr.{RawExpr}
use Rattle.pooma_parse.specs.declared.form.RawLine.{RawLine}
use Rattle.pooma_parse.specs.declared.form.RawLine.TheVariants as line
use Rattle.pooma_parse.specs.declared.form.RawSub.{RawSub}
use Rattle.pooma_parse.specs.declared.form.RawView.{RawView}
use Rattle.pooma_parse.specs.Forms.{EXPRESSION, LINE, MOST_NESTING, RED}
use Rattle.pooma_parse.specs.Languages.{Language, SMALL, listed, name, parens, sign, word, ◌⨾◌}
use Rattle.pooma_parse.specs.Lists.{BOX, CUTTING, LAYERS, SMALLS, UPDATER, VIEW, assign_text}
use Rattle.pooma_parse.specs.Reader.{begins, begins_sign, begins_word, by_brackets, ended, expr_within, printed, read_array, read_assign_sign, read_assignment, read_block, read_brick, read_end, read_field, read_layout, read_parens, read_print, read_reduction, read_repeat, read_repeat_end, read_scalar, read_scalar_head, read_stencil}
use Rattle.pooma_parse.specs.Tokens.{Lexeme, sign_token}
use Rattle.pooma_parse.proofs.Atoms.{begins_is, name_exact, sign_exact, token_begins, word_exact}
use Rattle.pooma_parse.proofs.Commas.{NoSign, listed_exact, parens_exact}
use Rattle.pooma_parse.proofs.Exact.{Any, Begins, Exact, and_then_some, cut, done, if_cases, nothing_begins, nothing_ends, some_same, step, then_begins}
use Rattle.pooma_parse.proofs.Operands.{within_exact}
use Rattle.pooma_parse.proofs.Operators.{at_end, closes}
use Rattle.pooma_parse.proofs.Parts.{any_comma, box_exact, cutting_exact, layers_exact, other_word, small_exact, smalls_exact, updater_exact, view_exact}
use Rattle.pooma_parse.proofs.Reductions.{none_first, red_exact, reduction_no_expr}

-- ---- the end of a line

-- a form that was read to the line's end
pub record Finished (L : RawLine → Language) (tokens rest : List Lexeme) (v : RawLine) : Type 0 where
  pub says : L v tokens
  pub none_left : rest ≡ []

whole : {L : Language} {tokens : List Lexeme} → Begins L tokens [] → L tokens
whole {L} b = subst L (sym (b.whole ∙ append-nil b.front)) b.spelled

pub line_begins : (L : Language) {tokens : List Lexeme} → L tokens → Begins L tokens []
line_begins L {tokens} l = record { front = tokens; spelled = l; whole = sym (append-nil tokens) }

finish : (L : RawLine → Language) (x : RawLine) {tokens : List Lexeme} (mid rest : List Lexeme) {v : RawLine} → ended x mid ≡ Some (v, rest) → Begins (L x) tokens mid → Finished L tokens rest v
unfolding read_end
finish L x {tokens} [] rest {v} e b =
    let same = some_same e in
    record { says = subst (λ f. L f tokens) (ap (λ p. p.0) same) (whole b); none_left = sym (ap (λ p. p.1) same) }
finish L x (t ∷ mid) rest e b = absurd (cc)

ends : (x : RawLine) → ended x [] ≡ Some (x, [])
unfolding read_end
ends x = refl

-- ---- declarations

pub layout_sound : (tokens rest : List Lexeme) (v : RawLine) → read_layout tokens ≡ Some (v, rest) → Finished LINE tokens rest v
unfolding read_layout
layout_sound tokens rest v e =
    let keyword = step (word_exact (codes "layout")) e in
    let named = step name_exact keyword.more in
    let domain = step box_exact named.more in
    let cutting = step cutting_exact domain.more in
    let internal = step (layers_exact (codes "internal")) cutting.more in
    let external = step (layers_exact (codes "external")) internal.more in
    finish LINE _ external.mid rest external.more
    (then_begins keyword.spelled (then_begins named.spelled (then_begins domain.spelled (then_begins cutting.spelled (then_begins internal.spelled external.spelled)))))

external_behind : (external : List ℤ) (tokens : List Lexeme) → Begins (LAYERS (codes "external") external) tokens [] → begins_word (codes "internal") tokens ≡ false
unfolding begins
external_behind [] tokens b = ap (begins_word (codes "internal")) (nothing_ends b)
external_behind (n ∷ list) tokens b = other_word (codes "external") (codes "internal") refl (cut {A = word (codes "external")} {B = SMALLS (n ∷ list)} b).one

pub nothing_behind : (text : List ℕ) → begins_word text [] ≡ false
unfolding begins
nothing_behind text = refl

pub layout_complete : (layout : Span) (domain : List (ℤ × ℤ)) (cutting : _) (internal external : List ℤ) (tokens : List Lexeme)
    → LINE (line.Layout layout domain cutting internal external) tokens → read_layout tokens ≡ Some (line.Layout layout domain cutting internal external, [])
unfolding read_layout
layout_complete layout domain cutting internal external tokens l =
    let a = cut (line_begins (word (codes "layout") ⨾ name layout ⨾ BOX domain ⨾ CUTTING cutting ⨾ LAYERS (codes "internal") internal ⨾ LAYERS (codes "external") external) l) in
    let b = cut a.other in
    let c = cut b.other in
    let d = cut c.other in
    let f = cut d.other in
    and_then_some _ ((word_exact (codes "layout")).complete _ _ tt a.one tt)
    (and_then_some _ (name_exact.complete _ _ layout b.one tt)
    (and_then_some _ (box_exact.complete _ _ domain c.one tt)
    (and_then_some _ (cutting_exact.complete _ _ cutting d.one tt)
    (and_then_some _ ((layers_exact (codes "internal")).complete _ _ internal f.one (external_behind external f.mid f.other))
    (and_then_some _ ((layers_exact (codes "external")).complete _ _ external f.other (nothing_behind (codes "external"))) (ends _))))))

pub brick_sound : (tokens rest : List Lexeme) (v : RawLine) → read_brick tokens ≡ Some (v, rest) → Finished LINE tokens rest v
unfolding read_brick
brick_sound tokens rest v e =
    let keyword = step (word_exact (codes "brick")) e in
    let named = step name_exact keyword.more in
    let domain = step box_exact named.more in
    finish LINE _ domain.mid rest domain.more (then_begins keyword.spelled (then_begins named.spelled domain.spelled))

pub brick_complete : (brick : Span) (domain : List (ℤ × ℤ)) (tokens : List Lexeme) → LINE (line.Brick brick domain) tokens → read_brick tokens ≡ Some (line.Brick brick domain, [])
unfolding read_brick
brick_complete brick domain tokens l =
    let a = cut (line_begins (word (codes "brick") ⨾ name brick ⨾ BOX domain) l) in
    let b = cut a.other in
    and_then_some _ ((word_exact (codes "brick")).complete _ _ tt a.one tt)
    (and_then_some _ (name_exact.complete _ _ brick b.one tt)
    (and_then_some _ (box_exact.complete _ _ domain b.other tt) (ends _)))

pub array_sound : (tokens rest : List Lexeme) (v : RawLine) → read_array tokens ≡ Some (v, rest) → Finished LINE tokens rest v
unfolding read_array
array_sound tokens rest v e =
    let keyword = step (word_exact (codes "array")) e in
    let named = step name_exact keyword.more in
    let on = step (word_exact (codes "on")) named.more in
    let layout = step name_exact on.more in
    finish LINE _ layout.mid rest layout.more (then_begins keyword.spelled (then_begins named.spelled (then_begins on.spelled layout.spelled)))

pub array_complete : (array layout : Span) (tokens : List Lexeme) → LINE (line.Array array layout) tokens → read_array tokens ≡ Some (line.Array array layout, [])
unfolding read_array
array_complete array layout tokens l =
    let a = cut (line_begins (word (codes "array") ⨾ name array ⨾ word (codes "on") ⨾ name layout) l) in
    let b = cut a.other in
    let c = cut b.other in
    and_then_some _ ((word_exact (codes "array")).complete _ _ tt a.one tt)
    (and_then_some _ (name_exact.complete _ _ array b.one tt)
    (and_then_some _ ((word_exact (codes "on")).complete _ _ tt c.one tt)
    (and_then_some _ (name_exact.complete _ _ layout c.other tt) (ends _))))

pub field_sound : (tokens rest : List Lexeme) (v : RawLine) → read_field tokens ≡ Some (v, rest) → Finished LINE tokens rest v
unfolding read_field
field_sound tokens rest v e =
    let keyword = step (word_exact (codes "field")) e in
    let named = step name_exact keyword.more in
    let on = step (word_exact (codes "on")) named.more in
    let layout = step name_exact on.more in
    let faces = step (word_exact (codes "faces")) layout.more in
    let list = step (listed_exact updater_exact any_comma) faces.more in
    finish LINE _ list.mid rest list.more
    (then_begins keyword.spelled (then_begins named.spelled (then_begins on.spelled (then_begins layout.spelled (then_begins faces.spelled list.spelled)))))

no_sign_at_end : (text : List ℕ) → NoSign text []
unfolding begins
no_sign_at_end text = refl

pub field_complete : (field layout : Span) (faces : _) (tokens : List Lexeme) → LINE (line.Field field layout faces) tokens → read_field tokens ≡ Some (line.Field field layout faces, [])
unfolding read_field
field_complete field layout faces tokens l =
    let a = cut (line_begins (word (codes "field") ⨾ name field ⨾ word (codes "on") ⨾ name layout ⨾ word (codes "faces") ⨾ listed UPDATER faces) l) in
    let b = cut a.other in
    let c = cut b.other in
    let d = cut c.other in
    let f = cut d.other in
    and_then_some _ ((word_exact (codes "field")).complete _ _ tt a.one tt)
    (and_then_some _ (name_exact.complete _ _ field b.one tt)
    (and_then_some _ ((word_exact (codes "on")).complete _ _ tt c.one tt)
    (and_then_some _ (name_exact.complete _ _ layout d.one tt)
    (and_then_some _ ((word_exact (codes "faces")).complete _ _ tt f.one tt)
    (and_then_some _ ((listed_exact updater_exact any_comma).complete _ _ faces f.other (no_sign_at_end (codes ","), tt)) (ends _))))))

pub stencil_sound : (tokens rest : List Lexeme) (v : RawLine) → read_stencil tokens ≡ Some (v, rest) → Finished LINE tokens rest v
unfolding read_stencil
stencil_sound tokens rest v e =
    let keyword = step (word_exact (codes "stencil")) e in
    let named = step name_exact keyword.more in
    let low = step (word_exact (codes "lower")) named.more in
    let lower = step smalls_exact low.more in
    let up = step (word_exact (codes "upper")) lower.more in
    let upper = step smalls_exact up.more in
    let equals = step (sign_exact (codes "=")) upper.more in
    let body = step (within_exact InBody MOST_NESTING) equals.more in
    finish LINE _ body.mid rest body.more
    (then_begins keyword.spelled (then_begins named.spelled (then_begins low.spelled (then_begins lower.spelled
    (then_begins up.spelled (then_begins upper.spelled (then_begins equals.spelled body.spelled)))))))

pub stencil_complete : (stencil : Span) (lower upper : List ℤ) (body : RawExpr) (tokens : List Lexeme) → LINE (line.Stencil stencil lower upper body) tokens
    → read_stencil tokens ≡ Some (line.Stencil stencil lower upper body, [])
unfolding read_stencil
stencil_complete stencil lower upper body tokens l =
    let a = cut (line_begins (word (codes "stencil") ⨾ name stencil ⨾ word (codes "lower") ⨾ SMALLS lower ⨾ word (codes "upper") ⨾ SMALLS upper
    ⨾ sign (codes "=") ⨾ EXPRESSION InBody body) l) in
    let b = cut a.other in
    let c = cut b.other in
    let d = cut c.other in
    let f = cut d.other in
    let g = cut f.other in
    let h = cut g.other in
    and_then_some _ ((word_exact (codes "stencil")).complete _ _ tt a.one tt)
    (and_then_some _ (name_exact.complete _ _ stencil b.one tt)
    (and_then_some _ ((word_exact (codes "lower")).complete _ _ tt c.one tt)
    (and_then_some _ (smalls_exact.complete _ _ lower d.one tt)
    (and_then_some _ ((word_exact (codes "upper")).complete _ _ tt f.one tt)
    (and_then_some _ (smalls_exact.complete _ _ upper g.one tt)
    (and_then_some _ ((sign_exact (codes "=")).complete _ _ tt h.one tt)
    (and_then_some _ ((within_exact InBody MOST_NESTING).complete _ _ body h.other at_end) (ends _))))))))

-- ---- statements

assign_computes : (o : RawAssign) (span : Span) (rest : List Lexeme) → read_assign_sign (sign_token (assign_text o) span ∷ rest) ≡ Some (o, rest)
unfolding read_assign_sign begins
assign_computes assign.Plain span rest = refl
assign_computes assign.Add span rest = refl
assign_computes assign.Sub span rest = refl
assign_computes assign.Mul span rest = refl

assign_exact : Exact Any (λ o. sign (assign_text o)) read_assign_sign
unfolding read_assign_sign
assign_exact = record {
  sound = λ tokens rest v e. elim (if_cases (begins_sign (codes "=") tokens) e) [
    | inl so ↦ done (λ o. sign (assign_text o)) so.1 (begins_is Sign (codes "=") tokens so.0)
    | inr a ↦ elim (if_cases (begins_sign (codes "+=") tokens) a.1) [
      | inl so ↦ done (λ o. sign (assign_text o)) so.1 (begins_is Sign (codes "+=") tokens so.0)
      | inr b ↦ elim (if_cases (begins_sign (codes "-=") tokens) b.1) [
        | inl so ↦ done (λ o. sign (assign_text o)) so.1 (begins_is Sign (codes "-=") tokens so.0)
        | inr c ↦ elim (if_cases (begins_sign (codes "*=") tokens) c.1) [
          | inl so ↦ done (λ o. sign (assign_text o)) so.1 (begins_is Sign (codes "*=") tokens so.0)
          | inr none ↦ absurd (cc (none.1))
        ]
      ]
    ]
  ];
  complete = λ tokens rest v b any.
      let at = token_begins b in subst (λ s. read_assign_sign s ≡ Some (v, rest)) (sym at.1) (assign_computes v at.0 rest);
}

no_bracket : (o : RawAssign) (span : Span) (rest : List Lexeme) → NoSign (codes "[") (sign_token (assign_text o) span ∷ rest)
unfolding begins
no_bracket assign.Plain span rest = refl
no_bracket assign.Add span rest = refl
no_bracket assign.Sub span rest = refl
no_bracket assign.Mul span rest = refl

pub assignment_sound : (tokens rest : List Lexeme) (v : RawLine) → read_assignment tokens ≡ Some (v, rest) → Finished LINE tokens rest v
unfolding read_assignment
assignment_sound tokens rest v e =
    let target = step view_exact e in
    let o = step assign_exact target.more in
    let value = step (within_exact InLine MOST_NESTING) o.more in
    finish LINE _ value.mid rest value.more (then_begins target.spelled (then_begins o.spelled value.spelled))

pub assignment_complete : (target : RawView) (o : RawAssign) (value : RawExpr) (tokens : List Lexeme) → LINE (line.Assign target o value) tokens
    → read_assignment tokens ≡ Some (line.Assign target o value, [])
unfolding read_assignment
assignment_complete target o value tokens l =
    let a = cut (line_begins (VIEW target ⨾ sign (assign_text o) ⨾ EXPRESSION InLine value) l) in
    let b = cut a.other in
    let at = token_begins b.one in
    and_then_some _ (view_exact.complete _ _ target a.one (subst (NoSign (codes "[")) (sym at.1) (no_bracket o at.0 b.mid)))
    (and_then_some _ (assign_exact.complete _ _ o b.one tt)
    (and_then_some _ ((within_exact InLine MOST_NESTING).complete _ _ value b.other at_end) (ends _)))

HEAD : Span → Language
HEAD scalar = word (codes "scalar") ⨾ name scalar ⨾ sign (codes "=")

head_exact : Exact Any HEAD read_scalar_head
unfolding read_scalar_head HEAD
head_exact = record {
  sound = λ tokens rest v e.
      let keyword = step (word_exact (codes "scalar")) e in
      let named = step name_exact keyword.more in
      let equals = step (sign_exact (codes "=")) named.more in
      done HEAD equals.more (then_begins keyword.spelled (then_begins named.spelled equals.spelled));
  complete = λ tokens rest v b any.
      let a = cut b in
      let c = cut a.other in
      and_then_some _ ((word_exact (codes "scalar")).complete _ _ tt a.one tt)
      (and_then_some _ (name_exact.complete _ _ v c.one tt)
      (and_then_some _ ((sign_exact (codes "=")).complete _ _ tt c.other tt) refl));
}

-- what stands behind the head of a scalar
headed : {scalar : Span} {B : Language} {tokens mid rest : List Lexeme} → Begins (HEAD scalar) tokens mid → Begins B mid rest
    → Begins (word (codes "scalar") ⨾ name scalar ⨾ sign (codes "=") ⨾ B) tokens rest
unfolding HEAD
headed h b =
    let a = cut h in
    let c = cut a.other in
    then_begins a.one (then_begins c.one (then_begins c.other b))

record Headed (scalar : Span) (B : Language) (tokens rest : List Lexeme) : Type 0 where
  mid : List Lexeme
  head : Begins (HEAD scalar) tokens mid
  other : Begins B mid rest

unheaded : {scalar : Span} {B : Language} {tokens rest : List Lexeme} → Begins (word (codes "scalar") ⨾ name scalar ⨾ sign (codes "=") ⨾ B) tokens rest → Headed scalar B tokens rest
unfolding HEAD
unheaded b =
    let a = cut b in
    let c = cut a.other in
    let d = cut c.other in
    record { mid = d.mid; head = then_begins a.one (then_begins c.one d.one); other = d.other }

pub scalar_sound : (tokens rest : List Lexeme) (v : RawLine) → read_scalar tokens ≡ Some (v, rest) → Finished LINE tokens rest v
unfolding read_scalar
scalar_sound tokens rest v e =
    let head = step head_exact e in
    let value = step (within_exact InLine MOST_NESTING) head.more in
    finish LINE _ value.mid rest value.more (headed head.spelled value.spelled)

pub scalar_complete : (scalar : Span) (value : RawExpr) (tokens : List Lexeme) → LINE (line.Scalar scalar value) tokens → read_scalar tokens ≡ Some (line.Scalar scalar value, [])
unfolding read_scalar
scalar_complete scalar value tokens l =
    let h = unheaded (line_begins (word (codes "scalar") ⨾ name scalar ⨾ sign (codes "=") ⨾ EXPRESSION InLine value) l) in
    and_then_some _ (head_exact.complete _ _ scalar h.head tt)
    (and_then_some _ ((within_exact InLine MOST_NESTING).complete _ _ value h.other at_end) (ends _))

inside_exact : Exact Any (λ v. parens (EXPRESSION InLine v)) (read_parens (expr_within InLine MOST_NESTING))
inside_exact = parens_exact (within_exact InLine MOST_NESTING) closes

pub reduction_sound : (tokens rest : List Lexeme) (v : RawLine) → read_reduction tokens ≡ Some (v, rest) → Finished LINE tokens rest v
unfolding read_reduction
reduction_sound tokens rest v e =
    let head = step head_exact e in
    let red = step red_exact head.more in
    let value = step inside_exact red.more in
    finish LINE _ value.mid rest value.more (headed head.spelled (then_begins red.spelled value.spelled))

pub reduction_complete : (scalar reduction : Span) (value : RawExpr) (tokens : List Lexeme) → LINE (line.Reduce scalar reduction value) tokens
    → read_reduction tokens ≡ Some (line.Reduce scalar reduction value, [])
unfolding read_reduction
reduction_complete scalar reduction value tokens l =
    let h = unheaded (line_begins (word (codes "scalar") ⨾ name scalar ⨾ sign (codes "=") ⨾ RED reduction ⨾ parens (EXPRESSION InLine value)) l) in
    let a = cut h.other in
    and_then_some _ (head_exact.complete _ _ scalar h.head tt)
    (and_then_some _ (red_exact.complete _ _ reduction a.one tt)
    (and_then_some _ (inside_exact.complete _ _ value a.other tt) (ends _)))

-- a reduction is no scalar of an expression
pub no_scalar : (scalar reduction : Span) (value : RawExpr) (tokens : List Lexeme) → LINE (line.Reduce scalar reduction value) tokens → read_scalar tokens ≡ None
unfolding read_scalar
no_scalar scalar reduction value tokens l =
    let h = unheaded (line_begins (word (codes "scalar") ⨾ name scalar ⨾ sign (codes "=") ⨾ RED reduction ⨾ parens (EXPRESSION InLine value)) l) in
    let a = cut h.other in
    and_then_some _ (head_exact.complete _ _ scalar h.head tt)
    (none_first _ (reduction_no_expr 63 reduction value h.mid a.mid [] a.one a.other))

printed_says : (printed_name : Span) (subs : Option (List RawSub)) {tokens : List Lexeme} → Begins (word (codes "print") ⨾ VIEW (record { name = printed_name; subs = subs })) tokens []
    → LINE (by_brackets (record { name = printed_name; subs = subs }) subs) tokens
printed_says printed_name None b =
    let a = cut b in
    let c = cut a.other in
    whole (then_begins a.one (subst (λ r. Begins (name printed_name) a.mid r) (nothing_ends c.other) c.one))
printed_says printed_name (Some subs) b = whole b

printed_line : (seen : RawView) (tokens mid rest : List Lexeme) (v : RawLine) → ended (printed seen) mid ≡ Some (v, rest) → Begins (word (codes "print") ⨾ VIEW seen) tokens mid
    → Finished LINE tokens rest v
unfolding read_end
printed_line seen tokens [] rest v e b =
    let same = some_same e in
    record { says = subst (λ f. LINE f tokens) (ap (λ p. p.0) same) (printed_says seen.name seen.subs b); none_left = sym (ap (λ p. p.1) same) }
printed_line seen tokens (t ∷ mid) rest v e b = absurd (cc)

pub print_sound : (tokens rest : List Lexeme) (v : RawLine) → read_print tokens ≡ Some (v, rest) → Finished LINE tokens rest v
unfolding read_print
print_sound tokens rest v e =
    let keyword = step (word_exact (codes "print")) e in
    let seen = step view_exact keyword.more in
    printed_line seen.value tokens seen.mid rest v seen.more (then_begins keyword.spelled seen.spelled)

bracketed_complete : (printed_name : Span) (subs : Option (List RawSub)) (tokens : List Lexeme)
    → LINE (line.PrintView (record { name = printed_name; subs = subs })) tokens → read_print tokens ≡ Some (line.PrintView (record { name = printed_name; subs = subs }), [])
unfolding read_print
bracketed_complete printed_name None tokens l = absurd (l.other)
bracketed_complete printed_name (Some subs) tokens l =
    let seen : RawView = record { name = printed_name; subs = Some subs } in
    let a = cut (line_begins (word (codes "print") ⨾ VIEW seen) l) in
    and_then_some _ ((word_exact (codes "print")).complete _ _ tt a.one tt)
    (and_then_some _ (view_exact.complete _ _ seen a.other (no_sign_at_end (codes "["))) (ends _))

pub print_view_complete : (seen : RawView) (tokens : List Lexeme) → LINE (line.PrintView seen) tokens → read_print tokens ≡ Some (line.PrintView seen, [])
print_view_complete seen tokens l = bracketed_complete seen.name seen.subs tokens l

pub print_name_complete : (printed_name : Span) (tokens : List Lexeme) → LINE (line.PrintName printed_name) tokens → read_print tokens ≡ Some (line.PrintName printed_name, [])
unfolding read_print
print_name_complete printed_name tokens l =
    let a = cut (line_begins (word (codes "print") ⨾ name printed_name) l) in
    and_then_some _ ((word_exact (codes "print")).complete _ _ tt a.one tt)
    (and_then_some _ (view_exact.complete _ _ (record { name = printed_name; subs = None }) (then_begins a.other (nothing_begins [])) (no_sign_at_end (codes "["))) (ends _))

pub block_sound : (tokens rest : List Lexeme) (v : RawLine) → read_block tokens ≡ Some (v, rest) → Finished LINE tokens rest v
unfolding read_block
block_sound tokens rest v e =
    let keyword = step (word_exact (codes "block")) e in finish LINE line.Block keyword.mid rest keyword.more keyword.spelled

pub block_complete : (tokens : List Lexeme) → LINE line.Block tokens → read_block tokens ≡ Some (line.Block, [])
unfolding read_block
block_complete tokens l = and_then_some _ ((word_exact (codes "block")).complete _ _ tt (line_begins (word (codes "block")) l) tt) (ends _)

pub repeat_sound : (tokens rest : List Lexeme) (v : RawLine) → read_repeat tokens ≡ Some (v, rest) → Finished LINE tokens rest v
unfolding read_repeat
repeat_sound tokens rest v e =
    let keyword = step (word_exact (codes "repeat")) e in
    let turns = step small_exact keyword.more in
    finish LINE _ turns.mid rest turns.more (then_begins keyword.spelled turns.spelled)

pub repeat_complete : (turns : ℤ) (tokens : List Lexeme) → LINE (line.Repeat turns) tokens → read_repeat tokens ≡ Some (line.Repeat turns, [])
unfolding read_repeat
repeat_complete turns tokens l =
    let a = cut (line_begins (word (codes "repeat") ⨾ SMALL turns) l) in
    and_then_some _ ((word_exact (codes "repeat")).complete _ _ tt a.one tt) (and_then_some _ (small_exact.complete _ _ turns a.other tt) (ends _))

pub repeat_end_sound : (tokens rest : List Lexeme) (v : RawLine) → read_repeat_end tokens ≡ Some (v, rest) → Finished LINE tokens rest v
unfolding read_repeat_end
repeat_end_sound tokens rest v e =
    let keyword = step (word_exact (codes "end")) e in finish LINE line.End keyword.mid rest keyword.more keyword.spelled

pub repeat_end_complete : (tokens : List Lexeme) → LINE line.End tokens → read_repeat_end tokens ≡ Some (line.End, [])
unfolding read_repeat_end
repeat_end_complete tokens l = and_then_some _ ((word_exact (codes "end")).complete _ _ tt (line_begins (word (codes "end")) l) tt) (ends _)
