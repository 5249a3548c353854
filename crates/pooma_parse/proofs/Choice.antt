-- A line is read as the grammar says: its first word tells its form, but for a scalar and a reduction.
use Rattle.std.proofs.Common.{◌≡◌, ◌⊎◌, ℕ, Bool, true, false, List, [], Option, Some, None, refl, sym, ap, ◌∙◌, subst, inl, inr, codes, Contains, bytes_eq}
use Rattle.std.specs.List.{list_any}
use Rattle.pooma_text.specs.declared.span.Span.{Span}
use Rattle.pooma_parse.specs.declared.form.RawLine.{RawLine}
use Rattle.pooma_parse.specs.declared.form.RawLine.TheVariants as line
use Rattle.pooma_parse.specs.Forms.{LINE}
use Rattle.pooma_parse.specs.Languages.{Language, name, word, ◌⨾◌}
use Rattle.pooma_parse.specs.Names.{reserved_words}
use Rattle.pooma_parse.specs.Reader.{Reader, and_then, begins, begins_name, begins_word, either_of, expect, expect_word, read_array, read_assignment, read_block, read_brick, read_declaration, read_field, read_layout, read_line, read_name, read_print, read_reduction, read_repeat, read_repeat_end, read_scalar, read_scalar_head, read_statement, read_stencil, read_view}
use Rattle.pooma_parse.specs.Tokens.{Lexeme}
use Rattle.pooma_parse.proofs.Atoms.{among_contains, bytes_same, name_begins}
use Rattle.pooma_parse.proofs.Exact.{Begins, cut, if_false}
use Rattle.pooma_parse.proofs.LineForms.{Finished, array_complete, array_sound, assignment_complete, assignment_sound, block_complete, block_sound, brick_complete, brick_sound, field_complete, field_sound, layout_complete, layout_sound, line_begins, no_scalar, nothing_behind, print_name_complete, print_sound, print_view_complete, reduction_complete, reduction_sound, repeat_complete, repeat_end_complete, repeat_end_sound, repeat_sound, scalar_complete, scalar_sound, stencil_complete, stencil_sound}
use Rattle.pooma_parse.proofs.Parts.{other_word}
use Rattle.pooma_parse.proofs.Reductions.{none_first}

-- ---- what a keyword rules out

-- none of these words comes next
abbrev NoWord : List ℕ → List Lexeme → Type 0
NoWord text tokens = begins_word text tokens ≡ false

keyword_none : {A : Type 0} (text : List ℕ) (f : Unit {0} → Reader A) (tokens : List Lexeme) → NoWord text tokens → and_then (expect_word text tokens) f ≡ None
unfolding expect
keyword_none text f tokens e = none_first f (if_false _ e refl)

layout_none : (tokens : List Lexeme) → NoWord (codes "layout") tokens → read_layout tokens ≡ None
unfolding read_layout
layout_none tokens e = keyword_none (codes "layout") _ tokens e

brick_none : (tokens : List Lexeme) → NoWord (codes "brick") tokens → read_brick tokens ≡ None
unfolding read_brick
brick_none tokens e = keyword_none (codes "brick") _ tokens e

array_none : (tokens : List Lexeme) → NoWord (codes "array") tokens → read_array tokens ≡ None
unfolding read_array
array_none tokens e = keyword_none (codes "array") _ tokens e

field_none : (tokens : List Lexeme) → NoWord (codes "field") tokens → read_field tokens ≡ None
unfolding read_field
field_none tokens e = keyword_none (codes "field") _ tokens e

stencil_none : (tokens : List Lexeme) → NoWord (codes "stencil") tokens → read_stencil tokens ≡ None
unfolding read_stencil
stencil_none tokens e = keyword_none (codes "stencil") _ tokens e

scalar_none : (tokens : List Lexeme) → NoWord (codes "scalar") tokens → read_scalar tokens ≡ None
unfolding read_scalar read_scalar_head
scalar_none tokens e = none_first _ (keyword_none (codes "scalar") _ tokens e)

reduction_none : (tokens : List Lexeme) → NoWord (codes "scalar") tokens → read_reduction tokens ≡ None
unfolding read_reduction read_scalar_head
reduction_none tokens e = none_first _ (keyword_none (codes "scalar") _ tokens e)

print_none : (tokens : List Lexeme) → NoWord (codes "print") tokens → read_print tokens ≡ None
unfolding read_print
print_none tokens e = keyword_none (codes "print") _ tokens e

block_none : (tokens : List Lexeme) → NoWord (codes "block") tokens → read_block tokens ≡ None
unfolding read_block
block_none tokens e = keyword_none (codes "block") _ tokens e

repeat_none : (tokens : List Lexeme) → NoWord (codes "repeat") tokens → read_repeat tokens ≡ None
unfolding read_repeat
repeat_none tokens e = keyword_none (codes "repeat") _ tokens e

repeat_end_none : (tokens : List Lexeme) → NoWord (codes "end") tokens → read_repeat_end tokens ≡ None
unfolding read_repeat_end
repeat_end_none tokens e = keyword_none (codes "end") _ tokens e

-- ---- choices

skip : {A : Type 0} {o r z : Option A} → o ≡ None → r ≡ z → either_of o r ≡ z
skip {r = r} none e = ap (λ o. either_of o r) none ∙ e

take_it : {A : Type 0} {o : Option A} (r : Option A) {v : A} → o ≡ Some v → either_of o r ≡ Some v
take_it r e = ap (λ o. either_of o r) e

either_cases : {A : Type 0} (o r : Option A) {v : A} → either_of o r ≡ Some v → (o ≡ Some v) ⊎ (r ≡ Some v)
either_cases None r e = inr e
either_cases (Some x) r e = inl e

-- the words that begin the lines with a keyword, as tests
record NoDeclaration (tokens : List Lexeme) : Type 0 where
  no_layout : NoWord (codes "layout") tokens
  no_brick : NoWord (codes "brick") tokens
  no_array : NoWord (codes "array") tokens
  no_field : NoWord (codes "field") tokens
  no_stencil : NoWord (codes "stencil") tokens

declaration_none : (tokens : List Lexeme) → NoDeclaration tokens → read_declaration tokens ≡ None
unfolding read_declaration
declaration_none tokens w =
    skip (layout_none tokens w.no_layout) (skip (brick_none tokens w.no_brick) (skip (array_none tokens w.no_array)
    (skip (field_none tokens w.no_field) (stencil_none tokens w.no_stencil))))

declared : (tokens : List Lexeme) (v : RawLine × List Lexeme) → read_declaration tokens ≡ Some v → read_line tokens ≡ Some v
unfolding read_line
declared tokens v e = take_it _ e

stated : (tokens : List Lexeme) {r : Option (RawLine × List Lexeme)} → NoDeclaration tokens → read_statement tokens ≡ r → read_line tokens ≡ r
unfolding read_line
stated tokens none e = skip (declaration_none tokens none) e

-- a line that begins with a word of a statement is no declaration
no_declaration : (text : List ℕ) → bytes_eq text (codes "layout") ≡ false → bytes_eq text (codes "brick") ≡ false → bytes_eq text (codes "array") ≡ false
    → bytes_eq text (codes "field") ≡ false → bytes_eq text (codes "stencil") ≡ false → {tokens rest : List Lexeme} → Begins (word text) tokens rest → NoDeclaration tokens
no_declaration text a b c d f w = record {
  no_layout = other_word text (codes "layout") a w;
  no_brick = other_word text (codes "brick") b w;
  no_array = other_word text (codes "array") c w;
  no_field = other_word text (codes "field") d w;
  no_stencil = other_word text (codes "stencil") f w;
}

-- a name is no keyword
false_or_true : (b : Bool) → (b ≡ true → ⊥) → b ≡ false
false_or_true true f = absurd (f refl)
false_or_true false f = refl

name_no_word : (text : List ℕ) → list_any (bytes_eq text) reserved_words ≡ true → {tokens rest : List Lexeme} {span : Span} → Begins (name span) tokens rest → NoWord text tokens
unfolding begins
name_no_word text reserved {span = span} b =
    let at = name_begins b in
    let apart : bytes_eq at.0 text ≡ false = false_or_true (bytes_eq at.0 text) (λ same.
    at.1 (subst (λ t. Contains reserved_words t) (sym (bytes_same at.0 text same)) (among_contains reserved_words text reserved))) in
    ap (begins_word text) at.2 ∙ apart

-- the keyword of a line
record Keyword (text : List ℕ) (tokens : List Lexeme) : Type 0 where
  rest : List Lexeme
  first : Begins (word text) tokens rest

keyword : (text : List ℕ) (B : Language) (tokens : List Lexeme) → (word text ⨾ B) tokens → Keyword text tokens
keyword text B tokens l = record { rest = (cut (line_begins (word text ⨾ B) l)).mid; first = (cut (line_begins (word text ⨾ B) l)).one }

keyword_alone : (text : List ℕ) (tokens : List Lexeme) → word text tokens → Keyword text tokens
keyword_alone text tokens l = record { rest = []; first = line_begins (word text) l }

-- ---- what is read is the form, and nothing else is

statement_sound : (tokens rest : List Lexeme) (v : RawLine) → read_statement tokens ≡ Some (v, rest) → Finished LINE tokens rest v
unfolding read_statement
statement_sound tokens rest v e = elim (either_cases (read_scalar tokens) _ e) [
  | inl so ↦ scalar_sound tokens rest v so
  | inr a ↦ elim (either_cases (read_reduction tokens) _ a) [
    | inl so ↦ reduction_sound tokens rest v so
    | inr b ↦ elim (either_cases (read_print tokens) _ b) [
      | inl so ↦ print_sound tokens rest v so
      | inr c ↦ elim (either_cases (read_block tokens) _ c) [
        | inl so ↦ block_sound tokens rest v so
        | inr d ↦ elim (either_cases (read_repeat tokens) _ d) [
          | inl so ↦ repeat_sound tokens rest v so
          | inr f ↦ elim (either_cases (read_repeat_end tokens) _ f) [
            | inl so ↦ repeat_end_sound tokens rest v so
            | inr so ↦ assignment_sound tokens rest v so
          ]
        ]
      ]
    ]
  ]
]

declaration_sound : (tokens rest : List Lexeme) (v : RawLine) → read_declaration tokens ≡ Some (v, rest) → Finished LINE tokens rest v
unfolding read_declaration
declaration_sound tokens rest v e = elim (either_cases (read_layout tokens) _ e) [
  | inl so ↦ layout_sound tokens rest v so
  | inr a ↦ elim (either_cases (read_brick tokens) _ a) [
    | inl so ↦ brick_sound tokens rest v so
    | inr b ↦ elim (either_cases (read_array tokens) _ b) [
      | inl so ↦ array_sound tokens rest v so
      | inr c ↦ elim (either_cases (read_field tokens) _ c) [
        | inl so ↦ field_sound tokens rest v so
        | inr so ↦ stencil_sound tokens rest v so
      ]
    ]
  ]
]

pub line_sound : (tokens rest : List Lexeme) (v : RawLine) → read_line tokens ≡ Some (v, rest) → LINE v tokens
unfolding read_line
line_sound tokens rest v e = elim (either_cases (read_declaration tokens) _ e) [
  | inl so ↦ (declaration_sound tokens rest v so).says
  | inr so ↦ (statement_sound tokens rest v so).says
]

-- ---- the form of a line is what is read

brick_line : (v : RawLine) (tokens : List Lexeme) → Keyword (codes "brick") tokens → read_brick tokens ≡ Some (v, []) → read_line tokens ≡ Some (v, [])
unfolding read_declaration
brick_line v tokens k e = declared tokens _ (skip (layout_none tokens (other_word (codes "brick") (codes "layout") refl k.first)) (take_it _ e))

array_line : (v : RawLine) (tokens : List Lexeme) → Keyword (codes "array") tokens → read_array tokens ≡ Some (v, []) → read_line tokens ≡ Some (v, [])
unfolding read_declaration
array_line v tokens k e = declared tokens _ (skip (layout_none tokens (other_word (codes "array") (codes "layout") refl k.first))
    (skip (brick_none tokens (other_word (codes "array") (codes "brick") refl k.first)) (take_it _ e)))

field_line : (v : RawLine) (tokens : List Lexeme) → Keyword (codes "field") tokens → read_field tokens ≡ Some (v, []) → read_line tokens ≡ Some (v, [])
unfolding read_declaration
field_line v tokens k e = declared tokens _ (skip (layout_none tokens (other_word (codes "field") (codes "layout") refl k.first))
    (skip (brick_none tokens (other_word (codes "field") (codes "brick") refl k.first))
    (skip (array_none tokens (other_word (codes "field") (codes "array") refl k.first)) (take_it _ e))))

stencil_line : (v : RawLine) (tokens : List Lexeme) → Keyword (codes "stencil") tokens → read_stencil tokens ≡ Some (v, []) → read_line tokens ≡ Some (v, [])
unfolding read_declaration
stencil_line v tokens k e = declared tokens _ (skip (layout_none tokens (other_word (codes "stencil") (codes "layout") refl k.first))
    (skip (brick_none tokens (other_word (codes "stencil") (codes "brick") refl k.first))
    (skip (array_none tokens (other_word (codes "stencil") (codes "array") refl k.first))
    (skip (field_none tokens (other_word (codes "stencil") (codes "field") refl k.first)) e))))

scalar_line : (v : RawLine) (tokens : List Lexeme) → Keyword (codes "scalar") tokens → read_scalar tokens ≡ Some (v, []) → read_line tokens ≡ Some (v, [])
unfolding read_statement
scalar_line v tokens k e = stated tokens (no_declaration (codes "scalar") refl refl refl refl refl k.first) (take_it _ e)

reduction_line : (v : RawLine) (tokens : List Lexeme) → Keyword (codes "scalar") tokens → read_scalar tokens ≡ None → read_reduction tokens ≡ Some (v, []) → read_line tokens ≡ Some (v, [])
unfolding read_statement
reduction_line v tokens k none e = stated tokens (no_declaration (codes "scalar") refl refl refl refl refl k.first) (skip none (take_it _ e))

-- what no scalar's line begins with
no_scalars : (tokens : List Lexeme) {r : Option (RawLine × List Lexeme)} (o : Option (RawLine × List Lexeme)) → NoWord (codes "scalar") tokens → o ≡ r
    → either_of (read_scalar tokens) (either_of (read_reduction tokens) o) ≡ r
no_scalars tokens o none e = skip (scalar_none tokens none) (skip (reduction_none tokens none) e)

print_line : (v : RawLine) (tokens : List Lexeme) → Keyword (codes "print") tokens → read_print tokens ≡ Some (v, []) → read_line tokens ≡ Some (v, [])
unfolding read_statement
print_line v tokens k e = stated tokens (no_declaration (codes "print") refl refl refl refl refl k.first)
    (no_scalars tokens _ (other_word (codes "print") (codes "scalar") refl k.first) (take_it _ e))

block_line : (v : RawLine) (tokens : List Lexeme) → Keyword (codes "block") tokens → read_block tokens ≡ Some (v, []) → read_line tokens ≡ Some (v, [])
unfolding read_statement
block_line v tokens k e = stated tokens (no_declaration (codes "block") refl refl refl refl refl k.first)
    (no_scalars tokens _ (other_word (codes "block") (codes "scalar") refl k.first)
    (skip (print_none tokens (other_word (codes "block") (codes "print") refl k.first)) (take_it _ e)))

repeat_line : (v : RawLine) (tokens : List Lexeme) → Keyword (codes "repeat") tokens → read_repeat tokens ≡ Some (v, []) → read_line tokens ≡ Some (v, [])
unfolding read_statement
repeat_line v tokens k e = stated tokens (no_declaration (codes "repeat") refl refl refl refl refl k.first)
    (no_scalars tokens _ (other_word (codes "repeat") (codes "scalar") refl k.first)
    (skip (print_none tokens (other_word (codes "repeat") (codes "print") refl k.first))
    (skip (block_none tokens (other_word (codes "repeat") (codes "block") refl k.first)) (take_it _ e))))

end_line : (v : RawLine) (tokens : List Lexeme) → Keyword (codes "end") tokens → read_repeat_end tokens ≡ Some (v, []) → read_line tokens ≡ Some (v, [])
unfolding read_statement
end_line v tokens k e = stated tokens (no_declaration (codes "end") refl refl refl refl refl k.first)
    (no_scalars tokens _ (other_word (codes "end") (codes "scalar") refl k.first)
    (skip (print_none tokens (other_word (codes "end") (codes "print") refl k.first))
    (skip (block_none tokens (other_word (codes "end") (codes "block") refl k.first))
    (skip (repeat_none tokens (other_word (codes "end") (codes "repeat") refl k.first)) (take_it _ e)))))

-- what begins with no keyword is an assignment, or nothing
record NoKeyword (tokens : List Lexeme) : Type 0 where
  no_declarations : NoDeclaration tokens
  no_scalar_word : NoWord (codes "scalar") tokens
  no_print : NoWord (codes "print") tokens
  no_block : NoWord (codes "block") tokens
  no_repeat : NoWord (codes "repeat") tokens
  no_end : NoWord (codes "end") tokens

other_line : (tokens : List Lexeme) {r : Option (RawLine × List Lexeme)} → NoKeyword tokens → read_assignment tokens ≡ r → read_line tokens ≡ r
unfolding read_statement
other_line tokens k e = stated tokens k.no_declarations (no_scalars tokens _ k.no_scalar_word
    (skip (print_none tokens k.no_print) (skip (block_none tokens k.no_block) (skip (repeat_none tokens k.no_repeat) (skip (repeat_end_none tokens k.no_end) e)))))

named_line : {span : Span} {tokens rest : List Lexeme} → Begins (name span) tokens rest → NoKeyword tokens
named_line b = record {
  no_declarations = record {
    no_layout = name_no_word (codes "layout") refl b;
    no_brick = name_no_word (codes "brick") refl b;
    no_array = name_no_word (codes "array") refl b;
    no_field = name_no_word (codes "field") refl b;
    no_stencil = name_no_word (codes "stencil") refl b;
  };
  no_scalar_word = name_no_word (codes "scalar") refl b;
  no_print = name_no_word (codes "print") refl b;
  no_block = name_no_word (codes "block") refl b;
  no_repeat = name_no_word (codes "repeat") refl b;
  no_end = name_no_word (codes "end") refl b;
}

empty_line : NoKeyword []
empty_line = record {
  no_declarations = record {
    no_layout = nothing_behind (codes "layout");
    no_brick = nothing_behind (codes "brick");
    no_array = nothing_behind (codes "array");
    no_field = nothing_behind (codes "field");
    no_stencil = nothing_behind (codes "stencil");
  };
  no_scalar_word = nothing_behind (codes "scalar");
  no_print = nothing_behind (codes "print");
  no_block = nothing_behind (codes "block");
  no_repeat = nothing_behind (codes "repeat");
  no_end = nothing_behind (codes "end");
}

-- no form has no token
pub nothing_read : read_line [] ≡ None
unfolding read_assignment read_view read_name begins_name
nothing_read = other_line [] empty_line refl

pub line_complete : (v : RawLine) (tokens : List Lexeme) → LINE v tokens → read_line tokens ≡ Some (v, [])
unfolding read_declaration
line_complete (line.Layout layout domain cutting internal external) tokens l = declared tokens _ (take_it _ (layout_complete layout domain cutting internal external tokens l))
line_complete (line.Brick brick domain) tokens l = brick_line _ tokens (keyword (codes "brick") _ tokens l) (brick_complete brick domain tokens l)
line_complete (line.Array array layout) tokens l = array_line _ tokens (keyword (codes "array") _ tokens l) (array_complete array layout tokens l)
line_complete (line.Field field layout faces) tokens l = field_line _ tokens (keyword (codes "field") _ tokens l) (field_complete field layout faces tokens l)
line_complete (line.Stencil stencil lower upper body) tokens l = stencil_line _ tokens (keyword (codes "stencil") _ tokens l) (stencil_complete stencil lower upper body tokens l)
line_complete (line.Assign target o value) tokens l =
    other_line tokens (named_line (cut (cut (line_begins _ l)).one).one) (assignment_complete target o value tokens l)
line_complete (line.Scalar scalar value) tokens l = scalar_line _ tokens (keyword (codes "scalar") _ tokens l) (scalar_complete scalar value tokens l)
line_complete (line.Reduce scalar reduction value) tokens l =
    reduction_line _ tokens (keyword (codes "scalar") _ tokens l) (no_scalar scalar reduction value tokens l) (reduction_complete scalar reduction value tokens l)
line_complete (line.PrintView seen) tokens l = print_line _ tokens (keyword (codes "print") _ tokens l) (print_view_complete seen tokens l)
line_complete (line.PrintName printed) tokens l = print_line _ tokens (keyword (codes "print") _ tokens l) (print_name_complete printed tokens l)
line_complete line.Block tokens l = block_line _ tokens (keyword_alone (codes "block") tokens l) (block_complete tokens l)
line_complete (line.Repeat turns) tokens l = repeat_line _ tokens (keyword (codes "repeat") _ tokens l) (repeat_complete turns tokens l)
line_complete line.End tokens l = end_line _ tokens (keyword_alone (codes "end") tokens l) (repeat_end_complete tokens l)
