-- The forms of a line.
use Rattle.std.specs.Prelude.{◌≡◌, ℕ, ◌≤◌, List, [], ◌∷◌, codes, Contains, Option, None, Some}
use Rattle.pooma_text.specs.declared.span.Span.{Span}
use Rattle.pooma_parse.specs.declared.expression.Place.{Place}
use Rattle.pooma_parse.specs.declared.expression.Place.TheVariants.{InBody, InLine}
use Rattle.pooma_parse.specs.declared.form.RawExpr.{RawExpr}
use Rattle.pooma_parse.specs.declared.form.RawLine.{RawLine}
use Rattle.pooma_parse.specs.declared.form.RawLine.TheVariants as line
use Rattle.pooma_parse.specs.declared.form.RawSub.{RawSub}
use Rattle.pooma_parse.specs.declared.form.RawView.{RawView}
use Rattle.pooma_parse.specs.Expressions.{EXPR, Says, nesting}
use Rattle.pooma_parse.specs.Languages.{Language, SMALL, listed, name, parens, sign, word, ◌⨾◌}
use Rattle.pooma_parse.specs.Lists.{BOX, CUTTING, GUARDS, SMALLS, UPDATER, VIEW, assign_text}
use Rattle.pooma_parse.specs.Tokens.{word_token}

-- so many parentheses of PRIMARY and minuses of UNARY may stand round a token
abbrev pub MOST_NESTING : ℕ
MOST_NESTING = 64

-- an expression that is not nested deeper than that
abbrev pub EXPRESSION : Place → RawExpr → Language
EXPRESSION place whole tokens = (says : Says place EXPR tokens whole) × (nesting says ≤ MOST_NESTING)

-- RED
abbrev pub reductions : List (List ℕ)
reductions = codes "sum" ∷ codes "min" ∷ codes "max" ∷ codes "all" ∷ codes "any" ∷ codes "count" ∷ codes "bitand" ∷ codes "bitor" ∷ []

-- a reduction's word, which stands at this part of the line
abbrev pub RED : Span → Language
RED span tokens = (text : List ℕ) × Contains reductions text × (tokens ≡ word_token text span ∷ [])

-- a VIEW with brackets
abbrev pub BRACKETED : RawView → Option (List RawSub) → Language
BRACKETED seen None tokens = ⊥
BRACKETED seen (Some subs) tokens = VIEW seen tokens

-- the tokens of a line that say this
abbrev pub LINE : RawLine → Language
LINE (line.Layout layout domain cutting internal external) =
    word (codes "layout") ⨾ name layout ⨾ BOX domain ⨾ CUTTING cutting ⨾ GUARDS internal external
LINE (line.Brick brick domain) = word (codes "brick") ⨾ name brick ⨾ BOX domain
LINE (line.Array array layout) = word (codes "array") ⨾ name array ⨾ word (codes "on") ⨾ name layout
LINE (line.Field field layout faces) =
    word (codes "field") ⨾ name field ⨾ word (codes "on") ⨾ name layout ⨾ word (codes "faces") ⨾ listed UPDATER faces
LINE (line.Stencil stencil lower upper body) =
    word (codes "stencil") ⨾ name stencil ⨾ word (codes "lower") ⨾ SMALLS lower ⨾ word (codes "upper") ⨾ SMALLS upper
    ⨾ sign (codes "=") ⨾ EXPRESSION InBody body
LINE (line.Assign target op value) = VIEW target ⨾ sign (assign_text op) ⨾ EXPRESSION InLine value
LINE (line.Scalar scalar value) = word (codes "scalar") ⨾ name scalar ⨾ sign (codes "=") ⨾ EXPRESSION InLine value
LINE (line.Reduce scalar reduction value) =
    word (codes "scalar") ⨾ name scalar ⨾ sign (codes "=") ⨾ RED reduction ⨾ parens (EXPRESSION InLine value)
LINE (line.PrintView seen) = word (codes "print") ⨾ BRACKETED seen seen.subs
LINE (line.PrintName printed) = word (codes "print") ⨾ name printed
LINE line.Block = word (codes "block")
LINE (line.Repeat turns) = word (codes "repeat") ⨾ SMALL turns
LINE line.End = word (codes "end")
