-- The body of a stencil, as its line has it.
use Rattle.std.specs.Prelude.{ℕ, ◌+◌, max, ℤ, pos, List, [], ◌∷◌, ◌++◌}
use Rattle.pooma_parse.specs.declared.form.RawExpr.{RawExpr, fold-RawExpr}
use Rattle.pooma_parse.specs.declared.form.RawExpr.TheOpen.{RawExpr-F}
use Rattle.pooma_stencil.specs.declared.body.Body.{Body}
use Rattle.pooma_stencil.specs.declared.body.Body.TheOpen.{Body-F}
use Rattle.pooma_stencil.specs.declared.body.Body.TheViews.{roll-Body}
use Rattle.pooma_stencil.specs.Stencils.{Stenciled}
use Rattle.pooma_script.specs.Operators.{op_of}

abbrev pub offsets_by : RawExpr-F (List (List ℤ)) → List (List ℤ)
offsets_by (RawExpr-F.At offset) = offset ∷ []
offsets_by (RawExpr-F.Neg a) = a
offsets_by (RawExpr-F.Abs a) = a
offsets_by (RawExpr-F.Bin op a b) = a ++ b
offsets_by (RawExpr-F.Where c a b) = c ++ (a ++ b)
offsets_by other = []

-- the offsets at which a body reads its view, in the order of the text
abbrev pub offsets_in : RawExpr → List (List ℤ)
offsets_in = fold-RawExpr (List (List ℤ)) offsets_by

abbrev pub depth_by : RawExpr-F ℕ → ℕ
depth_by (RawExpr-F.Neg a) = a + 1
depth_by (RawExpr-F.Abs a) = a + 1
depth_by (RawExpr-F.Bin op a b) = max a b + 1
depth_by (RawExpr-F.Where c a b) = max c (max a b) + 1
depth_by other = 1

-- how deep a body is: a leaf is 1
abbrev pub depth_in : RawExpr → ℕ
depth_in = fold-RawExpr ℕ depth_by

abbrev pub body_by : RawExpr-F Body → Body-F Body
body_by (RawExpr-F.Number n) = Body-F.Literal n
body_by (RawExpr-F.At offset) = Body-F.At offset
body_by (RawExpr-F.Neg a) = Body-F.Neg a
body_by (RawExpr-F.Abs a) = Body-F.Abs a
body_by (RawExpr-F.Bin op a b) = Body-F.Bin (op_of op) a b
body_by (RawExpr-F.Where c a b) = Body-F.Where c a b
body_by other = Body-F.Literal (pos 0)

-- the body as a tree; the grammar lets it have no names and no `index`
abbrev pub body_of : RawExpr → Body
body_of = fold-RawExpr Body (λ b. roll-Body (body_by b))

-- what stands for a stencil that is not there
abbrev pub no_stencil : Stenciled
no_stencil = record { lower = []; upper = []; body = roll-Body (Body-F.Literal (pos 0)) }
