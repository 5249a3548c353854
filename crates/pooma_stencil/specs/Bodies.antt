-- The body of a stencil: its offsets, how deep it is, and its value where the numbers at its offsets are known.
use Rattle.std.specs.Prelude.{ℕ, ◌+◌, max, ℤ, pos, neg_ℤ, unsigned_abs, if◌then◌else◌, Ok, List, [], ◌∷◌, ◌++◌}
use Rattle.std.specs.Ordering.{int_eq}
use Rattle.pooma_expr.specs.Values.{Checked, exact, and_then, result_of}
use Rattle.pooma_stencil.specs.declared.body.Body.{Body}
use Rattle.pooma_stencil.specs.declared.body.Body.TheOpen.{Body-F}
use Rattle.pooma_stencil.specs.declared.body.Body.TheFolds.{fold-Body}

abbrev pub offsets_by : Body-F (List (List ℤ)) → List (List ℤ)
offsets_by (Body-F.Literal x) = []
offsets_by (Body-F.At o) = o ∷ []
offsets_by (Body-F.Neg a) = a
offsets_by (Body-F.Abs a) = a
offsets_by (Body-F.Bin o a b) = a ++ b
offsets_by (Body-F.Where c a b) = c ++ (a ++ b)

-- the offsets at which a body reads its view, in the order of the text
abbrev pub offsets_of : Body → List (List ℤ)
offsets_of = fold-Body (List (List ℤ)) offsets_by

abbrev pub depth_by : Body-F ℕ → ℕ
depth_by (Body-F.Neg a) = a + 1
depth_by (Body-F.Abs a) = a + 1
depth_by (Body-F.Bin o a b) = max a b + 1
depth_by (Body-F.Where c a b) = max c (max a b) + 1
depth_by e = 1

-- how deep a body is: a leaf is 1
abbrev pub body_depth : Body → ℕ
body_depth = fold-Body ℕ depth_by

-- the value of a body, where those of its operands are known
abbrev pub body_value_by : (List ℤ → ℤ) → Body-F Checked → Checked
body_value_by at (Body-F.Literal x) = Ok x
body_value_by at (Body-F.At o) = Ok (at o)
body_value_by at (Body-F.Neg a) = and_then a (λ x. exact (neg_ℤ x))
body_value_by at (Body-F.Abs a) = and_then a (λ x. exact (pos (unsigned_abs x)))
body_value_by at (Body-F.Bin o a b) = and_then a (λ x. and_then b (λ y. result_of o x y))
body_value_by at (Body-F.Where c a b) = and_then c (λ x. if int_eq x (pos 0) then b else a)

-- the value of a body, where its view has these numbers at the offsets: the number, or the fault that is met first
abbrev pub body_value : (List ℤ → ℤ) → Body → Checked
body_value at = fold-Body Checked (body_value_by at)
