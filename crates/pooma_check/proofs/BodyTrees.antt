-- The body of a stencil as a tree has the offsets of its line.
use Rattle.std.proofs.Common.{◌≡◌, ℤ, pos, List, ◌++◌, sym, ap, ◌∙◌}
use Rattle.pooma_parse.specs.declared.form.RawExpr.{RawExpr}
use Rattle.pooma_parse.specs.declared.form.RawExpr.TheOpen.{RawExpr-F}
use Rattle.pooma_stencil.specs.declared.body.Body.{Body}
use Rattle.pooma_stencil.specs.declared.body.Body.TheFolds.{fold-roll-Body}
use Rattle.pooma_stencil.specs.declared.body.Body.TheOpen.{Body-F}
use Rattle.pooma_stencil.specs.declared.body.Body.TheViews.{roll-Body}
use Rattle.pooma_stencil.specs.Bodies.{offsets_of}
use Rattle.pooma_stencil.specs.Bodies as tree
use Rattle.pooma_script.specs.Bodies.{body_by, body_of, offsets_by, offsets_in}
use Rattle.pooma_script.specs.Operators.{op_of}
use Rattle.pooma_script.proofs.Expressions.{by_form, fold-Abs, fold-Apply, fold-At, fold-Bin, fold-Index, fold-Neg, fold-Number, fold-View, fold-Where}

abbrev HasOffsets : RawExpr → Type 0
HasOffsets e = offsets_of (body_of e) ≡ offsets_in e

abbrev step : RawExpr-F Body → Body
step b = roll-Body (body_by b)

pub offsets_of_body : (e : RawExpr) → HasOffsets e
offsets_of_body = by_form HasOffsets (record {
  number = λ n. ap offsets_of (fold-Number Body step n) ∙ fold-roll-Body (List (List ℤ)) tree.offsets_by (Body-F.Literal n) ∙ sym (fold-Number (List (List ℤ)) offsets_by n);
  index = λ axis. ap offsets_of (fold-Index Body step axis) ∙ fold-roll-Body (List (List ℤ)) tree.offsets_by (Body-F.Literal (pos 0)) ∙ sym (fold-Index (List (List ℤ)) offsets_by axis);
  view = λ seen. ap offsets_of (fold-View Body step seen) ∙ fold-roll-Body (List (List ℤ)) tree.offsets_by (Body-F.Literal (pos 0)) ∙ sym (fold-View (List (List ℤ)) offsets_by seen);
  apply = λ stencil seen. ap offsets_of (fold-Apply Body step stencil seen) ∙ fold-roll-Body (List (List ℤ)) tree.offsets_by (Body-F.Literal (pos 0))
      ∙ sym (fold-Apply (List (List ℤ)) offsets_by stencil seen);
  at = λ offset. ap offsets_of (fold-At Body step offset) ∙ fold-roll-Body (List (List ℤ)) tree.offsets_by (Body-F.At offset) ∙ sym (fold-At (List (List ℤ)) offsets_by offset);
  neg = λ a p. ap offsets_of (fold-Neg Body step a) ∙ fold-roll-Body (List (List ℤ)) tree.offsets_by (Body-F.Neg (body_of a)) ∙ p ∙ sym (fold-Neg (List (List ℤ)) offsets_by a);
  abs = λ a p. ap offsets_of (fold-Abs Body step a) ∙ fold-roll-Body (List (List ℤ)) tree.offsets_by (Body-F.Abs (body_of a)) ∙ p ∙ sym (fold-Abs (List (List ℤ)) offsets_by a);
  bin = λ op a b p q. ap offsets_of (fold-Bin Body step op a b) ∙ fold-roll-Body (List (List ℤ)) tree.offsets_by (Body-F.Bin (op_of op) (body_of a) (body_of b))
      ∙ ap (λ l. l ++ offsets_of (body_of b)) p ∙ ap (λ l. offsets_in a ++ l) q ∙ sym (fold-Bin (List (List ℤ)) offsets_by op a b);
  choice = λ c a b r p q. ap offsets_of (fold-Where Body step c a b) ∙ fold-roll-Body (List (List ℤ)) tree.offsets_by (Body-F.Where (body_of c) (body_of a) (body_of b))
      ∙ ap (λ l. l ++ (offsets_of (body_of a) ++ offsets_of (body_of b))) r
      ∙ ap (λ l. offsets_in c ++ (l ++ offsets_of (body_of b))) p ∙ ap (λ l. offsets_in c ++ (offsets_in a ++ l)) q
      ∙ sym (fold-Where (List (List ℤ)) offsets_by c a b);
})
