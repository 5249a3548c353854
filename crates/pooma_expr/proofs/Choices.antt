-- The operations of a choice, whose jumps are written once what they pass over is there.
use Rattle.std.proofs.Common.{◌≡◌, ℕ, ◌+◌, ◌-◌, List, [], ◌∷◌, ◌++◌, length, sym, ap, ◌∙◌, arith, append_assoc, length-append}
use Rattle.std.specs.Prelude.{slice_set}
use Rattle.std.proofs.Math.Seq.{set-append_seam}
use Rattle.pooma_view.specs.Views.{Viewed}
use Rattle.pooma_expr.specs.declared.operation.Operation.{Operation}
use Rattle.pooma_expr.specs.declared.operation.Operation.TheVariants.{SkipIfZero, Skip}
use Rattle.pooma_expr.specs.declared.tree.Expr.{Expr}
use Rattle.pooma_expr.specs.declared.tree.Expr.TheOpen.{Expr-F}
use Rattle.pooma_expr.specs.declared.tree.Expr.TheVariants.{Where}
use Rattle.pooma_expr.specs.Code.{Emitted, choice_code, emitted_by, emitted}
use Rattle.pooma_expr.specs.Trees.{views_by, views_of}
use Rattle.pooma_expr.proofs.Trees.{fold-Where}

two_writes : (c a b : List Operation) (x y i j : Operation) → slice_set (slice_set (c ++ x ∷ (a ++ y ∷ b)) (length c) i) (length (c ++ i ∷ a)) j ≡ c ++ i ∷ (a ++ j ∷ b)
two_writes c a b x y i j =
    ap (λ l. slice_set l (length (c ++ i ∷ a)) j) (set-append_seam c x (a ++ y ∷ b) i ∙ sym (append_assoc c (i ∷ a) (y ∷ b)))
    ∙ set-append_seam (c ++ i ∷ a) y b j
    ∙ append_assoc c (i ∷ a) (j ∷ b)

pub written : (base test a b c1 c2 c3 c4 c5 : List Operation) (x y : Operation) (n1 n2 n3 : ℕ) → c1 ≡ base ++ test → n1 ≡ length c1 → c2 ≡ c1 ++ x ∷ [] → c3 ≡ c2 ++ a → n2 ≡ length c3 → c4 ≡ c3 ++ y ∷ [] → c5 ≡ c4 ++ b → n3 ≡ length c5 → slice_set (slice_set c5 n1 (SkipIfZero (n2 - n1))) n2 (Skip (n3 - n2 - 1)) ≡ base ++ choice_code test a b
written base test a b c1 c2 c3 c4 c5 x y n1 n2 n3 e1 m1 e2 e3 m2 e4 e5 m3 =
    let l2 = ap length e2 ∙ length-append c1 (x ∷ []) in
    let l3 = ap length e3 ∙ length-append c2 a in
    let l4 = ap length e4 ∙ length-append c3 (y ∷ []) in
    let l5 = ap length e5 ∙ length-append c4 b in
    let i = SkipIfZero (n2 - n1) in
    let j = Skip (n3 - n2 - 1) in
    let first : n2 - n1 ≡ length a + 1 = omega arith in
    let second : n3 - n2 - 1 ≡ length b = omega arith in
    let place : n2 ≡ length (c1 ++ i ∷ a) = omega (arith, length-append c1 (i ∷ a)) in
    let all : c5 ≡ (((c1 ++ x ∷ []) ++ a) ++ y ∷ []) ++ b = cc in
    let flat : (((c1 ++ x ∷ []) ++ a) ++ y ∷ []) ++ b ≡ c1 ++ x ∷ (a ++ y ∷ b) = simp append_assoc in
    ap (λ l. slice_set (slice_set l n1 i) n2 j) (all ∙ flat)
    ∙ ap (λ n. slice_set (slice_set (c1 ++ x ∷ (a ++ y ∷ b)) n i) n2 j) m1
    ∙ ap (λ n. slice_set (slice_set (c1 ++ x ∷ (a ++ y ∷ b)) (length c1) i) n j) place
    ∙ two_writes c1 a b x y i j
    ∙ ap (λ l. l ++ i ∷ (a ++ j ∷ b)) e1
    ∙ append_assoc base test (i ∷ (a ++ j ∷ b))
    ∙ ap (λ n. base ++ (test ++ SkipIfZero n ∷ (a ++ j ∷ b))) first
    ∙ ap (λ n. base ++ (test ++ SkipIfZero (length a + 1) ∷ (a ++ Skip n ∷ b))) second

pub choice_is : (e c a b c' a' b' : Expr) (k k1 k2 : ℕ) → e ≡ Where c a b → c' ≡ c → a' ≡ a → b' ≡ b → k1 ≡ (emitted c' k).next → k2 ≡ (emitted a' k1).next → choice_code (emitted c' k).operations (emitted a' k1).operations (emitted b' k2).operations ≡ (emitted e k).operations
choice_is e c a b c' a' b' k k1 k2 is ec ea eb e1 e2 =
    let whole : emitted (Where c a b) k ≡ emitted_by (Expr-F.Where (emitted c) (emitted a) (emitted b)) k = ap (λ (f : ℕ → Emitted). f k) (fold-Where (ℕ → Emitted) emitted_by c a b) in
    let first : emitted c' k ≡ emitted c k = ap (λ x. emitted x k) ec in
    let n1 : k1 ≡ (emitted c k).next = e1 ∙ ap (λ (x : Emitted). x.next) first in
    let second : emitted a' k1 ≡ emitted a (emitted c k).next = ap (λ x. emitted x k1) ea ∙ ap (emitted a) n1 in
    let n2 : k2 ≡ (emitted a (emitted c k).next).next = e2 ∙ ap (λ (x : Emitted). x.next) second in
    let third : emitted b' k2 ≡ emitted b (emitted a (emitted c k).next).next = ap (λ x. emitted x k2) eb ∙ ap (emitted b) n2 in
    ap (λ (x : Emitted). choice_code x.operations (emitted a' k1).operations (emitted b' k2).operations) first
    ∙ ap (λ (x : Emitted). choice_code (emitted c k).operations x.operations (emitted b' k2).operations) second
    ∙ ap (λ (x : Emitted). choice_code (emitted c k).operations (emitted a (emitted c k).next).operations x.operations) third
    ∙ sym (ap (λ x. (emitted x k).operations) is ∙ ap (λ (x : Emitted). x.operations) whole)

pub choice_views : (e c a b c' a' b' : Expr) (r r1 r2 r3 : List Viewed) → e ≡ Where c a b → c' ≡ c → a' ≡ a → b' ≡ b → r1 ≡ r ++ views_of c' → r2 ≡ r1 ++ views_of a' → r3 ≡ r2 ++ views_of b' → r3 ≡ r ++ views_of e
choice_views e c a b c' a' b' r r1 r2 r3 is ec ea eb e1 e2 e3 =
    let whole : views_of e ≡ views_of c ++ (views_of a ++ views_of b) = ap views_of is ∙ fold-Where (List Viewed) views_by c a b in
    let parts : r3 ≡ ((r ++ views_of c) ++ views_of a) ++ views_of b = cc in
    let flat : ((r ++ views_of c) ++ views_of a) ++ views_of b ≡ r ++ (views_of c ++ (views_of a ++ views_of b)) = simp append_assoc in
    parts ∙ flat ∙ ap (λ vs. r ++ vs) (sym whole)
