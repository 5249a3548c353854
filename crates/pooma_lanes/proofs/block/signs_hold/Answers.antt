use Rattle.std.proofs.Common.{◌≤◌, ℕ, List, T, sym, ◌∙◌, subst, refl, length, replicate, w64, of_z, map, arith, eqb→eq}
use lib.ListN.{length-map}
use Rattle.pooma_lanes.proofs.Marks.{signs_are, mask_clear, not_twice}
use Rattle.pooma_lanes.proofs.block.signs_hold.Goals as goal

pub returns : goal.returns
returns c holds k lt =
    let t = c.args.total in
    let x = c.args.a in
    let y = c.args.b in
    let total = c.requires.total in
    let left = c.requires.left in
    let right = c.requires.right in
    let zeros : List ℕ = replicate 8 0 in
    let few : length (map (of_z w64) t) ≤ 64 = omega (arith, length-map t (of_z w64), total.count) in
    let clear = mask_clear (map (of_z w64) t) (map (of_z w64) x) (map (of_z w64) y) zeros few (eqb→eq _ _ (subst T (sym (not_twice _ holds)) tt)) in
    signs_are t x y zeros (left.count ∙ sym total.count) (right.count ∙ sym total.count) (sym total.count)
    (refl, (refl, (refl, (refl, (refl, (refl, (refl, (refl, tt)))))))) total.fit left.fit right.fit clear k (omega (arith, lt, total.count))
