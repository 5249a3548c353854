use Rattle.std.proofs.Common.{arith, ◌≡◌, true, false, sym, ◌∙◌}
use Rattle.std.proofs.lemmas.Bool.{eqb-true}
use Rattle.std.proofs.lemmas.Int.{ints}
use Rattle.pooma_domain.specs.Cells.{interval}
use Rattle.pooma_domain.proofs.BoxSets.{Holds}
use Rattle.pooma_domain.proofs.PaddedBox.{in_padded, iff_along}
use Rattle.pooma_domain.proofs.boxes.BoxN.contains.Goals as goal
use Rattle.pooma_domain.proofs.boxes.BoxN.contains.Goals.{then-self-c, else-self-c, then-holds, else-holds}

pub returns-then-holds-2 : goal.returns-then-holds-2
returns-then-holds-2 c =
    rw (← c.self.view_is, ← c.c.view_is)
    (iff_along
    (in_padded _ _ _ _ _ _ _ _ c.self.invariant c.c.invariant)
    (elim c.if-holds.branch [
      | then-holds w ↦ elim c.if-self-c.branch [
        | then-self-c v ↦
            let x_true : v.holds.result ≡ true = sym v.value-is ∙ w.if-holds.true in
            let y_true : w.holds-then-holds.result ≡ true = sym w.value-is ∙ c.if-holds-2.true in
            let on_x : Holds (interval c.self.inside.x.first c.self.inside.x.last) c.c.inside.x =
            let h = v.holds.ensures.0 x_true in (omega (arith, ints, h.0), omega (arith, ints, h.1)) in
            let on_y : Holds (interval c.self.inside.y.first c.self.inside.y.last) c.c.inside.y =
            let h = w.holds-then-holds.ensures.0 y_true in (omega (arith, ints, h.0), omega (arith, ints, h.1)) in (
              λ t. (v.if-self-c.true, on_x, on_y, (let h = c.holds-then-holds-2.ensures.0 t in (omega (arith, ints, h.0), omega (arith, ints, h.1)))),
              λ h. c.holds-then-holds-2.ensures.1 (let on_z = h.3 in (omega (arith, ints, on_z.0), omega (arith, ints, on_z.1))),
            )
        | else-self-c v ↦ absurd (v.if-self-c.false (eqb-true _ _ (sym v.value-is ∙ w.if-holds.true)))
      ]
      | else-holds w ↦ absurd (let e : true ≡ false = sym c.if-holds-2.true ∙ w.value-is ∙ w.if-holds.false in cc)
    ]))

pub returns-else-holds-2 : goal.returns-else-holds-2
returns-else-holds-2 c =
    rw (← c.self.view_is, ← c.c.view_is)
    (iff_along (in_padded _ _ _ _ _ _ _ _ c.self.invariant c.c.invariant) (grind (arith, ints)))
