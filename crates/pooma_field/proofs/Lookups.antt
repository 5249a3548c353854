-- Looking up by the greatest axis.
use Rattle.std.proofs.Common.{refl, sym, ◌∙◌, arith}
use Rattle.std.specs.Prelude.{◌≡◌, ℕ, zero, suc, ℤ, Bool, Option, None, Some, List, [], ◌∷◌, slice_get, slice_set}
use Rattle.pooma_domain.specs.Cells.{Interval, IsIn}
use Rattle.pooma_field.specs.declared.faces.Ends.{Ends}
use Rattle.pooma_field.specs.Faces.{facing}
use Rattle.pooma_field.specs.Look.{along, along_all, looked_up}
use Rattle.pooma_field.specs.Shapes.{slab_axes}
use Rattle.pooma_field.specs.Updaters.{updated}
use Rattle.pooma_field.proofs.AlongAxes.{along_inside, along_outside, updated_by_inside}
use Rattle.pooma_field.proofs.SlabCells.{AreAround, later_around, first_around, beyond_near}

-- inside on every axis a cell has its own number
pub looked_up_inside : (axes : List Interval) (faces : List Ends) (numbers : List ℤ → ℤ) (c : List ℤ) → IsIn axes c → along_all axes faces numbers c ≡ numbers c
looked_up_inside [] faces numbers c h = refl
looked_up_inside (axis ∷ axes) [] numbers c h = refl
looked_up_inside (axis ∷ axes) (ends ∷ faces) numbers [] h = refl
looked_up_inside (axis ∷ axes) (ends ∷ faces) numbers (x ∷ xs) h =
    looked_up_inside axes faces (λ rest. along axis ends (λ y. numbers (y ∷ rest)) x) xs h.2
    ∙ along_inside axis ends (λ y. numbers (y ∷ xs)) x (record { low = h.0; high = h.1 })

-- a cell of a slab goes by the slab's axis
pub looked_up_outside : (high : Bool) (n : ℕ) (axes total : List Interval) (faces : List Ends) (numbers : List ℤ → ℤ) (c : List ℤ) (axis : Interval) (ends : Ends) (x : ℤ) → AreAround axes total → IsIn (slab_axes high n axes total) c → slice_get axes n ≡ Some axis → slice_get faces n ≡ Some ends → slice_get c n ≡ Some x → along_all axes faces numbers c ≡ updated (facing ends axis x) axis (λ y. along_all axes faces numbers (slice_set c n y)) x
looked_up_outside high n [] total faces numbers c axis ends x around h at_axis at_ends at_x = cc
looked_up_outside high n (p ∷ axes) [] faces numbers c axis ends x around h at_axis at_ends at_x = absurd (omega (arith, around.same))
looked_up_outside high n (p ∷ axes) (t ∷ total) [] numbers c axis ends x around h at_axis at_ends at_x = cc
looked_up_outside high n (p ∷ axes) (t ∷ total) (e ∷ faces) numbers [] axis ends x around h at_axis at_ends at_x = cc
looked_up_outside high zero (p ∷ axes) (t ∷ total) (e ∷ faces) numbers (z ∷ zs) axis ends x around h at_axis at_ends at_x =
    let same_axis : p ≡ axis = cc in
    let same_ends : e ≡ ends = cc in
    let same_x : z ≡ x = cc in
    rw (← same_axis, ← same_ends, ← same_x)
    (looked_up_inside axes faces (λ rest. along p e (λ y. numbers (y ∷ rest)) z) zs h.2
    ∙ along_outside p e (λ y. numbers (y ∷ zs)) z (beyond_near high p t z (first_around p t axes total around) h.0 h.1)
    ∙ updated_by_inside (facing e p z) p (λ y. numbers (y ∷ zs)) (λ y. along_all (p ∷ axes) (e ∷ faces) numbers (y ∷ zs)) z
    (beyond_near high p t z (first_around p t axes total around) h.0 h.1)
    (λ y on. sym (looked_up_inside (p ∷ axes) (e ∷ faces) numbers (y ∷ zs) (on.low, on.high, h.2))))
looked_up_outside high (suc n) (p ∷ axes) (t ∷ total) (e ∷ faces) numbers (z ∷ zs) axis ends x around h at_axis at_ends at_x =
    looked_up_outside high n axes total faces (λ rest. along p e (λ y. numbers (y ∷ rest)) z) zs axis ends x
    (later_around p t axes total around) h.2 at_axis at_ends at_x

-- the same of an array's shape, whichever faces it has
pub look_outside : (o : Option (List Ends)) (faces : List Ends) (high : Bool) (n : ℕ) (axes total : List Interval) (numbers : List ℤ → ℤ) (c : List ℤ) (axis : Interval) (ends : Ends) (x : ℤ) → AreAround axes total → IsIn (slab_axes high n axes total) c → o ≡ Some faces → slice_get axes n ≡ Some axis → slice_get faces n ≡ Some ends → slice_get c n ≡ Some x → looked_up axes o numbers c ≡ updated (facing ends axis x) axis (λ y. looked_up axes o numbers (slice_set c n y)) x
look_outside o faces high n axes total numbers c axis ends x around slab is at_axis at_ends at_x =
    rw is (looked_up_outside high n axes total faces numbers c axis ends x around slab at_axis at_ends at_x)

pub look_inside : (o : Option (List Ends)) (axes : List Interval) (numbers : List ℤ → ℤ) (c : List ℤ) → IsIn axes c → looked_up axes o numbers c ≡ numbers c
look_inside None axes numbers c h = refl
look_inside (Some faces) axes numbers c h = looked_up_inside axes faces numbers c h
