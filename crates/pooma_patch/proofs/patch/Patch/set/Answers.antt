use Rattle.std.proofs.Common.{sym, ap, ◌∙◌, subst, ◌≡◌, ℕ, ℤ, Bool, List, slice_set, arith, to_z, of_z, w64}
use Rattle.std.proofs.lemmas.Int.{ints}
use Rattle.pooma_domain.specs.Cells.{Interval}
use Rattle.pooma_field.specs.Numbered.{Numbered, place_in, with_number}
use Rattle.pooma_patch.specs.Patched.{Patched}
use Rattle.pooma_patch.proofs.patch.Patch.set.Goals as goal

set_is : (area : List Interval) (ns ns' : List ℤ) (one : Bool) (old : Patched) (k : ℕ) (c : List ℤ) (v : ℤ) → record { content = record { area = area; numbers = ns }; one = one } ≡ old → ns' ≡ slice_set ns k v → place_in area c ≡ k → record { area = area; numbers = ns' } ≡ with_number old.content c v
set_is area ns ns' one old k c v is set at =
    subst (λ (p : Patched). ◌≡◌ {A = Numbered} (record { area = area; numbers = ns' }) (with_number p.content c v)) is
    (ap (λ (xs : List ℤ). record { area = area; numbers = xs }) (set ∙ ap (λ (i : ℕ). slice_set ns i v) (sym at)))

pub returns-clause-content : goal.returns-clause-content
returns-clause-content c =
    set_is c.self.inside.area c.self.inside.cells.numbers c.set.new.self.numbers c.self.inside.cells.one c.args.self.now c.place_of.result c.args.c.now c.args.v c.self.view_is
    (c.set.ensures.numbers ∙ ap (λ (v : ℤ). slice_set c.self.inside.cells.numbers c.place_of.result v) (let bare : to_z w64 (of_z w64 c.args.v) ≡ c.args.v = omega (arith, ints) in bare))
    (c.numbers_of_cells.ensures.only_there c.self.inside.area c.args.c.now c.place_of.result c.place_of.ensures.stands)
