use Rattle.std.proofs.Common.{refl, ◌≡◌, ⊎_elim, arith, ℕ, zero, suc, ℤ, pos, List, [], ◌∷◌, length, map, replicate, slice_index_or}
use Rattle.std.proofs.lemmas.Bool.{cases_lt}
use Rattle.std.proofs.lemmas.List.{length-replicate, get_or-set_same, get_or-set_other, get_or-replicate, get_or_past}
use Rattle.pooma_domain.specs.Cells.{cells_of}
use Rattle.pooma_field.specs.Numbered.{place_in, number_at, with_changes}
use Rattle.pooma_field.specs.Shapes.{Shaped, own_area}
use Rattle.pooma_field.specs.Worlds.{array_of, zeros}
use Rattle.pooma_field.proofs.laws.worlds_change.Goals as goal

pub returns-clause-this : goal.returns-clause-this
returns-clause-this c world array changes there =
    get_or-set_same world.arrays array (with_changes (array_of world array) changes) (record { area = []; numbers = [] }) there

pub returns-clause-others : goal.returns-clause-others
returns-clause-others c world array other changes apart =
    get_or-set_other world.arrays array other (with_changes (array_of world array) changes) (record { area = []; numbers = [] }) apart

none_but_zeros : (n k : ℕ) → slice_index_or (replicate n (pos 0)) k (pos 0) ≡ pos 0
none_but_zeros n k =
    ⊎_elim (λ below. get_or-replicate n k (pos 0) (pos 0) below)
    (λ above. get_or_past (replicate n (pos 0)) k (pos 0) (omega (arith, length-replicate n (pos 0), above)))
    (cases_lt k n)

zero_at : (shapes : List Shaped) (array : ℕ) (c : List ℤ) → number_at (slice_index_or (map zeros shapes) array (record { area = []; numbers = [] })) c ≡ pos 0
zero_at [] array c = refl
zero_at (shape ∷ shapes) zero c = none_but_zeros (length (cells_of (own_area shape))) (place_in (own_area shape) c)
zero_at (shape ∷ shapes) (suc array) c = zero_at shapes array c

pub returns-clause-opening : goal.returns-clause-opening
returns-clause-opening c shapes scalars array cell = zero_at shapes array cell

pub returns-clause-full : goal.returns-clause-full
returns-clause-full c shape = length-replicate (length (cells_of (own_area shape))) (pos 0)
