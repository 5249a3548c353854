use Rattle.std.proofs.Common.{refl, ◌≤◌, ◌≡◌, ◌∙◌, sym, ap, Some, ℤ, pos, ◌+ℤ◌, ◌*ℤ◌, ◌-◌, ◌<◌, ◌^◌, to_z, of_z, w32, w64, FitsSigned, rules}
use Rattle.std.proofs.lemmas.Int.{to_z-of_z}
use Rattle.pooma_domain.proofs.Striding.{before_last, wide, fits_between, product_fits, slice_get-striding}
use Rattle.pooma_domain.proofs.strides.Strided.at.Goals as goal

-- the three numbers of 64 bits are those of the axis
stride_is : (c : goal.After-from-3) → to_z w64 (of_z w64 c.from-2.result) ≡ c.args.self.now.stride
stride_is c = search rules

k_is : (c : goal.After-from-3) → to_z w64 (of_z w64 c.from-3.result) ≡ pos c.args.k
k_is c = search rules

first_is : (c : goal.After-from-3) → to_z w64 (of_z w64 c.from.result) ≡ c.args.self.now.first
first_is c = search rules

k_small : (c : goal.After-from-3) → c.args.k < 2 ^ 32
k_small c = search rules

pub overflow_mul-result : goal.overflow_mul-result
overflow_mul-result c = rw (stride_is c, k_is c) (product_fits c.args.self.now.stride c.args.k (search rules) (k_small c))

abbrev number : goal.After-from-3 → ℤ
number c = c.args.self.now.first +ℤ c.args.self.now.stride *ℤ pos c.args.k

number_fits : (c : goal.After-from-3) → FitsSigned w32 (number c)
number_fits c =
    let within : c.args.k ≤ c.args.self.now.count - 1 = before_last c.args.k c.args.self.now.count c.requires in
    fits_between c.args.self.now.first c.args.self.now.stride c.args.k (c.args.self.now.count - 1) within (search rules) c.args.self.now.fits

sum_is : (c : goal.After-from-3) → to_z w64 (of_z w64 c.from.result) +ℤ to_z w64 (of_z w64 (to_z w64 (of_z w64 c.from-2.result) *ℤ to_z w64 (of_z w64 c.from-3.result))) ≡ number c
sum_is c =
    let fits = product_fits c.args.self.now.stride c.args.k (search rules) (k_small c) in
    rw (first_is c, stride_is c, k_is c, to_z-of_z w64 (c.args.self.now.stride *ℤ pos c.args.k) fits) refl

pub overflow_add-result : goal.overflow_add-result
overflow_add-result c = rw (sum_is c) (wide _ (number_fits c))

-- the sum is cast and not changed
pub overflow_cast-result : goal.overflow_cast-result
overflow_cast-result c = rw (sum_is c, to_z-of_z w64 (number c) (wide _ (number_fits c))) (number_fits c)

pub returns-clause-value : goal.returns-clause-value
returns-clause-value c =
    rw (sum_is c, to_z-of_z w64 (number c) (wide _ (number_fits c)), to_z-of_z w32 (number c) (number_fits c)) refl

pub returns-clause-stands : goal.returns-clause-stands
returns-clause-stands c =
    slice_get-striding c.args.self.now.first c.args.self.now.stride c.args.self.now.count c.args.k c.requires ∙ ap Some (sym (returns-clause-value c))
