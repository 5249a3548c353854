-- Facts on the number that digits stand for.
use Rattle.std.proofs.Common.{◌≡◌, ℕ, ◌+◌, ◌-◌, ◌*◌, ◌^◌, ◌<◌, ◌≤◌, List, ◌∷◌, length, get_or, drop, sym, ap, ◌∙◌, arith, suc, lit<}
use Rattle.std.proofs.Math.Nat.{pow-suc, one-le-pow, mul_comm, mul_assoc, add-mul, le-mul_of_pos_right}
use Rattle.std.proofs.lemmas.List.{drop_more}
use Rattle.pooma_text.specs.Number.{value_of}

-- the number of digits behind a number that is read already
abbrev pub continued : ℕ → List ℕ → ℕ
continued value digits = value * 10 ^ length digits + value_of digits

-- one digit more is read
pub continued-cons : (value digit : ℕ) (digits : List ℕ) → continued value (digit ∷ digits) ≡ continued (value * 10 + (digit - 48)) digits
continued-cons value digit digits =
    let unit : ℕ = 10 ^ length digits in
    let shift : value * 10 ^ suc (length digits) ≡ value * 10 * unit = ap (λ n. value * n) (pow-suc 10 (length digits) ∙ mul_comm unit 10) ∙ sym (mul_assoc value 10 unit) in
    let both : (value * 10 + (digit - 48)) * unit ≡ value * 10 * unit + (digit - 48) * unit = add-mul (value * 10) (digit - 48) unit in
    omega (arith, shift, both)

-- further digits make no number smaller
pub continued_ge : (value : ℕ) (digits : List ℕ) → value ≤ continued value digits
continued_ge value digits =
    let whole : value ≤ value * 10 ^ length digits = le-mul_of_pos_right value (one-le-pow (length digits) 10 (lit< tt)) in
    omega arith

-- the next digit of a list is read
pub continued-drop : (value : ℕ) (digits : List ℕ) (i : ℕ) → i < length digits → continued value (drop i digits) ≡ continued (value * 10 + (get_or digits i 0 - 48)) (drop (i + 1) digits)
continued-drop value digits i within = ap (continued value) (drop_more digits i 0 within) ∙ continued-cons value (get_or digits i 0) (drop (i + 1) digits)
