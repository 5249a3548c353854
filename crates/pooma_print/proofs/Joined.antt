-- Numbers with a separator between each two, one number more.
use Rattle.std.proofs.Common.{◌≡◌, ℕ, zero, suc, ◌+◌, ℤ, Some, List, [], ◌∷◌, ◌++◌, map, take, refl, sym, ap, ◌∙◌, append_assoc}
use Rattle.std.specs.Fmt.{signed_decimal}
use Rattle.std.specs.List.{join_with_byte, slice_get}
use Rattle.std.proofs.lemmas.Option.{same_Some}
use Rattle.pooma_print.specs.Texts.{joined_number}
use Rattle.pooma_print.proofs.Lists.{map_more}

-- one text more behind some
join_more : (c : ℕ) (text : List ℕ) (texts : List (List ℕ)) (last : List ℕ) → join_with_byte c ((text ∷ texts) ++ last ∷ []) ≡ join_with_byte c (text ∷ texts) ++ (c ∷ last)
join_more c text [] last = refl
join_more c text (next ∷ texts) last =
    ap (λ (rest : List ℕ). text ++ (c ∷ rest)) (join_more c next texts last) ∙ sym (append_assoc text (c ∷ join_with_byte c (next ∷ texts)) (c ∷ last))

-- one number more behind some
pub joined_more : (separator : ℕ) (numbers : List ℤ) (place : ℕ) (n : ℤ) → slice_get numbers place ≡ Some n
    → join_with_byte separator (map signed_decimal (take (place + 1) numbers)) ≡ join_with_byte separator (map signed_decimal (take place numbers)) ++ joined_number separator place n
joined_more separator [] place n at = absurd (let no : ⊥ = cc in no)
joined_more separator (x ∷ xs) zero n at = ap signed_decimal (same_Some x n at)
joined_more separator (x ∷ xs) (suc k) n at =
    ap (join_with_byte separator) (map_more signed_decimal (x ∷ xs) (suc k) n at)
    ∙ join_more separator (signed_decimal x) (map signed_decimal (take k xs)) (signed_decimal n)

-- a text that ends with some numbers, and the next one appended
pub next_appended : (separator : ℕ) (old before new : List ℕ) (numbers : List ℤ) (place : ℕ) (n : ℤ) → slice_get numbers place ≡ Some n
    → before ≡ old ++ join_with_byte separator (map signed_decimal (take place numbers)) → new ≡ before ++ joined_number separator place n
    → new ≡ old ++ join_with_byte separator (map signed_decimal (take (place + 1) numbers))
next_appended separator old before new numbers place n at so_far grown =
    grown ∙ ap (λ (text : List ℕ). text ++ joined_number separator place n) so_far
    ∙ append_assoc old (join_with_byte separator (map signed_decimal (take place numbers))) (joined_number separator place n)
    ∙ ap (λ (text : List ℕ). old ++ text) (sym (joined_more separator numbers place n at))
