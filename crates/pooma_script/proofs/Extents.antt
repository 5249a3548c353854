-- How many axes a stencil leaves, and whether it leaves a position.
use Rattle.std.proofs.Common.{◌≡◌, ◌<◌, ◌≤◌, min, Bool, ℤ, pos, ◌+ℤ◌, ◌-ℤ◌, List, [], ◌∷◌, length, drop, Option, Some, None, refl, sym, ap, subst, ◌∙◌, arith}
use Rattle.std.proofs.lemmas.List.Elements.{All-cons, All-head, All-nil, All-tail}
use Rattle.std.specs.List.{cons_option}
use Rattle.std.specs.Prelude.{◌↔◌, All, IsTrue, slice_index_or}
use Rattle.pooma_domain.specs.Cells.{Interval, IsOrdered, interval}
use Rattle.pooma_domain.specs.Operations.{each_of, moved}
use Rattle.pooma_stencil.specs.Stencils.{shrunk}
use Rattle.pooma_parse.specs.declared.form.RawSub.{RawSub}
use Rattle.pooma_parse.specs.declared.form.RawSub.TheVariants.{At, Range}
use Rattle.pooma_script.specs.Views.{count_to, places_of, places_to, positions_in}
use Rattle.pooma_script.proofs.Heads.{others, split}

length-each_of : {A B C : Type 0} (f : A → B → C) (xs : List A) (ys : List B) → length (each_of f xs ys) ≡ min (length xs) (length ys)
length-each_of f [] ys = omega arith
length-each_of f (x ∷ xs) [] = omega arith
length-each_of f (x ∷ xs) (y ∷ ys) = let later = length-each_of f xs ys in omega (arith, later)

-- as many axes as the view and both extents have
pub length-shrunk : (axes : List Interval) (lower upper : List ℤ) → length (shrunk axes lower upper) ≡ min (length axes) (min (length lower) (length upper))
length-shrunk axes lower upper = length-each_of _ axes (moved lower upper) ∙ ap (min (length axes)) (length-each_of _ lower upper)

-- the first of some SUBs, and the others
positions_by_first : (subs : List RawSub) (d : RawSub) (places : Option Interval) → 1 ≤ length subs → places_of (slice_index_or subs 0 d) ≡ places
    → positions_in subs ≡ cons_option places (positions_in (others subs))
positions_by_first subs d places some is = ap positions_in (split subs d some) ∙ ap (λ o. cons_option o (positions_in (others subs))) is

-- what takes one number leaves the extents to the others
pub room_past : (subs : List RawSub) (d : RawSub) (n : ℤ) (lower upper : List ℤ) (r : Bool) → 1 ≤ length subs → slice_index_or subs 0 d ≡ At n
    → (IsTrue r ↔ All IsOrdered (shrunk (positions_in (others subs)) lower upper)) → IsTrue r ↔ All IsOrdered (shrunk (positions_in subs) lower upper)
room_past subs d n lower upper r some is h =
    subst (λ axes. IsTrue r ↔ All IsOrdered (shrunk axes lower upper)) (sym (positions_by_first subs d None some (ap places_of is))) h

by_first : (l : List ℤ) → 0 < length l → l ≡ slice_index_or l 0 (pos 0) ∷ drop 1 l
by_first [] some = absurd (omega arith)
by_first (x ∷ l) some = refl

-- a range has to leave a number, and the others theirs
pub room_on : (subs : List RawSub) (d : RawSub) (first last stride : ℤ) (lower upper : List ℤ) (by : ℤ) (a b r : Bool) → 1 ≤ length subs
    → slice_index_or subs 0 d ≡ Range first last stride → 0 < length lower → 0 < length upper
    → by ≡ slice_index_or lower 0 (pos 0) +ℤ slice_index_or upper 0 (pos 0)
    → (IsTrue a ↔ IsOrdered (interval (pos 0) ((pos (count_to first last stride) -ℤ pos 1) -ℤ by)))
    → (IsTrue b ↔ All IsOrdered (shrunk (positions_in (others subs)) (drop 1 lower) (drop 1 upper)))
    → (IsTrue r ↔ (IsTrue a × IsTrue b)) → IsTrue r ↔ All IsOrdered (shrunk (positions_in subs) lower upper)
room_on subs d first last stride lower upper by a b r some is at too sums f g both =
    let axis = places_to (count_to first last stride) in
    let low = slice_index_or lower 0 (pos 0) in
    let high = slice_index_or upper 0 (pos 0) in
    let here : ℤ → Interval = λ x. interval axis.first (axis.last -ℤ x) in
    let later = shrunk (positions_in (others subs)) (drop 1 lower) (drop 1 upper) in
    let e : shrunk (positions_in subs) lower upper ≡ here by ∷ later =
    ap (λ axes. shrunk axes lower upper) (positions_by_first subs d (Some axis) some (ap places_of is))
    ∙ ap (λ l. shrunk (axis ∷ positions_in (others subs)) l upper) (by_first lower at)
    ∙ ap (λ l. shrunk (axis ∷ positions_in (others subs)) (low ∷ drop 1 lower) l) (by_first upper too)
    ∙ ap (λ x. here x ∷ later) (sym sums) in (
      λ t. subst (All IsOrdered) (sym e) (All-cons IsOrdered (here by) later (f.0 (both.0 t).0) (g.0 (both.0 t).1)),
      λ all. let whole : All IsOrdered (here by ∷ later) = subst (All IsOrdered) e all in
          both.1 (f.1 (All-head IsOrdered (here by) later whole), g.1 (All-tail IsOrdered (here by) later whole)),
    )

nothing_left : (axes : List Interval) (by : List ℤ) → length by ≡ 0 → All IsOrdered (each_of (λ axis extents. interval axis.first (axis.last -ℤ extents)) axes by)
nothing_left [] by none = All-nil IsOrdered
nothing_left (axis ∷ axes) [] none = All-nil IsOrdered
nothing_left (axis ∷ axes) (x ∷ by) none = absurd (omega arith)

-- without extents no axis is left
pub no_axes_left : (axes : List Interval) (lower upper : List ℤ) → min (length lower) (length upper) ≡ 0 → All IsOrdered (shrunk axes lower upper)
no_axes_left axes lower upper none = nothing_left axes (moved lower upper) (length-each_of _ lower upper ∙ none)
