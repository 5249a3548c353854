-- The cut axes, made one after another.
use Rattle.std.proofs.Common.{sym, ap, ◌∙◌, arith, take, drop, append_assoc, add-one, drop-cons}
use Rattle.std.proofs.lemmas.List.{map-append, take_more}
use Rattle.std.proofs.lemmas.Option.{get_or_from_slice_get, slice_get_within}
use Rattle.std.specs.Prelude.{◌≡◌, ℕ, suc, ◌+◌, ◌<◌, Some, List, [], ◌∷◌, ◌++◌, length, map, slice_get}
use Rattle.pooma_domain.specs.Cells.{Interval}
use Rattle.pooma_layout.specs.Axes.{cut_at}
use Rattle.pooma_model.specs.Parts.{borders_on}
use Rattle.pooma_part.specs.CutLines.{CutLine, parts_in}
use Rattle.pooma_part.specs.Cuts.{LaidView, cuts_of, parts_on}
use Rattle.pooma_part.proofs.Dividing.{wholes}

rest_of : {A : Type 0} (xs : List A) (n : ℕ) (x : A) → slice_get xs n ≡ Some x → drop n xs ≡ x ∷ drop (n + 1) xs
rest_of xs n x at =
    let within : n < length xs = slice_get_within xs n x at in
    rw add-one (drop-cons xs n x within ∙ ap (λ y. y ∷ drop (suc n) xs) (get_or_from_slice_get xs n x x at))

pub cuts_more : (views : List LaidView) (positions : List Interval) (n : ℕ) (lines new : List CutLine) (line : CutLine) (axis : Interval)
    → map parts_in lines ++ cuts_of views n (drop n positions) ≡ cuts_of views 0 positions → slice_get positions n ≡ Some axis → line.whole ≡ axis → line.borders ≡ borders_on (parts_on views n) axis
    → new ≡ lines ++ line ∷ [] → map parts_in new ++ cuts_of views (n + 1) (drop (n + 1) positions) ≡ cuts_of views 0 positions
cuts_more views positions n lines new line axis so_far at whole borders pushed =
    let parts : parts_in line ≡ cut_at axis.first (borders_on (parts_on views n) axis) axis.last =
    ap (λ (a : Interval). cut_at a.first line.borders a.last) whole ∙ ap (λ bs. cut_at axis.first bs axis.last) borders in
    let rest : cuts_of views n (drop n positions) ≡ parts_in line ∷ cuts_of views (n + 1) (drop (n + 1) positions) =
    ap (cuts_of views n) (rest_of positions n axis at)
    ∙ ap (λ p. p ∷ cuts_of views (suc n) (drop (n + 1) positions)) (sym parts)
    ∙ ap (λ m. parts_in line ∷ cuts_of views m (drop (n + 1) positions)) (sym add_one) in
    ap (λ l. map parts_in l ++ cuts_of views (n + 1) (drop (n + 1) positions)) pushed
    ∙ ap (λ l. l ++ cuts_of views (n + 1) (drop (n + 1) positions)) (map-append parts_in lines (line ∷ []))
    ∙ append_assoc (map parts_in lines) (parts_in line ∷ []) (cuts_of views (n + 1) (drop (n + 1) positions))
    ∙ ap (λ l. map parts_in lines ++ l) (sym rest)
    ∙ so_far
  where
    add_one : n + 1 ≡ suc n
    add_one = omega arith

pub wholes_more : (positions : List Interval) (n : ℕ) (lines new : List CutLine) (line : CutLine) (axis : Interval) → wholes lines ≡ take n positions → slice_get positions n ≡ Some axis → line.whole ≡ axis
    → new ≡ lines ++ line ∷ [] → wholes new ≡ take (n + 1) positions
wholes_more positions n lines new line axis so_far at whole pushed =
    let one : take (n + 1) positions ≡ take n positions ++ axis ∷ [] =
    take_more positions n axis (slice_get_within positions n axis at) ∙ ap (λ z. take n positions ++ z ∷ []) (get_or_from_slice_get positions n axis axis at) in
    ap wholes pushed ∙ map-append (λ (l : CutLine). l.whole) lines (line ∷ []) ∙ ap (λ l. l ++ line.whole ∷ []) so_far
    ∙ ap (λ z. take n positions ++ z ∷ []) whole ∙ sym one
