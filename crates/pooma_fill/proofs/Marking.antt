-- The arrays one by one.
use Rattle.std.proofs.Common.{refl, sym, ap, ◌∙◌, subst, arith, append_assoc, append-nil, get_or}
use Rattle.std.proofs.lemmas.Bool.{false≢true}
use Rattle.std.specs.List.{AllZip}
use Rattle.std.proofs.lemmas.Simd.{map-map}
use Rattle.std.proofs.lemmas.List.{length-map, map-append, take_all}
use Rattle.std.proofs.lemmas.Option.{slice_get_within, slice_get-get_or, get_or_from_slice_get, slice_get-map}
use Rattle.std.specs.Prelude.{◌≡◌, ◌&&◌, ℕ, zero, suc, ◌+◌, ◌<◌, ◌≤◌, Bool, true, false, is_some, Some, IsSome, List, [], ◌∷◌, ◌++◌, length, map, take, drop, slice_get, slice_set, option_map}
use Rattle.pooma_field.specs.declared.shapes.Shape.{Shape}
use Rattle.pooma_field.specs.Shapes.{Shaped}
use Rattle.pooma_field.specs.ShapeOf.{shape_of}
use Rattle.pooma_layout.specs.Axes.{CutAxis}
use Rattle.pooma_model.specs.declared.statement.Action.{Action}
use Rattle.pooma_model.specs.Declarations.{Declared, IsArray, IsDeclaring}
use Rattle.pooma_piece.specs.Pieces.{Pieced}
use Rattle.pooma_store.specs.Standing.{shape_at}
use Rattle.pooma_fill.specs.declared.stale.Array.{Array}
use Rattle.pooma_fill.specs.declared.stale.Mark.{Mark}
use Rattle.pooma_fill.proofs.Listed.{take_more}
use Rattle.pooma_fill.specs.Kept.{layouts_of, marks_of, shapes_of}
use Rattle.pooma_fill.specs.Marks.{fills_from, fills_if, is_needed, mark_after, marks_after}

-- the fills of one array more
pub fills_more : (layouts : List (List CutAxis)) (number : ℕ) (does : Action) (n j k m : ℕ) (shapes : List Shape) (marks : List Mark) (shape : Shape) (mark : Mark) → m ≡ suc k → j ≡ n + k → slice_get shapes k ≡ Some shape → slice_get marks k ≡ Some mark → fills_from layouts number does n (take m shapes) (take m marks) ≡ fills_from layouts number does n (take k shapes) (take k marks) ++ fills_if layouts number does j shape mark
fills_more layouts number does n j k m [] marks shape mark next place at_s at_m = cc
fills_more layouts number does n j k m (s ∷ shapes) [] shape mark next place at_s at_m = cc
fills_more layouts number does n j zero m (s ∷ shapes) (d ∷ marks) shape mark next place at_s at_m =
    let same_s : s ≡ shape = cc in
    let same_m : d ≡ mark = cc in
    let one : m ≡ suc 0 = omega (arith, next) in
    let here : j ≡ n = omega (arith, place) in
    rw (one, same_s, same_m, here) (append-nil (fills_if layouts number does n shape mark))
fills_more layouts number does n j (suc k) zero (s ∷ shapes) (d ∷ marks) shape mark next place at_s at_m = absurd (omega (arith, next))
fills_more layouts number does n j (suc k) (suc m) (s ∷ shapes) (d ∷ marks) shape mark next place at_s at_m =
    ap (λ (rest : List Pieced). fills_if layouts number does n s d ++ rest)
    (fills_more layouts number does (suc n) j k m shapes marks shape mark (omega (arith, next)) (omega (arith, place)) at_s at_m)
    ∙ sym (append_assoc (fills_if layouts number does n s d) (fills_from layouts number does (suc n) (take k shapes) (take k marks)) (fills_if layouts number does j shape mark))

-- an array by its number
pub array_at : (arrays : List Array) (k : ℕ) (array : Array) → k < length arrays → array ≡ get_or arrays k array → slice_get arrays k ≡ Some array
array_at arrays k array there is = slice_get-get_or arrays k array there ∙ ap Some (sym is)

pub shape_at_place : (arrays : List Array) (k : ℕ) (array : Array) → slice_get arrays k ≡ Some array → slice_get (shapes_of arrays) k ≡ Some array.shape
shape_at_place arrays k array at = slice_get-map (λ (a : Array). a.shape) arrays k ∙ ap (option_map (λ (a : Array). a.shape)) at

pub mark_at_place : (arrays : List Array) (k : ℕ) (array : Array) → slice_get arrays k ≡ Some array → slice_get (marks_of arrays) k ≡ Some array.mark
mark_at_place arrays k array at = slice_get-map (λ (a : Array). a.mark) arrays k ∙ ap (option_map (λ (a : Array). a.mark)) at

-- one array more
pub pushed : {X Y : Type 0} (f : X → Y) (xs all : List X) (x : X) (ys : List Y) (k m : ℕ) (y : Y) → m ≡ suc k → all ≡ xs ++ x ∷ [] → map f xs ≡ take k ys → slice_get ys k ≡ Some y → y ≡ f x → map f all ≡ take m ys
pushed f xs all x ys k m y next is before at same =
    ap (map f) is ∙ map-append f xs (x ∷ []) ∙ ap (λ (zs : _). zs ++ f x ∷ []) before ∙ ap (λ (z : _). take k ys ++ z ∷ []) (sym same) ∙ sym (take_more ys k m y next at)

pub pushed_alike : {X Y Z : Type 0} (f : X → Y) (g : X → Z) (h : Z → Y) (xs all : List X) (x : X) → all ≡ xs ++ x ∷ [] → map f xs ≡ map h (map g xs) → f x ≡ h (g x) → map f all ≡ map h (map g all)
pushed_alike f g h xs all x is before same =
    ap (map f) is ∙ map-append f xs (x ∷ []) ∙ ap (λ (zs : _). zs ++ f x ∷ []) before ∙ ap (λ (z : _). map h (map g xs) ++ z ∷ []) same
    ∙ sym (map-append h (map g xs) (g x ∷ [])) ∙ ap (map h) (sym (map-append g xs (x ∷ []))) ∙ ap (λ (zs : _). map h (map g zs)) (sym is)

-- the marks so far
pub marks_more : (does : Action) (n j k m : ℕ) (shapes : List Shape) (marks now : List Mark) (shape : Shape) (old new : Mark) → m ≡ suc k → j ≡ n + k → now ≡ take k (marks_after does n shapes marks) ++ drop k marks → slice_get shapes k ≡ Some shape → slice_get marks k ≡ Some old → new ≡ mark_after does j shape old → slice_set now k new ≡ take m (marks_after does n shapes marks) ++ drop m marks
marks_more does n j k m [] marks now shape old new next place is at_s at_m found = cc
marks_more does n j k m (s ∷ shapes) [] now shape old new next place is at_s at_m found = cc
marks_more does n j zero m (s ∷ shapes) (d ∷ marks) now shape old new next place is at_s at_m found =
    let same_s : s ≡ shape = cc in
    let same_m : d ≡ old = cc in
    let one : m ≡ suc 0 = omega (arith, next) in
    let here : j ≡ n = omega (arith, place) in
    ap (λ (xs : List Mark). slice_set xs 0 new) is
    ∙ ap (λ (x : Mark). x ∷ marks) (found ∙ ap (λ (i : ℕ). mark_after does i shape old) here ∙ ap (λ (t : Shape). mark_after does n t old) (sym same_s) ∙ ap (mark_after does n s) (sym same_m))
    ∙ ap (λ (i : ℕ). take i (marks_after does n (s ∷ shapes) (d ∷ marks)) ++ drop i (d ∷ marks)) (sym one)
marks_more does n j (suc k) zero (s ∷ shapes) (d ∷ marks) now shape old new next place is at_s at_m found = absurd (omega (arith, next))
marks_more does n j (suc k) (suc m) (s ∷ shapes) (d ∷ marks) now shape old new next place is at_s at_m found =
    ap (λ (xs : List Mark). slice_set xs (suc k) new) is
    ∙ ap (λ (rest : List Mark). mark_after does n s d ∷ rest)
    (marks_more does (suc n) j k m shapes marks (take k (marks_after does (suc n) shapes marks) ++ drop k marks) shape old new (omega (arith, next)) (omega (arith, place)) refl at_s at_m found)

-- a mark that was not changed yet
pub mark_before : (does : Action) (n k : ℕ) (shapes : List Shape) (marks now : List Mark) (shape : Shape) → now ≡ take k (marks_after does n shapes marks) ++ drop k marks → slice_get shapes k ≡ Some shape → slice_get now k ≡ slice_get marks k
mark_before does n k [] marks now shape is at = cc
mark_before does n zero (s ∷ shapes) [] now shape is at = ap (λ (xs : List Mark). slice_get xs 0) is
mark_before does n (suc k) (s ∷ shapes) [] now shape is at = ap (λ (xs : List Mark). slice_get xs (suc k)) is
mark_before does n zero (s ∷ shapes) (d ∷ marks) now shape is at = ap (λ (xs : List Mark). slice_get xs 0) is
mark_before does n (suc k) (s ∷ shapes) (d ∷ marks) now shape is at =
    ap (λ (xs : List Mark). slice_get xs (suc k)) is
    ∙ mark_before does (suc n) k shapes marks (take k (marks_after does (suc n) shapes marks) ++ drop k marks) shape refl at

marks_length : (does : Action) (n : ℕ) (shapes : List Shape) (marks : List Mark) → length shapes ≡ length marks → length (marks_after does n shapes marks) ≡ length marks
marks_length does n [] marks same = same
marks_length does n (s ∷ shapes) [] same = absurd (omega (arith, same))
marks_length does n (s ∷ shapes) (d ∷ marks) same = ap suc (marks_length does (suc n) shapes marks (omega (arith, same)))

pub marks_all : (does : Action) (shapes : List Shape) (marks now : List Mark) (k : ℕ) → length shapes ≡ length marks → length marks ≤ k → now ≡ take k (marks_after does 0 shapes marks) ++ drop k marks → now ≡ marks_after does 0 shapes marks
marks_all does shapes marks now k same all is =
    is ∙ ap (λ (xs : List Mark). xs ++ drop k marks) (take_all k (marks_after does 0 shapes marks) (omega (arith, marks_length does 0 shapes marks same, all)))
    ∙ ap (λ (xs : List Mark). marks_after does 0 shapes marks ++ xs) (drop_all_of marks k all) ∙ append-nil (marks_after does 0 shapes marks)
  where
    drop_all_of : (xs : List Mark) (k : ℕ) → length xs ≤ k → drop k xs ≡ []
    drop_all_of [] zero h = refl
    drop_all_of [] (suc k) h = refl
    drop_all_of (x ∷ xs) zero h = absurd (omega (arith, h))
    drop_all_of (x ∷ xs) (suc k) h = drop_all_of xs k (omega (arith, h))

-- the store has the array
pub at_front : {X : Type 0} (all front : List X) (k : ℕ) (x : X) → take (length front) all ≡ front → slice_get front k ≡ Some x → slice_get all k ≡ Some x
at_front all front k x is at = taken (length front) all k (subst (λ (xs : _). slice_get xs k ≡ Some x) (sym is) at)
  where
    taken : {X : Type 0} {x : X} (n : ℕ) (all : List X) (k : ℕ) → slice_get (take n all) k ≡ Some x → slice_get all k ≡ Some x
    taken zero [] k h = h
    taken zero (y ∷ all) k h = cc
    taken (suc n) [] k h = h
    taken (suc n) (y ∷ all) zero h = h
    taken (suc n) (y ∷ all) (suc k) h = taken n all k h

pub array_there : {X : Type 0} (all front : List X) (k : ℕ) → take (length front) all ≡ front → k < length front → k < length all
array_there all front k is below =
    slice_get_within all k (get_or front k (get_or front k (need front below))) (at_front all front k _ is (slice_get-get_or front k _ below))
  where
    need : {X : Type 0} (front : List X) {k : ℕ} → k < length front → X
    need [] h = absurd (omega (arith, h))
    need (x ∷ front) h = x

pub shape_there : (all : List Shaped) (shapes : List Shape) (k : ℕ) (shape : Shape) → take (length shapes) all ≡ map shape_of shapes → slice_get shapes k ≡ Some shape → shape_at all k ≡ shape_of shape
shape_there all shapes k shape is at =
    get_or_from_slice_get all k (shape_of shape) _
    (at_front all (map shape_of shapes) k (shape_of shape) (ap (λ (n : ℕ). take n all) (length-map shapes shape_of) ∙ is) (slice_get-map shape_of shapes k ∙ ap (option_map shape_of) at))

pub faces_needed : (does : Action) (array : ℕ) (shape : Shape) (mark : Mark) → is_needed does array shape mark ≡ true → IsSome shape.faces
faces_needed does array shape mark e = (and_parts (is_some shape.faces) _ (and_parts mark.external _ e).1).0
  where
    and_parts : (a b : Bool) → (a && b) ≡ true → (a ≡ true) × (b ≡ true)
    and_parts true b e = (refl, e)
    and_parts false b e = absurd (false≢true e)

-- ---- the marks after an action, one by one

pub set_mark : (arrays : List Array) (k : ℕ) (array : Array) (mark : Mark) → slice_get arrays k ≡ Some array → marks_of (slice_set arrays k (record array { mark = mark })) ≡ slice_set (marks_of arrays) k mark
set_mark [] k array mark at = refl
set_mark (a ∷ arrays) zero array mark at = refl
set_mark (a ∷ arrays) (suc k) array mark at = ap (λ (ms : List Mark). a.mark ∷ ms) (set_mark arrays k array mark at)

pub set_shapes : (arrays : List Array) (k : ℕ) (array : Array) (mark : Mark) → slice_get arrays k ≡ Some array → shapes_of (slice_set arrays k (record array { mark = mark })) ≡ shapes_of arrays
set_shapes [] k array mark at = refl
set_shapes (a ∷ arrays) zero array mark at = let same : a ≡ array = cc in rw same refl
set_shapes (a ∷ arrays) (suc k) array mark at = ap (λ (ss : List Shape). a.shape ∷ ss) (set_shapes arrays k array mark at)

pub set_layouts : (arrays : List Array) (k : ℕ) (array : Array) (mark : Mark) → slice_get arrays k ≡ Some array → layouts_of (slice_set arrays k (record array { mark = mark })) ≡ layouts_of arrays
set_layouts [] k array mark at = refl
set_layouts (a ∷ arrays) zero array mark at = let same : a ≡ array = cc in rw same refl
set_layouts (a ∷ arrays) (suc k) array mark at = ap (λ (ls : List (List CutAxis)). a.layout ∷ ls) (set_layouts arrays k array mark at)

as_many : (shapes : List Shaped) (layouts : List (List CutAxis)) → AllZip IsArray shapes layouts → length shapes ≡ length layouts
as_many [] [] h = refl
as_many [] (l ∷ layouts) h = absurd h
as_many (s ∷ shapes) [] h = absurd h
as_many (s ∷ shapes) (l ∷ layouts) h = ap suc (as_many shapes layouts h.1)

-- what the arrays declare
pub same_declared : (d : Declared) (arrays : List Array) (k scalars : ℕ) → IsDeclaring d → length d.shapes ≤ k → scalars ≡ d.scalars → map (λ (a : Array). shape_of a.shape) arrays ≡ take k d.shapes → layouts_of arrays ≡ take k d.layouts → record { shapes = map shape_of (shapes_of arrays); layouts = layouts_of arrays; scalars = scalars } ≡ d
same_declared d arrays k scalars valid all e f g =
    let shapes : map shape_of (shapes_of arrays) ≡ d.shapes = map-map shape_of (λ (a : Array). a.shape) arrays ∙ f ∙ take_all k d.shapes all in
    let long : length d.shapes ≡ length d.layouts = as_many d.shapes d.layouts valid.arrays in
    let layouts : layouts_of arrays ≡ d.layouts = g ∙ take_all k d.layouts (omega (arith, long, all)) in
    rw (shapes, layouts, e) refl
