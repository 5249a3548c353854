-- A layout that is made axis by axis.
use Rattle.std.proofs.Common.{refl, sym, ap, ◌∙◌, subst, arith, take, replicate, Vec, Global}
use Rattle.std.proofs.lemmas.Int.{ints}
use Rattle.std.proofs.lemmas.List.{map_push, take_more, take_all, length-map, length-append, length-replicate}
use Rattle.std.proofs.lemmas.List.Elements.{All-push, All-nil}
use Rattle.std.proofs.lemmas.Nat.{mod_below}
use Rattle.std.proofs.lemmas.Option.{slice_get_within, get_or_from_slice_get}
use Rattle.std.specs.Prelude.{◌≡◌, ℕ, zero, suc, ◌+◌, ◌-◌, ◌*◌, ◌/◌, ◌%◌, ◌<◌, ◌≤◌, ℤ, pos, negsuc, unsigned_abs, ◌^◌, Some, List, [], ◌∷◌, ◌++◌, length, map, slice_get, All}
use Rattle.std.specs.List.{AllZip}
use Rattle.std.specs.Int.{w32}
use lib.Dec.{T}
use lib.Signed.{non_neg}
use mir.Val.{Fits}
use Rattle.pooma_domain.specs.Cells.{Interval, axis_length, count_of}
use Rattle.pooma_domain.specs.Operations.{each_of}
use Rattle.pooma_layout.specs.Axes.{CutAxis, cut_axis, cut_at, parts, IsNear, IsDepth, IsCovering, IsAscending, AreBorders, IsCutAxis}
use Rattle.pooma_layout.specs.Blocks.{part_lengths, blocks_of, product, IsPartCount}
use Rattle.pooma_layout.specs.Patches.{physical_of, internal_of, external_of, borders_of, owned_boxes, IsLayout}
use Rattle.pooma_layout.proofs.Cutting.{length-cut_at}
use Rattle.pooma_layout.proofs.Choices.{length-boxes_of}
use Rattle.pooma_layout.proofs.Finding.{length-parts}

pub all_at : {A : Type 0} (P : A → Type 0) (xs : List A) (n : ℕ) (x : A) → All P xs → slice_get xs n ≡ Some x → P x
all_at P xs n x all at =
    subst P (get_or_from_slice_get xs n x x at) (all n x (slice_get_within xs n x at))

pub all_zip_at : {A B : Type 0} (R : A → B → Type 0) (xs : List A) (ys : List B) (n : ℕ) (x : A) (y : B) → AllZip R xs ys → slice_get xs n ≡ Some x → slice_get ys n ≡ Some y → R x y
all_zip_at R [] ys n x y all at_x at_y = cc
all_zip_at R (a ∷ xs) [] n x y all at_x at_y = cc
all_zip_at R (a ∷ xs) (b ∷ ys) zero x y all at_x at_y =
    let same_x : a ≡ x = cc in
    let same_y : b ≡ y = cc in
    subst (λ v. R v y) same_x (subst (λ v. R a v) same_y all.0)
all_zip_at R (a ∷ xs) (b ∷ ys) (suc n) x y all at_x at_y = all_zip_at R xs ys n x y all.1 at_x at_y

each_of_at : {A B C : Type 0} (f : A → B → C) (xs : List A) (ys : List B) (n : ℕ) (x : A) (y : B) → slice_get xs n ≡ Some x → slice_get ys n ≡ Some y → slice_get (each_of f xs ys) n ≡ Some (f x y)
each_of_at f [] ys n x y at_x at_y = cc
each_of_at f (a ∷ xs) [] n x y at_x at_y = cc
each_of_at f (a ∷ xs) (b ∷ ys) zero x y at_x at_y = cc
each_of_at f (a ∷ xs) (b ∷ ys) (suc n) x y at_x at_y = each_of_at f xs ys n x y at_x at_y

-- what holds of the axes so far is what is to hold of so many axes
pub prefix_more : {B : Type 0} (f : CutAxis → B) (ys : List B) (n : ℕ) (axes : List CutAxis) (axis : CutAxis) (y : B) → map f axes ≡ take n ys → slice_get ys n ≡ Some y → f axis ≡ y → map f (axes ++ axis ∷ []) ≡ take (n + 1) ys
prefix_more f ys n axes axis y so_far at is =
    map_push f axes axis
    ∙ ap (λ front. front ++ f axis ∷ []) so_far
    ∙ ap (λ v. take n ys ++ v ∷ []) (is ∙ sym (get_or_from_slice_get ys n y y at))
    ∙ sym (take_more ys n y (slice_get_within ys n y at))

-- the number of patches is the product of the numbers of parts
length-owned_boxes : (axes : List CutAxis) → length (owned_boxes axes) ≡ product (map (λ axis. length (parts axis)) axes)
length-owned_boxes [] = refl
length-owned_boxes (axis ∷ axes) = length-boxes_of (parts axis) (map parts axes) ∙ ap (λ n. length (parts axis) * n) (length-owned_boxes axes)

-- the axes so far of a grid
pub record GridTo (domain : List Interval) (counts internal external : List ℤ) (n : ℕ) (axes : List CutAxis) : Type 0 where
  pub physical_so_far : physical_of axes ≡ take n domain
  pub internal_so_far : internal_of axes ≡ take n internal
  pub external_so_far : external_of axes ≡ take n external
  pub lengths_so_far : map part_lengths axes ≡ take n (each_of blocks_of domain counts)
  pub valid : All IsCutAxis axes

pub grid_none : (domain : List Interval) (counts internal external : List ℤ) → GridTo domain counts internal external 0 []
grid_none domain counts internal external = record {
  physical_so_far = refl;
  internal_so_far = refl;
  external_so_far = refl;
  lengths_so_far = refl;
  valid = All-nil IsCutAxis;
}

pub grid_more : (domain : List Interval) (counts internal external : List ℤ) (n : ℕ) (axes : List CutAxis) (axis : CutAxis) (a : Interval) (g i e : ℤ) → GridTo domain counts internal external n axes → slice_get domain n ≡ Some a → slice_get counts n ≡ Some g → slice_get internal n ≡ Some i → slice_get external n ≡ Some e → axis.physical ≡ a → axis.internal ≡ i → axis.external ≡ e → part_lengths axis ≡ blocks_of a g → IsCutAxis axis → GridTo domain counts internal external (n + 1) (axes ++ axis ∷ [])
grid_more domain counts internal external n axes axis a g i e so_far at_a at_g at_i at_e physical_is internal_is external_is lengths_are valid = record {
  physical_so_far = prefix_more (λ x. x.physical) domain n axes axis a so_far.physical_so_far at_a physical_is;
  internal_so_far = prefix_more (λ x. x.internal) internal n axes axis i so_far.internal_so_far at_i internal_is;
  external_so_far = prefix_more (λ x. x.external) external n axes axis e so_far.external_so_far at_e external_is;
  lengths_so_far = prefix_more part_lengths (each_of blocks_of domain counts) n axes axis (blocks_of a g) so_far.lengths_so_far (each_of_at blocks_of domain counts n a g at_a at_g) lengths_are;
  valid = All-push IsCutAxis axes axis so_far.valid valid;
}

-- the blocks of an axis are as many as were asked for
length-blocks_of : (axis : Interval) (g : ℤ) → IsPartCount axis g → length (blocks_of axis g) ≡ count_of g
length-blocks_of axis (negsuc n) h = absurd (omega (arith, ints, h.0))
length-blocks_of axis (pos n) h =
    let rest : axis_length axis % n < n = mod_below (axis_length axis) n (omega (arith, ints, h.0)) in
    length-append (replicate (axis_length axis % n) (axis_length axis / n + 1)) (replicate (n - axis_length axis % n) (axis_length axis / n))
    ∙ omega (arith, rest, length-replicate (axis_length axis % n) (axis_length axis / n + 1), length-replicate (n - axis_length axis % n) (axis_length axis / n))

lengths_of_all : (domain : List Interval) (counts : List ℤ) → AllZip IsPartCount domain counts → map (λ (ns : List ℕ). length ns) (each_of blocks_of domain counts) ≡ map count_of counts
lengths_of_all [] [] h = refl
lengths_of_all [] (g ∷ gs) h = absurd h
lengths_of_all (a ∷ axes) [] h = absurd h
lengths_of_all (a ∷ axes) (g ∷ gs) h =
    ap (λ n. n ∷ map (λ (ns : List ℕ). length ns) (each_of blocks_of axes gs)) (length-blocks_of a g h.0)
    ∙ ap (λ ns. count_of g ∷ ns) (lengths_of_all axes gs h.1)

lengths_of_parts : (axes : List CutAxis) → map (λ axis. length (parts axis)) axes ≡ map (λ (ns : List ℕ). length ns) (map part_lengths axes)
lengths_of_parts [] = refl
lengths_of_parts (axis ∷ axes) =
    let same : length (parts axis) ≡ length (part_lengths axis) =
    omega (arith, length-parts axis, length-map (cut_at axis.physical.first axis.borders axis.physical.last) axis_length, length-cut_at axis.physical.first axis.borders axis.physical.last) in
    ap (λ n. n ∷ map (λ a. length (parts a)) axes) same
    ∙ ap (λ ns. length (part_lengths axis) ∷ ns) (lengths_of_parts axes)

pub grid_patches : (domain : List Interval) (counts : List ℤ) (axes : List CutAxis) → AllZip IsPartCount domain counts → map part_lengths axes ≡ each_of blocks_of domain counts → length (owned_boxes axes) ≡ product (map count_of counts)
grid_patches domain counts axes fits lengths =
    length-owned_boxes axes
    ∙ ap product (lengths_of_parts axes ∙ ap (map (λ (ns : List ℕ). length ns)) lengths ∙ lengths_of_all domain counts fits)

-- the axes so far of a layout that is cut at given borders
pub record CutsTo (domain : List Interval) (cuts : List (List ℤ)) (internal external : List ℤ) (n : ℕ) (axes : List CutAxis) : Type 0 where
  pub physical_so_far : physical_of axes ≡ take n domain
  pub internal_so_far : internal_of axes ≡ take n internal
  pub external_so_far : external_of axes ≡ take n external
  pub borders_so_far : borders_of axes ≡ take n cuts
  pub valid : All IsCutAxis axes

pub cuts_none : (domain : List Interval) (cuts : List (List ℤ)) (internal external : List ℤ) → CutsTo domain cuts internal external 0 []
cuts_none domain cuts internal external = record {
  physical_so_far = refl;
  internal_so_far = refl;
  external_so_far = refl;
  borders_so_far = refl;
  valid = All-nil IsCutAxis;
}

-- the conditions on all axes are those on each
pub cut_axis_at : (domain : List Interval) (cuts : List (Vec ℤ Global)) (internal external : List ℤ) (n : ℕ) (a : Interval) (list : Vec ℤ Global) (i e : ℤ) → All IsNear domain → All (λ v. IsAscending v.items) cuts → AllZip (λ x v. AreBorders x v.items) domain cuts → All IsDepth internal × All IsDepth external → AllZip IsCovering domain external → slice_get domain n ≡ Some a → slice_get cuts n ≡ Some list → slice_get internal n ≡ Some i → slice_get external n ≡ Some e → IsCutAxis (cut_axis a e i list.items)
cut_axis_at domain cuts internal external n a list i e near ascending inside depths covering at_a at_list at_i at_e = record {
  near = all_at IsNear domain n a near at_a;
  external_depth = all_at IsDepth external n e depths.1 at_e;
  internal_depth = all_at IsDepth internal n i depths.0 at_i;
  covering = all_zip_at IsCovering domain external n a e covering at_a at_e;
  ascending = all_at (λ (v : Vec ℤ Global). IsAscending v.items) cuts n list ascending at_list;
  inside = all_zip_at (λ x (v : Vec ℤ Global). AreBorders x v.items) domain cuts n a list inside at_a at_list;
}

pub cuts_more : (domain : List Interval) (cuts : List (List ℤ)) (internal external : List ℤ) (n : ℕ) (axes : List CutAxis) (axis : CutAxis) (a : Interval) (list : List ℤ) (i e : ℤ) → CutsTo domain cuts internal external n axes → slice_get domain n ≡ Some a → slice_get cuts n ≡ Some list → slice_get internal n ≡ Some i → slice_get external n ≡ Some e → axis ≡ cut_axis a e i list → IsCutAxis (cut_axis a e i list) → CutsTo domain cuts internal external (n + 1) (axes ++ axis ∷ [])
cuts_more domain cuts internal external n axes axis a list i e so_far at_a at_list at_i at_e is valid = record {
  physical_so_far = prefix_more (λ x. x.physical) domain n axes axis a so_far.physical_so_far at_a (ap (λ (x : CutAxis). x.physical) is);
  internal_so_far = prefix_more (λ x. x.internal) internal n axes axis i so_far.internal_so_far at_i (ap (λ (x : CutAxis). x.internal) is);
  external_so_far = prefix_more (λ x. x.external) external n axes axis e so_far.external_so_far at_e (ap (λ (x : CutAxis). x.external) is);
  borders_so_far = prefix_more (λ x. x.borders) cuts n axes axis list so_far.borders_so_far at_list (ap (λ (x : CutAxis). x.borders) is);
  valid = All-push IsCutAxis axes axis so_far.valid (subst IsCutAxis (sym is) valid);
}

parts_of_cuts : (axes : List CutAxis) → map (λ axis. length (parts axis)) axes ≡ map (λ (list : List ℤ). length list + 1) (borders_of axes)
parts_of_cuts [] = refl
parts_of_cuts (axis ∷ axes) =
    ap (λ n. n ∷ map (λ a. length (parts a)) axes) (sym (length-parts axis))
    ∙ ap (λ ns. (length axis.borders + 1) ∷ ns) (parts_of_cuts axes)

pub cuts_patches : (cuts : List (List ℤ)) (axes : List CutAxis) → borders_of axes ≡ cuts → length (owned_boxes axes) ≡ product (map (λ (list : List ℤ). length list + 1) cuts)
cuts_patches cuts axes borders =
    length-owned_boxes axes ∙ ap product (parts_of_cuts axes ∙ ap (map (λ (list : List ℤ). length list + 1)) borders)

-- all axes make a layout
pub is_layout : (domain : List Interval) (axes : List CutAxis) → 0 < length domain → length domain ≤ 3 → physical_of axes ≡ domain → All IsCutAxis axes → length (owned_boxes axes) ≤ 256 → IsLayout axes
is_layout domain axes some few physical valid patches =
    let same : length axes ≡ length domain = sym (length-map axes (λ axis. axis.physical)) ∙ ap length physical in
    record {
      some = omega (arith, same, some);
      few_axes = omega (arith, same, few);
      axes = valid;
      few_patches = patches;
    }

-- a number of parts, as the code casts it
pub count_fits : (z y : ℤ) (axis : Interval) → IsPartCount axis z → axis_length axis ≤ 8000001 → y ≡ z → T (non_neg y) × Fits w32 (unsigned_abs y)
count_fits (negsuc n) y axis count long same = absurd (omega (arith, ints, count.0))
count_fits (pos n) y axis count long same =
    let fits : n < 2 ^ 32 = omega (arith, ints, count.1, long) in
    subst (λ (v : ℤ). T (non_neg v) × Fits w32 (unsigned_abs v)) (sym same) (tt, omega (arith, fits))

pub count_cast : (z y : ℤ) (axis : Interval) → IsPartCount axis z → y ≡ z → (unsigned_abs y ≡ count_of z) × (0 < unsigned_abs y) × (unsigned_abs y ≤ axis_length axis)
count_cast (negsuc n) y axis count same = absurd (omega (arith, ints, count.0))
count_cast (pos n) y axis count same =
    subst (λ (v : ℤ). (unsigned_abs v ≡ n) × (0 < unsigned_abs v) × (unsigned_abs v ≤ axis_length axis)) (sym same)
    (refl, omega (arith, ints, count.0), omega (arith, ints, count.1))

pub length_of_zip : {A B : Type 0} (R : A → B → Type 0) (xs : List A) (ys : List B) → AllZip R xs ys → length xs ≡ length ys
length_of_zip R [] [] h = refl
length_of_zip R [] (y ∷ ys) h = absurd h
length_of_zip R (x ∷ xs) [] h = absurd h
length_of_zip R (x ∷ xs) (y ∷ ys) h = ap suc (length_of_zip R xs ys h.1)

-- at the end all axes are there
pub all_of : {B : Type 0} (xs ys : List B) (n : ℕ) → xs ≡ take n ys → length ys ≤ n → xs ≡ ys
all_of xs ys n so_far whole = so_far ∙ take_all n ys whole

pub length-each_of : {X Y Z : Type 0} (f : X → Y → Z) (xs : List X) (ys : List Y) → length (each_of f xs ys) ≤ length xs
length-each_of f [] ys = omega arith
length-each_of f (x ∷ xs) [] = omega arith
length-each_of f (x ∷ xs) (y ∷ ys) = omega (arith, length-each_of f xs ys)

pub same_axis : (physical : Interval) {e1 e2 i1 i2 : ℤ} {b1 b2 : List ℤ} → e1 ≡ e2 → i1 ≡ i2 → b1 ≡ b2 → cut_axis physical e1 i1 b1 ≡ cut_axis physical e2 i2 b2
same_axis physical {e2 = e2} {i1 = i1} {i2 = i2} {b1 = b1} e i b =
    ap (λ v. cut_axis physical v i1 b1) e ∙ ap (λ v. cut_axis physical e2 v b1) i ∙ ap (λ v. cut_axis physical e2 i2 v) b

pub lengths_of_lists : (cuts : List (Vec ℤ Global)) → map (λ list. length list.items + 1) cuts ≡ map (λ (list : List ℤ). length list + 1) (map (λ list. list.items) cuts)
lengths_of_lists [] = refl
lengths_of_lists (list ∷ lists) = ap (λ ns. (length list.items + 1) ∷ ns) (lengths_of_lists lists)
