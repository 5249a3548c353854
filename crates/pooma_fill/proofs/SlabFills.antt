-- The fills of a slab: what each of them sets, and that one of them sets each of the slab's cells.
use Rattle.std.proofs.Common.{refl, sym, ap, ◌∙◌, subst, inl, inr, ⊎_elim, arith}
use Rattle.std.proofs.lemmas.Bool.{cases_lt, false≢true}
use Rattle.std.proofs.lemmas.Bool.Decides.{Decides-eqb}
use Rattle.std.proofs.lemmas.List.Elements.{Contains-append_left, Contains-append_right, Contains-append_cases}
use Rattle.std.proofs.lemmas.Option.{same_Some}
use Rattle.std.specs.List.{cons_option}
use Rattle.std.specs.Prelude.{◌≡◌, ◌↔◌, ◌⊎◌, ◌==◌, ◌&&◌, ℕ, zero, suc, ◌+◌, ◌<◌, ◌≤◌, ℤ, Bool, true, false, Option, Some, None, option_map, List, [], ◌∷◌, length, map, filter_map, flat_map, All, Contains}
use Rattle.pooma_domain.specs.Cells.{Interval, cells_of, IsIn}
use Rattle.pooma_domain.specs.Operations.{common_axes, IsMeeting}
use Rattle.pooma_field.specs.declared.shapes.Shape.{Shape}
use Rattle.pooma_field.specs.declared.shapes.Slab.{Slab}
use Rattle.pooma_field.specs.Shapes.{IsShape}
use Rattle.pooma_field.specs.ShapeOf.{shape_of}
use Rattle.pooma_field.specs.Slabs.{slabs_of}
use Rattle.pooma_field.proofs.SlabBoxes.{firsts_in}
use Rattle.pooma_field.proofs.SlabList.{at_place, contained, kept_by}
use Rattle.pooma_layout.specs.Axes.{CutAxis, IsCutAxis}
use Rattle.pooma_layout.specs.Patches.{owner_of, total_of}
use Rattle.pooma_layout.proofs.Stepping.{owner_below}
use Rattle.pooma_piece.specs.Pieces.{Pieced}
use Rattle.pooma_store.specs.Numbering.{layout_at, patch_count}
use Rattle.pooma_fill.specs.Boxes.{box_of, counting_from, numbers_below}
use Rattle.pooma_fill.specs.Filling.{cells_filled, fill_of_box, fills_of_patch, fills_of_slab, is_patch, patches_of, source_from, source_owner}
use Rattle.pooma_fill.proofs.Listed.{HasLaws, no_source, patches_constant, patches_moving, source_owned}
use Rattle.pooma_fill.proofs.FilledCells.{HasBox, IsTaken, constant_or_moving, has_box, ordered_by, total_cell, source_total_of}

-- ---- elements of lists

pub later : {X : Type 0} (y : X) (xs : List X) (x : X) → Contains xs x → Contains (y ∷ xs) x
later y xs x h = (suc h.0, omega (arith, h.1), h.2)

pub here : {X : Type 0} (xs : List X) (x : X) → Contains (x ∷ xs) x
here xs x = (0, omega arith, refl)

pub first_or_later : {X : Type 0} (y : X) (xs : List X) (x : X) → Contains (y ∷ xs) x → (y ≡ x) ⊎ Contains xs x
first_or_later y xs x (zero, below, is) = inl is
first_or_later y xs x (suc k, below, is) = inr (k, omega (arith, below), is)

pub in_flat : {X Y : Type 0} (f : X → List Y) (xs : List X) (y : Y) → Contains (flat_map f xs) y → (x : X) × Contains xs x × Contains (f x) y
in_flat f [] y h = absurd (omega (arith, h.1))
in_flat f (x ∷ xs) y h =
    ⊎_elim (λ now. (x, here xs x, now)) (λ rest. let r = in_flat f xs y rest in (r.0, later x xs r.0 r.1, r.2)) (Contains-append_cases (f x) (flat_map f xs) y h)

pub of_flat : {X Y : Type 0} (f : X → List Y) (xs : List X) (x : X) (y : Y) → Contains xs x → Contains (f x) y → Contains (flat_map f xs) y
of_flat f [] x y h k = absurd (omega (arith, h.1))
of_flat {X} {Y} f (z ∷ xs) x y h k =
    ⊎_elim (λ is. Contains-append_left (f z) (flat_map f xs) y (subst (λ (w : X). Contains (f w) y) (sym is) k))
    (λ rest. Contains-append_right (f z) (flat_map f xs) y (of_flat f xs x y rest k)) (first_or_later z xs x h)

in_option : {Y : Type 0} (o : Option Y) (ys : List Y) (y : Y) → Contains (cons_option o ys) y → (o ≡ Some y) ⊎ Contains ys y
in_option None ys y h = inr h
in_option (Some z) ys y h = ⊎_elim (λ is. inl (ap Some is)) (λ rest. inr rest) (first_or_later z ys y h)

of_option : {Y : Type 0} (o : Option Y) (ys : List Y) (y : Y) → Contains ys y → Contains (cons_option o ys) y
of_option None ys y h = h
of_option (Some z) ys y h = later z ys y h

in_some : {X Y : Type 0} (f : X → Option Y) (xs : List X) (y : Y) → Contains (filter_map f xs) y → (x : X) × Contains xs x × (f x ≡ Some y)
in_some f [] y h = absurd (omega (arith, h.1))
in_some f (x ∷ xs) y h =
    ⊎_elim (λ is. (x, here xs x, is)) (λ rest. let r = in_some f xs y rest in (r.0, later x xs r.0 r.1, r.2)) (in_option (f x) (filter_map f xs) y h)

of_some : {X Y : Type 0} (f : X → Option Y) (xs : List X) (x : X) (y : Y) → Contains xs x → f x ≡ Some y → Contains (filter_map f xs) y
of_some f [] x y h is = absurd (omega (arith, h.1))
of_some {X} {Y} f (z ∷ xs) x y h is =
    ⊎_elim
    (λ same. subst (λ (o : Option Y). Contains (cons_option o (filter_map f xs)) y) (sym (ap f same ∙ is)) (here (filter_map f xs) y))
    (λ rest. of_option (f z) (filter_map f xs) y (of_some f xs x y rest is)) (first_or_later z xs x h)

pub of_map : {X Y : Type 0} (f : X → Y) (xs : List X) (x : X) → Contains xs x → Contains (map f xs) (f x)
of_map f [] x h = absurd (omega (arith, h.1))
of_map {X} {Y} f (z ∷ xs) x h =
    ⊎_elim (λ same. subst (λ (w : X). Contains (f z ∷ map f xs) (f w)) same (here (map f xs) (f z))) (λ rest. later (f z) (map f xs) (f x) (of_map f xs x rest)) (first_or_later z xs x h)

in_counting : (k m x : ℕ) → Contains (counting_from k m) x → (k ≤ x) × (x < k + m)
in_counting k zero x h = absurd (omega (arith, h.1))
in_counting k (suc m) x h =
    ⊎_elim (λ is. (omega (arith, is), omega (arith, is))) (λ rest. let r = in_counting (suc k) m x rest in (omega (arith, r.0), omega (arith, r.1))) (first_or_later k (counting_from (suc k) m) x h)

of_counting : (k m x : ℕ) → k ≤ x → x < k + m → Contains (counting_from k m) x
of_counting k zero x low high = absurd (omega (arith, low, high))
of_counting k (suc m) x low high = by (k == x) refl (λ above. of_counting (suc k) m x above (omega (arith, high)))
  where
    above : ((k ≡ x) → ⊥) → suc k ≤ x
    above other = ⊎_elim (λ less. less) (λ most. absurd (other (omega (arith, low, most)))) (cases_lt k x)

    by : (b : Bool) → (k == x) ≡ b → (suc k ≤ x → Contains (counting_from (suc k) m) x) → Contains (k ∷ counting_from (suc k) m) x
    by true e rest = subst (Contains (k ∷ counting_from (suc k) m)) ((Decides-eqb k x).0 e) (here (counting_from (suc k) m) k)
    by false e rest =
        let other : (k ≡ x) → ⊥ = λ same. false≢true (sym e ∙ (Decides-eqb k x).1 same) in
        later k (counting_from (suc k) m) x (rest (above other))

pub below_in : (n k : ℕ) → Contains (numbers_below n) k → k < n
below_in n k h = let r = in_counting 0 n k h in omega (arith, r.1)

pub in_below : (n k : ℕ) → k < n → Contains (numbers_below n) k
in_below n k h = of_counting 0 n k (omega arith) (omega (arith, h))

and_both : (a b : Bool) → (a && b) ≡ true → (a ≡ true) × (b ≡ true)
and_both true b e = (refl, e)
and_both false b e = absurd (false≢true e)

pub of_mapped : {X Y : Type 0} (f : X → Y) (o : Option X) (y : Y) → option_map f o ≡ Some y → (x : X) × (o ≡ Some x) × (f x ≡ y)
of_mapped f None y e = cc
of_mapped f (Some x) y e = (x, refl, same_Some (f x) y e)

-- cells that make up a box are some
some_cell : (cells : List (List ℤ)) (box : List Interval) → box_of cells ≡ Some box → (c : List ℤ) × Contains cells c
some_cell [] box e = cc
some_cell (c ∷ cells) box e = (c, here cells c)

-- ---- the fills of a slab

module _ (laws : HasLaws) (meeting : (a b : List Interval) → length a ≡ length b → IsMeeting a b (common_axes a b)) (layouts : List (List CutAxis)) (array : ℕ) (shape : Shape) (cut : All IsCutAxis (layout_at layouts array)) (valid : IsShape (shape_of shape)) (same : (shape_of shape).total ≡ total_of (layout_at layouts array)) (slab : Slab) (there : Contains (slabs_of (shape_of shape)) slab) (number : ℕ) where
  abbrev layout : List CutAxis
  layout = layout_at layouts array

  -- the piece sets the slab's cells that one patch owns, and whose values are taken from one
  pub record IsFillOf (piece : Pieced) : Type 0 where
    pub target : ℕ
    pub source : Option ℕ
    pub within : target < patch_count (layout_at layouts array)
    pub box : List Interval
    pub cells : (c : List ℤ) → IsIn box c ↔ IsTaken (layout_at layouts array) cut (shape_of shape) valid same slab there target source c
    pub first : IsIn box (map (λ axis. axis.first) box)
    pub is : fill_of_box layouts number shape array slab target box ≡ piece

  pub each_fill : (piece : Pieced) → Contains (fills_of_slab layouts number shape array slab) piece → IsFillOf piece
  each_fill piece h =
      let of_target = in_flat (fills_of_patch layouts number shape array slab) (numbers_below (patch_count layout)) piece h in
      let target : ℕ = of_target.0 in
      let of_source = in_some
      (λ source. option_map (fill_of_box layouts number shape array slab target) (box_of (cells_filled layout (shape_of shape) slab target source)))
      (patches_of slab.updater (patch_count layout)) piece of_target.2 in
      let source : Option ℕ = of_source.0 in
      let found = of_mapped (fill_of_box layouts number shape array slab target) (box_of (cells_filled layout (shape_of shape) slab target source)) piece of_source.2 in
      let some = some_cell (cells_filled layout (shape_of shape) slab target source) found.0 found.1 in
      let left = at_place (cells_filled layout (shape_of shape) slab target source) some.0 some.1 in
      let kept = kept_by (λ c. (owner_of layout c == target) && is_patch (source_owner layout (shape_of shape) slab c) source) (cells_of slab.target) left.0 some.0 left.1 in
      let tests = and_both (owner_of layout some.0 == target) (is_patch (source_owner layout (shape_of shape) slab some.0) source) kept.2 in
      let taken : IsTaken layout cut (shape_of shape) valid same slab there target source some.0 = record {
        inside = (laws.cells.members slab.target some.0).0 (contained (cells_of slab.target) kept.0 some.0 kept.1);
        owner = (Decides-eqb (owner_of layout some.0) target).0 tests.0;
        from = tests.1;
      } in
      let has : HasBox layout cut (shape_of shape) valid same slab there target source = has_box layout cut (shape_of shape) valid same slab there laws meeting target source some.0 taken in
      let box_is : has.box ≡ found.0 = same_Some has.box found.0 (sym has.is ∙ found.1) in
      record {
        target = target;
        source = source;
        within = below_in (patch_count layout) target of_target.1;
        box = has.box;
        cells = has.cells;
        first = firsts_in has.box (ordered_by has.box some.0 ((has.cells some.0).1 taken));
        is = ap (fill_of_box layouts number shape array slab target) box_is ∙ found.2;
      }

  -- the patch from which a cell's value is taken is one of those that are looked at
  source_there : (c : List ℤ) → IsIn slab.target c → Contains (patches_of slab.updater (patch_count layout)) (source_owner layout (shape_of shape) slab c)
  source_there c inside =
      ⊎_elim
      (λ constant. rw (patches_constant slab.updater (patch_count layout) constant, no_source layout (shape_of shape) slab c constant) (here [] None))
      (λ moving. rw (patches_moving slab.updater (patch_count layout) moving, source_owned layout (shape_of shape) slab c moving)
      (of_map Some (numbers_below (patch_count layout)) (owner_of layout (source_from (shape_of shape) slab c))
      (in_below (patch_count layout) (owner_of layout (source_from (shape_of shape) slab c))
      (owner_below layout (source_from (shape_of shape) slab c) (source_total_of layout cut (shape_of shape) valid same slab there c inside moving)))))
      (constant_or_moving slab.updater)

  itself : (o : Option ℕ) → is_patch o o ≡ true
  itself None = refl
  itself (Some p) = (Decides-eqb p p).1 refl

  -- one fill sets the cell
  pub record IsSet (c : List ℤ) : Type 0 where
    pub piece : Pieced
    pub listed : Contains (fills_of_slab layouts number shape array slab) piece
    pub inside : IsIn piece.positions c

  pub each_set : (c : List ℤ) → IsIn slab.target c → IsSet c
  each_set c inside =
      let target : ℕ = owner_of layout c in
      let source : Option ℕ = source_owner layout (shape_of shape) slab c in
      let taken : IsTaken layout cut (shape_of shape) valid same slab there target source c = record { inside = inside; owner = refl; from = itself source } in
      let has : HasBox layout cut (shape_of shape) valid same slab there target source = has_box layout cut (shape_of shape) valid same slab there laws meeting target source c taken in
      record {
        piece = fill_of_box layouts number shape array slab target has.box;
        listed =
            of_flat (fills_of_patch layouts number shape array slab) (numbers_below (patch_count layout)) target (fill_of_box layouts number shape array slab target has.box)
            (in_below (patch_count layout) target (owner_below layout c (total_cell layout cut (shape_of shape) valid same slab there c inside)))
            (of_some
            (λ s. option_map (fill_of_box layouts number shape array slab target) (box_of (cells_filled layout (shape_of shape) slab target s)))
            (patches_of slab.updater (patch_count layout)) source (fill_of_box layouts number shape array slab target has.box) (source_there c inside)
            (ap (option_map (fill_of_box layouts number shape array slab target)) has.is));
        inside = (has.cells c).1 taken;
      }
