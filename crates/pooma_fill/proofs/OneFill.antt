-- What one fill leaves.
use Rattle.std.proofs.Common.{refl, sym, ap, ◌∙◌, subst, inr, ⊎_elim, arith}
use Rattle.std.proofs.lemmas.Int.{ints}
use Rattle.std.proofs.lemmas.Option.{get_or_from_slice_get, slice_get-get_or, slice_get-map, slice_get_within}
use Rattle.std.specs.Option.{option_and_then}
use Rattle.std.specs.Prelude.{◌≡◌, ◌≢◌, ℕ, ◌<◌, ℤ, Option, Some, option_map, List, [], ◌∷◌, length, map, slice_get, slice_index_or, All, Contains}
use Rattle.pooma_domain.specs.Cells.{cells_of, IsBefore, IsIn}
use Rattle.pooma_field.specs.declared.shapes.Shape.{Shape}
use Rattle.pooma_field.specs.declared.shapes.Slab.{Slab}
use Rattle.pooma_field.specs.Look.{look}
use Rattle.pooma_field.specs.Numbered.{Change, Numbered}
use Rattle.pooma_field.specs.ShapeOf.{shape_of}
use Rattle.pooma_field.specs.Slabs.{cell_sources, cell_value}
use Rattle.pooma_field.specs.Worlds.{World, HasCell, number_of}
use Rattle.pooma_field.proofs.SlabCells.{inside_or_not}
use Rattle.pooma_field.proofs.SlabValues.{external_cell, value_is}
use Rattle.pooma_layout.specs.Axes.{CutAxis}
use Rattle.pooma_layout.specs.Patches.{Owns, owner_of}
use Rattle.pooma_machine.specs.Values.{Lent, lent_by, new_value_of, put_back, written_object}
use Rattle.pooma_store.specs.Numbering.{AreObjects, EachCell, HasPatch, changed_at, layout_at, object_at, object_count, object_of}
use Rattle.pooma_store.specs.Standing.{OwnerHas, StandsFor}
use Rattle.pooma_store.proofs.ObjectNumbers.{object_there}
use Rattle.pooma_store.proofs.OwnerNumbers.{objects_counted}
use Rattle.pooma_piece.specs.declared.task.Task.TheVariants.{Fill}
use Rattle.pooma_piece.specs.Effects.{content_by}
use Rattle.pooma_piece.specs.Fills.{fill_change, filled_at, numbers_lent}
use Rattle.pooma_piece.specs.Lent.{lent_for, number_in}
use Rattle.pooma_piece.specs.Meaning.{pieces}
use Rattle.pooma_piece.specs.Pieces.{Pieced, requests_of}
use Rattle.pooma_piece.proofs.Naming.{lent_is, written_is}
use Rattle.pooma_fill.specs.Filling.{fill_of_box}
use Rattle.pooma_fill.proofs.Listed as listed
use Rattle.pooma_fill.specs.Gathered.{HasLaws}
use Rattle.pooma_fill.proofs.FilledCells.{of_slab, owns_it}
use Rattle.pooma_fill.proofs.SlabFills.{here, later, of_map, of_mapped}
use Rattle.pooma_fill.proofs.FillFits.{IsFill, IsOver, asks_known, reads_are, taken}

pub of_cells : HasLaws → listed.HasLaws
of_cells laws = record { cells = laws.cells; owners = laws.owners }

not_before_itself : (c : List ℤ) → IsBefore c c → ⊥
not_before_itself [] h = h
not_before_itself (x ∷ xs) h = ⊎_elim (λ rest. not_before_itself xs rest) (λ now. omega (arith, ints, now.1)) h

numbers_lent_are : (piece : Pieced) (written : Option Numbered) (reads : List Numbered) (g : List ℤ → ℕ) (value : List ℤ → ℤ) (cells : List (List ℤ)) → ((s : List ℤ) → Contains cells s → number_in (lent_for piece written reads (g s)) s ≡ value s) → numbers_lent piece written reads (map g cells) cells ≡ map value cells
numbers_lent_are piece written reads g value [] h = refl
numbers_lent_are piece written reads g value (c ∷ cells) h =
    ap (λ (n : ℤ). n ∷ numbers_lent piece written reads (map g cells) cells) (h c (here cells c))
    ∙ ap (λ (ns : List ℤ). value c ∷ ns) (numbers_lent_are piece written reads g value cells (λ s k. h s (later c cells s k)))

module _ (laws : HasLaws) (layouts : List (List CutAxis)) (array : ℕ) (shape : Shape) (slab : Slab) (over : IsOver layouts array shape slab) (number : ℕ) (world : World) where
  abbrev pub IsOne : Pieced → Type 0
  IsOne piece = IsFill (of_cells laws) laws.meeting layouts array shape slab over number piece

  -- the cell has in the patch that owns it the number that looking it up gives
  abbrev pub Has : List Numbered → List ℤ → Type 0
  Has objects c = OwnerHas layouts objects array c (look (shape_of shape) (number_of world array) c)

  module _ (piece : Pieced) (fill : IsOne piece) (objects : List Numbered) (are : AreObjects layouts objects) where
    abbrev pub work : Pieced
    work = fill_of_box layouts number shape array slab fill.target fill.box

    abbrev pub object : ℕ
    object = object_of layouts array fill.target

    abbrev pub lent : Lent Numbered
    lent = lent_by objects (requests_of (fill_of_box layouts number shape array slab fill.target fill.box))

    abbrev old : Numbered
    old = object_at objects (object_of layouts array fill.target)

    counted : length objects ≡ object_count layouts
    counted = objects_counted layouts objects are

    known : object_of layouts array fill.target < length objects
    known = omega (arith, counted, object_there layouts array fill.target over.known fill.within)

    all_there : All (λ r. r.object < length objects) (requests_of work)
    all_there = subst (λ (n : ℕ). All (λ r. r.object < n) (requests_of work)) (sym counted) (asks_known (of_cells laws) laws.meeting layouts array shape slab over number piece fill)

    patch : HasPatch layouts array fill.target
    patch = record { known = over.known; cut = over.layout; within = fill.within }

    written : lent.written ≡ Some old
    written =
        ap (option_and_then (slice_get objects)) (written_is (Some (object_of layouts array fill.target)) work.reads)
        ∙ slice_get-get_or objects (object_of layouts array fill.target) (record { area = []; numbers = [] }) known

    abbrev change_of : List ℤ → Change
    change_of c = fill_change (shape_of shape) slab work (Some old) lent.reads c

    abbrev changes : List Change
    changes = map (fill_change (shape_of shape) slab work (Some old) lent.reads) (cells_of fill.box)

    pub objects_after : put_back objects (written_object (requests_of work)) (new_value_of pieces work lent) ≡ changed_at objects object changes
    objects_after =
        ap (λ o. put_back objects o (new_value_of pieces work lent)) (written_is (Some (object_of layouts array fill.target)) work.reads)
        ∙ ap (λ (w : Option Numbered). put_back objects (Some (object_of layouts array fill.target)) (option_map (λ o. content_by (Fill shape slab array) work o lent.reads) w)) written

    -- what is so of each of its cells is so of each changed one
    each_change : (P : List ℤ → Type 0) → ((c : List ℤ) → IsIn fill.box c → P c) → EachCell changes P
    each_change P h k change at =
        let from = of_mapped change_of (slice_get (cells_of fill.box) k) change (sym (slice_get-map change_of (cells_of fill.box) k) ∙ at) in
        subst (λ (x : Change). P x.cell) from.2
        (h from.0 ((laws.cells.members fill.box from.0).0 (k, slice_get_within (cells_of fill.box) k from.0 from.1, get_or_from_slice_get (cells_of fill.box) k from.0 from.0 from.1)))

    pub still : AreObjects layouts (changed_at objects object changes)
    still = laws.objects layouts objects object changes are known

    pub elsewhere : (other : ℕ) (c : List ℤ) (n : ℤ) → other ≢ array → OwnerHas layouts objects other c n → OwnerHas layouts (changed_at objects object changes) other c n
    elsewhere other c n apart has = laws.kept layouts objects array fill.target changes other c n are patch (λ same. absurd (apart same)) has

    pub beside : (c : List ℤ) (n : ℤ) → (IsIn fill.box c → ⊥) → OwnerHas layouts objects array c n → OwnerHas layouts (changed_at objects object changes) array c n
    beside c n out has =
        laws.kept layouts objects array fill.target changes array c n are patch
        (λ same. each_change (λ cell. Owns (layout_at layouts array) fill.target cell → c ≢ cell) (λ d h owns is. out (subst (λ (e : List ℤ). IsIn fill.box e) (sym is) h))) has

    -- where the world has no number for external cells, it is still stood for
    pub still_stands : ((c : List ℤ) → HasCell world array c → IsIn (shape_of shape).physical c) → StandsFor layouts objects world → StandsFor layouts (changed_at objects object changes) world
    still_stands own stands =
        laws.unseen layouts objects world array fill.target changes are patch
        (each_change (λ cell. Owns (layout_at layouts array) fill.target cell → ¬ (HasCell world array cell))
        (λ d h owns has. (external_cell (shape_of shape) slab d over.valid (of_slab (layout_at layouts array) over.layout.axes (shape_of shape) over.valid over.same slab over.there d (taken (of_cells laws) laws.meeting layouts array shape slab over number piece fill d h).inside)).1 (own d has)))
        stands

    -- where the sources have the numbers that looking them up gives, so have the cells that are set
    module _ (sources : (c s : List ℤ) → IsIn slab.target c → Contains (cell_sources (shape_of shape) slab c) s → Has objects s) where
      inside : (c : List ℤ) → IsIn fill.box c → IsIn slab.target c
      inside c h = (taken (of_cells laws) laws.meeting layouts array shape slab over number piece fill c h).inside

      reads : (c : List ℤ) → IsIn fill.box c → work.reads ≡ map (λ s. object_of layouts array (owner_of (layout_at layouts array) s)) (cell_sources (shape_of shape) slab c)
      reads c h = reads_are (of_cells laws) laws.meeting layouts array shape slab over number piece fill c h

      source_number : (c s : List ℤ) → IsIn fill.box c → Contains (cell_sources (shape_of shape) slab c) s → number_in (lent_for work (Some old) lent.reads (object_of layouts array (owner_of (layout_at layouts array) s))) s ≡ look (shape_of shape) (number_of world array) s
      source_number c s h k =
          let has = sources c s (inside c h) k in
          let o : ℕ = object_of layouts array (owner_of (layout_at layouts array) s) in
          let named : Contains work.reads (object_of layouts array (owner_of (layout_at layouts array) s)) =
          subst (λ (os : List ℕ). Contains os (object_of layouts array (owner_of (layout_at layouts array) s))) (sym (reads c h))
          (of_map (λ t. object_of layouts array (owner_of (layout_at layouts array) t)) (cell_sources (shape_of shape) slab c) s k) in
          ap (λ (w : Option Numbered). number_in (lent_for work w lent.reads o) s) (sym written)
          ∙ ap (λ (w : Option Numbered). number_in w s) (lent_is work objects o all_there (inr named) ∙ slice_get-get_or objects o (record { area = []; numbers = [] }) has.number.known)
          ∙ has.number.number

      number_is : (c : List ℤ) → IsIn fill.box c → filled_at (shape_of shape) slab work (Some old) lent.reads c ≡ look (shape_of shape) (number_of world array) c
      number_is c h =
          ap (λ (os : List ℕ). cell_value (shape_of shape) slab c (numbers_lent work (Some old) lent.reads os (cell_sources (shape_of shape) slab c))) (reads c h)
          ∙ ap (cell_value (shape_of shape) slab c)
          (numbers_lent_are work (Some old) lent.reads (λ s. object_of layouts array (owner_of (layout_at layouts array) s)) (look (shape_of shape) (number_of world array)) (cell_sources (shape_of shape) slab c) (λ s k. source_number c s h k))
          ∙ sym (value_is (shape_of shape) (number_of world array) slab c over.valid (of_slab (layout_at layouts array) over.layout.axes (shape_of shape) over.valid over.same slab over.there c (inside c h)))

      apart : (k : ℕ) (c : List ℤ) → slice_get (cells_of fill.box) k ≡ Some c → (j : ℕ) (next : Change) → k < j → slice_get changes j ≡ Some next → next.cell ≢ c
      apart k c at j next before at_j is =
          let from = of_mapped change_of (slice_get (cells_of fill.box) j) next (sym (slice_get-map change_of (cells_of fill.box) j) ∙ at_j) in
          let same : from.0 ≡ c = ap (λ (x : Change). x.cell) from.2 ∙ is in
          let one : slice_index_or (cells_of fill.box) k c ≡ c = get_or_from_slice_get (cells_of fill.box) k c c at in
          let two : slice_index_or (cells_of fill.box) j c ≡ c = get_or_from_slice_get (cells_of fill.box) j from.0 c from.1 ∙ same in
          not_before_itself c
          (subst (λ (d : List ℤ). IsBefore d c) one
          (subst (IsBefore (slice_index_or (cells_of fill.box) k c)) two (laws.cells.ascending fill.box k j c before (slice_get_within (cells_of fill.box) j from.0 from.1))))

      pub set : (c : List ℤ) → IsIn fill.box c → Has (changed_at objects object changes) c
      set c h =
          let listed = (laws.cells.members fill.box c).1 h in
          let at : slice_get (cells_of fill.box) listed.0 ≡ Some c = slice_get-get_or (cells_of fill.box) listed.0 c listed.1 ∙ ap Some listed.2 in
          subst (λ (n : ℤ). OwnerHas layouts (changed_at objects object changes) array c n) (number_is c h)
          (laws.set layouts objects array fill.target changes listed.0 (change_of c) are patch
          (owns_it (layout_at layouts array) over.layout.axes (shape_of shape) over.valid over.same slab over.there fill.target fill.source c (taken (of_cells laws) laws.meeting layouts array shape slab over number piece fill c h))
          (slice_get-map change_of (cells_of fill.box) listed.0 ∙ ap (option_map change_of) at)
          (λ j next before at_j. apart listed.0 c at j next before at_j))

      pub stays : (c : List ℤ) → Has objects c → Has (changed_at objects object changes) c
      stays c has = ⊎_elim (λ h. set c h) (λ out. beside c (look (shape_of shape) (number_of world array) c) out has) (inside_or_not fill.box c)
