-- The list of fills as far as it is made, and which cells one of them sets.
use Rattle.std.proofs.Common.{refl, sym, ap, ◌∙◌, subst, arith, append-nil, append_assoc, cond}
use Rattle.std.proofs.lemmas.Bool.{false≢true}
use Rattle.std.proofs.lemmas.Bool.Decides.{Decides-eqb}
use Rattle.std.proofs.lemmas.Int.{ints}
use Rattle.std.proofs.lemmas.List.{map-append}
use Rattle.std.proofs.lemmas.Nat.{mul-le}
use Rattle.std.proofs.lemmas.List.Elements.{All-contains, All-head, All-tail, filter_map-append}
use Rattle.std.proofs.lemmas.List.Kept.{AllPairs-filter}
use Rattle.std.proofs.lemmas.Option.{slice_get_within, get_or_from_slice_get, same_Some}
use Rattle.std.specs.List.{cons_option}
use Rattle.std.specs.Prelude.{◌≡◌, ◌↔◌, ◌==◌, ◌&&◌, ℕ, zero, suc, ◌+◌, ◌*◌, ◌<◌, ◌≤◌, ℤ, pos, negsuc, ◌+ℤ◌, ◌-ℤ◌, ◌≤ℤ◌, Bool, true, false, Option, Some, None, IsSomeAnd, option_map, List, [], ◌∷◌, ◌++◌, length, map, filter, filter_map, flat_map, slice_get, slice_index_or, slice_set, take, All, Contains}
use Rattle.pooma_domain.specs.Cells.{Interval, axis_length, count_of, cells_of, IsBefore, IsIn, IsOrdered}
use Rattle.pooma_field.specs.declared.shapes.Slab.{Slab}
use Rattle.pooma_field.specs.declared.updaters.Updater.{Updater}
use Rattle.pooma_field.specs.declared.updaters.Updater.TheVariants.{Constant, Periodic, Reflect, Antireflect, Extrapolate}
use Rattle.pooma_field.specs.Shapes.{Shaped}
use Rattle.pooma_field.specs.Slabs.{axis_at, cell_sources, coordinate_at, sources_along}
use Rattle.pooma_field.specs.Updaters.{IsConstant}
use Rattle.pooma_field.proofs.SlabBoxes.{firsts_in, lasts_in}
use Rattle.pooma_layout.specs.Axes.{CutAxis, IsCutAxis}
use Rattle.pooma_layout.specs.Patches.{Owns, owned_boxes, owner_of, total_of}
use Rattle.pooma_store.specs.Gathered.{OfOwners}
use Rattle.pooma_store.specs.Numbering.{layout_at}
use Rattle.pooma_store.specs.Standing.{shape_at}
use Rattle.pooma_store.specs.Stored.{AreArrays}
use Rattle.pooma_piece.specs.Gathered.{OfCells}
use Rattle.pooma_fill.specs.Boxes.{box_of, counting_from, numbers_below}
use Rattle.pooma_fill.specs.Filling.{cells_filled, is_patch, patches_of, source_from, source_owner}
use Rattle.pooma_fill.proofs.Spans.{box_is, no_box}
use Rattle.pooma_fill.proofs.Taken.{length_cell}

-- ---- one more

pub counting_more : (k m n : ℕ) → n ≡ suc m → counting_from k n ≡ counting_from k m ++ (k + m) ∷ []
counting_more k m zero next = absurd (omega (arith, next))
counting_more k zero (suc n) next =
    let none : n ≡ 0 = omega (arith, next) in
    let here : k + 0 ≡ k = omega arith in
    rw (none, here) refl
counting_more k (suc m) (suc n) next =
    let there : suc k + m ≡ k + suc m = omega arith in
    ap (λ (ks : List ℕ). k ∷ ks) (counting_more (suc k) m n (omega (arith, next)) ∙ ap (λ (j : ℕ). counting_from (suc k) m ++ j ∷ []) there)

pub below_more : (m : ℕ) → numbers_below (m + 1) ≡ numbers_below m ++ m ∷ []
below_more m = counting_more 0 m (m + 1) (omega arith) ∙ ap (λ (j : ℕ). counting_from 0 m ++ j ∷ []) (let z : 0 + m ≡ m = omega arith in z)

flat_map-one : {X Y : Type 0} (f : X → List Y) (xs : List X) (x : X) → flat_map f (xs ++ x ∷ []) ≡ flat_map f xs ++ f x
flat_map-one f [] x = append-nil (f x)
flat_map-one f (y ∷ xs) x = ap (λ (rest : _). f y ++ rest) (flat_map-one f xs x) ∙ sym (append_assoc (f y) (flat_map f xs) (f x))

pub all_more : {X Y : Type 0} (f : X → List Y) (xs more : List X) (x : X) (first now after : List Y) → more ≡ xs ++ x ∷ [] → now ≡ first ++ flat_map f xs → after ≡ now ++ f x → after ≡ first ++ flat_map f more
all_more f xs more x first now after is before step =
    step ∙ ap (λ (ys : _). ys ++ f x) before ∙ append_assoc first (flat_map f xs) (f x) ∙ ap (λ (ys : _). first ++ ys) (sym (flat_map-one f xs x) ∙ ap (flat_map f) (sym is))

filter_map-one : {X Y : Type 0} (f : X → Option Y) (xs : List X) (x : X) → filter_map f (xs ++ x ∷ []) ≡ filter_map f xs ++ cons_option (f x) []
filter_map-one f xs x = filter_map-append f xs (x ∷ [])

-- ---- which cells a fill sets

-- what the laws on boxes and on owners say
pub record HasLaws : Type 0 where
  pub cells : OfCells
  pub owners : OfOwners

-- the patch owns the cell, by its box
pub owns_by : (layout : List CutAxis) (p : ℕ) (box : List Interval) (c : List ℤ) → slice_get (owned_boxes layout) p ≡ Some box → IsIn box c → Owns layout p c
owns_by layout p box c at h = rw at h

pub in_owned : (layout : List CutAxis) (p : ℕ) (box : List Interval) (c : List ℤ) → slice_get (owned_boxes layout) p ≡ Some box → Owns layout p c → IsIn box c
in_owned layout p box c at h = by (slice_get (owned_boxes layout) p) at h
  where
    by : (o : Option (List Interval)) → o ≡ Some box → IsSomeAnd o (λ b. IsIn b c) → IsIn box c
    by None e h = absurd h
    by (Some b) e h = subst (λ (d : List Interval). IsIn d c) (same_Some b box e) h

-- the owner is the patch, exactly where the patch owns the cell
pub owner_is : HasLaws → (layout : List CutAxis) (p : ℕ) (c : List ℤ) → All IsCutAxis layout → IsIn (total_of layout) c → (owner_of layout c ≡ p) ↔ Owns layout p c
owner_is laws layout p c cut total = (
  λ e. subst (λ (q : ℕ). Owns layout q c) e (laws.owners.owned layout c total),
  λ h. sym (laws.owners.only layout p c cut h),
)

and_both : (a b : Bool) → (a && b) ≡ true → (a ≡ true) × (b ≡ true)
and_both true b e = (refl, e)
and_both false b e = absurd (false≢true e)

both_and : (a b : Bool) → a ≡ true → b ≡ true → (a && b) ≡ true
both_and true b e f = f
both_and false b e f = absurd (false≢true e)

kept_in : {X : Type 0} (p : X → Bool) (xs : List X) (x : X) → Contains (filter p xs) x → Contains xs x × (p x ≡ true)
kept_in p [] x h = absurd (omega (arith, h.1))
kept_in {X} p (y ∷ ys) x h = by (p y) refl h (kept_in p ys x)
  where
    by : (b : Bool) → p y ≡ b → Contains (cond b (y ∷ filter p ys) (filter p ys)) x → (Contains (filter p ys) x → Contains ys x × (p x ≡ true)) → Contains (y ∷ ys) x × (p x ≡ true)
    by true e (zero, below, is) rest = ((0, omega arith, is), subst (λ (z : X). p z ≡ true) is e)
    by true e (suc k, below, is) rest = let later = rest (k, omega (arith, below), is) in ((suc later.0.0, omega (arith, later.0.1), later.0.2), later.1)
    by false e h rest = let later = rest h in ((suc later.0.0, omega (arith, later.0.1), later.0.2), later.1)

keeps_in : {X : Type 0} (p : X → Bool) (xs : List X) (x : X) → Contains xs x → p x ≡ true → Contains (filter p xs) x
keeps_in p [] x h e = absurd (omega (arith, h.1))
keeps_in {X} p (y ∷ ys) x (zero, below, is) e = rw (subst (λ (z : X). p z ≡ true) (sym is) e) (0, omega arith, is)
keeps_in p (y ∷ ys) x (suc k, below, is) e = by (p y) (keeps_in p ys x (k, omega (arith, below), is) e)
  where
    by : (b : Bool) → Contains (filter p ys) x → Contains (cond b (y ∷ filter p ys) (filter p ys)) x
    by true h = (suc h.0, omega (arith, h.1), h.2)
    by false h = h

same_patch : (p q : ℕ) → (is_patch (Some p) (Some q) ≡ true) ↔ (p ≡ q)
same_patch p q = Decides-eqb p q

-- of a slab whose updater moves values, the owner of a cell's source
first_there : (u : Updater) (axis : Interval) (x : ℤ) (f : ℤ → List ℤ) → (IsConstant u → ⊥) → slice_get (map f (sources_along u axis x)) 0 ≡ Some (slice_index_or (map f (sources_along u axis x)) 0 [])
first_there (Constant k) axis x f moving = absurd (moving tt)
first_there Periodic axis x f moving = refl
first_there Reflect axis x f moving = refl
first_there Antireflect axis x f moving = refl
first_there Extrapolate axis x f moving = refl

pub source_owned : (layout : List CutAxis) (shape : Shaped) (slab : Slab) (c : List ℤ) → (IsConstant slab.updater → ⊥) → source_owner layout shape slab c ≡ Some (owner_of layout (source_from shape slab c))
source_owned layout shape slab c moving =
    ap (option_map (owner_of layout)) (first_there slab.updater (axis_at shape.physical slab.axis) (coordinate_at c slab.axis) (λ y. slice_set c slab.axis y) moving)

none_first : (u : Updater) (axis : Interval) (x : ℤ) (f : ℤ → List ℤ) → IsConstant u → slice_get (map f (sources_along u axis x)) 0 ≡ None
none_first (Constant k) axis x f here = refl
none_first Periodic axis x f here = absurd here
none_first Reflect axis x f here = absurd here
none_first Antireflect axis x f here = absurd here
none_first Extrapolate axis x f here = absurd here

pub no_source : (layout : List CutAxis) (shape : Shaped) (slab : Slab) (c : List ℤ) → IsConstant slab.updater → source_owner layout shape slab c ≡ None
no_source layout shape slab c here =
    ap (option_map (owner_of layout)) (none_first slab.updater (axis_at shape.physical slab.axis) (coordinate_at c slab.axis) (λ y. slice_set c slab.axis y) here)

-- what is known of a slab over a layout
pub record IsLaid (layout : List CutAxis) (shape : Shaped) (slab : Slab) : Type 0 where
  pub cut : All IsCutAxis layout
  pub total : (c : List ℤ) → IsIn slab.target c → IsIn (total_of layout) c
  pub sources : (c : List ℤ) → IsIn slab.target c → (IsConstant slab.updater → ⊥) → IsIn (total_of layout) (source_from shape slab c)

-- the cells that one patch owns, of a constant
pub filled_constant : HasLaws → (layout : List CutAxis) (shape : Shaped) (slab : Slab) (p : ℕ) (part : List Interval) → IsLaid layout shape slab → IsConstant slab.updater → All IsOrdered part → ((c : List ℤ) → IsIn part c ↔ (IsIn slab.target c × Owns layout p c)) → box_of (cells_filled layout shape slab p None) ≡ Some part
filled_constant laws layout shape slab p part laid constant ordered meets =
    box_is part (cells_filled layout shape slab p None) ordered (AllPairs-filter IsBefore test (cells_of slab.target) (laws.cells.ascending slab.target))
    (λ c. (
      λ h.
          let kept = kept_in test (cells_of slab.target) c h in
          let inside : IsIn slab.target c = (laws.cells.members slab.target c).0 kept.0 in
          let tests = and_both (owner_of layout c == p) (is_patch (source_owner layout shape slab c) None) kept.1 in
          (meets c).1 (inside, (owner_is laws layout p c laid.cut (laid.total c inside)).0 ((Decides-eqb (owner_of layout c) p).0 tests.0)),
      λ h.
          let both = (meets c).0 h in
          keeps_in test (cells_of slab.target) c ((laws.cells.members slab.target c).1 both.0)
          (both_and (owner_of layout c == p) (is_patch (source_owner layout shape slab c) None)
          ((Decides-eqb (owner_of layout c) p).1 ((owner_is laws layout p c laid.cut (laid.total c both.0)).1 both.1))
          (ap (λ (o : Option ℕ). is_patch o None) (no_source layout shape slab c constant))),
    ))
  where
    test : List ℤ → Bool
    test c = (owner_of layout c == p) && is_patch (source_owner layout shape slab c) None

-- those whose source another patch owns
module _ (laws : HasLaws) (layout : List CutAxis) (shape : Shaped) (slab : Slab) (p q : ℕ) (from part : List Interval) (laid : IsLaid layout shape slab) (moving : IsConstant slab.updater → ⊥) (at_q : slice_get (owned_boxes layout) q ≡ Some from) (meets : (c : List ℤ) → IsIn part c ↔ (IsIn slab.target c × Owns layout p c)) where
  abbrev test : List ℤ → Bool
  test c = (owner_of layout c == p) && is_patch (source_owner layout shape slab c) (Some q)

  passes : (c : List ℤ) → IsIn slab.target c → (test c ≡ true) ↔ (IsIn part c × IsIn from (source_from shape slab c))
  passes c inside = (
    λ e.
        let tests = and_both (owner_of layout c == p) (is_patch (source_owner layout shape slab c) (Some q)) e in
        let of_q : is_patch (Some (owner_of layout (source_from shape slab c))) (Some q) ≡ true = subst (λ (o : Option ℕ). is_patch o (Some q) ≡ true) (source_owned layout shape slab c moving) tests.1 in (
          (meets c).1 (inside, (owner_is laws layout p c laid.cut (laid.total c inside)).0 ((Decides-eqb (owner_of layout c) p).0 tests.0)),
          in_owned layout q from (source_from shape slab c) at_q ((owner_is laws layout q (source_from shape slab c) laid.cut (laid.sources c inside moving)).0 ((same_patch (owner_of layout (source_from shape slab c)) q).0 of_q)),
        ),
    λ h. both_and (owner_of layout c == p) (is_patch (source_owner layout shape slab c) (Some q))
        ((Decides-eqb (owner_of layout c) p).1 ((owner_is laws layout p c laid.cut (laid.total c inside)).1 ((meets c).0 h.0).1))
        (subst (λ (o : Option ℕ). is_patch o (Some q) ≡ true) (sym (source_owned layout shape slab c moving))
        ((same_patch (owner_of layout (source_from shape slab c)) q).1 ((owner_is laws layout q (source_from shape slab c) laid.cut (laid.sources c inside moving)).1 (owns_by layout q from (source_from shape slab c) at_q h.1)))),
  )

  pub filled_from : (cells : List Interval) → All IsOrdered cells → ((c : List ℤ) → IsIn cells c ↔ (IsIn part c × IsIn from (source_from shape slab c))) → box_of (cells_filled layout shape slab p (Some q)) ≡ Some cells
  filled_from cells ordered are =
      box_is cells (cells_filled layout shape slab p (Some q)) ordered (AllPairs-filter IsBefore test (cells_of slab.target) (laws.cells.ascending slab.target))
      (λ c. (
        λ h.
            let kept = kept_in test (cells_of slab.target) c h in
            (are c).1 ((passes c ((laws.cells.members slab.target c).0 kept.0)).0 kept.1),
        λ h.
            let both = (are c).0 h in
            let inside : IsIn slab.target c = ((meets c).0 both.0).0 in
            keeps_in test (cells_of slab.target) c ((laws.cells.members slab.target c).1 inside) ((passes c inside).1 both),
      ))

  pub filled_none : ((c : List ℤ) → IsIn part c → IsIn from (source_from shape slab c) → ⊥) → box_of (cells_filled layout shape slab p (Some q)) ≡ None
  filled_none none =
      no_box (cells_filled layout shape slab p (Some q))
      (λ c h.
      let kept = kept_in test (cells_of slab.target) c h in
      let both = (passes c ((laws.cells.members slab.target c).0 kept.0)).0 kept.1 in
      none c both.0 both.1)

-- where the patch owns no cell of the slab, there is no fill
pub filled_nowhere : HasLaws → (layout : List CutAxis) (shape : Shaped) (slab : Slab) (p : ℕ) (source : Option ℕ) → IsLaid layout shape slab → ((c : List ℤ) → IsIn slab.target c → Owns layout p c → ⊥) → box_of (cells_filled layout shape slab p source) ≡ None
filled_nowhere laws layout shape slab p source laid apart =
    no_box (cells_filled layout shape slab p source)
    (λ c h.
    let kept = kept_in (λ d. (owner_of layout d == p) && is_patch (source_owner layout shape slab d) source) (cells_of slab.target) c h in
    let inside : IsIn slab.target c = (laws.cells.members slab.target c).0 kept.0 in
    let tests = and_both (owner_of layout c == p) (is_patch (source_owner layout shape slab c) source) kept.1 in
    apart c inside ((owner_is laws layout p c laid.cut (laid.total c inside)).0 ((Decides-eqb (owner_of layout c) p).0 tests.0)))

-- ---- the patches that are read

pub map_more : {X Y : Type 0} (f : X → Y) (xs : List X) (k m : ℕ) (x : X) → m ≡ suc k → slice_get xs k ≡ Some x → map f (take m xs) ≡ map f (take k xs) ++ f x ∷ []
map_more f [] k m x next at = cc
map_more f (y ∷ xs) zero m x next at =
    let same : y ≡ x = cc in
    let one : m ≡ suc 0 = omega (arith, next) in
    rw (one, same) refl
map_more f (y ∷ xs) (suc k) zero x next at = absurd (omega (arith, next))
map_more f (y ∷ xs) (suc k) (suc m) x next at = ap (λ (rest : _). f y ∷ rest) (map_more f xs k m x (omega (arith, next)) at)

pub owner_within : (layout : List CutAxis) (p : ℕ) (c : List ℤ) → Owns layout p c → p < length (owned_boxes layout)
owner_within layout p c h = by (slice_get (owned_boxes layout) p) refl h
  where
    by : (o : Option (List Interval)) → slice_get (owned_boxes layout) p ≡ o → IsSomeAnd o (λ b. IsIn b c) → p < length (owned_boxes layout)
    by None e h = absurd h
    by (Some b) e h = slice_get_within (owned_boxes layout) p b e

pub source_total : (shape : Shaped) (slab : Slab) (c s : List ℤ) (k : ℕ) (total : List Interval) → All (IsIn shape.total) (cell_sources shape slab c) → slice_get (cell_sources shape slab c) k ≡ Some s → shape.total ≡ total → IsIn total s
source_total shape slab c s k total all at same =
    subst (λ (box : List Interval). IsIn box s) same
    (All-contains (IsIn shape.total) (cell_sources shape slab c) s all (k, slice_get_within (cell_sources shape slab c) k s at, get_or_from_slice_get (cell_sources shape slab c) k s s at))

-- ---- one patch more from which values are taken

pub patches_more : {Y : Type 0} (f : Option ℕ → Option Y) (k : ℕ) (first now after : List Y) (o : Option Y) → now ≡ first ++ filter_map f (map Some (numbers_below k)) → f (Some k) ≡ o → after ≡ now ++ cons_option o [] → after ≡ first ++ filter_map f (map Some (numbers_below (k + 1)))
patches_more f k first now after o before here step =
    step ∙ ap (λ (ys : _). ys ++ cons_option o []) before
    ∙ append_assoc first (filter_map f (map Some (numbers_below k))) (cons_option o [])
    ∙ ap (λ (p : Option _). first ++ (filter_map f (map Some (numbers_below k)) ++ cons_option p [])) (sym here)
    ∙ ap (λ (ys : _). first ++ ys)
    (sym (filter_map-append f (map Some (numbers_below k)) (Some k ∷ []))
    ∙ ap (filter_map f) (sym (map-append Some (numbers_below k) (k ∷ [])) ∙ ap (map Some) (sym (below_more k))))

pub none_of : {X Y : Type 0} (f : X → Option Y) (xs : List X) → ((x : X) → f x ≡ None) → filter_map f xs ≡ []
none_of f [] h = refl
none_of f (x ∷ xs) h = rw (h x) (none_of f xs h)

pub patches_constant : (u : Updater) (count : ℕ) → IsConstant u → patches_of u count ≡ None ∷ []
patches_constant (Constant k) count h = refl
patches_constant Periodic count h = absurd h
patches_constant Reflect count h = absurd h
patches_constant Antireflect count h = absurd h
patches_constant Extrapolate count h = absurd h

pub patches_moving : (u : Updater) (count : ℕ) → (IsConstant u → ⊥) → patches_of u count ≡ map Some (numbers_below count)
patches_moving (Constant k) count h = absurd (h tt)
patches_moving Periodic count h = refl
patches_moving Reflect count h = refl
patches_moving Antireflect count h = refl
patches_moving Extrapolate count h = refl

-- a box of total cells has the axes of the total domain
pub dims_in : (box total : List Interval) → All IsOrdered box → ((c : List ℤ) → IsIn box c → IsIn total c) → length box ≡ length total
dims_in box total ordered inside =
    let corner = map (λ axis. axis.first) box in
    sym (length_cell box corner (firsts_in box ordered)) ∙ length_cell total corner (inside corner (firsts_in box ordered))

pub owned_total : (layout : List CutAxis) (p : ℕ) (box : List Interval) → ((q : ℕ) (c : List ℤ) → Owns layout q c → IsIn (total_of layout) c) → slice_get (owned_boxes layout) p ≡ Some box → (c : List ℤ) → IsIn box c → IsIn (total_of layout) c
owned_total layout p box total at c h = total p c (owns_by layout p box c at h)

-- ---- how many cells a box has that lies in another

fewer : ((axis : Interval) (axes : List Interval) → length (cells_of (axis ∷ axes)) ≡ axis_length axis * length (cells_of axes)) → (inner outer : List Interval) → All IsOrdered inner → All IsOrdered outer → IsIn outer (map (λ axis. axis.first) inner) → IsIn outer (map (λ axis. axis.last) inner) → length (cells_of inner) ≤ length (cells_of outer)
fewer counted [] [] v w h k = omega arith
fewer counted [] (b ∷ outer) v w h k = absurd h
fewer counted (a ∷ inner) [] v w h k = absurd h
fewer counted (a ∷ inner) (b ∷ outer) v w h k =
    let of_a : IsOrdered a = All-head IsOrdered a inner v in
    let of_b : IsOrdered b = All-head IsOrdered b outer w in
    let long_a : pos (axis_length a) ≡ (a.last -ℤ a.first) +ℤ pos 1 = long_ordered a of_a in
    let long_b : pos (axis_length b) ≡ (b.last -ℤ b.first) +ℤ pos 1 = long_ordered b of_b in
    let short : axis_length a ≤ axis_length b = omega (arith, ints, long_a, long_b, h.0, k.1) in
    let rest : length (cells_of inner) ≤ length (cells_of outer) = fewer counted inner outer (All-tail IsOrdered a inner v) (All-tail IsOrdered b outer w) h.2 k.2 in
    let products : axis_length a * length (cells_of inner) ≤ axis_length b * length (cells_of outer) =
    mul-le (axis_length a) (length (cells_of inner)) (axis_length b) (length (cells_of outer)) short rest in
    omega (arith, products, counted a inner, counted b outer)
  where
    long_ordered : (axis : Interval) → IsOrdered axis → pos (axis_length axis) ≡ (axis.last -ℤ axis.first) +ℤ pos 1
    long_ordered axis h = counts ((axis.last -ℤ axis.first) +ℤ pos 1) (omega (arith, ints, h))
      where
        counts : (z : ℤ) → pos 0 ≤ℤ z → pos (count_of z) ≡ z
        counts (pos n) h = refl
        counts (negsuc n) h = absurd (omega (arith, ints, h))

pub few_cells : ((axis : Interval) (axes : List Interval) → length (cells_of (axis ∷ axes)) ≡ axis_length axis * length (cells_of axes)) → (inner outer : List Interval) → All IsOrdered inner → All IsOrdered outer → ((c : List ℤ) → IsIn inner c → IsIn outer c) → length (cells_of inner) ≤ length (cells_of outer)
few_cells counted inner outer v w inside =
    fewer counted inner outer v w (inside (map (λ axis. axis.first) inner) (firsts_in inner v)) (inside (map (λ axis. axis.last) inner) (lasts_in inner v))

-- ---- a slab over a layout that fits the field

pub laid_over : (layout : List CutAxis) (shape : Shaped) (slab : Slab) → All IsCutAxis layout → shape.total ≡ total_of layout → ((c : List ℤ) → IsIn slab.target c → IsIn shape.total c) → ((c : List ℤ) → IsIn slab.target c → All (IsIn shape.total) (cell_sources shape slab c)) → IsLaid layout shape slab
laid_over layout shape slab cut same total sources = record {
  cut = cut;
  total = λ c h. subst (λ (box : List Interval). IsIn box c) same (total c h);
  sources = λ c h moving. source_total shape slab c (source_from shape slab c) 0 (total_of layout) (sources c h) (first_there slab.updater (axis_at shape.physical slab.axis) (coordinate_at c slab.axis) (λ y. slice_set c slab.axis y) moving) same;
}

-- the same of an array of a store
pub laid_in_store : (shapes : List Shaped) (layouts : List (List CutAxis)) (array : ℕ) (shape : Shaped) (slab : Slab) → AreArrays shapes layouts → array < length layouts → shape_at shapes array ≡ shape
    → ((c : List ℤ) → IsIn slab.target c → IsIn shape.total c) → ((c : List ℤ) → IsIn slab.target c → All (IsIn shape.total) (cell_sources shape slab c)) → IsLaid (layout_at layouts array) shape slab
laid_in_store shapes layouts array shape slab arrays there is =
    laid_over (layout_at layouts array) shape slab (arrays.cut array there).axes (ap (λ (s : Shaped). s.total) (sym is) ∙ (arrays.fitting array there).total)

pub take_more : {X : Type 0} (xs : List X) (k m : ℕ) (x : X) → m ≡ suc k → slice_get xs k ≡ Some x → take m xs ≡ take k xs ++ x ∷ []
take_more [] k m x next at = cc
take_more (y ∷ xs) zero m x next at =
    let same : y ≡ x = cc in
    let one : m ≡ suc 0 = omega (arith, next) in
    rw (one, same) refl
take_more (y ∷ xs) (suc k) zero x next at = absurd (omega (arith, next))
take_more (y ∷ xs) (suc k) (suc m) x next at = ap (λ (rest : _). y ∷ rest) (take_more xs k m x (omega (arith, next)) at)

pub part_owned : (layout : List CutAxis) (p : ℕ) (owned target part : List Interval) (c : List ℤ) → slice_get (owned_boxes layout) p ≡ Some owned → IsIn part c ↔ (IsIn target c × IsIn owned c) → IsIn part c ↔ (IsIn target c × Owns layout p c)
part_owned layout p owned target part c at is = (
  λ h. let both = is.0 h in (both.0, owns_by layout p owned c at both.1),
  λ h. is.1 (h.0, in_owned layout p owned c at h.1),
)
