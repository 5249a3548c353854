-- What is lent, and where it is.
use Rattle.std.proofs.Common.{◌≡◌, ◌+◌, ◌<◌, ℕ, suc, Bool, true, false, List, [], ◌∷◌, ◌++◌, map, length, get_or, take, Option, Some, None, IsSome, is_some, IfSome, All, Result, Ok, Err, OnErr, IsErrAnd, subst, option_map, option_and_then, slice_get, filter_map, Contains, refl, sym, ◌∙◌, ap, arith, inl, inr}
use Rattle.std.proofs.lemmas.Bool.Decides.{leb_tells}
use Rattle.std.proofs.lemmas.List.{take_more, append-nil, length-map}
use Rattle.std.proofs.lemmas.List.Elements.{filter_map-append}
use Rattle.std.proofs.lemmas.Option.{slice_get-map, slice_get-get_or, slice_get_past}
use Rattle.pooma_queue.specs.declared.queue.Mode.{Mode}
use Rattle.pooma_queue.specs.declared.queue.Mode.TheVariants.{Read, Write}
use Rattle.pooma_machine.specs.declared.step.Request.{Request}
use Rattle.pooma_machine.specs.Slots.{home_at}
use Rattle.pooma_machine.specs.Values.{read_objects, written_object, is_write, is_read}
use Rattle.std.specs.List.{cons_option}
use Rattle.pooma_logic.proofs.Elements.{contains_first, contains_rest}

-- the objects that two parts of a list of requests ask to read
pub read_append : (xs ys : List Request) → read_objects (xs ++ ys) ≡ read_objects xs ++ read_objects ys
read_append [] ys = refl
read_append (x ∷ xs) ys = by_test (read_append xs ys) (is_read x.mode) refl
  where
    by_test : read_objects (xs ++ ys) ≡ read_objects xs ++ read_objects ys → (b : Bool) → is_read x.mode ≡ b → read_objects (x ∷ xs ++ ys) ≡ read_objects (x ∷ xs) ++ read_objects ys
    by_test rest true e = rw e (ap (λ os. x.object ∷ os) rest)
    by_test rest false e = rw e rest

pub reads_or_writes : (mode : Mode) (b : Bool) → is_write mode ≡ false → is_read mode ≡ true
reads_or_writes Read b e = refl
reads_or_writes Write b e = absurd (cc e)

pub write_reads_nothing : (mode : Mode) → is_write mode ≡ true → is_read mode ≡ false
write_reads_nothing Read e = absurd (cc e)
write_reads_nothing Write e = refl

-- what one more request lends to read
pub lends_read : {X : Type 0} (f : ℕ → Option X) (requests : List Request) (i : ℕ) (d : Request) (value : X) → i < length requests → is_write (get_or requests i d).mode ≡ false → f (get_or requests i d).object ≡ Some value
    → filter_map f (read_objects (take (i + 1) requests)) ≡ filter_map f (read_objects (take i requests)) ++ value ∷ []
lends_read f requests i d value h mode is =
    ap (λ rs. filter_map f (read_objects rs)) (take_more requests i d h)
    ∙ (ap (filter_map f) (read_append (take i requests) (get_or requests i d ∷ []))
    ∙ (filter_map-append f (read_objects (take i requests)) (read_objects (get_or requests i d ∷ []))
    ∙ ap (λ xs. filter_map f (read_objects (take i requests)) ++ xs) (rw (reads_or_writes (get_or requests i d).mode true mode, is) refl)))

-- a request to write lends nothing to read
pub lends_nothing : {X : Type 0} (f : ℕ → Option X) (requests : List Request) (i : ℕ) (d : Request) → i < length requests → is_write (get_or requests i d).mode ≡ true
    → filter_map f (read_objects (take (i + 1) requests)) ≡ filter_map f (read_objects (take i requests))
lends_nothing f requests i d h mode =
    ap (λ rs. filter_map f (read_objects rs)) (take_more requests i d h)
    ∙ (ap (filter_map f) (read_append (take i requests) (get_or requests i d ∷ []))
    ∙ (filter_map-append f (read_objects (take i requests)) (read_objects (get_or requests i d ∷ []))
    ∙ rw (write_reads_nothing (get_or requests i d).mode mode) (append-nil _)))

-- the images of what a partial function gives
pub map_cons : {X S : Type 0} (f : X → S) (o : Option X) (xs : List X) → map f (cons_option o xs) ≡ cons_option (option_map f o) (map f xs)
map_cons f None xs = refl
map_cons f (Some x) xs = refl

pub read_shapes : {X S : Type 0} (f : X → S) (objects : List X) (os : List ℕ) → filter_map (slice_get (map f objects)) os ≡ map f (filter_map (slice_get objects) os)
read_shapes f objects [] = refl
read_shapes f objects (o ∷ os) =
    ap (λ v. cons_option v (filter_map (slice_get (map f objects)) os)) (slice_get-map f objects o)
    ∙ (ap (cons_option (option_map f (slice_get objects o))) (read_shapes f objects os)
    ∙ sym (map_cons f (slice_get objects o) (filter_map (slice_get objects) os)))

pub written_shape : {X S : Type 0} (f : X → S) (objects : List X) (o : Option ℕ) → option_and_then (slice_get (map f objects)) o ≡ option_map f (option_and_then (slice_get objects) o)
written_shape f objects None = refl
written_shape f objects (Some o) = slice_get-map f objects o

-- two partial functions that agree give the same
pub filter_map_same : {X : Type 0} (f h : ℕ → Option X) (os : List ℕ) → ((o : ℕ) → Contains os o → f o ≡ h o) → filter_map f os ≡ filter_map h os
filter_map_same f h [] same = refl
filter_map_same f h (o ∷ os) same =
    ap (λ v. cons_option v (filter_map f os)) (same o (contains_first o os))
    ∙ ap (cons_option (h o)) (filter_map_same f h os (λ p more. same p (contains_rest o os p more)))

-- a slot that is looked up, among those of which contracts see an image
pub image_at : {X Y : Type 0} (f : X → Option Y) (slots : List X) (o : ℕ) (d : X) → o < length slots → home_at (map f slots) o ≡ f (get_or slots o d)
image_at f slots o d h = ap (option_and_then (λ home. home)) (slice_get-map f slots o ∙ ap (option_map f) (slice_get-get_or slots o d h))

pub image_within : {X Y : Type 0} (f : X → Option Y) (slots : List X) (o : ℕ) → IsSome (home_at (map f slots) o) → o < length slots
image_within f slots o there =
    elim (leb_tells (suc o) (length slots)) [
      | inl t ↦ t.1
      | inr past ↦ absurd (cc (sym (ap (λ v. is_some (option_and_then (λ home. home) v)) (slice_get_past (map f slots) o (omega (arith, past.1, length-map slots f)))) ∙ there))
    ]

-- what is seen of the elements of a list, by way of another list
pub map_both : {A B C D : Type 0} (f : B → D) (s : A → B) (g : C → D) (h : A → C) (xs : List A) → ((a : A) → f (s a) ≡ g (h a)) → map f (map s xs) ≡ map g (map h xs)
map_both f s g h [] same = refl
map_both f s g h (x ∷ xs) same = ap (λ y. y ∷ map f (map s xs)) (same x) ∙ ap (λ ys. g (h x) ∷ ys) (map_both f s g h xs same)

-- an element of which all have an image
pub some_among : {X Y : Type 0} (f : X → Option Y) (front rest : List X) (x : X) → All (λ y. IsSome y) (map f (front ++ x ∷ rest)) → IsSome (f x)
some_among f [] rest x all = all 0 (f x) (omega arith)
some_among f (y ∷ front) rest x all = some_among f front rest x (λ k d h. all (suc k) d (omega arith))

-- what holds of all objects that requests ask for holds of the one that they ask to write
pub written_holds : (P : ℕ → Type 0) (requests : List Request) (p : ℕ) → All (λ r. P r.object) requests → written_object requests ≡ Some p → P p
written_holds P [] p all e = absurd (cc e)
written_holds P (r ∷ rs) p all e = by_mode (λ more. written_holds P rs p (λ k d h. all (suc k) d (omega arith)) more) (is_write r.mode) refl
  where
    by_mode : (written_object rs ≡ Some p → P p) → (b : Bool) → is_write r.mode ≡ b → P p
    by_mode again true t = let both : Some r.object ≡ Some p = rw t at e in let same : r.object ≡ p = cc in subst P same (all 0 r (omega arith))
    by_mode again false t = again (rw t at e)

pub written_all : (P : ℕ → Type 0) (requests : List Request) → All (λ r. P r.object) requests → IfSome (written_object requests) P
written_all P requests all = by_object (written_object requests) refl
  where
    by_object : (o : Option ℕ) → written_object requests ≡ o → IfSome o P
    by_object None e = tt
    by_object (Some o) e = written_holds P requests o all e

-- what holds anyhow holds where a result is an error
pub on_err_holds : {T E : Type 0} (r : Result T E) (P : Type 0) → P → OnErr r P
on_err_holds (Ok x) P p = tt
on_err_holds (Err e) P p = p

-- an error that is known
pub err_is : {T E : Type 0} (r : Result T E) (x : E) → IsErrAnd r (λ e. e ≡ x) → r ≡ Err x
err_is (Ok t) x is = absurd is
err_is (Err e) x is = ap Err is
