-- Tests of many cells or views, as far as they were made.
use Rattle.std.proofs.Common.{refl, sym, ap, ◌∙◌, get_or, take}
use Rattle.std.proofs.lemmas.List.Folds.{list_all_at, list_all_more}
use Rattle.std.proofs.lemmas.Option.{get_or_from_slice_get, same_Some, slice_get_past, slice_get_read, slice_get_within, slice_get-map}
use Rattle.std.specs.List.{list_all}
use Rattle.std.specs.Prelude.{◌≡◌, ◌&&◌, ℕ, ◌+◌, ◌<◌, ◌≤◌, ℤ, Bool, true, false, Option, None, Some, option_map, List, length, map, slice_get}
use Rattle.pooma_domain.specs.Cells.{Interval, IsIn}
use Rattle.pooma_view.specs.Views.{Viewed}
use Rattle.pooma_expr.specs.Trees.{views_of}
use Rattle.pooma_piece.specs.declared.source.Source.{Source}
use Rattle.pooma_piece.specs.Kept.{sources_of}
use Rattle.pooma_piece.specs.Lent.{is_in, lent_for, read_in}
use Rattle.pooma_piece.specs.Pieces.{IsPiece, Pieced, requests_of}
use Rattle.pooma_piece.specs.Sources.{from_source, source_of}
use Rattle.pooma_piece.proofs.Seen.{from_source-of, is_in_is, read_in_is}

-- one element more passes a test
pub all_pass_more : {A : Type 0} (test : A → Bool) (xs : List A) (k : ℕ) (x : A) → slice_get xs k ≡ Some x → list_all test (take k xs) ≡ true → test x ≡ true → list_all test (take (k + 1) xs) ≡ true
all_pass_more test xs k x at before here =
    list_all_more test xs k x (slice_get_within xs k x at)
    ∙ ap (λ (b : Bool). b && test (get_or xs k x)) before
    ∙ ap test (get_or_from_slice_get xs k x x at)
    ∙ here

-- one element does not pass it
pub one_fails : {A : Type 0} (test : A → Bool) (xs : List A) (k : ℕ) (x : A) → slice_get xs k ≡ Some x → test x ≡ false → list_all test xs ≡ false
one_fails test xs k x at here =
    list_all_at test xs k x (slice_get_within xs k x at) (ap test (get_or_from_slice_get xs k x x at) ∙ here)

pub not_in : (area : List Interval) (c : List ℤ) → (IsIn area c → ⊥) → is_in area c ≡ false
not_in area c none = by_test (is_in area c) refl
  where
    by_test : (b : Bool) → is_in area c ≡ b → is_in area c ≡ false
    by_test true e = absurd (none (is_in_is area c e))
    by_test false e = e

-- what is found at the k-th source is what is lent for the k-th object
pub source_lent : {A : Type 0} (piece : Pieced) (w : Option A) (r : List A) (k : ℕ) (object : ℕ) (source : Source) → slice_get piece.reads k ≡ Some object → slice_get (sources_of piece) k ≡ Some source → from_source source w r ≡ lent_for piece w r object
source_lent piece w r k object source ok sk =
    let is : Some (source_of piece.write (requests_of piece) object) ≡ Some source = sym (slice_get-map (source_of piece.write (requests_of piece)) piece.reads k ∙ ap (option_map (source_of piece.write (requests_of piece))) ok) ∙ sk in
    ap (λ (s : Source). from_source s w r) (sym (same_Some _ source is)) ∙ from_source-of piece w r object

-- what is found at the source of the k-th read is what is lent for its view
pub source_found : {A : Type 0} (piece : Pieced) (w : Option A) (r : List A) (k : ℕ) (view : Viewed) (source : Source) → IsPiece piece → slice_get (views_of piece.code) k ≡ Some view → slice_get (sources_of piece) k ≡ Some source → from_source source w r ≡ lent_for piece w r (read_in piece view)
source_found piece w r k view source valid vk sk = by_object (slice_get piece.reads k) refl
  where
    by_object : (o : Option ℕ) → slice_get piece.reads k ≡ o → from_source source w r ≡ lent_for piece w r (read_in piece view)
    by_object None e = absurd (clash (sym (slice_get-map (source_of piece.write (requests_of piece)) piece.reads k ∙ ap (option_map (source_of piece.write (requests_of piece))) e) ∙ sk))
      where
        clash : {X : Type 0} {x : X} → None ≡ Some x → ⊥
        clash f = cc
    by_object (Some object) e =
        let is : Some (source_of piece.write (requests_of piece) object) ≡ Some source = sym (slice_get-map (source_of piece.write (requests_of piece)) piece.reads k ∙ ap (option_map (source_of piece.write (requests_of piece))) e) ∙ sk in
        ap (λ (s : Source). from_source s w r) (sym (same_Some _ source is))
        ∙ from_source-of piece w r object
        ∙ ap (lent_for piece w r) (sym (read_in_is piece k view object valid.alike vk e))

-- what is made of an element in two steps, at its place
pub made_at : {X A B : Type 0} (g : X → A) (f : A → B) (xs : List X) (k : ℕ) (x : X) → k < length xs → x ≡ get_or xs k x → slice_get (map f (map g xs)) k ≡ Some (f (g x))
made_at g f xs k x within is =
    slice_get-map f (map g xs) k
    ∙ ap (option_map f) (slice_get-map g xs k ∙ ap (option_map g) (slice_get_read xs (length xs) k x refl within is))

pub made_past : {X A B : Type 0} (g : X → A) (f : A → B) (xs : List X) (k : ℕ) → length xs ≤ k → slice_get (map f (map g xs)) k ≡ None
made_past g f xs k past =
    slice_get-map f (map g xs) k
    ∙ ap (option_map f) (slice_get-map g xs k ∙ ap (option_map g) (slice_get_past xs k past))
