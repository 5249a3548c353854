-- Slots that stay in a box, slot by slot.
use Rattle.std.proofs.Common.{◌≡◌, ℕ, zero, suc, ◌<◌, ℤ, ◌≤ℤ◌, List, [], ◌∷◌, length, take, Option, Some, None, refl, ap, subst, ◌∙◌, arith}
use Rattle.std.proofs.lemmas.List.Elements.{All-head, All-tail}
use Rattle.std.specs.List.{cons_option}
use Rattle.std.specs.Prelude.{All, map, slice_get, slice_index_or, slice_set}
use Rattle.pooma_domain.specs.Cells.{Interval, IsIn, IsOrdered}
use Rattle.pooma_view.specs.Slots.{first_named, last_named}
use Rattle.pooma_parse.specs.declared.form.RawSub.{RawSub}
use Rattle.pooma_script.specs.Ends.{EndsOn, IsWithin}
use Rattle.pooma_script.specs.Views.{places_of, positions_in, slot_of}
use Rattle.pooma_script.proofs.Taken.{ends_inside}

get_made : {A B : Type 0} (f : A → B) (xs : List A) (n : ℕ) (x : A) → slice_get xs n ≡ Some x → slice_get (map f xs) n ≡ Some (f x)
get_made f [] zero x h = cc
get_made f [] (suc n) x h = cc
get_made f (y ∷ xs) zero x h = let same : y ≡ x = cc in ap (λ z. Some (f z)) same
get_made f (y ∷ xs) (suc n) x h = get_made f xs n x h

-- where all slots stay in a box, each has its ends on its axis
pub ends_on : ((axes : List Interval) (cell : List ℤ) (n : ℕ) (axis : Interval) (x : ℤ) → IsIn axes cell → slice_get axes n ≡ Some axis
    → slice_get cell n ≡ Some x → (axis.first ≤ℤ x) × (x ≤ℤ axis.last))
    → (box : List Interval) (subs : List RawSub) (n : ℕ) (axis : Interval) (sub : RawSub) → slice_get box n ≡ Some axis → slice_get subs n ≡ Some sub
    → IsWithin box (map slot_of subs) → EndsOn axis (slot_of sub)
ends_on on_axis box subs n axis sub at is within =
    let slots = map slot_of subs in
    let ends = ends_inside slots box within in
    let slot : slice_get slots n ≡ Some (slot_of sub) = get_made slot_of subs n sub is in (
      on_axis box (map first_named slots) n axis (first_named (slot_of sub)) ends.0 at (get_made first_named slots n (slot_of sub) slot),
      on_axis box (map last_named slots) n axis (last_named (slot_of sub)) ends.1 at (get_made last_named slots n (slot_of sub) slot),
    )

-- each range of a list has a number where all have
pub takes_at : (subs : List RawSub) (n : ℕ) (sub : RawSub) → slice_get subs n ≡ Some sub → All IsOrdered (positions_in subs) → (axis : Interval) → places_of sub ≡ Some axis → IsOrdered axis
takes_at [] zero sub is all axis at = cc
takes_at [] (suc n) sub is all axis at = cc
takes_at (s ∷ subs) zero sub is all axis at =
    let same : s ≡ sub = cc in
    let here : places_of s ≡ Some axis = ap places_of same ∙ at in
    first_taken (places_of s) (positions_in subs) axis here all
  where
    first_taken : (o : Option Interval) (axes : List Interval) (axis : Interval) → o ≡ Some axis → All IsOrdered (cons_option o axes) → IsOrdered axis
    first_taken None axes axis e h = cc
    first_taken (Some a) axes axis e h = let same : a ≡ axis = cc in subst IsOrdered same (All-head IsOrdered a axes h)
takes_at (s ∷ subs) (suc n) sub is all axis at = takes_at subs n sub is (rest_taken (places_of s) (positions_in subs) all) axis at
  where
    rest_taken : (o : Option Interval) (axes : List Interval) → All IsOrdered (cons_option o axes) → All IsOrdered axes
    rest_taken None axes h = h
    rest_taken (Some a) axes h = All-tail IsOrdered a axes h

pub got_at : {A : Type 0} (xs : List A) (n : ℕ) (d : A) → n < length xs → slice_get xs n ≡ Some (slice_index_or xs n d)
got_at [] n d within = absurd (omega arith)
got_at (x ∷ xs) zero d within = refl
got_at (x ∷ xs) (suc n) d within = got_at xs n d (omega arith)

more : {A B : Type 0} (f : A → B) (done : List B) (xs : List A) (n : ℕ) (y : B) (d : A) → n < length done → n < length xs
    → take n done ≡ map f (take n xs) → y ≡ f (slice_index_or xs n d) → take (suc n) (slice_set done n y) ≡ map f (take (suc n) xs)
more f [] xs n y d within below sofar new = absurd (omega arith)
more f (b ∷ done) [] n y d within below sofar new = absurd (omega arith)
more f (b ∷ done) (x ∷ xs) zero y d within below sofar new = ap (λ z. z ∷ []) new
more f (b ∷ done) (x ∷ xs) (suc n) y d within below sofar new =
    let here : b ≡ f x = cc in
    let later : take n done ≡ map f (take n xs) = cc in
    ap (λ z. z ∷ take (suc n) (slice_set done n y)) here ∙ ap (λ l. f x ∷ l) (more f done xs n y d (omega arith) (omega arith) later new)

-- what is made of the first entries, with that of one entry more
pub more_made : {A B : Type 0} (f : A → B) (done : List B) (xs : List A) (n m : ℕ) (y : B) (d : A) → m ≡ suc n → n < length done → n < length xs
    → take n done ≡ map f (take n xs) → y ≡ f (slice_index_or xs n d) → take m (slice_set done n y) ≡ map f (take m xs)
more_made f done xs n m y d is = rw is (more f done xs n y d)
