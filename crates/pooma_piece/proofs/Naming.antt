-- Which requests a piece's objects have, and what objects lend for them.
use Rattle.std.proofs.Common.{refl, sym, ap, ◌∙◌, subst, cond, ⊎_elim, arith, get_or}
use Rattle.std.proofs.lemmas.Bool.Decides.{Decides-eqb}
use Rattle.std.proofs.lemmas.List.{take-append-drop}
use Rattle.std.proofs.lemmas.List.Elements.{All-cons, All-head, All-tail}
use Rattle.std.proofs.lemmas.Option.{slice_get-get_or}
use Rattle.std.specs.List.{insert, list_any, position_or_len, prefix_len, find, filter_map}
use Rattle.std.specs.Prelude.{◌≡◌, ◌==◌, ◌||◌, ◌<◌, ◌+◌, nat_lt, ℕ, zero, suc, Bool, true, false, Option, None, Some, option_map, option_and_then, List, [], ◌∷◌, ◌++◌, take, drop, fold, length, slice_get, All, Contains}
use Rattle.pooma_queue.specs.declared.queue.Mode.{Mode}
use Rattle.pooma_queue.specs.declared.queue.Mode.TheVariants.{Read, Write}
use Rattle.pooma_machine.specs.declared.step.Request.{Request}
use Rattle.pooma_machine.specs.Values.{is_write, lent_by, read_objects, written_object}
use Rattle.pooma_piece.specs.Lent.{Names, is_written, lent_for}
use Rattle.pooma_piece.specs.Pieces.{Pieced, requests_of}
use Rattle.pooma_piece.specs.Requests.{request, requests_for, with_read, write_request}

-- whether some request is for the object
abbrev asks : ℕ → List Request → Bool
asks o rs = list_any (λ r. r.object == o) rs

-- each request to write is for the object that is written
abbrev pub OnlyWrites : Option ℕ → List Request → Type 0
OnlyWrites write [] = Unit {0}
OnlyWrites write (r ∷ rs) = (r.mode ≡ Write → write ≡ Some r.object) × OnlyWrites write rs

-- what is so of the requests, as far as they are there
pub record AreFor (write : Option ℕ) (rs : List Request) : Type 0 where
  pub written : written_object rs ≡ write
  pub only : OnlyWrites write rs

or_true : (a b : Bool) → b ≡ true → (a || b) ≡ true
or_true true b e = refl
or_true false b e = e

asks_put : (o : ℕ) (ls bs : List Request) (x : Request) → asks o (ls ++ bs) ≡ true → asks o (ls ++ x ∷ bs) ≡ true
asks_put o [] bs x e = or_true (x.object == o) (asks o bs) e
asks_put o (a ∷ ls) bs x e = either (a.object == o) (asks o (ls ++ bs)) (asks o (ls ++ x ∷ bs)) e (asks_put o ls bs x)
  where
    either : (a b c : Bool) → (a || b) ≡ true → (b ≡ true → c ≡ true) → (a || c) ≡ true
    either true b c e f = refl
    either false b c e f = f e

asks_itself : (ls bs : List Request) (x : Request) → asks x.object (ls ++ x ∷ bs) ≡ true
asks_itself [] bs x = rw ((Decides-eqb x.object x.object).1 refl) refl
asks_itself (a ∷ ls) bs x = or_true (a.object == x.object) (asks x.object (ls ++ x ∷ bs)) (asks_itself ls bs x)

find_put : (ls bs : List Request) (o : ℕ) → find (λ r. is_write r.mode) (ls ++ request Read o ∷ bs) ≡ find (λ r. is_write r.mode) (ls ++ bs)
find_put [] bs o = refl
find_put (a ∷ ls) bs o = ap (λ (rest : Option Request). cond (is_write a.mode) (Some a) rest) (find_put ls bs o)

only_put : (write : Option ℕ) (ls bs : List Request) (o : ℕ) → OnlyWrites write (ls ++ bs) → OnlyWrites write (ls ++ request Read o ∷ bs)
only_put write [] bs o h = (λ e. absurd (cc), h)
only_put write (a ∷ ls) bs o h = (h.0, only_put write ls bs o h.1)

are_for_put : (write : Option ℕ) (ls bs xs : List Request) (o : ℕ) → ls ++ bs ≡ xs → AreFor write xs → AreFor write (ls ++ request Read o ∷ bs)
are_for_put write ls bs xs o e h = record {
  written = ap (option_map (λ (r : Request). r.object)) (find_put ls bs o ∙ ap (find (λ (r : Request). is_write r.mode)) e) ∙ h.written;
  only = only_put write ls bs o (subst (OnlyWrites write) (sym e) h.only);
}

-- what is so after one object more: what was so before, and it is asked for
record IsOneMore (write : Option ℕ) (xs ys : List Request) (o : ℕ) : Type 0 where
  are : AreFor write xs → AreFor write ys
  there : asks o ys ≡ true
  kept : (o' : ℕ) → asks o' xs ≡ true → asks o' ys ≡ true

one_more : (write : Option ℕ) (xs : List Request) (o : ℕ) → IsOneMore write xs (with_read xs o) o
one_more write xs o =
    elim (asks o xs) as (λ b. asks o xs ≡ b → IsOneMore write xs (cond b xs (insert xs (prefix_len (λ (r : Request). nat_lt r.object o) xs) (request Read o))) o) [
      | true ↦ λ e. record { are = λ h. h; there = e; kept = λ o' h. h }
      | false ↦ λ e. put (prefix_len (λ (r : Request). nat_lt r.object o) xs)
    ] refl
  where
    put : (n : ℕ) → IsOneMore write xs (insert xs n (request Read o)) o
    put n = record {
      are = are_for_put write (take n xs) (drop n xs) xs o (take-append-drop n xs);
      there = asks_itself (take n xs) (drop n xs) (request Read o);
      kept = λ o' h. asks_put o' (take n xs) (drop n xs) (request Read o) (subst (λ (l : List Request). asks o' l ≡ true) (sym (take-append-drop n xs)) h);
    }

all_are : (write : Option ℕ) (os : List ℕ) (xs : List Request) → AreFor write xs → AreFor write (fold with_read xs os)
all_are write [] xs h = h
all_are write (o ∷ os) xs h = all_are write os (with_read xs o) ((one_more write xs o).are h)

all_kept : (os : List ℕ) (xs : List Request) (o : ℕ) → asks o xs ≡ true → asks o (fold with_read xs os) ≡ true
all_kept [] xs o h = h
all_kept (p ∷ os) xs o h = all_kept os (with_read xs p) o ((one_more None xs p).kept o h)

all_asked : (os : List ℕ) (xs : List Request) (k : ℕ) (o : ℕ) → k < length os → get_or os k o ≡ o → asks o (fold with_read xs os) ≡ true
all_asked [] xs k o h e = absurd (omega (arith, h))
all_asked (p ∷ os) xs zero o h e = all_kept os (with_read xs p) o (subst (λ (q : ℕ). asks q (with_read xs p) ≡ true) e (one_more None xs p).there)
all_asked (p ∷ os) xs (suc k) o h e = all_asked os (with_read xs p) k o (omega (arith, h)) e

begun_are : (write : Option ℕ) → AreFor write (write_request write)
begun_are None = record { written = refl; only = tt }
begun_are (Some o) = record { written = refl; only = (λ e. refl, tt) }

pub are_for : (write : Option ℕ) (os : List ℕ) → AreFor write (requests_for write os)
are_for write os = all_are write os (write_request write) (begun_are write)

pub written_is : (write : Option ℕ) (os : List ℕ) → written_object (requests_for write os) ≡ write
written_is write os = (are_for write os).written

-- an object that is asked for and not written is one of those that are read
is_read_then : (write : Option ℕ) (rs : List Request) (o : ℕ) → OnlyWrites write rs → is_written write o ≡ false → asks o rs ≡ true → list_any (λ x. x == o) (read_objects rs) ≡ true
is_read_then write [] o h none e = absurd (cc)
is_read_then write (r ∷ rs) o h none e = by_mode r.mode refl (r.object == o) refl (is_read_then write rs o h.1 none)
  where
    clash : write ≡ Some r.object → (r.object == o) ≡ true → ⊥
    clash w same = let written : is_written write o ≡ true = ap (λ (x : Option ℕ). is_written x o) w ∙ same in cc

    by_mode : (m : Mode) → r.mode ≡ m → (b : Bool) → (r.object == o) ≡ b → (asks o rs ≡ true → list_any (λ x. x == o) (read_objects rs) ≡ true) → list_any (λ x. x == o) (read_objects (r ∷ rs)) ≡ true
    by_mode Read is true same rest = rw (is, same) refl
    by_mode Read is false other rest = rw (is, other) (rest (rw other at e))
    by_mode Write is true same rest = absurd (clash (h.0 is) same)
    by_mode Write is false other rest = rw is (rest (rw other at e))

-- what is found for an object at its place among those that are read, all of which are there
found_at_place : {A : Type 0} (objects : List A) (os : List ℕ) (o : ℕ) → All (λ x. x < length objects) os → list_any (λ x. x == o) os ≡ true → slice_get (filter_map (slice_get objects) os) (position_or_len (λ x. x == o) os) ≡ slice_get objects o
found_at_place objects [] o all e = absurd (cc)
found_at_place {A} objects (x ∷ os) o all e =
    by_test (element objects (All-head (λ (y : ℕ). y < length objects) x os all)) (x == o) refl (found_at_place objects os o (All-tail (λ (z : ℕ). z < length objects) x os all))
  where
    element : {A : Type 0} (objects : List A) {n : ℕ} → n < length objects → A
    element [] h = absurd (omega (arith, h))
    element (a ∷ ls) h = a

    by_test : (d : A) (b : Bool) → (x == o) ≡ b → (list_any (λ y. y == o) os ≡ true → slice_get (filter_map (slice_get objects) os) (position_or_len (λ y. y == o) os) ≡ slice_get objects o) → slice_get (filter_map (slice_get objects) (x ∷ os)) (position_or_len (λ y. y == o) (x ∷ os)) ≡ slice_get objects o
    by_test d b test rest = with_here (get_or objects x d) (slice_get-get_or objects x d (All-head (λ (y : ℕ). y < length objects) x os all)) b test rest
      where
        with_here : (y : A) → slice_get objects x ≡ Some y → (b : Bool) → (x == o) ≡ b → (list_any (λ z. z == o) os ≡ true → slice_get (filter_map (slice_get objects) os) (position_or_len (λ z. z == o) os) ≡ slice_get objects o) → slice_get (filter_map (slice_get objects) (x ∷ os)) (position_or_len (λ z. z == o) (x ∷ os)) ≡ slice_get objects o
        with_here y here true same rest = rw (here, same) (sym here ∙ ap (slice_get objects) ((Decides-eqb x o).0 same))
        with_here y here false other rest =
            let next : 1 + position_or_len (λ z. z == o) os ≡ suc (position_or_len (λ z. z == o) os) = omega arith in
            rw (here, other, next) (rest (rw other at e))

reads_below : (n : ℕ) (rs : List Request) → All (λ r. r.object < n) rs → All (λ x. x < n) (read_objects rs)
reads_below n [] h = λ k d within. absurd (omega (arith, within))
reads_below n (r ∷ rs) h = by_mode r.mode refl (reads_below n rs (All-tail (λ (q : Request). q.object < n) r rs h))
  where
    by_mode : (m : Mode) → r.mode ≡ m → All (λ x. x < n) (read_objects rs) → All (λ x. x < n) (read_objects (r ∷ rs))
    by_mode Read is later = rw is (All-cons (λ (x : ℕ). x < n) r.object (read_objects rs) (All-head (λ (q : Request). q.object < n) r rs h) later)
    by_mode Write is later = rw is later

-- what objects lend to a piece for one that it names is that object's own
pub lent_is : {A : Type 0} (piece : Pieced) (objects : List A) (o : ℕ) → All (λ r. r.object < length objects) (requests_of piece) → Names piece o → lent_for piece (lent_by objects (requests_of piece)).written (lent_by objects (requests_of piece)).reads o ≡ slice_get objects o
lent_is {A} piece objects o all names = by_test (is_written piece.write o) refl
  where
    are : AreFor piece.write (requests_of piece)
    are = are_for piece.write piece.reads

    written_then : (w : Option ℕ) → w ≡ piece.write → is_written w o ≡ true → option_and_then (slice_get objects) w ≡ slice_get objects o
    written_then None e h = absurd (cc)
    written_then (Some x) e h = ap (slice_get objects) ((Decides-eqb x o).0 h)

    asked : is_written piece.write o ≡ false → asks o (requests_of piece) ≡ true
    asked none = ⊎_elim
        (λ (w : piece.write ≡ Some o). absurd (clash w none))
        (λ (c : Contains piece.reads o). all_asked piece.reads (write_request piece.write) c.0 o c.1 c.2)
        names
      where
        clash : piece.write ≡ Some o → is_written piece.write o ≡ false → ⊥
        clash w h = let itself : is_written piece.write o ≡ true = ap (λ (x : Option ℕ). is_written x o) w ∙ (Decides-eqb o o).1 refl in cc

    by_test : (b : Bool) → is_written piece.write o ≡ b → cond (is_written piece.write o) (option_and_then (slice_get objects) (written_object (requests_of piece))) (slice_get (filter_map (slice_get objects) (read_objects (requests_of piece))) (position_or_len (λ x. x == o) (read_objects (requests_of piece)))) ≡ slice_get objects o
    by_test true e = rw (e, are.written) (written_then piece.write refl e)
    by_test false e = rw e (found_at_place objects (read_objects (requests_of piece)) o (reads_below (length objects) (requests_of piece) all) (is_read_then piece.write (requests_of piece) o are.only e (asked e)))
