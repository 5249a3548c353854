-- A piece that names objects that are there asks for such objects.
use Rattle.std.proofs.Common.{refl, cond, take, drop}
use Rattle.std.proofs.lemmas.List.Elements.{All-append, All-cons, All-drop, All-nil, All-take, All-head, All-tail}
use Rattle.std.specs.List.{insert, list_any, prefix_len}
use Rattle.std.specs.Prelude.{◌≡◌, ℕ, ◌==◌, ◌<◌, nat_lt, Bool, true, false, Option, Some, None, List, [], ◌∷◌, fold, All}
use Rattle.pooma_queue.specs.declared.queue.Mode.TheVariants.{Read, Write}
use Rattle.pooma_machine.specs.declared.step.Request.{Request}
use Rattle.pooma_piece.specs.Requests.{request, requests_for, with_read, write_request}

abbrev Below : ℕ → Request → Type 0
Below n r = r.object < n

one_below : (n : ℕ) (requests : List Request) (object : ℕ) → object < n → All (Below n) requests → All (Below n) (with_read requests object)
one_below n requests object small all =
    by (list_any (λ (r : Request). r.object == object) requests)
  where
    by : (b : Bool) → All (Below n) (cond b requests (insert requests (prefix_len (λ (r : Request). nat_lt r.object object) requests) (request Read object)))
    by true = all
    by false =
        All-append (Below n) (take (prefix_len (λ (r : Request). nat_lt r.object object) requests) requests) (request Read object ∷ drop (prefix_len (λ (r : Request). nat_lt r.object object) requests) requests)
        (All-take (Below n) (prefix_len (λ (r : Request). nat_lt r.object object) requests) requests all)
        (All-cons (Below n) (request Read object) (drop (prefix_len (λ (r : Request). nat_lt r.object object) requests) requests) small
        (All-drop (Below n) (prefix_len (λ (r : Request). nat_lt r.object object) requests) requests all))

reads_below : (n : ℕ) (reads : List ℕ) (requests : List Request) → All (λ o. o < n) reads → All (Below n) requests → All (Below n) (fold with_read requests reads)
reads_below n [] requests small all = all
reads_below n (o ∷ reads) requests small all =
    reads_below n reads (with_read requests o) (All-tail (λ x. x < n) o reads small) (one_below n requests o (All-head (λ x. x < n) o reads small) all)

begun_below : (n : ℕ) (write : Option ℕ) → ((o : ℕ) → write ≡ Some o → o < n) → All (Below n) (write_request write)
begun_below n None small = All-nil (Below n)
begun_below n (Some o) small = All-cons (Below n) (request Write o) [] (small o refl) (All-nil (Below n))

pub requests_below : (n : ℕ) (write : Option ℕ) (reads : List ℕ) → ((o : ℕ) → write ≡ Some o → o < n) → All (λ o. o < n) reads → All (Below n) (requests_for write reads)
requests_below n write reads small all = reads_below n reads (write_request write) all (begun_below n write small)
