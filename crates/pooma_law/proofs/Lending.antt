-- Objects that agree where an entry asks for them lend it the same.
use Rattle.std.proofs.Common.{◌≡◌, ℕ, Bool, true, false, List, [], ◌∷◌, option_and_then, filter_map, slice_get, Contains, refl, ap₂, arith, inl, inr}
use Rattle.std.specs.List.{cons_option}
use Rattle.std.proofs.lemmas.Bool.Decides.{eqb_tells}
use Rattle.pooma_logic.proofs.Elements.{contains_first, contains_rest}
use Rattle.pooma_queue.specs.declared.queue.Mode.{Mode}
use Rattle.pooma_queue.specs.declared.queue.Mode.TheVariants.{Read, Write}
use Rattle.pooma_queue.specs.Requests.{conflicts}
use Rattle.pooma_machine.specs.declared.step.Request.{Request}
use Rattle.pooma_machine.specs.Values.{Lent, lent_by, written_object, read_objects, is_write, is_read}
use Rattle.pooma_law.specs.Writers.{asks_to_write}

write_mode : (mode : Mode) → is_write mode ≡ true → mode ≡ Write
write_mode Read e = absurd (cc e)
write_mode Write e = refl

-- requests that ask to write an object have a request to write it
pub asks_contains : (requests : List Request) (o : ℕ) → asks_to_write requests o ≡ true → Contains requests (record { object = o; mode = Write })
asks_contains [] o e = absurd (cc e)
asks_contains (r ∷ rs) o e = by (λ more. contains_rest r rs (record { object = o; mode = Write }) (asks_contains rs o more)) (is_write r.mode) refl
  where
    here : r.object ≡ o → r.mode ≡ Write → Contains (r ∷ rs) (record { object = o; mode = Write })
    here object mode = (0, omega arith, λ i. record { object = object i; mode = mode i })

    by : (asks_to_write rs o ≡ true → Contains (r ∷ rs) (record { object = o; mode = Write })) → (b : Bool) → is_write r.mode ≡ b → Contains (r ∷ rs) (record { object = o; mode = Write })
    by again true t =
        elim (eqb_tells r.object o) [
          | inl s ↦ here s.1 (write_mode r.mode t)
          | inr n ↦ again (rw (t, n.0) at e)
        ]
    by again false t = again (rw t at e)

-- a request to write conflicts with each other one
pub write_conflicts : (mode : Mode) → (conflicts Write mode ≡ true) × (conflicts mode Write ≡ true)
write_conflicts Read = (refl, refl)
write_conflicts Write = (refl, refl)

module _ {X : Type 0} (xs ys : List X) where
  -- the objects agree at what the requests ask for
  abbrev pub AgreeAt : List Request → Type 0
  AgreeAt requests = (r : Request) → Contains requests r → slice_get xs r.object ≡ slice_get ys r.object

  rest_agree : (r : Request) (rs : List Request) → AgreeAt (r ∷ rs) → AgreeAt rs
  rest_agree r rs agree s there = agree s (contains_rest r rs s there)

  lent_written : (requests : List Request) → AgreeAt requests → option_and_then (slice_get xs) (written_object requests) ≡ option_and_then (slice_get ys) (written_object requests)
  lent_written [] agree = refl
  lent_written (r ∷ rs) agree = by (lent_written rs (rest_agree r rs agree)) (agree r (contains_first r rs)) (is_write r.mode) refl
    where
      by : option_and_then (slice_get xs) (written_object rs) ≡ option_and_then (slice_get ys) (written_object rs) → slice_get xs r.object ≡ slice_get ys r.object → (b : Bool) → is_write r.mode ≡ b
          → option_and_then (slice_get xs) (written_object (r ∷ rs)) ≡ option_and_then (slice_get ys) (written_object (r ∷ rs))
      by rest first true t = rw t first
      by rest first false t = rw t rest

  lent_reads : (requests : List Request) → AgreeAt requests → filter_map (slice_get xs) (read_objects requests) ≡ filter_map (slice_get ys) (read_objects requests)
  lent_reads [] agree = refl
  lent_reads (r ∷ rs) agree = by (lent_reads rs (rest_agree r rs agree)) (agree r (contains_first r rs)) (is_read r.mode) refl
    where
      by : filter_map (slice_get xs) (read_objects rs) ≡ filter_map (slice_get ys) (read_objects rs) → slice_get xs r.object ≡ slice_get ys r.object → (b : Bool) → is_read r.mode ≡ b
          → filter_map (slice_get xs) (read_objects (r ∷ rs)) ≡ filter_map (slice_get ys) (read_objects (r ∷ rs))
      by rest first true t = rw t (ap₂ (λ o zs. cons_option o zs) first rest)
      by rest first false t = rw t rest

  pub lent_same : (requests : List Request) → AgreeAt requests → lent_by xs requests ≡ lent_by ys requests
  lent_same requests agree =
      ap₂ {C = Lent X} (λ written reads. record { written = written; reads = reads }) (lent_written requests agree) (lent_reads requests agree)
