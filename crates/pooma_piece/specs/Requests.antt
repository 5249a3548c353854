-- What a piece asks for: one request for each object that it names.
use Rattle.std.specs.Prelude.{ℕ, ◌==◌, nat_lt, Option, None, Some, List, [], ◌∷◌, fold, if◌then◌else◌}
use Rattle.std.specs.List.{insert, list_any, prefix_len}
use Rattle.pooma_queue.specs.declared.queue.Mode.{Mode}
use Rattle.pooma_queue.specs.declared.queue.Mode.TheVariants.{Read, Write}
use Rattle.pooma_machine.specs.declared.step.Request.{Request}

-- the request of an object in this mode
abbrev pub request : Mode → ℕ → Request
request mode object = record { object = object; mode = mode }

-- the requests that begin with the object that is written, where there is one
abbrev pub write_request : Option ℕ → List Request
write_request None = []
write_request (Some object) = request Write object ∷ []

-- One request more, to read an object: in its place by the objects' numbers. An object that is asked for already stays so.
abbrev pub with_read : List Request → ℕ → List Request
with_read requests object =
    if list_any (λ r. r.object == object) requests then requests
    else insert requests (prefix_len (λ r. nat_lt r.object object) requests) (request Read object)

-- the requests of who writes this object, where there is one, and reads these
abbrev pub requests_for : Option ℕ → List ℕ → List Request
requests_for write reads = fold with_read (write_request write) reads
