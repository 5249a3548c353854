-- What the works of a measured window mean.
use Rattle.std.specs.Prelude.{◌+◌, ◌%◌, ◌^◌, ℕ, true, List, Option, slice_get}
use Rattle.pooma_machine.specs.declared.step.Request.{Request}
use Rattle.pooma_machine.specs.Values.{Meaning}

-- each work is seen as its requests; it adds one to the object that it writes, and answers the number of the one that it reads
abbrev pub increments : Meaning (List Request) ℕ (Option ℕ) (Unit {0})
increments =
    record {
      statement = λ work. 0;
      requests = λ work. work;
      new_value = λ work old reads. (old + 1) % 2 ^ 64;
      outcome = λ work old reads. slice_get reads 0;
      shape = λ value. tt;
      fits = λ work written reads. true;
    }
