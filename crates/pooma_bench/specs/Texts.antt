-- What is printed of a measurement.
use Rattle.std.specs.Prelude.{ℕ, List, ◌++◌, codes, decimal}
use Rattle.pooma_bench.specs.declared.window.TheConstants.{OBJECTS}
use Rattle.pooma_bench.specs.declared.measure.Tally.{Tally}
use Rattle.pooma_bench.specs.declared.measure.Times.{Times}

-- what was done
abbrev pub tally_text : Tally → List ℕ
tally_text tally =
    codes "machine: " ++ (decimal tally.entries ++ (codes " entries over " ++ (decimal OBJECTS ++ (codes " objects, "
    ++ (decimal tally.events ++ (codes " events, sum " ++ decimal tally.sum))))))

-- how long it took
abbrev pub times_text : Times → List ℕ
times_text times =
    codes "microseconds: requesting " ++ (decimal times.requesting ++ (codes ", running " ++ (decimal times.running
    ++ (codes ", finishing " ++ (decimal times.finishing ++ (codes ", total " ++ decimal times.total))))))
