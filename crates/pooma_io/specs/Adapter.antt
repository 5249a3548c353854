-- What a clause reads of the ends over a reader and over a writer of std.
use Rattle.std.specs.Prelude.{ℕ}
use Rattle.pooma_io.specs.declared.adapter.ReadSource.{ReadSource}
use Rattle.pooma_io.specs.declared.adapter.WriteSink.{WriteSink}

-- the reader of a source
abbrev pub reader : {R : Type 0} → ReadSource R → R
reader s = s.inner

-- how often a source over a reader has failed
abbrev pub read_faults : {R : Type 0} → ReadSource R → ℕ
read_faults s = s.faults

-- the writer of a sink
abbrev pub writer : {W : Type 0} → WriteSink W → W
writer s = s.inner

-- how often a sink over a writer has failed
abbrev pub write_faults : {W : Type 0} → WriteSink W → ℕ
write_faults s = s.faults
