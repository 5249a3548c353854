-- What contracts see of the sources and sinks in memory.
use Rattle.std.specs.Prelude.{◌⊎◌, ℕ, ◌-◌, ◌<◌, ◌≤◌, min, List, ◌++◌, length, take, drop, Contains}
use Rattle.pooma_io.specs.Outside.{next_count}

-- of a sure source: the bytes that are left, and how many calls there were
pub record SureSourceState : Type 0 where
  pub left : List ℕ
  pub calls : ℕ

-- of a sure sink: the bytes that are held, for how many there is room, and how many calls failed
pub record SureSinkState : Type 0 where
  pub held : List ℕ
  pub room : ℕ
  pub faults : ℕ

-- the bytes that are left, how many a call gives at most, the numbers of the calls that fail, how many calls there were,
-- and how many of them failed
pub record SourceState : Type 0 where
  pub left : List ℕ
  pub step : ℕ
  pub failing : List ℕ
  pub calls : ℕ
  pub faults : ℕ

-- the bytes that are held, for how many there is room, how many a call takes at most, the numbers of the calls that fail,
-- how many calls there were, and how many of them failed
pub record SinkState : Type 0 where
  pub held : List ℕ
  pub room : ℕ
  pub step : ℕ
  pub failing : List ℕ
  pub calls : ℕ
  pub faults : ℕ

-- a buffer after its first bytes were overwritten by the first n of these bytes
abbrev pub filled : List ℕ → ℕ → List ℕ → List ℕ
filled bytes n buffer = take n bytes ++ drop n buffer

-- a sure source after a call that gave so many bytes
abbrev pub sure_after_giving : SureSourceState → ℕ → SureSourceState
sure_after_giving s n = record { left = drop n s.left; calls = next_count s.calls }

-- a sure sink after a call that took these bytes
abbrev pub sure_after_taking : SureSinkState → List ℕ → SureSinkState
sure_after_taking s bytes = record s { held = s.held ++ bytes }

-- a sure sink after a call that failed
abbrev pub sure_after_failing : SureSinkState → SureSinkState
sure_after_failing s = record s { faults = next_count s.faults }

-- for how many more bytes there is room
abbrev pub sure_free : SureSinkState → ℕ
sure_free s = s.room - length s.held

-- the next call of a source is one of those that fail
abbrev pub FailsNext : SourceState → Type 0
FailsNext s = Contains s.failing (next_count s.calls)

-- how many bytes the next call gives into a buffer of this length, where it doesn't fail
abbrev pub given_count : SourceState → ℕ → ℕ
given_count s len = min s.step (min len (length s.left))

-- a source after a call that gave so many bytes
abbrev pub after_giving : SourceState → ℕ → SourceState
after_giving s n = record s { left = drop n s.left; calls = next_count s.calls }

-- a source after a call that failed
abbrev pub source_after_failing : SourceState → SourceState
source_after_failing s = record s { calls = next_count s.calls; faults = next_count s.faults }

-- a piece that isn't empty finds the room full
abbrev pub FindsFull : ℕ → List ℕ → List ℕ → Type 0
FindsFull room held piece = (0 < length piece) × (room ≤ length held)

-- the next call of a sink, with this piece, is one of those that fail, or it finds the room full
abbrev pub RefusesNext : SinkState → List ℕ → Type 0
RefusesNext s piece = Contains s.failing (next_count s.calls) ⊎ FindsFull s.room s.held piece

-- how many bytes the next call takes of this piece, where it doesn't fail
abbrev pub taken_count : SinkState → List ℕ → ℕ
taken_count s piece = min s.step (min (length piece) (s.room - length s.held))

-- a sink after a call that took these bytes
abbrev pub after_taking : SinkState → List ℕ → SinkState
after_taking s bytes = record s { held = s.held ++ bytes; calls = next_count s.calls }

-- a sink after a call that failed
abbrev pub sink_after_failing : SinkState → SinkState
sink_after_failing s = record s { calls = next_count s.calls; faults = next_count s.faults }
