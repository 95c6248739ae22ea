-- What contracts see of a source and of a sink in memory.
use Rattle.std.specs.Prelude.{ℕ, ◌-◌, ◌<◌, ◌⊎◌, List, [], ◌++◌, length, drop, Contains}
use Rattle.tm_base.specs.Counters.{next_count}

-- A source: the bytes that are left, how many reads there were, the numbers from 1 of the reads that
-- fail, and how many reads failed.
pub record SourceState : Type 0 where
  pub left : List ℕ
  pub calls : ℕ
  pub fails : List ℕ
  pub faults : ℕ

-- No read yet.
abbrev pub new_source : List ℕ → List ℕ → SourceState
new_source bytes fails = record { left = bytes; calls = 0; fails = fails; faults = 0 }

-- The number of the next read is one of those that fail.
abbrev pub FailsNext : SourceState → Type 0
FailsNext s = Contains s.fails (next_count s.calls)

-- After a read of n bytes.
abbrev pub after_read : SourceState → ℕ → SourceState
after_read s n = record { left = drop n s.left; calls = next_count s.calls; fails = s.fails; faults = s.faults }

-- After a read that failed.
abbrev pub after_failed_read : SourceState → SourceState
after_failed_read s = record { left = s.left; calls = next_count s.calls; fails = s.fails; faults = next_count s.faults }

-- A sink: the bytes written, the room left, how many writes there were, the numbers from 1 of the
-- writes that fail, and how many writes failed.
pub record SinkState : Type 0 where
  pub written : List ℕ
  pub room : ℕ
  pub calls : ℕ
  pub fails : List ℕ
  pub faults : ℕ

-- No write yet.
abbrev pub new_sink : ℕ → List ℕ → SinkState
new_sink room fails = record { written = []; room = room; calls = 0; fails = fails; faults = 0 }

-- The number of the next write is one of those that fail, or the piece is longer than the room left.
abbrev pub RefusesPiece : SinkState → List ℕ → Type 0
RefusesPiece s piece = (s.room < length piece) ⊎ Contains s.fails (next_count s.calls)

-- After a write of the whole piece.
abbrev pub after_write : SinkState → List ℕ → SinkState
after_write s piece = record { written = s.written ++ piece; room = s.room - length piece; calls = next_count s.calls; fails = s.fails; faults = s.faults }

-- After a write that failed.
abbrev pub after_failed_write : SinkState → SinkState
after_failed_write s = record { written = s.written; room = s.room; calls = next_count s.calls; fails = s.fails; faults = next_count s.faults }
