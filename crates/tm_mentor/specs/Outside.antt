-- What contracts see of what stands outside: of a source and of a sink, before and after a command.
use Rattle.std.specs.Prelude.{◌≡◌, ℕ, List, Option}

-- The bytes that the source has left, where it tells them, and the count of its faults.
pub record Input : Type 0 where
  pub left : Option (List ℕ)
  pub faults : ℕ

-- A source, by its ghost members.
abbrev pub input_of : {S : Type 0} → (S → Option (List ℕ)) → (S → ℕ) → S → Input
input_of left faults source = record { left = left source; faults = faults source }

-- The bytes that the sink was given, where it tells them, and the count of its faults.
pub record Output : Type 0 where
  pub written : Option (List ℕ)
  pub faults : ℕ

-- A sink, by its ghost members.
abbrev pub output_of : {K : Type 0} → (K → Option (List ℕ)) → (K → ℕ) → K → Output
output_of written faults sink = record { written = written sink; faults = faults sink }

-- Both, before and after.
pub record Exchange : Type 0 where
  pub source_before : Input
  pub source_after : Input
  pub sink_before : Output
  pub sink_after : Output

-- Nothing was read.
abbrev pub ReadsNothing : Exchange → Type 0
ReadsNothing o = o.source_after ≡ o.source_before
