-- A name's bytes in their array.
use Rattle.std.proofs.Common.{arith, ℕ, ◌≤◌, List, ◌++◌, length, drop, replicate, length-append}
use Rattle.std.proofs.Math.Seq.{take-append_seam, drop-append_seam}
use Rattle.std.proofs.lemmas.List.{drop-replicate, length-replicate}
use Rattle.tm_base.specs.Names.{IsName}
use Rattle.tm_base.specs.StoredNames.{IsStored}

-- a name's bytes, followed by what is left of sixteen zeros
pub IsStored-kept : (bs : List ℕ) → IsName bs → length bs ≤ 16 → IsStored (record { len = length bs; bytes = bs ++ drop (length bs) (replicate 16 0) })
IsStored-kept bs name short = record {
  name = rw take-append_seam name;
  short = short;
  wide = rw (length-append, drop-replicate, length-replicate) (omega arith);
  zeros = rw (drop-append_seam, drop-replicate);
}
