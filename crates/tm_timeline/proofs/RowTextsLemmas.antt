-- How long the text of a row is, by where it starts.
use Rattle.std.proofs.Common.{◌≡◌, ℕ, ◌+◌, ◌≤◌, List, length, length-drop, drop, ap, arith}

pub length-text : (start : ℕ) (bytes text : List ℕ) → drop start bytes ≡ text → length bytes ≡ 256 → start ≤ 256 → length text + start ≡ 256
length-text start bytes text is wide within = omega (arith, ap length is, length-drop start bytes, wide, within)
