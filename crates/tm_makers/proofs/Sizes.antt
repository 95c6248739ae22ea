-- What tests of sizes tell.
use Rattle.std.proofs.Common.{◌≡◌, ◌≤◌, ℕ, true, nat_le, arith}
use Rattle.std.proofs.lemmas.Bool.Decides.{nat_tests}
use Rattle.tm_makers.specs.LineForms.{is_within}
use Rattle.tm_makers.proofs.LayoutParts.{both-true}

pub record Within (least most n : ℕ) : Type 0 where
  pub low : least ≤ n
  pub high : n ≤ most

pub le-true : (a b : ℕ) → nat_le a b ≡ true → a ≤ b
le-true a b h = grind (arith, nat_tests)

pub true-le : (a b : ℕ) → a ≤ b → nat_le a b ≡ true
true-le a b h = grind (arith, nat_tests)

pub within : (least most n : ℕ) → is_within least most n ≡ true → Within least most n
within least most n h =
    let parts = both-true (nat_le least n) (nat_le n most) h in
    record { low = le-true least n parts.0; high = le-true n most parts.1 }
