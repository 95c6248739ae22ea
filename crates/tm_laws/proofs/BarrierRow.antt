-- The rows of the barrier are well made.
use Rattle.std.proofs.Common.{◌≡◌, ℕ, true, List, refl, arith}
use Rattle.tm_base.specs.declared.operations.Op.{Op}
use Rattle.tm_base.specs.declared.operations.Op.TheVariants as op
use Rattle.tm_base.specs.declared.kinds.Kind.TheVariants as kind
use Rattle.tm_base.specs.Fits.{fits}
use Rattle.tm_base.specs.States.{BarrierState}
use Rattle.tm_base.specs.Machines.{is_step}
use Rattle.tm_base.specs.Barrier.{barrier_row}
use Rattle.tm_laws.specs.WellMadeRows.{IsWellMade}
use Rattle.tm_laws.proofs.Counting.{count_in-append}

pub barrier_row-made : (parties : ℕ) (queue : List ℕ) (t : ℕ) (o : Op) → fits o (kind.Barrier parties) ≡ true → is_step o ≡ true
    → IsWellMade (kind.Barrier parties) (BarrierState queue) t (barrier_row parties queue t o)
barrier_row-made parties queue t op.Arrive fit call = ((refl, refl, tt, λ x. omega arith), (tt, λ x. omega (arith, count_in-append)))
barrier_row-made parties queue t o fit call = absurd cc
