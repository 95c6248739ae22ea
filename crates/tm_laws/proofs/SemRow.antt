-- The rows of the semaphore are well made.
use Rattle.std.proofs.Common.{◌≡◌, ℕ, true, List, [], ◌∷◌, refl, arith}
use Rattle.tm_base.specs.declared.operations.Op.{Op}
use Rattle.tm_base.specs.declared.operations.Op.TheVariants as op
use Rattle.tm_base.specs.declared.kinds.Kind.TheVariants as kind
use Rattle.tm_base.specs.Fits.{fits}
use Rattle.tm_base.specs.States.{SemState}
use Rattle.tm_base.specs.Machines.{is_step}
use Rattle.tm_base.specs.Semaphore.{sem_row}
use Rattle.tm_laws.specs.WellMadeRows.{IsWellMade}
use Rattle.tm_laws.proofs.Counting.{count_in-append}

pub sem_row-made : (start value : ℕ) (queue : List ℕ) (t : ℕ) (o : Op) → fits o (kind.Sem start) ≡ true → is_step o ≡ true
    → IsWellMade (kind.Sem start) (SemState value queue) t (sem_row value queue t o)
sem_row-made start value queue t op.P fit call = ((refl, refl, tt, λ x. omega arith), (tt, λ x. omega (arith, count_in-append)))
sem_row-made start value queue t op.TryP fit call = ((refl, refl, tt, λ x. omega arith), refl)
sem_row-made start value (w ∷ queue) t op.V fit call = (refl, tt, λ x. omega arith)
sem_row-made start value [] t op.V fit call = (refl, (refl, refl, tt, λ x. omega arith))
sem_row-made start value queue t o fit call = absurd cc
