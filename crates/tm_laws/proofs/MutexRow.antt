-- The rows of the mutex are well made.
use Rattle.std.proofs.Common.{◌≡◌, ℕ, true, List, [], ◌∷◌, Option, Some, None, refl, arith}
use Rattle.tm_base.specs.declared.operations.Op.{Op}
use Rattle.tm_base.specs.declared.operations.Op.TheVariants as op
use Rattle.tm_base.specs.declared.kinds.Kind.TheVariants as kind
use Rattle.tm_base.specs.Fits.{fits}
use Rattle.tm_base.specs.States.{MutexState}
use Rattle.tm_base.specs.Machines.{is_step}
use Rattle.tm_base.specs.Mutex.{mutex_row}
use Rattle.tm_laws.specs.WellMadeRows.{IsWellMade}
use Rattle.tm_laws.proofs.Counting.{count_in-append}

pub mutex_row-made : (owner : Option ℕ) (queue : List ℕ) (t : ℕ) (o : Op) → fits o kind.Mutex ≡ true → is_step o ≡ true
    → IsWellMade kind.Mutex (MutexState owner queue) t (mutex_row owner queue t o)
mutex_row-made None queue t op.Lock fit call = (refl, refl, tt, λ x. omega arith)
mutex_row-made (Some o) queue t op.Lock fit call = (refl, (tt, λ x. omega (arith, count_in-append)))
mutex_row-made None queue t op.TryLock fit call = (refl, refl, tt, λ x. omega arith)
mutex_row-made (Some o) queue t op.TryLock fit call = (refl, refl)
mutex_row-made None queue t op.Unlock fit call = refl
mutex_row-made (Some o) [] t op.Unlock fit call = ((refl, refl, tt, λ x. omega arith), refl)
mutex_row-made (Some o) (w ∷ queue) t op.Unlock fit call = ((refl, tt, λ x. omega arith), refl)
mutex_row-made owner queue t o fit call = absurd cc
