-- The rows of the asynchronous channel are well made.
use Rattle.std.proofs.Common.{◌≡◌, ℕ, ℤ, Bool, true, false, List, [], ◌∷◌, refl, arith}
use Rattle.tm_base.specs.declared.operations.Op.{Op}
use Rattle.tm_base.specs.declared.operations.Op.TheVariants as op
use Rattle.tm_base.specs.declared.kinds.Kind.TheVariants as kind
use Rattle.tm_base.specs.Fits.{fits}
use Rattle.tm_base.specs.States.{Waiter, AsyncState}
use Rattle.tm_base.specs.Machines.{is_step}
use Rattle.tm_base.specs.Asynchronous.{async_row}
use Rattle.tm_laws.specs.WellMadeRows.{IsWellMade}
use Rattle.tm_laws.proofs.Counting.{count_in-append}
use Rattle.tm_laws.proofs.Senders.{count_of-push}

pub async_row-made : (capacity : ℕ) (messages : List ℤ) (senders : List (Waiter ℤ)) (receivers : List ℕ) (closed : Bool) (t : ℕ) (o : Op)
    → fits o (kind.Async capacity) ≡ true → is_step o ≡ true
    → IsWellMade (kind.Async capacity) (AsyncState messages senders receivers closed) t (async_row capacity messages senders receivers closed t o)
async_row-made capacity messages senders receivers true t (op.Send k) fit call = refl
async_row-made capacity messages senders (w ∷ receivers) false t (op.Send k) fit call = (refl, tt, λ x. omega (arith, count_in-append))
async_row-made capacity messages senders [] false t (op.Send k) fit call =
    ((refl, refl, tt, λ x. omega arith), (tt, λ x. omega (arith, count_in-append, count_of-push senders t k x)))
async_row-made capacity (m ∷ messages) (w ∷ senders) receivers closed t op.Recv fit call = (refl, refl, tt, λ x. omega arith)
async_row-made capacity (m ∷ messages) [] receivers closed t op.Recv fit call = (refl, refl, tt, λ x. omega arith)
async_row-made capacity [] senders receivers true t op.Recv fit call = refl
async_row-made capacity [] senders receivers false t op.Recv fit call = (tt, λ x. omega (arith, count_in-append, count_in-append receivers (t ∷ []) x))
async_row-made capacity messages senders receivers true t op.Close fit call = refl
async_row-made capacity messages senders receivers false t op.Close fit call = (refl, refl, tt, λ x. omega arith)
async_row-made capacity messages senders receivers closed t o fit call = absurd cc
