-- The rows of the synchronous channel are well made.
use Rattle.std.proofs.Common.{◌≡◌, ℕ, ℤ, Bool, true, false, List, [], ◌∷◌, refl, arith}
use Rattle.tm_base.specs.declared.operations.Op.{Op}
use Rattle.tm_base.specs.declared.operations.Op.TheVariants as op
use Rattle.tm_base.specs.declared.kinds.Kind.TheVariants as kind
use Rattle.tm_base.specs.Fits.{fits}
use Rattle.tm_base.specs.States.{Waiter, SyncState}
use Rattle.tm_base.specs.Machines.{is_step}
use Rattle.tm_base.specs.Synchronous.{sync_row}
use Rattle.tm_laws.specs.WellMadeRows.{IsWellMade}
use Rattle.tm_laws.proofs.Counting.{count_in-append}
use Rattle.tm_laws.proofs.Senders.{count_of-push}

pub sync_row-made : (senders : List (Waiter ℤ)) (receivers : List ℕ) (closed : Bool) (t : ℕ) (o : Op) → fits o kind.Sync ≡ true → is_step o ≡ true
    → IsWellMade kind.Sync (SyncState senders receivers closed) t (sync_row senders receivers closed t o)
sync_row-made senders receivers true t (op.Send k) fit call = refl
sync_row-made senders (w ∷ receivers) false t (op.Send k) fit call = (refl, tt, λ x. omega (arith, count_in-append))
sync_row-made senders [] false t (op.Send k) fit call = (tt, λ x. omega (arith, count_in-append, count_of-push senders t k x))
sync_row-made (w ∷ senders) receivers closed t op.Recv fit call = (refl, refl, tt, λ x. omega arith)
sync_row-made [] receivers true t op.Recv fit call = refl
sync_row-made [] receivers false t op.Recv fit call = (tt, λ x. omega (arith, count_in-append, count_in-append receivers (t ∷ []) x))
sync_row-made senders receivers true t op.Close fit call = refl
sync_row-made senders receivers false t op.Close fit call = (refl, refl, tt, λ x. omega arith)
sync_row-made senders receivers closed t o fit call = absurd cc
