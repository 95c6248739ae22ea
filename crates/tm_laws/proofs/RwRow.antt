-- The rows of the reader-writer lock are well made.
use Rattle.std.proofs.Common.{◌≡◌, ℕ, zero, suc, ◌+◌, ◌==◌, Bool, true, false, not, List, [], ◌∷◌, ◌++◌, map, take, drop, length, filter, Option, Some, None, refl, arith}
use Rattle.std.specs.List.{prefix_len}
use Rattle.tm_base.specs.declared.operations.Op.{Op}
use Rattle.tm_base.specs.declared.operations.Op.TheVariants as op
use Rattle.tm_base.specs.declared.kinds.Kind.TheVariants as kind
use Rattle.tm_base.specs.Fits.{fits}
use Rattle.tm_base.specs.States.{Waiter, RwState}
use Rattle.tm_base.specs.Machines.{is_step}
use Rattle.tm_base.specs.ReaderWriter.{rw_row, admitting_row}
use Rattle.tm_laws.specs.Counts.{bit, count_in}
use Rattle.tm_laws.specs.WellMadeRows.{IsWellMade}

-- the threads that wait
abbrev waiting_threads : List (Waiter Bool) → List ℕ
waiting_threads queue = map (λ w. w.thread) queue

count_of-push : (queue : List (Waiter Bool)) (w : Waiter Bool) (x : ℕ) → count_in (waiting_threads (queue ++ w ∷ [])) x ≡ count_in (waiting_threads queue) x + bit (w.thread == x)
count_of-push [] w x = omega arith
count_of-push (v ∷ queue) w x = omega (arith, count_of-push queue w x)

-- a prefix of the queue and what stands behind it are the queue
count_of-parts : (n : ℕ) (queue : List (Waiter Bool)) (x : ℕ) → count_in (waiting_threads queue) x ≡ count_in (waiting_threads (take n queue)) x + count_in (waiting_threads (drop (length (take n queue)) queue)) x
count_of-parts zero queue x = omega arith
count_of-parts (suc n) [] x = refl
count_of-parts (suc n) (w ∷ queue) x = omega (arith, count_of-parts n queue x)

-- who may go in is admitted
admitting_row-made : (old : List ℕ) (before : Option ℕ) (t : ℕ) (readers : List ℕ) (writer : Option ℕ) (queue : List (Waiter Bool))
    → IsWellMade kind.Rw (RwState old before queue) t (admitting_row readers writer queue)
admitting_row-made old before t readers writer [] = (refl, refl, tt, λ x. omega arith)
admitting_row-made old before t readers (Some w) (v ∷ queue) = (refl, refl, tt, λ x. omega arith)
admitting_row-made old before t readers None (w ∷ queue) = (
  ((refl, refl, tt, λ x. omega arith), (refl, refl, tt, λ x. omega arith)),
  (refl, refl, tt, λ x. count_of-parts (prefix_len (λ w. not w.value) (w ∷ queue)) (w ∷ queue) x),
)

pub rw_row-made : (readers : List ℕ) (writer : Option ℕ) (queue : List (Waiter Bool)) (t : ℕ) (o : Op) → fits o kind.Rw ≡ true → is_step o ≡ true
    → IsWellMade kind.Rw (RwState readers writer queue) t (rw_row readers writer queue t o)
rw_row-made readers writer queue t op.RLock fit call =
    (refl, ((refl, refl, tt, λ x. omega arith), (tt, λ x. omega (arith, count_of-push queue (record { thread = t; value = false }) x))))
rw_row-made readers writer queue t op.WLock fit call =
    (refl, ((refl, refl, tt, λ x. omega arith), (tt, λ x. omega (arith, count_of-push queue (record { thread = t; value = true }) x))))
rw_row-made readers writer queue t op.RUnlock fit call =
    (admitting_row-made readers writer t (filter (λ x. not (x == t)) readers) writer queue, refl)
rw_row-made readers writer queue t op.WUnlock fit call = (admitting_row-made readers writer t readers None queue, refl)
rw_row-made readers writer queue t o fit call = absurd cc
