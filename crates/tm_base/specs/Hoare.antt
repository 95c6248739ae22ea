-- The monitor of Hoare (CACM 1974): one thread inside; a signal resumes a waiter at once, with nobody
-- between; signallers that wait go before the entrance, the newest first.
use Rattle.std.specs.Prelude.{ℕ, ◌==◌, List, [], ◌∷◌, ◌++◌, Option, Some, None, slice_get, slice_set}
use Rattle.tm_base.specs.declared.operations.Op.{Op}
use Rattle.tm_base.specs.declared.operations.Op.TheVariants as op
use Rattle.tm_base.specs.declared.replies.Reply.TheVariants as reply
use Rattle.tm_base.specs.States.{KindState, HoareState}
use Rattle.tm_base.specs.TableRows.{Row, Replies, HandsOver, Waits, Yields, Tests, Looks, Never, makes, queues}

-- To whom the monitor is handed on: to the top of the urgent stack, else to the head of the entrance,
-- else to nobody.
abbrev pub hoare_heir : List ℕ → List ℕ → Option ℕ
hoare_heir entrance (u ∷ urgent) = Some u
hoare_heir (e ∷ entrance) [] = Some e
hoare_heir [] [] = None

-- The monitor with its heir inside.
abbrev pub hoare_handed_on : List ℕ → List ℕ → List (List ℕ) → KindState
hoare_handed_on entrance (u ∷ urgent) conditions = HoareState (Some u) entrance urgent conditions
hoare_handed_on (e ∷ entrance) [] conditions = HoareState (Some e) entrance [] conditions
hoare_handed_on [] [] conditions = HoareState None [] [] conditions

-- The row of a signal, by the thread inside, of a condition at which these threads wait: the oldest is
-- inside at once, and the signaller waits on the urgent stack.
abbrev pub hoare_signal_row : List ℕ → List ℕ → List (List ℕ) → ℕ → ℕ → List ℕ → Row
hoare_signal_row entrance urgent conditions t c [] = Replies reply.Ok
hoare_signal_row entrance urgent conditions t c (w ∷ waiting) =
    Yields w (HoareState (Some w) entrance (t ∷ urgent) (slice_set conditions c waiting))

-- The row of a thread's operation on a Hoare monitor with this thread inside and these queues.
abbrev pub hoare_row : Option ℕ → List ℕ → List ℕ → List (List ℕ) → ℕ → Op → Row
hoare_row None entrance urgent conditions t op.Enter = makes reply.Ok (HoareState (Some t) entrance urgent conditions)
hoare_row (Some i) entrance urgent conditions t op.Enter =
    Tests (i == t) (Replies reply.Held) (queues (HoareState (Some i) (entrance ++ t ∷ []) urgent conditions))
hoare_row None entrance urgent conditions t op.Leave = Replies reply.NotOwner
hoare_row (Some i) entrance urgent conditions t op.Leave =
    Tests (i == t) (HandsOver (hoare_heir entrance urgent) reply.Ok (hoare_handed_on entrance urgent conditions)) (Replies reply.NotOwner)
hoare_row None entrance urgent conditions t (op.Wait c) = Replies reply.NotOwner
hoare_row (Some i) entrance urgent conditions t (op.Wait c) =
    Tests (i == t) (Looks (slice_get conditions c) (λ waiting. Waits (hoare_heir entrance urgent) (hoare_handed_on entrance urgent (slice_set conditions c (waiting ++ t ∷ []))))) (Replies reply.NotOwner)
hoare_row None entrance urgent conditions t (op.Signal c) = Replies reply.NotOwner
hoare_row (Some i) entrance urgent conditions t (op.Signal c) =
    Tests (i == t) (Looks (slice_get conditions c) (λ waiting. hoare_signal_row entrance urgent conditions t c waiting)) (Replies reply.NotOwner)
hoare_row inside entrance urgent conditions t o = Never
