-- The monitor of Mesa (Lampson and Redell, CACM 1980): notify, spelled `signal` here, is a hint, and
-- the notifier goes on; broadcast notifies all. A notified thread joins the end of the entrance.
use Rattle.std.specs.Prelude.{ℕ, ◌==◌, List, [], ◌∷◌, ◌++◌, Option, Some, None, slice_get, slice_set}
use Rattle.tm_base.specs.declared.operations.Op.{Op}
use Rattle.tm_base.specs.declared.operations.Op.TheVariants as op
use Rattle.tm_base.specs.declared.replies.Reply.TheVariants as reply
use Rattle.tm_base.specs.States.{KindState, MesaState}
use Rattle.tm_base.specs.TableRows.{Row, Replies, HandsOver, Waits, Tests, Looks, Never, makes, queues}

-- To whom the monitor is handed on: to the head of the entrance, or to nobody.
abbrev pub mesa_heir : List ℕ → Option ℕ
mesa_heir (e ∷ entrance) = Some e
mesa_heir [] = None

-- The monitor with its heir inside.
abbrev pub mesa_handed_on : List ℕ → List (List ℕ) → KindState
mesa_handed_on (e ∷ entrance) conditions = MesaState (Some e) entrance conditions
mesa_handed_on [] conditions = MesaState None [] conditions

-- The row of a signal, by the thread inside, of a condition at which these threads wait: the oldest
-- moves to the end of the entrance.
abbrev pub mesa_signal_row : ℕ → List ℕ → List (List ℕ) → ℕ → List ℕ → Row
mesa_signal_row i entrance conditions c [] = Replies reply.Ok
mesa_signal_row i entrance conditions c (w ∷ waiting) = makes reply.Ok (MesaState (Some i) (entrance ++ w ∷ []) (slice_set conditions c waiting))

-- The row of a thread's operation on a Mesa monitor with this thread inside and these queues.
abbrev pub mesa_row : Option ℕ → List ℕ → List (List ℕ) → ℕ → Op → Row
mesa_row None entrance conditions t op.Enter = makes reply.Ok (MesaState (Some t) entrance conditions)
mesa_row (Some i) entrance conditions t op.Enter =
    Tests (i == t) (Replies reply.Held) (queues (MesaState (Some i) (entrance ++ t ∷ []) conditions))
mesa_row None entrance conditions t op.Leave = Replies reply.NotOwner
mesa_row (Some i) entrance conditions t op.Leave =
    Tests (i == t) (HandsOver (mesa_heir entrance) reply.Ok (mesa_handed_on entrance conditions)) (Replies reply.NotOwner)
mesa_row None entrance conditions t (op.Wait c) = Replies reply.NotOwner
mesa_row (Some i) entrance conditions t (op.Wait c) =
    Tests (i == t) (Looks (slice_get conditions c) (λ waiting. Waits (mesa_heir entrance) (mesa_handed_on entrance (slice_set conditions c (waiting ++ t ∷ []))))) (Replies reply.NotOwner)
mesa_row None entrance conditions t (op.Signal c) = Replies reply.NotOwner
mesa_row (Some i) entrance conditions t (op.Signal c) =
    Tests (i == t) (Looks (slice_get conditions c) (λ waiting. mesa_signal_row i entrance conditions c waiting)) (Replies reply.NotOwner)
mesa_row None entrance conditions t (op.Broadcast c) = Replies reply.NotOwner
mesa_row (Some i) entrance conditions t (op.Broadcast c) =
    Tests (i == t) (Looks (slice_get conditions c) (λ waiting. makes reply.Ok (MesaState (Some i) (entrance ++ waiting) (slice_set conditions c [])))) (Replies reply.NotOwner)
mesa_row inside entrance conditions t o = Never
