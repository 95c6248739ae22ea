-- The object that stands for a thread: its start, its first and last event, and who waits for its end.
use Rattle.std.specs.Prelude.{ℕ, Bool, true, false, ◌==◌, List, [], ◌∷◌, ◌++◌, Some}
use Rattle.tm_base.specs.declared.operations.Op.{Op}
use Rattle.tm_base.specs.declared.operations.Op.TheVariants as op
use Rattle.tm_base.specs.declared.replies.Reply.TheVariants as reply
use Rattle.tm_base.specs.States.{ThreadObjectState}
use Rattle.tm_base.specs.TableRows.{Row, Replies, Grants, HandsOver, Notes, Tests, Never, makes, queues}

-- The row of a thread's operation on the object of the thread `own`, in this state. `begin` on a
-- stopped object is noted though its reply is `stopped`.
abbrev pub thread_row : ℕ → Bool → Bool → Bool → List ℕ → List ℕ → ℕ → Op → Row
thread_row own true begun ended beginning joiners t op.Begin = makes reply.Ok (ThreadObjectState true true ended beginning joiners)
thread_row own false begun ended beginning joiners t op.Begin =
    Notes (ThreadObjectState false true ended beginning joiners) (ThreadObjectState false true ended (beginning ++ t ∷ []) joiners)
thread_row own true begun ended beginning joiners t op.Start = Replies reply.Already
thread_row own false begun ended (o ∷ beginning) joiners t op.Start =
    HandsOver (Some o) reply.Ok (ThreadObjectState true begun ended beginning joiners)
thread_row own false begun ended [] joiners t op.Start = makes reply.Ok (ThreadObjectState true begun ended [] joiners)
thread_row own started begun true beginning joiners t op.Join = Tests (own == t) (Replies reply.Myself) (Replies reply.Ok)
thread_row own started begun false beginning joiners t op.Join =
    Tests (own == t) (Replies reply.Myself) (queues (ThreadObjectState started begun false beginning (joiners ++ t ∷ [])))
thread_row own started begun ended beginning joiners t (op.End true) =
    Grants reply.Cut joiners reply.Ok (ThreadObjectState started begun true beginning [])
thread_row own started begun ended beginning joiners t (op.End false) =
    Grants reply.Ok joiners reply.Ok (ThreadObjectState started begun true beginning [])
thread_row own started begun ended beginning joiners t o = Never
