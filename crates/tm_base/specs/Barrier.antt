-- The barrier of textbooks: it opens when all its parties have arrived, and closes again.
use Rattle.std.specs.Prelude.{ℕ, ◌+◌, ◌==◌, List, [], ◌∷◌, ◌++◌, length}
use Rattle.tm_base.specs.declared.operations.Op.{Op}
use Rattle.tm_base.specs.declared.operations.Op.TheVariants as op
use Rattle.tm_base.specs.declared.replies.Reply.TheVariants as reply
use Rattle.tm_base.specs.States.{BarrierState}
use Rattle.tm_base.specs.TableRows.{Row, Grants, Tests, Never, queues}

-- The row of a thread's operation on a barrier of so many parties with this queue. The last of the
-- parties grants all that wait.
abbrev pub barrier_row : ℕ → List ℕ → ℕ → Op → Row
barrier_row parties queue t op.Arrive =
    Tests (length queue + 1 == parties) (Grants reply.Last queue reply.Ok (BarrierState [])) (queues (BarrierState (queue ++ t ∷ [])))
barrier_row parties queue t o = Never
