-- Whether the thread that an object stands for has begun and has ended.
use Rattle.std.specs.Prelude.{Bool, true, false}
use Rattle.tm_base.specs.declared.operations.Op.{Op}
use Rattle.tm_base.specs.declared.operations.Op.TheVariants as op
use Rattle.tm_base.specs.States.{KindState, ThreadObjectState}

-- The state is that of a thread's object whose thread has begun. Objects of other kinds never begin.
abbrev pub has_begun : KindState → Bool
has_begun (ThreadObjectState started begun ended beginning joiners) = begun
has_begun own = false

-- The same for its end.
abbrev pub has_ended : KindState → Bool
has_ended (ThreadObjectState started begun ended beginning joiners) = ended
has_ended own = false

abbrev pub is_begin : Op → Bool
is_begin op.Begin = true
is_begin o = false

abbrev pub is_end : Op → Bool
is_end (op.End cut) = true
is_end o = false
