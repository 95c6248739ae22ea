-- The events that a line of a trace can say.
use Rattle.std.specs.Prelude.{◌≡◌, ℕ, ◌≤◌, ◌<◌, ◌↔◌, nat_abs, true, length}
use Rattle.tm_base.specs.declared.events.Entry.{Entry}
use Rattle.tm_base.specs.declared.operations.Op.{Op}
use Rattle.tm_base.specs.declared.operations.Op.TheVariants as op
use Rattle.tm_base.specs.declared.replies.Reply.{Reply}
use Rattle.tm_base.specs.declared.replies.Reply.TheVariants as reply
use Rattle.tm_lines.specs.declared.limits.TheConstants.{GREATEST_NUMBER, MOST_CONDITIONS}
use Rattle.tm_text.specs.Exercises.{ExerciseView}
use Rattle.tm_timeline.specs.Rows.{NamesThread}

-- The number is one that counts from 1, and is written as a number is.
pub record IsCounted (n : ℕ) : Type 0 where
  pub first : 1 ≤ n
  pub last : n ≤ nat_abs GREATEST_NUMBER

-- The operation can be said together with the reply: a condition is one that some monitor can have, and an `end` has
-- `cut` exactly where its reply is `cut`.
abbrev pub IsSaidWith : Reply → Op → Type 0
IsSaidWith r (op.Wait condition) = condition < nat_abs MOST_CONDITIONS
IsSaidWith r (op.Signal condition) = condition < nat_abs MOST_CONDITIONS
IsSaidWith r (op.Broadcast condition) = condition < nat_abs MOST_CONDITIONS
IsSaidWith r (op.End cut) = (cut ≡ true) ↔ (r ≡ reply.Cut)
IsSaidWith r o = Unit {0}

-- A line of a trace can say the event: its thread is `main` or one of the exercise, its object is one of the exercise,
-- its places and its stamp count from 1, and the thread that its reply names, where it names one, has a program.
pub record IsTraceable (x : ExerciseView) (e : Entry) : Type 0 where
  pub thread : e.thread ≤ length x.programs
  pub object : e.object < length x.objects
  pub place : IsCounted e.place
  pub at : IsCounted e.at
  pub stamp : IsCounted e.stamp
  pub said : IsSaidWith e.reply e.op
  pub named : NamesThread x e.reply
