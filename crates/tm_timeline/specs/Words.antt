-- The words that rows and last lines are made of.
use Rattle.std.specs.Prelude.{ℕ, List, codes}
use Rattle.tm_base.specs.declared.replies.Reply.{Reply}
use Rattle.tm_base.specs.declared.replies.Reply.TheVariants as reply
use Rattle.tm_base.specs.declared.bars.Bar.{Bar}
use Rattle.tm_base.specs.declared.bars.Bar.TheVariants as bar
use Rattle.tm_base.specs.declared.ends.End.{End}
use Rattle.tm_base.specs.declared.ends.End.TheVariants as end

-- The word of a reply.
abbrev pub reply_word : Reply → List ℕ
reply_word reply.Ok = codes "ok"
reply_word reply.Wait = codes "wait"
reply_word (reply.Gave thread) = codes "gave"
reply_word (reply.Got value) = codes "got"
reply_word reply.Held = codes "held"
reply_word reply.NotOwner = codes "notowner"
reply_word reply.Busy = codes "busy"
reply_word reply.Zero = codes "zero"
reply_word reply.Full = codes "full"
reply_word reply.Last = codes "last"
reply_word reply.Stopped = codes "stopped"
reply_word reply.Closed = codes "closed"
reply_word reply.Already = codes "already"
reply_word reply.Myself = codes "self"
reply_word reply.Cut = codes "cut"

-- The letter of a thread's bar.
abbrev pub bar_letter : Bar → List ℕ
bar_letter bar.Unborn = codes "-"
bar_letter bar.Runs = codes "R"
bar_letter bar.Blocked = codes "B"
bar_letter bar.Granted = codes "G"
bar_letter bar.Ended = codes "E"

-- The word that says how a run ended.
abbrev pub end_word : End → List ℕ
end_word end.Done = codes "done"
end_word end.Stuck = codes "stuck"
end_word end.Budget = codes "budget"
