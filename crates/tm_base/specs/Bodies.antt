-- What programs ask, whatever they are written in.
use Rattle.std.specs.Prelude.{◌≡◌, ℕ, Bool, true, false, List, slice_get, Some}
use Rattle.tm_base.specs.declared.asks.Ask.{Ask}
use Rattle.tm_base.specs.declared.asks.Ask.TheVariants as ask
use Rattle.tm_base.specs.declared.kinds.Kind.{Kind}
use Rattle.tm_base.specs.declared.operations.Op.{Op}
use Rattle.tm_base.specs.declared.replies.Reply.{Reply}
use Rattle.tm_base.specs.declared.replies.Reply.TheVariants as reply
use Rattle.tm_base.specs.Fits.{fits, is_call}

-- A program goes on after the reply: its call doesn't wait any more, and wasn't answered `stopped`.
abbrev pub goes_on_after : Reply → Bool
goes_on_after reply.Wait = false
goes_on_after reply.Stopped = false
goes_on_after r = true

-- The program is over.
abbrev pub is_over : Ask → Bool
is_over ask.Over = true
is_over (ask.Call object o) = false

-- The operation is a call that an object of one of these kinds has, which are numbered from 0.
pub record IsCallAmong (kinds : List Kind) (object : ℕ) (o : Op) : Type 0 where
  pub kind : Kind
  pub found : slice_get kinds object ≡ Some kind
  pub fit : fits o kind ≡ true
  pub call : is_call o ≡ true

-- What is asked of objects of these kinds: a call that its object has, or nothing more.
abbrev pub IsAskedAmong : List Kind → Ask → Type 0
IsAskedAmong kinds (ask.Call object o) = IsCallAmong kinds object o
IsAskedAmong kinds ask.Over = Unit {0}
