-- When a thread's `join` succeeds.
use Rattle.std.specs.Prelude.{◌≡◌, ◌≢◌, ℕ, Bool, true, List, ◌∷◌, ◌++◌, Contains, Some, ◌⊎◌}
use Rattle.tm_base.specs.declared.operations.Op.TheVariants as op
use Rattle.tm_base.specs.declared.replies.Reply.TheVariants as reply
use Rattle.tm_base.specs.declared.kinds.Kind.TheVariants as kind
use Rattle.tm_base.specs.declared.events.Entry.{Entry}
use Rattle.tm_base.specs.States.{grant_of}
use Rattle.tm_base.specs.Histories.{Label, HistoryState, IsHistory}
use Rattle.tm_laws.specs.ThreadObjects.{is_end}

-- The event answers a `join` with `ok` on the object of the thread `own`: at once, or by a resume
-- after it waited. Only `begin` and `join` can wait there. The own thread alone begins, and never
-- waits in a `join`, since it gets `self` there. So a resume is the answer to a `join` exactly if
-- another thread makes it.
abbrev pub IsJoined : ℕ → Entry → Type 0
IsJoined own e =
    ((e.op ≡ op.Join) × (e.reply ≡ reply.Ok)) ⊎ ((e.op ≡ op.Resume) × (e.thread ≢ own) × (e.reply ≡ reply.Ok))

-- In every legal history of a thread object an `end` stands before each event that answers a `join`
-- with `ok`.
abbrev pub JoinsAfterEnd : Type 0
JoinsAfterEnd =
    (l : Label) (own : ℕ) (held : Bool) (es : List Entry) (p : HistoryState) →
    l.kind ≡ kind.Thread own held → IsHistory l es p →
    (prefix back : List Entry) (e : Entry) → es ≡ prefix ++ e ∷ back → IsJoined own e →
    (a : Entry) × Contains prefix a × (is_end a.op ≡ true)

-- And where such a history leaves another thread than its own granted `ok`, which is the answer to a `join`
-- that waited, an `end` stands in it.
abbrev pub GrantsAfterEnd : Type 0
GrantsAfterEnd =
    (l : Label) (own : ℕ) (held : Bool) (es : List Entry) (p : HistoryState) (t : ℕ) →
    l.kind ≡ kind.Thread own held → IsHistory l es p → t ≢ own → grant_of p.state t ≡ Some reply.Ok →
    (a : Entry) × Contains es a × (is_end a.op ≡ true)
