-- How often a thread waits or holds a granted reply, as a number.
use Rattle.std.specs.Prelude.{ℕ, ◌+◌, Bool, true, false, ◌==◌, is_some, List, [], ◌∷◌}
use Rattle.tm_base.specs.declared.replies.Reply.{Reply}
use Rattle.tm_base.specs.declared.replies.Reply.TheVariants as reply
use Rattle.tm_base.specs.States.{State, queued, grant_of}

-- 1 where the test passes, else 0.
abbrev pub bit : Bool → ℕ
bit true = 1
bit false = 0

-- How often the thread stands in the queue.
abbrev pub count_in : List ℕ → ℕ → ℕ
count_in [] t = 0
count_in (x ∷ queue) t = bit (x == t) + count_in queue t

-- The thread was granted a reply that it hasn't taken yet.
abbrev pub has_grant : State → ℕ → Bool
has_grant s t = is_some (grant_of s t)

-- How often the thread stands in a queue, and one more where it was granted a reply.
abbrev pub occurrences : State → ℕ → ℕ
occurrences s t = count_in (queued s.kind_state) t + bit (has_grant s t)

-- The reply says that the call waits.
abbrev pub is_wait : Reply → Bool
is_wait reply.Wait = true
is_wait r = false

-- A reply that a waiting call can be granted.
abbrev pub is_grant : Reply → Bool
is_grant reply.Ok = true
is_grant (reply.Got value) = true
is_grant reply.Stopped = true
is_grant reply.Closed = true
is_grant r = false

-- 1 for the thread whose call waits by this reply, else 0.
abbrev pub joins : Reply → ℕ → ℕ → ℕ
joins reply.Wait t x = bit (t == x)
joins r t x = 0
