-- What each row of a kind's table owes, so that what is said of steps holds for every kind.
use Rattle.std.specs.Prelude.{◌≡◌, ℕ, ◌+◌, ◌≤◌, Bool, true, false, ◌==◌, List, [], ◌∷◌, Some, option_to_list}
use Rattle.tm_base.specs.declared.operations.Op.{Op}
use Rattle.tm_base.specs.declared.replies.Reply.{Reply}
use Rattle.tm_base.specs.declared.replies.Reply.TheVariants as reply
use Rattle.tm_base.specs.declared.kinds.Kind.{Kind}
use Rattle.tm_base.specs.Fits.{fits}
use Rattle.tm_base.specs.States.{KindState, queued}
use Rattle.tm_base.specs.TableRows.{Row, Replies, Grants, HandsOver, Waits, Notes, Yields, Tests, Looks, Never}
use Rattle.tm_base.specs.Steps.{row_of}
use Rattle.tm_base.specs.Machines.{is_step}
use Rattle.tm_laws.specs.Counts.{bit, count_in, is_grant}
use Rattle.tm_laws.specs.Tidy.{IsStateOf}

-- The reply completes the call and names nobody: it is neither `wait` nor `gave`.
abbrev pub is_plain : Reply → Bool
is_plain reply.Wait = false
is_plain (reply.Gave heir) = false
is_plain r = true

-- Those that are served leave the queues, and all others stay in one.
abbrev pub Serves : KindState → List ℕ → KindState → Type 0
Serves old served next = (x : ℕ) → count_in (queued old) x ≡ count_in served x + count_in (queued next) x

-- The same, and the thread joins a queue.
abbrev pub ServesAndJoins : KindState → ℕ → List ℕ → KindState → Type 0
ServesAndJoins old t served next = (x : ℕ) → count_in (queued old) x + bit (t == x) ≡ count_in served x + count_in (queued next) x

-- The row is well made, for a thread's operation from this state of the kind: it leaves a state of the
-- kind; who is granted a reply stood in a queue, and nobody else leaves one; the thread joins a queue
-- exactly where its call waits; `gave` names the thread that is served; and there is such a row.
abbrev pub IsWellMade : Kind → KindState → ℕ → Row → Type 0
IsWellMade k old t (Replies answer) = is_plain answer ≡ true
IsWellMade k old t (Grants answer served granted next) =
    (is_plain answer ≡ true) × (is_grant granted ≡ true) × IsStateOf k next × Serves old served next
IsWellMade k old t (HandsOver heir granted next) = (is_grant granted ≡ true) × IsStateOf k next × Serves old (option_to_list heir) next
IsWellMade k old t (Waits heir next) = IsStateOf k next × ServesAndJoins old t (option_to_list heir) next
IsWellMade k old t (Notes noted next) =
    IsStateOf k noted × IsStateOf k next × Serves old [] noted × ServesAndJoins old t [] next
IsWellMade k old t (Yields heir next) = IsStateOf k next × (1 ≤ count_in (queued old) heir) × ServesAndJoins old t (heir ∷ []) next
IsWellMade k old t (Tests test passes fails) = IsWellMade k old t passes × IsWellMade k old t fails
IsWellMade k old t (Looks queue row) = (waiting : List ℕ) × (queue ≡ Some waiting) × IsWellMade k old t (row waiting)
IsWellMade k old t Never = ⊥

-- Each row of each kind's table is well made, for every operation that the kind has.
abbrev pub RowsAreWellMade : Type 0
RowsAreWellMade = (k : Kind) (old : KindState) (t : ℕ) (o : Op) → IsStateOf k old → fits o k ≡ true → is_step o ≡ true
    → IsWellMade k old t (row_of k old t o)
