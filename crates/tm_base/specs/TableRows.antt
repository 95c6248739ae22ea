-- The rows of the machines' tables, and what each means.
use Rattle.std.specs.Prelude.{◌≡◌, ℕ, Bool, true, false, List, [], ◌∷◌, Option, Some, None, option_to_list, MatchBool, IsSomeAnd}
use Rattle.tm_base.specs.declared.replies.Reply.{Reply}
use Rattle.tm_base.specs.declared.replies.Reply.TheVariants as reply
use Rattle.tm_base.specs.States.{KindState, State, with_state, granting}

-- A row of a kind's table, for one operation:
-- `Replies` changes nothing;
-- `Grants` leaves the next state of the kind, in which those that are served are granted a reply;
-- `HandsOver` answers `gave` to the heir, who is granted a reply, or `ok` where there is no heir;
-- `Waits` makes the call wait, in a queue of the next state, and grants `ok` to the heir, if there is one;
-- on a stopped object it answers `stopped` and changes nothing;
-- `Notes` makes the call wait too, but on a stopped object it leaves what is noted;
-- `Yields` makes the call wait, stopped or not, and grants `ok` to the heir;
-- `Tests` is one row or another, by a test; `Looks` is the row of a queue, where there is that queue;
-- and `Never` is no row.
pub data Row : Type 0 where
  Replies : (answer : Reply) → Row
  Grants : (answer : Reply) (served : List ℕ) (granted : Reply) (next : KindState) → Row
  HandsOver : (heir : Option ℕ) (granted : Reply) (next : KindState) → Row
  Waits : (heir : Option ℕ) (next : KindState) → Row
  Notes : (noted next : KindState) → Row
  Yields : (heir : ℕ) (next : KindState) → Row
  Tests : (test : Bool) (passes fails : Row) → Row
  Looks : (queue : Option (List ℕ)) (row : List ℕ → Row) → Row
  Never : Row

-- The next state of the kind, with nobody served.
abbrev pub makes : Reply → KindState → Row
makes answer next = Grants answer [] reply.Ok next

-- The call waits in a queue of the next state, with nobody served.
abbrev pub queues : KindState → Row
queues next = Waits None next

-- The reply of a call that would wait.
abbrev pub waiting_reply : Bool → Reply
waiting_reply true = reply.Stopped
waiting_reply false = reply.Wait

-- The reply of a call that hands something over.
abbrev pub handing_reply : Option ℕ → Reply
handing_reply (Some heir) = reply.Gave heir
handing_reply None = reply.Ok

-- The reply is this one, and the new state that one.
abbrev pub Gives : Reply → State → Reply → State → Type 0
Gives r s' answer next = (r ≡ answer) × (s' ≡ next)

-- From state s the row allows the reply r, and state s' after it.
abbrev pub Allows : Row → State → Reply → State → Type 0
Allows (Replies answer) s r s' = Gives r s' answer s
Allows (Grants answer served granted next) s r s' = Gives r s' answer (granting s next served granted)
Allows (HandsOver heir granted next) s r s' = Gives r s' (handing_reply heir) (granting s next (option_to_list heir) granted)
Allows (Waits heir next) s r s' =
    MatchBool s.stopped (Gives r s' reply.Stopped s) (Gives r s' reply.Wait (granting s next (option_to_list heir) reply.Ok))
Allows (Notes noted next) s r s' =
    MatchBool s.stopped (Gives r s' reply.Stopped (with_state s noted)) (Gives r s' reply.Wait (with_state s next))
Allows (Yields heir next) s r s' = Gives r s' reply.Wait (granting s next (heir ∷ []) reply.Ok)
Allows (Tests test passes fails) s r s' = MatchBool test (Allows passes s r s') (Allows fails s r s')
Allows (Looks queue row) s r s' = IsSomeAnd queue (λ waiting. Allows (row waiting) s r s')
Allows Never s r s' = ⊥

-- The row allows the reply, on an object that is stopped or not.
abbrev pub AllowsReply : Row → Bool → Reply → Type 0
AllowsReply (Replies answer) stopped r = r ≡ answer
AllowsReply (Grants answer served granted next) stopped r = r ≡ answer
AllowsReply (HandsOver heir granted next) stopped r = r ≡ handing_reply heir
AllowsReply (Waits heir next) stopped r = r ≡ waiting_reply stopped
AllowsReply (Notes noted next) stopped r = r ≡ waiting_reply stopped
AllowsReply (Yields heir next) stopped r = r ≡ reply.Wait
AllowsReply (Tests test passes fails) stopped r = MatchBool test (AllowsReply passes stopped r) (AllowsReply fails stopped r)
AllowsReply (Looks queue row) stopped r = IsSomeAnd queue (λ waiting. AllowsReply (row waiting) stopped r)
AllowsReply Never stopped r = ⊥
