-- An asynchronous channel's messages in every state of a legal history.
use Rattle.std.proofs.Common.{◌≡◌, ℕ, ℤ, ◌≤◌, Bool, true, false, nat_lt, MatchBool, List, [], ◌∷◌, ◌++◌, length, length-append, Option, refl, sym, subst, arith, ltb-true}
use Rattle.tm_base.specs.declared.operations.Op.{Op}
use Rattle.tm_base.specs.declared.operations.Op.TheVariants as op
use Rattle.tm_base.specs.declared.replies.Reply.{Reply}
use Rattle.tm_base.specs.declared.replies.Reply.TheVariants as reply
use Rattle.tm_base.specs.declared.kinds.Kind.{Kind}
use Rattle.tm_base.specs.declared.kinds.Kind.TheVariants as kind
use Rattle.tm_base.specs.declared.events.Entry.{Entry}
use Rattle.tm_base.specs.States.{Waiter, KindState, State, MutexState, AsyncState, start_state, emptied}
use Rattle.tm_base.specs.TableRows.{Gives, Allows, makes, queues}
use Rattle.tm_base.specs.Asynchronous.{async_row}
use Rattle.tm_base.specs.Steps.{Step}
use Rattle.tm_base.specs.Histories.{Label, HistoryState, Follows, IsHistory, Lawful, first_history_state}
use Rattle.tm_laws.proofs.TableRowLemmas.{of_parts, either}
use Rattle.tm_laws.proofs.RunsLemmas.{Leads-keeps}
use Rattle.tm_channels.specs.Deliveries.{messages_of}

-- the channel keeps at most so many messages
abbrev Within : ℕ → KindState → Type 0
Within capacity own = length (messages_of own) ≤ capacity

-- a row keeps what holds in the state that it names
kept : (capacity : ℕ) {r : Reply} {s' : State} (r0 : Reply) (next : State) → Within capacity next.kind_state → Gives r s' r0 next → Within capacity s'.kind_state
kept capacity r0 next h g = subst (λ (s : State). Within capacity s.kind_state) (sym g.1) h

-- a call that waits, and adds no message
queued-within : (capacity : ℕ) (r : Reply) (s' s : State) (next : KindState) → Within capacity s.kind_state → Within capacity next → Allows (queues next) s r s' → Within capacity s'.kind_state
queued-within capacity r s' s next old new h = either s.stopped (λ g. kept capacity _ s old g) (λ g. kept capacity reply.Wait _ new g) h

module _ (capacity : ℕ) (messages : List ℤ) (g : List (Option Reply)) (b : Bool) (r : Reply) (s' : State) where
  -- a send keeps its message only where there is room
  sending : (senders : List (Waiter ℤ)) (t : ℕ) (k : ℤ) (room : Bool) → nat_lt (length messages) capacity ≡ room → length messages ≤ capacity
      → MatchBool room (Allows (makes reply.Ok (AsyncState (messages ++ k ∷ []) senders [] false)) (of_parts (AsyncState messages senders [] false) g b) r s')
      (Allows (queues (AsyncState messages (senders ++ record { thread = t; value = k } ∷ []) [] false)) (of_parts (AsyncState messages senders [] false) g b) r s')
      → Within capacity s'.kind_state
  sending senders t k true e h al = kept capacity reply.Ok _ (omega (arith, length-append messages (k ∷ []), ltb-true (length messages) capacity e)) al
  sending senders t k false e h al =
      queued-within capacity r s' (of_parts (AsyncState messages senders [] false) g b) (AsyncState messages (senders ++ record { thread = t; value = k } ∷ []) [] false) h h al

-- the rows
pub async_row-within : (capacity : ℕ) (messages : List ℤ) (senders : List (Waiter ℤ)) (receivers : List ℕ) (closed : Bool) (g : List (Option Reply)) (b : Bool) (t : ℕ) (o : Op) (r : Reply) (s' : State)
    → length messages ≤ capacity → Allows (async_row capacity messages senders receivers closed t o) (of_parts (AsyncState messages senders receivers closed) g b) r s' → Within capacity s'.kind_state
async_row-within capacity messages senders receivers true g b t (op.Send k) r s' h al = kept capacity _ _ h al
async_row-within capacity messages senders (u ∷ receivers) false g b t (op.Send k) r s' h al = kept capacity _ _ h al
async_row-within capacity messages senders [] false g b t (op.Send k) r s' h al = sending capacity messages g b r s' senders t k (nat_lt (length messages) capacity) refl h al
async_row-within capacity (m ∷ messages) (w ∷ senders) receivers closed g b t op.Recv r s' h al =
    kept capacity _ _ (omega (arith, length-append messages (w.value ∷ []))) al
async_row-within capacity (m ∷ messages) [] receivers closed g b t op.Recv r s' h al = kept capacity _ _ (omega arith) al
async_row-within capacity [] senders receivers true g b t op.Recv r s' h al = kept capacity _ _ h al
async_row-within capacity [] senders receivers false g b t op.Recv r s' h al =
    queued-within capacity r s' (of_parts (AsyncState [] senders receivers false) g b) (AsyncState [] senders (receivers ++ t ∷ []) false) h h al
async_row-within capacity messages senders receivers true g b t op.Close r s' h al = kept capacity _ _ h al
async_row-within capacity messages senders receivers false g b t op.Close r s' h al = kept capacity _ _ h al
async_row-within capacity messages senders receivers closed g b t o r s' h al = elim al [ ]

Step-within : (capacity : ℕ) (own : KindState) (g : List (Option Reply)) (b : Bool) (t : ℕ) (o : Op) (r : Reply) (s' : State)
    → Within capacity own → Step (kind.Async capacity) (of_parts own g b) t o r s' → Within capacity s'.kind_state
Step-within capacity (AsyncState messages senders receivers closed) g b t o r s' h al = async_row-within capacity messages senders receivers closed g b t o r s' h al
Step-within capacity own g b t o r s' h al = elim al [ ]

-- a stop keeps the messages
pub messages_of-emptied : (own : KindState) → messages_of (emptied own) ≡ messages_of own
messages_of-emptied (MutexState owner queue) = refl
messages_of-emptied own = refl

-- an event
Lawful-within : (capacity threads : ℕ) (s : State) (t : ℕ) (o : Op) (r : Reply) (s' : State) → Within capacity s.kind_state
    → Lawful (record { kind = kind.Async capacity; threads = threads; state = s }) t o r s' → Within capacity s'.kind_state
Lawful-within capacity threads s t op.Resume r s' h e = rw e.cleared h
Lawful-within capacity threads s t op.Stop r s' h e = rw (e.halted, messages_of-emptied s.kind_state) h
Lawful-within capacity threads s t o r s' h e = Step-within capacity s.kind_state s.granted s.stopped t o r s' h e.step

pub history-within : (l : Label) (capacity : ℕ) (es : List Entry) (p : HistoryState) → l.kind ≡ kind.Async capacity → IsHistory l es p → Within capacity p.state.kind_state
history-within l capacity es p its run = Leads-keeps (Follows l) (λ (p : HistoryState). Within capacity p.state.kind_state)
    (λ p e q h f. Lawful-within capacity l.threads p.state e.thread e.op e.reply q.state h
    (subst (λ (k : Kind). Lawful (record { kind = k; threads = l.threads; state = p.state }) e.thread e.op e.reply q.state) its f.lawful)) es (first_history_state l) p
    (subst (λ (k : Kind). Within capacity (start_state k l.threads).kind_state) (sym its) (omega arith)) run
