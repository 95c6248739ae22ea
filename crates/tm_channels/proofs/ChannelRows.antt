-- In what order senders and receivers wait at a channel, after each row of its table.
use Rattle.std.proofs.Common.{◌≡◌, ℕ, ℤ, ◌<◌, ◌≤◌, Bool, true, false, nat_lt, MatchBool, ◌⊎◌, inl, inr, ⊎_elim, List, [], ◌∷◌, ◌++◌, length, length-append, Option, refl, sym, subst, arith, ltb-true}
use Rattle.std.proofs.lemmas.Bool.{ltb-false}
use Rattle.tm_base.specs.declared.operations.Op.{Op}
use Rattle.tm_base.specs.declared.operations.Op.TheVariants as op
use Rattle.tm_base.specs.declared.replies.Reply.{Reply}
use Rattle.tm_base.specs.declared.replies.Reply.TheVariants as reply
use Rattle.tm_base.specs.declared.kinds.Kind.{Kind}
use Rattle.tm_base.specs.declared.kinds.Kind.TheVariants as kind
use Rattle.tm_base.specs.States.{Waiter, KindState, State, SyncState, AsyncState}
use Rattle.tm_base.specs.TableRows.{Gives, Allows, makes, queues}
use Rattle.tm_base.specs.Synchronous.{sync_row}
use Rattle.tm_base.specs.Asynchronous.{async_row}
use Rattle.tm_laws.proofs.TableRowLemmas.{of_parts, either}
use Rattle.tm_channels.proofs.DeliveriesLemmas.{IsOrderly}

-- what holds of a channel: senders and receivers don't wait together
abbrev pub Ordered : Kind → KindState → Type 0
Ordered kind.Sync (SyncState senders receivers closed) = (senders ≡ []) ⊎ (receivers ≡ [])
Ordered (kind.Async capacity) (AsyncState messages senders receivers closed) = IsOrderly capacity messages senders receivers
Ordered k own = ⊥

module _ (k : Kind) (r : Reply) (s' : State) where
  -- a row does what it does to the state that it names
  at_row : (r0 : Reply) (next : State) → Gives r s' r0 next → Ordered k next.kind_state → Ordered k s'.kind_state
  at_row r0 next g o = subst (λ (s : State). Ordered k s.kind_state) (sym g.1) o

  -- a call that waits
  at_wait : (s : State) (next : KindState) → Ordered k s.kind_state → Ordered k next → Allows (queues next) s r s' → Ordered k s'.kind_state
  at_wait s next old new h = either s.stopped (λ g. at_row reply.Stopped s g old) (λ g. at_row reply.Wait _ g new) h

-- the rows of the synchronous channel
pub sync_row-ordered : (senders : List (Waiter ℤ)) (receivers : List ℕ) (closed : Bool) (g : List (Option Reply)) (b : Bool) (t : ℕ) (o : Op) (r : Reply) (s' : State) → (senders ≡ []) ⊎ (receivers ≡ [])
    → Allows (sync_row senders receivers closed t o) (of_parts (SyncState senders receivers closed) g b) r s' → Ordered kind.Sync s'.kind_state
sync_row-ordered senders receivers true g b t (op.Send k) r s' order h = at_row kind.Sync r s' _ _ h order
sync_row-ordered senders (u ∷ receivers) false g b t (op.Send k) r s' order h =
    at_row kind.Sync r s' _ _ h (⊎_elim (λ (none : senders ≡ []). inl none) (λ (e : (u ∷ receivers) ≡ []). absurd cc) order)
sync_row-ordered senders [] false g b t (op.Send k) r s' order h =
    at_wait kind.Sync r s' (of_parts (SyncState senders [] false) g b) (SyncState (senders ++ record { thread = t; value = k } ∷ []) [] false) order (inr refl) h
sync_row-ordered (w ∷ senders) receivers closed g b t op.Recv r s' order h =
    at_row kind.Sync r s' _ _ h (⊎_elim (λ (e : (w ∷ senders) ≡ []). absurd cc) (λ (none : receivers ≡ []). inr none) order)
sync_row-ordered [] receivers true g b t op.Recv r s' order h = at_row kind.Sync r s' _ _ h order
sync_row-ordered [] receivers false g b t op.Recv r s' order h =
    at_wait kind.Sync r s' (of_parts (SyncState [] receivers false) g b) (SyncState [] (receivers ++ t ∷ []) false) order (inl refl) h
sync_row-ordered senders receivers true g b t op.Close r s' order h = at_row kind.Sync r s' _ _ h order
sync_row-ordered senders receivers false g b t op.Close r s' order h = at_row kind.Sync r s' _ _ h (inl refl)
sync_row-ordered senders receivers closed g b t o r s' order h = elim h [ ]

-- a send to an asynchronous channel at which no receiver waits
sending-ordered : (capacity : ℕ) (messages : List ℤ) (senders : List (Waiter ℤ)) (g : List (Option Reply)) (b : Bool) (t : ℕ) (k : ℤ) (r : Reply) (s' : State)
    → IsOrderly capacity messages senders [] → (room : Bool) → nat_lt (length messages) capacity ≡ room
    → MatchBool room (Allows (makes reply.Ok (AsyncState (messages ++ k ∷ []) senders [] false)) (of_parts (AsyncState messages senders [] false) g b) r s')
    (Allows (queues (AsyncState messages (senders ++ record { thread = t; value = k } ∷ []) [] false)) (of_parts (AsyncState messages senders [] false) g b) r s')
    → Ordered (kind.Async capacity) s'.kind_state
sending-ordered capacity messages senders g b t k r s' order true e h =
    let below : length messages < capacity = ltb-true (length messages) capacity e in
    let none : senders ≡ [] = ⊎_elim (λ (n : senders ≡ []). n) (λ (full : capacity ≤ length messages). absurd (omega arith)) order.full in
    at_row (kind.Async capacity) r s' _ _ h (record { room = order.room; within = omega (arith, length-append messages (k ∷ [])); full = inl none; empty = inl refl })
sending-ordered capacity messages senders g b t k r s' order false e h =
    at_wait (kind.Async capacity) r s' (of_parts (AsyncState messages senders [] false) g b) (AsyncState messages (senders ++ record { thread = t; value = k } ∷ []) [] false)
    order (record { room = order.room; within = order.within; full = inr (ltb-false (length messages) capacity e); empty = inl refl }) h

no_receivers : (m : ℤ) (messages : List ℤ) (receivers : List ℕ) {A : Type 0} → (receivers ≡ []) ⊎ (((m ∷ messages) ≡ []) × A) → receivers ≡ []
no_receivers m messages receivers {A} h = ⊎_elim (λ (e : receivers ≡ []). e) (λ (e : ((m ∷ messages) ≡ []) × A). absurd (let f : (m ∷ messages) ≡ [] = e.0 in cc)) h

-- the rows of the asynchronous channel
pub async_row-ordered : (capacity : ℕ) (messages : List ℤ) (senders : List (Waiter ℤ)) (receivers : List ℕ) (closed : Bool) (g : List (Option Reply)) (b : Bool) (t : ℕ) (o : Op) (r : Reply) (s' : State)
    → IsOrderly capacity messages senders receivers → Allows (async_row capacity messages senders receivers closed t o) (of_parts (AsyncState messages senders receivers closed) g b) r s'
    → Ordered (kind.Async capacity) s'.kind_state
async_row-ordered capacity messages senders receivers true g b t (op.Send k) r s' order h = at_row (kind.Async capacity) r s' _ _ h order
async_row-ordered capacity messages senders (u ∷ receivers) false g b t (op.Send k) r s' order h =
    let empty : (messages ≡ []) × (senders ≡ []) = ⊎_elim (λ (e : (u ∷ receivers) ≡ []). absurd cc) (λ (e : (messages ≡ []) × (senders ≡ [])). e) order.empty in
    at_row (kind.Async capacity) r s' _ _ h (record { room = order.room; within = order.within; full = order.full; empty = inr empty })
async_row-ordered capacity messages senders [] false g b t (op.Send k) r s' order h = sending-ordered capacity messages senders g b t k r s' order (nat_lt (length messages) capacity) refl h
async_row-ordered capacity (m ∷ messages) (w ∷ senders) receivers closed g b t op.Recv r s' order h =
    let full : capacity ≤ length (m ∷ messages) = ⊎_elim (λ (e : (w ∷ senders) ≡ []). absurd cc) (λ (e : capacity ≤ length (m ∷ messages)). e) order.full in
    at_row (kind.Async capacity) r s' _ _ h (record {
      room = order.room;
      within = omega (arith, order.within, length-append messages (w.value ∷ []));
      full = inr (omega (arith, full, length-append messages (w.value ∷ [])));
      empty = inl (no_receivers m messages receivers order.empty);
    })
async_row-ordered capacity (m ∷ messages) [] receivers closed g b t op.Recv r s' order h =
    at_row (kind.Async capacity) r s' _ _ h (record { room = order.room; within = omega (arith, order.within); full = inl refl; empty = inl (no_receivers m messages receivers order.empty) })
async_row-ordered capacity [] senders receivers true g b t op.Recv r s' order h = at_row (kind.Async capacity) r s' _ _ h order
async_row-ordered capacity [] senders receivers false g b t op.Recv r s' order h =
    let none : senders ≡ [] = ⊎_elim (λ (n : senders ≡ []). n) (λ (e : capacity ≤ length {A = ℤ} []). absurd (omega (arith, e, order.room))) order.full in
    at_wait (kind.Async capacity) r s' (of_parts (AsyncState [] senders receivers false) g b) (AsyncState [] senders (receivers ++ t ∷ []) false) order
    (record { room = order.room; within = order.within; full = order.full; empty = inr (refl, none) }) h
async_row-ordered capacity messages senders receivers true g b t op.Close r s' order h = at_row (kind.Async capacity) r s' _ _ h order
async_row-ordered capacity messages senders receivers false g b t op.Close r s' order h =
    at_row (kind.Async capacity) r s' _ _ h (record { room = order.room; within = order.within; full = inl refl; empty = inl refl })
async_row-ordered capacity messages senders receivers closed g b t o r s' order h = elim h [ ]
