-- What one event of a channel does to the values that are on their way, and what a history does.
use Rattle.std.proofs.Common.{◌≡◌, ℕ, ℤ, ◌<◌, ◌≤◌, Bool, true, false, ◌==◌, nat_lt, MatchBool, ◌⊎◌, ⊎_elim, List, [], ◌∷◌, ◌++◌, map, length, append_assoc, Option, Some, None, slice_index_or, slice_set, refl, ap, sym, ◌∙◌, subst, arith, eq-eqb, ltb-true, get_or-set_same, length-set}
use Rattle.std.proofs.lemmas.Bool.{or_left, or_right}
use Rattle.std.proofs.lemmas.List.{append-nil}
use Rattle.tm_base.specs.declared.operations.Op.{Op}
use Rattle.tm_base.specs.declared.operations.Op.TheVariants as op
use Rattle.tm_base.specs.declared.replies.Reply.{Reply}
use Rattle.tm_base.specs.declared.replies.Reply.TheVariants as reply
use Rattle.tm_base.specs.States.{Waiter, KindState, State, SyncState, AsyncState, grant_of, grant_all, is_queued}
use Rattle.tm_base.specs.TableRows.{Gives, Allows, makes, queues}
use Rattle.tm_base.specs.Synchronous.{sync_row}
use Rattle.tm_base.specs.Asynchronous.{async_row}
use Rattle.tm_laws.proofs.TableRowLemmas.{of_parts, either}
use Rattle.tm_channels.specs.Deliveries.{ends_with, sent_by, given_by, messages_of, senders_of}
use Rattle.tm_channels.proofs.CallOutcomes.{grant_all-keeps}

-- the values of those senders whose calls end as sends
abbrev pub values_of : (ℕ → Reply) → List (Waiter ℤ) → List ℤ
values_of f [] = []
values_of f (w ∷ senders) = sent_by (op.Send w.value) (f w.thread) ++ values_of f senders

-- each sender's thread is one of these
abbrev pub AllSenders : (ℕ → Type 0) → List (Waiter ℤ) → Type 0
AllSenders P [] = Unit {0}
AllSenders P (w ∷ senders) = P w.thread × AllSenders P senders

-- what holds of all that wait holds of the senders
pub senders-queued : (senders : List (Waiter ℤ)) (others : List ℕ) (P : ℕ → Type 0) → ((x : ℕ) → is_queued (map (λ w. w.thread) senders ++ others) x ≡ true → P x) → AllSenders P senders
senders-queued [] others P h = tt
senders-queued (w ∷ senders) others P h = (
  h w.thread (or_left (w.thread == w.thread) (is_queued (map (λ w. w.thread) senders ++ others) w.thread) (eq-eqb w.thread w.thread refl)),
  senders-queued senders others P (λ x k. h x (or_right (w.thread == x) (is_queued (map (λ w. w.thread) senders ++ others) x) k)),
)

-- and of the oldest receiver
pub receiver-queued : (senders : List (Waiter ℤ)) (u : ℕ) (receivers : List ℕ) (P : ℕ → Type 0) → ((x : ℕ) → is_queued (map (λ w. w.thread) senders ++ u ∷ receivers) x ≡ true → P x) → P u
receiver-queued [] u receivers P h = h u (or_left (u == u) (is_queued receivers u) (eq-eqb u u refl))
receiver-queued (w ∷ senders) u receivers P h = receiver-queued senders u receivers P (λ x k. h x (or_right (w.thread == x) (is_queued (map (λ w. w.thread) senders ++ u ∷ receivers) x) k))

-- each thread's call ends with the reply that it was granted in the state
abbrev pub Agrees : (ℕ → Reply) → State → Type 0
Agrees f s = (u : ℕ) (a : Reply) → grant_of s u ≡ Some a → f u ≡ a

-- What an event does to the values on their way: those kept, those of senders whose calls end as sends,
-- and the one that is sent are what it gives, and what is on its way after it.
abbrev pub Balanced : (ℕ → Reply) → ℕ → KindState → Op → Reply → KindState → Type 0
Balanced f t own o r own' =
    messages_of own ++ (values_of f (senders_of own) ++ sent_by o (ends_with r (f t))) ≡ given_by o r f ++ (messages_of own' ++ values_of f (senders_of own'))

pub values_of-push : (f : ℕ → Reply) (senders : List (Waiter ℤ)) (t : ℕ) (k : ℤ) → values_of f (senders ++ record { thread = t; value = k } ∷ []) ≡ values_of f senders ++ sent_by (op.Send k) (f t)
values_of-push f [] t k = append-nil (sent_by (op.Send k) (f t))
values_of-push f (w ∷ senders) t k = ap (λ x. sent_by (op.Send w.value) (f w.thread) ++ x) (values_of-push f senders t k) ∙ sym (append_assoc (sent_by (op.Send w.value) (f w.thread)) (values_of f senders) (sent_by (op.Send k) (f t)))

-- senders that still wait send their values
pub waiting-values : (f : ℕ → Reply) (senders : List (Waiter ℤ)) → AllSenders (λ u. f u ≡ reply.Wait) senders → values_of f senders ≡ map (λ w. w.value) senders
waiting-values f [] each = refl
waiting-values f (w ∷ senders) each = rw (each.0, waiting-values f senders each.1) refl

-- senders whose calls end with a reply that isn't one of a send sent nothing
pub none-sent : (f : ℕ → Reply) (a : Reply) → ((k : ℤ) → sent_by (op.Send k) a ≡ []) → (senders : List (Waiter ℤ)) → AllSenders (λ u. f u ≡ a) senders → values_of f senders ≡ []
none-sent f a nothing [] each = refl
none-sent f a nothing (w ∷ senders) each = rw (each.0, nothing w.value) (none-sent f a nothing senders each.1)

-- so it is where all of them are granted that reply
pub all-granted : (f : ℕ → Reply) (a : Reply) (senders : List (Waiter ℤ)) (others : List ℕ) (n : ℕ) (g : List (Option Reply)) → length g ≡ n → AllSenders (λ u. u < n) senders
    → ((u : ℕ) (q : Reply) → slice_index_or (grant_all (map (λ w. w.thread) senders ++ others) a g) u None ≡ Some q → f u ≡ q) → AllSenders (λ u. f u ≡ a) senders
all-granted f a [] others n g e inside agrees = tt
all-granted f a (w ∷ senders) others n g e inside agrees = (
  agrees w.thread a (grant_all-keeps (map (λ w. w.thread) senders ++ others) a (slice_set g w.thread (Some a)) w.thread (get_or-set_same g w.thread (Some a) None (omega (arith, inside.0, e)))),
  all-granted f a senders others n (slice_set g w.thread (Some a)) (length-set g w.thread (Some a) ∙ e) inside.1 agrees,
)

-- lists
pub unmoved : (m v : List ℤ) → m ++ (v ++ []) ≡ m ++ v
unmoved m v = rw (append-nil v) refl

served : (m v : ℤ) (messages vs : List ℤ) → (m ∷ messages) ++ ((v ∷ vs) ++ []) ≡ m ∷ ((messages ++ v ∷ []) ++ vs)
served m v messages vs = rw (append-nil vs, append_assoc messages (v ∷ []) vs) refl

module _ (f : ℕ → Reply) (t : ℕ) (own : KindState) (o : Op) (r : Reply) (s' : State) where
  -- a row does what it does to the state that it names
  at_row : (r0 : Reply) (next : State) → Gives r s' r0 next → Balanced f t own o r0 next.kind_state → Balanced f t own o r s'.kind_state
  at_row r0 next g b = subst (λ (q : Reply). Balanced f t own o q s'.kind_state) (sym g.0) (subst (λ (s : State). Balanced f t own o r0 s.kind_state) (sym g.1) b)

  -- a call that waits
  at_wait : (s : State) (next : KindState) → s.kind_state ≡ own → Balanced f t own o reply.Stopped own → Balanced f t own o reply.Wait next → Allows (queues next) s r s' → Balanced f t own o r s'.kind_state
  at_wait s next e stops waits h =
      either s.stopped (λ g. at_row reply.Stopped s g (subst (λ (k : KindState). Balanced f t own o reply.Stopped k) (sym e) stops)) (λ g. at_row reply.Wait _ g waits) h

-- the rows of the synchronous channel
pub sync_row-balanced : (f : ℕ → Reply) (senders : List (Waiter ℤ)) (receivers : List ℕ) (closed : Bool) (g : List (Option Reply)) (b : Bool) (t : ℕ) (o : Op) (r : Reply) (s' : State)
    → (senders ≡ []) ⊎ (receivers ≡ []) → ((x : ℕ) → is_queued (map (λ w. w.thread) senders ++ receivers) x ≡ true → x < length g) → Agrees f s'
    → Allows (sync_row senders receivers closed t o) (of_parts (SyncState senders receivers closed) g b) r s' → Balanced f t (SyncState senders receivers closed) o r s'.kind_state
sync_row-balanced f senders receivers true g b t (op.Send k) r s' order inside agrees h = at_row f t (SyncState senders receivers true) (op.Send k) r s' _ _ h (unmoved [] (values_of f senders))
sync_row-balanced f senders (u ∷ receivers) false g b t (op.Send k) r s' order inside agrees h =
    let none : senders ≡ [] = ⊎_elim (λ (n : senders ≡ []). n) (λ (e : (u ∷ receivers) ≡ []). absurd cc) order in
    let ends : f u ≡ reply.Got k = agrees u (reply.Got k) (rw h.1 (get_or-set_same g u (Some (reply.Got k)) None (receiver-queued senders u receivers (λ x. x < length g) inside))) in
    at_row f t (SyncState senders (u ∷ receivers) false) (op.Send k) r s' _ _ h (rw (none, ends) refl)
sync_row-balanced f senders [] false g b t (op.Send k) r s' order inside agrees h =
    at_wait f t (SyncState senders [] false) (op.Send k) r s' (of_parts (SyncState senders [] false) g b) (SyncState (senders ++ record { thread = t; value = k } ∷ []) [] false) refl
    (unmoved [] (values_of f senders)) (sym (values_of-push f senders t k)) h
sync_row-balanced f (w ∷ senders) receivers closed g b t op.Recv r s' order inside agrees h =
    let ends : f w.thread ≡ reply.Ok = agrees w.thread reply.Ok (rw h.1 (get_or-set_same g w.thread (Some reply.Ok) None (senders-queued (w ∷ senders) receivers (λ x. x < length g) inside).0)) in
    at_row f t (SyncState (w ∷ senders) receivers closed) op.Recv r s' _ _ h (rw ends (unmoved (w.value ∷ []) (values_of f senders)))
sync_row-balanced f [] receivers true g b t op.Recv r s' order inside agrees h = at_row f t (SyncState [] receivers true) op.Recv r s' _ _ h refl
sync_row-balanced f [] receivers false g b t op.Recv r s' order inside agrees h =
    at_wait f t (SyncState [] receivers false) op.Recv r s' (of_parts (SyncState [] receivers false) g b) (SyncState [] (receivers ++ t ∷ []) false) refl refl refl h
sync_row-balanced f senders receivers true g b t op.Close r s' order inside agrees h = at_row f t (SyncState senders receivers true) op.Close r s' _ _ h (unmoved [] (values_of f senders))
sync_row-balanced f senders receivers false g b t op.Close r s' order inside agrees h =
    let none : values_of f senders ≡ [] =
    none-sent f reply.Closed (λ k. refl) senders (all-granted f reply.Closed senders receivers (length g) g refl (senders-queued senders receivers (λ x. x < length g) inside) (λ u q e. agrees u q (rw h.1 e))) in
    at_row f t (SyncState senders receivers false) op.Close r s' _ _ h (rw none refl)
sync_row-balanced f senders receivers closed g b t o r s' order inside agrees h = elim h [ ]

-- What holds of an asynchronous channel: it has room for a message, its messages are within its capacity,
-- senders wait only where there is no room, and receivers only where there is no message and no sender.
pub record IsOrderly (capacity : ℕ) (messages : List ℤ) (senders : List (Waiter ℤ)) (receivers : List ℕ) : Type 0 where
  pub room : 1 ≤ capacity
  pub within : length messages ≤ capacity
  pub full : (senders ≡ []) ⊎ (capacity ≤ length messages)
  pub empty : (receivers ≡ []) ⊎ ((messages ≡ []) × (senders ≡ []))

-- a send to an asynchronous channel at which no receiver waits
sending : (f : ℕ → Reply) (capacity : ℕ) (messages : List ℤ) (senders : List (Waiter ℤ)) (g : List (Option Reply)) (b : Bool) (t : ℕ) (k : ℤ) (r : Reply) (s' : State)
    → IsOrderly capacity messages senders [] → (room : Bool) → nat_lt (length messages) capacity ≡ room
    → MatchBool room (Allows (makes reply.Ok (AsyncState (messages ++ k ∷ []) senders [] false)) (of_parts (AsyncState messages senders [] false) g b) r s')
    (Allows (queues (AsyncState messages (senders ++ record { thread = t; value = k } ∷ []) [] false)) (of_parts (AsyncState messages senders [] false) g b) r s')
    → Balanced f t (AsyncState messages senders [] false) (op.Send k) r s'.kind_state
sending f capacity messages senders g b t k r s' order true e h =
    let none : senders ≡ [] = ⊎_elim (λ (n : senders ≡ []). n) (λ (full : capacity ≤ length messages). absurd (omega (arith, full, ltb-true (length messages) capacity e))) order.full in
    at_row f t (AsyncState messages senders [] false) (op.Send k) r s' _ _ h (rw (none, append-nil (messages ++ k ∷ [])) refl)
sending f capacity messages senders g b t k r s' order false e h =
    at_wait f t (AsyncState messages senders [] false) (op.Send k) r s' (of_parts (AsyncState messages senders [] false) g b) (AsyncState messages (senders ++ record { thread = t; value = k } ∷ []) [] false) refl
    (unmoved messages (values_of f senders)) (ap (λ x. messages ++ x) (sym (values_of-push f senders t k))) h

-- the rows of the asynchronous channel
pub async_row-balanced : (f : ℕ → Reply) (capacity : ℕ) (messages : List ℤ) (senders : List (Waiter ℤ)) (receivers : List ℕ) (closed : Bool) (g : List (Option Reply)) (b : Bool) (t : ℕ) (o : Op) (r : Reply) (s' : State)
    → IsOrderly capacity messages senders receivers → ((x : ℕ) → is_queued (map (λ w. w.thread) senders ++ receivers) x ≡ true → x < length g) → Agrees f s'
    → Allows (async_row capacity messages senders receivers closed t o) (of_parts (AsyncState messages senders receivers closed) g b) r s'
    → Balanced f t (AsyncState messages senders receivers closed) o r s'.kind_state
async_row-balanced f capacity messages senders receivers true g b t (op.Send k) r s' order inside agrees h = at_row f t (AsyncState messages senders receivers true) (op.Send k) r s' _ _ h (unmoved messages (values_of f senders))
async_row-balanced f capacity messages senders (u ∷ receivers) false g b t (op.Send k) r s' order inside agrees h =
    let none : (messages ≡ []) × (senders ≡ []) = ⊎_elim (λ (e : (u ∷ receivers) ≡ []). absurd cc) (λ (e : (messages ≡ []) × (senders ≡ [])). e) order.empty in
    let ends : f u ≡ reply.Got k = agrees u (reply.Got k) (rw h.1 (get_or-set_same g u (Some (reply.Got k)) None (receiver-queued senders u receivers (λ x. x < length g) inside))) in
    at_row f t (AsyncState messages senders (u ∷ receivers) false) (op.Send k) r s' _ _ h (rw (none.0, none.1, ends) refl)
async_row-balanced f capacity messages senders [] false g b t (op.Send k) r s' order inside agrees h =
    sending f capacity messages senders g b t k r s' order (nat_lt (length messages) capacity) refl h
async_row-balanced f capacity (m ∷ messages) (w ∷ senders) receivers closed g b t op.Recv r s' order inside agrees h =
    let ends : f w.thread ≡ reply.Ok = agrees w.thread reply.Ok (rw h.1 (get_or-set_same g w.thread (Some reply.Ok) None (senders-queued (w ∷ senders) receivers (λ x. x < length g) inside).0)) in
    at_row f t (AsyncState (m ∷ messages) (w ∷ senders) receivers closed) op.Recv r s' _ _ h (rw ends (served m w.value messages (values_of f senders)))
async_row-balanced f capacity (m ∷ messages) [] receivers closed g b t op.Recv r s' order inside agrees h = at_row f t (AsyncState (m ∷ messages) [] receivers closed) op.Recv r s' _ _ h refl
async_row-balanced f capacity [] senders receivers true g b t op.Recv r s' order inside agrees h = at_row f t (AsyncState [] senders receivers true) op.Recv r s' _ _ h (unmoved [] (values_of f senders))
async_row-balanced f capacity [] senders receivers false g b t op.Recv r s' order inside agrees h =
    at_wait f t (AsyncState [] senders receivers false) op.Recv r s' (of_parts (AsyncState [] senders receivers false) g b) (AsyncState [] senders (receivers ++ t ∷ []) false) refl
    (unmoved [] (values_of f senders)) (unmoved [] (values_of f senders)) h
async_row-balanced f capacity messages senders receivers true g b t op.Close r s' order inside agrees h = at_row f t (AsyncState messages senders receivers true) op.Close r s' _ _ h (unmoved messages (values_of f senders))
async_row-balanced f capacity messages senders receivers false g b t op.Close r s' order inside agrees h =
    let none : values_of f senders ≡ [] =
    none-sent f reply.Closed (λ k. refl) senders (all-granted f reply.Closed senders receivers (length g) g refl (senders-queued senders receivers (λ x. x < length g) inside) (λ u q e. agrees u q (rw h.1 e))) in
    at_row f t (AsyncState messages senders receivers false) op.Close r s' _ _ h (rw none refl)
async_row-balanced f capacity messages senders receivers closed g b t o r s' order inside agrees h = elim h [ ]
