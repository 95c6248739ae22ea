-- The values that are on their way through a channel, in every state of a legal history.
use Rattle.std.proofs.Common.{◌≡◌, ℕ, ℤ, ◌<◌, ◌≤◌, Bool, true, inl, List, [], ◌∷◌, ◌++◌, map, length, append_assoc, Option, Some, refl, ap, sym, ◌∙◌, subst, arith, ne_eqb}
use Rattle.tm_base.specs.declared.operations.Op.{Op}
use Rattle.tm_base.specs.declared.operations.Op.TheVariants as op
use Rattle.tm_base.specs.declared.replies.Reply.{Reply}
use Rattle.tm_base.specs.declared.replies.Reply.TheVariants as reply
use Rattle.tm_base.specs.declared.kinds.Kind.{Kind}
use Rattle.tm_base.specs.declared.kinds.Kind.TheVariants as kind
use Rattle.tm_base.specs.declared.events.Entry.{Entry}
use Rattle.tm_base.specs.States.{Waiter, KindState, State, SyncState, AsyncState, start_kind_state, queued, emptied, grant_of, grant_all, is_queued, is_waiting, halted}
use Rattle.tm_base.specs.Steps.{Step}
use Rattle.tm_base.specs.Machines.{ObjectView}
use Rattle.tm_base.specs.Runs.{Leads}
use Rattle.tm_base.specs.Histories.{Label, HistoryState, Follows, IsHistory, Lawful, first_history_state, object_at}
use Rattle.tm_laws.specs.Tidy.{IsSound}
use Rattle.tm_laws.proofs.TableRowLemmas.{of_parts}
use Rattle.tm_laws.proofs.StartStateLemmas.{start-sound}
use Rattle.tm_laws.proofs.WaitersLemmas.{waiting-known, waiting-ungranted}
use Rattle.tm_laws.proofs.Reaching.{Follows-moves}
use Rattle.tm_channels.specs.Deliveries.{IsChannel, granted_or_wait, outcome, ends_with, sent_by, sent, given_by, given, messages_of, senders_of, on_the_way}
use Rattle.tm_channels.proofs.CallOutcomes.{no_event, granted-outcome}
use Rattle.tm_channels.proofs.DeliveriesLemmas.{values_of, AllSenders, Agrees, Balanced, senders-queued, waiting-values, none-sent, all-granted, unmoved, sync_row-balanced, async_row-balanced}
use Rattle.tm_channels.proofs.ChannelRows.{Ordered, sync_row-ordered, async_row-ordered}

-- what holds of all that wait holds of a channel's senders
senders_of-queued : (own : KindState) (P : ℕ → Type 0) → ((x : ℕ) → is_queued (queued own) x ≡ true → P x) → AllSenders P (senders_of own)
senders_of-queued (SyncState senders receivers closed) P h = senders-queued senders receivers P h
senders_of-queued (AsyncState messages senders receivers closed) P h = senders-queued senders receivers P h
senders_of-queued own P h = tt

-- a call
module _ (f : ℕ → Reply) (g : List (Option Reply)) (b : Bool) (t : ℕ) (o : Op) (r : Reply) (s' : State) where
  Step-ordered : (k : Kind) (own : KindState) → Ordered k own → Step k (of_parts own g b) t o r s' → Ordered k s'.kind_state
  Step-ordered kind.Sync (SyncState senders receivers closed) order h = sync_row-ordered senders receivers closed g b t o r s' order h
  Step-ordered (kind.Async capacity) (AsyncState messages senders receivers closed) order h = async_row-ordered capacity messages senders receivers closed g b t o r s' order h
  Step-ordered k own order h = elim order [ ]

  Step-balanced : (k : Kind) (own : KindState) → Ordered k own → ((x : ℕ) → is_queued (queued own) x ≡ true → x < length g) → Agrees f s' → Step k (of_parts own g b) t o r s' → Balanced f t own o r s'.kind_state
  Step-balanced kind.Sync (SyncState senders receivers closed) order inside agrees h = sync_row-balanced f senders receivers closed g b t o r s' order inside agrees h
  Step-balanced (kind.Async capacity) (AsyncState messages senders receivers closed) order inside agrees h = async_row-balanced f capacity messages senders receivers closed g b t o r s' order inside agrees h
  Step-balanced k own order inside agrees h = elim order [ ]

-- a stop
emptied-ordered : (k : Kind) (own : KindState) → Ordered k own → Ordered k (emptied own)
emptied-ordered kind.Sync (SyncState senders receivers closed) order = inl refl
emptied-ordered (kind.Async capacity) (AsyncState messages senders receivers closed) order = record { room = order.room; within = order.within; full = inl refl; empty = inl refl }
emptied-ordered k own order = elim order [ ]

module _ (f : ℕ → Reply) (g : List (Option Reply)) where
  -- nobody is served by it
  stopped-unsent : (own : KindState) → AllSenders (λ u. u < length g) (senders_of own)
      → ((u : ℕ) (a : Reply) → grant_of (of_parts own (grant_all (queued own) reply.Stopped g) true) u ≡ Some a → f u ≡ a) → values_of f (senders_of own) ≡ []
  stopped-unsent (SyncState senders receivers closed) inside agrees = none-sent f reply.Stopped (λ k. refl) senders (all-granted f reply.Stopped senders receivers (length g) g refl inside agrees)
  stopped-unsent (AsyncState messages senders receivers closed) inside agrees = none-sent f reply.Stopped (λ k. refl) senders (all-granted f reply.Stopped senders receivers (length g) g refl inside agrees)
  stopped-unsent own inside agrees = refl

stopped-balanced : (f : ℕ → Reply) (t : ℕ) (own : KindState) (r : Reply) → values_of f (senders_of own) ≡ [] → Balanced f t own op.Stop r (emptied own)
stopped-balanced f t (SyncState senders receivers closed) r none = rw none refl
stopped-balanced f t (AsyncState messages senders receivers closed) r none = rw none refl
stopped-balanced f t own r none = refl

-- what holds in every state of a channel's legal history
record Keeps (k : Kind) (threads : ℕ) (s : State) : Type 0 where
  pub sound : IsSound (record { kind = k; threads = threads; state = s })
  pub ordered : Ordered k s.kind_state

abbrev at_kind : Kind → ℕ → State → ObjectView
at_kind k threads s = record { kind = k; threads = threads; state = s }

-- an event
module _ (f : ℕ → Reply) (k : Kind) (threads : ℕ) (s : State) (keeps : Keeps k threads s) (t : ℕ) (r : Reply) (s' : State) where
  Lawful-ordered : (o : Op) → Lawful (at_kind k threads s) t o r s' → Ordered k s'.kind_state
  Lawful-ordered op.Resume e = rw e.cleared keeps.ordered
  Lawful-ordered op.Stop e = rw e.halted (emptied-ordered k s.kind_state keeps.ordered)
  Lawful-ordered o e = Step-ordered f s.granted s.stopped t o r s' k s.kind_state keeps.ordered e.step

  inside : (x : ℕ) → is_waiting s x ≡ true → x < length s.granted
  inside x h = let known : x ≤ threads = (waiting-known threads s keeps.sound.tidy x h).1 in omega (arith, known, keeps.sound.tidy.long)

  module _ (agrees : Agrees f s') where
    unsent : s' ≡ halted s → values_of f (senders_of s.kind_state) ≡ []
    unsent e = stopped-unsent f s.granted s.kind_state (senders_of-queued s.kind_state (λ u. u < length s.granted) inside) (λ u a h. agrees u a (rw e h))

    Lawful-balanced : (o : Op) → Lawful (at_kind k threads s) t o r s' → Balanced f t s.kind_state o r s'.kind_state
    Lawful-balanced op.Resume e = rw e.cleared (unmoved (messages_of s.kind_state) (values_of f (senders_of s.kind_state)))
    Lawful-balanced op.Stop e = rw e.halted (stopped-balanced f t s.kind_state r (unsent e.halted))
    Lawful-balanced o e = Step-balanced f s.granted s.stopped t o r s' k s.kind_state keeps.ordered inside agrees e.step

same-values : (f h : ℕ → Reply) (senders : List (Waiter ℤ)) → AllSenders (λ u. f u ≡ h u) senders → values_of f senders ≡ values_of h senders
same-values f h [] each = refl
same-values f h (w ∷ senders) each = rw (each.0, same-values f h senders each.1) refl

-- an event before others, over plain lists
joined : (m v x u m' v' y z n : List ℤ) → m ++ (v ++ x) ≡ u ++ (m' ++ v') → m' ++ (v' ++ y) ≡ z ++ n → m ++ (v ++ (x ++ y)) ≡ (u ++ z) ++ n
joined m v x u m' v' y z n one more =
    let left : m ++ (v ++ (x ++ y)) ≡ (m ++ (v ++ x)) ++ y = rw (append_assoc m (v ++ x) y, append_assoc v x y) refl in
    let middle : (u ++ (m' ++ v')) ++ y ≡ u ++ (m' ++ (v' ++ y)) = rw (append_assoc u (m' ++ v') y, append_assoc m' v' y) refl in
    left ∙ (ap (λ l. l ++ y) one ∙ (middle ∙ (ap (λ l. u ++ l) more ∙ sym (append_assoc u z n))))

module _ (l : Label) (q : HistoryState) where
  -- the reply with which each thread's call ends, by the events that are left
  abbrev ends : List Entry → ℕ → Reply
  ends es u = outcome q.state u es

  -- what is on its way in a state, and what is sent from then on, is given from then on or on its way at the end
  abbrev Delivers : List Entry → State → Type 0
  Delivers es s = messages_of s.kind_state ++ (values_of (ends es) (senders_of s.kind_state) ++ sent q.state es) ≡ given q.state es ++ on_the_way q.state.kind_state

  -- at the end the values of those that still wait are on their way
  at_end : Keeps l.kind l.threads q.state → Delivers [] q.state
  at_end keeps =
      let still : values_of (ends []) (senders_of q.state.kind_state) ≡ map (λ w. w.value) (senders_of q.state.kind_state) = waiting-values (ends []) (senders_of q.state.kind_state)
      (senders_of-queued q.state.kind_state (λ u. ends [] u ≡ reply.Wait) (λ x h. ap granted_or_wait (waiting-ungranted l.threads q.state keeps.sound.tidy x h))) in
      rw still (unmoved (messages_of q.state.kind_state) (map (λ w. w.value) (senders_of q.state.kind_state)))

  -- the senders that wait have no part in the next event
  later : (p : HistoryState) (e : Entry) (es : List Entry) (mid : HistoryState) → Keeps l.kind l.threads p.state → Follows l p e mid
      → values_of (ends (e ∷ es)) (senders_of p.state.kind_state) ≡ values_of (ends es) (senders_of p.state.kind_state)
  later p e es mid keeps follows = same-values (ends (e ∷ es)) (ends es) (senders_of p.state.kind_state)
      (senders_of-queued p.state.kind_state (λ u. ends (e ∷ es) u ≡ ends es u)
      (λ u waits. rw (ne_eqb e.thread u (λ (same : e.thread ≡ u). no_event (object_at l p.state) u e.reply mid.state keeps.sound waits e.op
      (subst (λ (t : ℕ). Lawful (object_at l p.state) t e.op e.reply mid.state) same follows.lawful))) refl))

  delivers : (es : List Entry) (p : HistoryState) → Keeps l.kind l.threads p.state → Leads (Follows l) p es q → Delivers es p.state
  delivers [] p keeps run = subst (λ (x : HistoryState). Delivers [] x.state) run (at_end (subst (λ (x : HistoryState). Keeps l.kind l.threads x.state) (sym run) keeps))
  delivers (e ∷ es) p keeps run =
      let sound : IsSound (object_at l run.0.state) = (Follows-moves l p e run.0 keeps.sound run.1).sound in
      let next : Keeps l.kind l.threads run.0.state = record { sound = sound; ordered = Lawful-ordered (ends es) l.kind l.threads p.state keeps e.thread e.reply run.0.state e.op run.1.lawful } in
      let rest : Delivers es run.0.state = delivers es run.0 next run.2 in
      let agrees : Agrees (ends es) run.0.state = λ u a h. granted-outcome l q u a es run.0 sound h run.2 in
      let same : values_of (ends (e ∷ es)) (senders_of p.state.kind_state) ≡ values_of (ends es) (senders_of p.state.kind_state) = later p e es run.0 keeps run.1 in
      let even : Balanced (ends es) e.thread p.state.kind_state e.op e.reply run.0.state.kind_state =
      Lawful-balanced (ends es) l.kind l.threads p.state keeps e.thread e.reply run.0.state agrees e.op run.1.lawful in
      rw same (joined (messages_of p.state.kind_state) (values_of (ends es) (senders_of p.state.kind_state)) (sent_by e.op (ends_with e.reply (ends es e.thread))) (given_by e.op e.reply (ends es))
      (messages_of run.0.state.kind_state) (values_of (ends es) (senders_of run.0.state.kind_state)) (sent q.state es) (given q.state es) (on_the_way q.state.kind_state) even rest)

-- a channel before its first event
start-ordered : (k : Kind) → IsChannel k → Ordered k (start_kind_state k)
start-ordered kind.Sync is = inl refl
start-ordered (kind.Async capacity) is = record { room = is; within = omega arith; full = inl refl; empty = inl refl }
start-ordered k is = elim is [ ]

start-empty : (k : Kind) (f : ℕ → Reply) (xs : List ℤ) → IsChannel k → xs ≡ messages_of (start_kind_state k) ++ (values_of f (senders_of (start_kind_state k)) ++ xs)
start-empty kind.Sync f xs is = refl
start-empty (kind.Async capacity) f xs is = refl
start-empty k f xs is = elim is [ ]

pub history-delivers : (l : Label) (es : List Entry) (p : HistoryState) → IsChannel l.kind → IsHistory l es p → sent p.state es ≡ given p.state es ++ on_the_way p.state.kind_state
history-delivers l es p is run =
    start-empty l.kind (λ u. outcome p.state u es) (sent p.state es) is
    ∙ delivers l p es (first_history_state l) (record { sound = start-sound l.kind l.threads; ordered = start-ordered l.kind is }) run
