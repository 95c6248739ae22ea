-- Who comes inside a Hoare monitor by each of its events.
use Rattle.std.proofs.Common.{nat_lt, ◌≡◌, ◌⊎◌, ℕ, ◌≤◌, Bool, true, false, ◌==◌, MatchBool, IsSomeAnd, inl, inr, ⊎_elim, List, [], ◌∷◌, ◌++◌, Option, None, Some, slice_get, slice_set, refl, ap, sym, ◌∙◌, subst, arith, eq-eqb, ne_eqb}
use Rattle.std.proofs.lemmas.Bool.{eqb-true}
use Rattle.std.proofs.lemmas.Bool.Decides.{nat_tests}
use Rattle.std.proofs.lemmas.Option.{get_or_from_slice_get}
use Rattle.tm_base.specs.declared.operations.Op.{Op}
use Rattle.tm_base.specs.declared.operations.Op.TheVariants as op
use Rattle.tm_base.specs.declared.replies.Reply.{Reply}
use Rattle.tm_base.specs.declared.replies.Reply.TheVariants as reply
use Rattle.tm_base.specs.declared.kinds.Kind.{Kind}
use Rattle.tm_base.specs.declared.kinds.Kind.TheVariants as kind
use Rattle.tm_base.specs.declared.events.Entry.{Entry}
use Rattle.tm_base.specs.States.{KindState, State, MutexState, HoareState, all_of, emptied, is_pending, is_queued, queued, start_kind_state}
use Rattle.tm_base.specs.TableRows.{Waits, Allows, Gives}
use Rattle.tm_base.specs.Hoare.{hoare_handed_on, hoare_row, hoare_signal_row}
use Rattle.tm_base.specs.Steps.{Step}
use Rattle.tm_base.specs.Machines.{ObjectView}
use Rattle.tm_base.specs.Runs.{Leads}
use Rattle.tm_base.specs.Histories.{Lawful, Label, HistoryState, Follows, IsHistory, first_history_state, object_at}
use Rattle.tm_laws.specs.Counts.{count_in}
use Rattle.tm_laws.specs.Tidy.{IsSound}
use Rattle.tm_laws.proofs.Conditions.{count_all-set}
use Rattle.tm_laws.proofs.Counting.{count_in-append, is_queued-count, bit-true}
use Rattle.tm_laws.proofs.TableRowLemmas.{of_parts, either, Leaves, Leaves-state}
use Rattle.tm_laws.proofs.Reaching.{Follows-moves, history-sound}
use Rattle.tm_laws.proofs.RunsLemmas.{Leads-keeps}
use Rattle.tm_laws.proofs.WaitersLemmas.{pending-known}
use Rattle.tm_monitors.specs.MonitorQueues.{waiting_at}
use Rattle.tm_monitors.specs.MonitorStates.{inside_of, urgent_of, oldest_at}
use Rattle.tm_monitors.specs.HoareLaws.{HaveNoResumeOf, IsInsideUntilResumed, IsResumeOf, LetsNewestIn}

-- the object in this state
abbrev hoare_at : ℕ → ℕ → State → ObjectView
hoare_at count threads s = record { kind = kind.Hoare count; threads = threads; state = s }

-- what the new state has inside
inside-by : (s' next : State) (t : ℕ) → s' ≡ next → inside_of next.kind_state ≡ Some t → inside_of s'.kind_state ≡ Some t
inside-by s' next t e h = ap (λ (s : State). inside_of s.kind_state) e ∙ h

-- a call by another thread leaves inside whoever is inside
others-row : (i : ℕ) (entrance urgent : List ℕ) (conditions : List (List ℕ)) (g : List (Option Reply)) (b : Bool) (t : ℕ) (o : Op) (r : Reply) (s' : State) → (i ≡ t → ⊥)
    → Allows (hoare_row (Some i) entrance urgent conditions t o) (of_parts (HoareState (Some i) entrance urgent conditions) g b) r s' → inside_of s'.kind_state ≡ Some i
others-row i entrance urgent conditions g b t op.Enter r s' ne h =
    either (i == t) (λ h. inside-by s' _ i h.1 refl) (λ h. either b (λ h. inside-by s' _ i h.1 refl) (λ h. inside-by s' _ i h.1 refl) h) h
others-row i entrance urgent conditions g b t op.Leave r s' ne h = let h = rw (ne_eqb i t ne) at h in inside-by s' _ i h.1 refl
others-row i entrance urgent conditions g b t (op.Wait c) r s' ne h = let h = rw (ne_eqb i t ne) at h in inside-by s' _ i h.1 refl
others-row i entrance urgent conditions g b t (op.Signal c) r s' ne h = let h = rw (ne_eqb i t ne) at h in inside-by s' _ i h.1 refl
others-row i entrance urgent conditions g b t o r s' ne h = elim h [ ]

others-step : (count w : ℕ) (own : KindState) (g : List (Option Reply)) (b : Bool) (t : ℕ) (o : Op) (r : Reply) (s' : State) → inside_of own ≡ Some w → (w ≡ t → ⊥)
    → Step (kind.Hoare count) (of_parts own g b) t o r s' → inside_of s'.kind_state ≡ Some w
others-step count w (HoareState None entrance urgent conditions) g b t o r s' inside ne h = absurd cc
others-step count w (HoareState (Some i) entrance urgent conditions) g b t o r s' inside ne h =
    let same : i ≡ w = cc in
    others-row i entrance urgent conditions g b t o r s' (λ e. ne (sym same ∙ e)) h ∙ ap Some same
others-step count w own g b t o r s' inside ne h = elim h [ ]

emptied-inside : (own : KindState) → inside_of (emptied own) ≡ inside_of own
emptied-inside (MutexState owner queue) = refl
emptied-inside own = refl

-- an event of another thread leaves inside whoever is inside, and so does the thread's own resume
module _ (count threads : ℕ) (s : State) (w : ℕ) (inside : inside_of s.kind_state ≡ Some w) where
  kept-inside : (t : ℕ) (o : Op) (r : Reply) (s' : State) → (w ≡ t → ⊥) → Lawful (hoare_at count threads s) t o r s' → inside_of s'.kind_state ≡ Some w
  kept-inside t op.Resume r s' ne e = inside-by s' _ w e.cleared inside
  kept-inside t op.Stop r s' ne e = inside-by s' _ w e.halted (emptied-inside s.kind_state ∙ inside)
  kept-inside t o r s' ne e = others-step count w s.kind_state s.granted s.stopped t o r s' inside ne e.step

-- whose call is pending makes no event but its resume
pending-silent : (h : ObjectView) (w t : ℕ) (o : Op) (r : Reply) (s' : State) → IsSound h → is_pending h.state w ≡ true → (t ≡ w → o ≡ op.Resume → ⊥) → Lawful h t o r s' → w ≡ t → ⊥
pending-silent h w t op.Resume r s' sound waits silent e same = silent (sym same) refl
pending-silent h w t op.Stop r s' sound waits silent e same = omega (arith, (pending-known h.threads h.state sound.tidy w waits).0, e.main)
pending-silent h w t o r s' sound waits silent e same = cc (subst (λ (u : ℕ). is_pending h.state u ≡ true) same waits, e.may.free)

module _ (l : Label) (count : ℕ) (its : l.kind ≡ kind.Hoare count) where
  of_hoare : (p : HistoryState) (t : ℕ) (o : Op) (r : Reply) (s' : State) → Lawful (object_at l p.state) t o r s' → Lawful (hoare_at count l.threads p.state) t o r s'
  of_hoare p t o r s' lawful = subst (λ (k : Kind). Lawful (record { kind = k; threads = l.threads; state = p.state }) t o r s') its lawful

  -- the thread is inside, and its call is pending
  record IsInside (w : ℕ) (p : HistoryState) : Type 0 where
    pub sound : IsSound (object_at l p.state)
    pub inside : inside_of p.state.kind_state ≡ Some w
    pub pending : is_pending p.state w ≡ true

  stays-inside : (w : ℕ) (p : HistoryState) (e : Entry) (q : HistoryState) → IsInside w p → (IsResumeOf w e → ⊥) → Follows l p e q → IsInside w q
  stays-inside w p e q h silent f =
      let ne : w ≡ e.thread → ⊥ = pending-silent (object_at l p.state) w e.thread e.op e.reply q.state h.sound h.pending (λ t o. silent (t, o)) f.lawful in
      let moves = Follows-moves l p e q h.sound f in
      record {
        sound = moves.sound;
        inside = kept-inside count l.threads p.state w h.inside e.thread e.op e.reply q.state ne (of_hoare p e.thread e.op e.reply q.state f.lawful);
        pending = rw (ne_eqb w e.thread ne) at (moves.pending w) ∙ h.pending;
      }

  stays-along : (w : ℕ) (es : List Entry) (p q : HistoryState) → IsInside w p → Leads (Follows l) p es q → HaveNoResumeOf w es → IsInside w q
  stays-along w [] p q h run silent = subst (IsInside w) (sym run) h
  stays-along w (e ∷ es) p q h run silent = stays-along w es run.0 q (stays-inside w p e run.0 h silent.0 run.1) run.2 silent.1

  resumed-inside : (w : ℕ) (p : HistoryState) (e : Entry) (q : HistoryState) → inside_of p.state.kind_state ≡ Some w → IsResumeOf w e → Follows l p e q → inside_of q.state.kind_state ≡ Some w
  resumed-inside w p e q inside resume f =
      let lawful : Lawful (object_at l p.state) e.thread op.Resume e.reply q.state = rw resume.1 at f.lawful in
      inside-by q.state _ w lawful.cleared inside

  inside-until : (w : ℕ) (p : HistoryState) → IsInside w p → IsInsideUntilResumed l w p
  inside-until w p h = record {
    before = λ es q run silent. (stays-along w es p q h run silent).inside;
    resumed = λ es q e r run silent f resume. resumed-inside w q e r (stays-along w es p q h run silent).inside resume f;
  }

-- who stands at a condition stands in a queue
waits-queued : (entrance urgent : List ℕ) (conditions : List (List ℕ)) (c w : ℕ) (rest : List ℕ) → slice_get conditions c ≡ Some (w ∷ rest) → is_queued (entrance ++ (urgent ++ all_of conditions)) w ≡ true
waits-queued entrance urgent conditions c w rest e =
    let queue : List ℕ = entrance ++ (urgent ++ all_of conditions) in
    let once : 1 ≤ count_in queue w = omega (arith, count_in-append, count_in-append urgent (all_of conditions) w, count_all-set conditions c (w ∷ rest) [] w e, bit-true (w == w) (eq-eqb w w refl)) in
    let says : is_queued queue w ≡ nat_lt 0 (count_in queue w) = is_queued-count queue w in
    grind (arith, nat_tests)

-- a signal that waits lets in the oldest that waits at the condition
record Signals (own : KindState) (c : ℕ) (s' : State) : Type 0 where
  pub thread : ℕ
  pub oldest : oldest_at own c ≡ Some thread
  pub waited : is_queued (queued own) thread ≡ true
  pub inside : inside_of s'.kind_state ≡ Some thread

signal-row : (i : ℕ) (entrance urgent : List ℕ) (conditions : List (List ℕ)) (g : List (Option Reply)) (b : Bool) (t c : ℕ) (s' : State) (queue : Option (List ℕ)) → slice_get conditions c ≡ queue
    → IsSomeAnd queue (λ waiting. Allows (hoare_signal_row entrance urgent conditions t c waiting) (of_parts (HoareState (Some i) entrance urgent conditions) g b) reply.Wait s')
    → Signals (HoareState (Some i) entrance urgent conditions) c s'
signal-row i entrance urgent conditions g b t c s' None e h = elim h [ ]
signal-row i entrance urgent conditions g b t c s' (Some []) e h = absurd (let f : reply.Wait ≡ reply.Ok = h.0 in cc)
signal-row i entrance urgent conditions g b t c s' (Some (w ∷ rest)) e h = record {
  thread = w;
  oldest = rw (get_or_from_slice_get conditions c (w ∷ rest) [] e) refl;
  waited = waits-queued entrance urgent conditions c w rest e;
  inside = inside-by s' _ w h.1 refl;
}

signal-step : (count : ℕ) (own : KindState) (g : List (Option Reply)) (b : Bool) (t c : ℕ) (s' : State) → Step (kind.Hoare count) (of_parts own g b) t (op.Signal c) reply.Wait s' → Signals own c s'
signal-step count (HoareState None entrance urgent conditions) g b t c s' h = absurd (let f : reply.Wait ≡ reply.NotOwner = h.0 in cc)
signal-step count (HoareState (Some i) entrance urgent conditions) g b t c s' h =
    either (i == t) (signal-row i entrance urgent conditions g b t c s' (slice_get conditions c) refl) (λ h. absurd (let f : reply.Wait ≡ reply.NotOwner = h.0 in cc)) h
signal-step count own g b t c s' h = elim h [ ]

-- whatever a signal is answered: it leaves inside whoever is inside, or it waits and lets in the oldest at the condition
abbrev SignalLets : KindState → ℕ → Reply → State → Type 0
SignalLets own c r s' = (inside_of s'.kind_state ≡ inside_of own) ⊎ ((r ≡ reply.Wait) × (inside_of s'.kind_state ≡ oldest_at own c))

signal-row-lets : (i : ℕ) (entrance urgent : List ℕ) (conditions : List (List ℕ)) (g : List (Option Reply)) (b : Bool) (t c : ℕ) (r : Reply) (s' : State) (queue : Option (List ℕ)) → slice_get conditions c ≡ queue
    → IsSomeAnd queue (λ waiting. Allows (hoare_signal_row entrance urgent conditions t c waiting) (of_parts (HoareState (Some i) entrance urgent conditions) g b) r s')
    → SignalLets (HoareState (Some i) entrance urgent conditions) c r s'
signal-row-lets i entrance urgent conditions g b t c r s' None e h = elim h [ ]
signal-row-lets i entrance urgent conditions g b t c r s' (Some []) e h = inl (inside-by s' _ i h.1 refl)
signal-row-lets i entrance urgent conditions g b t c r s' (Some (w ∷ rest)) e h =
    let oldest : oldest_at (HoareState (Some i) entrance urgent conditions) c ≡ Some w = rw (get_or_from_slice_get conditions c (w ∷ rest) [] e) refl in
    inr (h.0, inside-by s' _ w h.1 refl ∙ sym oldest)

signal-step-lets : (count : ℕ) (own : KindState) (g : List (Option Reply)) (b : Bool) (t c : ℕ) (r : Reply) (s' : State) → Step (kind.Hoare count) (of_parts own g b) t (op.Signal c) r s' → SignalLets own c r s'
signal-step-lets count (HoareState None entrance urgent conditions) g b t c r s' h = inl (ap (λ (s : State). inside_of s.kind_state) h.1)
signal-step-lets count (HoareState (Some i) entrance urgent conditions) g b t c r s' h =
    either (i == t) (signal-row-lets i entrance urgent conditions g b t c r s' (slice_get conditions c) refl) (λ h. inl (inside-by s' _ i h.1 refl)) h
signal-step-lets count own g b t c r s' h = elim h [ ]

-- a signal by the thread inside waits where somebody waits at the condition
signal-row-waits : (entrance urgent : List ℕ) (conditions : List (List ℕ)) (s : State) (t c w : ℕ) (r : Reply) (s' : State) (queue : Option (List ℕ)) → slice_get conditions c ≡ queue
    → slice_get (waiting_at conditions c) 0 ≡ Some w → IsSomeAnd queue (λ waiting. Allows (hoare_signal_row entrance urgent conditions t c waiting) s r s') → r ≡ reply.Wait
signal-row-waits entrance urgent conditions s t c w r s' None e oldest h = elim h [ ]
signal-row-waits entrance urgent conditions s t c w r s' (Some []) e oldest h =
    let nobody : slice_get (waiting_at conditions c) 0 ≡ None = rw (get_or_from_slice_get conditions c [] [] e) refl in
    absurd cc
signal-row-waits entrance urgent conditions s t c w r s' (Some (x ∷ rest)) e oldest h = h.0

signal-step-waits : (count : ℕ) (own : KindState) (g : List (Option Reply)) (b : Bool) (t c w : ℕ) (r : Reply) (s' : State) → inside_of own ≡ Some t → oldest_at own c ≡ Some w
    → Step (kind.Hoare count) (of_parts own g b) t (op.Signal c) r s' → r ≡ reply.Wait
signal-step-waits count (HoareState None entrance urgent conditions) g b t c w r s' inside oldest h = absurd cc
signal-step-waits count (HoareState (Some i) entrance urgent conditions) g b t c w r s' inside oldest h =
    let own : i ≡ t = cc in
    let h = rw (eq-eqb i t own) at h in
    signal-row-waits entrance urgent conditions (of_parts (HoareState (Some i) entrance urgent conditions) g b) t c w r s' (slice_get conditions c) refl oldest h
signal-step-waits count own g b t c w r s' inside oldest h = elim h [ ]

-- only the thread inside waits in a signal
inside_by_test : (P : Type 0) (i t : ℕ) (s s' : State) (b : Bool) → (i == t) ≡ b → MatchBool b P (Gives reply.Wait s' reply.NotOwner s) → i ≡ t
inside_by_test P i t s s' true e h = eqb-true i t e
inside_by_test P i t s s' false e h = absurd (let f : reply.Wait ≡ reply.NotOwner = h.0 in cc)

signal-step-inside : (count : ℕ) (own : KindState) (g : List (Option Reply)) (b : Bool) (t c : ℕ) (s' : State) → Step (kind.Hoare count) (of_parts own g b) t (op.Signal c) reply.Wait s' → inside_of own ≡ Some t
signal-step-inside count (HoareState None entrance urgent conditions) g b t c s' h = absurd (let f : reply.Wait ≡ reply.NotOwner = h.0 in cc)
signal-step-inside count (HoareState (Some i) entrance urgent conditions) g b t c s' h =
    ap Some (inside_by_test _ i t (of_parts (HoareState (Some i) entrance urgent conditions) g b) s' (i == t) refl h)
signal-step-inside count own g b t c s' h = elim h [ ]

-- the event of a signal
signal-call : (l : Label) (count : ℕ) (p : HistoryState) (e : Entry) (q : HistoryState) (c : ℕ) → l.kind ≡ kind.Hoare count → Follows l p e q → e.op ≡ op.Signal c
    → Step (kind.Hoare count) p.state e.thread (op.Signal c) e.reply q.state
signal-call l count p e q c its f does =
    let call : Lawful (hoare_at count l.threads p.state) e.thread (op.Signal c) e.reply q.state = rw does at (of_hoare l count its p e.thread e.op e.reply q.state f.lawful) in
    call.step

pub signalled-inside : (l : Label) (count : ℕ) (es : List Entry) (p : HistoryState) (e : Entry) (q : HistoryState) (c : ℕ)
    → l.kind ≡ kind.Hoare count → IsHistory l es p → Follows l p e q → e.op ≡ op.Signal c → e.reply ≡ reply.Wait
    → (t : ℕ) × (oldest_at p.state.kind_state c ≡ Some t) × IsInsideUntilResumed l t q
signalled-inside l count es p e q c its run f does waits =
    let call : Lawful (hoare_at count l.threads p.state) e.thread (op.Signal c) reply.Wait q.state = rw (does, waits) at (of_hoare l count its p e.thread e.op e.reply q.state f.lawful) in
    let signals = signal-step count p.state.kind_state p.state.granted p.state.stopped e.thread c q.state call.step in
    let w = signals.thread in
    let sound = history-sound l es p run in
    let moves = Follows-moves l p e q sound f in
    let pending : is_pending p.state w ≡ true = rw signals.waited refl in
    let ne : w ≡ e.thread → ⊥ = λ same. cc (subst (λ (u : ℕ). is_pending p.state u ≡ true) same pending, call.may.free) in
    (w, signals.oldest, inside-until l count its w q (record { sound = moves.sound; inside = signals.inside; pending = rw (ne_eqb w e.thread ne) at (moves.pending w) ∙ pending }))

pub waits-inside : (l : Label) (count : ℕ) (p : HistoryState) (e : Entry) (q : HistoryState) (c : ℕ) → l.kind ≡ kind.Hoare count → Follows l p e q → e.op ≡ op.Signal c → e.reply ≡ reply.Wait
    → inside_of p.state.kind_state ≡ Some e.thread
waits-inside l count p e q c its f does waits =
    signal-step-inside count p.state.kind_state p.state.granted p.state.stopped e.thread c q.state (rw waits at (signal-call l count p e q c its f does))

-- so where somebody waits the signal waits, and who is let in is that one
pub signal-lets_in : (l : Label) (count : ℕ) (es : List Entry) (p : HistoryState) (e : Entry) (q : HistoryState) (c t : ℕ)
    → l.kind ≡ kind.Hoare count → IsHistory l es p → Follows l p e q → inside_of p.state.kind_state ≡ Some e.thread → e.op ≡ op.Signal c → oldest_at p.state.kind_state c ≡ Some t
    → (e.reply ≡ reply.Wait) × IsInsideUntilResumed l t q
signal-lets_in l count es p e q c t its run f inside does oldest =
    let waits : e.reply ≡ reply.Wait = signal-step-waits count p.state.kind_state p.state.granted p.state.stopped e.thread c t e.reply q.state inside oldest (signal-call l count p e q c its f does) in
    let lets = signalled-inside l count es p e q c its run f does waits in
    let same : lets.0 ≡ t = let both : Some lets.0 ≡ Some t = sym lets.1 ∙ oldest in cc in
    (waits, subst (λ (u : ℕ). IsInsideUntilResumed l u q) same lets.2)

-- a signaller waits only while somebody is inside
abbrev IsOccupied : KindState → Type 0
IsOccupied (HoareState None entrance urgent conditions) = urgent ≡ []
IsOccupied own = Unit {0}

handed_on-occupied : (entrance urgent : List ℕ) (conditions : List (List ℕ)) → IsOccupied (hoare_handed_on entrance urgent conditions)
handed_on-occupied entrance (u ∷ urgent) conditions = tt
handed_on-occupied (e ∷ entrance) [] conditions = tt
handed_on-occupied [] [] conditions = refl

signal_row-occupied : (i : ℕ) (entrance urgent : List ℕ) (conditions : List (List ℕ)) (t c : ℕ) (waiting : List ℕ) → Leaves IsOccupied (HoareState (Some i) entrance urgent conditions) (hoare_signal_row entrance urgent conditions t c waiting)
signal_row-occupied i entrance urgent conditions t c [] = tt
signal_row-occupied i entrance urgent conditions t c (w ∷ waiting) = tt

hoare_row-occupied : (inside : Option ℕ) (entrance urgent : List ℕ) (conditions : List (List ℕ)) (t : ℕ) (o : Op) → IsOccupied (HoareState inside entrance urgent conditions)
    → Leaves IsOccupied (HoareState inside entrance urgent conditions) (hoare_row inside entrance urgent conditions t o)
hoare_row-occupied None entrance urgent conditions t op.Enter h = tt
hoare_row-occupied (Some i) entrance urgent conditions t op.Enter h = (tt, (tt, tt))
hoare_row-occupied None entrance urgent conditions t op.Leave h = h
hoare_row-occupied (Some i) entrance urgent conditions t op.Leave h = (handed_on-occupied entrance urgent conditions, tt)
hoare_row-occupied None entrance urgent conditions t (op.Wait c) h = h
hoare_row-occupied (Some i) entrance urgent conditions t (op.Wait c) h = (λ waiting e. (tt, handed_on-occupied entrance urgent (slice_set conditions c (waiting ++ t ∷ []))), tt)
hoare_row-occupied None entrance urgent conditions t (op.Signal c) h = h
hoare_row-occupied (Some i) entrance urgent conditions t (op.Signal c) h = (λ waiting e. signal_row-occupied i entrance urgent conditions t c waiting, tt)
hoare_row-occupied None entrance urgent conditions t o h = tt
hoare_row-occupied (Some i) entrance urgent conditions t o h = tt

step-occupied : (count : ℕ) (own : KindState) (g : List (Option Reply)) (b : Bool) (t : ℕ) (o : Op) (r : Reply) (s' : State) → IsOccupied own → Step (kind.Hoare count) (of_parts own g b) t o r s' → IsOccupied s'.kind_state
step-occupied count (HoareState inside entrance urgent conditions) g b t o r s' occupied h =
    Leaves-state IsOccupied (of_parts (HoareState inside entrance urgent conditions) g b) r s' (hoare_row inside entrance urgent conditions t o) (hoare_row-occupied inside entrance urgent conditions t o occupied) h
step-occupied count own g b t o r s' occupied h = elim h [ ]

emptied-occupied : (own : KindState) → IsOccupied (emptied own)
emptied-occupied (HoareState None entrance urgent conditions) = refl
emptied-occupied (HoareState (Some i) entrance urgent conditions) = tt
emptied-occupied own = tt

event-occupied : (count threads : ℕ) (s : State) (t : ℕ) (o : Op) (r : Reply) (s' : State) → IsOccupied s.kind_state → Lawful (hoare_at count threads s) t o r s' → IsOccupied s'.kind_state
event-occupied count threads s t op.Resume r s' h e = subst (λ (s : State). IsOccupied s.kind_state) (sym e.cleared) h
event-occupied count threads s t op.Stop r s' h e = subst (λ (s : State). IsOccupied s.kind_state) (sym e.halted) (emptied-occupied s.kind_state)
event-occupied count threads s t o r s' h e = step-occupied count s.kind_state s.granted s.stopped t o r s' h e.step

history-occupied : (l : Label) (count : ℕ) → l.kind ≡ kind.Hoare count → (es : List Entry) (p : HistoryState) → IsHistory l es p → IsOccupied p.state.kind_state
history-occupied l count its es p run = Leads-keeps (Follows l) (λ (p : HistoryState). IsOccupied p.state.kind_state)
    (λ p e q h f. event-occupied count l.threads p.state e.thread e.op e.reply q.state h (of_hoare l count its p e.thread e.op e.reply q.state f.lawful)) es (first_history_state l) p
    (subst (λ (k : Kind). IsOccupied (start_kind_state k)) (sym its) refl) run

-- by an event that is no signal the same thread is inside as before, or the newest of the signallers
module _ (i u : ℕ) (entrance urgent : List ℕ) (conditions : List (List ℕ)) (g : List (Option Reply)) (b : Bool) where
  others-row-newest : (t : ℕ) (o : Op) → ((c : ℕ) → o ≡ op.Signal c → ⊥)
      → Leaves (λ own. (inside_of own ≡ Some i) ⊎ (inside_of own ≡ Some u)) (HoareState (Some i) entrance (u ∷ urgent) conditions) (hoare_row (Some i) entrance (u ∷ urgent) conditions t o)
  others-row-newest t op.Enter other = (inl refl, (inl refl, inl refl))
  others-row-newest t op.Leave other = (inr refl, inl refl)
  others-row-newest t (op.Wait c) other = (λ waiting e. (inl refl, inr refl), inl refl)
  others-row-newest t (op.Signal c) other = absurd (other c refl)
  others-row-newest t o other = tt

  leave-newest : (r : Reply) (s' : State) → Allows (hoare_row (Some i) entrance (u ∷ urgent) conditions i op.Leave) (of_parts (HoareState (Some i) entrance (u ∷ urgent) conditions) g b) r s' → inside_of s'.kind_state ≡ Some u
  leave-newest r s' h = let h = rw (eq-eqb i i refl) at h in inside-by s' _ u h.1 refl

  wait-queue : (t c : ℕ) (s' : State) (queue : Option (List ℕ))
      → IsSomeAnd queue (λ waiting. Allows (Waits (Some u) (HoareState (Some u) entrance urgent (slice_set conditions c (waiting ++ t ∷ [])))) (of_parts (HoareState (Some i) entrance (u ∷ urgent) conditions) g b) reply.Wait s')
      → inside_of s'.kind_state ≡ Some u
  wait-queue t c s' None h = elim h [ ]
  wait-queue t c s' (Some waiting) h = either b (λ h. absurd (let f : reply.Wait ≡ reply.Stopped = h.0 in cc)) (λ h. inside-by s' _ u h.1 refl) h

  wait-newest : (t c : ℕ) (s' : State) → Allows (hoare_row (Some i) entrance (u ∷ urgent) conditions t (op.Wait c)) (of_parts (HoareState (Some i) entrance (u ∷ urgent) conditions) g b) reply.Wait s' → inside_of s'.kind_state ≡ Some u
  wait-newest t c s' h = either (i == t) (wait-queue t c s' (slice_get conditions c)) (λ h. absurd (let f : reply.Wait ≡ reply.NotOwner = h.0 in cc)) h

-- what an event does while a signaller waits
record Newest (own : KindState) (t u : ℕ) (o : Op) (r : Reply) (s' : State) : Type 0 where
  pub only : ((c : ℕ) → o ≡ op.Signal c → ⊥) → (inside_of s'.kind_state ≡ inside_of own) ⊎ (inside_of s'.kind_state ≡ Some u)
  pub leave : o ≡ op.Leave → inside_of own ≡ Some t → inside_of s'.kind_state ≡ Some u
  pub wait : (c : ℕ) → o ≡ op.Wait c → r ≡ reply.Wait → inside_of s'.kind_state ≡ Some u

step-newest : (count : ℕ) (own : KindState) (g : List (Option Reply)) (b : Bool) (t u : ℕ) (urgent : List ℕ) (o : Op) (r : Reply) (s' : State) → IsOccupied own → urgent_of own ≡ u ∷ urgent
    → Step (kind.Hoare count) (of_parts own g b) t o r s' → Newest own t u o r s'
step-newest count (HoareState None entrance [] conditions) g b t u urgent o r s' occupied newest h = absurd cc
step-newest count (HoareState None entrance (x ∷ stack) conditions) g b t u urgent o r s' occupied newest h = absurd cc
step-newest count (HoareState (Some i) entrance [] conditions) g b t u urgent o r s' occupied newest h = absurd cc
step-newest count (HoareState (Some i) entrance (x ∷ stack) conditions) g b t u urgent o r s' occupied newest h =
    let same : x ≡ u = cc in
    record {
      only = λ other. ⊎_elim (λ (e : inside_of s'.kind_state ≡ Some i). inl e) (λ (e : inside_of s'.kind_state ≡ Some x). inr (e ∙ ap Some same))
          (Leaves-state (λ own. (inside_of own ≡ Some i) ⊎ (inside_of own ≡ Some x)) (of_parts (HoareState (Some i) entrance (x ∷ stack) conditions) g b) r s' (hoare_row (Some i) entrance (x ∷ stack) conditions t o)
          (others-row-newest i x entrance stack conditions g b t o other) h);
      leave = λ does its.
          let own : t ≡ i = cc in
          leave-newest i x entrance stack conditions g b r s' (rw (does, own) at h) ∙ ap Some same;
      wait = λ c does waits. wait-newest i x entrance stack conditions g b t c s' (rw (does, waits) at h) ∙ ap Some same;
    }
step-newest count own g b t u urgent o r s' occupied newest h = elim h [ ]

event-newest : (count threads : ℕ) (s : State) (t u : ℕ) (urgent : List ℕ) (o : Op) (r : Reply) (s' : State) → IsOccupied s.kind_state → urgent_of s.kind_state ≡ u ∷ urgent
    → Lawful (hoare_at count threads s) t o r s' → Newest s.kind_state t u o r s'
event-newest count threads s t u urgent op.Resume r s' occupied newest e = record {
  only = λ other. inl (ap (λ (s : State). inside_of s.kind_state) e.cleared);
  leave = λ does its. absurd cc;
  wait = λ c does waits. absurd cc;
}
event-newest count threads s t u urgent op.Stop r s' occupied newest e = record {
  only = λ other. inl (ap (λ (s : State). inside_of s.kind_state) e.halted ∙ emptied-inside s.kind_state);
  leave = λ does its. absurd cc;
  wait = λ c does waits. absurd cc;
}
event-newest count threads s t u urgent o r s' occupied newest e = step-newest count s.kind_state s.granted s.stopped t u urgent o r s' occupied newest e.step

-- whether the operation is a signal
is_signal : (o : Op) → ((c : ℕ) × (o ≡ op.Signal c)) ⊎ ((c : ℕ) → o ≡ op.Signal c → ⊥)
is_signal (op.Signal c) = inl (c, refl)
is_signal op.Lock = inr (λ c e. cc)
is_signal o = inr (λ c e. cc)

pub newest-first : (l : Label) (count : ℕ) (es : List Entry) (p : HistoryState) (e : Entry) (q : HistoryState) (t : ℕ) (urgent : List ℕ)
    → l.kind ≡ kind.Hoare count → IsHistory l es p → Follows l p e q → urgent_of p.state.kind_state ≡ t ∷ urgent → LetsNewestIn t p.state e q.state
newest-first l count es p e q t urgent its run f stacked =
    let h = event-newest count l.threads p.state e.thread t urgent e.op e.reply q.state (history-occupied l count its es p run) stacked (of_hoare l count its p e.thread e.op e.reply q.state f.lawful) in
    record {
      only = λ moved. ⊎_elim
          (λ (s : (c : ℕ) × (e.op ≡ op.Signal c)). ⊎_elim (λ (same : inside_of q.state.kind_state ≡ inside_of p.state.kind_state). absurd (moved same))
          (λ (lets : (e.reply ≡ reply.Wait) × (inside_of q.state.kind_state ≡ oldest_at p.state.kind_state s.0)). inr (s.0, s.1, lets.0, lets.1))
          (signal-step-lets count p.state.kind_state p.state.granted p.state.stopped e.thread s.0 e.reply q.state (signal-call l count p e q s.0 its f s.1)))
          (λ (other : (c : ℕ) → e.op ≡ op.Signal c → ⊥). ⊎_elim (λ (same : inside_of q.state.kind_state ≡ inside_of p.state.kind_state). absurd (moved same)) (λ (in' : inside_of q.state.kind_state ≡ Some t). inl in') (h.only other)) (is_signal e.op);
      leave = h.leave;
      wait = h.wait;
    }
