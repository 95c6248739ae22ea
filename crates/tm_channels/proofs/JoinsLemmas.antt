-- Who is granted `ok` by a thread object, and that its thread has ended then.
use Rattle.std.proofs.Common.{◌≡◌, ◌≢◌, ℕ, ◌<◌, ◌≤◌, Bool, true, false, ◌==◌, ⊎_elim, List, [], ◌∷◌, ◌++◌, length, Contains, Option, Some, None, is_some, slice_index_or, slice_set, refl, ap, sym, ◌∙◌, subst, get_or-set_same, get_or-set_other}
use Rattle.std.proofs.lemmas.Bool.{cases_eq, cases_lt}
use Rattle.std.proofs.lemmas.List.{set_past}
use Rattle.tm_base.specs.declared.operations.Op.{Op}
use Rattle.tm_base.specs.declared.operations.Op.TheVariants as op
use Rattle.tm_base.specs.declared.replies.Reply.{Reply}
use Rattle.tm_base.specs.declared.replies.Reply.TheVariants as reply
use Rattle.tm_base.specs.declared.kinds.Kind.{Kind}
use Rattle.tm_base.specs.declared.kinds.Kind.TheVariants as kind
use Rattle.tm_base.specs.declared.events.Entry.{Entry}
use Rattle.tm_base.specs.States.{KindState, State, MutexState, ThreadObjectState, start_state, queued, emptied, grant_of, halted}
use Rattle.tm_base.specs.TableRows.{Replies, Tests, Gives, Allows, queues}
use Rattle.tm_base.specs.Steps.{Step, row_of}
use Rattle.tm_base.specs.ThreadObject.{thread_row}
use Rattle.tm_base.specs.Machines.{ObjectView, IsInTurn}
use Rattle.tm_base.specs.Histories.{Label, HistoryState, Follows, IsHistory, Lawful, first_history_state, object_at}
use Rattle.tm_laws.specs.ThreadObjects.{has_ended, is_end}
use Rattle.tm_laws.proofs.TableRowLemmas.{of_parts, either}
use Rattle.tm_laws.proofs.Grants.{grant_all-from}
use Rattle.tm_laws.proofs.EndedThreadsLemmas.{end-made}
use Rattle.tm_laws.proofs.StartStateLemmas.{start-free}
use Rattle.tm_laws.proofs.RunsLemmas.{Leads-keeps, Leads-split}
use Rattle.tm_channels.specs.Joins.{IsJoined}

-- each thread of the queue is this one
abbrev AreAll : ℕ → List ℕ → Type 0
AreAll own [] = Unit {0}
AreAll own (x ∷ queue) = (x ≡ own) × AreAll own queue

AreAll-snoc : (own : ℕ) (queue : List ℕ) (t : ℕ) → AreAll own queue → t ≡ own → AreAll own (queue ++ t ∷ [])
AreAll-snoc own [] t all e = (e, tt)
AreAll-snoc own (x ∷ queue) t all e = (all.0, AreAll-snoc own queue t all.1 e)

-- who waits in `begin`
abbrev beginners : KindState → List ℕ
beginners (ThreadObjectState started begun ended beginning joiners) = beginning
beginners own = []

-- the own thread alone waits in `begin`, and where another one was granted `ok` it has ended
record Awaits (own : ℕ) (s : State) : Type 0 where
  pub begins : AreAll own (beginners s.kind_state)
  pub granted : (t : ℕ) → t ≢ own → grant_of s t ≡ Some reply.Ok → has_ended s.kind_state ≡ true

-- a row keeps what holds in the state that it names
kept : {own : ℕ} {r : Reply} {s' : State} (r0 : Reply) (next : State) → Awaits own next → Gives r s' r0 next → Awaits own s'
kept {own} r0 next a g = subst (Awaits own) (sym g.1) a

-- the rows
thread_row-awaits : (own : ℕ) (held started begun ended : Bool) (beginning joiners : List ℕ) (g : List (Option Reply)) (b : Bool) (t : ℕ) (o : Op) (r : Reply) (s' : State)
    → IsInTurn (kind.Thread own held) (ThreadObjectState started begun ended beginning joiners) t o → Awaits own (of_parts (ThreadObjectState started begun ended beginning joiners) g b)
    → Allows (thread_row own started begun ended beginning joiners t o) (of_parts (ThreadObjectState started begun ended beginning joiners) g b) r s' → Awaits own s'
thread_row-awaits own held true begun ended beginning joiners g b t op.Begin r s' turn a h = kept _ _ (record { begins = a.begins; granted = a.granted }) h
thread_row-awaits own held false begun ended beginning joiners g true t op.Begin r s' turn a h = kept _ _ (record { begins = a.begins; granted = a.granted }) h
thread_row-awaits own held false begun ended beginning joiners g false t op.Begin r s' turn a h =
    kept _ _ (record { begins = AreAll-snoc own beginning t a.begins turn.0; granted = a.granted }) h
thread_row-awaits own held true begun ended beginning joiners g b t op.Start r s' turn a h = kept _ _ a h
thread_row-awaits own held false begun ended (x ∷ beginning) joiners g b t op.Start r s' turn a h =
    kept _ _ (record { begins = a.begins.1; granted = λ u ne e. a.granted u ne (sym (get_or-set_other g x u (Some reply.Ok) None (λ f. ne (f ∙ a.begins.0))) ∙ e) }) h
thread_row-awaits own held false begun ended [] joiners g b t op.Start r s' turn a h = kept _ _ (record { begins = tt; granted = a.granted }) h
thread_row-awaits own held started begun true beginning joiners g b t op.Join r s' turn a h =
    either (own == t) (λ h. kept _ _ a h) (λ h. kept _ _ a h) h
thread_row-awaits own held started begun false beginning joiners g true t op.Join r s' turn a h =
    either (own == t) (λ h. kept _ _ a h) (λ h. kept _ _ a h) h
thread_row-awaits own held started begun false beginning joiners g false t op.Join r s' turn a h =
    either (own == t) (λ h. kept _ _ a h) (λ h. kept _ _ (record { begins = a.begins; granted = a.granted }) h) h
thread_row-awaits own held started begun ended beginning joiners g b t (op.End true) r s' turn a h =
    kept _ _ (record { begins = a.begins; granted = λ u ne e. refl }) h
thread_row-awaits own held started begun ended beginning joiners g b t (op.End false) r s' turn a h =
    kept _ _ (record { begins = a.begins; granted = λ u ne e. refl }) h
thread_row-awaits own held started begun ended beginning joiners g b t o r s' turn a h = elim h [ ]

Step-awaits : (n : ℕ) (held : Bool) (own : KindState) (g : List (Option Reply)) (b : Bool) (t : ℕ) (o : Op) (r : Reply) (s' : State)
    → IsInTurn (kind.Thread n held) own t o → Awaits n (of_parts own g b) → Step (kind.Thread n held) (of_parts own g b) t o r s' → Awaits n s'
Step-awaits n held (ThreadObjectState started begun ended beginning joiners) g b t o r s' turn a h = thread_row-awaits n held started begun ended beginning joiners g b t o r s' turn a h
Step-awaits n held own g b t o r s' turn a h = elim h [ ]

-- a reply that is granted after one was taken was granted before
taken-from : (g : List (Option Reply)) (t x : ℕ) (q : Reply) → slice_index_or (slice_set g t None) x None ≡ Some q → slice_index_or g x None ≡ Some q
taken-from g t x q h = ⊎_elim here (λ (ne : t ≡ x → ⊥). sym (get_or-set_other g t x None None (λ e. ne (sym e))) ∙ h) (cases_eq t x)
  where
    here : t ≡ x → slice_index_or g x None ≡ Some q
    here e =
        let same : slice_index_or (slice_set g t None) t None ≡ Some q = subst (λ (u : ℕ). slice_index_or (slice_set g t None) u None ≡ Some q) (sym e) h in
        ⊎_elim (λ (inside : t < length g). absurd (cc (get_or-set_same g t None None inside, same))) (λ (past : length g ≤ t). rw (set_past g t None past) at h) (cases_lt t (length g))

-- a stop leaves nobody in `begin`, and ends nothing
emptied-awaits : (n : ℕ) (own : KindState) → AreAll n (beginners (emptied own)) × (has_ended (emptied own) ≡ has_ended own)
emptied-awaits n (MutexState owner queue) = (tt, refl)
emptied-awaits n own = (tt, refl)

halted-awaits : (own : ℕ) (s : State) → Awaits own s → Awaits own (halted s)
halted-awaits own s a = record { begins = (emptied-awaits own s.kind_state).0; granted = λ u ne e. (emptied-awaits own s.kind_state).1 ∙ a.granted u ne (before u e) }
  where
    before : (u : ℕ) → grant_of (halted s) u ≡ Some reply.Ok → grant_of s u ≡ Some reply.Ok
    before u e = ⊎_elim (λ (f : reply.Ok ≡ reply.Stopped). absurd cc) (λ k. k) (grant_all-from (queued s.kind_state) reply.Stopped s.granted u reply.Ok e)

-- the object of a thread in this state
abbrev thread_at : ℕ → Bool → ℕ → State → ObjectView
thread_at own held threads s = record { kind = kind.Thread own held; threads = threads; state = s }

-- an event
Lawful-awaits : (own : ℕ) (held : Bool) (threads : ℕ) (s : State) (t : ℕ) (o : Op) (r : Reply) (s' : State)
    → Awaits own s → Lawful (thread_at own held threads s) t o r s' → Awaits own s'
Lawful-awaits own held threads s t op.Resume r s' a e =
    subst (Awaits own) (sym e.cleared) (record { begins = a.begins; granted = λ u ne g. a.granted u ne (taken-from s.granted t u reply.Ok g) })
Lawful-awaits own held threads s t op.Stop r s' a e = subst (Awaits own) (sym e.halted) (halted-awaits own s a)
Lawful-awaits own held threads s t o r s' a e = Step-awaits own held s.kind_state s.granted s.stopped t o r s' e.may.in_turn a e.step

start-awaits : (own : ℕ) (held : Bool) (threads : ℕ) → Awaits own (start_state (kind.Thread own held) threads)
start-awaits own held threads = record { begins = tt; granted = λ u ne e. absurd (cc (start-free (kind.Thread own held) threads u, ap is_some e)) }

-- a `join` is answered `ok` at once only where the thread has ended
joins_never : (own t : ℕ) (s s' : State) (next : KindState) {A : Type 0} → Allows (Tests (own == t) (Replies reply.Myself) (queues next)) s reply.Ok s' → A
joins_never own t s s' next h =
    either (own == t) (λ (g : Gives reply.Ok s' reply.Myself s). absurd (let e : reply.Ok ≡ reply.Myself = g.0 in cc))
    (λ g. either s.stopped (λ (g : Gives reply.Ok s' reply.Stopped s). absurd (let e : reply.Ok ≡ reply.Stopped = g.0 in cc)) (λ g. absurd (let e : reply.Ok ≡ reply.Wait = g.0 in cc)) g) h

Join-ended : (n : ℕ) (held : Bool) (own : KindState) (s : State) (t : ℕ) (s' : State) → Allows (row_of (kind.Thread n held) own t op.Join) s reply.Ok s' → has_ended own ≡ true
Join-ended n held (ThreadObjectState started begun true beginning joiners) s t s' h = refl
Join-ended n held (ThreadObjectState true begun false beginning joiners) s t s' h = joins_never n t s s' _ h
Join-ended n held (ThreadObjectState false begun false beginning joiners) s t s' h = joins_never n t s s' _ h
Join-ended n held own s t s' h = elim h [ ]

-- at each answer `ok` to a `join` the thread has ended
joined-ended : (own : ℕ) (held : Bool) (threads : ℕ) (s : State) (e : Entry) (s' : State) → Awaits own s → Lawful (thread_at own held threads s) e.thread e.op e.reply s' → IsJoined own e → has_ended s.kind_state ≡ true
joined-ended own held threads s e s' a lawful joined = ⊎_elim at_once later joined
  where
    at_once : (e.op ≡ op.Join) × (e.reply ≡ reply.Ok) → has_ended s.kind_state ≡ true
    at_once j =
        let call : Lawful (thread_at own held threads s) e.thread op.Join reply.Ok s' = rw (j.0, j.1) at lawful in
        Join-ended own held s.kind_state s e.thread s' call.step

    later : (e.op ≡ op.Resume) × (e.thread ≢ own) × (e.reply ≡ reply.Ok) → has_ended s.kind_state ≡ true
    later j =
        let resume : Lawful (thread_at own held threads s) e.thread op.Resume reply.Ok s' = rw (j.0, j.2) at lawful in
        a.granted e.thread j.1 resume.granted

-- before the event the thread has ended, and so one of the events before it is an end
module _ (l : Label) (own : ℕ) (held : Bool) (its : l.kind ≡ kind.Thread own held) where
  of_thread : (p : HistoryState) (t : ℕ) (o : Op) (r : Reply) (s' : State) → Lawful (object_at l p.state) t o r s' → Lawful (thread_at own held l.threads p.state) t o r s'
  of_thread p t o r s' lawful = subst (λ (k : Kind). Lawful (record { kind = k; threads = l.threads; state = p.state }) t o r s') its lawful

  history-awaits : (es : List Entry) (p : HistoryState) → IsHistory l es p → Awaits own p.state
  history-awaits es p run = Leads-keeps (Follows l) (λ (p : HistoryState). Awaits own p.state)
      (λ p e q a f. Lawful-awaits own held l.threads p.state e.thread e.op e.reply q.state a (of_thread p e.thread e.op e.reply q.state f.lawful)) es (first_history_state l) p
      (subst (λ (k : Kind). Awaits own (start_state k l.threads)) (sym its) (start-awaits own held l.threads)) run

  before-end : (prefix back : List Entry) (e : Entry) (p : HistoryState) → IsHistory l (prefix ++ e ∷ back) p → IsJoined own e → (a : Entry) × Contains prefix a × (is_end a.op ≡ true)
  before-end prefix back e p run joined =
      let parts = Leads-split (Follows l) prefix (e ∷ back) (first_history_state l) p run in
      let event = parts.2.1 in
      let ended : has_ended parts.0.state.kind_state ≡ true =
      joined-ended own held l.threads parts.0.state e parts.2.0.state (history-awaits prefix parts.0 parts.1) (of_thread parts.0 e.thread e.op e.reply parts.2.0.state event.lawful) joined in
      end-made l prefix parts.0 parts.1 ended

  pub joins-after : (es : List Entry) (p : HistoryState) → IsHistory l es p → (prefix back : List Entry) (e : Entry) → es ≡ prefix ++ e ∷ back → IsJoined own e → (a : Entry) × Contains prefix a × (is_end a.op ≡ true)
  joins-after es p run prefix back e parts joined = before-end prefix back e p (subst (λ (xs : List Entry). IsHistory l xs p) parts run) joined

  pub granted-after : (es : List Entry) (p : HistoryState) (t : ℕ) → IsHistory l es p → t ≢ own → grant_of p.state t ≡ Some reply.Ok → (a : Entry) × Contains es a × (is_end a.op ≡ true)
  granted-after es p t run ne had = end-made l es p run ((history-awaits es p run).granted t ne had)
