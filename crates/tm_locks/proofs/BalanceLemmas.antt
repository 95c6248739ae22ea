-- What one event does to the value of a semaphore, and what a whole history does.
use Rattle.std.proofs.Common.{◌≡◌, ℕ, ◌+◌, ◌<◌, ◌≤◌, ◌==◌, ◌||◌, nat_lt, Bool, true, ⊎_elim, cond, List, [], ◌∷◌, length, Option, Some, None, slice_index_or, slice_set, refl, ap, sym, ◌∙◌, subst, arith, ltb-true, eq-eqb, get_or-set_same, get_or-set_other}
use Rattle.std.proofs.lemmas.Bool.{cases_eq, eqb-false}
use Rattle.std.proofs.lemmas.List.Sums.{sum_by-cons}
use Rattle.tm_base.specs.declared.operations.Op.{Op}
use Rattle.tm_base.specs.declared.operations.Op.TheVariants as op
use Rattle.tm_base.specs.declared.replies.Reply.{Reply}
use Rattle.tm_base.specs.declared.replies.Reply.TheVariants as reply
use Rattle.tm_base.specs.declared.kinds.Kind.{Kind}
use Rattle.tm_base.specs.declared.kinds.Kind.TheVariants as kind
use Rattle.tm_base.specs.declared.events.Entry.{Entry}
use Rattle.tm_base.specs.declared.limits.TheConstants.{GREATEST_SEMAPHORE_VALUE}
use Rattle.tm_base.specs.States.{KindState, State, MutexState, SemState, queued, is_queued, grant_of, emptied, start_kind_state}
use Rattle.tm_base.specs.TableRows.{Allows, Gives}
use Rattle.tm_base.specs.Steps.{Step}
use Rattle.tm_base.specs.Semaphore.{sem_row}
use Rattle.tm_base.specs.Machines.{ObjectView}
use Rattle.tm_base.specs.Runs.{Leads}
use Rattle.tm_base.specs.Histories.{Label, HistoryState, Follows, IsHistory, Lawful, first_history_state, object_at}
use Rattle.tm_laws.proofs.TableRowLemmas.{of_parts, either}
use Rattle.tm_laws.proofs.RunsLemmas.{Leads-keeps}
use Rattle.tm_laws.proofs.Reaching.{history-sound}
use Rattle.tm_laws.proofs.WaitersLemmas.{waiting-known, waiting-ungranted}
use Rattle.tm_locks.proofs.RowChoices.{by_test}
use Rattle.tm_locks.proofs.ServedWaiters.{served-by_step, ungranted}
use Rattle.tm_locks.specs.Balance.{IsServed, value_of, completes_v, completes_p, completed_vs, completed_ps}

-- one more where the test passes
abbrev one_if : Bool → ℕ
one_if b = cond b 1 0

-- what an event does to the value
record Weighs (old : KindState) (o : Op) (r : Reply) (new : KindState) : Type 0 where
  pub balance : value_of new + one_if (completes_p o r) ≡ value_of old + one_if (completes_v o r)
  pub small : value_of old ≤ GREATEST_SEMAPHORE_VALUE → value_of new ≤ GREATEST_SEMAPHORE_VALUE

given : {old : KindState} {o : Op} {r : Reply} {s' : State} (answer : Reply) (next : State) → Weighs old o answer next.kind_state → Gives r s' answer next → Weighs old o r s'.kind_state
given {old} {o} {r} answer next w g = subst (λ (q : State). Weighs old o r q.kind_state) (sym g.1) (subst (λ (a : Reply). Weighs old o a next.kind_state) (sym g.0) w)

-- the rows
sem_row-weighs : (value : ℕ) (queue : List ℕ) (g : List (Option Reply)) (b : Bool) (t : ℕ) (o : Op) (r : Reply) (s' : State)
    → Allows (sem_row value queue t o) (of_parts (SemState value queue) g b) r s' → Weighs (SemState value queue) o r s'.kind_state
sem_row-weighs value queue g b t op.P r s' h =
    by_test (nat_lt 0 value) (λ some g. given _ _ (record { balance = omega (arith, ltb-true 0 value some); small = λ k. omega arith }) g)
    (λ _ g. either b (λ g. given _ _ (record { balance = refl; small = λ k. k }) g) (λ g. given _ _ (record { balance = refl; small = λ k. k }) g) g) h
sem_row-weighs value queue g b t op.TryP r s' h =
    by_test (nat_lt 0 value) (λ some g. given _ _ (record { balance = omega (arith, ltb-true 0 value some); small = λ k. omega arith }) g)
    (λ _ g. given _ _ (record { balance = refl; small = λ k. k }) g) h
sem_row-weighs value (w ∷ queue) g b t op.V r s' h = given _ _ (record { balance = refl; small = λ k. k }) h
sem_row-weighs value [] g b t op.V r s' h =
    by_test (value == GREATEST_SEMAPHORE_VALUE) (λ _ g. given _ _ (record { balance = refl; small = λ k. k }) g)
    (λ less g. given _ _ (record { balance = omega arith; small = λ k. omega (arith, eqb-false value GREATEST_SEMAPHORE_VALUE less) }) g) h
sem_row-weighs value queue g b t o r s' h = elim h [ ]

Step-weighs : (start : ℕ) (own : KindState) (g : List (Option Reply)) (b : Bool) (t : ℕ) (o : Op) (r : Reply) (s' : State)
    → Step (kind.Sem start) (of_parts own g b) t o r s' → Weighs own o r s'.kind_state
Step-weighs start (SemState value queue) g b t o r s' h = sem_row-weighs value queue g b t o r s' h
Step-weighs start own g b t o r s' h = elim h [ ]

-- a V that is answered `gave` serves the head of the queue
first-queued : (t : ℕ) (queue : List ℕ) → is_queued (t ∷ queue) t ≡ true
first-queued t queue = ap (λ b. b || is_queued queue t) (eq-eqb t t refl)

V-serves : (start : ℕ) (own : KindState) (g : List (Option Reply)) (b : Bool) (t heir : ℕ) (s' : State)
    → Step (kind.Sem start) (of_parts own g b) t op.V (reply.Gave heir) s' → (is_queued (queued own) heir ≡ true) × (heir < length g → grant_of s' heir ≡ Some reply.Ok)
V-serves start (SemState value (w ∷ queue)) g b t heir s' h =
    let same : heir ≡ w = let e : reply.Gave heir ≡ reply.Gave w = h.0 in cc in (
      subst (λ (x : ℕ). is_queued (w ∷ queue) x ≡ true) (sym same) (first-queued w queue),
      λ inside. rw (h.1, same) (get_or-set_same g w (Some reply.Ok) None (subst (λ (x : ℕ). x < length g) same inside)),
    )
V-serves start (SemState value []) g b t heir s' h =
    either (value == GREATEST_SEMAPHORE_VALUE) (λ g. absurd (let e : reply.Gave heir ≡ reply.Full = g.0 in cc)) (λ g. absurd (let e : reply.Gave heir ≡ reply.Ok = g.0 in cc)) h
V-serves start own g b t heir s' h = elim h [ ]

-- and nothing but such a V grants `ok` to a thread that was granted nothing
sem_row-serves : (value : ℕ) (queue : List ℕ) (g : List (Option Reply)) (b : Bool) (t u : ℕ) (o : Op) (r : Reply) (s' : State) → slice_index_or g u None ≡ None → grant_of s' u ≡ Some reply.Ok
    → Allows (sem_row value queue t o) (of_parts (SemState value queue) g b) r s' → (o ≡ op.V) × (r ≡ reply.Gave u)
sem_row-serves value queue g b t u op.P r s' none had h =
    either (nat_lt 0 value) (λ k. ungranted g u s' _ none refl had k.1) (λ k. either b (λ k. ungranted g u s' _ none refl had k.1) (λ k. ungranted g u s' _ none refl had k.1) k) h
sem_row-serves value queue g b t u op.TryP r s' none had h =
    either (nat_lt 0 value) (λ k. ungranted g u s' _ none refl had k.1) (λ k. ungranted g u s' _ none refl had k.1) h
sem_row-serves value (w ∷ queue) g b t u op.V r s' none had h = ⊎_elim
    (λ (same : w ≡ u). (refl, h.0 ∙ ap (λ (x : ℕ). reply.Gave x) same))
    (λ (ne : w ≡ u → ⊥). ungranted (slice_set g w (Some reply.Ok)) u s' _ (get_or-set_other g w u (Some reply.Ok) None (λ e. ne (sym e)) ∙ none) refl had h.1) (cases_eq w u)
sem_row-serves value [] g b t u op.V r s' none had h =
    either (value == GREATEST_SEMAPHORE_VALUE) (λ k. ungranted g u s' _ none refl had k.1) (λ k. ungranted g u s' _ none refl had k.1) h
sem_row-serves value queue g b t u o r s' none had h = elim h [ ]

Step-serves : (start : ℕ) (own : KindState) (g : List (Option Reply)) (b : Bool) (t u : ℕ) (o : Op) (r : Reply) (s' : State) → slice_index_or g u None ≡ None → grant_of s' u ≡ Some reply.Ok
    → Step (kind.Sem start) (of_parts own g b) t o r s' → (o ≡ op.V) × (r ≡ reply.Gave u)
Step-serves start (SemState value queue) g b t u o r s' none had h = sem_row-serves value queue g b t u o r s' none had h
Step-serves start own g b t u o r s' none had h = elim h [ ]

emptied-value : (own : KindState) → value_of (emptied own) ≡ value_of own
emptied-value (MutexState owner queue) = refl
emptied-value own = refl

-- a semaphore in this state
abbrev sem_at : ℕ → ℕ → State → ObjectView
sem_at start threads s = record { kind = kind.Sem start; threads = threads; state = s }

Lawful-weighs : (start threads : ℕ) (s : State) (t : ℕ) (o : Op) (r : Reply) (s' : State) → Lawful (sem_at start threads s) t o r s' → Weighs s.kind_state o r s'.kind_state
Lawful-weighs start threads s t op.Resume r s' e =
    subst (λ (q : State). Weighs s.kind_state op.Resume r q.kind_state) (sym e.cleared) (record { balance = refl; small = λ k. k })
Lawful-weighs start threads s t op.Stop r s' e =
    let same : value_of (emptied s.kind_state) ≡ value_of s.kind_state = emptied-value s.kind_state in
    subst (λ (q : State). Weighs s.kind_state op.Stop r q.kind_state) (sym e.halted) (record { balance = omega arith; small = λ k. omega arith })
Lawful-weighs start threads s t o r s' e = Step-weighs start s.kind_state s.granted s.stopped t o r s' e.step

module _ (l : Label) (start : ℕ) (its : l.kind ≡ kind.Sem start) where
  as_sem : (s : State) (t : ℕ) (o : Op) (r : Reply) (s' : State) → Lawful (object_at l s) t o r s' → Lawful (sem_at start l.threads s) t o r s'
  as_sem s t o r s' lawful = subst (λ (k : Kind). Lawful (record { kind = k; threads = l.threads; state = s }) t o r s') its lawful

  Follows-weighs : (p : HistoryState) (e : Entry) (q : HistoryState) → Follows l p e q → Weighs p.state.kind_state e.op e.reply q.state.kind_state
  Follows-weighs p e q f = Lawful-weighs start l.threads p.state e.thread e.op e.reply q.state (as_sem p.state e.thread e.op e.reply q.state f.lawful)

  Leads-balance : (es : List Entry) (p q : HistoryState) → Leads (Follows l) p es q → value_of q.state.kind_state + completed_ps es ≡ value_of p.state.kind_state + completed_vs es
  Leads-balance [] p q run = ap (λ (x : HistoryState). value_of x.state.kind_state + 0) run
  Leads-balance (e ∷ es) p q run =
      omega (
        arith,
        (Follows-weighs p e run.0 run.1).balance,
        Leads-balance es run.0 q run.2,
        sum_by-cons (λ (x : Entry). cond (completes_p x.op x.reply) 1 0) e es,
        sum_by-cons (λ (x : Entry). cond (completes_v x.op x.reply) 1 0) e es,
      )

  starts : value_of (start_kind_state l.kind) ≡ start
  starts = ap (λ k. value_of (start_kind_state k)) its

  pub history-balance : (es : List Entry) (p : HistoryState) → IsHistory l es p → value_of p.state.kind_state + completed_ps es ≡ start + completed_vs es
  history-balance es p run = omega (arith, Leads-balance es (first_history_state l) p run, starts)

  pub history-small : (es : List Entry) (p : HistoryState) → IsHistory l es p → start ≤ GREATEST_SEMAPHORE_VALUE → value_of p.state.kind_state ≤ GREATEST_SEMAPHORE_VALUE
  history-small es p run small =
      Leads-keeps (Follows l) (λ (p : HistoryState). value_of p.state.kind_state ≤ GREATEST_SEMAPHORE_VALUE) (λ p e q k f. (Follows-weighs p e q f).small k) es (first_history_state l) p
      (subst (λ (n : ℕ). n ≤ GREATEST_SEMAPHORE_VALUE) (sym starts) small) run

  pub history-served : (es : List Entry) (p q : HistoryState) (e : Entry) (t : ℕ) → IsHistory l es p → Follows l p e q → IsServed t p.state q.state → (e.op ≡ op.V) × (e.reply ≡ reply.Gave t)
  history-served es p q e t run f served =
      let tidy = (history-sound l es p run).tidy in
      let step = served-by_step (kind.Sem start) l.threads p.state e.thread t e.op e.reply q.state tidy served.waited served.granted (as_sem p.state e.thread e.op e.reply q.state f.lawful) in
      Step-serves start p.state.kind_state p.state.granted p.state.stopped e.thread t e.op e.reply q.state (waiting-ungranted l.threads p.state tidy t served.waited) served.granted step

  pub history-serves : (es : List Entry) (p q : HistoryState) (e : Entry) (heir : ℕ) → IsHistory l es p → Follows l p e q → e.op ≡ op.V → e.reply ≡ reply.Gave heir → IsServed heir p.state q.state
  history-serves es p q e heir run f o r =
      let call : Lawful (sem_at start l.threads p.state) e.thread op.V (reply.Gave heir) q.state = rw (o, r) at (as_sem p.state e.thread e.op e.reply q.state f.lawful) in
      let serves = V-serves start p.state.kind_state p.state.granted p.state.stopped e.thread heir q.state call.step in
      let tidy = (history-sound l es p run).tidy in
      let known : (1 ≤ heir) × (heir ≤ l.threads) = waiting-known l.threads p.state tidy heir serves.0 in
      record { waited = serves.0; granted = serves.1 (omega (arith, known.1, tidy.long)) }
