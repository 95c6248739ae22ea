-- The last party to arrive at a barrier.
use Rattle.std.proofs.Common.{◌≡◌, ℕ, zero, suc, ◌+◌, ◌<◌, ◌≤◌, ◌==◌, Bool, true, false, ◌⊎◌, inl, inr, ⊎_elim, List, [], ◌∷◌, length, Option, Some, None, is_some, slice_index_or, slice_set, refl, ap, sym, ◌∙◌, subst, arith, eq-eqb, length-set, get_or-set_same, get_or-set_other}
use Rattle.std.proofs.lemmas.Bool.{cases_eq, false_from_ne_true, eqb-true, or_cases, or_left, or_right}
use Rattle.tm_base.specs.declared.operations.Op.{Op}
use Rattle.tm_base.specs.declared.operations.Op.TheVariants as op
use Rattle.tm_base.specs.declared.replies.Reply.{Reply}
use Rattle.tm_base.specs.declared.replies.Reply.TheVariants as reply
use Rattle.tm_base.specs.declared.kinds.Kind.{Kind}
use Rattle.tm_base.specs.declared.kinds.Kind.TheVariants as kind
use Rattle.tm_base.specs.declared.events.Entry.{Entry}
use Rattle.tm_base.specs.States.{KindState, State, BarrierState, queued, is_queued, is_waiting, grant_of, grant_all}
use Rattle.tm_base.specs.Steps.{Step}
use Rattle.tm_base.specs.Machines.{ObjectView}
use Rattle.tm_base.specs.Histories.{Label, HistoryState, Follows, IsHistory, Lawful, object_at}
use Rattle.tm_laws.specs.Counts.{bit}
use Rattle.tm_laws.specs.Tidy.{IsTidy}
use Rattle.tm_laws.specs.Waiters.{waiting_to}
use Rattle.tm_laws.proofs.Counting.{bit_small}
use Rattle.tm_laws.proofs.TableRowLemmas.{of_parts, either}
use Rattle.tm_laws.proofs.Reaching.{history-sound}
use Rattle.tm_laws.proofs.WaitersLemmas.{length-queued, waiting-known, waiting-ungranted}
use Rattle.tm_locks.proofs.RowChoices.{by_test}
use Rattle.tm_locks.proofs.ServedWaiters.{served-by_step, ungranted}
use Rattle.tm_locks.specs.Opening.{Opens}

-- each thread of the list has the reply after one for each of them, and so has one that had it before
pub grant_all-at : (ts : List ℕ) (r : Reply) (g : List (Option Reply)) (t : ℕ) → ((x : ℕ) → is_queued ts x ≡ true → x < length g)
    → (is_queued ts t ≡ true) ⊎ (slice_index_or g t None ≡ Some r) → slice_index_or (grant_all ts r g) t None ≡ Some r
grant_all-at [] r g t inside has = ⊎_elim (λ (none : false ≡ true). absurd cc) (λ e. e) has
grant_all-at (x ∷ ts) r g t inside has = grant_all-at ts r (slice_set g x (Some r)) t rest (⊎_elim now before (cases_eq x t))
  where
    place : x < length g
    place = inside x (or_left (x == x) (is_queued ts x) (eq-eqb x x refl))

    rest : (y : ℕ) → is_queued ts y ≡ true → y < length (slice_set g x (Some r))
    rest y h = subst (λ (n : ℕ). y < n) (sym (length-set g x (Some r))) (inside y (or_right (x == y) (is_queued ts y) h))

    now : x ≡ t → (is_queued ts t ≡ true) ⊎ (slice_index_or (slice_set g x (Some r)) t None ≡ Some r)
    now e = inr (subst (λ (u : ℕ). slice_index_or (slice_set g x (Some r)) u None ≡ Some r) e (get_or-set_same g x (Some r) None place))

    before : (x ≡ t → ⊥) → (is_queued ts t ≡ true) ⊎ (slice_index_or (slice_set g x (Some r)) t None ≡ Some r)
    before ne = ⊎_elim
        (λ (q : is_queued (x ∷ ts) t ≡ true). ⊎_elim (λ (same : (x == t) ≡ true). absurd (ne (eqb-true x t same))) (λ k. inl k) (or_cases _ _ q))
        (λ (k : slice_index_or g t None ≡ Some r). inr (get_or-set_other g x t (Some r) None (λ e. ne (sym e)) ∙ k)) has

-- an `arrive` that is answered `last` empties the queue, and grants `ok` to all in it
Arrive-opens : (parties : ℕ) (own : KindState) (g : List (Option Reply)) (b : Bool) (t : ℕ) (s' : State)
    → Step (kind.Barrier parties) (of_parts own g b) t op.Arrive reply.Last s'
    → (length (queued own) + 1 ≡ parties) × (s'.granted ≡ grant_all (queued own) reply.Ok g) × (queued s'.kind_state ≡ [])
Arrive-opens parties (BarrierState queue) g b t s' h =
    by_test (length queue + 1 == parties)
    (λ all g. (eqb-true (length queue + 1) parties all, ap (λ s. s.granted) g.1, ap (λ s. queued s.kind_state) g.1))
    (λ _ g. either b (λ g. absurd (let e : reply.Last ≡ reply.Stopped = g.0 in cc)) (λ g. absurd (let e : reply.Last ≡ reply.Wait = g.0 in cc)) g) h
Arrive-opens parties own g b t s' h = elim h [ ]

-- a barrier makes no other steps, and a step that isn't answered so grants nothing
Step-arrives : (parties : ℕ) (own : KindState) (g : List (Option Reply)) (b : Bool) (t : ℕ) (o : Op) (r : Reply) (s' : State) → Step (kind.Barrier parties) (of_parts own g b) t o r s' → o ≡ op.Arrive
Step-arrives parties (BarrierState queue) g b t op.Arrive r s' h = refl
Step-arrives parties (BarrierState queue) g b t o r s' h = elim h [ ]
Step-arrives parties own g b t o r s' h = elim h [ ]

Arrive-last : (parties : ℕ) (own : KindState) (g : List (Option Reply)) (b : Bool) (t u : ℕ) (r : Reply) (s' : State) → slice_index_or g u None ≡ None → grant_of s' u ≡ Some reply.Ok
    → Step (kind.Barrier parties) (of_parts own g b) t op.Arrive r s' → r ≡ reply.Last
Arrive-last parties (BarrierState queue) g b t u r s' none had h =
    either (length queue + 1 == parties) (λ k. k.0) (λ k. either b (λ k. ungranted g u s' _ none refl had k.1) (λ k. ungranted g u s' _ none refl had k.1) k) h
Arrive-last parties own g b t u r s' none had h = elim h [ ]

-- where one of the threads doesn't wait, fewer wait than there are
waiting_to-few : (s : State) (n : ℕ) → waiting_to s n ≤ n
waiting_to-few s zero = omega arith
waiting_to-few s (suc n) = omega (arith, waiting_to-few s n, bit_small (is_waiting s (suc n)))

waiting_to-less : (s : State) (t n : ℕ) → is_waiting s t ≡ false → 1 ≤ t → t ≤ n → waiting_to s n + 1 ≤ n
waiting_to-less s t zero free low high = absurd (omega arith)
waiting_to-less s t (suc n) free low high = ⊎_elim
    (λ (e : t ≡ suc n). omega (arith, waiting_to-few s n, ap bit (subst (λ (u : ℕ). is_waiting s u ≡ false) e free)))
    (λ (ne : t ≡ suc n → ⊥). omega (arith, waiting_to-less s t n free low (omega arith), bit_small (is_waiting s (suc n)))) (cases_eq t (suc n))

-- a barrier in this state
abbrev barrier_at : ℕ → ℕ → State → ObjectView
barrier_at parties threads s = record { kind = kind.Barrier parties; threads = threads; state = s }

-- only an `arrive` is answered `last`
Lawful-last : (parties threads : ℕ) (s : State) (t : ℕ) (o : Op) (s' : State) → IsTidy threads s → Lawful (barrier_at parties threads s) t o reply.Last s' → o ≡ op.Arrive
Lawful-last parties threads s t op.Resume s' tidy e = absurd (let no : false ≡ true = tidy.final t reply.Last e.granted in cc)
Lawful-last parties threads s t op.Stop s' tidy e = absurd (let no : reply.Last ≡ reply.Ok = e.reply in cc)
Lawful-last parties threads s t o s' tidy e = Step-arrives parties s.kind_state s.granted s.stopped t o reply.Last s' e.step

of_barrier : (l : Label) (parties : ℕ) → l.kind ≡ kind.Barrier parties → (s : State) (t : ℕ) (o : Op) (r : Reply) (s' : State) → Lawful (object_at l s) t o r s' → Lawful (barrier_at parties l.threads s) t o r s'
of_barrier l parties its s t o r s' lawful = subst (λ (k : Kind). Lawful (record { kind = k; threads = l.threads; state = s }) t o r s') its lawful

pub history-opens : (l : Label) (parties : ℕ) → l.kind ≡ kind.Barrier parties → (es : List Entry) (p q : HistoryState) (e : Entry)
    → IsHistory l es p → Follows l p e q → e.op ≡ op.Arrive → e.reply ≡ reply.Last → Opens parties l.threads p.state q.state
history-opens l parties its es p q e run f o r =
    let call : Lawful (barrier_at parties l.threads p.state) e.thread op.Arrive reply.Last q.state = rw (o, r) at (of_barrier l parties its p.state e.thread e.op e.reply q.state f.lawful) in
    let opens = Arrive-opens parties p.state.kind_state p.state.granted p.state.stopped e.thread q.state call.step in
    let tidy = (history-sound l es p run).tidy in
    let inside : (x : ℕ) → is_waiting p.state x ≡ true → x < length p.state.granted =
    λ x h. let known : (1 ≤ x) × (x ≤ l.threads) = waiting-known l.threads p.state tidy x h in omega (arith, known.1, tidy.long) in
    record {
      waited = omega (arith, opens.0, length-queued l.threads p.state tidy);
      granted = λ t h. ap (λ g. slice_index_or g t None) opens.1 ∙ grant_all-at (queued p.state.kind_state) reply.Ok p.state.granted t inside (inl h);
      closed = opens.2;
    }

pub history-lets_go : (l : Label) (parties : ℕ) → l.kind ≡ kind.Barrier parties → (es : List Entry) (p q : HistoryState) (e : Entry) (t : ℕ)
    → IsHistory l es p → Follows l p e q → is_waiting p.state t ≡ true → grant_of q.state t ≡ Some reply.Ok → (e.op ≡ op.Arrive) × (e.reply ≡ reply.Last)
history-lets_go l parties its es p q e t run f waits had =
    let tidy = (history-sound l es p run).tidy in
    let step = served-by_step (kind.Barrier parties) l.threads p.state e.thread t e.op e.reply q.state tidy waits had (of_barrier l parties its p.state e.thread e.op e.reply q.state f.lawful) in
    let arrives : e.op ≡ op.Arrive = Step-arrives parties p.state.kind_state p.state.granted p.state.stopped e.thread e.op e.reply q.state step in
    let arrive : Step (kind.Barrier parties) p.state e.thread op.Arrive e.reply q.state = subst (λ (o : Op). Step (kind.Barrier parties) p.state e.thread o e.reply q.state) arrives step in
    (arrives, Arrive-last parties p.state.kind_state p.state.granted p.state.stopped e.thread t e.reply q.state (waiting-ungranted l.threads p.state tidy t waits) had arrive)

-- who arrives last didn't wait, so that with those that waited there are as many threads as parties
pub history-parties : (l : Label) (parties : ℕ) → l.kind ≡ kind.Barrier parties → (es : List Entry) (p q : HistoryState) (e : Entry)
    → IsHistory l es p → Follows l p e q → e.reply ≡ reply.Last → parties ≤ l.threads
history-parties l parties its es p q e run f r =
    let tidy = (history-sound l es p run).tidy in
    let last : Lawful (barrier_at parties l.threads p.state) e.thread e.op reply.Last q.state = rw r at (of_barrier l parties its p.state e.thread e.op e.reply q.state f.lawful) in
    let arrives : e.op ≡ op.Arrive = Lawful-last parties l.threads p.state e.thread e.op q.state tidy last in
    let call : Lawful (barrier_at parties l.threads p.state) e.thread op.Arrive reply.Last q.state = rw arrives at last in
    let opens = history-opens l parties its es p q e run f arrives r in
    let free : is_waiting p.state e.thread ≡ false = false_from_ne_true (is_waiting p.state e.thread) (λ h. cc (or_left (is_waiting p.state e.thread) (is_some (grant_of p.state e.thread)) h, call.may.free)) in
    omega (arith, opens.waited, waiting_to-less p.state e.thread l.threads free call.may.program call.may.known)
