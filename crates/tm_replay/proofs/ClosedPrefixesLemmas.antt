-- The first events of a joint run are closed under happened-before.
use Rattle.std.proofs.Common.{◌≡◌, ℕ, zero, suc, ◌<◌, ◌≤◌, true, ◌==◌, ◌&&◌, ◌⊎◌, ⊎_elim, List, [], ◌∷◌, ◌++◌, Contains, Some, slice_get, slice_set, refl, ap, sym, ◌∙◌, subst, arith}
use Rattle.std.proofs.lemmas.Bool.{and_parts, or_cases, eqb-true}
use Rattle.std.proofs.lemmas.List.{append_assoc}
use Rattle.std.proofs.lemmas.List.Elements.{Contains-append_left, Contains-append_cases}
use Rattle.std.proofs.lemmas.Option.{slice_get_within}
use Rattle.tm_base.specs.declared.events.Entry.{Entry}
use Rattle.tm_base.specs.Orders.{IsDirect, IsChain, StandsOnce, IsClosed}
use Rattle.tm_base.specs.Runs.{Leads}
use Rattle.tm_laws.proofs.RunsLemmas.{Leads-split}
use Rattle.tm_text.specs.Exercises.{ExerciseView}
use Rattle.tm_replay.specs.JointStates.{JointState, ThreadState, ObjectState, start}
use Rattle.tm_replay.specs.JointSteps.{JointStep, IsJointRun, stepped, entered}
use Rattle.tm_replay.proofs.SliceLemmas.{slice_get-set_kept, slice_get-set_same, Contains-first, Contains-parts, Contains-at}

-- a bound that each step keeps, and that its own items are above, is below all own items of a run
module _ {S E : Type 0} (step : S → E → S → Type 0) (IsBelow : S → Type 0) (IsOwn : E → Type 0) (IsMore : E → Type 0)
    (on : (p : S) (e : E) (q : S) → IsBelow p → step p e q → IsBelow q × (IsOwn e → IsMore e)) where
  later-more : (es : List E) (p q : S) → IsBelow p → Leads step p es q → (e : E) → Contains es e → IsOwn e → IsMore e
  later-more [] p q below run e within own = absurd (omega (arith, within.1))
  later-more (f ∷ es) p q below run e within own =
      let here = on p f run.0 below run.1 in
      ⊎_elim (λ (same : e ≡ f). subst IsMore (sym same) (here.1 (subst IsOwn same own)))
      (λ (after : Contains es e). later-more es run.0 q here.0 run.2 e after own)
      (Contains-first f es e within)

module _ (x : ExerciseView) where
  -- the next event of the thread has a greater place
  abbrev ThreadPast : ℕ → ℕ → JointState → Type 0
  ThreadPast t n j = (s : ThreadState) × (slice_get j.threads t ≡ Some s) × (n < s.next)

  thread-on : (t n : ℕ) (j : JointState) (e : Entry) (k : JointState) → ThreadPast t n j → JointStep x j e k → ThreadPast t n k × (e.thread ≡ t → n < e.place)
  thread-on t n j e k past step = (next, more)
    where
      more : e.thread ≡ t → n < e.place
      more same =
          let found : slice_get j.threads t ≡ Some step.happens.thread_state = subst (λ (i : ℕ). slice_get j.threads i ≡ Some step.happens.thread_state) same step.happens.thread in
          let one : step.happens.thread_state ≡ past.0 = cc (found, past.1) in
          let numbers : step.happens.thread_state.next ≡ past.0.next = ap (λ (s : ThreadState). s.next) one in
          omega (arith, step.happens.place, numbers, past.2)

      at_next : (s : ThreadState) → n < s.next → slice_get (slice_set j.threads e.thread (stepped step.happens.thread_state e)) t ≡ Some s → ThreadPast t n k
      at_next s h found = (s, subst (λ (l : List ThreadState). slice_get l t ≡ Some s) (sym step.happens.threads) found, h)

      next : ThreadPast t n k
      next = ⊎_elim
          (λ same.
          let greater = more (sym same.0) in
          at_next (stepped step.happens.thread_state e) (omega (arith, greater)) same.1)
          (λ other. at_next past.0 past.2 other)
          (slice_get-set_kept j.threads e.thread t (stepped step.happens.thread_state e) past.0 past.1)

  -- the object has come as far as this place
  abbrev ObjectPast : ℕ → ℕ → JointState → Type 0
  ObjectPast o n j = (b : ObjectState) × (slice_get j.objects o ≡ Some b) × (n ≤ b.at)

  object-on : (o n : ℕ) (j : JointState) (e : Entry) (k : JointState) → ObjectPast o n j → JointStep x j e k → ObjectPast o n k × (e.object ≡ o → n < e.at)
  object-on o n j e k past step = (next, more)
    where
      more : e.object ≡ o → n < e.at
      more same =
          let found : slice_get j.objects o ≡ Some step.happens.object_state = subst (λ (i : ℕ). slice_get j.objects i ≡ Some step.happens.object_state) same step.happens.object in
          let one : step.happens.object_state ≡ past.0 = cc (found, past.1) in
          let numbers : step.happens.object_state.at ≡ past.0.at = ap (λ (b : ObjectState). b.at) one in
          omega (arith, step.happens.at, numbers, past.2)

      at_next : (b : ObjectState) → n ≤ b.at → slice_get (slice_set j.objects e.object (entered step.happens.object_state e step.happens.state)) o ≡ Some b → ObjectPast o n k
      at_next b h found = (b, subst (λ (l : List ObjectState). slice_get l o ≡ Some b) (sym step.happens.objects) found, h)

      next : ObjectPast o n k
      next = ⊎_elim
          (λ same.
          let greater = more (sym same.0) in
          at_next (entered step.happens.object_state e step.happens.state) (omega (arith, greater)) same.1)
          (λ other. at_next past.0 past.2 other)
          (slice_get-set_kept j.objects e.object o (entered step.happens.object_state e step.happens.state) past.0 past.1)

  -- after an event come greater places in its thread, and greater ones in its object
  later-places : (j : JointState) (b : Entry) (k : JointState) → JointStep x j b k → (es : List Entry) (m : JointState) → Leads (JointStep x) k es m
      → (a : Entry) → Contains es a → a.thread ≡ b.thread → b.place < a.place
  later-places j b k step es m run a within same =
      let s : ThreadState = stepped step.happens.thread_state b in
      let found : slice_get (slice_set j.threads b.thread s) b.thread ≡ Some s = slice_get-set_same j.threads b.thread s (slice_get_within j.threads b.thread step.happens.thread_state step.happens.thread) in
      let past : ThreadPast b.thread b.place k = (s, subst (λ (l : List ThreadState). slice_get l b.thread ≡ Some s) (sym step.happens.threads) found, omega arith) in
      later-more (JointStep x) (ThreadPast b.thread b.place) (λ (e : Entry). e.thread ≡ b.thread) (λ (e : Entry). b.place < e.place)
      (thread-on b.thread b.place) es k m past run a within same

  later-ats : (j : JointState) (b : Entry) (k : JointState) → JointStep x j b k → (es : List Entry) (m : JointState) → Leads (JointStep x) k es m
      → (a : Entry) → Contains es a → a.object ≡ b.object → b.at < a.at
  later-ats j b k step es m run a within same =
      let c : ObjectState = entered step.happens.object_state b step.happens.state in
      let found : slice_get (slice_set j.objects b.object c) b.object ≡ Some c = slice_get-set_same j.objects b.object c (slice_get_within j.objects b.object step.happens.object_state step.happens.object) in
      let past : ObjectPast b.object b.at k = (c, subst (λ (l : List ObjectState). slice_get l b.object ≡ Some c) (sym step.happens.objects) found, omega arith) in
      later-more (JointStep x) (ObjectPast b.object b.at) (λ (e : Entry). e.object ≡ b.object) (λ (e : Entry). b.at < e.at)
      (object-on b.object b.at) es k m past run a within same

  -- an event doesn't come once more after it
  again : (j : JointState) (f : Entry) (k : JointState) → JointStep x j f k → (es : List Entry) (m : JointState) → Leads (JointStep x) k es m
      → (e : Entry) (i : ℕ) → Some f ≡ Some e → slice_get es i ≡ Some e → ⊥
  again j f k step es m run e i first second =
      let same : f ≡ e = cc first in
      let greater : f.place < e.place = later-places j f k step es m run e (Contains-at es i e second) (ap (λ (d : Entry). d.thread) (sym same)) in
      let places : f.place ≡ e.place = ap (λ (d : Entry). d.place) same in
      omega (arith, greater, places)

  -- no event stands twice in a run
  once : (es : List Entry) (p q : JointState) → Leads (JointStep x) p es q → StandsOnce es
  once [] p q run i k e first second = absurd cc
  once (f ∷ es) p q run zero zero e first second = refl
  once (f ∷ es) p q run zero (suc k) e first second = absurd (again p f run.0 run.1 es q run.2 e k first second)
  once (f ∷ es) p q run (suc i) zero e first second = absurd (again p f run.0 run.1 es q run.2 e i second first)
  once (f ∷ es) p q run (suc i) (suc k) e first second = ap suc (once es run.0 q run.2 i k e first second)

  -- neither the event itself nor one after it is a direct predecessor of it
  pub none-behind : (j : JointState) (b : Entry) (k : JointState) → JointStep x j b k → (es : List Entry) (m : JointState) → Leads (JointStep x) k es m
      → (a : Entry) → (a ≡ b) ⊎ Contains es a → IsDirect a b → ⊥
  none-behind j b k step es m run a place direct = ⊎_elim
      (λ (h : (a.thread == b.thread && suc a.place == b.place) ≡ true).
      let both = and_parts (a.thread == b.thread) (suc a.place == b.place) h in
      smaller (λ (e : Entry). e.place) (eqb-true (suc a.place) b.place both.1)
      (λ after. later-places j b k step es m run a after (eqb-true a.thread b.thread both.0)))
      (λ (h : (a.object == b.object && suc a.at == b.at) ≡ true).
      let both = and_parts (a.object == b.object) (suc a.at == b.at) h in
      smaller (λ (e : Entry). e.at) (eqb-true (suc a.at) b.at both.1)
      (λ after. later-ats j b k step es m run a after (eqb-true a.object b.object both.0)))
      (or_cases (a.thread == b.thread && suc a.place == b.place) (a.object == b.object && suc a.at == b.at) direct)
    where
      -- its number is smaller than the event's, and what comes after that one has greater numbers
      smaller : (number : Entry → ℕ) → suc (number a) ≡ number b → (Contains es a → number b < number a) → ⊥
      smaller number next greater = ⊎_elim
          (λ (same : a ≡ b).
          let one : number a ≡ number b = ap number same in
          omega (arith, next, one))
          (λ (after : Contains es a).
          let more = greater after in
          omega (arith, next, more))
          place

  -- a direct predecessor stands before the event
  direct-before : (prefix back : List Entry) (b : Entry) (q : JointState) → IsJointRun x (prefix ++ b ∷ back) q
      → (a : Entry) → Contains (prefix ++ b ∷ back) a → IsDirect a b → Contains prefix a
  direct-before prefix back b q run a within direct =
      let parts = Leads-split (JointStep x) prefix (b ∷ back) (start x) q run in
      ⊎_elim (λ (there : Contains prefix a). there)
      (λ (behind : Contains (b ∷ back) a). absurd (none-behind parts.0 b parts.2.0 parts.2.1 back q parts.2.2 a (Contains-first b back a behind) direct))
      (Contains-append_cases prefix (b ∷ back) a within)

  -- the same along a chain of events
  chain-before : (between : List Entry) (es prefix back : List Entry) (a b : Entry) (q : JointState) → IsJointRun x es q
      → es ≡ prefix ++ b ∷ back → IsChain es a between b → Contains prefix a
  chain-before [] es prefix back a b q run parts chain =
      direct-before prefix back b q (subst (λ (l : List Entry). IsJointRun x l q) parts run) a (subst (λ (l : List Entry). Contains l a) parts chain.0) chain.2
  chain-before (m ∷ between) es prefix back a b q run parts chain =
      let cut = Contains-parts prefix m (chain-before between es prefix back m b q run parts chain.2) in
      let whole : es ≡ cut.0 ++ m ∷ (cut.1 ++ b ∷ back) =
      parts ∙ ap (λ (l : List Entry). l ++ b ∷ back) cut.2 ∙ append_assoc cut.0 (m ∷ cut.1) (b ∷ back) in
      let before : Contains cut.0 a =
      direct-before cut.0 (cut.1 ++ b ∷ back) m q (subst (λ (l : List Entry). IsJointRun x l q) whole run) a (subst (λ (l : List Entry). Contains l a) whole chain.0) chain.1 in
      subst (λ (l : List Entry). Contains l a) (sym cut.2) (Contains-append_left cut.0 (m ∷ cut.1) a before)

pub prefixes-are_closed : (x : ExerciseView) (es : List Entry) (j : JointState) → IsJointRun x es j
    → (prefix back : List Entry) → es ≡ prefix ++ back → IsClosed prefix es
prefixes-are_closed x es j run prefix back parts =
    let cut = Leads-split (JointStep x) prefix back (start x) j (subst (λ (l : List Entry). IsJointRun x l j) parts run) in
    record {
      known = λ e within. subst (λ (l : List Entry). Contains l e) (sym parts) (Contains-append_left prefix back e within);
      once = once x prefix (start x) cut.0 cut.1;
      closed = λ prefix' back' a b split before.
          chain-before x before.0 es prefix' (back' ++ back) a b j run
          (parts ∙ ap (λ (l : List Entry). l ++ back) split ∙ append_assoc prefix' (b ∷ back') back) before.1;
    }
