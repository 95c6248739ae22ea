-- The events of a joint run are well placed, and stamped by the rule of direct predecessors.
use Rattle.std.proofs.Common.{◌≡◌, ◌≢◌, ℕ, zero, suc, ◌+◌, ◌<◌, ◌≤◌, max, Bool, true, false, cond, ◌==◌, ◌&&◌, ◌||◌, ◌⊎◌, inl, inr, ⊎_elim, List, [], ◌∷◌, ◌++◌, map, filter, fold, length, count_by, Contains, Some, slice_get, slice_set, refl, ap, sym, ◌∙◌, subst, arith, eq-eqb, ne_eqb, length-append}
use Rattle.std.proofs.lemmas.Bool.{cases_Bool, cases_eq}
use Rattle.std.proofs.lemmas.List.{append-nil}
use Rattle.std.proofs.lemmas.List.Elements.{filter-append}
use Rattle.std.proofs.lemmas.List.Sums.{sum_by-cons, length-filter}
use Rattle.tm_base.specs.declared.events.Entry.{Entry}
use Rattle.tm_base.specs.Orders.{of_object, of_thread, AreNumbered, IsWellPlaced, IsStamped, is_direct, greatest}
use Rattle.tm_base.specs.Runs.{Leads}
use Rattle.tm_laws.proofs.RunsLemmas.{Leads-split}
use Rattle.tm_text.specs.Exercises.{ExerciseView}
use Rattle.tm_text.specs.declared.exercises.Declaration.{Declaration}
use Rattle.tm_replay.specs.declared.phases.Phase.TheVariants as phase
use Rattle.tm_replay.specs.JointStates.{JointState, ThreadState, ObjectState, start, first_object_state, first_thread_state, unbegun}
use Rattle.tm_programs.specs.Programs.{Over}
use Rattle.tm_replay.specs.JointSteps.{JointStep, IsJointRun, stepped, entered}
use Rattle.tm_replay.proofs.SliceLemmas.{slice_get-set_cases, filter-snoc_in, filter-snoc_out, Contains-parts}
use Rattle.tm_replay.proofs.JointStartLemmas.{mapped-at}
use Rattle.tm_replay.proofs.ProjectionsLemmas.{runs-keep}
use Rattle.tm_replay.proofs.ClosedPrefixesLemmas.{none-behind}

-- the first one is an element, and so is each of the others
Contains-next : {A : Type 0} (y : A) (xs : List A) (x : A) → Contains xs x → Contains (y ∷ xs) x
Contains-next y xs x within = (suc within.0, omega (arith, within.1), within.2)

Contains-head : {A : Type 0} (y : A) (xs : List A) → Contains (y ∷ xs) y
Contains-head y xs = (0, omega arith, refl)

-- where no element passes, none is kept
filter-none : {A : Type 0} (p : A → Bool) (xs : List A) → ((a : A) → Contains xs a → p a ≡ false) → filter p xs ≡ []
filter-none p [] fails = refl
filter-none {A} p (x ∷ xs) fails =
    let others : filter p xs ≡ [] = filter-none p xs (λ a within. fails a (Contains-next x xs a within)) in
    ap (λ (b : Bool). cond b (x ∷ filter p xs) (filter p xs)) (fails x (Contains-head x xs)) ∙ others

-- two tests in turn are both at once
filter-and : {A : Type 0} (p q : A → Bool) (xs : List A) → filter (λ a. p a && q a) xs ≡ filter q (filter p xs)
filter-and p q [] = refl
filter-and {A} p q (x ∷ xs) = go (p x) (filter (λ a. p a && q a) xs) (filter p xs) (filter-and p q xs)
  where
    go : (b : Bool) (both one : List A) → both ≡ filter q one → cond (b && q x) (x ∷ both) both ≡ filter q (cond b (x ∷ one) one)
    go true both one h = ap (λ (l : List A). cond (q x) (x ∷ l) l) h
    go false both one h = h

greatest-from : (m : ℕ) (ns : List ℕ) → fold max m ns ≡ max m (fold max 0 ns)
greatest-from m [] = omega arith
greatest-from m (n ∷ ns) = omega (arith, greatest-from (max m n) ns, greatest-from (max 0 n) ns)

greatest-cons : (n : ℕ) (ns : List ℕ) → greatest (n ∷ ns) ≡ max n (greatest ns)
greatest-cons n ns = omega (arith, greatest-from (max 0 n) ns)

-- the greatest of those that pass one test or the other
greatest-or : {A : Type 0} (f : A → ℕ) (p q : A → Bool) (xs : List A)
    → greatest (map f (filter (λ a. p a || q a) xs)) ≡ max (greatest (map f (filter p xs))) (greatest (map f (filter q xs)))
greatest-or f p q [] = omega arith
greatest-or {A} f p q (x ∷ xs) =
    go (p x) (q x) (filter (λ a. p a || q a) xs) (filter p xs) (filter q xs) (greatest-or f p q xs)
  where
    go : (a b : Bool) (r s t : List A) → greatest (map f r) ≡ max (greatest (map f s)) (greatest (map f t))
        → greatest (map f (cond (a || b) (x ∷ r) r)) ≡ max (greatest (map f (cond a (x ∷ s) s))) (greatest (map f (cond b (x ∷ t) t)))
    go true true r s t h = omega (arith, h, greatest-cons (f x) (map f r), greatest-cons (f x) (map f s), greatest-cons (f x) (map f t))
    go true false r s t h = omega (arith, h, greatest-cons (f x) (map f r), greatest-cons (f x) (map f s))
    go false true r s t h = omega (arith, h, greatest-cons (f x) (map f r), greatest-cons (f x) (map f t))
    go false false r s t h = h

-- the numbers of these events run from this one
abbrev RunFrom : (Entry → ℕ) → ℕ → List Entry → Type 0
RunFrom number a [] = Unit {0}
RunFrom number a (e ∷ es) = (number e ≡ a) × RunFrom number (a + 1) es

RunFrom-snoc : (number : Entry → ℕ) (a : ℕ) (es : List Entry) (e : Entry) → RunFrom number a es → number e ≡ a + length es → RunFrom number a (es ++ e ∷ [])
RunFrom-snoc number a [] e run next = (omega (arith, next), tt)
RunFrom-snoc number a (f ∷ es) e run next = (run.0, RunFrom-snoc number (a + 1) es e run.1 (omega (arith, next)))

-- a test that only smaller numbers pass keeps none, nor does one that only greater numbers pass
keeps-none_below : (number : Entry → ℕ) (p : Entry → Bool) (a : ℕ) (es : List Entry) → RunFrom number a es → ((e : Entry) → a ≤ number e → p e ≡ false) → filter p es ≡ []
keeps-none_below number p a [] run fails = refl
keeps-none_below number p a (e ∷ es) run fails =
    ap (λ (b : Bool). cond b (e ∷ filter p es) (filter p es)) (fails e (omega (arith, run.0)))
    ∙ keeps-none_below number p (a + 1) es run.1 (λ f h. fails f (omega (arith, h)))

keeps-none_above : (number : Entry → ℕ) (p : Entry → Bool) (a n : ℕ) (es : List Entry) → RunFrom number a es → a + length es ≤ n → ((e : Entry) → number e < n → p e ≡ false) → filter p es ≡ []
keeps-none_above number p a n [] run high fails = refl
keeps-none_above number p a n (e ∷ es) run high fails =
    ap (λ (b : Bool). cond b (e ∷ filter p es) (filter p es)) (fails e (omega (arith, run.0, high)))
    ∙ keeps-none_above number p (a + 1) n es run.1 (omega (arith, high)) fails

-- each of the numbers stands once
counts-one : (number : Entry → ℕ) (a k : ℕ) (es : List Entry) → RunFrom number a es → a ≤ k → k < a + length es → count_by (λ e. number e == k) es ≡ 1
counts-one number a k [] run low high = absurd (omega (arith, low, high))
counts-one number a k (e ∷ es) run low high =
    sum_by-cons (λ f. cond (number f == k) 1 0) e es ∙ go (cases_eq (number e) k) (counts-one number (a + 1) k es run.1)
  where
    others : ℕ
    others = count_by (λ f. number f == k) es

    go : (number e ≡ k) ⊎ (number e ≢ k) → (a + 1 ≤ k → k < a + 1 + length es → others ≡ 1) → cond (number e == k) 1 0 + others ≡ 1
    go (inl same) later =
        let none : filter (λ f. number f == k) es ≡ [] =
        keeps-none_below number (λ f. number f == k) (a + 1) es run.1 (λ f h. ne_eqb (number f) k (λ q. omega (arith, h, q, same, run.0))) in
        let zero' : others ≡ 0 = sym (length-filter (λ f. number f == k) es) ∙ ap length none in
        ap (λ (b : Bool). cond b 1 0 + others) (eq-eqb (number e) k same) ∙ omega (arith, zero')
    go (inr apart) later =
        let one : others ≡ 1 = later (omega (arith, low, apart, run.0)) (omega (arith, high)) in
        ap (λ (b : Bool). cond b 1 0 + others) (ne_eqb (number e) k apart) ∙ omega (arith, one)

numbered : (number : Entry → ℕ) (es : List Entry) → RunFrom number 1 es → AreNumbered number es
numbered number es run k low high = counts-one number 1 k es run low (omega (arith, high))

-- of some events, whose numbers run from 1, this is the next number, and this the stamp of the last one
record IsLast (number : Entry → ℕ) (own : List Entry) (next stamp : ℕ) : Type 0 where
  run : RunFrom number 1 own
  count : next ≡ suc (length own)
  last : greatest (map (λ a. a.stamp) (filter (λ a. suc (number a) == next) own)) ≡ stamp

IsLast-none : (number : Entry → ℕ) → IsLast number [] 1 0
IsLast-none number = record { run = tt; count = refl; last = refl }

IsLast-snoc : (number : Entry → ℕ) (own : List Entry) (next stamp : ℕ) (e : Entry) → number e ≡ next → IsLast number own next stamp → IsLast number (own ++ e ∷ []) (suc (number e)) e.stamp
IsLast-snoc number own next stamp e here was =
    let p : Entry → Bool = λ a. suc (number a) == suc (number e) in
    let longer : length (own ++ e ∷ []) ≡ suc (length own) = length-append own (e ∷ []) ∙ omega arith in
    let none : filter p own ≡ [] =
    keeps-none_above number p 1 (number e) own was.run (omega (arith, here, was.count)) (λ a h. ne_eqb (suc (number a)) (suc (number e)) (λ q. omega (arith, h, q))) in
    let kept : filter p (own ++ e ∷ []) ≡ e ∷ [] =
    filter-snoc_in p own e (eq-eqb (suc (number e)) (suc (number e)) refl) ∙ ap (λ (l : List Entry). l ++ e ∷ []) none in
    let only : greatest (e.stamp ∷ []) ≡ e.stamp = omega arith in
    record {
      run = RunFrom-snoc number 1 own e was.run (omega (arith, here, was.count));
      count = omega (arith, longer, here, was.count);
      last = ap (λ (l : List Entry). greatest (map (λ a. a.stamp) l)) kept ∙ only;
    }

-- the events with one key, which is their thread or their object
module _ (x : ExerciseView) (key number : Entry → ℕ) (Knows : JointState → ℕ → ℕ → ℕ → Type 0)
    -- the joint state knows the next number and the last stamp of each key: the event has the number, and leaves the next
    (before : (j : JointState) (e : Entry) (k : JointState) → JointStep x j e k → (stamp : ℕ) × Knows j (key e) (number e) stamp)
    (after : (j : JointState) (e : Entry) (k : JointState) → JointStep x j e k → (i next stamp : ℕ) → Knows k i next stamp
    → ((i ≡ key e) × (next ≡ suc (number e)) × (stamp ≡ e.stamp)) ⊎ ((i ≢ key e) × Knows j i next stamp))
    (none : (i next stamp : ℕ) → Knows (start x) i next stamp → (next ≡ 1) × (stamp ≡ 0)) where
  abbrev own : List Entry → ℕ → List Entry
  own es i = filter (λ e. key e == i) es

  abbrev AreLast : List Entry → JointState → Type 0
  AreLast es j = (i next stamp : ℕ) → Knows j i next stamp → IsLast number (own es i) next stamp

  abbrev Run : List Entry → Type 0
  Run es = (i : ℕ) → RunFrom number 1 (own es i)

  own-out : (es : List Entry) (e : Entry) (i : ℕ) → i ≢ key e → own (es ++ e ∷ []) i ≡ own es i
  own-out es e i apart = filter-snoc_out (λ (f : Entry). key f == i) es e (ne_eqb (key e) i (λ q. apart (sym q)))

  own-last : (es : List Entry) (j : JointState) (e : Entry) (k : JointState) → AreLast es j → JointStep x j e k → IsLast number (own (es ++ e ∷ []) (key e)) (suc (number e)) e.stamp
  own-last es j e k holds step =
      let was = before j e k step in
      subst (λ (l : List Entry). IsLast number l (suc (number e)) e.stamp) (sym (filter-snoc_in (λ (f : Entry). key f == key e) es e (eq-eqb (key e) (key e) refl)))
      (IsLast-snoc number (own es (key e)) (number e) was.0 e refl (holds (key e) (number e) was.0 was.1))

  last-step : (es : List Entry) (j : JointState) (e : Entry) (k : JointState) → AreLast es j → JointStep x j e k → AreLast (es ++ e ∷ []) k
  last-step es j e k holds step i next stamp knows = ⊎_elim
      (λ (same : (i ≡ key e) × (next ≡ suc (number e)) × (stamp ≡ e.stamp)).
      subst (λ (n : ℕ). IsLast number (own (es ++ e ∷ []) n) next stamp) (sym same.0)
      (subst (λ (n : ℕ). IsLast number (own (es ++ e ∷ []) (key e)) n stamp) (sym same.1)
      (subst (λ (n : ℕ). IsLast number (own (es ++ e ∷ []) (key e)) (suc (number e)) n) (sym same.2) (own-last es j e k holds step))))
      (λ (other : (i ≢ key e) × Knows j i next stamp).
      subst (λ (l : List Entry). IsLast number l next stamp) (sym (own-out es e i other.0)) (holds i next stamp other.1))
      (after j e k step i next stamp knows)

  run-step : (es : List Entry) (j : JointState) (e : Entry) (k : JointState) → AreLast es j → Run es → JointStep x j e k → Run (es ++ e ∷ [])
  run-step es j e k holds run step i = ⊎_elim
      (λ (same : i ≡ key e). subst (λ (n : ℕ). RunFrom number 1 (own (es ++ e ∷ []) n)) (sym same) (own-last es j e k holds step).run)
      (λ (apart : i ≢ key e). subst (RunFrom number 1) (sym (own-out es e i apart)) (run i))
      (cases_eq i (key e))

  last-start : AreLast [] (start x)
  last-start i next stamp knows =
      let first = none i next stamp knows in
      subst (λ (n : ℕ). IsLast number [] n stamp) (sym first.0) (subst (IsLast number [] 1) (sym first.1) (IsLast-none number))

  known : (es : List Entry) (j : JointState) → IsJointRun x es j → AreLast es j × Run es
  known es j run =
      let Holds : List Entry → JointState → Type 0 = λ l k. AreLast l k × Run l in
      runs-keep (JointStep x) Holds (λ l p e q holds step. (last-step l p e q holds.0 step, run-step l p e q holds.0 holds.1 step)) es [] (start x) j (last-start, λ i. tt) run

module _ (x : ExerciseView) where
  -- the thread has this next place and this last stamp
  abbrev pub KnowsThread : JointState → ℕ → ℕ → ℕ → Type 0
  KnowsThread j t next stamp = (s : ThreadState) × (slice_get j.threads t ≡ Some s) × (next ≡ s.next) × (stamp ≡ s.stamp)

  thread-before : (j : JointState) (e : Entry) (k : JointState) → JointStep x j e k → (stamp : ℕ) × KnowsThread j e.thread e.place stamp
  thread-before j e k step = (step.happens.thread_state.stamp, (step.happens.thread_state, step.happens.thread, step.happens.place, refl))

  pub thread-after : (j : JointState) (e : Entry) (k : JointState) → JointStep x j e k → (t next stamp : ℕ) → KnowsThread k t next stamp
      → ((t ≡ e.thread) × (next ≡ suc e.place) × (stamp ≡ e.stamp)) ⊎ ((t ≢ e.thread) × KnowsThread j t next stamp)
  thread-after j e k step t next stamp knows =
      let s' : ThreadState = stepped step.happens.thread_state e in
      let found : slice_get (slice_set j.threads e.thread s') t ≡ Some knows.0 = subst (λ (l : List ThreadState). slice_get l t ≡ Some knows.0) step.happens.threads knows.1 in
      ⊎_elim
      (λ (same : (t ≡ e.thread) × (knows.0 ≡ s')).
      let place : knows.0.next ≡ e.place + 1 = ap (λ (s : ThreadState). s.next) same.1 in
      inl (same.0, omega (arith, knows.2, place), knows.3 ∙ ap (λ (s : ThreadState). s.stamp) same.1))
      (λ (other : (t ≢ e.thread) × (slice_get j.threads t ≡ Some knows.0)). inr (other.0, (knows.0, other.1, knows.2, knows.3)))
      (slice_get-set_cases j.threads e.thread t s' knows.0 found)

  pub thread-none : (t next stamp : ℕ) → KnowsThread (start x) t next stamp → (next ≡ 1) × (stamp ≡ 0)
  thread-none zero next stamp knows =
      let main : first_thread_state phase.Main Over ≡ knows.0 = let found = knows.1 in cc in
      (knows.2 ∙ ap (λ (s : ThreadState). s.next) (sym main), knows.3 ∙ ap (λ (s : ThreadState). s.stamp) (sym main))
  thread-none (suc t) next stamp knows =
      let at = (mapped-at unbegun x.programs t knows.0 knows.1).2 in
      (knows.2 ∙ ap (λ (s : ThreadState). s.next) (sym at), knows.3 ∙ ap (λ (s : ThreadState). s.stamp) (sym at))

  -- the object has this next place and this last stamp
  abbrev pub KnowsObject : JointState → ℕ → ℕ → ℕ → Type 0
  KnowsObject j o next stamp = (b : ObjectState) × (slice_get j.objects o ≡ Some b) × (next ≡ suc b.at) × (stamp ≡ b.stamp)

  object-before : (j : JointState) (e : Entry) (k : JointState) → JointStep x j e k → (stamp : ℕ) × KnowsObject j e.object e.at stamp
  object-before j e k step = (step.happens.object_state.stamp, (step.happens.object_state, step.happens.object, step.happens.at, refl))

  pub object-after : (j : JointState) (e : Entry) (k : JointState) → JointStep x j e k → (o next stamp : ℕ) → KnowsObject k o next stamp
      → ((o ≡ e.object) × (next ≡ suc e.at) × (stamp ≡ e.stamp)) ⊎ ((o ≢ e.object) × KnowsObject j o next stamp)
  object-after j e k step o next stamp knows =
      let b' : ObjectState = entered step.happens.object_state e step.happens.state in
      let found : slice_get (slice_set j.objects e.object b') o ≡ Some knows.0 = subst (λ (l : List ObjectState). slice_get l o ≡ Some knows.0) step.happens.objects knows.1 in
      ⊎_elim
      (λ (same : (o ≡ e.object) × (knows.0 ≡ b')).
      inl (same.0, knows.2 ∙ ap (λ (b : ObjectState). suc b.at) same.1, knows.3 ∙ ap (λ (b : ObjectState). b.stamp) same.1))
      (λ (other : (o ≢ e.object) × (slice_get j.objects o ≡ Some knows.0)). inr (other.0, (knows.0, other.1, knows.2, knows.3)))
      (slice_get-set_cases j.objects e.object o b' knows.0 found)

  pub object-none : (o next stamp : ℕ) → KnowsObject (start x) o next stamp → (next ≡ 1) × (stamp ≡ 0)
  object-none o next stamp knows =
      let at = (mapped-at (λ (d : Declaration). first_object_state (length x.programs) d.kind) x.objects o knows.0 knows.1).2 in
      (knows.2 ∙ ap (λ (b : ObjectState). suc b.at) (sym at), knows.3 ∙ ap (λ (b : ObjectState). b.stamp) (sym at))

  threads-known : (es : List Entry) (j : JointState) → IsJointRun x es j → AreLast x (λ e. e.thread) (λ e. e.place) KnowsThread thread-before thread-after thread-none es j × Run x (λ e. e.thread) (λ e. e.place) KnowsThread thread-before thread-after thread-none es
  threads-known es j run = known x (λ e. e.thread) (λ e. e.place) KnowsThread thread-before thread-after thread-none es j run

  objects-known : (es : List Entry) (j : JointState) → IsJointRun x es j → AreLast x (λ e. e.object) (λ e. e.at) KnowsObject object-before object-after object-none es j × Run x (λ e. e.object) (λ e. e.at) KnowsObject object-before object-after object-none es
  objects-known es j run = known x (λ e. e.object) (λ e. e.at) KnowsObject object-before object-after object-none es j run

  pub runs-placed : (es : List Entry) (j : JointState) → IsJointRun x es j → IsWellPlaced es
  runs-placed es j run =
      let threads = (threads-known es j run).1 in
      let objects = (objects-known es j run).1 in
      record {
        threads = λ t. numbered (λ e. e.place) (of_thread es t) (threads t);
        objects = λ o. numbered (λ e. e.at) (of_object es o) (objects o);
      }

  -- the greatest stamp of the direct predecessors, where they are sought before the event alone
  stamp-before : (prefix : List Entry) (j : JointState) (e : Entry) (k : JointState) → IsJointRun x prefix j → JointStep x j e k
      → e.stamp ≡ suc (greatest (map (λ a. a.stamp) (filter (λ a. is_direct a e) prefix)))
  stamp-before prefix j e k run step =
      let s : ThreadState = step.happens.thread_state in
      let b : ObjectState = step.happens.object_state in
      let thread = (threads-known prefix j run).0 e.thread e.place s.stamp (s, step.happens.thread, step.happens.place, refl) in
      let object = (objects-known prefix j run).0 e.object e.at b.stamp (b, step.happens.object, step.happens.at, refl) in
      let by_thread : greatest (map (λ a. a.stamp) (filter (λ a. a.thread == e.thread && suc a.place == e.place) prefix)) ≡ s.stamp =
      ap (λ (l : List Entry). greatest (map (λ a. a.stamp) l)) (filter-and (λ (a : Entry). a.thread == e.thread) (λ (a : Entry). suc a.place == e.place) prefix) ∙ thread.last in
      let by_object : greatest (map (λ a. a.stamp) (filter (λ a. a.object == e.object && suc a.at == e.at) prefix)) ≡ b.stamp =
      ap (λ (l : List Entry). greatest (map (λ a. a.stamp) l)) (filter-and (λ (a : Entry). a.object == e.object) (λ (a : Entry). suc a.at == e.at) prefix) ∙ object.last in
      let both = greatest-or (λ (a : Entry). a.stamp) (λ (a : Entry). a.thread == e.thread && suc a.place == e.place) (λ (a : Entry). a.object == e.object && suc a.at == e.at) prefix in
      step.happens.stamp ∙ ap suc (sym (both ∙ ap (λ (n : ℕ). max n (greatest (map (λ (a : Entry). a.stamp) (filter (λ (a : Entry). a.object == e.object && suc a.at == e.at) prefix)))) by_thread
      ∙ ap (max s.stamp) by_object))

  -- neither the event nor one after it is a direct predecessor
  direct-prefix : (prefix back : List Entry) (j : JointState) (e : Entry) (k q : JointState) → JointStep x j e k → Leads (JointStep x) k back q
      → filter (λ a. is_direct a e) (prefix ++ e ∷ back) ≡ filter (λ a. is_direct a e) prefix
  direct-prefix prefix back j e k q step run =
      let fails : (a : Entry) → (a ≡ e) ⊎ Contains back a → is_direct a e ≡ false = λ a place.
      ⊎_elim (λ (direct : is_direct a e ≡ true). absurd (none-behind x j e k step back q run a place direct)) (λ (not_direct : is_direct a e ≡ false). not_direct) (cases_Bool (is_direct a e)) in
      let behind : filter (λ a. is_direct a e) (e ∷ back) ≡ [] =
      ap (λ (b : Bool). cond b (e ∷ filter (λ a. is_direct a e) back) (filter (λ a. is_direct a e) back)) (fails e (inl refl))
      ∙ filter-none (λ a. is_direct a e) back (λ a within. fails a (inr within)) in
      filter-append (λ a. is_direct a e) prefix (e ∷ back) ∙ ap (λ (l : List Entry). filter (λ a. is_direct a e) prefix ++ l) behind
      ∙ append-nil (filter (λ a. is_direct a e) prefix)

  pub runs-stamped : (es : List Entry) (j : JointState) → IsJointRun x es j → IsStamped es
  runs-stamped es j run e within =
      let parts = Contains-parts es e within in
      let cut = Leads-split (JointStep x) parts.0 (e ∷ parts.1) (start x) j (subst (λ (l : List Entry). IsJointRun x l j) parts.2 run) in
      let known : filter (λ a. is_direct a e) es ≡ filter (λ a. is_direct a e) parts.0 =
      ap (filter (λ a. is_direct a e)) parts.2 ∙ direct-prefix parts.0 parts.1 cut.0 e cut.2.0 j cut.2.1 cut.2.2 in
      stamp-before parts.0 cut.0 e cut.2.0 cut.1 cut.2.1 ∙ ap (λ (l : List Entry). suc (greatest (map (λ a. a.stamp) l))) (sym known)
