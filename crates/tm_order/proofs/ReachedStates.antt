-- A joint step takes its thread and its object on by one event each, and nothing else.
use Rattle.std.proofs.Common.{◌≡◌, ℕ, zero, suc, ◌+◌, ◌<◌, ◌≤◌, ◌==◌, ⊎_elim, List, [], ◌∷◌, ◌++◌, fold, length, Contains, Some, slice_get, slice_set, refl, ap, sym, ◌∙◌, subst, arith, eq-eqb, ne_eqb, length-set}
use Rattle.std.proofs.lemmas.Bool.{cases_eq}
use Rattle.std.proofs.lemmas.List.{length-map}
use Rattle.std.proofs.lemmas.Option.{same_Some, slice_get-map, slice_get-get_or, slice_get_within}
use Rattle.std.specs.Option.{option_map}
use Rattle.tm_base.specs.declared.events.Entry.{Entry}
use Rattle.tm_base.specs.Histories.{Label, HistoryState, Lawful, Follows, IsHistory, first_history_state}
use Rattle.tm_base.specs.Orders.{of_object, of_thread, last_stamp}
use Rattle.tm_laws.proofs.Determined.{history-one}
use Rattle.tm_laws.proofs.RunsLemmas.{Leads-snoc, Leads-one}
use Rattle.tm_text.specs.declared.exercises.Declaration.{Declaration}
use Rattle.tm_text.specs.Exercises.{ExerciseView}
use Rattle.tm_replay.specs.JointStates.{JointState, ThreadState, ObjectState, start, first_object_state, unbegun}
use Rattle.tm_replay.specs.JointSteps.{JointStep, May, stepped, entered}
use Rattle.tm_replay.proofs.SliceLemmas.{filter-snoc_in, filter-snoc_out, found_at, slice_get-set_same}
use Rattle.tm_order.specs.Records.{IsReached, label_of, object_state_at}
use Rattle.tm_order.specs.ThreadRuns.{IsThreadRun, ThreadStep, thread_at_start}
use Rattle.tm_order.proofs.Elements.{same-found, same-places, slice_get-set_other}
use Rattle.tm_order.proofs.Numbers.{Leads-each, RunFrom, Leads-numbered, Leads-last}

-- joint states with equal objects and threads are equal
joint-same : (j k : JointState) → j.objects ≡ k.objects → j.threads ≡ k.threads → j ≡ k
joint-same j k objects threads =
    ap (λ (l : List ObjectState). record { objects = l; threads = j.threads }) objects ∙ ap (λ (l : List ThreadState). record { objects = k.objects; threads = l }) threads

module _ (x : ExerciseView) where
  -- a thread's events are numbered from 1, and lead to one state, which knows the last stamp
  pub thread-numbered : (t : ℕ) (es : List Entry) (s : ThreadState) → IsThreadRun x t es s → RunFrom (λ e. e.place) 1 es
  thread-numbered t es s run =
      let on : (p : ThreadState) (e : Entry) (q : ThreadState) → ThreadStep x t p e q → (e.place ≡ p.next) × (q.next ≡ suc e.place) = λ p e q step.
      (let next : q.next ≡ e.place + 1 = ap (λ (r : ThreadState). r.next) step.after in (step.place, omega (arith, next))) in
      let first : (thread_at_start x t).next ≡ 1 = starts t in
      subst (λ n. RunFrom (λ e. e.place) n es) first (Leads-numbered (ThreadStep x t) (λ e. e.place) (λ p. p.next) on es (thread_at_start x t) s run)
    where
      starts : (u : ℕ) → (thread_at_start x u).next ≡ 1
      starts zero = refl
      starts (suc u) = refl

  pub thread-last : (t : ℕ) (es : List Entry) (s : ThreadState) → IsThreadRun x t es s → last_stamp es ≡ s.stamp
  thread-last t es s run =
      ap (λ (n : ℕ). fold (λ m f. f.stamp) n es) (sym (starts t)) ∙ Leads-last (ThreadStep x t) (λ p. p.stamp) (λ p e q step. ap (λ (r : ThreadState). r.stamp) step.after) es (thread_at_start x t) s run
    where
      starts : (u : ℕ) → (thread_at_start x u).stamp ≡ 0
      starts zero = refl
      starts (suc u) = refl

  pub thread-one : (t : ℕ) (es : List Entry) (a b : ThreadState) → IsThreadRun x t es a → IsThreadRun x t es b → a ≡ b
  thread-one t es a b left right = Leads-one (ThreadStep x t) (λ p e q r one two. one.after ∙ sym two.after) es (thread_at_start x t) a b left right

  pub thread-own : (t : ℕ) (es : List Entry) (s : ThreadState) → IsThreadRun x t es s → (e : Entry) → Contains es e → e.thread ≡ t
  thread-own t es s run = Leads-each (ThreadStep x t) (λ e. e.thread ≡ t) (λ p e q step. step.thread) es (thread_at_start x t) s run

  -- an object's events are numbered from 1, and its history's end knows the last stamp
  pub object-numbered : (l : Label) (es : List Entry) (p : HistoryState) → IsHistory l es p → RunFrom (λ e. e.at) 1 es
  object-numbered l es p run =
      Leads-numbered (Follows l) (λ e. e.at) (λ q. suc q.at) (λ q e r step. (step.at, ap suc step.now_at)) es (first_history_state l) p run

  pub object-last : (l : Label) (es : List Entry) (p : HistoryState) → IsHistory l es p → last_stamp es ≡ p.stamp
  object-last l es p run = Leads-last (Follows l) (λ q. q.stamp) (λ q e r step. step.now_stamp) es (first_history_state l) p run

  pub object-own : (l : Label) (es : List Entry) (p : HistoryState) → IsHistory l es p → (e : Entry) → Contains es e → e.object ≡ l.object
  object-own l es p run = Leads-each (Follows l) (λ e. e.object ≡ l.object) (λ q e r step. step.object) es (first_history_state l) p run

  -- nothing has happened yet
  pub reached-start : IsReached x (of_thread []) (of_object []) (start x)
  reached-start = record {
    object_count = length-map x.objects (λ (d : Declaration). first_object_state (length x.programs) d.kind);
    thread_count = ap suc (length-map x.programs unbegun);
    objects = λ o d found.
        let at = slice_get-map (λ (c : Declaration). first_object_state (length x.programs) c.kind) x.objects o in
        (first_history_state (label_of x o d), refl, at ∙ ap (option_map (λ (c : Declaration). first_object_state (length x.programs) c.kind)) found);
    threads = seats;
  }
    where
      seats : (t : ℕ) → t ≤ length x.programs → (s : ThreadState) × IsThreadRun x t [] s × (slice_get (start x).threads t ≡ Some s)
      seats zero h = (thread_at_start x 0, refl, refl)
      seats (suc t) h =
          let within : t < length x.programs = h in
          (thread_at_start x (suc t), refl, slice_get-map unbegun x.programs t ∙ ap (option_map unbegun) (slice_get-get_or x.programs t [] within))

  module _ (es : List Entry) (j : JointState) (e : Entry) (k : JointState) (reached : IsReached x (of_thread es) (of_object es) j) (step : JointStep x j e k) where
    abbrev seat : ThreadState
    seat = step.happens.thread_state

    abbrev place : ObjectState
    place = step.happens.object_state

    next-object : (o : ℕ) (d : Declaration) → slice_get x.objects o ≡ Some d
        → (p : HistoryState) × IsHistory (label_of x o d) (of_object (es ++ e ∷ []) o) p × (slice_get k.objects o ≡ Some (object_state_at x o d p))
    next-object o d declared =
        let was = reached.objects o d declared in
        ⊎_elim
        (λ (same : o ≡ e.object).
        let l : Label = label_of x o d in
        let p : HistoryState = was.0 in
        let q : HistoryState = record { at = e.at; stamp = e.stamp; state = step.happens.state } in
        let found : slice_get j.objects o ≡ Some place = subst (λ (i : ℕ). slice_get j.objects i ≡ Some place) (sym same) step.happens.object in
        let one : place ≡ object_state_at x o d p = same_Some place (object_state_at x o d p) (sym found ∙ was.2) in
        let at : place.at ≡ p.at = ap (λ (b : ObjectState). b.at) one in
        let stamp : place.stamp ≡ p.stamp = ap (λ (b : ObjectState). b.stamp) one in
        let follows : Follows l p e q = record {
          object = sym same;
          at = step.happens.at ∙ ap suc at;
          rises = omega (arith, step.happens.stamp, stamp);
          lawful = subst (λ (b : ObjectState). Lawful b.view e.thread e.op e.reply step.happens.state) one step.happens.lawful;
          now_at = refl;
          now_stamp = refl;
        } in
        let own : of_object (es ++ e ∷ []) o ≡ of_object es o ++ e ∷ [] = filter-snoc_in (λ (f : Entry). f.object == o) es e (eq-eqb e.object o (sym same)) in
        let set : slice_get (slice_set j.objects o (entered place e step.happens.state)) o ≡ Some (entered place e step.happens.state) =
        slice_get-set_same j.objects o (entered place e step.happens.state) (slice_get_within j.objects o place found) in
        let entered' : slice_get k.objects o ≡ Some (entered place e step.happens.state) =
        ap (λ (bs : List ObjectState). slice_get bs o) step.happens.objects ∙ ap (λ (i : ℕ). slice_get (slice_set j.objects i (entered place e step.happens.state)) o) (sym same) ∙ set in (
          q,
          subst (λ (fs : List Entry). IsHistory l fs q) (sym own) (Leads-snoc (Follows l) (of_object es o) e (first_history_state l) p q was.1 follows),
          entered' ∙ ap (λ (b : ObjectState). Some (entered b e step.happens.state)) one,
        ))
        (λ (apart : o ≡ e.object → ⊥).
        let own : of_object (es ++ e ∷ []) o ≡ of_object es o = filter-snoc_out (λ (f : Entry). f.object == o) es e (ne_eqb e.object o (λ q. apart (sym q))) in (
          was.0,
          subst (λ (fs : List Entry). IsHistory (label_of x o d) fs was.0) (sym own) was.1,
          ap (λ (bs : List ObjectState). slice_get bs o) step.happens.objects ∙ slice_get-set_other j.objects e.object o (entered place e step.happens.state) (object_state_at x o d was.0) apart was.2,
        ))
        (cases_eq o e.object)

    next-thread : (t : ℕ) → t ≤ length x.programs → (s : ThreadState) × IsThreadRun x t (of_thread (es ++ e ∷ []) t) s × (slice_get k.threads t ≡ Some s)
    next-thread t known =
        let was = reached.threads t known in
        ⊎_elim
        (λ (same : t ≡ e.thread).
        let s : ThreadState = was.0 in
        let found : slice_get j.threads t ≡ Some seat = subst (λ (i : ℕ). slice_get j.threads i ≡ Some seat) (sym same) step.happens.thread in
        let one : seat ≡ s = same_Some seat s (sym found ∙ was.2) in
        let may : May x t seat e.object e.op = subst (λ (i : ℕ). May x i seat e.object e.op) (sym same) step.may in
        let goes_on : ThreadStep x t s e (stepped s e) = record {
          thread = sym same;
          place = step.happens.place ∙ ap (λ (r : ThreadState). r.next) one;
          may = subst (λ (r : ThreadState). May x t r e.object e.op) one may;
          after = refl;
        } in
        let own : of_thread (es ++ e ∷ []) t ≡ of_thread es t ++ e ∷ [] = filter-snoc_in (λ (f : Entry). f.thread == t) es e (eq-eqb e.thread t (sym same)) in
        let set : slice_get (slice_set j.threads t (stepped seat e)) t ≡ Some (stepped seat e) = slice_get-set_same j.threads t (stepped seat e) (slice_get_within j.threads t seat found) in
        let stepped' : slice_get k.threads t ≡ Some (stepped seat e) =
        ap (λ (ss : List ThreadState). slice_get ss t) step.happens.threads ∙ ap (λ (i : ℕ). slice_get (slice_set j.threads i (stepped seat e)) t) (sym same) ∙ set in (
          stepped s e,
          subst (λ (fs : List Entry). IsThreadRun x t fs (stepped s e)) (sym own) (Leads-snoc (ThreadStep x t) (of_thread es t) e (thread_at_start x t) s (stepped s e) was.1 goes_on),
          stepped' ∙ ap (λ (r : ThreadState). Some (stepped r e)) one,
        ))
        (λ (apart : t ≡ e.thread → ⊥).
        let own : of_thread (es ++ e ∷ []) t ≡ of_thread es t = filter-snoc_out (λ (f : Entry). f.thread == t) es e (ne_eqb e.thread t (λ q. apart (sym q))) in (
          was.0,
          subst (λ (fs : List Entry). IsThreadRun x t fs was.0) (sym own) was.1,
          ap (λ (ss : List ThreadState). slice_get ss t) step.happens.threads ∙ slice_get-set_other j.threads e.thread t (stepped seat e) was.0 apart was.2,
        ))
        (cases_eq t e.thread)

    pub reached-step : IsReached x (of_thread (es ++ e ∷ [])) (of_object (es ++ e ∷ [])) k
    reached-step = record {
      object_count = ap length step.happens.objects ∙ length-set j.objects e.object (entered place e step.happens.state) ∙ reached.object_count;
      thread_count = ap length step.happens.threads ∙ length-set j.threads e.thread (stepped seat e) ∙ reached.thread_count;
      objects = next-object;
      threads = next-thread;
    }

  -- the events of the threads and objects lead to one joint state
  pub reached-one : (made seen : ℕ → List Entry) (j k : JointState) → IsReached x made seen j → IsReached x made seen k → j ≡ k
  reached-one made seen j k left right =
      let objects : j.objects ≡ k.objects = same-places j.objects k.objects (left.object_count ∙ sym right.object_count) (λ o within.
      let d = found_at x.objects o (subst (λ n. o < n) left.object_count within) in
      let a = left.objects o d.0 d.1 in
      let b = right.objects o d.0 d.1 in
      let one : object_state_at x o d.0 a.0 ≡ object_state_at x o d.0 b.0 = ap (object_state_at x o d.0) (history-one (label_of x o d.0) (seen o) a.0 b.0 a.1 b.1) in
      same-found j.objects k.objects o (object_state_at x o d.0 a.0) (object_state_at x o d.0 b.0) a.2 b.2 one) in
      let threads : j.threads ≡ k.threads = same-places j.threads k.threads (left.thread_count ∙ sym right.thread_count) (λ t within.
      let known : t ≤ length x.programs = omega (arith, within, left.thread_count) in
      let a = left.threads t known in
      let b = right.threads t known in
      same-found j.threads k.threads t a.0 b.0 a.2 b.2 (thread-one t (made t) a.0 b.0 a.1 b.1)) in
      joint-same j k objects threads
