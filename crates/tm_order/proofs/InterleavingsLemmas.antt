-- The joint runs are the interleavings of thread runs that objects allow.
use Rattle.std.proofs.Common.{◌≡◌, ℕ, suc, ◌<◌, ◌≤◌, max, ◌==◌, ⊎_elim, List, [], ◌∷◌, ◌++◌, length, Contains, slice_set, refl, ap, sym, ◌∙◌, subst, arith, eq-eqb}
use Rattle.std.proofs.lemmas.List.{append-nil, append_assoc}
use Rattle.std.proofs.lemmas.List.Elements.{Contains-push_cases}
use Rattle.std.proofs.lemmas.Option.{slice_get_within}
use Rattle.tm_base.specs.declared.events.Entry.{Entry}
use Rattle.tm_base.specs.Histories.{Label, HistoryState, Follows, IsHistory, first_history_state}
use Rattle.tm_base.specs.Orders.{of_object, of_thread, last_stamp}
use Rattle.tm_laws.proofs.Determined.{history-one}
use Rattle.tm_laws.proofs.RunsLemmas.{Leads-snoc, Leads-split}
use Rattle.tm_text.specs.Exercises.{ExerciseView}
use Rattle.tm_replay.specs.JointStates.{JointState, ThreadState, ObjectState, start}
use Rattle.tm_replay.specs.JointSteps.{JointStep, IsJointRun, stepped, entered}
use Rattle.tm_replay.proofs.SliceLemmas.{Contains-parts, found_at}
use Rattle.tm_replay.proofs.ProjectionsLemmas.{runs-keep}
use Rattle.tm_order.specs.Records.{IsClocked, IsReached, IsRecorded, label_of, object_state_at}
use Rattle.tm_order.specs.ThreadRuns.{IsThreadRun, ThreadStep, thread_at_start}
use Rattle.tm_order.specs.Interleavings.{AreInRange, IsInterleaving}
use Rattle.tm_order.proofs.Elements.{Contains-none, Contains-middle, Contains-filtered, AppearOnce, filter-middle, kept-prefix}
use Rattle.tm_order.proofs.Numbers.{RunFrom-once}
use Rattle.tm_order.proofs.ReachedStates.{object-last, object-numbered, reached-one, reached-start, reached-step, thread-last, thread-numbered, thread-one}

-- the first list is the beginning of the second
abbrev pub Begins : List Entry → List Entry → Type 0
Begins part whole = (rest : List Entry) × (whole ≡ part ++ rest)

-- of each thread and each object the list has a beginning of what it recorded
pub record AreBeginnings (x : ExerciseView) (made seen : ℕ → List Entry) (es : List Entry) : Type 0 where
  pub threads : (t : ℕ) → t ≤ length x.programs → Begins (of_thread es t) (made t)
  pub objects : (o : ℕ) → o < length x.objects → Begins (of_object es o) (seen o)

-- where an event stands behind what is kept of a list's prefix, in a longer list
parted : (own prefix back rest whole : List Entry) (e : Entry) → own ≡ prefix ++ e ∷ back → whole ≡ own ++ rest → whole ≡ prefix ++ e ∷ (back ++ rest)
parted own prefix back rest whole e parts begins = begins ∙ ap (λ (l : List Entry). l ++ rest) parts ∙ append_assoc prefix (e ∷ back) rest

module _ (x : ExerciseView) (made seen : ℕ → List Entry) (recorded : IsRecorded x made seen) (clocked : IsClocked made seen) where
  -- after what its thread and its object had before it the event is a joint step
  next : (prefix back : List Entry) (e : Entry) (j : JointState) → AreInRange x (prefix ++ e ∷ back) → AreBeginnings x made seen (prefix ++ e ∷ back)
      → IsReached x (of_thread prefix) (of_object prefix) j → (k : JointState) × JointStep x j e k
  next prefix back e j range begins reached =
      let t : ℕ = e.thread in
      let o : ℕ = e.object in
      let known = range e (Contains-middle prefix back e) in
      let d = found_at x.objects o known.1 in
      let l : Label = label_of x o d.0 in
      let mine = begins.threads t known.0 in
      let theirs = begins.objects o known.1 in
      let by_thread : made t ≡ of_thread prefix t ++ e ∷ (of_thread back t ++ mine.0) =
      parted (of_thread (prefix ++ e ∷ back) t) (of_thread prefix t) (of_thread back t) mine.0 (made t) e (filter-middle (λ (f : Entry). f.thread == t) prefix e back (eq-eqb t t refl)) mine.1 in
      let by_object : seen o ≡ of_object prefix o ++ e ∷ (of_object back o ++ theirs.0) =
      parted (of_object (prefix ++ e ∷ back) o) (of_object prefix o) (of_object back o) theirs.0 (seen o) e (filter-middle (λ (f : Entry). f.object == o) prefix e back (eq-eqb o o refl)) theirs.1 in
      let seat = reached.threads t known.0 in
      let place = reached.objects o d.0 d.1 in
      let whole_run = recorded.threads t known.0 in
      let whole_history = recorded.objects o d.0 d.1 in
      let run = Leads-split (ThreadStep x t) (of_thread prefix t) (e ∷ (of_thread back t ++ mine.0)) (thread_at_start x t) whole_run.0
      (subst (λ (fs : List Entry). IsThreadRun x t fs whole_run.0) by_thread whole_run.1) in
      let history = Leads-split (Follows l) (of_object prefix o) (e ∷ (of_object back o ++ theirs.0)) (first_history_state l) whole_history.0
      (subst (λ (fs : List Entry). IsHistory l fs whole_history.0) by_object whole_history.1) in
      let goes_on : ThreadStep x t seat.0 e run.2.0 =
      subst (λ (s : ThreadState). ThreadStep x t s e run.2.0) (thread-one x t (of_thread prefix t) run.0 seat.0 run.1 seat.1) run.2.1 in
      let follows : Follows l place.0 e history.2.0 =
      subst (λ (p : HistoryState). Follows l p e history.2.0) (history-one l (of_object prefix o) history.0 place.0 history.1 place.1) history.2.1 in
      let stamp : e.stamp ≡ suc (max (last_stamp (of_thread prefix t)) (last_stamp (of_object prefix o))) =
      clocked e (of_thread prefix t) (of_thread back t ++ mine.0) (of_object prefix o) (of_object back o ++ theirs.0) by_thread by_object in
      let thread_stamp : last_stamp (of_thread prefix t) ≡ seat.0.stamp = thread-last x t (of_thread prefix t) seat.0 seat.1 in
      let object_stamp : last_stamp (of_object prefix o) ≡ place.0.stamp = object-last x l (of_object prefix o) place.0 place.1 in
      let b : ObjectState = object_state_at x o d.0 place.0 in (
        record {
          objects = slice_set j.objects o (entered b e history.2.0.state);
          threads = slice_set j.threads t (stepped seat.0 e);
        },
        record {
          happens = record {
            thread_state = seat.0;
            thread = seat.2;
            object_state = b;
            object = place.2;
            place = goes_on.place;
            at = follows.at;
            stamp = stamp ∙ ap (λ (n : ℕ). suc (max n (last_stamp (of_object prefix o)))) thread_stamp ∙ ap (λ (n : ℕ). suc (max seat.0.stamp n)) object_stamp;
            state = history.2.0.state;
            lawful = follows.lawful;
            objects = refl;
            threads = refl;
          };
          may = goes_on.may;
        },
      )

  abbrev Runs : List Entry → Type 0
  Runs es = (k : JointState) × IsJointRun x es k × IsReached x (of_thread es) (of_object es) k

  interleave-from : (back prefix : List Entry) (j : JointState) → AreInRange x (prefix ++ back) → AreBeginnings x made seen (prefix ++ back)
      → IsJointRun x prefix j → IsReached x (of_thread prefix) (of_object prefix) j → Runs (prefix ++ back)
  interleave-from [] prefix j range begins run reached = subst Runs (sym (append-nil prefix)) (j, run, reached)
  interleave-from (e ∷ back) prefix j range begins run reached =
      let after = next prefix back e j range begins reached in
      let same : prefix ++ e ∷ [] ++ back ≡ prefix ++ e ∷ back = append_assoc prefix (e ∷ []) back in
      subst Runs same
      (interleave-from back (prefix ++ e ∷ []) after.0 (subst (AreInRange x) (sym same) range) (subst (AreBeginnings x made seen) (sym same) begins)
      (Leads-snoc (JointStep x) prefix e (start x) j after.0 run after.1) (reached-step x prefix j e after.0 reached after.1))

  -- a list that has of each thread and object a beginning of what it recorded is a joint run
  pub interleave : (es : List Entry) → AreInRange x es → AreBeginnings x made seen es → Runs es
  interleave es range begins = interleave-from es [] (start x) range begins refl (reached-start x)

module _ (x : ExerciseView) where
  -- a run has its threads and objects where their own events leave them
  pub run-reaches : (es : List Entry) (j : JointState) → IsJointRun x es j → IsReached x (of_thread es) (of_object es) j × AreInRange x es
  run-reaches es j run = runs-keep (JointStep x) Holds keep es [] (start x) j (reached-start x, (λ e within. absurd (Contains-none e within))) run
    where
      Holds : List Entry → JointState → Type 0
      Holds fs k = IsReached x (of_thread fs) (of_object fs) k × AreInRange x fs

      keep : (fs : List Entry) (p : JointState) (e : Entry) (q : JointState) → Holds fs p → JointStep x p e q → Holds (fs ++ e ∷ []) q
      keep fs p e q holds step =
          let reached = holds.0 in
          let among : e.object < length x.objects = subst (λ n. e.object < n) reached.object_count (slice_get_within p.objects e.object step.happens.object_state step.happens.object) in
          let known : e.thread < length p.threads = slice_get_within p.threads e.thread step.happens.thread_state step.happens.thread in (
            reached-step x fs p e q reached step,
            λ f within. ⊎_elim
                (λ (before : Contains fs f). holds.1 f before)
                (λ (last : e ≡ f). subst (λ (g : Entry). (g.thread ≤ length x.programs) × (g.object < length x.objects)) last (omega (arith, known, reached.thread_count), among))
                (Contains-push_cases fs e f within),
          )

  -- a step finds its thread and its object with the stamps of their last events
  step-stamp : (prefix : List Entry) (j : JointState) (e : Entry) (k : JointState) → IsJointRun x prefix j → JointStep x j e k
      → e.stamp ≡ suc (max (last_stamp (of_thread prefix e.thread)) (last_stamp (of_object prefix e.object)))
  step-stamp prefix j e k run step =
      let reached = (run-reaches prefix j run).0 in
      let among : e.object < length x.objects = subst (λ n. e.object < n) reached.object_count (slice_get_within j.objects e.object step.happens.object_state step.happens.object) in
      let known : e.thread < length j.threads = slice_get_within j.threads e.thread step.happens.thread_state step.happens.thread in
      let d = found_at x.objects e.object among in
      let seat = reached.threads e.thread (omega (arith, known, reached.thread_count)) in
      let place = reached.objects e.object d.0 d.1 in
      let seat_one : step.happens.thread_state ≡ seat.0 = let found = step.happens.thread in let there = seat.2 in cc in
      let place_one : step.happens.object_state ≡ object_state_at x e.object d.0 place.0 = let found = step.happens.object in let there = place.2 in cc in
      let thread : step.happens.thread_state.stamp ≡ seat.0.stamp = ap (λ (s : ThreadState). s.stamp) seat_one in
      let object : step.happens.object_state.stamp ≡ place.0.stamp = ap (λ (b : ObjectState). b.stamp) place_one in
      let thread_last = thread-last x e.thread (of_thread prefix e.thread) seat.0 seat.1 in
      let object_last = object-last x (label_of x e.object d.0) (of_object prefix e.object) place.0 place.1 in
      omega (arith, step.happens.stamp, thread, object, thread_last, object_last)

  -- the events of a thread, or of an object, stand once
  run-once : (es : List Entry) (j : JointState) → IsJointRun x es j → (e : Entry) → Contains es e → AppearOnce (of_thread es e.thread) × AppearOnce (of_object es e.object)
  run-once es j run e within =
      let all = run-reaches es j run in
      let known = all.1 e within in
      let d = found_at x.objects e.object known.1 in
      let seat = all.0.threads e.thread known.0 in
      let place = all.0.objects e.object d.0 d.1 in (
        RunFrom-once (λ f. f.place) 1 (of_thread es e.thread) (thread-numbered x e.thread (of_thread es e.thread) seat.0 seat.1),
        RunFrom-once (λ f. f.at) 1 (of_object es e.object) (object-numbered x (label_of x e.object d.0) (of_object es e.object) place.0 place.1),
      )

  pub run-clocked : (es : List Entry) (j : JointState) → IsJointRun x es j → IsClocked (of_thread es) (of_object es)
  run-clocked es j run e earlier later before after by_thread by_object =
      let kept : Contains (of_thread es e.thread) e = subst (λ (l : List Entry). Contains l e) (sym by_thread) (Contains-middle earlier later e) in
      let within : Contains es e = (Contains-filtered (λ (f : Entry). f.thread == e.thread) es e kept).0 in
      let once = run-once es j run e within in
      let cut = Contains-parts es e within in
      let parts = Leads-split (JointStep x) cut.0 (e ∷ cut.1) (start x) j (subst (λ (l : List Entry). IsJointRun x l j) cut.2 run) in
      let thread : of_thread cut.0 e.thread ≡ earlier =
      kept-prefix (λ (f : Entry). f.thread == e.thread) es cut.0 cut.1 earlier later e cut.2 (eq-eqb e.thread e.thread refl) once.0 by_thread in
      let object : of_object cut.0 e.object ≡ before =
      kept-prefix (λ (f : Entry). f.object == e.object) es cut.0 cut.1 before after e cut.2 (eq-eqb e.object e.object refl) once.1 by_object in
      let stamp = step-stamp cut.0 parts.0 e parts.2.0 parts.1 parts.2.1 in
      subst (λ (l : List Entry). e.stamp ≡ suc (max (last_stamp l) (last_stamp before))) thread
      (subst (λ (l : List Entry). e.stamp ≡ suc (max (last_stamp (of_thread cut.0 e.thread)) (last_stamp l))) object stamp)

  pub run-interleaves : (es : List Entry) (j : JointState) → IsJointRun x es j → IsInterleaving x es j
  run-interleaves es j run = record { range = (run-reaches es j run).1; reached = (run-reaches es j run).0; clocked = run-clocked es j run }

  pub reached-recorded : (made seen : ℕ → List Entry) (j : JointState) → IsReached x made seen j → IsRecorded x made seen
  reached-recorded made seen j reached = record {
    objects = λ o d found. let at = reached.objects o d found in (at.0, at.1);
    threads = λ t known. let at = reached.threads t known in (at.0, at.1);
  }

  pub interleaving-run : (es : List Entry) (j : JointState) → IsInterleaving x es j → IsJointRun x es j
  interleaving-run es j interleaving =
      let begins : AreBeginnings x (of_thread es) (of_object es) es = record {
        threads = λ t known. ([], sym (append-nil (of_thread es t)));
        objects = λ o known. ([], sym (append-nil (of_object es o)));
      } in
      let run = interleave x (of_thread es) (of_object es) (reached-recorded (of_thread es) (of_object es) j interleaving.reached) interleaving.clocked es interleaving.range begins in
      subst (IsJointRun x es) (reached-one x (of_thread es) (of_object es) run.0 j run.2 interleaving.reached) run.1

  pub run-one : (es : List Entry) (j k : JointState) → IsJointRun x es j → IsJointRun x es k → j ≡ k
  run-one es j k left right = reached-one x (of_thread es) (of_object es) j k (run-reaches es j left).0 (run-reaches es k right).0
