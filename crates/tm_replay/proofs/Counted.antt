-- Places and stamps stay below the number of events.
use Rattle.std.proofs.Common.{◌≡◌, ◌≢◌, ℕ, ◌+◌, ◌≤◌, ⊎_elim, Bool, true, false, if◌then◌else◌, List, Some, slice_get, slice_set, sym, subst, arith}
use Rattle.tm_base.specs.declared.events.Entry.{Entry}
use Rattle.tm_text.specs.Exercises.{ExerciseView}
use Rattle.tm_replay.specs.JointStates.{JointState, ThreadState, ObjectState}
use Rattle.tm_base.specs.Fits.{is_call}
use Rattle.tm_replay.specs.JointSteps.{JointStep, stepped, entered}
use Rattle.tm_replay.specs.Work.{IsCounted}
use Rattle.tm_replay.proofs.SliceLemmas.{slice_get-set_cases}

at_most_one : (b : Bool) → (if b then 1 else 0) ≤ 1
at_most_one true = omega arith
at_most_one false = omega arith

pub IsCounted-step : (x : ExerciseView) (n : ℕ) (j k : JointState) (e : Entry) → IsCounted n j → JointStep x j e k → IsCounted (n + 1) k
IsCounted-step x n j k e counted step =
    let happens = step.happens in
    let s : ThreadState = happens.thread_state in
    let b : ObjectState = happens.object_state in
    let old = counted.threads e.thread s happens.thread in
    let was = counted.objects e.object b happens.object in
    record {
      threads = λ t r h.
          let h' : slice_get (slice_set j.threads e.thread (stepped s e)) t ≡ Some r = subst (λ (l : List ThreadState). slice_get l t ≡ Some r) happens.threads h in
          ⊎_elim
          (λ (same : (t ≡ e.thread) × (r ≡ stepped s e)).
          subst (λ (u : ThreadState). (u.next ≤ n + 1 + 1) × (u.stamp ≤ n + 1) × (u.made ≤ n + 1)) (sym same.1)
          (omega (arith, happens.place, old.0), omega (arith, happens.stamp, old.1, was.1), omega (arith, old.2, at_most_one (is_call e.op))))
          (λ (other : (t ≢ e.thread) × (slice_get j.threads t ≡ Some r)).
          let c = counted.threads t r other.1 in (omega (arith, c.0), omega (arith, c.1), omega (arith, c.2)))
          (slice_get-set_cases j.threads e.thread t (stepped s e) r h');
      objects = λ o c h.
          let h' : slice_get (slice_set j.objects e.object (entered b e happens.state)) o ≡ Some c = subst (λ (l : List ObjectState). slice_get l o ≡ Some c) happens.objects h in
          ⊎_elim
          (λ (same : (o ≡ e.object) × (c ≡ entered b e happens.state)).
          subst (λ (u : ObjectState). (u.at ≤ n + 1) × (u.stamp ≤ n + 1)) (sym same.1)
          (omega (arith, happens.at, was.0), omega (arith, happens.stamp, old.1, was.1)))
          (λ (other : (o ≢ e.object) × (slice_get j.objects o ≡ Some c)).
          let d = counted.objects o c other.1 in (omega (arith, d.0), omega (arith, d.1)))
          (slice_get-set_cases j.objects e.object o (entered b e happens.state) c h');
    }
