-- What an event makes of the stored joint state.
use Rattle.std.proofs.Common.{◌≡◌, ℕ, ◌+◌, ◌<◌, ◌^◌, max, Some, slice_get, slice_set, ap, sym, ◌∙◌, subst, arith}
use Rattle.tm_base.specs.declared.events.Entry.{Entry}
use Rattle.tm_base.specs.States.{State}
use Rattle.tm_base.specs.Histories.{Lawful}
use Rattle.tm_text.specs.Exercises.{ExerciseView}
use Rattle.tm_replay.specs.JointStates.{JointState, ThreadState, ObjectState}
use Rattle.tm_replay.specs.JointSteps.{JointStep, entered, stepped}
use Rattle.tm_replay.proofs.Counted.{IsCounted-step}
use Rattle.tm_replay.proofs.Soundness.{IsSoundJoint-step}
use Rattle.tm_joint.specs.Refusals.{HasAnswer, IsAllowed, IsLegal}
use Rattle.tm_joint.specs.Joints.{IsKept, JointView}

module _ (x : ExerciseView) (j : JointState) (e : Entry) (legal : IsLegal x j e) (s : ThreadState) (b : ObjectState)
    (thread : slice_get j.threads e.thread ≡ Some s) (object : slice_get j.objects e.object ≡ Some b) where
  same_thread : legal.thread_state ≡ s
  same_thread = let both : Some legal.thread_state ≡ Some s = sym legal.thread ∙ thread in cc

  same_object : legal.object_state ≡ b
  same_object = let both : Some legal.object_state ≡ Some b = sym legal.object ∙ object in cc

  pub allowed-here : IsAllowed x s b e
  allowed-here =
      subst (λ (r : ThreadState). IsAllowed x r b e) same_thread
      (subst (λ (c : ObjectState). IsAllowed x legal.thread_state c e) same_object legal.allowed)

  pub answer-here : HasAnswer b.view e.thread e.op e.reply
  answer-here = subst (λ (c : ObjectState). HasAnswer c.view e.thread e.op e.reply) same_object legal.answer

  -- the event is a joint step
  pub performs : (r : ThreadState) (c : ObjectState) → r ≡ stepped s e → (s' : State) × Lawful b.view e.thread e.op e.reply s' × (c ≡ entered b e s')
      → JointStep x j e (record { objects = slice_set j.objects e.object c; threads = slice_set j.threads e.thread r })
  performs r c goes enters = record {
    happens = record {
      thread_state = s;
      thread = thread;
      object_state = b;
      object = object;
      place = allowed-here.timely.in_place.place;
      at = allowed-here.timely.in_place.at;
      stamp = allowed-here.timely.stamp;
      state = enters.0;
      lawful = enters.1;
      objects = ap (slice_set j.objects e.object) enters.2;
      threads = ap (slice_set j.threads e.thread) goes;
    };
    may = allowed-here.may;
  }

-- the replayer keeps what it keeps
pub IsKept-step : (v : JointView) (e : Entry) (k : JointState) (n last : ℕ) → IsKept v → v.applied < 2 ^ 62 → JointStep v.exercise v.state e k → n ≡ v.applied + 1 → last ≡ max v.last_stamp e.stamp
    → IsKept (record { exercise = v.exercise; state = k; applied = n; last_stamp = last })
IsKept-step v e k n last kept few step counts stamps =
    let s = step.happens.thread_state in
    let b = step.happens.object_state in
    let old = kept.counted.threads e.thread s step.happens.thread in
    let was = kept.counted.objects e.object b step.happens.object in
    subst (λ (m : ℕ). IsKept (record { exercise = v.exercise; state = k; applied = m; last_stamp = last })) (sym counts)
    (record {
      formed = kept.formed;
      sound = IsSoundJoint-step v.exercise v.state k e kept.formed kept.sound step;
      counted = IsCounted-step v.exercise v.applied v.state k e kept.counted step;
      few = omega (arith, few);
      stamp = omega (arith, stamps, kept.stamp, step.happens.stamp, old.1, was.1);
    })
