-- One turn after another.
use Rattle.std.proofs.Common.{◌≡◌, ℕ, ◌+◌, ◌<◌, ◌≤◌, true, false, List, [], ◌∷◌, length, slice_set, ap, sym, ◌∙◌, subst, arith}
use Rattle.std.proofs.lemmas.Option.{slice_get_within}
use Rattle.tm_base.specs.declared.operations.Op.{Op}
use Rattle.tm_base.specs.declared.operations.Op.TheVariants as op
use Rattle.tm_base.specs.declared.events.Entry.{Entry}
use Rattle.tm_base.specs.Runs.{Leads}
use Rattle.tm_laws.proofs.RunsLemmas.{Leads-keeps}
use Rattle.tm_text.specs.Exercises.{ExerciseView, IsWellFormed}
use Rattle.tm_replay.specs.JointStates.{JointState, ObjectState, ThreadState}
use Rattle.tm_base.specs.Fits.{is_call}
use Rattle.tm_replay.specs.JointSteps.{JointStep, IsJointRun, entered}
use Rattle.tm_replay.specs.SoundStates.{IsSoundJoint}
use Rattle.tm_replay.specs.Work.{IsCounted, work}
use Rattle.tm_replay.proofs.JointStartLemmas.{IsSoundJoint-start}
use Rattle.tm_replay.proofs.Soundness.{IsSoundJoint-step}
use Rattle.tm_replay.proofs.Falling.{work-step}
use Rattle.tm_replay.proofs.Counted.{IsCounted-step}
use Rattle.tm_session.specs.declared.alone_runs.AloneRun.{AloneRun}
use Rattle.tm_base.specs.declared.rules.Rules.{Rules}
use Rattle.tm_session.specs.Choices.{draw_after}
use Rattle.tm_session.specs.Turns.{RunState, AreWaited, first_run_state, BeginsAlone, Goes, GoesBy, Halts, KeepsLimit, Moves, due_stops}
use Rattle.tm_session.specs.AloneRuns.{run_state_at, MovesOn, Stops}
use Rattle.tm_session.proofs.Stopping.{due-waited, waited-after}

-- a thread that went on, from a run that differs from the old one in its due objects alone
pub moves : (x : ExerciseView) (rules : Rules) (p : RunState) (mid new : AloneRun) (e : Entry) → mid.collector.joint.state ≡ p.joint → mid.last ≡ p.last → mid.draw ≡ p.draw → mid.stops.items ≡ []
    → (m : MovesOn x rules mid e new) → Moves x rules p e (run_state_at m.joint new)
moves x rules p mid new e joint last draw stops m =
    subst (λ (j : JointState). Moves x rules (record { joint = j; last = p.last; draw = p.draw; stops = p.stops }) e (run_state_at m.joint new)) joint
    (subst (λ (l : ℕ). Moves x rules (record { joint = mid.collector.joint.state; last = l; draw = p.draw; stops = p.stops }) e (run_state_at m.joint new)) last
    (record { step = m.step; draw = m.draw ∙ ap (draw_after rules.schedule) draw; chosen = m.chosen; limit = m.limit; stops = m.stops ∙ stops; last = m.last }))

-- an object that was stopped, from such a run
pub halts : (x : ExerciseView) (p : RunState) (mid new : AloneRun) (object : ℕ) (e : Entry) → mid.collector.joint.state ≡ p.joint → mid.last ≡ p.last → mid.draw ≡ p.draw
    → (s : Stops x mid object e new) → Halts x p object mid.stops.items e (run_state_at s.joint new)
halts x p mid new object e joint last draw s =
    subst (λ (j : JointState). Halts x (record { joint = j; last = p.last; draw = p.draw; stops = p.stops }) object mid.stops.items e (run_state_at s.joint new)) joint
    (record { step = s.step; stop = s.stop; object = s.object; stops = s.stops; last = s.last ∙ last; draw = s.draw ∙ draw })

-- what holds of a turn of a run
pub record IsSoundTurn (x : ExerciseView) (p : RunState) : Type 0 where
  pub sound : IsSoundJoint x p.joint
  pub last : p.last ≤ length x.programs
  pub waited : AreWaited p.joint p.stops

-- a turn is a joint step, and leads to a sound turn
pub turned : (x : ExerciseView) (rules : Rules) (p q : RunState) (e : Entry) → IsWellFormed x → IsSoundTurn x p → Goes x rules p e q → JointStep x p.joint e q.joint × IsSoundTurn x q
turned x rules p q e formed sound goes = go (due_stops p) (due-waited p.joint p.stops sound.waited) goes
  where
    go : (due : List ℕ) → AreWaited p.joint due → GoesBy x rules p due e q → JointStep x p.joint e q.joint × IsSoundTurn x q
    go [] waited m = (
      m.step,
      record {
        sound = IsSoundJoint-step x p.joint q.joint e formed sound.sound m.step;
        last = rw m.last (omega (arith, slice_get_within p.joint.threads e.thread m.step.happens.thread_state m.step.happens.thread, sound.sound.thread_count));
        waited = subst (AreWaited q.joint) (sym m.stops) tt;
      },
    )
    go (object ∷ stops) waited h = (
      h.step,
      record {
        sound = IsSoundJoint-step x p.joint q.joint e formed sound.sound h.step;
        last = rw h.last sound.last;
        waited =
            let left : ObjectState = entered h.step.happens.object_state e h.step.happens.state in
            subst (AreWaited q.joint) (sym h.stops)
            (waited-after p.joint q.joint object left
            (subst (λ (o : ℕ). q.joint.objects ≡ slice_set p.joint.objects o left) h.object h.step.happens.objects) stops waited.1 waited.2);
      },
    )

-- a move's calls are below the limit
below-limit : (limit : ℕ) (s : ThreadState) (o : Op) → KeepsLimit limit s o → is_call o ≡ true → s.made < limit
below-limit limit s (op.End cut) keeps call = absurd (let e : false ≡ true = call in cc)
below-limit limit s o keeps call = keeps call

-- a turn lowers the work that is left
pub turn-falls : (x : ExerciseView) (rules : Rules) (p q : RunState) (e : Entry) → IsWellFormed x → IsSoundTurn x p → Goes x rules p e q → work rules.limit q.joint + 1 ≤ work rules.limit p.joint
turn-falls x rules p q e formed sound goes = go (due_stops p) goes
  where
    go : (due : List ℕ) → GoesBy x rules p due e q → work rules.limit q.joint + 1 ≤ work rules.limit p.joint
    go [] m = work-step x rules.limit p.joint q.joint e formed sound.sound m.step (below-limit rules.limit m.step.happens.thread_state e.op m.limit)
    go (object ∷ stops) h =
        work-step x rules.limit p.joint q.joint e formed sound.sound h.step
        (λ call. absurd (let f : false ≡ true = ap is_call (sym h.stop) ∙ call in cc))

-- a turn keeps places and stamps below the number of events, and lowers the work that is left
pub turn-counts : (x : ExerciseView) (rules : Rules) (n : ℕ) (p q : RunState) (e : Entry) → IsWellFormed x → IsSoundTurn x p → IsCounted n p.joint → Goes x rules p e q
    → IsCounted (n + 1) q.joint × (work rules.limit q.joint + 1 ≤ work rules.limit p.joint)
turn-counts x rules n p q e formed sound counted goes =
    let step = (turned x rules p q e formed sound goes).0 in
    (IsCounted-step x n p.joint q.joint e counted step, turn-falls x rules p q e formed sound goes)

-- an alone run's events are a joint run
pub turns-legal : (x : ExerciseView) (rules : Rules) (es : List Entry) (p q : RunState) → IsWellFormed x → IsSoundTurn x p → Leads (Goes x rules) p es q → Leads (JointStep x) p.joint es q.joint
turns-legal x rules [] p q formed sound run = ap (λ (t : RunState). t.joint) run
turns-legal x rules (e ∷ es) p q formed sound run =
    let t = turned x rules p run.0 e formed sound run.1 in
    (run.0.joint, t.0, turns-legal x rules es run.0 q formed t.1 run.2)

-- a run begins with a sound turn
pub first-sound : (x : ExerciseView) (rules : Rules) → IsWellFormed x → IsSoundTurn x (first_run_state x rules)
first-sound x rules formed = record { sound = IsSoundJoint-start x formed; last = omega arith; waited = tt }

-- and comes to sound turns alone
pub begun-sound : (x : ExerciseView) (rules : Rules) (es : List Entry) (p : RunState) → IsWellFormed x → BeginsAlone x rules es p → IsSoundTurn x p
begun-sound x rules es p formed run =
    Leads-keeps (Goes x rules) (IsSoundTurn x) (λ r e s sound goes. (turned x rules r s e formed sound goes).1) es (first_run_state x rules) p (first-sound x rules formed) run

pub alone-legal : (x : ExerciseView) (rules : Rules) (es : List Entry) (q : RunState) → IsWellFormed x → BeginsAlone x rules es q → IsJointRun x es q.joint
alone-legal x rules es q formed run =
    turns-legal x rules es (first_run_state x rules) q formed (first-sound x rules formed) run
