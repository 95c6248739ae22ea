-- One turn, and one thread's place in it.
use Rattle.std.proofs.Common.{◌≡◌, ℕ, List, Some, slice_get, ap, sym, ◌∙◌}
use Rattle.tm_base.specs.declared.events.Entry.{Entry}
use Rattle.tm_replay.specs.JointStates.{JointState}
use Rattle.tm_replay.specs.JointSteps.{Happens}
use Rattle.tm_session.specs.Turns.{RunState}

pub turn-alike : (p q : RunState) → p.joint ≡ q.joint → p.last ≡ q.last → p.draw ≡ q.draw → p.stops ≡ q.stops → p ≡ q
turn-alike p q joint last draw stops =
    ap (λ j. made j p.last p.draw p.stops) joint
    ∙ ap (λ n. made q.joint n p.draw p.stops) last
    ∙ ap (λ n. made q.joint q.last n p.stops) draw
    ∙ ap (made q.joint q.last q.draw) stops
  where
    made : JointState → ℕ → ℕ → List ℕ → RunState
    made joint last draw stops = record { joint = joint; last = last; draw = draw; stops = stops }

-- one thread stands at one place
pub same-thread_state : (j k m : JointState) (e f : Entry) (x : Happens j e k) (y : Happens j f m) → e.thread ≡ f.thread → x.thread_state ≡ y.thread_state
same-thread_state j k m e f x y thread =
    let found : Some x.thread_state ≡ Some y.thread_state = sym x.thread ∙ ap (slice_get j.threads) thread ∙ y.thread in cc
