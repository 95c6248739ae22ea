-- Events that are applied one after the other.
use Rattle.std.proofs.Common.{◌≡◌, ℕ, suc, ◌+◌, ◌<◌, ◌≤◌, List, ◌++◌, length, get_or, take, drop, drop-cons, Result, Ok, Err, IfErr, sym, ap, ◌∙◌, subst}
use Rattle.std.specs.Result.{IsErrAnd}
use Rattle.std.proofs.lemmas.List.{take_more, take-append-drop}
use Rattle.std.proofs.lemmas.List.Elements.{Contains-get_or}
use Rattle.tm_base.specs.declared.events.Entry.{Entry}
use Rattle.tm_laws.proofs.RunsLemmas.{Leads-snoc}
use Rattle.tm_text.specs.Exercises.{ExerciseView}
use Rattle.tm_replay.specs.JointStates.{JointState, start}
use Rattle.tm_replay.specs.JointSteps.{IsJointRun, JointStep}
use Rattle.tm_joint.specs.declared.refusals.Illegal.{Illegal}
use Rattle.tm_joint.specs.Refusals.{IsIllegal}
use Rattle.tm_order.specs.Interleavings.{AreInRange}
use Rattle.tm_trace.specs.Replaying.{IsFirstIllegal}

-- what holds of the fault that a `?` hands on
pub if_err : {T E : Type 0} (r : Result T E) (Q P : E → Type 0) → IsErrAnd r Q → ((y : E) → Q y → P y) → IfErr r P
if_err (Ok v) Q P given holds = absurd given
if_err (Err y) Q P given holds = holds y given

-- the events up to a place of the list, and the one there, where the replayer's exercise is this one
module _ (x : ExerciseView) (es : List Entry) (i : ℕ) (d : Entry) (y : ExerciseView) (same : y ≡ x) (within : i < length es) where
  pub range-at : AreInRange x es → ((get_or es i d).thread ≤ length y.programs) × ((get_or es i d).object < length y.objects)
  range-at range =
      subst (λ (z : ExerciseView). ((get_or es i d).thread ≤ length z.programs) × ((get_or es i d).object < length z.objects)) (sym same) (range (get_or es i d) (Contains-get_or es i d within))

  module _ (j : JointState) (run : IsJointRun x (take i es) j) where
    pub replayed-next : (k : JointState) → JointStep y j (get_or es i d) k → IsJointRun x (take (i + 1) es) k
    replayed-next k step =
        subst (λ (l : List Entry). IsJointRun x l k) (sym (take_more es i d within))
        (Leads-snoc (JointStep x) (take i es) (get_or es i d) (start x) j k run (subst (λ (z : ExerciseView). JointStep z j (get_or es i d) k) same step))

    pub illegal-here : (refusal : Illegal) → IsIllegal y j (get_or es i d) refusal → IsFirstIllegal x es refusal
    illegal-here refusal illegal = record {
      prefix = take i es;
      entry = get_or es i d;
      back = drop (suc i) es;
      parts = sym (take-append-drop i es) ∙ ap (λ (l : List Entry). take i es ++ l) (drop-cons es i d within);
      joint = j;
      run = run;
      illegal = subst (λ (z : ExerciseView). IsIllegal z j (get_or es i d) refusal) same illegal;
    }
