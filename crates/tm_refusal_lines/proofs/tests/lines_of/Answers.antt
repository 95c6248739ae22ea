use Rattle.std.proofs.Common.{◌≡◌, List, [], ◌∷◌, ◌++◌, ⊎_elim, Contains, subst, rules}
use Rattle.std.proofs.lemmas.List.Elements.{Contains-push_cases}
use Rattle.tm_base.specs.declared.events.Entry.{Entry}
use Rattle.tm_text.specs.Exercises.{ExerciseView}
use Rattle.tm_timeline.specs.TraceableEvents.{IsTraceable}
use Rattle.tm_trace.specs.Traces.{AreTraceable}
use Rattle.tm_refusal_lines.proofs.tests.lines_of.Goals as goal

pushed : (x : ExerciseView) (es fs : List Entry) (a : Entry) → fs ≡ es ++ a ∷ [] → AreTraceable x es → IsTraceable x a → AreTraceable x fs
pushed x es fs a more before here e there = ⊎_elim
    (λ (old : Contains es e). before e old)
    (λ (new : a ≡ e). subst (IsTraceable x) new here)
    (Contains-push_cases es a e (subst (λ (l : List Entry). Contains l e) more there))

pub loop-entry-preserved : goal.loop-entry-preserved
loop-entry-preserved g c = pushed c.args.exercise.now c.loop-entry.lines.items _ _ c.in_ok-push.ensures.items c.loop-entry.invariant (c.is_traceable.ensures (search rules))
