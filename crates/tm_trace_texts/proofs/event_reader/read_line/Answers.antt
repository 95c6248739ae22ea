use Rattle.std.proofs.Common.{◌≡◌, List, [], ◌∷◌, ◌++◌, ⊎_elim, Contains, sym, ◌∙◌, subst}
use Rattle.std.proofs.lemmas.List.Elements.{Contains-push_cases}
use Rattle.tm_base.specs.declared.events.Entry.{Entry}
use Rattle.tm_text.specs.Exercises.{ExerciseView}
use Rattle.tm_timeline.specs.TraceableEvents.{IsTraceable}
use Rattle.tm_trace.specs.Traces.{AreTraceable}
use Rattle.tm_trace_texts.specs.Readings.{Reads}
use Rattle.tm_trace_texts.proofs.EventLinesLemmas.{reads-event}
use Rattle.tm_trace_texts.proofs.event_reader.read_line.Goals as goal

pushed : (x : ExerciseView) (es fs : List Entry) (a : Entry) → fs ≡ es ++ a ∷ [] → AreTraceable x es → IsTraceable x a → AreTraceable x fs
pushed x es fs a more before here e there = ⊎_elim
    (λ (old : Contains es e). before e old)
    (λ (new : a ≡ e). subst (IsTraceable x) new here)
    (Contains-push_cases es a e (subst (λ (l : List Entry). Contains l e) more there))

pub returns-in-Ok-push-clause-read : goal.returns-in-Ok-push-clause-read
returns-in-Ok-push-clause-read c =
    let x = c.args.reader.now in
    let old = c.args.entries.now.items in
    subst (Reads x c.args.number c.args.line.now old) (sym c.in-Ok-push.ensures.items)
    (reads-event x c.args.number c.args.line.now old c.in-Ok.entry (sym c.is_passed_over.ensures ∙ c.if-is_passed_over.false) c.in-Ok.ensures.read)

pub returns-in-Ok-push-clause-traceable : goal.returns-in-Ok-push-clause-traceable
returns-in-Ok-push-clause-traceable c =
    pushed c.args.reader.now c.args.entries.now.items _ c.in-Ok.entry c.in-Ok-push.ensures.items c.requires c.in-Ok.ensures.traceable
