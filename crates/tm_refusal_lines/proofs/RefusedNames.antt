-- The events of a refusal stand in the trace.
use Rattle.std.proofs.Common.{◌≡◌, ◌<◌, ◌≤◌, List, ◌∷◌, length, Some, Contains, sym, subst, arith}
use Rattle.std.proofs.lemmas.Bool.Decides.{nat_tests}
use Rattle.std.proofs.lemmas.List.Elements.{Contains-append_left}
use Rattle.tm_base.specs.declared.events.Entry.{Entry}
use Rattle.tm_text.specs.Exercises.{ExerciseView}
use Rattle.tm_timeline.specs.TraceableEvents.{IsTraceable}
use Rattle.tm_merge.specs.declared.refusals.Field.{Field}
use Rattle.tm_merge.specs.declared.refusals.Refused.{Refused}
use Rattle.tm_merge.specs.declared.refusals.Refused.TheVariants as refused
use Rattle.tm_merge.specs.Refusals.{IsFounded, range_fault}
use Rattle.tm_merge.proofs.FoundedLemmas.{founded}
use Rattle.tm_order.proofs.Elements.{Contains-middle}
use Rattle.tm_trace.specs.Offering.{holding, IsFirstRefusal}
use Rattle.tm_trace.specs.Traces.{AreTraceable}
use Rattle.tm_refusal_lines.specs.KnownNames.{IsRefusedOf}

-- no number of an event of a trace is out of range
in_range : (x : ExerciseView) (prefix : List Entry) (e : Entry) (f : Field) → e.thread ≤ length x.programs → e.object < length x.objects → 1 ≤ e.place → 1 ≤ e.at → 1 ≤ e.stamp
    → range_fault (holding x prefix) e ≡ Some f → ⊥
in_range x prefix e f thread object place at stamp h = grind (arith, nat_tests)

pub refused-names : (x : ExerciseView) (es : List Entry) (r : Refused) → AreTraceable x es → IsFirstRefusal x es r → IsRefusedOf x r
refused-names x es r traceable first = go r (founded (holding x first.prefix) first.entry r first.refused)
  where
    new_one : IsTraceable x first.entry
    new_one = traceable first.entry (subst (λ (l : List Entry). Contains l first.entry) (sym first.parts) (Contains-middle first.prefix first.back first.entry))

    earlier : (a : Entry) → Contains first.prefix a → IsTraceable x a
    earlier a before = traceable a (subst (λ (l : List Entry). Contains l a) (sym first.parts) (Contains-append_left first.prefix (first.entry ∷ first.back) a before))

    go : (s : Refused) → IsFounded (holding x first.prefix) first.entry s → IsRefusedOf x s
    go (refused.TwicePlace kept new) h = (earlier kept h.1, subst (IsTraceable x) (sym h.0) new_one)
    go (refused.StampOrder kept new) h = (earlier kept h.1, subst (IsTraceable x) (sym h.0) new_one)
    go (refused.OutOfRange f) h = in_range x first.prefix first.entry f new_one.thread new_one.object new_one.place.first new_one.at.first new_one.stamp.first h
    go refused.NoMemory h = h
