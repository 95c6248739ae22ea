-- Events that are offered to a merger one after the other, before it shows any.
use Rattle.std.specs.Prelude.{◌≡◌, List, [], ◌∷◌, ◌++◌, length, IsPermutation, None, Some}
use Rattle.tm_base.specs.declared.events.Entry.{Entry}
use Rattle.tm_text.specs.Exercises.{ExerciseView}
use Rattle.tm_merge.specs.declared.refusals.Refused.{Refused}
use Rattle.tm_merge.specs.MergerViews.{MergerView}
use Rattle.tm_merge.specs.Refusals.{refusal}
use Rattle.tm_trace.specs.declared.faults.JudgeFault.{JudgeFault}
use Rattle.tm_trace.specs.declared.faults.JudgeFault.TheVariants as fault

-- The merger of the exercise's events to which these arrived, and that shows none yet.
abbrev pub holding : ExerciseView → List Entry → MergerView
holding x es = record { threads = length x.programs; objects = length x.objects; shown = []; held = es }

-- None of the events is refused when it is offered after those before it in the list.
abbrev pub NoneIsRefused : ExerciseView → List Entry → Type 0
NoneIsRefused x es = (prefix back : List Entry) (e : Entry) → es ≡ prefix ++ e ∷ back → refusal (holding x prefix) e ≡ None

-- One of the events is refused with these words, and none before it is.
pub record IsFirstRefusal (x : ExerciseView) (es : List Entry) (r : Refused) : Type 0 where
  pub prefix : List Entry
  pub entry : Entry
  pub back : List Entry
  pub parts : es ≡ prefix ++ entry ∷ back
  pub none_before : NoneIsRefused x prefix
  pub refused : refusal (holding x prefix) entry ≡ Some r

-- The merger took all these events, in the list's order, and shows none yet. It keeps them in no order.
pub record IsOffered (x : ExerciseView) (es : List Entry) (v : MergerView) : Type 0 where
  pub none_refused : NoneIsRefused x es
  pub events : List Entry
  pub permutation : IsPermutation es events
  pub merger : v ≡ holding x events

-- What can go wrong when they are offered.
abbrev pub IsOfferFault : ExerciseView → List Entry → JudgeFault → Type 0
IsOfferFault x es (fault.Refused r) = IsFirstRefusal x es r
IsOfferFault x es (fault.Held hold) = ⊥
IsOfferFault x es (fault.Illegal i) = ⊥
IsOfferFault x es fault.NoMemory = Unit {0}
