-- Events that a merger took, and then showed until none was ready.
use Rattle.std.proofs.Common.{◌≡◌, ◌<◌, true, false, List, [], ◌∷◌, ◌++◌, length, refl, sym, ap, ◌∙◌, subst, arith}
use Rattle.std.specs.Prelude.{IsPermutation}
use Rattle.std.proofs.lemmas.Bool.{false≢true}
use Rattle.std.proofs.lemmas.List.{append-nil}
use Rattle.std.proofs.lemmas.List.Sorted.{Contains-permutation, IsPermutation-sym, IsPermutation-trans}
use Rattle.tm_base.specs.declared.events.Entry.{Entry}
use Rattle.tm_text.specs.Exercises.{ExerciseView}
use Rattle.tm_merge.specs.MergerViews.{MergerView, arrived}
use Rattle.tm_merge.proofs.ArrivedLemmas.{arrived-settles}
use Rattle.tm_order.specs.Interleavings.{AreInRange}
use Rattle.tm_trace.specs.Merging.{HoldsNothing, IsMerged}
use Rattle.tm_trace.proofs.OfferingLemmas.{taken-range}

module _ (x : ExerciseView) (es : List Entry) (v : MergerView) (merged : IsMerged x es v) where
  -- the events are those that are shown and those that are held
  pub merged-arrived : IsPermutation es (arrived v)
  merged-arrived =
      let before : IsPermutation es (arrived merged.before) =
      subst (λ (u : MergerView). IsPermutation es (arrived u)) (sym merged.offered.merger) merged.offered.permutation in
      IsPermutation-trans es (arrived merged.before) (arrived v) before (arrived-settles merged.before v merged.settles.news merged.settles.steps)

pub none-held : (es : List Entry) → (0 < length es → false ≡ true) → es ≡ []
none-held [] some = refl
none-held (e ∷ es) some = absurd (false≢true (some (omega arith)))

module _ (x : ExerciseView) (es : List Entry) (v : MergerView) (whole : HoldsNothing x es v) where
  pub whole-shown : IsPermutation es v.shown
  whole-shown =
      let all : arrived v ≡ v.shown = ap (λ (l : List Entry). v.shown ++ l) whole.nothing_held ∙ append-nil v.shown in
      subst (IsPermutation es) all (merged-arrived x es v whole.merged)

  pub whole-range : AreInRange x v.shown
  whole-range e within = taken-range x es whole.merged.offered.none_refused e (Contains-permutation v.shown es e (IsPermutation-sym es v.shown whole-shown) within)
