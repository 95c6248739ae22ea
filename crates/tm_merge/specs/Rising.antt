-- Lists of events in the order of their stamps, and of their threads where stamps are equal.
use Rattle.std.specs.Prelude.{◌≡◌, ℕ, List, [], ◌∷◌, Contains, take, drop}
use Rattle.std.specs.List.Sorted.{IsPermutation}
use Rattle.tm_base.specs.declared.events.Entry.{Entry}
use Rattle.tm_base.specs.Orders.{IsNotLater}
use Rattle.tm_merge.specs.MergerViews.{MergerView}

-- No event comes before one that stands before it.
abbrev pub IsRising : List Entry → Type 0
IsRising [] = Unit {0}
IsRising (e ∷ es) = ((x : Entry) → Contains es x → IsNotLater e x) × IsRising es

-- The events are the same, in that order.
pub record AreSorted (es fs : List Entry) : Type 0 where
  pub same : IsPermutation es fs
  pub rising : IsRising fs

-- The first events, this many, stay, and the others are sorted.
pub record IsSortedFrom (n : ℕ) (es fs : List Entry) : Type 0 where
  pub first : take n fs ≡ take n es
  pub rest : AreSorted (drop n es) (drop n fs)

-- The shown events are sorted, but for this many first ones.
pub record Sorts (n : ℕ) (v w : MergerView) : Type 0 where
  pub same_threads : w.threads ≡ v.threads
  pub same_objects : w.objects ≡ v.objects
  pub shown : IsSortedFrom n v.shown w.shown
  pub held : w.held ≡ v.held
