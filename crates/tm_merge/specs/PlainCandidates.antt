-- Which of some held events is shown next, by their places in a list.
use Rattle.std.specs.Prelude.{◌≡◌, ℕ, ◌<◌, true, false, MatchOption, Option, Some, slice_get}
use Rattle.tm_base.specs.declared.events.Entry.{Entry}
use Rattle.tm_base.specs.Orders.{IsNotLater}
use Rattle.tm_merge.specs.MergerViews.{MergerView}
use Rattle.tm_merge.specs.Places.{has_predecessors}
use Rattle.tm_merge.specs.Showing.{IsNext, Shows}

-- The event at this place of the list is ready, and no other of the first ones comes before it.
pub record IsSoonestIn (v : MergerView) (n i : ℕ) : Type 0 where
  pub entry : Entry
  pub there : slice_get v.held i ≡ Some entry
  pub ready : has_predecessors v.shown entry ≡ true
  pub soonest : (k : ℕ) (e : Entry) → k < n → slice_get v.held k ≡ Some e → has_predecessors v.shown e ≡ true → IsNotLater entry e

-- The place of the soonest ready event of the first ones, if one is ready.
abbrev pub IsSoonestBelow : MergerView → ℕ → Option ℕ → Type 0
IsSoonestBelow v n best = MatchOption best ((k : ℕ) (e : Entry) → k < n → slice_get v.held k ≡ Some e → has_predecessors v.shown e ≡ false) (λ i. IsSoonestIn v n i)

-- The event at this place of the list is next.
pub record IsNextAt (v : MergerView) (i : ℕ) : Type 0 where
  pub entry : Entry
  pub there : slice_get v.held i ≡ Some entry
  pub next : IsNext v entry

-- One event is shown.
pub record ShowsOne (v w : MergerView) : Type 0 where
  pub entry : Entry
  pub shows : Shows v entry w
