-- How a merger takes events and shows them.
use Rattle.std.specs.Prelude.{◌≡◌, ℕ, true, false, List, [], ◌∷◌, ◌++◌, length, Contains}
use Rattle.std.specs.List.Sorted.{IsPermutation}
use Rattle.tm_base.specs.declared.events.Entry.{Entry}
use Rattle.tm_base.specs.Runs.{Leads}
use Rattle.tm_base.specs.Orders.{IsNotLater}
use Rattle.tm_merge.specs.MergerViews.{MergerView}
use Rattle.tm_merge.specs.Places.{has_predecessors}

-- The event arrived, isn't shown, and its direct predecessors are shown.
pub record IsReady (v : MergerView) (e : Entry) : Type 0 where
  pub held : Contains v.held e
  pub after : has_predecessors v.shown e ≡ true

-- The event is ready, and no ready event comes before it.
pub record IsNext (v : MergerView) (e : Entry) : Type 0 where
  pub ready : IsReady v e
  pub soonest : (a : Entry) → IsReady v a → IsNotLater e a

-- The event arrives.
pub record Joins (v : MergerView) (e : Entry) (w : MergerView) : Type 0 where
  pub same_threads : w.threads ≡ v.threads
  pub same_objects : w.objects ≡ v.objects
  pub shown : w.shown ≡ v.shown
  pub held : IsPermutation (e ∷ v.held) w.held

-- The event, which is next, is shown.
pub record Shows (v : MergerView) (e : Entry) (w : MergerView) : Type 0 where
  pub next : IsNext v e
  pub same_threads : w.threads ≡ v.threads
  pub same_objects : w.objects ≡ v.objects
  pub shown : w.shown ≡ v.shown ++ e ∷ []
  pub held : IsPermutation v.held (e ∷ w.held)

-- No event is ready: each that is held lacks a direct predecessor that is shown.
abbrev pub IsSettled : MergerView → Type 0
IsSettled v = (e : Entry) → Contains v.held e → has_predecessors v.shown e ≡ false

-- Events are shown, each time the next one, until none is ready; this many.
pub record Settles (v : MergerView) (n : ℕ) (w : MergerView) : Type 0 where
  pub news : List Entry
  pub steps : Leads Shows v news w
  pub count : n ≡ length news
  pub settled : IsSettled w
