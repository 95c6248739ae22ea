-- Which of the stored events is shown next.
use Rattle.std.specs.Prelude.{◌≡◌, ◌≢◌, ℕ, ◌<◌, MatchOption, List, Option, Some, slice_get}
use Rattle.tm_base.specs.declared.events.Entry.{Entry}
use Rattle.tm_base.specs.Orders.{IsNotLater}
use Rattle.tm_merge.specs.declared.arrivals.Arrivals.{Arrivals}
use Rattle.tm_merge.specs.declared.arrivals.showing.Candidate.{Candidate}
use Rattle.tm_merge.specs.Showing.{IsReady, IsNext}
use Rattle.tm_merge.specs.StoredArrivals.{view_of}

-- The candidate is the one event of the thread that is ready.
pub record IsReadyIn (a : Arrivals) (t : ℕ) (c : Candidate) : Type 0 where
  pub there : slice_get a.slots.items c.slot ≡ Some (Some c.entry)
  pub ready : IsReady (view_of a) c.entry
  pub thread : c.entry.thread ≡ t
  pub only : (e : Entry) → IsReady (view_of a) e → e.thread ≡ t → e ≡ c.entry

-- No event of the thread is ready.
abbrev pub NoneReadyIn : Arrivals → ℕ → Type 0
NoneReadyIn a t = (e : Entry) → IsReady (view_of a) e → e.thread ≢ t

-- The thread is one of this many first ones of the list.
pub record IsAmong (ts : List ℕ) (n t : ℕ) : Type 0 where
  pub index : ℕ
  pub below : index < n
  pub there : slice_get ts index ≡ Some t

-- The candidate is ready, and no ready event of this many listed threads comes before it.
pub record IsBestIn (a : Arrivals) (n : ℕ) (c : Candidate) : Type 0 where
  pub there : slice_get a.slots.items c.slot ≡ Some (Some c.entry)
  pub ready : IsReady (view_of a) c.entry
  pub soonest : (e : Entry) → IsReady (view_of a) e → IsAmong a.ready.items n e.thread → IsNotLater c.entry e

-- The soonest ready event of this many listed threads, if one is ready.
abbrev pub IsBestBelow : Arrivals → ℕ → Option Candidate → Type 0
IsBestBelow a n best = MatchOption best ((e : Entry) → IsReady (view_of a) e → IsAmong a.ready.items n e.thread → ⊥) (λ c. IsBestIn a n c)

-- The candidate is next.
pub record IsNextIn (a : Arrivals) (c : Candidate) : Type 0 where
  pub there : slice_get a.slots.items c.slot ≡ Some (Some c.entry)
  pub next : IsNext (view_of a) c.entry
