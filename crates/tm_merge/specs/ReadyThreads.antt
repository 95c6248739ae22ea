-- The list of the threads of which an event is ready.
use Rattle.std.specs.Prelude.{◌≡◌, ℕ, ◌<◌, ◌≤◌, Bool, true, false, ◌==◌, eqb, if◌then◌else◌, List, [], ◌∷◌, ◌++◌, length}
use Rattle.std.specs.List.{list_any, IsDistinct}
use Rattle.std.specs.Vec.{vec_capacity}
use Rattle.tm_base.specs.declared.events.Entry.{Entry}
use Rattle.tm_merge.specs.declared.arrivals.Arrivals.{Arrivals}
use Rattle.tm_merge.specs.MergerViews.{MergerView}
use Rattle.tm_merge.specs.Showing.{IsReady}
use Rattle.tm_merge.specs.StoredArrivals.{KeepsArrivals, view_of}

-- The thread is in the list.
abbrev pub is_listed : List ℕ → ℕ → Bool
is_listed ts t = list_any (λ x. x == t) ts

-- The list with the thread, at its end if it is new.
abbrev pub with_thread : List ℕ → ℕ → List ℕ
with_thread ts t = if is_listed ts t then ts else ts ++ t ∷ []

-- The thread of each ready event is listed, but for those that the test skips. Each is listed once, and
-- there is room for all threads.
pub record ListsReady (a : Arrivals) (skips : Entry → Bool) : Type 0 where
  pub covers : (e : Entry) → IsReady (view_of a) e → skips e ≡ false → is_listed a.ready.items e.thread ≡ true
  pub known : (t : ℕ) → is_listed a.ready.items t ≡ true → t < length a.threads.items
  pub once : IsDistinct eqb a.ready.items
  pub room : length a.threads.items ≤ vec_capacity a.ready

-- The thread of each ready event is listed.
abbrev pub ListsAllReady : Arrivals → Type 0
ListsAllReady a = ListsReady a (λ _. false)

-- An event of the thread is ready.
pub record HasReady (v : MergerView) (t : ℕ) : Type 0 where
  pub entry : Entry
  pub ready : IsReady v entry
  pub thread : entry.thread ≡ t

-- Of each listed thread an event is ready, but for those that the test skips.
abbrev pub ListsOnlyReady : Arrivals → (skips : ℕ → Bool) → Type 0
ListsOnlyReady a skips = (t : ℕ) → is_listed a.ready.items t ≡ true → skips t ≡ false → HasReady (view_of a) t

-- What arrivals keep between two calls of a merger: just the threads of ready events are listed.
pub record KeepsAll (a : Arrivals) : Type 0 where
  pub keeps : KeepsArrivals a
  pub lists : ListsAllReady a
  pub only : ListsOnlyReady a (λ _. false)
