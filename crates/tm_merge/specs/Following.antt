-- Events that directly follow what is shown, and go behind it as they arrive.
use Rattle.std.specs.Prelude.{◌≡◌, ℕ, suc, ◌<◌, nat_eq, [], ◌∷◌, ◌++◌, length, Some, None, slice_get}
use Rattle.std.specs.HashMap.{get}
use Rattle.tm_base.specs.declared.events.Entry.{Entry}
use Rattle.tm_merge.specs.declared.arrivals.Arrivals.{Arrivals}
use Rattle.tm_merge.specs.declared.lines.Line.{Line}
use Rattle.tm_merge.specs.MergerViews.{MergerView}

-- None of the line's events is held.
pub record IsBare (l : Line) : Type 0 where
  pub waiting : l.waiting.items ≡ []
  pub early : (n : ℕ) → get nat_eq l.early n ≡ None

-- An event with this number and stamp is the line's next one, and none is held behind it.
pub record IsFollowedBy (l : Line) (n s : ℕ) : Type 0 where
  pub bare : IsBare l
  pub next : n ≡ suc l.shown
  pub rises : (a : Entry) → l.last ≡ Some a → a.stamp < s

-- The event is the next one of its thread and at its object.
pub record Follows (a : Arrivals) (e : Entry) : Type 0 where
  pub known_thread : e.thread < length a.threads.items
  pub known_object : e.object < length a.objects.items
  pub stamp : 0 < e.stamp
  pub thread : (l : Line) → slice_get a.threads.items e.thread ≡ Some l → IsFollowedBy l e.place e.stamp
  pub object : (l : Line) → slice_get a.objects.items e.object ≡ Some l → IsFollowedBy l e.at e.stamp

-- The event is put behind the shown ones.
pub record Appends (v : MergerView) (e : Entry) (w : MergerView) : Type 0 where
  pub same_threads : w.threads ≡ v.threads
  pub same_objects : w.objects ≡ v.objects
  pub shown : w.shown ≡ v.shown ++ e ∷ []
  pub held : w.held ≡ v.held
