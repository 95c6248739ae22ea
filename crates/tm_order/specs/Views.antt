-- What threads know of objects that they share: each has seen a beginning of an object's events, and made
-- events of its own by it.
use Rattle.std.specs.Prelude.{◌≡◌, ℕ, ◌<◌, ◌≤◌, List, ◌∷◌, ◌++◌, length, Contains}
use Rattle.tm_base.specs.declared.events.Entry.{Entry}
use Rattle.tm_base.specs.Orders.{StandsOnce, of_object, of_thread}
use Rattle.tm_text.specs.Exercises.{ExerciseView}
use Rattle.tm_order.specs.Records.{IsClocked, IsRecorded, IsStampedAfter}
use Rattle.tm_order.specs.RecordedRuns.{AreRecorded}

-- The stamps of these events, which one thread made, are its clock: each comes after what the thread made
-- before it and what the thread had seen of the object before it.
abbrev pub KeepsClock : List Entry → (ℕ → List Entry) → Type 0
KeepsClock mine saw = (e : Entry) (earlier later before after : List Entry) → mine ≡ earlier ++ e ∷ later → saw e.object ≡ before ++ e ∷ after
    → IsStampedAfter earlier before e

-- Each thread has seen of each object the first of its events, and among them its own.
pub record AreViews (made seen : ℕ → List Entry) (saw : ℕ → ℕ → List Entry) : Type 0 where
  pub first : (t o : ℕ) → (later : List Entry) × (seen o ≡ saw t o ++ later)
  pub own : (t : ℕ) (e : Entry) → Contains (made t) e → Contains (saw t e.object) e

-- Where each thread keeps its clock by what it has seen, the stamps are Lamport's clocks.
abbrev pub ViewsAreClocked : Type 0
ViewsAreClocked = (made seen : ℕ → List Entry) (saw : ℕ → ℕ → List Entry) → AreViews made seen saw → ((o : ℕ) → StandsOnce (seen o))
    → ((t : ℕ) → KeepsClock (made t) (saw t)) → IsClocked made seen

-- What the threads made on an object is what the object has of them, in one order, and all of it is of the
-- exercise's threads and objects.
pub record RecordsAgree (x : ExerciseView) (made seen : ℕ → List Entry) : Type 0 where
  pub same : (t o : ℕ) → t ≤ length x.programs → o < length x.objects → of_thread (seen o) t ≡ of_object (made t) o
  pub objects : (t : ℕ) (e : Entry) → t ≤ length x.programs → Contains (made t) e → e.object < length x.objects
  pub threads : (o : ℕ) (e : Entry) → o < length x.objects → Contains (seen o) e → e.thread ≤ length x.programs

-- The events are those that the threads made.
pub record AreMade (x : ExerciseView) (made : ℕ → List Entry) (es : List Entry) : Type 0 where
  pub range : (e : Entry) → Contains es e → e.thread ≤ length x.programs
  pub thread : (e : Entry) → Contains es e → Contains (made e.thread) e
  pub threads : (t : ℕ) (e : Entry) → t ≤ length x.programs → Contains (made t) e → Contains es e

-- Where threads and objects agree, the events that the threads made are those that the objects have.
abbrev pub MadeEventsAreRecorded : Type 0
MadeEventsAreRecorded = (x : ExerciseView) (made seen : ℕ → List Entry) (es : List Entry) → IsRecorded x made seen → RecordsAgree x made seen → AreMade x made es → AreRecorded x made seen es
