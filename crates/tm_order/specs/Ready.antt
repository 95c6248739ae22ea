-- Events that are shown one by one, each once the events directly before it are shown.
use Rattle.std.specs.Prelude.{◌≡◌, ℕ, suc, ◌≤◌, ◌⊎◌, List, [], ◌∷◌, ◌++◌, Contains, IsPermutation}
use Rattle.tm_base.specs.declared.events.Entry.{Entry}
use Rattle.tm_base.specs.Orders.{IsWellPlaced, IsNotLater, StampsRise}
use Rattle.tm_order.specs.StampOrder.{IsInStampOrder}

-- Some event shown has the same key, which is the thread or the object, and the number directly before.
abbrev pub IsShownBefore : (Entry → ℕ) → (Entry → ℕ) → List Entry → Entry → Type 0
IsShownBefore key number shown e = (a : Entry) × Contains shown a × (key a ≡ key e) × (suc (number a) ≡ number e)

-- The event may be shown next: of its thread and of its object the place directly before it is shown, or it
-- is the first.
pub record IsReadyAfter (shown : List Entry) (e : Entry) : Type 0 where
  pub thread : (e.place ≤ 1) ⊎ IsShownBefore (λ a. a.thread) (λ a. a.place) shown e
  pub object : (e.at ≤ 1) ⊎ IsShownBefore (λ a. a.object) (λ a. a.at) shown e

-- None of the events that are held back is ready.
abbrev pub NoneIsReady : List Entry → List Entry → Type 0
NoneIsReady shown held = (e : Entry) → Contains held e → IsReadyAfter shown e → ⊥

-- Of well placed events whose stamps rise from direct predecessors none stays held back once none is ready.
abbrev pub AllEventsAreShown : Type 0
AllEventsAreShown = (es shown held : List Entry) → IsWellPlaced es → StampsRise es → IsPermutation es (shown ++ held) → NoneIsReady shown held → held ≡ []

-- Each time an event was shown none of those that were ready is sooner by stamp and thread number.
abbrev pub ShowsSoonest : List Entry → Type 0
ShowsSoonest es = (prefix back : List Entry) (a b : Entry) → es ≡ prefix ++ a ∷ back → Contains back b → IsReadyAfter prefix b → IsNotLater a b

-- Well placed events whose stamps rise, each time the soonest of those ready, stand in the order by stamp.
abbrev pub SoonestFirstSorts : Type 0
SoonestFirstSorts = (es : List Entry) → IsWellPlaced es → StampsRise es → ShowsSoonest es → IsInStampOrder es
