-- What well placed events have: no two share a place.
use Rattle.std.specs.Prelude.{◌≡◌, List, ◌∷◌, ◌++◌, Contains}
use Rattle.tm_base.specs.declared.events.Entry.{Entry}
use Rattle.tm_base.specs.Orders.{IsWellPlaced}

-- The events are at different places of their thread, or in different threads.
abbrev pub AreApartInThread : Entry → Entry → Type 0
AreApartInThread a b = a.thread ≡ b.thread → a.place ≡ b.place → ⊥

-- The same at their object.
abbrev pub AreApartAtObject : Entry → Entry → Type 0
AreApartAtObject a b = a.object ≡ b.object → a.at ≡ b.at → ⊥

-- In a well placed list an event shares no place with one before it.
abbrev pub PlacesAreApart : Type 0
PlacesAreApart = (es prefix back : List Entry) (a b : Entry) → IsWellPlaced es → es ≡ prefix ++ b ∷ back → Contains prefix a
    → AreApartInThread a b × AreApartAtObject a b
