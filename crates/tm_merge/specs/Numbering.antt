-- Lists of events that stand in the order of their places, and so after all that happened before them.
use Rattle.std.specs.Prelude.{◌≡◌, ℕ, suc, ◌<◌, ◌==◌, List, ◌∷◌, ◌++◌, filter, length, Contains}
use Rattle.tm_base.specs.declared.events.Entry.{Entry}
use Rattle.tm_base.specs.Orders.{StandsOnce, IsClosed, KeepsPredecessors}

-- The number of each event is one more than how many events of its line stand before it.
abbrev pub IsNumberedBy : (line number : Entry → ℕ) → List Entry → Type 0
IsNumberedBy line number es = (prefix back : List Entry) (e : Entry) → es ≡ prefix ++ e ∷ back → number e ≡ suc (length (filter (λ a. line a == line e) prefix))

-- The events of each thread stand in the list with places 1, 2, 3 and so on, and so do those at each object.
pub record IsNumbered (es : List Entry) : Type 0 where
  pub threads : IsNumberedBy (λ e. e.thread) (λ e. e.place) es
  pub objects : IsNumberedBy (λ e. e.object) (λ e. e.at) es

-- Places count from 1, and no two events have one place in one thread, or one at one object.
pub record HaveOwnPlaces (es : List Entry) : Type 0 where
  pub counted : (e : Entry) → Contains es e → (0 < e.place) × (0 < e.at)
  pub places : (a b : Entry) → Contains es a → Contains es b → a.thread ≡ b.thread → a.place ≡ b.place → a ≡ b
  pub ats : (a b : Entry) → Contains es a → Contains es b → a.object ≡ b.object → a.at ≡ b.at → a ≡ b

-- The first events of the list, however many, are closed under happened-before in the others: a consistent cut.
abbrev pub PrefixesAreClosed : (es events : List Entry) → Type 0
PrefixesAreClosed es events = (prefix back : List Entry) → es ≡ prefix ++ back → IsClosed prefix events

-- In a numbered list no event stands twice, and each stands after its direct predecessors.
abbrev pub NumberedEventsAreInOrder : Type 0
NumberedEventsAreInOrder = (es : List Entry) → IsNumbered es → KeepsPredecessors es × StandsOnce es

-- The prefixes of a numbered list are closed in all events among which it stands, which may be more than those
-- that have arrived so far.
abbrev pub NumberedEventsAreClosed : Type 0
NumberedEventsAreClosed = (es events : List Entry) → IsNumbered es → ((e : Entry) → Contains es e → Contains events e) → HaveOwnPlaces events → PrefixesAreClosed es events
