-- The orders of events: places, happened-before and stamps (Lamport, CACM 1978), and the prefixes that
-- are closed under happened-before, which are consistent cuts.
use Rattle.std.specs.Prelude.{◌≡◌, ℕ, suc, ◌<◌, ◌≤◌, ◌⊎◌, max, Bool, true, ◌&&◌, ◌||◌, ◌==◌, List, [], ◌∷◌, ◌++◌, map, filter, fold, length, count_by, Contains, slice_get, Some}
use Rattle.tm_base.specs.declared.events.Entry.{Entry}

-- The events of one thread, and of one object, in the list's order.
abbrev pub of_thread : List Entry → ℕ → List Entry
of_thread es t = filter (λ e. e.thread == t) es

abbrev pub of_object : List Entry → ℕ → List Entry
of_object es o = filter (λ e. e.object == o) es

-- The numbers of these events run from 1 to how many they are, each once.
abbrev pub AreNumbered : (Entry → ℕ) → List Entry → Type 0
AreNumbered number es = (k : ℕ) → 1 ≤ k → k ≤ length es → count_by (λ e. number e == k) es ≡ 1

-- In each thread the places run from 1, each once, and so do the places in each object.
pub record IsWellPlaced (es : List Entry) : Type 0 where
  pub threads : (t : ℕ) → AreNumbered (λ e. e.place) (of_thread es t)
  pub objects : (o : ℕ) → AreNumbered (λ e. e.at) (of_object es o)

-- The first event stands directly before the second: in their thread, or in their object.
abbrev pub is_direct : Entry → Entry → Bool
is_direct a b = (a.thread == b.thread && suc a.place == b.place) || (a.object == b.object && suc a.at == b.at)

abbrev pub IsDirect : Entry → Entry → Type 0
IsDirect a b = is_direct a b ≡ true

-- A chain of events of the list, each directly before the next: `a`, those between, `b`.
abbrev pub IsChain : List Entry → Entry → List Entry → Entry → Type 0
IsChain es a [] b = Contains es a × Contains es b × IsDirect a b
IsChain es a (m ∷ between) b = Contains es a × IsDirect a m × IsChain es m between b

-- Of the events of the list, `a` happened before `b`: a chain leads from `a` to `b`.
abbrev pub HappenedBefore : List Entry → Entry → Entry → Type 0
HappenedBefore es a b = (between : List Entry) × IsChain es a between b

-- How often the event stands in the list is at most once.
abbrev pub StandsOnce : List Entry → Type 0
StandsOnce es = (i j : ℕ) (e : Entry) → slice_get es i ≡ Some e → slice_get es j ≡ Some e → i ≡ j

-- The cut is closed in the events: it has events of them alone, none twice, and before each of its
-- events all that happened before that one.
pub record IsClosed (cut events : List Entry) : Type 0 where
  pub known : (e : Entry) → Contains cut e → Contains events e
  pub once : StandsOnce cut
  pub closed : (prefix back : List Entry) (a b : Entry) → cut ≡ prefix ++ b ∷ back → HappenedBefore events a b → Contains prefix a

-- The greatest of some numbers, or 0 where there is none.
abbrev pub greatest : List ℕ → ℕ
greatest ns = fold max 0 ns

-- Each event's stamp is 1 plus the greatest stamp of its direct predecessors, or 1 where it has none.
abbrev pub IsStamped : List Entry → Type 0
IsStamped es = (e : Entry) → Contains es e → e.stamp ≡ suc (greatest (map (λ a. a.stamp) (filter (λ a. is_direct a e) es)))

-- Stamps rise from each direct predecessor: Lamport's clock condition.
abbrev pub StampsRise : List Entry → Type 0
StampsRise es = (a b : Entry) → Contains es a → Contains es b → IsDirect a b → a.stamp < b.stamp

-- Each event of the list stands after those events of the list that are its direct predecessors.
abbrev pub KeepsPredecessors : List Entry → Type 0
KeepsPredecessors es = (prefix back : List Entry) (a b : Entry) → es ≡ prefix ++ b ∷ back → Contains es a → IsDirect a b → Contains prefix a

-- The first event has the smaller stamp, or of equal stamps no greater thread number: Lamport's total order, in
-- which threads break the ties.
abbrev pub IsNotLater : Entry → Entry → Type 0
IsNotLater a b = (a.stamp < b.stamp) ⊎ ((a.stamp ≡ b.stamp) × (a.thread ≤ b.thread))

-- The stamp of the last of some events, or 0 where there is none.
abbrev pub last_stamp : List Entry → ℕ
last_stamp es = fold (λ stamp e. e.stamp) 0 es
