-- The rule of a turn: there is one holder at most, and one history, of which each pass has seen a beginning.
use Rattle.std.specs.Prelude.{◌≡◌, ◌≢◌, ℕ, suc, ◌^◌, ◌<◌, true, false, List, [], ◌∷◌, length, Option, Some, None, slice_index}
use mathlib.Core.Option.{some}
use mathlib.Core.Option as maybe
use lib.ListN.{get_elem?}
use Rattle.atomic_table.specs.Table.{State}
use Rattle.tm_base.specs.declared.events.Entry.{Entry}
use Rattle.tm_base.specs.Histories.{Label}
use Rattle.tm_base.specs.Orders.{of_thread}
use Rattle.tm_turn.specs.declared.views.LocalView.{LocalView}
use Rattle.tm_turn.specs.Prefixes.{StartsWith, has}

-- Pass 0 knows which numbers were given and absorbed, and has seen all events of those absorbed.
pub record IsRoot (history : List Entry) (given absorbed : List ℕ) (v : LocalView) : Type 0 where
  pub given_all : v.given ≡ given
  pub absorbed_all : v.absorbed ≡ absorbed
  pub theirs : (n : ℕ) → has n absorbed ≡ true → of_thread history n ≡ of_thread v.seen n

-- Every other pass has a number that was given and isn't absorbed, and it absorbs none.
pub record IsGiven (given absorbed : List ℕ) (v : LocalView) : Type 0 where
  pub in_given : has v.number given ≡ true
  pub still_out : has v.number absorbed ≡ false
  pub absorbs_none : v.absorbed ≡ []

-- A pass has seen all events with its number.
pub record IsLive (history : List Entry) (given absorbed : List ℕ) (v : LocalView) : Type 0 where
  pub small : v.number < 2 ^ 32
  pub mine : of_thread history v.number ≡ of_thread v.seen v.number
  pub root : v.number ≡ 0 → IsRoot history given absorbed v
  pub other : v.number ≢ 0 → IsGiven given absorbed v

-- What a view keeps between a join and the load that learns from it. What it has seen begins with both
-- lists. Of the events with its own number, and with a number that it absorbed before, its own list had
-- all. Of those with the number of the pass that was joined that pass's list had all, and that number was
-- not absorbed before.
pub record IsJoined (v : LocalView) : Type 0 where
  pub begins : StartsWith v.seen v.first
  pub begins_other : StartsWith v.seen v.second
  pub mine : of_thread v.seen v.number ≡ of_thread v.first v.number
  pub before : (n : ℕ) → has n v.absorbed ≡ true → v.joined ≢ Some n → of_thread v.seen n ≡ of_thread v.first n
  pub theirs : (n : ℕ) → v.joined ≡ Some n → of_thread v.seen n ≡ of_thread v.second n
  pub once : (n : ℕ) (earlier : List ℕ) → v.joined ≡ Some n → v.absorbed ≡ n ∷ earlier → has n earlier ≡ false

-- What the rule says of the view of one seat. Unless it is spent it has the turn's label, and has seen a
-- beginning of the history. A pass has seen its own events, only the holder holds the turn, and lists that
-- are kept are joined.
pub record IsConsistent (key : Label) (history : List Entry) (given absorbed : List ℕ) (holder : Option ℕ) (seat : ℕ) (v : LocalView) : Type 0 where
  pub label : v.knows ≡ true → v.label ≡ key
  pub begins : v.knows ≡ true → StartsWith history v.seen
  pub live : v.lives ≡ true → IsLive history given absorbed v
  pub holds : v.holds ≡ true → holder ≡ Some seat
  pub joined : v.keeps ≡ true → IsJoined v

-- The holder's view: a pass that holds the turn, has seen the whole history, and is named by the word
-- `holder`.
pub record IsHolder (word : ℕ) (history : List Entry) (v : LocalView) : Type 0 where
  pub holds : v.holds ≡ true
  pub knows : v.knows ≡ true
  pub lives : v.lives ≡ true
  pub whole : v.seen ≡ history
  pub named : word ≡ suc v.number

module _ {V : Type 0} (entries : V → List Entry) (label : V → Label) where
  -- The value is at home, its events are the history, and it has the turn's label.
  pub record IsHome (key : Label) (homes : List (maybe.Option (Option V))) (history : List Entry) : Type 0 where
    pub value : V
    pub home : get_elem? homes 0 ≡ some (some (Some value))
    pub list : entries value ≡ history
    pub same_label : label value ≡ key

  -- Nobody holds the turn: the word `holder` is 0, and the value is at home. Or the pass at one seat holds
  -- it.
  abbrev pub IsHeld : Label → State (Option V) LocalView → List Entry → Option ℕ → Type 0
  IsHeld key s history None = (slice_index s.words 0 ≡ 0) × IsHome key s.homes history
  IsHeld key s history (Some seat) = (v : LocalView) × (get_elem? s.views seat ≡ some v) × IsHolder (slice_index s.words 0) history v

  -- The rule, which holds between any two steps. There is one history, and one holder or none. The word
  -- `count` is the history's length. Each view is consistent with this. No two passes have one number. A
  -- number that was absorbed was given before. A number that is neither 0 nor given has no event.
  pub record FollowsRule (key : Label) (s : State (Option V) LocalView) : Type 0 where
    pub history : List Entry
    pub given : List ℕ
    pub absorbed : List ℕ
    pub holder : Option ℕ
    pub wide : length s.words ≡ 2
    pub count : slice_index s.words 1 ≡ length history
    pub turn : IsHeld key s history holder
    pub each : (j : ℕ) (v : LocalView) → get_elem? s.views j ≡ some v → IsConsistent key history given absorbed holder j v
    pub apart : (i j : ℕ) (v w : LocalView) → get_elem? s.views i ≡ some v → get_elem? s.views j ≡ some w
        → v.lives ≡ true → w.lives ≡ true → v.number ≡ w.number → i ≡ j
    pub given_first : (n : ℕ) → has n absorbed ≡ true → (has n given ≡ true) × (n ≢ 0)
    pub strangers : (n : ℕ) → n ≢ 0 → has n given ≡ false → of_thread history n ≡ []
