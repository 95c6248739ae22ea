-- What each step on a turn's words tells the thread that makes it.
use Rattle.std.specs.Prelude.{◌≡◌, ◌≢◌, ℕ, suc, ◌^◌, ◌≤◌, false, List, [], ◌∷◌, Option, Some}
use Rattle.atomic_table.specs.Table.{Me}
use Rattle.tm_base.specs.declared.events.Entry.{Entry}
use Rattle.tm_base.specs.declared.operations.Op.TheVariants as op
use Rattle.tm_base.specs.declared.replies.Reply.TheVariants as reply
use Rattle.tm_base.specs.Histories.{Label}
use Rattle.tm_base.specs.Orders.{of_thread}
use Rattle.tm_turn.specs.declared.views.LocalView.{LocalView}
use Rattle.tm_turn.specs.Prefixes.{StartsWith, has}
use Rattle.tm_turn.specs.LocalViews.{taking, missing, noting, giving, learning}
use Rattle.tm_turn.specs.Rule.{IsJoined}

-- An event that stands for none.
abbrev pub no_entry : Entry
no_entry = record { thread = 0; place = 0; object = 0; at = 0; stamp = 0; op = op.Begin; reply = reply.Ok }

-- What a seat knows, and what it has taken out of the slot.
abbrev pub SeatState : Type 0 → Type 0
SeatState V = Me (Option V) LocalView

module _ {V : Type 0} where
  -- The turn was won: the seat has the value, and has seen its events, which are the whole history. They
  -- begin with what it had seen, with no event more of its own, and the value has the turn's label.
  pub record Wins (entries : V → List Entry) (label : V → Label) (m after : SeatState V) : Type 0 where
    pub value : V
    pub took : after.1 ≡ (0, Some value) ∷ []
    pub view : after.0 ≡ taking m.0 (entries value)
    pub same_label : label value ≡ m.0.label
    pub begins : StartsWith (entries value) m.0.seen
    pub mine : of_thread (entries value) m.0.number ≡ of_thread m.0.seen m.0.number

  -- The turn was lost to the pass that the word names, which is another one.
  pub record Loses (m : SeatState V) (found : ℕ) (after : SeatState V) : Type 0 where
    pub took : after.1 ≡ []
    pub view : after.0 ≡ missing m.0 found
    pub other : found ≢ suc m.0.number
    pub small : found ≤ 2 ^ 32

  -- A compare-exchange wins the turn exactly where it finds 0, and else it loses it.
  abbrev pub Tries : (V → List Entry) → (V → Label) → SeatState V → ℕ → SeatState V → Type 0
  Tries entries label m found after = (found ≡ 0 → Wins entries label m after) × (found ≢ 0 → Loses m found after)

  -- The event was counted, and so is one of the history.
  abbrev pub Notes : Entry → SeatState V → SeatState V → Type 0
  Notes e m after = (after.0 ≡ noting m.0 e) × (after.1 ≡ m.1)

  -- The turn was given back, with the value.
  abbrev pub Gives : SeatState V → SeatState V → Type 0
  Gives m after = (after.0 ≡ giving m.0) × (after.1 ≡ [])

  -- Nothing changed. A number that was not given has no event among those that the seat has seen.
  abbrev pub Looks : SeatState V → SeatState V → Type 0
  Looks m after = (after ≡ m) × ((n : ℕ) → n ≢ 0 → has n m.0.given ≡ false → of_thread m.0.seen n ≡ [])

  -- The lists that were kept are joined as the rule says, and none is kept any more.
  abbrev pub Learns : SeatState V → SeatState V → Type 0
  Learns m after = IsJoined m.0 × (after.0 ≡ learning m.0) × (after.1 ≡ m.1)
