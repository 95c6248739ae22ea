-- What the stored line of a thread or of an object stands for.
use Rattle.std.specs.Prelude.{◌≡◌, ℕ, suc, ◌-◌, ◌<◌, ◌==◌, nat_le, nat_eq, if◌then◌else◌, MatchBool, Option, Some, None, slice_get}
use Rattle.std.specs.Option.{option_or}
use Rattle.std.specs.HashMap.{get, spare}
use Rattle.std.specs.VecDeque.{deque_len, deque_capacity}
use Rattle.tm_base.specs.declared.events.Entry.{Entry}
use Rattle.tm_merge.specs.declared.lines.Line.{Line}

-- The slot in which the line's event with this number is held, if it is: those that follow what is shown
-- without a gap come first, the others stand by their number.
abbrev pub slot_at : Line → ℕ → Option ℕ
slot_at l n = if nat_le n l.shown then None else option_or (slice_get l.waiting.items (n - suc l.shown)) (get nat_eq l.early n)

-- There is room for the slot of the event with this number.
abbrev pub HasRoomAt : Line → ℕ → Type 0
HasRoomAt l n = MatchBool (n - suc l.shown == deque_len l.waiting) (deque_len l.waiting < deque_capacity l.waiting) (0 < spare l.early)

-- Nothing is shown or held yet.
pub record IsNewLine (l : Line) : Type 0 where
  pub shown : l.shown ≡ 0
  pub last : l.last ≡ None
  pub slots : (k : ℕ) → slot_at l k ≡ None

-- The line shows and holds what it did.
pub record IsSameLine (l m : Line) : Type 0 where
  pub shown : m.shown ≡ l.shown
  pub last : m.last ≡ l.last
  pub slots : (k : ℕ) → slot_at m k ≡ slot_at l k

-- The line holds one more event, with this number in this slot.
pub record Gains (l : Line) (n s : ℕ) (m : Line) : Type 0 where
  pub shown : m.shown ≡ l.shown
  pub last : m.last ≡ l.last
  pub slots : (k : ℕ) → slot_at m k ≡ (if k == n then Some s else slot_at l k)

-- The line shows its event with this number, which was the next, and holds it no more.
pub record ShowsNext (l : Line) (n : ℕ) (e : Entry) (m : Line) : Type 0 where
  pub shown : m.shown ≡ n
  pub last : m.last ≡ Some e
  pub slots : (k : ℕ) → slot_at m k ≡ (if nat_le k n then None else slot_at l k)
