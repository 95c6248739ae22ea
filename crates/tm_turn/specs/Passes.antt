-- What contracts see of a turn, of a pass, and of a value that is held.
use Rattle.std.specs.Prelude.{◌≡◌, ℕ, Bool, true, List}
use Rattle.atomic_table.specs.Seated.{TableId}
use Rattle.tm_base.specs.declared.events.Entry.{Entry}
use Rattle.tm_base.specs.Histories.{Label}
use Rattle.tm_base.specs.Orders.{of_thread}
use Rattle.tm_turn.specs.declared.views.LocalView.{LocalView}

-- Which turn it is, and the object, the kind and the number of threads of its value.
pub record TurnView : Type 0 where
  pub turn : TableId
  pub label : Label

-- Which turn the pass is of, with that turn's label, and which of the turn's seats it has; its number; the
-- events that it has seen; the numbers that were split from it, and those that it absorbed; whether it holds
-- the turn; how often it won the turn; how often it lost it, and the word that it read when it lost last.
pub record PassView : Type 0 where
  pub turn : TableId
  pub label : Label
  pub seat : ℕ
  pub number : ℕ
  pub seen : List Entry
  pub given : List ℕ
  pub absorbed : List ℕ
  pub holds : Bool
  pub turns : ℕ
  pub misses : ℕ
  pub missed : ℕ

-- The pass's own events among those that it has seen.
abbrev pub mine : PassView → List Entry
mine p = of_thread p.seen p.number

-- The pass is one of this turn.
abbrev pub IsPassOf : TurnView → PassView → Type 0
IsPassOf t p = (p.turn ≡ t.turn) × (p.label ≡ t.label)

-- A value that was taken by `taker` is the one that the pass holds: it is the same pass, which holds the
-- turn, and has won it no more since.
abbrev pub IsHeldBy : PassView → PassView → Type 0
IsHeldBy p taker = (p.holds ≡ true) × (taker.turn ≡ p.turn) × (taker.seat ≡ p.seat) × (taker.turns ≡ p.turns)

-- What contracts see of what a seat knows.
abbrev pub pass_view : TableId → ℕ → LocalView → PassView
pass_view turn seat v =
    record {
      turn = turn;
      label = v.label;
      seat = seat;
      number = v.number;
      seen = v.seen;
      given = v.given;
      absorbed = v.absorbed;
      holds = v.holds;
      turns = v.turns;
      misses = v.misses;
      missed = v.missed;
    }
