-- What the stored arrivals stand for, and what they keep.
use Rattle.std.specs.Prelude.{◌≡◌, ℕ, suc, ◌+◌, ◌-◌, ◌^◌, ◌<◌, ◌≤◌, ◌==◌, ◌&&◌, List, length, filter, find, filter_map, Option, Some, slice_get}
use Rattle.std.specs.Vec.{vec_capacity}
use Rattle.tm_base.specs.declared.events.Entry.{Entry}
use Rattle.tm_base.specs.Orders.{StampsRise}
use Rattle.tm_merge.specs.declared.arrivals.Arrivals.{Arrivals}
use Rattle.tm_merge.specs.declared.lines.Line.{Line}
use Rattle.tm_merge.specs.Lines.{slot_at, HasRoomAt}
use Rattle.tm_merge.specs.MergerViews.{MergerView, arrived}
use Rattle.tm_merge.specs.Numbering.{IsNumbered}

-- The events in the slots that are taken.
abbrev pub occupants : List (Option Entry) → List Entry
occupants slots = filter_map (λ s. s) slots

abbrev pub view_of : Arrivals → MergerView
view_of a = record { threads = length a.threads.items - 1; objects = length a.objects.items; shown = a.shown.items; held = occupants a.slots.items }

-- The event of the list with this number in this line.
abbrev pub found : (line number : Entry → ℕ) → List Entry → ℕ → ℕ → Option Entry
found line number es k n = find (λ e. line e == k && number e == n) es

-- The slot has an event with this number in this line.
pub record HasSlot (line number : Entry → ℕ) (slots : List (Option Entry)) (k n s : ℕ) : Type 0 where
  pub entry : Entry
  pub there : slice_get slots s ≡ Some (Some entry)
  pub line_is : line entry ≡ k
  pub number_is : number entry ≡ n
  pub fits : n < 2 ^ 64

-- A line names the slot of the event.
pub record IsNamed (line number : Entry → ℕ) (lines : List Line) (e : Entry) (s : ℕ) : Type 0 where
  pub own : Line
  pub there : slice_get lines (line e) ≡ Some own
  pub slot : slot_at own (number e) ≡ Some s

-- The lines name just the slots that are taken, each by the number of its event.
pub record IsIndexed (line number : Entry → ℕ) (lines : List Line) (slots : List (Option Entry)) : Type 0 where
  pub known : (k n s : ℕ) (l : Line) → slice_get lines k ≡ Some l → slot_at l n ≡ Some s → HasSlot line number slots k n s
  pub named : (s : ℕ) (e : Entry) → slice_get slots s ≡ Some (Some e) → IsNamed line number lines e s

-- The line has how many of its events are shown, and the last of them.
pub record IsTail (line number : Entry → ℕ) (shown : List Entry) (k : ℕ) (l : Line) : Type 0 where
  pub count : l.shown ≡ length (filter (λ e. line e == k) shown)
  pub last : l.last ≡ found line number shown k l.shown
  pub fits : l.shown < 2 ^ 64

abbrev pub AreTails : (line number : Entry → ℕ) → List Line → List Entry → Type 0
AreTails line number lines shown = (k : ℕ) (l : Line) → slice_get lines k ≡ Some l → IsTail line number shown k l

-- What all arrivals keep.
pub record KeepsArrivals (a : Arrivals) : Type 0 where
  pub main : 0 < length a.threads.items
  pub threads : IsIndexed (λ e. e.thread) (λ e. e.place) a.threads.items a.slots.items
  pub objects : IsIndexed (λ e. e.object) (λ e. e.at) a.objects.items a.slots.items
  pub thread_tails : AreTails (λ e. e.thread) (λ e. e.place) a.threads.items a.shown.items
  pub object_tails : AreTails (λ e. e.object) (λ e. e.at) a.objects.items a.shown.items
  pub numbered : IsNumbered a.shown.items
  pub rise : StampsRise (arrived (view_of a))
  pub count : a.held ≡ length (occupants a.slots.items)
  pub room : length a.shown.items + a.held ≤ vec_capacity a.shown

-- There is room for the event, and for showing all that is held.
pub record HasRoomFor (a : Arrivals) (e : Entry) : Type 0 where
  pub shown : suc (length a.shown.items + a.held) ≤ vec_capacity a.shown
  pub slots : length a.slots.items < vec_capacity a.slots
  pub thread : (l : Line) → slice_get a.threads.items e.thread ≡ Some l → HasRoomAt l e.place
  pub object : (l : Line) → slice_get a.objects.items e.object ≡ Some l → HasRoomAt l e.at
