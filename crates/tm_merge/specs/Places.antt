-- Where events stand, in their threads and at their objects.
use Rattle.std.specs.Prelude.{ℕ, ◌-◌, Bool, ◌==◌, ◌&&◌, ◌||◌, List, find, Option, is_some}
use Rattle.tm_base.specs.declared.events.Entry.{Entry}

-- The event of the list with this place in this thread, and the one with this place at this object.
abbrev pub at_place : List Entry → ℕ → ℕ → Option Entry
at_place es t p = find (λ e. e.thread == t && e.place == p) es

abbrev pub at_object : List Entry → ℕ → ℕ → Option Entry
at_object es o n = find (λ e. e.object == o && e.at == n) es

-- The list has an event there. Place 0, which is before a first event, counts as there.
abbrev pub has_place : List Entry → ℕ → ℕ → Bool
has_place es t p = p == 0 || is_some (at_place es t p)

abbrev pub has_at : List Entry → ℕ → ℕ → Bool
has_at es o n = n == 0 || is_some (at_object es o n)

-- All direct predecessors of the event are in the list: those at the places directly before it, of its
-- thread and of its object.
abbrev pub has_predecessors : List Entry → Entry → Bool
has_predecessors es e = has_place es e.thread (e.place - 1) && has_at es e.object (e.at - 1)
