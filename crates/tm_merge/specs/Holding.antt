-- The events that are held, in their order, and what each of them waits for.
use Rattle.std.specs.Prelude.{◌≡◌, ℕ, ◌-◌, Bool, ◌==◌, ◌&&◌, ◌||◌, nat_lt, if◌then◌else◌, List, count_by, Contains, Option, Some, None}
use Rattle.std.specs.Option.{option_or}
use Rattle.tm_base.specs.declared.events.Entry.{Entry}
use Rattle.tm_base.specs.Runs.{Leads}
use Rattle.tm_merge.specs.declared.holds.Missing.{Missing}
use Rattle.tm_merge.specs.declared.holds.Missing.TheVariants as missing
use Rattle.tm_merge.specs.MergerViews.{MergerView, arrived}
use Rattle.tm_merge.specs.Places.{at_place, at_object, has_place, has_at}

-- The order of stamps, then of threads, then of places.
abbrev pub comes_before : Entry → Entry → Bool
comes_before a b = nat_lt a.stamp b.stamp || (a.stamp == b.stamp && (nat_lt a.thread b.thread || (a.thread == b.thread && nat_lt a.place b.place)))

-- The event is held, and this many held events come before it.
pub record IsHeldAt (v : MergerView) (k : ℕ) (e : Entry) : Type 0 where
  pub held : Contains v.held e
  pub before : count_by (λ a. comes_before a e) v.held ≡ k

-- The place directly before the event where no event arrived: in its thread, else at its object.
abbrev pub gap : MergerView → Entry → Option Missing
gap v e =
    if has_place (arrived v) e.thread (e.place - 1)
    then (if has_at (arrived v) e.object (e.at - 1) then None else Some (missing.Object e.object (e.at - 1)))
    else Some (missing.Thread e.thread (e.place - 1))

-- The direct predecessor of the event that isn't shown, the thread's first.
abbrev pub held_before : MergerView → Entry → Option Entry
held_before v e = option_or (at_place v.held e.thread (e.place - 1)) (at_object v.held e.object (e.at - 1))

-- The event waits for this one: all its direct predecessors arrived, and this is the first that isn't shown.
pub record WaitsFor (v : MergerView) (e a b : Entry) : Type 0 where
  pub no_gap : gap v e ≡ None
  pub first : held_before v e ≡ Some a
  pub here : b ≡ a

-- The place for which the event waits, at the end of a walk from event to event that each waits for.
pub record IsMissing (v : MergerView) (e : Entry) (m : Missing) : Type 0 where
  pub walk : List Entry
  pub last : Entry
  pub steps : Leads (WaitsFor v) e walk last
  pub gap : gap v last ≡ Some m
