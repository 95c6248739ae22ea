-- Which events watchers are told.
use Rattle.std.specs.Prelude.{ℕ, List, take, drop}
use Rattle.tm_base.specs.declared.events.Entry.{Entry}
use Rattle.tm_collect.specs.Collectors.{CollectorView, shown_of}

-- Of a list the events behind the first `before` ones, up to the first `now`.
abbrev pub newly : List Entry → ℕ → ℕ → List Entry
newly es before now = drop before (take now es)

-- The events that were applied since the collector was the first of these.
abbrev pub newly_shown : CollectorView → CollectorView → List Entry
newly_shown v w = drop v.joint.applied (shown_of w)
