-- What is left of a list of watchers after a list of entries.
use Rattle.std.specs.Prelude.{◌≡◌, List, map, filter}
use Rattle.tm_base.specs.declared.events.Entry.{Entry}
use Rattle.tm_watch.specs.Watchers.{Watch, told_all, after_entries, stays_through}

-- Those that retire at none of the entries, in order, each as it is once it has seen them all.
abbrev pub WatchersAreFolded : Type 0
WatchersAreFolded =
    (ws : List Watch) (es : List Entry) →
    told_all ws es ≡ map (λ w. after_entries w es) (filter (λ w. stays_through w es) ws)
