-- Watchers of a run's events: what a watcher is after an entry, and which of a list are left.
use Rattle.std.specs.Prelude.{ℕ, Bool, true, false, not, List, [], ◌∷◌, if◌then◌else◌}
use Rattle.tm_base.specs.declared.operations.Op.{Op}
use Rattle.tm_base.specs.declared.operations.Op.TheVariants as op
use Rattle.tm_base.specs.declared.events.Entry.{Entry}
use Rattle.tm_base.specs.Fits.{is_stop}
use Rattle.tm_base.specs.Counters.{next_count}
use Rattle.tm_watch.specs.declared.verdicts.Verdict.{Verdict}
use Rattle.tm_watch.specs.declared.verdicts.Verdict.TheVariants.{Keep, Retire}

-- A watcher: its state, how many entries it has seen, and what its type means: the state after an entry, and
-- whether it retires at that entry.
pub record Watch : Type 0 where
  pub state : List ℕ
  pub count : ℕ
  pub next : List ℕ → Entry → List ℕ
  pub retires : List ℕ → Entry → Bool

-- The watcher once it has seen the entry.
abbrev pub after_entry : Watch → Entry → Watch
after_entry w e = record w { state = w.next w.state e; count = next_count w.count }

-- It doesn't retire at the entry.
abbrev pub stays_at : Watch → Entry → Bool
stays_at w e = not (w.retires w.state e)

-- What it answers at the entry.
abbrev pub verdict_at : Watch → Entry → Verdict
verdict_at w e = if w.retires w.state e then Retire else Keep

-- The watchers that are left once each has seen the entry, in order.
abbrev pub told : List Watch → Entry → List Watch
told [] e = []
told (w ∷ ws) e = if stays_at w e then after_entry w e ∷ told ws e else told ws e

-- Those that are left once the entries were told one after another.
abbrev pub told_all : List Watch → List Entry → List Watch
told_all ws [] = ws
told_all ws (e ∷ es) = told_all (told ws e) es

-- The watcher once it has seen all of the entries.
abbrev pub after_entries : Watch → List Entry → Watch
after_entries w [] = w
after_entries w (e ∷ es) = after_entries (after_entry w e) es

-- It retires at none of the entries.
abbrev pub stays_through : Watch → List Entry → Bool
stays_through w [] = true
stays_through w (e ∷ es) = if stays_at w e then stays_through (after_entry w e) es else false

-- A tally's state is one number, which counts all entries. It never retires.
abbrev pub counted : List ℕ → Entry → List ℕ
counted [] e = []
counted (n ∷ ns) e = next_count n ∷ ns

abbrev pub tally : ℕ → Watch
tally count = record { state = count ∷ []; count = count; next = counted; retires = λ _ _. false }

-- What waits for the first `stop` has nothing to keep. It retires at that `stop`.
abbrev pub first_stop : ℕ → Watch
first_stop count = record { state = []; count = count; next = λ state _. state; retires = λ _ e. is_stop e.op }
