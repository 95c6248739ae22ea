-- Which threads are runnable by the bars, in rising number and in cyclic order.
use Rattle.std.specs.Prelude.{ℕ, zero, suc, ◌+◌, ◌-◌, Bool, false, List, ◌++◌, length, filter, find, slice_get, Option, Some, None}
use Rattle.std.specs.List.{range_with_len}
use Rattle.tm_base.specs.declared.bars.Bar.{Bar}
use Rattle.tm_replay.specs.Bars.{is_runnable}

-- The threads in cyclic order, beginning after `last`.
abbrev pub cyclic : ℕ → ℕ → List ℕ
cyclic threads last = range_with_len (last + 1) (threads - last) ++ range_with_len 1 last

abbrev pub is_runnable_bar : Option Bar → Bool
is_runnable_bar None = false
is_runnable_bar (Some b) = is_runnable b

-- The bar of the thread shows that it is runnable.
abbrev pub runs_at : List Bar → ℕ → Bool
runs_at bars zero = false
runs_at bars (suc t) = is_runnable_bar (slice_get bars t)

-- The next runnable thread in cyclic order, by the bars.
abbrev pub next_thread : List Bar → ℕ → Option ℕ
next_thread bars last = find (runs_at bars) (cyclic (length bars) last)

-- The runnable threads, in rising number, by the bars.
abbrev pub runnable_threads : List Bar → List ℕ
runnable_threads bars = filter (runs_at bars) (range_with_len 1 (length bars))
