-- The thread that moves next, by the bars and the schedule.
use Rattle.std.specs.Prelude.{ℕ, ◌==◌, if◌then◌else◌, List, length, slice_get, Option}
use Rattle.tm_base.specs.declared.bars.Bar.{Bar}
use Rattle.tm_replay.specs.Choosing.{next_thread, runnable_threads}
use Rattle.tm_base.specs.Draws.{next_draw, place_of}

-- The thread that a number picks out of some.
abbrev pub picked : List ℕ → ℕ → Option ℕ
picked threads x = slice_get threads (place_of x (length threads))

-- Schedule 0 draws nothing. Each other one draws a number for each move, be there one thread to choose from
-- or several.
abbrev pub draw_after : ℕ → ℕ → ℕ
draw_after schedule x = if schedule == 0 then x else next_draw x

-- The thread that moves, with the number that was drawn for it: under schedule 0 the next runnable one in
-- cyclic order, else the one that the number picks out of those that are runnable.
abbrev pub chosen_thread : ℕ → List Bar → ℕ → ℕ → Option ℕ
chosen_thread schedule bars last x = if schedule == 0 then next_thread bars last else picked (runnable_threads bars) x
