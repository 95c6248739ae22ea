-- The summary of a run: its counts, a line for each, and its last line.
use Rattle.std.specs.Prelude.{ℕ, List, ◌++◌, codes, count_by, length, map}
use Rattle.std.specs.Fmt.{decimal}
use Rattle.tm_base.specs.declared.events.Entry.{Entry}
use Rattle.tm_base.specs.declared.ends.End.{End}
use Rattle.tm_base.specs.Fits.{is_call}
use Rattle.tm_base.specs.Orders.{greatest}
use Rattle.tm_laws.specs.Counts.{is_wait}
use Rattle.tm_text.specs.Exercises.{ExerciseView}
use Rattle.tm_timeline.specs.Rows.{last_line_of, line_end}

-- How many of the events are calls, which are asked by programs.
abbrev pub calls_of : List Entry → ℕ
calls_of es = count_by (λ e. is_call e.op) es

-- How many of them were answered `wait`.
abbrev pub waits_of : List Entry → ℕ
waits_of es = count_by (λ e. is_wait e.reply) es

-- The greatest stamp, or 0 where there is no event.
abbrev pub greatest_stamp : List Entry → ℕ
greatest_stamp es = greatest (map (λ e. e.stamp) es)

-- A line with a number.
abbrev pub count_line : List ℕ → ℕ → List ℕ
count_line word n = word ++ codes " " ++ decimal n ++ line_end

-- The summary of a run of these events: how many threads and objects there are, how many events are calls and how
-- many wait, the greatest stamp, and the run's last line.
abbrev pub summary_of : ExerciseView → List Entry → End → List ℕ → List ℕ
summary_of x es end cut =
    count_line (codes "threads") (length x.programs) ++ count_line (codes "objects") (length x.objects)
    ++ count_line (codes "calls") (calls_of es) ++ count_line (codes "waits") (waits_of es)
    ++ count_line (codes "stamp") (greatest_stamp es) ++ last_line_of x end (length es) cut
