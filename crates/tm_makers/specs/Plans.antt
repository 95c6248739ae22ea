-- Which exercise a plan is of, and which plans there are: a row for each maker.
use Rattle.std.specs.Prelude.{Bool, List}
use Rattle.tm_text.specs.SpelledLines.{SpelledLine}
use Rattle.tm_makers.specs.declared.plans.Plan.{Plan}
use Rattle.tm_makers.specs.declared.plans.Plan.TheVariants as plan
use Rattle.tm_makers.specs.Buffers.{are_buffer_sizes, lines_of_buffer}
use Rattle.tm_makers.specs.Coasters.{is_coaster, lines_of_coaster}
use Rattle.tm_makers.specs.Philosophers.{are_philosophers, lines_of_philosophers}
use Rattle.tm_makers.specs.ReadersAndWriters.{are_readers_and_writers, lines_of_readers_and_writers}
use Rattle.tm_makers.specs.Rings.{is_ring, lines_of_ring}

-- The sizes are in their ranges.
abbrev pub is_in_range : Plan → Bool
is_in_range (plan.Philosophers n rounds w) = are_philosophers n rounds
is_in_range (plan.Buffer producers consumers places items g) = are_buffer_sizes producers consumers places items
is_in_range (plan.Readers readers writers rounds) = are_readers_and_writers readers writers rounds
is_in_range (plan.Coaster seats rides) = is_coaster seats rides
is_in_range (plan.Ring n rounds) = is_ring n rounds

-- The lines of its exercise.
abbrev pub lines_of_plan : Plan → List SpelledLine
lines_of_plan (plan.Philosophers n rounds w) = lines_of_philosophers n rounds w
lines_of_plan (plan.Buffer producers consumers places items g) =
    lines_of_buffer producers consumers places items g
lines_of_plan (plan.Readers readers writers rounds) = lines_of_readers_and_writers readers writers rounds
lines_of_plan (plan.Coaster seats rides) = lines_of_coaster seats rides
lines_of_plan (plan.Ring n rounds) = lines_of_ring n rounds
