-- How a draft is stored.
use Rattle.std.specs.Prelude.{map}
use Rattle.tm_text.specs.Exercises.{ExerciseView}
use Rattle.tm_makers.specs.declared.drafts.Draft.TheInside.{Inside}

-- What contracts see: the objects, and the instructions of each thread's program.
abbrev pub draft_view : Inside → ExerciseView
draft_view d = record { objects = d.objects.items; programs = map (λ p. p.items) d.programs.items }
