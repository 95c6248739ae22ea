-- How the programs of a text are stored while it is read.
use Rattle.std.specs.Prelude.{◌≤◌, map, length}
use Rattle.tm_text.specs.declared.programs.Programs.TheInside.{Inside}
use Rattle.tm_text.specs.SpelledPrograms.{Spelled}

abbrev pub spelled_view : Inside → Spelled
spelled_view a = record { ended = map (λ p. p.items) a.ended.items; begun = a.begun.items; depth = a.depth }

-- No more blocks are open than the program has instructions.
abbrev pub IsShallow : Inside → Type 0
IsShallow a = a.depth ≤ length a.begun.items
