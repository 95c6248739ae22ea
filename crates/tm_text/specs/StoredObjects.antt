-- How the objects of a text are stored.
use Rattle.std.specs.Prelude.{◌+◌, ◌≤◌, length}
use Rattle.tm_lines.specs.declared.limits.TheConstants.{MOST_OBJECTS}
use Rattle.tm_text.specs.declared.objects.Objects.TheInside.{Inside}
use Rattle.tm_text.specs.Objects.{DeclaredObjects}

abbrev pub declared_view : Inside → DeclaredObjects
declared_view a = record { objects = a.declarations.items; thread = a.thread }

-- There are no more objects than there may be, and no more threads than objects.
pub record IsWithin (a : Inside) : Type 0 where
  pub few : length a.declarations.items ≤ MOST_OBJECTS
  pub threads : a.thread ≤ length a.declarations.items + 1
