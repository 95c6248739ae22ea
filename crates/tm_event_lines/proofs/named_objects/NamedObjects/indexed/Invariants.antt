use Rattle.std.proofs.Common.{◌≡◌, ℕ, List, drop}
use Rattle.std.specs.HashMap as hash
use Rattle.std.specs.Str.{bytes_eq}
use Rattle.tm_text.specs.Texts.{number_in}
use Rattle.tm_event_lines.proofs.named_objects.NamedObjects.indexed.Given as goal

abbrev pub invariant-loop-object : goal.invariant-loop-object
invariant-loop-object l = (name : List ℕ) → hash.get_by (λ k. bytes_eq name k.items) l.numbers ≡ number_in l.object (drop l.object l.exercise.objects) name
