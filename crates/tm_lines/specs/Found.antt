-- Which kinds of fault words of a line have, all at once.
use Rattle.std.specs.Prelude.{ℕ, Bool, false, not, ◌&&◌, ◌||◌, nat_le, List, [], ◌∷◌, length, Option, is_none}
use Rattle.std.specs.List.{find}
use Rattle.tm_base.specs.declared.kinds.Kind.{Kind}
use Rattle.tm_programs.specs.declared.limits.TheConstants.{MOST_BLOCKS}
use Rattle.tm_lines.specs.declared.faults.Fault.{Fault}
use Rattle.tm_lines.specs.declared.faults.Fault.TheVariants as fault
use Rattle.tm_lines.specs.declared.first_words.FirstWord.{FirstWord}
use Rattle.tm_lines.specs.declared.first_words.Slot.{Slot}
use Rattle.tm_lines.specs.declared.found.Found.{Found}
use Rattle.tm_lines.specs.declared.limits.TheConstants.{GREATEST_NUMBER, LEAST_NUMBER}
use Rattle.tm_lines.specs.Numerals.{begins_with_r, number_of, register_of}
use Rattle.tm_lines.specs.FirstWords.{has_count, is_allowed}
use Rattle.tm_lines.specs.LineFaults.{Place, breaks, ends_idle, is_beyond, one_breaks, opens}

abbrev pub nothing_found : Found
nothing_found = record { word = false; name = false; unknown = false; kind = false; number = false; register = false }

abbrev pub in_word : Bool → Found
in_word b = record nothing_found { word = b }

abbrev pub in_number : Bool → Found
in_number b = record nothing_found { number = b }

abbrev pub in_register : Bool → Found
in_register b = record nothing_found { register = b }

abbrev pub or_found : Found → Found → Found
or_found a b = record {
  word = a.word || b.word;
  name = a.name || b.name;
  unknown = a.unknown || b.unknown;
  kind = a.kind || b.kind;
  number = a.number || b.number;
  register = a.register || b.register;
}

-- What the word breaks in the slot.
abbrev pub found_in : Place → FirstWord → Option Kind → Slot → List ℕ → Found
found_in p f k s w = record {
  word = breaks p f k fault.Word s w;
  name = breaks p f k fault.Name s w;
  unknown = breaks p f k fault.Unknown s w;
  kind = breaks p f k fault.Kind s w;
  number = breaks p f k fault.Number s w;
  register = breaks p f k fault.Register s w;
}

-- What a word breaks that has to be a number or a register.
abbrev pub value_found : List ℕ → Found
value_found w = record {
  word = false;
  name = false;
  unknown = false;
  kind = false;
  number = not (begins_with_r w) && is_none (number_of LEAST_NUMBER GREATEST_NUMBER w);
  register = begins_with_r w && is_none (register_of w);
}

-- What one of the words breaks in its slot.
abbrev pub found_by : Place → FirstWord → Option Kind → List Slot → List (List ℕ) → Found
found_by p f k ss ws = record {
  word = one_breaks p f k fault.Word ss ws;
  name = one_breaks p f k fault.Name ss ws;
  unknown = one_breaks p f k fault.Unknown ss ws;
  kind = one_breaks p f k fault.Kind ss ws;
  number = one_breaks p f k fault.Number ss ws;
  register = one_breaks p f k fault.Register ss ws;
}

-- It was found that the words break what this kind of fault is about.
abbrev pub is_found : Found → Fault → Bool
is_found found fault.Word = found.word
is_found found fault.Name = found.name
is_found found fault.Unknown = found.unknown
is_found found fault.Kind = found.kind
is_found found fault.Number = found.number
is_found found fault.Register = found.register
is_found found other = false

-- The kind of fault applies to any line with this first word at this place.
abbrev pub applies_there : Place → FirstWord → Fault → Bool
applies_there p f fault.Depth = opens f && nat_le MOST_BLOCKS (length p.blocks)
applies_there p f fault.Idle = ends_idle f p.blocks
applies_there p f fault.Limit = is_beyond p f
applies_there p f other = false

-- The kind of fault applies to a line of so many words, with this first word, in which this was found.
abbrev pub applies_by : Place → FirstWord → Found → ℕ → Fault → Bool
applies_by p f found n fault.Word = not (is_allowed p.inside f) || found.word
applies_by p f found n fault.Count = not (has_count f n)
applies_by p f found n fault.Depth = applies_there p f fault.Depth
applies_by p f found n fault.Idle = applies_there p f fault.Idle
applies_by p f found n fault.Limit = applies_there p f fault.Limit
applies_by p f found n other = is_found found other

-- The first of the kinds that words have in slots of names, numbers and registers.
abbrev pub name_fault : Found → Option Fault
name_fault found = find (is_found found) (fault.Name ∷ fault.Unknown ∷ fault.Kind ∷ fault.Number ∷ fault.Register ∷ [])

-- The first of the kinds that a line has by its place alone.
abbrev pub block_fault : Place → FirstWord → Option Fault
block_fault p f = find (applies_there p f) (fault.Depth ∷ fault.Idle ∷ fault.Limit ∷ [])
