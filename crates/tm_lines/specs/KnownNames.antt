-- What is known of the names of a text: the kind that each has, and its object's number.
use Rattle.std.specs.Prelude.{ℕ, suc, Bool, not, ◌&&◌, if◌then◌else◌, List, [], ◌∷◌, codes, Option, Some, None}
use Rattle.std.specs.Str.{bytes_eq}
use Rattle.tm_base.specs.Names.{is_name}
use Rattle.tm_lines.specs.declared.first_words.Declarator.{Declarator}
use Rattle.tm_lines.specs.declared.names.Known.{Known}
use Rattle.tm_lines.specs.FirstWords.{first_word_of}
use Rattle.tm_lines.specs.NamedLines.{declarator_of, kind_said, word_at}
use Rattle.tm_lines.specs.TextFaults.{said_words}

-- An object can be named so.
abbrev pub is_new : List ℕ → Bool
is_new name = is_name name && not (bytes_eq name (codes "main"))

-- What a line of these words says of the name: where it declares an object with the name, the kind, and so many
-- objects stand before it. Else later lines say it, before which one object more stands, where it declares one.
abbrev pub known_or : ℕ → Option Declarator → List (List ℕ) → List ℕ → (ℕ → Option Known) → Option Known
known_or o None ws name later = later o
known_or o (Some d) ws name later =
    if is_new (word_at 1 ws) && bytes_eq (word_at 1 ws) name
    then Some (record { kind = kind_said 0 d ws; number = o })
    else later (suc o)

-- What lines say of the name, before which so many objects stand. The first that declares it well says it.
abbrev pub known_by : ℕ → List (List (List ℕ)) → List ℕ → Option Known
known_by o [] name = None
known_by o (ws ∷ lines) name =
    known_or o (declarator_of (first_word_of (word_at 0 ws))) ws name (λ p. known_by p lines name)

-- What the lines of a text say of the name.
abbrev pub known_in : List (List ℕ) → List ℕ → Option Known
known_in lines name = known_by 0 (said_words lines) name

-- The number of an object of which this is known, and 0 where there is none.
abbrev pub number_known : Option Known → ℕ
number_known None = 0
number_known (Some known) = known.number
