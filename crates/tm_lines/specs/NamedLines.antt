-- What the names of a text are: each is said by the first line that declares it well.
use Rattle.std.specs.Prelude.{ℕ, zero, suc, ℤ, pos, nat_abs, Bool, not, ◌&&◌, if◌then◌else◌, List, [], ◌∷◌, codes, Option, Some, None, is_some, option_map, option_and_then}
use Rattle.std.specs.Option.{unwrap_or}
use Rattle.std.specs.List.{find}
use Rattle.std.specs.Str.{bytes_eq}
use Rattle.tm_base.specs.declared.kinds.Kind.{Kind}
use Rattle.tm_base.specs.declared.kinds.Kind.TheVariants as kind
use Rattle.tm_base.specs.Names.{is_name}
use Rattle.tm_lines.specs.declared.first_words.Declarator.{Declarator}
use Rattle.tm_lines.specs.declared.first_words.Declarator.TheVariants as declares
use Rattle.tm_lines.specs.declared.first_words.FirstWord.{FirstWord}
use Rattle.tm_lines.specs.declared.first_words.FirstWord.TheVariants as first
use Rattle.tm_lines.specs.declared.limits.TheConstants.{GREATEST_NUMBER, LEAST_NUMBER, MOST_CAPACITY, MOST_CONDITIONS, MOST_PARTIES, MOST_START}
use Rattle.tm_lines.specs.Numerals.{number_of}
use Rattle.tm_lines.specs.FirstWords.{first_word_of}

-- The n-th word of a line, from 0; empty where there is none.
abbrev pub word_at : ℕ → List (List ℕ) → List ℕ
word_at n [] = []
word_at zero (w ∷ ws) = w
word_at (suc n) (w ∷ ws) = word_at n ws

-- The number that a word writes within a range, or another where it writes none.
abbrev pub number_or : ℤ → ℤ → ℤ → List ℕ → ℤ
number_or other least most word = unwrap_or (number_of least most word) other

-- The natural number that a word writes within a range, or another where it writes none.
abbrev pub natural_or : ℕ → ℤ → ℤ → List ℕ → ℕ
natural_or other least most word = nat_abs (number_or (pos other) least most word)

-- How many conditions a monitor's line says: the most there can be, where it doesn't say it well.
abbrev pub conditions_said : List ℕ → ℕ
conditions_said word = nat_abs (number_or MOST_CONDITIONS (pos 1) MOST_CONDITIONS word)

-- The kind of a monitor with so many conditions. One that isn't said to be Hoare's is Mesa's.
abbrev pub monitor_by : List ℕ → ℕ → Kind
monitor_by discipline conditions =
    if bytes_eq discipline (codes "hoare") then kind.Hoare conditions else kind.Mesa conditions

-- The kind of the object that a line with this first word declares by its third and its fourth word. A thread has
-- this number.
abbrev pub kind_by : ℕ → Declarator → List ℕ → List ℕ → Kind
kind_by t declares.Mutex third fourth = kind.Mutex
kind_by t declares.Rwlock third fourth = kind.Rw
kind_by t declares.Sync third fourth = kind.Sync
kind_by t declares.Sem third fourth = kind.Sem (natural_or 0 (pos 0) MOST_START third)
kind_by t declares.Monitor third fourth = monitor_by third (conditions_said fourth)
kind_by t declares.Barrier third fourth = kind.Barrier (natural_or 1 (pos 1) MOST_PARTIES third)
kind_by t declares.Async third fourth = kind.Async (natural_or 1 (pos 1) MOST_CAPACITY third)
kind_by t declares.Var third fourth = kind.Var (number_or (pos 0) LEAST_NUMBER GREATEST_NUMBER third)
kind_by t declares.Thread third fourth = kind.Thread t (bytes_eq third (codes "held"))

-- The kind that a line with this first word says.
abbrev pub kind_said : ℕ → Declarator → List (List ℕ) → Kind
kind_said t d ws = kind_by t d (word_at 2 ws) (word_at 3 ws)

-- The line's first word, where it declares an object.
abbrev pub declarator_of : Option FirstWord → Option Declarator
declarator_of (Some (first.Declares d)) = Some d
declarator_of other = None

-- The first word declares, and the second is a name that isn't `main`.
abbrev pub declares_well : List (List ℕ) → Bool
declares_well ws =
    is_some (declarator_of (first_word_of (word_at 0 ws))) && is_name (word_at 1 ws) && not (bytes_eq (word_at 1 ws) (codes "main"))

-- The kind that a name of the text has, whose lines, as words, these are: the one that the first line gives it
-- that declares it well. The number of a thread is left out.
abbrev pub kind_named : List (List (List ℕ)) → List ℕ → Option Kind
kind_named lines name =
    option_and_then (λ ws. option_map (λ d. kind_said 0 d ws) (declarator_of (first_word_of (word_at 0 ws))))
    (find (λ ws. declares_well ws && bytes_eq (word_at 1 ws) name) lines)
