-- The objects of a text as its lines declare them, and the numbers of threads' own objects.
use Rattle.std.specs.Prelude.{◌≡◌, ℕ, ◌+◌, ◌≤◌, List, [], ◌∷◌, ◌++◌, length, slice_get, Some}
use Rattle.tm_base.specs.declared.kinds.Kind.{Kind}
use Rattle.tm_base.specs.declared.kinds.Kind.TheVariants as kind
use Rattle.tm_base.specs.Names.{IsName}
use Rattle.tm_lines.specs.declared.first_words.Declarator.{Declarator}
use Rattle.tm_lines.specs.declared.first_words.FirstWord.{FirstWord}
use Rattle.tm_lines.specs.declared.limits.TheConstants.{MOST_OBJECTS}
use Rattle.tm_lines.specs.declared.words.Words.{Words}
use Rattle.tm_lines.specs.FirstWords.{first_word_of}
use Rattle.tm_lines.specs.NamedLines.{kind_by, word_at}
use Rattle.tm_lines.specs.Saying.{AreFirst}
use Rattle.tm_lines.specs.TextFaults.{said_words, text_lines}
use Rattle.tm_text.specs.declared.exercises.Declaration.{Declaration}
use Rattle.tm_text.specs.Texts.{declarations_said}

-- The objects that lines declare, and the number of the next thread.
pub record DeclaredObjects : Type 0 where
  pub objects : List Declaration
  pub thread : ℕ

-- No objects.
abbrev pub no_objects : DeclaredObjects
no_objects = record { objects = []; thread = 1 }

-- The objects with those that the lines declare which are left.
abbrev pub with_lines : DeclaredObjects → List (List (List ℕ)) → List Declaration
with_lines v lines = v.objects ++ declarations_said v.thread lines

-- The objects that the lines of a text declare.
abbrev pub declarations_of : List ℕ → List Declaration
declarations_of text = declarations_said 1 (said_words (text_lines text))

-- Each object has a name, and there are no more than there may be.
pub record IsDeclarable (ds : List Declaration) : Type 0 where
  pub few : length ds ≤ MOST_OBJECTS
  pub named : (o : ℕ) (d : Declaration) → slice_get ds o ≡ Some d → IsName d.name

-- The objects are those of the text, if they can be declared.
abbrev pub Declares : List ℕ → DeclaredObjects → Type 0
Declares text v = IsDeclarable (declarations_of text) → v.objects ≡ declarations_of text

-- After a line of these words, which begins with this first word, the objects are these, if those of the text can
-- be declared.
abbrev pub TakesLine : DeclaredObjects → FirstWord → Words → DeclaredObjects → Type 0
TakesLine v first words w =
    (ws : List (List ℕ)) (lines : List (List (List ℕ))) → first_word_of (word_at 0 ws) ≡ Some first → AreFirst words ws
    → IsDeclarable (with_lines v (ws ∷ lines)) → with_lines w lines ≡ with_lines v (ws ∷ lines)

-- The object that a line of these words declares. A thread has this number.
abbrev pub object_by : ℕ → Declarator → Words → Declaration
object_by t d words = record { name = words.second.now; kind = kind_by t d words.third.now words.fourth.now }

-- One object more, after which the next thread has this number.
abbrev pub with_object : DeclaredObjects → Declaration → ℕ → DeclaredObjects
with_object v d t = record { objects = v.objects ++ d ∷ []; thread = t }

-- The numbers with this object's in front, where it is a thread's own object.
abbrev pub owns_of_kind : ℕ → Kind → List ℕ → List ℕ
owns_of_kind o (kind.Thread own held) os = o ∷ os
owns_of_kind o k os = os

-- The numbers of the threads' own objects, where the first object has this number.
abbrev pub owns_of : ℕ → List Declaration → List ℕ
owns_of o [] = []
owns_of o (d ∷ ds) = owns_of_kind o d.kind (owns_of (o + 1) ds)
