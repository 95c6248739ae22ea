-- Layouts of exercises: first groups of objects, then groups of threads, with names that differ in their first
-- letter from group to group, and in their numbers within one.
use Rattle.std.proofs.Common.{◌≡◌, ◌+◌, ◌≤◌, ◌<◌, ℕ, suc, Bool, true, false, not, ◌&&◌, ◌||◌, ◌==◌, List, [], ◌∷◌, ◌++◌, map, codes, None}
use Rattle.std.specs.List.{range_with_len, list_all}
use Rattle.std.specs.Str.{bytes_eq}
use Rattle.tm_base.specs.declared.kinds.Kind.{Kind}
use Rattle.tm_base.specs.declared.kinds.Kind.TheVariants as kind
use Rattle.tm_base.specs.Names.{is_name}
use Rattle.tm_programs.specs.declared.instructions.Instruction.{Instruction}
use Rattle.tm_programs.specs.Instructions.{IsNested}
use Rattle.tm_lines.specs.declared.limits.TheConstants.{MOST_INSTRUCTIONS, MOST_OBJECTS}
use Rattle.tm_base.specs.declared.limits.TheConstants.{MOST_THREADS}
use Rattle.tm_text.specs.declared.exercises.Declaration.{Declaration}
use Rattle.tm_text.specs.Exercises.{IsKindRead, count_of, is_instruction_on, thread_of_kind}
use Rattle.tm_makers.specs.Drafts.{Part, Object, Thread, is_short_name}
use Rattle.tm_makers.specs.LineForms.{numbered}

-- a part by its name, or parts of one word with numbers behind it
pub data Group (C : Type 0) : Type 0 where
  One : (name : List ℕ) (content : C) → Group C
  Many : (word : List ℕ) (from count : ℕ) (content : ℕ → C) → Group C

abbrev pub parts_in : {C : Type 0} → (List ℕ → C → Part) → Group C → List Part
parts_in part (One name content) = part name content ∷ []
parts_in part (Many word from count content) = map (λ i. part (numbered word i) (content i)) (range_with_len from count)

-- the parts of the groups, and others behind them
abbrev pub parts_before : {C : Type 0} → (List ℕ → C → Part) → List (Group C) → List Part → List Part
parts_before part [] rest = rest
parts_before part (g ∷ gs) rest = parts_in part g ++ parts_before part gs rest

pub record Layout : Type 0 where
  pub objects : List (Group Kind)
  pub threads : List (Group (List Instruction))

abbrev pub parts_of : Layout → List Part
parts_of l = parts_before Object l.objects (parts_before Thread l.threads [])

-- the objects that parts declare, where the first thread has the number t
abbrev pub declarations : ℕ → List Part → List Declaration
declarations t [] = []
declarations t (Object name kind ∷ ps) = record { name = name; kind = kind } ∷ declarations t ps
declarations t (Thread name program ∷ ps) = record { name = name; kind = kind.Thread t false } ∷ declarations (suc t) ps

abbrev pub declared : Layout → List Declaration
declared l = declarations 1 (parts_of l)

abbrev pub AllOf : {X : Type 0} → (X → Type 0) → List X → Type 0
AllOf P [] = Unit {0}
AllOf P (x ∷ xs) = P x × AllOf P xs

-- what holds of each part of a group, by its name and its content
abbrev pub EachOf : {C : Type 0} → (List ℕ → C → Type 0) → Group C → Type 0
EachOf P (One name content) = P name content
EachOf P (Many word from count content) = (i : ℕ) → from ≤ i → i < from + count → P (numbered word i) (content i)

abbrev pub size_of : {C : Type 0} → Group C → ℕ
size_of (One name content) = 1
size_of (Many word from count content) = count

abbrev pub total : {C : Type 0} → List (Group C) → ℕ
total [] = 0
total (g ∷ gs) = size_of g + total gs

abbrev pub first_letter : List ℕ → ℕ
first_letter [] = 0
first_letter (b ∷ bs) = b

abbrev pub letter_of : {C : Type 0} → Group C → ℕ
letter_of (One name content) = first_letter name
letter_of (Many word from count content) = first_letter word

abbrev pub letters : {C : Type 0} → List (Group C) → List ℕ → List ℕ
letters [] ls = ls
letters (g ∷ gs) ls = letter_of g ∷ letters gs ls

abbrev pub is_among : ℕ → List ℕ → Bool
is_among l [] = false
is_among l (k ∷ ks) = k == l || is_among l ks

abbrev pub are_apart : List ℕ → Bool
are_apart [] = true
are_apart (l ∷ ls) = not (is_among l ls) && are_apart ls

-- the names of a group are names
abbrev pub is_named : {C : Type 0} → Group C → Bool
is_named (One name content) = is_name name && not (bytes_eq name (codes "main"))
is_named (Many word from count content) = is_short_name word

-- its numbers have two digits at most
abbrev pub IsSmall : {C : Type 0} → Group C → Type 0
IsSmall (One name content) = Unit {0}
IsSmall (Many word from count content) = from + count ≤ 100

pub record SoundProgram (ds : List Declaration) (program : List Instruction) : Type 0 where
  pub nested : IsNested program
  pub short : count_of program ≤ MOST_INSTRUCTIONS
  pub fits : list_all (is_instruction_on ds) program ≡ true

abbrev pub SoundPart : List Declaration → Part → Type 0
SoundPart ds (Object name kind) = IsKindRead kind × (thread_of_kind kind ≡ None)
SoundPart ds (Thread name program) = SoundProgram ds program

pub record SoundLayout (l : Layout) : Type 0 where
  pub few_objects : total l.objects + total l.threads ≤ MOST_OBJECTS
  pub few_threads : total l.threads ≤ MOST_THREADS
  pub named : (list_all is_named l.objects && list_all is_named l.threads) ≡ true
  pub apart : are_apart (letters l.objects (letters l.threads [])) ≡ true
  pub small_objects : AllOf IsSmall l.objects
  pub small_threads : AllOf IsSmall l.threads
  pub kinds : AllOf (EachOf (λ name k. SoundPart (declared l) (Object name k))) l.objects
  pub programs : AllOf (EachOf (λ name p. SoundPart (declared l) (Thread name p))) l.threads
