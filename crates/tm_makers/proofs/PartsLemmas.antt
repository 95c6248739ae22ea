-- Drafts with one more part.
use Rattle.std.proofs.Common.{◌≡◌, ◌+◌, ℕ, List, [], ◌∷◌, ◌++◌, map, refl, sym, ap, ◌∙◌}
use Rattle.std.specs.List.{range_with_len}
use Rattle.std.proofs.lemmas.List.FromFn.{map-range_with_len_more}
use Rattle.tm_text.specs.Exercises.{ExerciseView}
use Rattle.tm_makers.specs.Drafts.{Part, Object, Thread, no_parts, threads_of, with_part, with_parts}
use Rattle.tm_base.specs.declared.kinds.Kind.{Kind}
use Rattle.tm_programs.specs.declared.instructions.Instruction.{Instruction}

pub with_parts-append : (x : ExerciseView) (ps qs : List Part) → with_parts x (ps ++ qs) ≡ with_parts (with_parts x ps) qs
with_parts-append x [] qs = refl
with_parts-append x (p ∷ ps) qs = with_parts-append (with_part x p) ps qs

-- a numbered part more
pub with_parts-more : (x : ExerciseView) (f : ℕ → Part) (a n j : ℕ) → a + n ≡ j
    → with_parts x (map f (range_with_len a (n + 1))) ≡ with_part (with_parts x (map f (range_with_len a n))) (f j)
with_parts-more x f a n j e =
    ap (with_parts x) (map-range_with_len_more f a n j e) ∙ with_parts-append x (map f (range_with_len a n)) (f j ∷ [])

-- so a draft with numbered parts goes on by the next of them
pub grows : (x before after : ExerciseView) (f : ℕ → Part) (p : Part) (a n j : ℕ) → a + n ≡ j → before ≡ with_parts x (map f (range_with_len a n)) → p ≡ f j → after ≡ with_part before p
    → after ≡ with_parts x (map f (range_with_len a (n + 1)))
grows x before after f p a n j next drafted same added =
    added ∙ ap (with_part before) same ∙ ap (λ (y : ExerciseView). with_part y (f j)) drafted ∙ sym (with_parts-more x f a n j next)

-- a draft of some parts, to which others are added
pub then : (before after : ExerciseView) (ps qs : List Part) → before ≡ with_parts no_parts ps → after ≡ with_parts before qs → after ≡ with_parts no_parts (ps ++ qs)
then before after ps qs drafted added =
    added ∙ ap (λ (x : ExerciseView). with_parts x qs) drafted ∙ sym (with_parts-append no_parts ps qs)

-- so with one object, under a name that is known
pub declared : (before after : ExerciseView) (ps : List Part) (name known : List ℕ) (k : Kind) → before ≡ with_parts no_parts ps → name ≡ known → after ≡ with_part before (Object name k)
    → after ≡ with_parts no_parts (ps ++ Object known k ∷ [])
declared before after ps name known k drafted same added =
    then before after ps (Object known k ∷ []) drafted (added ∙ ap (λ n. with_part before (Object n k)) same)

-- and with one thread
pub ran : (before after : ExerciseView) (ps : List Part) (name known : List ℕ) (program is : List Instruction) → before ≡ with_parts no_parts ps → name ≡ known → program ≡ is
    → after ≡ with_part before (Thread name program) → after ≡ with_parts no_parts (ps ++ Thread known is ∷ [])
ran before after ps name known program is drafted same run added =
    then before after ps (Thread known is ∷ []) drafted
    (added ∙ ap (λ n. with_part before (Thread n program)) same ∙ ap (λ q. with_part before (Thread known q)) run)

-- and with threads of one program
pub ran_all : (before after : ExerciseView) (ps : List Part) (word : List ℕ) (count : ℕ) (program is : List Instruction) → before ≡ with_parts no_parts ps → program ≡ is
    → after ≡ with_parts before (threads_of word count program) → after ≡ with_parts no_parts (ps ++ threads_of word count is)
ran_all before after ps word count program is drafted run added =
    then before after ps (threads_of word count is) drafted (added ∙ ap (λ q. with_parts before (threads_of word count q)) run)
