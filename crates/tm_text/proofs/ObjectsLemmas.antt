-- The objects that lines declare, one line more.
use Rattle.std.proofs.Common.{◌≡◌, ℕ, suc, ◌+◌, ◌≤◌, List, [], ◌∷◌, ◌++◌, length, slice_get, Some, None, refl, sym, ap, ◌∙◌, subst, arith}
use Rattle.std.proofs.lemmas.List.{append_assoc}
use Rattle.tm_base.specs.Names.{IsName}
use Rattle.tm_lines.specs.declared.first_words.Declarator.{Declarator}
use Rattle.tm_lines.specs.declared.first_words.Declarator.TheVariants as declares
use Rattle.tm_lines.specs.declared.first_words.FirstWord.{FirstWord}
use Rattle.tm_lines.specs.declared.words.Words.{Words}
use Rattle.tm_lines.specs.NamedLines.{declarator_of, kind_by, word_at}
use Rattle.tm_text.specs.declared.exercises.Declaration.{Declaration}
use Rattle.tm_text.specs.Objects.{IsDeclarable, DeclaredObjects, TakesLine, object_by, with_lines, with_object}
use Rattle.tm_text.specs.Texts.{declarations_said, declared_by, next_thread}

-- the object that a line declares is added
pub declares_more : (v more : DeclaredObjects) (first : FirstWord) (d : Declarator) (words : Words) → declarator_of (Some first) ≡ Some d
    → ((later : List Declaration) → IsDeclarable (v.objects ++ object_by v.thread d words ∷ later) → more ≡ with_object v (object_by v.thread d words) (next_thread v.thread d))
    → TakesLine v first words more
declares_more v more first d words h added ws lines begins are declarable =
    let later = declarations_said (next_thread v.thread d) lines in
    let object = object_by v.thread d words in
    let by : List ℕ → List ℕ → List ℕ → List Declaration = λ second third fourth. v.objects ++ record { name = second; kind = kind_by v.thread d third fourth } ∷ later in
    let same : v.objects ++ object ∷ later ≡ by (word_at 1 ws) (word_at 2 ws) (word_at 3 ws) =
    ap (λ w. by w words.third.now words.fourth.now) are.second ∙ ap (λ w. by (word_at 1 ws) w words.fourth.now) are.third ∙ ap (by (word_at 1 ws) (word_at 2 ws)) are.fourth in
    let front : with_lines v (ws ∷ lines) ≡ v.objects ++ object ∷ later =
    ap (λ o. v.objects ++ declared_by o v.thread ws (λ u. declarations_said u lines)) (ap declarator_of begins ∙ h) ∙ sym same in
    let is = added later (subst IsDeclarable front declarable) in
    ap (λ w. with_lines w lines) is ∙ append_assoc v.objects (object ∷ []) later ∙ sym front

-- a line that declares nothing
pub declares_nothing : (v : DeclaredObjects) (first : FirstWord) (words : Words) → declarator_of (Some first) ≡ None → TakesLine v first words v
declares_nothing v first words h ws lines begins are declarable =
    sym (ap (λ o. v.objects ++ declared_by o v.thread ws (λ u. declarations_said u lines)) (ap declarator_of begins ∙ h))

slice_get-middle : {X : Type 0} (xs : List X) (x : X) (ys : List X) → slice_get (xs ++ x ∷ ys) (length xs) ≡ Some x
slice_get-middle [] x ys = refl
slice_get-middle (a ∷ xs) x ys = slice_get-middle xs x ys

-- an object among those that can be declared has a name
pub has_name : (ds later : List Declaration) (d : Declaration) → IsDeclarable (ds ++ d ∷ later) → IsName d.name
has_name ds later d declarable = declarable.named (length ds) d (slice_get-middle ds d later)

length-middle : {X : Type 0} (xs : List X) (x : X) (ys : List X) → suc (length xs) ≤ length (xs ++ x ∷ ys)
length-middle [] x ys = omega arith
length-middle (a ∷ xs) x ys = let more = length-middle xs x ys in omega arith

-- and there may be one more than stand before it
pub has_room : (ds later : List Declaration) (d : Declaration) → IsDeclarable (ds ++ d ∷ later) → suc (length ds) ≤ 256
has_room ds later d declarable = omega (arith, length-middle ds d later, declarable.few)

pub next_thread-most : (t : ℕ) (d : Declarator) → next_thread t d ≤ t + 1
next_thread-most t declares.Thread = omega arith
next_thread-most t declares.Mutex = omega arith
next_thread-most t declares.Rwlock = omega arith
next_thread-most t declares.Sync = omega arith
next_thread-most t declares.Sem = omega arith
next_thread-most t declares.Monitor = omega arith
next_thread-most t declares.Barrier = omega arith
next_thread-most t declares.Async = omega arith
next_thread-most t declares.Var = omega arith
