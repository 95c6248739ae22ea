-- Words that are looked for in the lists of words.
use Rattle.std.proofs.Common.{◌≡◌, ◌≢◌, ℕ, Bool, List, [], ◌∷◌, ◌++◌, map, Option, Some, None, option_map, refl, sym, ap, ◌∙◌}
use Rattle.std.specs.List.{find}
use Rattle.std.specs.Option.{option_or}
use Rattle.std.specs.Str.{bytes_eq}
use Rattle.std.proofs.lemmas.Bool.{cond_both, cond-true, cond-false, false_from_ne_true}
use Rattle.std.proofs.lemmas.List.Folds.{find-append}
use Rattle.std.proofs.lemmas.Slice.Eq.{bytes_eq-Decides}
use Rattle.tm_base.specs.declared.opcodes.Opcode.{Opcode}
use Rattle.tm_base.specs.Opcodes.{word_of}
use Rattle.tm_lines.specs.declared.first_words.Declarator.{Declarator}
use Rattle.tm_lines.specs.declared.first_words.FirstWord.{FirstWord}
use Rattle.tm_lines.specs.declared.first_words.FirstWord.TheVariants as first
use Rattle.tm_lines.specs.FirstWords.{asked_opcodes, declarators, declarator_word, first_word_of, own_words, spelling}
use Rattle.tm_lines.specs.NamedLines.{declarator_of}

pub find-map : {X Y : Type 0} (g : X → Y) (test : Y → Bool) (xs : List X) → find test (map g xs) ≡ option_map g (find (λ x. test (g x)) xs)
find-map g test [] = refl
find-map g test (x ∷ xs) =
    cond_both (test (g x)) (Some x) (find (λ y. test (g y)) xs) (λ r. find test (map g (x ∷ xs)) ≡ option_map g r)
    (λ t. cond-true (test (g x)) _ _ t) (λ f. cond-false (test (g x)) _ _ f ∙ find-map g test xs)

-- none of them has this word
pub find-no_word : {X : Type 0} (word : X → List ℕ) (w : List ℕ) → ((x : X) → word x ≢ w) → (xs : List X) → find (λ x. bytes_eq (word x) w) xs ≡ None
find-no_word word w none [] = refl
find-no_word word w none (x ∷ xs) =
    cond-false (bytes_eq (word x) w) _ _ (false_from_ne_true (bytes_eq (word x) w) (λ e. none x ((bytes_eq-Decides (word x) w).0 e))) ∙ find-no_word word w none xs

-- the first of the words is one that declares, else one that calls, else another
pub find-parts : {D C F : Type 0} (d : D → F) (c : C → F) (test : F → Bool) (ds : List D) (cs : List C) (own : List F) → find test (map d ds ++ map c cs ++ own) ≡ option_or (option_or (option_map d (find (λ x. test (d x)) ds)) (option_map c (find (λ x. test (c x)) cs))) (find test own)
find-parts d c test ds cs own =
    find-append test (map d ds ++ map c cs) own
    ∙ ap (λ r. option_or r (find test own)) (find-append test (map d ds) (map c cs) ∙ rw (find-map d test ds, find-map c test cs) refl)

pub first_word_of-parts : (w : List ℕ) → first_word_of w ≡ option_or (option_or (option_map first.Declares (find (λ d. bytes_eq (declarator_word d) w) declarators)) (option_map first.Calls (find (λ c. bytes_eq (word_of c) w) asked_opcodes))) (find (λ f. bytes_eq (spelling f) w) own_words)
first_word_of-parts w = find-parts first.Declares first.Calls (λ f. bytes_eq (spelling f) w) declarators asked_opcodes own_words

-- none of the other first words declares
declarator_of-own : (test : FirstWord → Bool) → declarator_of (find test own_words) ≡ None
declarator_of-own test =
    let none : Option FirstWord → Type 0 = λ r. declarator_of r ≡ None in
    cond_both (test first.Set) (Some first.Set) _ none (λ t. refl)
    (λ f. cond_both (test first.Inc) (Some first.Inc) _ none (λ t. refl)
    (λ f. cond_both (test first.Repeat) (Some first.Repeat) _ none (λ t. refl)
    (λ f. cond_both (test first.While) (Some first.While) _ none (λ t. refl)
    (λ f. cond_both (test first.If) (Some first.If) _ none (λ t. refl) (λ f. cond_both (test first.End) (Some first.End) _ none (λ t. refl) (λ f. refl))))))

declarator_of-parts : (d : Option Declarator) (c : Option Opcode) (own : Option FirstWord) → declarator_of own ≡ None → d ≡ declarator_of (option_or (option_or (option_map first.Declares d) (option_map first.Calls c)) own)
declarator_of-parts (Some d) c own none = refl
declarator_of-parts None (Some c) own none = refl
declarator_of-parts None None own none = sym none

-- the declarator that is spelled so is that of the first word
pub declarator_of-found : (w : List ℕ) → find (λ d. bytes_eq (declarator_word d) w) declarators ≡ declarator_of (first_word_of w)
declarator_of-found w =
    declarator_of-parts (find (λ d. bytes_eq (declarator_word d) w) declarators) (find (λ c. bytes_eq (word_of c) w) asked_opcodes) (find (λ f. bytes_eq (spelling f) w) own_words) (declarator_of-own (λ f. bytes_eq (spelling f) w))
    ∙ ap declarator_of (sym (first_word_of-parts w))
