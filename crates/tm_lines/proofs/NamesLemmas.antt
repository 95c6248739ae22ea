-- The names that a line adds.
use Rattle.std.proofs.Common.{◌≡◌, ℕ, suc, ◌+◌, Bool, true, false, cond, not, ◌&&◌, ◌==◌, List, [], ◌∷◌, length, codes, Option, Some, None, is_some, option_map, option_and_then, refl, sym, ap, ◌∙◌, arith}
use Rattle.std.specs.List.{find}
use Rattle.std.specs.Option.{option_or}
use Rattle.std.specs.Str.{bytes_eq}
use Rattle.std.proofs.lemmas.Bool.{cond_both, cond-true, cond-false}
use Rattle.std.proofs.lemmas.Bool.Decides.{Decides-eqb}
use Rattle.tm_base.specs.declared.kinds.Kind.{Kind}
use Rattle.tm_base.specs.Names.{is_name}
use Rattle.tm_lines.specs.declared.first_words.Declarator.{Declarator}
use Rattle.tm_lines.specs.declared.names.Known.{Known}
use Rattle.tm_lines.specs.declared.words.Words.{Words}
use Rattle.tm_lines.specs.FirstWords.{first_word_of}
use Rattle.tm_lines.specs.KnownNames.{is_new, known_by, known_or}
use Rattle.tm_lines.specs.Lines.{is_ignored, words_of}
use Rattle.tm_lines.specs.NamedLines.{declarator_of, declares_well, kind_by, kind_named, kind_said, word_at}
use Rattle.tm_lines.specs.Saying.{AreFirst}
use Rattle.tm_lines.specs.TextFaults.{said_words}

-- a line that declares isn't ignored
not_ignored : (ws : List (List ℕ)) (d : Declarator) → declarator_of (first_word_of (word_at 0 ws)) ≡ Some d → is_ignored ws ≡ false
not_ignored [] d h = absurd (cc)
not_ignored ([] ∷ ws) d h = refl
not_ignored ((b ∷ bs) ∷ ws) d h =
    cond_both (b == 35) true false (λ t. b == 35 ≡ false)
    (λ e.
    let comment : declarator_of (first_word_of (35 ∷ bs)) ≡ Some d = ap (λ a. declarator_of (first_word_of (a ∷ bs))) (sym ((Decides-eqb b 35).0 e)) ∙ h in
    absurd (cc))
    (λ e. e)

said_words-declared : (line : List ℕ) (lines : List (List ℕ)) (d : Declarator) → declarator_of (first_word_of (word_at 0 (words_of line))) ≡ Some d → said_words (line ∷ lines) ≡ words_of line ∷ said_words lines
said_words-declared line lines d h =
    cond-true (not (is_ignored (words_of line))) _ _ (ap not (not_ignored (words_of line) d h))

-- a line that declares an object, in front of other lines
pub known_by-declared : (line : List ℕ) (lines : List (List ℕ)) (name : List ℕ) (words : Words) (d : Declarator) (o : ℕ) → declarator_of (first_word_of (word_at 0 (words_of line))) ≡ Some d → AreFirst words (words_of line) → known_by o (said_words (line ∷ lines)) name ≡ cond (is_new words.second.now && bytes_eq words.second.now name) (Some (record { kind = kind_by 0 d words.third.now words.fourth.now; number = o })) (known_by (o + 1) (said_words lines) name)
known_by-declared line lines name words d o h are =
    let ws = words_of line in
    let by : List ℕ → List ℕ → List ℕ → ℕ → Option Known =
    λ second third fourth p. cond (is_new second && bytes_eq second name) (Some (record { kind = kind_by 0 d third fourth; number = o })) (known_by p (said_words lines) name) in
    let next : suc o ≡ o + 1 = omega arith in
    ap (λ wss. known_by o wss name) (said_words-declared line lines d h)
    ∙ ap (λ own. known_or o own ws name (λ p. known_by p (said_words lines) name)) h
    ∙ sym
    (ap (λ w. by w words.third.now words.fourth.now (o + 1)) are.second ∙ ap (λ w. by (word_at 1 ws) w words.fourth.now (o + 1)) are.third
    ∙ ap (λ w. by (word_at 1 ws) (word_at 2 ws) w (o + 1)) are.fourth ∙ ap (by (word_at 1 ws) (word_at 2 ws) (word_at 3 ws)) (sym next))

-- one that declares none
pub known_by-same : (line : List ℕ) (lines : List (List ℕ)) (name : List ℕ) (o : ℕ) → declarator_of (first_word_of (word_at 0 (words_of line))) ≡ None → known_by o (said_words lines) name ≡ known_by o (said_words (line ∷ lines)) name
known_by-same line lines name o h =
    cond_both (not (is_ignored (words_of line))) (words_of line ∷ said_words lines) (said_words lines)
    (λ r. known_by o (said_words lines) name ≡ known_by o r name)
    (λ t. sym (ap (λ own. known_or o own (words_of line) name (λ p. known_by p (said_words lines) name)) h)) (λ f. refl)

-- the kind that is known is the one that the name has
kind_named-same : (ws : List (List ℕ)) (wss : List (List (List ℕ))) (name : List ℕ) → declarator_of (first_word_of (word_at 0 ws)) ≡ None → kind_named (ws ∷ wss) name ≡ kind_named wss name
kind_named-same ws wss name h =
    let later : Option (List (List ℕ)) = find (λ xs. declares_well xs && bytes_eq (word_at 1 xs) name) wss in
    ap (λ own. option_and_then (λ xs. option_map (λ d. kind_said 0 d xs) (declarator_of (first_word_of (word_at 0 xs))))
    (cond ((is_some own && is_name (word_at 1 ws) && not (bytes_eq (word_at 1 ws) (codes "main"))) && bytes_eq (word_at 1 ws) name) (Some ws) later)) h

kind_named-more : (ws : List (List ℕ)) (wss : List (List (List ℕ))) (name : List ℕ) (d : Declarator) → declarator_of (first_word_of (word_at 0 ws)) ≡ Some d → kind_named (ws ∷ wss) name ≡ cond (is_new (word_at 1 ws) && bytes_eq (word_at 1 ws) name) (Some (kind_said 0 d ws)) (kind_named wss name)
kind_named-more ws wss name d h =
    let test = is_new (word_at 1 ws) && bytes_eq (word_at 1 ws) name in
    let said : List (List ℕ) → Option Kind = λ xs. option_map (λ c. kind_said 0 c xs) (declarator_of (first_word_of (word_at 0 xs))) in
    let later : Option (List (List ℕ)) = find (λ xs. declares_well xs && bytes_eq (word_at 1 xs) name) wss in
    ap (λ own. option_and_then said (cond ((is_some own && is_name (word_at 1 ws) && not (bytes_eq (word_at 1 ws) (codes "main"))) && bytes_eq (word_at 1 ws) name) (Some ws) later)) h
    ∙ cond_both test (Some ws) later (λ r. option_and_then said r ≡ cond test (Some (kind_said 0 d ws)) (option_and_then said later))
    (λ t. ap (option_map (λ c. kind_said 0 c ws)) h ∙ sym (cond-true test _ _ t)) (λ f. sym (cond-false test _ _ f))

kind_or : (o : ℕ) (own : Option Declarator) (ws : List (List ℕ)) (wss : List (List (List ℕ))) (name : List ℕ) → declarator_of (first_word_of (word_at 0 ws)) ≡ own → ((p : ℕ) → option_map (λ k. k.kind) (known_by p wss name) ≡ kind_named wss name) → option_map (λ k. k.kind) (known_or o own ws name (λ p. known_by p wss name)) ≡ kind_named (ws ∷ wss) name
kind_or o None ws wss name h later = later o ∙ sym (kind_named-same ws wss name h)
kind_or o (Some d) ws wss name h later =
    let test = is_new (word_at 1 ws) && bytes_eq (word_at 1 ws) name in
    let known : Known = record { kind = kind_said 0 d ws; number = o } in
    cond_both test (Some known) (known_by (suc o) wss name) (λ r. option_map (λ k. k.kind) r ≡ cond test (Some (kind_said 0 d ws)) (kind_named wss name))
    (λ t. sym (cond-true test _ _ t)) (λ f. later (suc o) ∙ sym (cond-false test _ _ f))
    ∙ sym (kind_named-more ws wss name d h)

pub kind_known : (o : ℕ) (wss : List (List (List ℕ))) (name : List ℕ) → option_map (λ k. k.kind) (known_by o wss name) ≡ kind_named wss name
kind_known o [] name = refl
kind_known o (ws ∷ wss) name =
    let own = declarator_of (first_word_of (word_at 0 ws)) in
    kind_or o own ws wss name refl (λ p. kind_known p wss name)

-- a new name is added to those that were found
pub added : {X : Type 0} (b : Bool) (got : Option X) (k : X) (later : Option X) → (b ≡ true → got ≡ None) → option_or (cond b (Some k) got) later ≡ option_or got (cond b (Some k) later)
added true got k later none = ap (λ g. option_or g (Some k)) (sym (none refl))
added false got k later none = refl

-- a name that was found stays
pub kept : {X : Type 0} (b : Bool) (got : Option X) (k : X) (later : Option X) → (b ≡ true → is_some got ≡ true) → option_or got later ≡ option_or got (cond b (Some k) later)
kept b None k later some = cond_both b (Some k) later (λ r. later ≡ r) (λ e. absurd (let no : false ≡ true = some e in cc)) (λ e. refl)
kept b (Some x) k later some = refl

pub is_none_if : {X : Type 0} (got : Option X) → is_some got ≡ false → got ≡ None
is_none_if None h = refl
is_none_if (Some x) h = absurd (cc)

and_false : (a : Bool) → (a && false) ≡ false
and_false true = refl
and_false false = refl

-- no name is empty
not_empty : (name : List ℕ) → (is_new name && bytes_eq name []) ≡ false
not_empty [] = refl
not_empty (b ∷ bs) = and_false (is_new (b ∷ bs))

known_or-empty : (o : ℕ) (own : Option Declarator) (ws : List (List ℕ)) (later : ℕ → Option Known) → ((p : ℕ) → later p ≡ None) → known_or o own ws [] later ≡ None
known_or-empty o None ws later none = none o
known_or-empty o (Some d) ws later none = cond-false (is_new (word_at 1 ws) && bytes_eq (word_at 1 ws) []) _ _ (not_empty (word_at 1 ws)) ∙ none (suc o)

known_by-empty : (o : ℕ) (wss : List (List (List ℕ))) → known_by o wss [] ≡ None
known_by-empty o [] = refl
known_by-empty o (ws ∷ wss) =
    known_or-empty o (declarator_of (first_word_of (word_at 0 ws))) ws (λ p. known_by p wss []) (λ p. known_by-empty p wss)

pub known_by-no_name : (o : ℕ) (wss : List (List (List ℕ))) (name : List ℕ) → true ≡ (length name == 0) → None ≡ known_by o wss name
known_by-no_name o wss [] h = sym (known_by-empty o wss)
known_by-no_name o wss (b ∷ bs) h = let zero_length = (Decides-eqb (length (b ∷ bs)) 0).0 (sym h) in absurd (omega arith)
