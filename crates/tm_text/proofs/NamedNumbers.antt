-- Objects by their names: the number of a name is that of the object that has it.
use Rattle.std.proofs.Common.{◌≡◌, ◌≢◌, ℕ, zero, suc, ◌+◌, Bool, true, false, ◌&&◌, ◌||◌, List, [], ◌∷◌, slice_get, find, bytes_eq, Option, Some, None, option_map, option_and_then, unwrap_or, refl, sym, ap, ◌∙◌, arith}
use Rattle.std.specs.List.{list_any}
use Rattle.std.proofs.lemmas.Bool.{and_left, and_right, or_left, or_right, cond_both, cond-true, cond-false, false_from_ne_true}
use Rattle.std.proofs.lemmas.Slice.Eq.{bytes_eq-Decides}
use Rattle.tm_base.specs.declared.kinds.Kind.{Kind}
use Rattle.tm_lines.specs.declared.first_words.Declarator.{Declarator}
use Rattle.tm_lines.specs.FirstWords.{first_word_of}
use Rattle.tm_lines.specs.NamedLines.{declarator_of, declares_well, kind_named, kind_said, word_at}
use Rattle.tm_text.specs.declared.exercises.Declaration.{Declaration}
use Rattle.tm_text.specs.Exercises.{name_at, name_of}
use Rattle.tm_text.specs.Texts.{declarations_said, next_thread, number_in, number_named}
use Rattle.tm_text.proofs.SaidNames.{declarations-more, declarations-same}

-- one of these objects has the name
abbrev pub has_name : List Declaration → List ℕ → Bool
has_name ds name = list_any (λ d. bytes_eq d.name name) ds

name_back : (o : ℕ) (ds : List Declaration) (name : List ℕ) → has_name ds name ≡ true → (i : ℕ) × (number_in o ds name ≡ Some (o + i)) × (name_of ds i ≡ name)
name_back o [] name h = absurd (cc)
name_back o (d ∷ ds) name h =
    cond_both (bytes_eq d.name name) (Some o) (number_in (suc o) ds name)
    (λ r. has_name (d ∷ ds) name ≡ true → (i : ℕ) × (r ≡ Some (o + i)) × (name_of (d ∷ ds) i ≡ name))
    (λ t any. (0, (let here : o ≡ o + 0 = omega arith in ap Some here), (bytes_eq-Decides d.name name).0 t))
    (λ f any.
    let found = name_back (suc o) ds name (sym (ap (λ b. b || has_name ds name) f) ∙ any) in
    let there : suc o + found.0 ≡ o + suc found.0 = omega arith in
    (suc found.0, found.1 ∙ ap Some there, found.2)) h

-- the object with the number of a name has the name
pub name_of-number : (ds : List Declaration) (name : List ℕ) → has_name ds name ≡ true → name_of ds (number_named ds name) ≡ name
name_of-number ds name h =
    let found = name_back 0 ds name h in
    let zeroth : 0 + found.0 ≡ found.0 = omega arith in
    let at : number_named ds name ≡ found.0 = ap (λ n. unwrap_or n 0) found.1 ∙ zeroth in
    ap (name_of ds) at ∙ found.2

-- no two objects have one name
abbrev pub Once : List Declaration → Type 0
Once ds = (o p : ℕ) (c d : Declaration) → slice_get ds o ≡ Some c → slice_get ds p ≡ Some d → c.name ≡ d.name → o ≡ p

pub number_back : (n : ℕ) (ds : List Declaration) → Once ds → (o : ℕ) (d : Declaration) → slice_get ds o ≡ Some d → number_in n ds d.name ≡ Some (n + o)
number_back n [] once o d at = absurd (cc)
number_back n (c ∷ ds) once zero d at =
    let same : c ≡ d = cc in
    let here : n ≡ n + 0 = omega arith in
    cond-true (bytes_eq c.name d.name) (Some n) (number_in (suc n) ds d.name) ((bytes_eq-Decides c.name d.name).1 (ap (λ x. x.name) same)) ∙ ap Some here
number_back n (c ∷ ds) once (suc o) d at =
    let differ : c.name ≢ d.name = λ e. let no : 0 ≡ suc o = once 0 (suc o) c d refl at e in absurd (omega arith) in
    let other = false_from_ne_true (bytes_eq c.name d.name) (λ e. differ ((bytes_eq-Decides c.name d.name).0 e)) in
    let later : Once ds = λ i j a b at_i at_j e. let next : suc i ≡ suc j = once (suc i) (suc j) a b at_i at_j e in omega arith in
    let there : suc n + o ≡ n + suc o = omega arith in
    cond-false (bytes_eq c.name d.name) (Some n) (number_in (suc n) ds d.name) other ∙ number_back (suc n) ds later o d at ∙ ap Some there

-- the number of an object's name is the object's
pub number_of-name : (ds : List Declaration) → Once ds → (o : ℕ) (d : Declaration) → slice_get ds o ≡ Some d → number_named ds (name_of ds o) ≡ o
number_of-name ds once o d at =
    let zeroth : 0 + o ≡ o = omega arith in
    ap (λ r. number_named ds (name_at r)) at ∙ ap (λ n. unwrap_or n 0) (number_back 0 ds once o d at) ∙ zeroth

pub skipped : (ws : List (List ℕ)) (wss : List (List (List ℕ))) (name : List ℕ) → (declares_well ws && bytes_eq (word_at 1 ws) name) ≡ false → kind_named (ws ∷ wss) name ≡ kind_named wss name
skipped ws wss name h =
    ap (option_and_then (λ xs. option_map (λ d. kind_said 0 d xs) (declarator_of (first_word_of (word_at 0 xs)))))
    (cond-false (declares_well ws && bytes_eq (word_at 1 ws) name) (Some ws) (find (λ xs. declares_well xs && bytes_eq (word_at 1 xs) name) wss) h)

-- a name of the text is one of the objects'
name_by : (t : ℕ) (ws : List (List ℕ)) (wss : List (List (List ℕ))) (name : List ℕ) (own : Option Declarator) → declarator_of (first_word_of (word_at 0 ws)) ≡ own → (k : Kind)
    → ((u : ℕ) → kind_named wss name ≡ Some k → has_name (declarations_said u wss) name ≡ true) → kind_named (ws ∷ wss) name ≡ Some k → has_name (declarations_said t (ws ∷ wss)) name ≡ true
name_by t ws wss name None e k later h =
    let off : declares_well ws ≡ false = rw e refl in
    ap (λ ds. has_name ds name) (declarations-same t ws wss e) ∙ later t (sym (skipped ws wss name (and_left (declares_well ws) (bytes_eq (word_at 1 ws) name) off)) ∙ h)
name_by t ws wss name (Some d) e k later h =
    let rest = declarations_said (next_thread t d) wss in
    ap (λ ds. has_name ds name) (declarations-more t ws wss d e) ∙ by (bytes_eq (word_at 1 ws) name) refl
  where
    by : (b : Bool) → bytes_eq (word_at 1 ws) name ≡ b → (bytes_eq (word_at 1 ws) name || has_name (declarations_said (next_thread t d) wss) name) ≡ true
    by true same = or_left _ _ same
    by false other = or_right _ _ (later (next_thread t d) (sym (skipped ws wss name (and_right (declares_well ws) (bytes_eq (word_at 1 ws) name) other)) ∙ h))

pub named_is : (t : ℕ) (wss : List (List (List ℕ))) (name : List ℕ) (k : Kind) → kind_named wss name ≡ Some k → has_name (declarations_said t wss) name ≡ true
named_is t [] name k h = absurd (cc)
named_is t (ws ∷ wss) name k h = name_by t ws wss name (declarator_of (first_word_of (word_at 0 ws))) refl k (λ u. named_is u wss name k) h
