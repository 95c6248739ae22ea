-- The objects that lines declare, each with the kind that the text's names give it.
use Rattle.std.proofs.Common.{◌≡◌, ℕ, suc, ◌+◌, Bool, true, false, ◌&&◌, List, [], ◌∷◌, codes, bytes_eq, slice_get, find, Option, Some, None, option_map, option_and_then, unwrap_or, refl, sym, ap, subst, ◌∙◌, arith}
use Rattle.std.proofs.lemmas.Bool.{cond_both, cond-true, cond-false, and_left, and_right, and_from}
use Rattle.tm_base.specs.declared.kinds.Kind.{Kind}
use Rattle.tm_base.specs.declared.kinds.Kind.TheVariants as kind
use Rattle.tm_lines.specs.declared.first_words.Declarator.{Declarator}
use Rattle.tm_lines.specs.declared.first_words.Declarator.TheVariants as declares
use Rattle.tm_lines.specs.FirstWords.{first_word_of}
use Rattle.tm_lines.specs.NamedLines.{conditions_said, declarator_of, declares_well, kind_named, kind_said, word_at}
use Rattle.tm_text.specs.declared.exercises.Declaration.{Declaration}
use Rattle.tm_text.specs.Texts.{declarations_said, declared_by, next_thread, number_in, number_named}

-- the kind without the number of a thread
abbrev pub unnumbered : Kind → Kind
unnumbered (kind.Thread own held) = kind.Thread 0 held
unnumbered k = k

unnumbered-said : (t : ℕ) (d : Declarator) (ws : List (List ℕ)) → unnumbered (kind_said t d ws) ≡ kind_said 0 d ws
unnumbered-said t declares.Monitor ws =
    cond_both (bytes_eq (word_at 2 ws) (codes "hoare")) (kind.Hoare (conditions_said (word_at 3 ws))) (kind.Mesa (conditions_said (word_at 3 ws)))
    (λ k. unnumbered k ≡ k) (λ e. refl) (λ e. refl)
unnumbered-said t d ws = refl

-- the object that a line declares
abbrev pub declared : ℕ → Declarator → List (List ℕ) → Declaration
declared t d ws = record { name = word_at 1 ws; kind = kind_said t d ws }

pub declarations-more : (t : ℕ) (ws : List (List ℕ)) (wss : List (List (List ℕ))) (d : Declarator) → declarator_of (first_word_of (word_at 0 ws)) ≡ Some d → declarations_said t (ws ∷ wss) ≡ declared t d ws ∷ declarations_said (next_thread t d) wss
declarations-more t ws wss d e = ap (λ found. declared_by found t ws (λ u. declarations_said u wss)) e

pub declarations-same : (t : ℕ) (ws : List (List ℕ)) (wss : List (List (List ℕ))) → declarator_of (first_word_of (word_at 0 ws)) ≡ None → declarations_said t (ws ∷ wss) ≡ declarations_said t wss
declarations-same t ws wss e = ap (λ found. declared_by found t ws (λ u. declarations_said u wss)) e

-- every line that declares does it well
abbrev pub AllDeclareWell : List (List (List ℕ)) → Type 0
AllDeclareWell [] = Unit {0}
AllDeclareWell (ws ∷ wss) = ((d : Declarator) → declarator_of (first_word_of (word_at 0 ws)) ≡ Some d → declares_well ws ≡ true) × AllDeclareWell wss

-- an object with this name and this kind is found among these, the first of which has this number
abbrev FoundFrom : ℕ → List Declaration → List ℕ → Kind → Type 0
FoundFrom o ds name k = (i : ℕ) × (d : Declaration) × (number_in o ds name ≡ Some (o + i)) × (slice_get ds i ≡ Some d) × (unnumbered d.kind ≡ k)

abbrev pub IsFound : List Declaration → List ℕ → Kind → Type 0
IsFound ds name k = (d : Declaration) × (slice_get ds (number_named ds name) ≡ Some d) × (unnumbered d.kind ≡ k)

found_first : (o : ℕ) (d : Declaration) (ds : List Declaration) (name : List ℕ) (k : Kind) → bytes_eq d.name name ≡ true → unnumbered d.kind ≡ k → FoundFrom o (d ∷ ds) name k
found_first o d ds name k e same =
    let here : o ≡ o + 0 = omega arith in
    (0, d, cond-true (bytes_eq d.name name) (Some o) (number_in (suc o) ds name) e ∙ ap Some here, refl, same)

found_later : (o : ℕ) (d : Declaration) (ds : List Declaration) (name : List ℕ) (k : Kind) → bytes_eq d.name name ≡ false → FoundFrom (suc o) ds name k → FoundFrom o (d ∷ ds) name k
found_later o d ds name k e found =
    let i = found.0 in
    let there : suc o + i ≡ o + suc i = omega arith in
    (suc i, found.1, cond-false (bytes_eq d.name name) (Some o) (number_in (suc o) ds name) e ∙ found.2 ∙ ap Some there, found.3, found.4)

abbrev names_it : List ℕ → List (List ℕ) → Bool
names_it name ws = declares_well ws && bytes_eq (word_at 1 ws) name

kind_named-skip : (ws : List (List ℕ)) (wss : List (List (List ℕ))) (name : List ℕ) → names_it name ws ≡ false → kind_named (ws ∷ wss) name ≡ kind_named wss name
kind_named-skip ws wss name h =
    ap (option_and_then (λ xs. option_map (λ d. kind_said 0 d xs) (declarator_of (first_word_of (word_at 0 xs))))) (cond-false (names_it name ws) (Some ws) (find (names_it name) wss) h)

kind_named-here : (ws : List (List ℕ)) (wss : List (List (List ℕ))) (name : List ℕ) (d : Declarator) → names_it name ws ≡ true → declarator_of (first_word_of (word_at 0 ws)) ≡ Some d → kind_named (ws ∷ wss) name ≡ Some (kind_said 0 d ws)
kind_named-here ws wss name d h e =
    ap (option_and_then (λ xs. option_map (λ c. kind_said 0 c xs) (declarator_of (first_word_of (word_at 0 xs))))) (cond-true (names_it name ws) (Some ws) (find (names_it name) wss) h)
    ∙ ap (option_map (λ c. kind_said 0 c ws)) e

no_declarator : (ws : List (List ℕ)) → declarator_of (first_word_of (word_at 0 ws)) ≡ None → declares_well ws ≡ false
no_declarator ws e = rw e refl

module _ (name : List ℕ) (k : Kind) where
  found_by : (o t : ℕ) (ws : List (List ℕ)) (wss : List (List (List ℕ))) (own : Option Declarator) → declarator_of (first_word_of (word_at 0 ws)) ≡ own → AllDeclareWell (ws ∷ wss) → ((p u : ℕ) → kind_named wss name ≡ Some k → FoundFrom p (declarations_said u wss) name k) → kind_named (ws ∷ wss) name ≡ Some k → FoundFrom o (declarations_said t (ws ∷ wss)) name k
  found_by o t ws wss None e well later h =
      let skipped = kind_named-skip ws wss name (and_left (declares_well ws) (bytes_eq (word_at 1 ws) name) (no_declarator ws e)) in
      subst (λ ds. FoundFrom o ds name k) (sym (declarations-same t ws wss e)) (later o t (sym skipped ∙ h))
  found_by o t ws wss (Some d) e well later h =
      let ds = declarations_said (next_thread t d) wss in
      subst (λ xs. FoundFrom o xs name k) (sym (declarations-more t ws wss d e))
      (by (bytes_eq (word_at 1 ws) name) refl)
    where
      by : (b : Bool) → bytes_eq (word_at 1 ws) name ≡ b → FoundFrom o (declared t d ws ∷ declarations_said (next_thread t d) wss) name k
      by true same =
          let here : Some (kind_said 0 d ws) ≡ Some k = sym (kind_named-here ws wss name d (and_from (declares_well ws) (bytes_eq (word_at 1 ws) name) (well.0 d e) same) e) ∙ h in
          let is : kind_said 0 d ws ≡ k = cc in
          found_first o (declared t d ws) (declarations_said (next_thread t d) wss) name k same (unnumbered-said t d ws ∙ is)
      by false other =
          let skipped = kind_named-skip ws wss name (and_right (declares_well ws) (bytes_eq (word_at 1 ws) name) other) in
          found_later o (declared t d ws) (declarations_said (next_thread t d) wss) name k other (later (suc o) (next_thread t d) (sym skipped ∙ h))

  found_from : (o t : ℕ) (wss : List (List (List ℕ))) → AllDeclareWell wss → kind_named wss name ≡ Some k → FoundFrom o (declarations_said t wss) name k
  found_from o t [] well h = absurd (cc)
  found_from o t (ws ∷ wss) well h = found_by o t ws wss (declarator_of (first_word_of (word_at 0 ws))) refl well (λ p u. found_from p u wss well.1) h

  -- a name of the text is that of an object with its kind
  pub found : (t : ℕ) (wss : List (List (List ℕ))) → AllDeclareWell wss → kind_named wss name ≡ Some k → IsFound (declarations_said t wss) name k
  found t wss well h =
      let at = found_from 0 t wss well h in
      let place : number_named (declarations_said t wss) name ≡ at.0 = ap (λ o. unwrap_or o 0) at.2 ∙ (let z : 0 + at.0 ≡ at.0 = omega arith in z) in
      (at.1, ap (slice_get (declarations_said t wss)) place ∙ at.3, at.4)
