-- The number that is known of a name is that of the object with the name.
use Rattle.std.proofs.Common.{◌≡◌, ℕ, suc, Bool, true, false, not, ◌&&◌, List, [], ◌∷◌, bytes_eq, eqb-true, length, Option, Some, None, option_map, unwrap_or, refl, sym, ap, subst, ◌∙◌, arith}
use Rattle.std.proofs.lemmas.Bool.{cond_both, cond-true, cond-false, and_right, and_from}
use Rattle.std.proofs.lemmas.Slice.Eq.{bytes_eq-Decides}
use Rattle.tm_base.specs.declared.kinds.Kind.{Kind}
use Rattle.tm_base.specs.declared.opcodes.Opcode.{Opcode}
use Rattle.tm_lines.specs.declared.first_words.Declarator.{Declarator}
use Rattle.tm_lines.specs.declared.first_words.FirstWord.{FirstWord}
use Rattle.tm_lines.specs.declared.first_words.FirstWord.TheVariants as first
use Rattle.tm_lines.specs.declared.names.Known.{Known}
use Rattle.tm_lines.specs.declared.saying.Said.{Said}
use Rattle.tm_lines.specs.FirstWords.{first_word_of, operand_slots}
use Rattle.tm_lines.specs.KnownNames.{is_new, known_by, known_in, known_or, number_known}
use Rattle.tm_lines.specs.LineFaults.{Place, fault_of_line}
use Rattle.tm_lines.specs.Lines.{words_of}
use Rattle.tm_lines.specs.NamedLines.{declarator_of, kind_said, word_at}
use Rattle.tm_lines.specs.Saying.{IsSaid}
use Rattle.tm_lines.specs.TextFaults.{named_in, said_words}
use Rattle.tm_lines.proofs.NamesLemmas.{kind_known}
use Rattle.tm_text.specs.SpelledPrograms.{NamesObject}
use Rattle.tm_text.specs.Texts.{declarations_said, next_thread, number_in, number_named}
use Rattle.tm_text.proofs.Faultless.{Begins, Fine, begins}
use Rattle.tm_text.proofs.SaidNames.{declarations-more, declarations-same, declared}

module _ (name : List ℕ) (k : Known) where
  -- a name of which something is known is a name
  new_or : (o : ℕ) (own : Option Declarator) (ws : List (List ℕ)) (later : ℕ → Option Known) → ((p : ℕ) → later p ≡ Some k → is_new name ≡ true) → known_or o own ws name later ≡ Some k → is_new name ≡ true
  new_or o None ws later new h = new o h
  new_or o (Some d) ws later new h =
      let test = is_new (word_at 1 ws) && bytes_eq (word_at 1 ws) name in
      cond_both test (Some (record { kind = kind_said 0 d ws; number = o })) (later (suc o)) (λ r. r ≡ Some k → is_new name ≡ true)
      (λ t is. let same = (bytes_eq-Decides (word_at 1 ws) name).0 (and_second (is_new (word_at 1 ws)) (bytes_eq (word_at 1 ws) name) t) in ap is_new (sym same) ∙ and_first (is_new (word_at 1 ws)) (bytes_eq (word_at 1 ws) name) t)
      (λ f is. new (suc o) is) h
    where
      and_first : (a b : Bool) → (a && b) ≡ true → a ≡ true
      and_first true b e = refl
      and_first false b e = e

      and_second : (a b : Bool) → (a && b) ≡ true → b ≡ true
      and_second true b e = e
      and_second false b e = absurd (cc)

  new_by : (o : ℕ) (wss : List (List (List ℕ))) → known_by o wss name ≡ Some k → is_new name ≡ true
  new_by o [] h = absurd (cc)
  new_by o (ws ∷ wss) h = new_or o (declarator_of (first_word_of (word_at 0 ws))) ws (λ p. known_by p wss name) (λ p. new_by p wss) h

  number_or : (o t : ℕ) (ws : List (List ℕ)) (wss : List (List (List ℕ))) (own : Option Declarator) → declarator_of (first_word_of (word_at 0 ws)) ≡ own → is_new name ≡ true → ((p u : ℕ) → known_by p wss name ≡ Some k → number_in p (declarations_said u wss) name ≡ Some k.number) → known_or o own ws name (λ p. known_by p wss name) ≡ Some k → number_in o (declarations_said t (ws ∷ wss)) name ≡ Some k.number
  number_or o t ws wss None e new later h = ap (λ ds. number_in o ds name) (declarations-same t ws wss e) ∙ later o t h
  number_or o t ws wss (Some d) e new later h =
      ap (λ ds. number_in o ds name) (declarations-more t ws wss d e) ∙ by (bytes_eq (word_at 1 ws) name) refl
    where
      by : (b : Bool) → bytes_eq (word_at 1 ws) name ≡ b → number_in o (declared t d ws ∷ declarations_said (next_thread t d) wss) name ≡ Some k.number
      by true same =
          let named : word_at 1 ws ≡ name = (bytes_eq-Decides (word_at 1 ws) name).0 same in
          let test = and_from (is_new (word_at 1 ws)) (bytes_eq (word_at 1 ws) name) (ap is_new named ∙ new) same in
          let here : Some (record { kind = kind_said 0 d ws; number = o }) ≡ Some k = sym (cond-true (is_new (word_at 1 ws) && bytes_eq (word_at 1 ws) name) _ _ test) ∙ h in
          cond-true (bytes_eq (word_at 1 ws) name) (Some o) _ same ∙ ap (option_map (λ (known : Known). known.number)) here
      by false other =
          let skipped = sym (cond-false (is_new (word_at 1 ws) && bytes_eq (word_at 1 ws) name) _ _ (and_right (is_new (word_at 1 ws)) (bytes_eq (word_at 1 ws) name) other)) in
          cond-false (bytes_eq (word_at 1 ws) name) (Some o) _ other ∙ later (suc o) (next_thread t d) (skipped ∙ h)

  number_by : (o t : ℕ) (wss : List (List (List ℕ))) → is_new name ≡ true → known_by o wss name ≡ Some k → number_in o (declarations_said t wss) name ≡ Some k.number
  number_by o t [] new h = absurd (cc)
  number_by o t (ws ∷ wss) new h =
      number_or o t ws wss (declarator_of (first_word_of (word_at 0 ws))) refl new (λ p u. number_by p u wss new) h

  number_is : (t : ℕ) (wss : List (List (List ℕ))) → known_by 0 wss name ≡ Some k → k.number ≡ number_named (declarations_said t wss) name
  number_is t wss h = sym (ap (λ o. unwrap_or o 0) (number_by 0 t wss (new_by 0 wss h) h))

-- of a name with a kind a number is known
number_said : (t : ℕ) (wss : List (List (List ℕ))) (name : List ℕ) (known : Option Known) (kind : Kind) → known_by 0 wss name ≡ known → option_map (λ k. k.kind) known ≡ Some kind → number_known known ≡ number_named (declarations_said t wss) name
number_said t wss name None kind h is = absurd (cc)
number_said t wss name (Some k) kind h is = number_is name k t wss h

not_false : (b : Bool) → not b ≡ false → b ≡ true
not_false true e = refl
not_false false e = absurd (cc)

-- the object that a call names is known
is_known : (p : Place) (c : Opcode) (found : Option Kind) (ws : List (List ℕ)) → Fine p (first.Calls c) found ws → (k : Kind) × (found ≡ Some k)
is_known p c found [] fine = let count = eqb-true 0 (suc (suc (length (operand_slots c)))) (not_false _ fine.count) in absurd (omega arith)
is_known p c found (w ∷ []) fine = let count = eqb-true 1 (suc (suc (length (operand_slots c)))) (not_false _ fine.count) in absurd (omega arith)
is_known p c None (w ∷ name ∷ ws) fine = absurd (let no : true ≡ false = fine.unknown in cc)
is_known p c (Some k) (w ∷ name ∷ ws) fine = (k, refl)

by_first : (lines : List (List ℕ)) (p : Place) (ws : List (List ℕ)) (said : Said) (f : FirstWord) → said.first ≡ f → Begins (named_in lines) p ws → IsSaid lines said ws → NamesObject (declarations_said 1 (said_words lines)) said f
by_first lines p ws said (first.Calls c) e begun is =
    let name = word_at 1 ws in
    let same : Some begun.first ≡ Some (first.Calls c) = sym begun.is_first ∙ is.first ∙ ap Some e in
    let calls : begun.first ≡ first.Calls c = cc in
    let kind = is_known p c (named_in lines name) ws (subst (λ f. Fine p f (named_in lines name) ws) calls begun.fine) in
    is.object
    ∙ number_said 1 (said_words lines) name (known_in lines name) kind.0 refl (kind_known 0 (said_words lines) name ∙ kind.1)
    ∙ ap (number_named (declarations_said 1 (said_words lines))) (sym is.words.second)
by_first lines p ws said (first.Declares d) e begun is = tt
by_first lines p ws said first.Set e begun is = tt
by_first lines p ws said first.Inc e begun is = tt
by_first lines p ws said first.Repeat e begun is = tt
by_first lines p ws said first.While e begun is = tt
by_first lines p ws said first.If e begun is = tt
by_first lines p ws said first.End e begun is = tt

pub names_object : (lines : List (List ℕ)) (p : Place) (bytes : List ℕ) (said : Said) → fault_of_line (named_in lines) p bytes ≡ None → IsSaid lines said (words_of bytes) → NamesObject (declarations_said 1 (said_words lines)) said said.first
names_object lines p bytes said faultless is = by_first lines p (words_of bytes) said said.first refl (begins (named_in lines) p bytes faultless) is
