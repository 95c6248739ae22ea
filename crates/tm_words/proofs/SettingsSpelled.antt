-- Words are the spelling of one setting, of one list of settings, and of one run's rules, at most.
use Rattle.std.proofs.Common.{◌≡◌, ℕ, List, [], ◌∷◌, ◌++◌, get_or, eqb, false, codes, ap, sym, subst, ◌∙◌, ◌⊎◌, inl, inr, refl}
use Rattle.std.proofs.lemmas.Bool.{false≢true}
use Rattle.std.proofs.lemmas.Bool.Decides.{Decides-eqb}
use Rattle.tm_base.specs.declared.rules.Rules.{Rules}
use Rattle.tm_words.specs.Numbers.{IsNumber}
use Rattle.tm_words.specs.RunWords.{AreOption, AreSettings, Begins, Events, Schedule, Setting, SpellsRules, option_word, rules_by, setting_value}

-- the words begin with an option and its number, in two words or in one
abbrev pub BeginsWith : List (List ℕ) → List ℕ → List ℕ → List (List ℕ) → Type 0
BeginsWith words option number back =
    (words ≡ option ∷ number ∷ back) ⊎ (words ≡ (option ++ codes "=" ++ number) ∷ back)

begins_by : (words prefix back : List (List ℕ)) (option number : List ℕ) → words ≡ prefix ++ back → AreOption prefix option number → BeginsWith words option number back
begins_by words prefix back option number parts (inl two) = inl (parts ∙ ap (λ f. f ++ back) two)
begins_by words prefix back option number parts (inr one) = inr (parts ∙ ap (λ f. f ++ back) one)

pub begins : (words : List (List ℕ)) (s : Setting) (back : List (List ℕ)) (b : Begins words s back) → BeginsWith words (option_word s) b.spelled.number back
begins words s back b = begins_by words b.prefix back (option_word s) b.spelled.number b.parts b.spelled.written

-- no words spell nothing
none_begin_by : (option number : List ℕ) (back : List (List ℕ)) → BeginsWith [] option number back → ⊥
none_begin_by option number back (inl two) = (cc)
none_begin_by option number back (inr one) = (cc)

pub none_begin : (s : Setting) (back : List (List ℕ)) → Begins [] s back → ⊥
none_begin s back b = none_begin_by (option_word s) b.spelled.number back (begins [] s back b)

-- a byte of the first word, which tells one option from another, and from one with `=` behind it
abbrev code_at : ℕ → List (List ℕ) → ℕ
code_at i words = get_or (get_or words 0 []) i 0

differ : (i : ℕ) (words others : List (List ℕ)) → words ≡ others → eqb (code_at i words) (code_at i others) ≡ false → ⊥
differ i words others e unlike =
    let alike = (Decides-eqb (code_at i words) (code_at i others)).1 (ap (code_at i) e) in
    false≢true (sym unlike ∙ alike)

-- the words begin with one setting
one_by : (words : List (List ℕ)) (s t : Setting) (m n : List ℕ) (back rest : List (List ℕ)) → BeginsWith words (option_word s) m back → BeginsWith words (option_word t) n rest → IsNumber m (setting_value s) → IsNumber n (setting_value t) → (s ≡ t) × (back ≡ rest)
one_by words (Schedule u) (Schedule v) m n back rest (inl a) (inl b) p q = let h = sym a ∙ b in (cc, cc)
one_by words (Schedule u) (Schedule v) m n back rest (inr a) (inr b) p q = let h = sym a ∙ b in (cc, cc)
one_by words (Schedule u) (Schedule v) m n back rest (inl a) (inr b) p q = absurd (differ 10 _ _ (sym a ∙ b) refl)
one_by words (Schedule u) (Schedule v) m n back rest (inr a) (inl b) p q = absurd (differ 10 _ _ (sym a ∙ b) refl)
one_by words (Events u) (Events v) m n back rest (inl a) (inl b) p q = let h = sym a ∙ b in (cc, cc)
one_by words (Events u) (Events v) m n back rest (inr a) (inr b) p q = let h = sym a ∙ b in (cc, cc)
one_by words (Events u) (Events v) m n back rest (inl a) (inr b) p q = absurd (differ 8 _ _ (sym a ∙ b) refl)
one_by words (Events u) (Events v) m n back rest (inr a) (inl b) p q = absurd (differ 8 _ _ (sym a ∙ b) refl)
one_by words (Schedule u) (Events v) m n back rest (inl a) (inl b) p q = absurd (differ 2 _ _ (sym a ∙ b) refl)
one_by words (Schedule u) (Events v) m n back rest (inr a) (inr b) p q = absurd (differ 2 _ _ (sym a ∙ b) refl)
one_by words (Schedule u) (Events v) m n back rest (inl a) (inr b) p q = absurd (differ 2 _ _ (sym a ∙ b) refl)
one_by words (Schedule u) (Events v) m n back rest (inr a) (inl b) p q = absurd (differ 2 _ _ (sym a ∙ b) refl)
one_by words (Events u) (Schedule v) m n back rest (inl a) (inl b) p q = absurd (differ 2 _ _ (sym a ∙ b) refl)
one_by words (Events u) (Schedule v) m n back rest (inr a) (inr b) p q = absurd (differ 2 _ _ (sym a ∙ b) refl)
one_by words (Events u) (Schedule v) m n back rest (inl a) (inr b) p q = absurd (differ 2 _ _ (sym a ∙ b) refl)
one_by words (Events u) (Schedule v) m n back rest (inr a) (inl b) p q = absurd (differ 2 _ _ (sym a ∙ b) refl)

pub Begins-one : (words : List (List ℕ)) (s t : Setting) (back rest : List (List ℕ)) → Begins words s back → Begins words t rest → (s ≡ t) × (back ≡ rest)
Begins-one words s t back rest a b =
    one_by words s t a.spelled.number b.spelled.number back rest (begins words s back a) (begins words t rest b) a.spelled.value b.spelled.value

-- words that begin with a setting spell it and then the others
pub AreSettings-next : (words : List (List ℕ)) (s : Setting) (back : List (List ℕ)) (ss : List Setting) → Begins words s back → AreSettings words ss → (ts : List Setting) × (ss ≡ s ∷ ts) × AreSettings back ts
AreSettings-next words s back [] b are =
    let P : List (List ℕ) → Type 0 = λ ws. Begins ws s back in
    absurd (none_begin s back (subst P are b))
AreSettings-next words s back (t ∷ ts) b are =
    let one = Begins-one words s t back are.0 b are.1 in
    let P : List (List ℕ) → Type 0 = λ ws. AreSettings ws ts in
    (ts, ap (λ u. u ∷ ts) (sym one.0), subst P (sym one.1) are.2)

pub AreSettings-one : (words : List (List ℕ)) (ss ts : List Setting) → AreSettings words ss → AreSettings words ts → ss ≡ ts
AreSettings-one words [] [] a b = refl
AreSettings-one words [] (t ∷ ts) a b =
    let P : List (List ℕ) → Type 0 = λ ws. Begins ws t b.0 in
    absurd (none_begin t b.0 (subst P a b.1))
AreSettings-one words (s ∷ ss) ts a b =
    let next = AreSettings-next words s a.0 ts a.1 b in
    ap (λ us. s ∷ us) (AreSettings-one a.0 ss next.0 a.2 next.2) ∙ sym next.1

pub one_rules : (words : List (List ℕ)) (a b : Rules) → SpellsRules words a → SpellsRules words b → a ≡ b
one_rules words a b p q =
    let settings = AreSettings-one words p.settings q.settings p.spelled q.spelled in
    p.made ∙ ap rules_by settings ∙ sym q.made
