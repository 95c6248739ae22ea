-- Words describe one plan at most.
use Rattle.std.proofs.Common.{◌≡◌, ℕ, Bool, true, false, List, [], ◌∷◌, ◌++◌, length, get_or, eqb, Option, MatchOption, ap, sym, subst, ◌∙◌, arith, refl, length-append, append-nil}
use Rattle.std.proofs.lemmas.Bool.{false≢true}
use Rattle.std.proofs.lemmas.Bool.Decides.{Decides-eqb}
use Rattle.std.specs.Bool.{then_some}
use Rattle.tm_makers.specs.declared.plans.Guard.{Guard}
use Rattle.tm_makers.specs.declared.plans.Guard.TheVariants.{Hoare, Mesa, Semaphores}
use Rattle.tm_makers.specs.declared.plans.Plan.{Plan}
use Rattle.tm_makers.specs.declared.plans.Plan.TheVariants.{Buffer, Coaster, Philosophers, Readers, Ring}
use Rattle.tm_makers.specs.declared.plans.Way.{Way}
use Rattle.tm_makers.specs.declared.plans.Way.TheVariants.{Asymmetric, Chairs, Naive}
use Rattle.tm_makers.specs.Plans.{is_in_range}
use Rattle.tm_words.specs.MakeWords.{AreNumbers, Describes, SpellsPlan, guard_word, spelling_of, way_word}
use Rattle.tm_words.proofs.NumbersLemmas.{are-one}

-- a byte that differs tells two words apart
pub apart : (i : ℕ) (a b : List ℕ) → a ≡ b → eqb (get_or a i 0) (get_or b i 0) ≡ false → ⊥
apart i a b e unlike =
    let alike = (Decides-eqb (get_or a i 0) (get_or b i 0)).1 (ap (λ w. get_or w i 0) e) in
    false≢true (sym unlike ∙ alike)

way-one : (a b : Way) → way_word a ≡ way_word b → a ≡ b
way-one Naive Naive e = refl
way-one Asymmetric Asymmetric e = refl
way-one Chairs Chairs e = refl
way-one a b e = absurd (apart 0 (way_word a) (way_word b) e refl)

guard-one : (a b : Guard) → guard_word a ≡ guard_word b → a ≡ b
guard-one Semaphores Semaphores e = refl
guard-one Hoare Hoare e = refl
guard-one Mesa Mesa e = refl
guard-one a b e = absurd (apart 0 (guard_word a) (guard_word b) e refl)

-- the last word, and those before it
last-one : (xs ys : List (List ℕ)) (x y : List ℕ) → xs ++ x ∷ [] ≡ ys ++ y ∷ [] → (xs ≡ ys) × (x ≡ y)
last-one [] [] x y e = (refl, cc)
last-one [] (b ∷ ys) x y e = absurd (let h = ap length e in omega (arith, length-append ys (y ∷ [])))
last-one (a ∷ xs) [] x y e = absurd (let h = ap length e in omega (arith, length-append xs (x ∷ [])))
last-one (a ∷ xs) (b ∷ ys) x y e =
    let more : xs ++ x ∷ [] ≡ ys ++ y ∷ [] = cc in
    let same = last-one xs ys x y more in
    (cc, same.1)

-- the same words are digits of the same numbers
sizes-one : (xs ys : List (List ℕ)) (ms ns : List ℕ) → xs ≡ ys → AreNumbers xs ms → AreNumbers ys ns → ms ≡ ns
sizes-one xs ys ms ns e a b = are-one ys ms ns (subst (λ (ws : List (List ℕ)). AreNumbers ws ms) e a) b

-- the word of a kind, and those behind it
kind-same : (p q : Plan) (words : List (List ℕ)) → Describes words p → Describes words q → (spelling_of p).kind ≡ (spelling_of q).kind
kind-same p q words a b =
    let e : (spelling_of p).kind ∷ (a.numbers ++ (spelling_of p).last) ≡ (spelling_of q).kind ∷ (b.numbers ++ (spelling_of q).last) = sym a.written ∙ b.written in
    cc

rest-same : (p q : Plan) (words : List (List ℕ)) (a : Describes words p) (b : Describes words q) → a.numbers ++ (spelling_of p).last ≡ b.numbers ++ (spelling_of q).last
rest-same p q words a b =
    let e : (spelling_of p).kind ∷ (a.numbers ++ (spelling_of p).last) ≡ (spelling_of q).kind ∷ (b.numbers ++ (spelling_of q).last) = sym a.written ∙ b.written in
    cc

-- words without a last one are numbers alone
whole-same : (xs ys : List (List ℕ)) → xs ++ [] ≡ ys ++ [] → xs ≡ ys
whole-same xs ys e = sym (append-nil xs) ∙ e ∙ append-nil ys

pub described-one : (words : List (List ℕ)) (p q : Plan) → Describes words p → Describes words q → p ≡ q
described-one words (Philosophers n r v) (Philosophers m s w) a b =
    let same = last-one a.numbers b.numbers (way_word v) (way_word w) (rest-same _ _ words a b) in
    let sizes = sizes-one a.numbers b.numbers (n ∷ r ∷ []) (m ∷ s ∷ []) same.0 a.values b.values in
    let way = way-one v w same.1 in
    (cc)
described-one words (Buffer n r k t v) (Buffer m s l u w) a b =
    let same = last-one a.numbers b.numbers (guard_word v) (guard_word w) (rest-same _ _ words a b) in
    let sizes = sizes-one a.numbers b.numbers (n ∷ r ∷ k ∷ t ∷ []) (m ∷ s ∷ l ∷ u ∷ []) same.0 a.values b.values in
    let guard = guard-one v w same.1 in
    (cc)
described-one words (Readers n k r) (Readers m l s) a b =
    let same = whole-same a.numbers b.numbers (rest-same _ _ words a b) in
    let sizes = sizes-one a.numbers b.numbers (n ∷ k ∷ r ∷ []) (m ∷ l ∷ s ∷ []) same a.values b.values in
    (cc)
described-one words (Coaster n r) (Coaster m s) a b =
    let same = whole-same a.numbers b.numbers (rest-same _ _ words a b) in
    let sizes = sizes-one a.numbers b.numbers (n ∷ r ∷ []) (m ∷ s ∷ []) same a.values b.values in
    (cc)
described-one words (Ring n r) (Ring m s) a b =
    let same = whole-same a.numbers b.numbers (rest-same _ _ words a b) in
    let sizes = sizes-one a.numbers b.numbers (n ∷ r ∷ []) (m ∷ s ∷ []) same a.values b.values in
    (cc)
described-one words p q a b = absurd (apart 1 (spelling_of p).kind (spelling_of q).kind (kind-same p q words a b) refl)

pub plan-one : (words : List (List ℕ)) (p q : Plan) → SpellsPlan words p → SpellsPlan words q → p ≡ q
plan-one words p q a b = described-one words p q a.described b.described

-- the plan that words describe is spelled where it is in range, and else none is
pub ranged : (words : List (List ℕ)) (plan : Plan) (b : Bool) (r : Option Plan) → Describes words plan → b ≡ is_in_range plan → r ≡ then_some b plan → MatchOption r ((p : Plan) → ¬ SpellsPlan words p) (λ p. SpellsPlan words p)
ranged words plan true r d is e = rw e (record { described = d; in_range = sym is })
ranged words plan false r d is e =
    rw e (λ p s.
    let same = described-one words p plan s.described d in
    false≢true (is ∙ ap is_in_range (sym same) ∙ s.in_range))
