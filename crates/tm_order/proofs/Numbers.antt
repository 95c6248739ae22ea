-- Lists of events that are numbered one after another, and how a list with the same events stands in the same
-- order.
use Rattle.std.proofs.Common.{◌≡◌, ℕ, suc, ◌<◌, ◌≤◌, Bool, ◌==◌, ⊎_elim, List, [], ◌∷◌, ◌++◌, filter, fold, Contains, refl, ap, sym, ◌∙◌, subst, arith}
use Rattle.std.proofs.lemmas.Bool.{eqb-true}
use Rattle.tm_base.specs.declared.events.Entry.{Entry}
use Rattle.tm_base.specs.Runs.{Leads}
use Rattle.tm_replay.proofs.SliceLemmas.{Contains-first, Contains-parts}
use Rattle.tm_order.proofs.Elements.{Contains-none, Contains-head, Contains-next, Contains-middle, Contains-filter, Contains-filtered, AppearOnce, AppearOnce-filter, kept-prefix}

-- the numbers of these events run from this one
abbrev pub RunFrom : (Entry → ℕ) → ℕ → List Entry → Type 0
RunFrom number a [] = Unit {0}
RunFrom number a (e ∷ es) = (number e ≡ a) × RunFrom number (suc a) es

-- the events of a run whose states know the next number are numbered so
pub Leads-numbered : {S : Type 0} (step : S → Entry → S → Type 0) (number : Entry → ℕ) (next : S → ℕ)
    → ((p : S) (e : Entry) (q : S) → step p e q → (number e ≡ next p) × (next q ≡ suc (number e)))
    → (es : List Entry) (p q : S) → Leads step p es q → RunFrom number (next p) es
Leads-numbered step number next on [] p q run = tt
Leads-numbered step number next on (e ∷ es) p q run =
    let here = on p e run.0 run.1 in
    let after : next run.0 ≡ suc (next p) = here.1 ∙ ap suc here.0 in
    (here.0, subst (λ n. RunFrom number n es) after (Leads-numbered step number next on es run.0 q run.2))

-- the last stamp of a run's events is the one that its states know
pub Leads-last : {S : Type 0} (step : S → Entry → S → Type 0) (stamp : S → ℕ) → ((p : S) (e : Entry) (q : S) → step p e q → stamp q ≡ e.stamp)
    → (es : List Entry) (p q : S) → Leads step p es q → fold (λ n f. f.stamp) (stamp p) es ≡ stamp q
Leads-last step stamp on [] p q run = ap stamp (sym run)
Leads-last step stamp on (e ∷ es) p q run =
    ap (λ (n : ℕ). fold (λ m f. f.stamp) n es) (sym (on p e run.0 run.1)) ∙ Leads-last step stamp on es run.0 q run.2

-- what each step's event has, each event of a run has
pub Leads-each : {S : Type 0} (step : S → Entry → S → Type 0) (Has : Entry → Type 0) → ((p : S) (e : Entry) (q : S) → step p e q → Has e)
    → (es : List Entry) (p q : S) → Leads step p es q → (e : Entry) → Contains es e → Has e
Leads-each step Has on [] p q run e within = absurd (Contains-none e within)
Leads-each step Has on (f ∷ es) p q run e within = ⊎_elim
    (λ (same : e ≡ f). subst Has (sym same) (on p f run.0 run.1))
    (λ (later : Contains es e). Leads-each step Has on es run.0 q run.2 e later)
    (Contains-first f es e within)

-- no number is below the first
RunFrom-low : (number : Entry → ℕ) (a : ℕ) (es : List Entry) (e : Entry) → RunFrom number a es → Contains es e → a ≤ number e
RunFrom-low number a [] e run within = absurd (Contains-none e within)
RunFrom-low number a (f ∷ es) e run within = ⊎_elim
    (λ (same : e ≡ f). let is : number e ≡ number f = ap number same in omega (arith, is, run.0))
    (λ (later : Contains es e). let more = RunFrom-low number (suc a) es e run.1 later in omega (arith, more))
    (Contains-first f es e within)

-- each number stands once
pub RunFrom-once : (number : Entry → ℕ) (a : ℕ) (es : List Entry) → RunFrom number a es → AppearOnce es
RunFrom-once number a [] run = tt
RunFrom-once number a (e ∷ es) run =
    ((λ again. let more = RunFrom-low number (suc a) es e run.1 again in omega (arith, more, run.0)), RunFrom-once number (suc a) es run.1)

-- directly before each event but the first stands the one with the number before
pub record IsPair (number : Entry → ℕ) (es : List Entry) (e : Entry) : Type 0 where
  pub prefix : List Entry
  pub before : Entry
  pub back : List Entry
  pub parts : es ≡ prefix ++ before ∷ (e ∷ back)
  pub next : suc (number before) ≡ number e

pub RunFrom-pair : (number : Entry → ℕ) (a : ℕ) (es : List Entry) (e : Entry) → RunFrom number a es → Contains es e → a < number e → IsPair number es e
RunFrom-pair number a [] e run within more = absurd (Contains-none e within)
RunFrom-pair number a (f ∷ []) e run within more = ⊎_elim
    (λ (same : e ≡ f). let is : number e ≡ number f = ap number same in absurd (omega (arith, is, run.0, more)))
    (λ (later : Contains [] e). absurd (Contains-none e later))
    (Contains-first f [] e within)
RunFrom-pair number a (f ∷ g ∷ es) e run within more = ⊎_elim
    (λ (same : e ≡ f). let is : number e ≡ number f = ap number same in absurd (omega (arith, is, run.0, more)))
    (λ (later : Contains (g ∷ es) e). ⊎_elim
    (λ (same : e ≡ g). record {
      prefix = [];
      before = f;
      back = es;
      parts = ap (λ h. f ∷ (h ∷ es)) (sym same);
      next = let is : number e ≡ number g = ap number same in omega (arith, is, run.0, run.1.0);
    })
    (λ (behind : Contains es e).
    let low = RunFrom-low number (suc (suc a)) es e run.1.1 behind in
    let pair = RunFrom-pair number (suc a) (g ∷ es) e run.1 later (omega (arith, low)) in
    record { prefix = f ∷ pair.prefix; before = pair.before; back = pair.back; parts = ap (λ l. f ∷ l) pair.parts; next = pair.next })
    (Contains-first g es e later))
    (Contains-first f (g ∷ es) e within)

RunFrom-before : (number : Entry → ℕ) (a : ℕ) (es : List Entry) (e : Entry) → RunFrom number a es → Contains es e → a < number e
    → (b : Entry) × Contains es b × (suc (number b) ≡ number e)
RunFrom-before number a es e run within more =
    let pair = RunFrom-pair number a es e run within more in
    (pair.before, subst (λ (l : List Entry). Contains l pair.before) (sym pair.parts) (Contains-middle pair.prefix (e ∷ pair.back) pair.before), pair.next)

-- each event stands behind the one with the number before
abbrev pub KeepsNumbers : (Entry → ℕ) → List Entry → Type 0
KeepsNumbers number es = (prefix back : List Entry) (p q : Entry) → es ≡ prefix ++ q ∷ back → Contains es p → suc (number p) ≡ number q → Contains prefix p

-- two lists with the same events, each once, in which each stands behind the one with the number before, are one
pub one-order : (number : Entry → ℕ) (a : ℕ) (given other : List Entry) → RunFrom number a given → AppearOnce other
    → ((e : Entry) → Contains other e → Contains given e) → ((e : Entry) → Contains given e → Contains other e) → KeepsNumbers number other → other ≡ given
one-order number a [] [] run once less more keeps = refl
one-order number a [] (f ∷ other) run once less more keeps = absurd (Contains-none f (less f (Contains-head f other)))
one-order number a (e ∷ given) [] run once less more keeps = absurd (Contains-none e (more e (Contains-head e given)))
one-order number a (e ∷ given) (f ∷ other) run once less more keeps =
    let first : f ≡ e = ⊎_elim
    (λ (same : f ≡ e). same)
    (λ (later : Contains given f).
    let low = RunFrom-low number (suc a) given f run.1 later in
    let before = RunFrom-before number a (e ∷ given) f run (Contains-next e given f later) (omega (arith, low)) in
    absurd (Contains-none before.0 (keeps [] other before.0 f refl (more before.0 before.1) before.2)))
    (Contains-first e given f (less f (Contains-head f other))) in
    let less' : (g : Entry) → Contains other g → Contains given g = λ g within. ⊎_elim
    (λ (same : g ≡ e). absurd (once.0 (subst (Contains other) (same ∙ sym first) within)))
    (λ (later : Contains given g). later)
    (Contains-first e given g (less g (Contains-next f other g within))) in
    let more' : (g : Entry) → Contains given g → Contains other g = λ g within. ⊎_elim
    (λ (same : g ≡ f).
    let low = RunFrom-low number (suc a) given g run.1 within in
    let is : number g ≡ number e = ap number (same ∙ first) in
    absurd (omega (arith, low, is, run.0)))
    (λ (later : Contains other g). later)
    (Contains-first f other g (more g (Contains-next e given g within))) in
    let keeps' : KeepsNumbers number other = λ prefix back p q parts within next. ⊎_elim
    (λ (same : p ≡ f). absurd (once.0 (subst (Contains other) same within)))
    (λ (later : Contains prefix p). later)
    (Contains-first f prefix p (keeps (f ∷ prefix) back p q (ap (λ l. f ∷ l) parts) (Contains-next f other p within) next)) in
    ap (λ g. g ∷ other) first ∙ ap (λ l. e ∷ l) (one-order number (suc a) given other run.1 once.1 less' more' keeps')

-- a list in which each event stands behind its direct predecessors keeps the numbers of the events with one key
pub keeps-own : (key number : Entry → ℕ) (i : ℕ) (es : List Entry) → AppearOnce es
    → ((prefix back : List Entry) (p q : Entry) → es ≡ prefix ++ q ∷ back → Contains es p → key p ≡ key q → suc (number p) ≡ number q → Contains prefix p)
    → KeepsNumbers number (filter (λ e. key e == i) es)
keeps-own key number i es once keeps prefix back p q parts within next =
    let own : Entry → Bool = λ e. key e == i in
    let there : Contains (filter own es) q = subst (λ (l : List Entry). Contains l q) (sym parts) (Contains-middle prefix back q) in
    let was = Contains-filtered own es q there in
    let from = Contains-filtered own es p within in
    let cut = Contains-parts es q was.0 in
    let before : Contains cut.0 p = keeps cut.0 cut.1 p q cut.2 from.0 (eqb-true (key p) i from.1 ∙ sym (eqb-true (key q) i was.1)) next in
    let same : filter own cut.0 ≡ prefix = kept-prefix own es cut.0 cut.1 prefix back q cut.2 was.1 (AppearOnce-filter own es once) parts in
    subst (λ (l : List Entry). Contains l p) same (Contains-filter own cut.0 p before from.1)
