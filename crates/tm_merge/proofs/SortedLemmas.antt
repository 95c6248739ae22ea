-- Numbered events that are sorted by stamp and thread: each is the next one to be shown.
use Rattle.std.proofs.Common.{◌≡◌, ℕ, suc, ◌-◌, ◌<◌, ◌≤◌, Bool, true, false, cond, ◌==◌, ◌&&◌, ◌||◌, inr, ⊎_elim, List, [], ◌∷◌, ◌++◌, find, Some, None, is_some, Contains, refl, sym, ap, ◌∙◌, subst, arith}
use Rattle.std.specs.List.{sum_by}
use Rattle.std.specs.List.Sorted.{IsPermutation}
use Rattle.std.proofs.lemmas.Bool.{cases_Bool, cases_lt, cond-true, cond-false, and_parts, and_from, eq-eqb, eqb-true}
use Rattle.std.proofs.lemmas.Bool.Decides.{nat_tests}
use Rattle.std.proofs.lemmas.List.{append_assoc, append-nil}
use Rattle.std.proofs.lemmas.List.Elements.{Contains-append_left, Contains-append_right, Contains-append_cases}
use Rattle.std.proofs.lemmas.List.Sorted.{IsPermutation-refl, IsPermutation-sym, Contains-permutation, sum_by-IsPermutation}
use Rattle.std.proofs.lemmas.List.Sums.{sum_by-cons, sum_by-append}
use Rattle.tm_base.specs.declared.events.Entry.{Entry}
use Rattle.tm_base.specs.Orders.{IsDirect, IsNotLater, StampsRise}
use Rattle.tm_base.specs.Runs.{Leads}
use Rattle.tm_merge.specs.MergerViews.{MergerView}
use Rattle.tm_merge.specs.Numbering.{IsNumberedBy, IsNumbered}
use Rattle.tm_merge.specs.Places.{has_place, has_at, has_predecessors}
use Rattle.tm_merge.specs.Rising.{IsRising}
use Rattle.tm_merge.specs.Showing.{IsReady, Shows}
use Rattle.tm_merge.specs.StoredArrivals.{found}
use Rattle.tm_merge.proofs.ListLemmas.{Contains-first}
use Rattle.tm_merge.proofs.NumberingLemmas.{count_in, IsExact, exact-snoc, exact_owns, walk, none_from, numbered-snoc}
use Rattle.tm_merge.proofs.OrderLemmas.{positive}
use Rattle.tm_merge.proofs.PredecessorsLemmas.{predecessors_in}

-- how many elements pass the test
abbrev passing : {A : Type 0} → (A → Bool) → List A → ℕ
passing p xs = sum_by (λ x. cond (p x) 1 0) xs

passing-none : {A : Type 0} (p : A → Bool) (xs : List A) → find p xs ≡ None → passing p xs ≡ 0
passing-none p [] h = refl
passing-none p (x ∷ xs) h = ⊎_elim
    (λ (pass : p x ≡ true). let some = cond-true (p x) (Some x) (find p xs) pass in absurd cc)
    (λ (fail : p x ≡ false).
    let rest = passing-none p xs (sym (cond-false (p x) (Some x) (find p xs) fail) ∙ h) in
    let zero_here = cond-false {A = ℕ} (p x) 1 0 fail in
    let sum = sum_by-cons (λ y. cond (p y) 1 0) x xs in
    omega (arith, rest, zero_here, sum))
    (cases_Bool (p x))

passing-some : {A : Type 0} (p : A → Bool) (xs : List A) → is_some (find p xs) ≡ true → 1 ≤ passing p xs
passing-some p [] h = absurd cc
passing-some p (x ∷ xs) h = ⊎_elim
    (λ (pass : p x ≡ true).
    let one_here = cond-true {A = ℕ} (p x) 1 0 pass in
    let sum = sum_by-cons (λ y. cond (p y) 1 0) x xs in
    omega (arith, one_here, sum))
    (λ (fail : p x ≡ false).
    let rest = passing-some p xs (ap is_some (sym (cond-false (p x) (Some x) (find p xs) fail)) ∙ h) in
    let sum = sum_by-cons (λ y. cond (p y) 1 0) x xs in
    omega (arith, rest, sum))
    (cases_Bool (p x))

module _ (line number : Entry → ℕ) where
  -- no two events of the list have one number in one line
  abbrev pub AreApart : List Entry → Type 0
  AreApart es = (k n : ℕ) → passing (λ e. line e == k && number e == n) es ≤ 1

  numbered_apart : (es : List Entry) → IsNumberedBy line number es → AreApart es
  numbered_apart es numbered =
      let P : List Entry → Type 0 = λ ds. IsExact line number ds × AreApart ds in
      let first : P [] = ((λ k n. grind (arith, nat_tests)), (λ k n. omega arith)) in
      (walk line number P (λ ds e both next. (exact-snoc line number ds e both.0 next, step ds e both.0 both.1 next)) [] es first numbered).1
    where
      step : (ds : List Entry) (e : Entry) → IsExact line number ds → AreApart ds → number e ≡ suc (count_in line number ds (line e)) → AreApart (ds ++ e ∷ [])
      step ds e exact apart next k n =
          let more = sum_by-append (λ d. cond (line d == k && number d == n) 1 0) ds (e ∷ []) in
          let one = sum_by-cons (λ d. cond (line d == k && number d == n) 1 0) e [] in
          ⊎_elim
          (λ (here : (line e == k && number e == n) ≡ true).
          let both = and_parts (line e == k) (number e == n) here in
          let is_line = eqb-true (line e) k both.0 in
          let is_number = eqb-true (number e) n both.1 in
          let next_here : n ≡ suc (count_in line number ds k) = sym is_number ∙ subst (λ j. number e ≡ suc (count_in line number ds j)) is_line next in
          let none = passing-none (λ d. line d == k && number d == n) ds (none_from (found line number ds k n) (exact k n ∙ grind (arith, nat_tests))) in
          let one_here = cond-true {A = ℕ} (line e == k && number e == n) 1 0 here in
          omega (arith, more, one, none, one_here))
          (λ (other : (line e == k && number e == n) ≡ false).
          let none_here = cond-false {A = ℕ} (line e == k && number e == n) 1 0 other in
          let before = apart k n in
          omega (arith, more, one, none_here, before))
          (cases_Bool (line e == k && number e == n))

  apart-permutation : (es fs : List Entry) → IsPermutation es fs → AreApart es → AreApart fs
  apart-permutation es fs same apart k n =
      let sum = sum_by-IsPermutation (λ e. cond (line e == k && number e == n) 1 0) es fs same in
      let before = apart k n in
      omega (arith, sum, before)

  -- an event whose predecessor stands in the numbered list has the next number
  next_number : (all s rest : List Entry) (e : Entry) → all ≡ s ++ e ∷ rest → AreApart all → IsNumberedBy line number s → 0 < number e
      → (number e - 1 == 0 || is_some (found line number s (line e) (number e - 1))) ≡ true → number e ≡ suc (count_in line number s (line e))
  next_number all s rest e is apart numbered counted before =
      let exact = (exact_owns line number s numbered).0 in
      let before_is = exact (line e) (number e - 1) in
      let near : number e ≤ suc (count_in line number s (line e)) = grind (arith, nat_tests) in
      ⊎_elim
      (λ (new : count_in line number s (line e) < number e). omega (arith, near, new))
      (λ (old : number e ≤ count_in line number s (line e)).
      let there : is_some (found line number s (line e) (number e)) ≡ true = exact (line e) (number e) ∙ grind (arith, nat_tests) in
      let some = passing-some (λ d. line d == line e && number d == number e) s there in
      let sum = sum_by-append (λ d. cond (line d == line e && number d == number e) 1 0) s (e ∷ rest) in
      let first = sum_by-cons (λ d. cond (line d == line e && number d == number e) 1 0) e rest in
      let one = cond-true {A = ℕ} (line e == line e && number e == number e) 1 0 (and_from (line e == line e) (number e == number e) (eq-eqb (line e) (line e) refl) (eq-eqb (number e) (number e) refl)) in
      let most = subst (λ es. passing (λ d. line d == line e && number d == number e) es ≤ 1) is (apart (line e) (number e)) in
      absurd (omega (arith, some, sum, first, one, most)))
      (cases_lt (count_in line number s (line e)) (number e))

  -- in a numbered list the number before each event's own is there
  before_there : (es : List Entry) → IsNumberedBy line number es → (e : Entry) → Contains es e → (number e - 1 == 0 || is_some (found line number es (line e) (number e - 1))) ≡ true
  before_there es numbered e h =
      let both = exact_owns line number es numbered in
      let some = ap is_some (both.1 e h) in
      let own = both.0 (line e) (number e) in
      let before = both.0 (line e) (number e - 1) in
      grind (arith, nat_tests)

-- Events of which each has its direct predecessors with it, and its numbers for itself.
pub record IsWhole (es : List Entry) : Type 0 where
  pub threads : AreApart (λ e. e.thread) (λ e. e.place) es
  pub objects : AreApart (λ e. e.object) (λ e. e.at) es
  pub rise : StampsRise es
  pub after : (e : Entry) → Contains es e → has_predecessors es e ≡ true
  pub counted : (e : Entry) → Contains es e → (0 < e.place) × (0 < e.at)

pub numbered_whole : (es : List Entry) → IsNumbered es → StampsRise es → IsWhole es
numbered_whole es numbered rise = record {
  threads = numbered_apart (λ e. e.thread) (λ e. e.place) es numbered.threads;
  objects = numbered_apart (λ e. e.object) (λ e. e.at) es numbered.objects;
  rise = rise;
  after = λ e h. and_from (has_place es e.thread (e.place - 1)) (has_at es e.object (e.at - 1))
      (before_there (λ d. d.thread) (λ d. d.place) es numbered.threads e h) (before_there (λ d. d.object) (λ d. d.at) es numbered.objects e h);
  counted = λ e h. (positive (λ d. d.thread) (λ d. d.place) es numbered.threads e h, positive (λ d. d.object) (λ d. d.at) es numbered.objects e h);
}

pub whole-permutation : (es fs : List Entry) → IsPermutation es fs → IsWhole es → IsWhole fs
whole-permutation es fs same whole =
    let back : (x : Entry) → Contains fs x → Contains es x = λ x h. Contains-permutation fs es x (IsPermutation-sym es fs same) h in
    record {
      threads = apart-permutation (λ e. e.thread) (λ e. e.place) es fs same whole.threads;
      objects = apart-permutation (λ e. e.object) (λ e. e.at) es fs same whole.objects;
      rise = λ a b in_a in_b direct. whole.rise a b (back a in_a) (back b in_b) direct;
      after = λ e h. predecessors_in es fs e (λ y in_es _. Contains-permutation es fs y same in_es) (whole.after e (back e h));
      counted = λ e h. whole.counted e (back e h);
    }

sooner_stamp : (a b : Entry) → IsNotLater a b → a.stamp ≤ b.stamp
sooner_stamp a b h = ⊎_elim (λ (less : a.stamp < b.stamp). omega (arith, less)) (λ (same : (a.stamp ≡ b.stamp) × (a.thread ≤ b.thread)). omega (arith, same.0)) h

module _ (all : List Entry) (whole : IsWhole all) where
  among : (s rest : List Entry) (e : Entry) → all ≡ s ++ e ∷ rest → Contains all e
  among s rest e is = subst (λ es. Contains es e) (sym is) (Contains-append_right s (e ∷ rest) e (0, omega arith, refl))

  -- the first of the sorted events has its predecessors before it
  first_after : (s rest : List Entry) (e : Entry) → all ≡ s ++ e ∷ rest → ((x : Entry) → Contains rest x → IsNotLater e x) → has_predecessors s e ≡ true
  first_after s rest e is sooner = predecessors_in all s e kept (whole.after e (among s rest e is))
    where
      kept : (y : Entry) → Contains all y → IsDirect y e → Contains s y
      kept y in_all direct =
          let less = whole.rise y e in_all (among s rest e is) direct in
          ⊎_elim
          (λ (before : Contains s y). before)
          (λ (behind : Contains (e ∷ rest) y). absurd (⊎_elim
          (λ (same : y ≡ e). let stamps = ap (λ (d : Entry). d.stamp) same in omega (arith, less, stamps))
          (λ (later : Contains rest y). let most = sooner_stamp e y (sooner y later) in omega (arith, less, most))
          (Contains-first e rest y behind)))
          (Contains-append_cases s (e ∷ rest) y (subst (λ es. Contains es y) is in_all))

  first_numbered : (s rest : List Entry) (e : Entry) → all ≡ s ++ e ∷ rest → IsNumbered s → has_predecessors s e ≡ true → IsNumbered (s ++ e ∷ [])
  first_numbered s rest e is numbered after =
      let both = and_parts (has_place s e.thread (e.place - 1)) (has_at s e.object (e.at - 1)) after in
      let counted = whole.counted e (among s rest e is) in
      record {
        threads = numbered-snoc (λ d. d.thread) (λ d. d.place) s e numbered.threads (next_number (λ d. d.thread) (λ d. d.place) all s rest e is whole.threads numbered.threads counted.0 both.0);
        objects = numbered-snoc (λ d. d.object) (λ d. d.at) s e numbered.objects (next_number (λ d. d.object) (λ d. d.at) all s rest e is whole.objects numbered.objects counted.1 both.1);
      }

  more : (s rest : List Entry) (e : Entry) → all ≡ s ++ e ∷ rest → all ≡ (s ++ e ∷ []) ++ rest
  more s rest e is = is ∙ sym (append_assoc s (e ∷ []) rest)

  pub sorted_numbered : (s rest : List Entry) → all ≡ s ++ rest → IsNumbered s → IsRising rest → IsNumbered all
  sorted_numbered s [] is numbered rising = subst IsNumbered (sym (is ∙ append-nil s)) numbered
  sorted_numbered s (e ∷ rest) is numbered rising =
      sorted_numbered (s ++ e ∷ []) rest (more s rest e is) (first_numbered s rest e is numbered (first_after s rest e is rising.0)) rising.1

  -- sorted events are shown one after the other, where none of the others can be
  module _ (threads objects : ℕ) (others : List Entry) (settled : (x : Entry) → Contains others x → has_predecessors all x ≡ false) where
    abbrev pub having : (s held : List Entry) → MergerView
    having s held = record { threads = threads; objects = objects; shown = s; held = held }

    first_shows : (s rest : List Entry) (e : Entry) (held : List Entry) → all ≡ s ++ e ∷ rest → ((x : Entry) → Contains rest x → IsNotLater e x) → IsPermutation held (e ∷ (rest ++ others)) → Shows (having s held) e (having (s ++ e ∷ []) (rest ++ others))
    first_shows s rest e held is sooner same = record {
      next = record {
        ready = record {
          held = Contains-permutation (e ∷ (rest ++ others)) held e (IsPermutation-sym held (e ∷ (rest ++ others)) same) (0, omega arith, refl);
          after = first_after s rest e is sooner;
        };
        soonest = soonest;
      };
      same_threads = refl;
      same_objects = refl;
      shown = refl;
      held = same;
    }
      where
        soonest : (a : Entry) → IsReady (having s held) a → IsNotLater e a
        soonest a ready = ⊎_elim
            (λ (itself : a ≡ e). subst (IsNotLater e) (sym itself) (inr (refl, omega arith)))
            (λ (behind : Contains (rest ++ others) a). ⊎_elim
            (λ (later : Contains rest a). sooner a later)
            (λ (other : Contains others a).
            let now = predecessors_in s all a (λ y in_s _. subst (λ es. Contains es y) (sym is) (Contains-append_left s (e ∷ rest) y in_s)) ready.after in
            let never = settled a other in
            absurd cc)
            (Contains-append_cases rest others a behind))
            (Contains-first e (rest ++ others) a (Contains-permutation held (e ∷ (rest ++ others)) a same ready.held))

    pub shows-all : (rest s held : List Entry) → all ≡ s ++ rest → IsRising rest → IsPermutation held (rest ++ others) → (rest ≡ [] → held ≡ others) → Leads Shows (having s held) rest (having all others)
    shows-all [] s held is rising same none = ap (λ es. having es others) (is ∙ append-nil s) ∙ ap (having s) (sym (none refl))
    shows-all (e ∷ rest) s held is rising same none = (
      having (s ++ e ∷ []) (rest ++ others),
      first_shows s rest e held is rising.0 same,
      shows-all rest (s ++ e ∷ []) (rest ++ others) (more s rest e is) rising.1 (IsPermutation-refl (rest ++ others)) (λ nothing. ap (λ es. es ++ others) nothing),
    )
