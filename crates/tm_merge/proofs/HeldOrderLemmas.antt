-- The order of held events, and how many come before one.
use Rattle.std.proofs.Common.{◌≡◌, ℕ, zero, suc, ◌+◌, ◌<◌, ◌≤◌, Bool, true, false, cond, ◌==◌, ◌&&◌, ◌||◌, ⊎_elim, List, [], ◌∷◌, ◌++◌, count_by, Option, Some, None, slice_get, length, Contains, refl, sym, ap, ◌∙◌, subst, arith}
use Rattle.std.proofs.lemmas.Bool.{cases_Bool, cond-true, cond-false, eqb-true, eq-eqb, and_parts, and_from, and_cases, or_left, or_right, false_from_ne_true, true_from_ne_false, or_parts, or_cases}
use Rattle.std.proofs.lemmas.Bool.Decides.{nat_tests}
use Rattle.std.proofs.lemmas.List.{append-nil}
use Rattle.std.proofs.lemmas.List.Elements.{Contains-push_cases, Contains-push, Contains-append_left, filter_map-append}
use Rattle.std.proofs.lemmas.List.Sums.{sum_by-append, count_by-le-length}
use Rattle.tm_base.specs.declared.events.Entry.{Entry}
use Rattle.tm_merge.specs.declared.arrivals.Arrivals.{Arrivals}
use Rattle.tm_merge.specs.HeldOrder.{is_after, is_better, nearer, IsFirstAfter, IsLeastAfter}
use Rattle.tm_merge.specs.Holding.{comes_before, IsHeldAt}
use Rattle.tm_merge.specs.Lines.{slot_at}
use Rattle.tm_merge.specs.MergerViews.{MergerView}
use Rattle.tm_merge.specs.StoredArrivals.{occupants, view_of, KeepsArrivals}
use Rattle.tm_merge.proofs.ListLemmas.{Contains-first, Contains-rest}
use Rattle.tm_merge.proofs.SlotsLemmas.{slot_of}

-- the order is one: no event comes before itself, and two that don't come before each other have one place in one thread
pub comes_before-irreflexive : (a : Entry) → comes_before a a ≡ false
comes_before-irreflexive a = grind (arith, nat_tests)

pub comes_before-total : (a b : Entry) → comes_before a b ≡ false → comes_before b a ≡ false → (a.thread ≡ b.thread) × (a.place ≡ b.place)
comes_before-total a b not_a not_b = (grind (arith, nat_tests), grind (arith, nat_tests))

pub comes_before-transitive : (a b c : Entry) → comes_before a b ≡ true → comes_before b c ≡ true → comes_before a c ≡ true
comes_before-transitive a b c first second = grind (arith, nat_tests)

no : {A : Type 0} (b : Bool) → b ≡ false → b ≡ true → A
no b f t = absurd cc

-- one more event, which may be nearer than the best one so far
least-some : (current : Option Entry) (es : List Entry) (best : Option Entry) (e : Entry) → IsLeastAfter current es best → IsLeastAfter current (es ++ e ∷ []) (nearer current best (Some e))
least-some current es best e least = ⊎_elim
    (λ (takes : (is_after current e && is_better best e) ≡ true).
    let both = and_parts (is_after current e) (is_better best e) takes in
    subst (IsLeastAfter current (es ++ e ∷ [])) (sym (cond-true (is_after current e && is_better best e) (Some e) best takes))
    (record { among = Contains-push es e; after = both.0; least = least_new both.0 both.1 }))
    (λ (leaves : (is_after current e && is_better best e) ≡ false).
    subst (IsLeastAfter current (es ++ e ∷ [])) (sym (cond-false (is_after current e && is_better best e) (Some e) best leaves)) (stays best least leaves))
    (cases_Bool (is_after current e && is_better best e))
  where
    beaten : (b : Option Entry) → IsLeastAfter current es b → is_better b e ≡ true → (x : Entry) → Contains es x → is_after current x ≡ true → comes_before x e ≡ false
    beaten None none better x h after = no (is_after current x) (none x h) after
    beaten (Some b) first better x h after =
        false_from_ne_true (comes_before x e) (λ sooner. no (comes_before x b) (first.least x h after) (comes_before-transitive x e b sooner better))

    least_new : is_after current e ≡ true → is_better best e ≡ true → (x : Entry) → Contains (es ++ e ∷ []) x → is_after current x ≡ true → comes_before x e ≡ false
    least_new after_e better x h after = ⊎_elim
        (λ (old : Contains es x). beaten best least better x old after)
        (λ (new : e ≡ x). subst (λ y. comes_before y e ≡ false) new (comes_before-irreflexive e))
        (Contains-push_cases es e x h)

    stays : (b : Option Entry) → IsLeastAfter current es b → (is_after current e && is_better b e) ≡ false → IsLeastAfter current (es ++ e ∷ []) b
    stays None none leaves = λ x h. ⊎_elim
        (λ (old : Contains es x). none x old)
        (λ (new : e ≡ x). subst (λ y. is_after current y ≡ false) new
        (⊎_elim (λ (late : is_after current e ≡ false). late) (λ (worse : true ≡ false). absurd cc) (and_cases (is_after current e) true leaves)))
        (Contains-push_cases es e x h)
    stays (Some b) first leaves = record {
      among = Contains-append_left es (e ∷ []) b first.among;
      after = first.after;
      least = λ x h after. ⊎_elim
          (λ (old : Contains es x). first.least x old after)
          (λ (new : e ≡ x). subst (λ y. comes_before y b ≡ false) new
          (⊎_elim (λ (late : is_after current e ≡ false). no (is_after current e) late (subst (λ y. is_after current y ≡ true) (sym new) after)) (λ (worse : comes_before e b ≡ false). worse) (and_cases (is_after current e) (comes_before e b) leaves)))
          (Contains-push_cases es e x h);
    }

pub least-more : (current : Option Entry) (ss : List (Option Entry)) (best candidate : Option Entry) → IsLeastAfter current (occupants ss) best → IsLeastAfter current (occupants (ss ++ candidate ∷ [])) (nearer current best candidate)
least-more current ss best None least =
    subst (λ es. IsLeastAfter current es best) (sym (filter_map-append (λ s. s) ss (None ∷ []) ∙ append-nil (occupants ss))) least
least-more current ss best (Some e) least =
    subst (λ es. IsLeastAfter current es (nearer current best (Some e))) (sym (filter_map-append (λ s. s) ss (Some e ∷ []))) (least-some current (occupants ss) best e least)

-- counts of elements
count-cons : (p : Entry → Bool) (x : Entry) (xs : List Entry) → count_by p (x ∷ xs) ≡ cond (p x) 1 0 + count_by p xs
count-cons p x xs = let parts = sum_by-append (λ y. cond (p y) 1 0) (x ∷ []) xs in omega (arith, parts)

count-parts : (p q r : Entry → Bool) (xs : List Entry) → ((x : Entry) → Contains xs x → p x ≡ (q x || r x)) → ((x : Entry) → Contains xs x → (q x && r x) ≡ false) → count_by p xs ≡ count_by q xs + count_by r xs
count-parts p q r [] either apart = refl
count-parts p q r (x ∷ xs) either apart =
    let rest = count-parts p q r xs (λ y h. either y (Contains-rest x xs y h)) (λ y h. apart y (Contains-rest x xs y h)) in
    let here = either x (zero, omega arith, refl) in
    let not_both = apart x (zero, omega arith, refl) in
    let one = one_of (p x) (q x) (r x) here not_both in
    omega (arith, rest, one, count-cons p x xs, count-cons q x xs, count-cons r x xs)
  where
    one_of : (a b c : Bool) → a ≡ (b || c) → (b && c) ≡ false → cond {A = ℕ} a 1 0 ≡ cond b 1 0 + cond c 1 0
    one_of a true true is not_both = absurd cc
    one_of a true false is not_both = ap (λ t. cond {A = ℕ} t 1 0) is
    one_of a false true is not_both = ap (λ t. cond {A = ℕ} t 1 0) is
    one_of a false false is not_both = ap (λ t. cond {A = ℕ} t 1 0) is

count-all : (p : Entry → Bool) (xs : List Entry) → ((x : Entry) → Contains xs x → p x ≡ true) → count_by p xs ≡ length xs
count-all p [] all = refl
count-all p (x ∷ xs) all =
    let rest = count-all p xs (λ y h. all y (Contains-rest x xs y h)) in
    let here = cond-true {A = ℕ} (p x) 1 0 (all x (zero, omega arith, refl)) in
    omega (arith, rest, here, count-cons p x xs)

pub count-none : (p : Entry → Bool) (xs : List Entry) → ((x : Entry) → Contains xs x → p x ≡ false) → count_by p xs ≡ 0
count-none p [] none = refl
count-none p (x ∷ xs) none =
    let rest = count-none p xs (λ y h. none y (Contains-rest x xs y h)) in
    let here = cond-false {A = ℕ} (p x) 1 0 (none x (zero, omega arith, refl)) in
    omega (arith, rest, here, count-cons p x xs)

-- just one slot's event passes the test
count-one : (p : Entry → Bool) (ss : List (Option Entry)) (s : ℕ) (e : Entry) → slice_get ss s ≡ Some (Some e) → p e ≡ true
    → ((r : ℕ) (d : Entry) → slice_get ss r ≡ Some (Some d) → p d ≡ true → r ≡ s) → count_by p (occupants ss) ≡ 1
count-one p [] s e h passes one = absurd cc
count-one p (None ∷ ss) zero e h passes one = absurd cc
count-one p (Some x ∷ ss) zero e h passes one =
    let same : x ≡ e = cc in
    let here = cond-true {A = ℕ} (p x) 1 0 (ap p same ∙ passes) in
    let rest = count-none p (occupants ss) (λ y held. let slot = slot_of ss y held in false_from_ne_true (p y) (λ pass. let first = one (suc slot.0) y slot.1 pass in omega (arith, first))) in
    omega (arith, here, rest, count-cons p x (occupants ss))
count-one p (None ∷ ss) (suc s) e h passes one = count-one p ss s e h passes (λ r d at pass. let next = one (suc r) d at pass in omega (arith, next))
count-one p (Some x ∷ ss) (suc s) e h passes one =
    let here = cond-false {A = ℕ} (p x) 1 0 (false_from_ne_true (p x) (λ pass. let first = one zero x refl pass in omega (arith, first))) in
    let rest = count-one p ss s e h passes (λ r d at pass. let next = one (suc r) d at pass in omega (arith, next)) in
    omega (arith, here, rest, count-cons p x (occupants ss))

module _ (a : Arrivals) (keeps : KeepsArrivals a) where
  abbrev held : List Entry
  held = occupants a.slots.items

  abbrev rank : Entry → ℕ
  rank e = count_by (λ x. comes_before x e) held

  one_slot : (c x : Entry) (s r : ℕ) → slice_get a.slots.items s ≡ Some (Some c) → slice_get a.slots.items r ≡ Some (Some x) → x.thread ≡ c.thread → x.place ≡ c.place → r ≡ s
  one_slot c x s r at_s at_r threads places =
      let own = keeps.threads.named s c at_s in
      let other = keeps.threads.named r x at_r in
      let line : slice_get a.threads.items c.thread ≡ Some other.own = subst (λ k. slice_get a.threads.items k ≡ Some other.own) threads other.there in
      let first = own.there in
      let same : other.own ≡ own.own = cc in
      let slot : slot_at own.own c.place ≡ Some r = subst (λ l. slot_at l c.place ≡ Some r) same (subst (λ n. slot_at other.own n ≡ Some r) places other.slot) in
      let named = own.slot in
      cc

  one : (c : Entry) → Contains held c → count_by (λ x. x.thread == c.thread && x.place == c.place) held ≡ 1
  one c h =
      let slot = slot_of a.slots.items c h in
      count-one (λ x. x.thread == c.thread && x.place == c.place) a.slots.items slot.0 c slot.1
      (and_from (c.thread == c.thread) (c.place == c.place) (eq-eqb c.thread c.thread refl) (eq-eqb c.place c.place refl))
      (λ r d at pass.
      let both = and_parts (d.thread == c.thread) (d.place == c.place) pass in
      one_slot c d slot.0 r slot.1 at (eqb-true d.thread c.thread both.0) (eqb-true d.place c.place both.1))

  same_event : (c x : Entry) → Contains held c → Contains held x → x.thread ≡ c.thread → x.place ≡ c.place → x ≡ c
  same_event c x in_c in_x threads places =
      let first = slot_of a.slots.items c in_c in
      let second = slot_of a.slots.items x in_x in
      let slots = one_slot c x first.0 second.0 first.1 second.1 threads places in
      let moved : slice_get a.slots.items first.0 ≡ Some (Some x) = subst (λ s. slice_get a.slots.items s ≡ Some (Some x)) slots second.1 in
      let there = first.1 in
      cc

  -- the first event has none before it
  pub rank-first : (n : Entry) → IsFirstAfter None held n → rank n ≡ 0
  rank-first n first = count-none (λ x. comes_before x n) held (λ x h. first.least x h refl)

  apart : (c x : Entry) → Contains held c → Contains held x → (comes_before x c && (x.thread == c.thread && x.place == c.place)) ≡ false
  apart c x in_c in_x = false_from_ne_true (comes_before x c && (x.thread == c.thread && x.place == c.place))
      (λ t.
      let all = and_parts (comes_before x c) (x.thread == c.thread && x.place == c.place) t in
      let both = and_parts (x.thread == c.thread) (x.place == c.place) all.1 in
      let is_c = same_event c x in_c in_x (eqb-true x.thread c.thread both.0) (eqb-true x.place c.place both.1) in
      no (comes_before c c) (comes_before-irreflexive c) (subst (λ y. comes_before y c ≡ true) is_c all.0))

  -- before the next event come those before this one, and this one
  pub rank-next : (c n : Entry) → Contains held c → IsFirstAfter (Some c) held n → rank n ≡ rank c + 1
  rank-next c n in_c first =
      let parts = count-parts (λ x. comes_before x n) (λ x. comes_before x c) (λ x. x.thread == c.thread && x.place == c.place) held either (λ x h. apart c x in_c h) in
      let single = one c in_c in
      omega (arith, parts, single)
    where
      later : (x : Entry) → Contains held x → (comes_before x c || (x.thread == c.thread && x.place == c.place)) ≡ false → comes_before x n ≡ false
      later x h neither =
          let both = or_parts (comes_before x c) (x.thread == c.thread && x.place == c.place) neither in
          let after : comes_before c x ≡ true = true_from_ne_false (comes_before c x) (λ not_after.
          let equal = comes_before-total c x not_after both.0 in
          no (x.thread == c.thread && x.place == c.place) both.1 (and_from (x.thread == c.thread) (x.place == c.place) (eq-eqb x.thread c.thread (sym equal.0)) (eq-eqb x.place c.place (sym equal.1)))) in
          first.least x h after

      sooner : (x : Entry) → Contains held x → (comes_before x c || (x.thread == c.thread && x.place == c.place)) ≡ true → comes_before x n ≡ true
      sooner x h some = ⊎_elim
          (λ (before : comes_before x c ≡ true). comes_before-transitive x c n before first.after)
          (λ (equal : (x.thread == c.thread && x.place == c.place) ≡ true).
          let both = and_parts (x.thread == c.thread) (x.place == c.place) equal in
          let is_c = same_event c x in_c h (eqb-true x.thread c.thread both.0) (eqb-true x.place c.place both.1) in
          subst (λ y. comes_before y n ≡ true) (sym is_c) first.after)
          (or_cases (comes_before x c) (x.thread == c.thread && x.place == c.place) some)

      either : (x : Entry) → Contains held x → comes_before x n ≡ (comes_before x c || (x.thread == c.thread && x.place == c.place))
      either x h = ⊎_elim
          (λ (some : (comes_before x c || (x.thread == c.thread && x.place == c.place)) ≡ true). sooner x h some ∙ sym some)
          (λ (none : (comes_before x c || (x.thread == c.thread && x.place == c.place)) ≡ false). later x h none ∙ sym none)
          (cases_Bool (comes_before x c || (x.thread == c.thread && x.place == c.place)))

  -- behind the last event there is none
  pub rank-last : (c : Entry) → Contains held c → ((x : Entry) → Contains held x → comes_before c x ≡ false) → length held ≡ rank c + 1
  rank-last c in_c none =
      let parts = count-parts (λ x. true) (λ x. comes_before x c) (λ x. x.thread == c.thread && x.place == c.place) held either (λ x h. apart c x in_c h) in
      let all = count-all (λ x. true) held (λ x h. refl) in
      let single = one c in_c in
      omega (arith, parts, all, single)
    where
      either : (x : Entry) → Contains held x → true ≡ (comes_before x c || (x.thread == c.thread && x.place == c.place))
      either x h = ⊎_elim
          (λ (before : comes_before x c ≡ true). sym (or_left (comes_before x c) (x.thread == c.thread && x.place == c.place) before))
          (λ (not_before : comes_before x c ≡ false).
          let equal = comes_before-total c x (none x h) not_before in
          sym (or_right (comes_before x c) (x.thread == c.thread && x.place == c.place) (and_from (x.thread == c.thread) (x.place == c.place) (eq-eqb x.thread c.thread (sym equal.0)) (eq-eqb x.place c.place (sym equal.1)))))
          (cases_Bool (comes_before x c))

  pub held_first : (n : Entry) → IsFirstAfter None held n → IsHeldAt (view_of a) 0 n
  held_first n first = record { held = first.among; before = rank-first n first }

  pub held_next : (k : ℕ) (c n : Entry) → IsHeldAt (view_of a) k c → IsFirstAfter (Some c) held n → IsHeldAt (view_of a) (k + 1) n
  held_next k c n at first = record { held = first.among; before = let next = rank-next c n at.held first in let own = at.before in omega (arith, next, own) }

  pub held_all : (k : ℕ) (c : Entry) → IsHeldAt (view_of a) k c → ((x : Entry) → Contains held x → comes_before c x ≡ false) → length held ≡ k + 1
  held_all k c at none = let last = rank-last c at.held none in let own = at.before in omega (arith, last, own)

pub none_held : (es : List Entry) → ((x : Entry) → Contains es x → true ≡ false) → length es ≡ 0
none_held [] none = refl
none_held (e ∷ es) none = absurd (let here = none e (zero, omega arith, refl) in no true here refl)

-- an element that doesn't pass isn't counted
count-below : (p : Entry → Bool) (xs : List Entry) (e : Entry) → Contains xs e → p e ≡ false → count_by p xs < length xs
count-below p [] e h fails = absurd (omega (arith, h.1))
count-below p (x ∷ xs) e h fails = ⊎_elim
    (λ (here : e ≡ x).
    let zero_here = cond-false {A = ℕ} (p x) 1 0 (ap p (sym here) ∙ fails) in
    let most = count_by-le-length p xs in
    omega (arith, zero_here, most, count-cons p x xs))
    (λ (rest : Contains xs e).
    let below = count-below p xs e rest fails in
    let one = at_most_one (p x) in
    omega (arith, below, one, count-cons p x xs))
    (Contains-first x xs e h)
  where
    at_most_one : (b : Bool) → cond {A = ℕ} b 1 0 ≤ 1
    at_most_one true = omega arith
    at_most_one false = omega arith

-- so a held event stands below their number
pub held_below : (v : MergerView) (k : ℕ) (e : Entry) → IsHeldAt v k e → k < length v.held
held_below v k e at =
    let below = count-below (λ a. comes_before a e) v.held e at.held (comes_before-irreflexive e) in
    let own = at.before in
    omega (arith, below, own)
