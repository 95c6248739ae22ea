-- Numbered lists keep happened-before.
use Rattle.std.proofs.Common.{◌≡◌, ℕ, zero, suc, ◌<◌, Bool, true, false, ◌==◌, ◌&&◌, ⊎_elim, List, [], ◌∷◌, ◌++◌, find, Option, Some, None, is_some, slice_get, length, Contains, refl, sym, ap, ◌∙◌, subst, arith}
use Rattle.std.proofs.lemmas.Bool.{cases_Bool, cond-true, cond-false, eqb-true, and_parts}
use Rattle.std.proofs.lemmas.Bool.Decides.{nat_tests}
use Rattle.std.proofs.lemmas.List.{append_assoc}
use Rattle.std.proofs.lemmas.List.Elements.{Contains-append_left, Contains-append_cases}
use Rattle.tm_base.specs.declared.events.Entry.{Entry}
use Rattle.tm_base.specs.Orders.{IsDirect, IsChain, StandsOnce}
use Rattle.tm_merge.specs.declared.arrivals.Arrivals.{Arrivals}
use Rattle.tm_merge.specs.MergerViews.{arrived}
use Rattle.tm_merge.specs.Numbering.{IsNumberedBy, IsNumbered, HaveOwnPlaces, PrefixesAreClosed, NumberedEventsAreInOrder, NumberedEventsAreClosed}
use Rattle.tm_merge.specs.StoredArrivals.{found, occupants, view_of, KeepsArrivals}
use Rattle.tm_merge.proofs.IndexLemmas.{slot_at-later}
use Rattle.tm_merge.proofs.KeepsLemmas.{places, ats}
use Rattle.tm_merge.proofs.ListLemmas.{Contains-rest, Contains-at, Contains-parts, slice_get-snoc_cases}
use Rattle.tm_merge.proofs.NumberingLemmas.{count_in, IsExact, Owns, exact-snoc, owns-snoc, exact_owns, walk}
use Rattle.tm_merge.proofs.RefusalLemmas.{direct_cases}
use Rattle.tm_merge.proofs.SlotsLemmas.{slot_of}

-- what is found is an element that passes the test
pub find-element : {A : Type 0} (p : A → Bool) (xs : List A) (x : A) → find p xs ≡ Some x → Contains xs x × (p x ≡ true)
find-element p [] x h = absurd cc
find-element p (y ∷ xs) x h = ⊎_elim
    (λ (pass : p y ≡ true).
    let same : y ≡ x = let here = cond-true (p y) (Some y) (find p xs) pass in cc in
    ((zero, omega arith, same), ap p (sym same) ∙ pass))
    (λ (fail : p y ≡ false).
    let rest = find-element p xs x (sym (cond-false (p y) (Some y) (find p xs) fail) ∙ h) in
    (Contains-rest y xs x rest.0, rest.1))
    (cases_Bool (p y))

pub there_is : {A : Type 0} (o : Option A) → is_some o ≡ true → (x : A) × (o ≡ Some x)
there_is None h = absurd cc
there_is (Some x) h = (x, refl)

module _ (line number : Entry → ℕ) where
  -- the first events of a numbered list are numbered
  pub prefix_numbered : (es prefix back : List Entry) → IsNumberedBy line number es → es ≡ prefix ++ back → IsNumberedBy line number prefix
  prefix_numbered es prefix back numbered is f b e part =
      numbered f (b ++ back) e (is ∙ ap (λ l. l ++ back) part ∙ append_assoc f (e ∷ b) back)

  -- just before an event of a numbered list stands the one with the number before, if there is one
  pub before : (es prefix back : List Entry) (e : Entry) (n : ℕ) → IsNumberedBy line number es → es ≡ prefix ++ e ∷ back → 0 < n → suc n ≡ number e → (x : Entry) × Contains prefix x × (line x ≡ line e) × (number x ≡ n)
  before es prefix back e n numbered is positive next =
      let own = numbered prefix back e is in
      let exact = (exact_owns line number prefix (prefix_numbered es prefix (e ∷ back) numbered is)).0 (line e) n in
      let some : is_some (found line number prefix (line e) n) ≡ true = exact ∙ grind (arith, nat_tests) in
      let x = there_is (found line number prefix (line e) n) some in
      let element = find-element (λ d. line d == line e && number d == n) prefix x.0 x.1 in
      let both = and_parts (line x.0 == line e) (number x.0 == n) element.1 in
      (x.0, element.0, eqb-true (line x.0) (line e) both.0, eqb-true (number x.0) n both.1)

  pub positive : (es : List Entry) → IsNumberedBy line number es → (e : Entry) → Contains es e → 0 < number e
  positive es numbered e h =
      let both = exact_owns line number es numbered in
      let some = ap is_some (both.1 e h) in
      let exact = both.0 (line e) (number e) in
      grind (arith, nat_tests)

  pub own : (es : List Entry) → Owns line number es → (a b : Entry) → Contains es a → Contains es b → line a ≡ line b → number a ≡ number b → a ≡ b
  own es owns a b in_a in_b lines numbers =
      let first = owns a in_a in
      let second : found line number es (line a) (number a) ≡ Some b = subst (λ k. found line number es k (number a) ≡ Some b) (sym lines) (subst (λ n. found line number es (line b) n ≡ Some b) (sym numbers) (owns b in_b)) in
      cc

  -- no event stands twice in a numbered list
  pub once : (es : List Entry) → IsNumberedBy line number es → StandsOnce es
  once es numbered =
      let P : List Entry → Type 0 = λ ds. IsExact line number ds × Owns line number ds × StandsOnce ds in
      let first : P [] = ((λ k n. grind (arith, nat_tests)), (λ e h. absurd (omega (arith, h.1))), (λ i j e h g. absurd cc)) in
      (walk line number P (λ ds e all next. (exact-snoc line number ds e all.0 next, owns-snoc line number ds e all.0 next all.1, step ds e all.0 all.1 all.2 next)) [] es first numbered).2
    where
      absent : (ds : List Entry) (e : Entry) → IsExact line number ds → Owns line number ds → number e ≡ suc (count_in line number ds (line e)) → Contains ds e → ⊥
      absent ds e exact owns next h =
          let some = ap is_some (owns e h) in
          let none = exact (line e) (number e) in
          grind (arith, nat_tests)

      step : (ds : List Entry) (e : Entry) → IsExact line number ds → Owns line number ds → StandsOnce ds → number e ≡ suc (count_in line number ds (line e)) → StandsOnce (ds ++ e ∷ [])
      step ds e exact owns single next i j x at_i at_j = ⊎_elim
          (λ (last_i : (i ≡ length ds) × (x ≡ e)). ⊎_elim
          (λ (last_j : (j ≡ length ds) × (x ≡ e)). last_i.0 ∙ sym last_j.0)
          (λ (old_j : slice_get ds j ≡ Some x). absurd (absent ds e exact owns next (subst (Contains ds) last_i.1 (Contains-at ds j x old_j))))
          (slice_get-snoc_cases ds e j x at_j))
          (λ (old_i : slice_get ds i ≡ Some x). ⊎_elim
          (λ (last_j : (j ≡ length ds) × (x ≡ e)). absurd (absent ds e exact owns next (subst (Contains ds) last_j.1 (Contains-at ds i x old_i))))
          (λ (old_j : slice_get ds j ≡ Some x). single i j x old_i old_j)
          (slice_get-snoc_cases ds e j x at_j))
          (slice_get-snoc_cases ds e i x at_i)

-- the direct predecessors of an event stand before it
module _ (es events : List Entry) (numbered : IsNumbered es) (among : (e : Entry) → Contains es e → Contains events e) (owned : HaveOwnPlaces events) where
  direct_before : (prefix back : List Entry) (a b : Entry) → es ≡ prefix ++ b ∷ back → Contains events a → IsDirect a b → Contains prefix a
  direct_before prefix back a b is h direct = ⊎_elim
      (λ (thread : (a.thread ≡ b.thread) × (suc a.place ≡ b.place)).
      let x = before (λ e. e.thread) (λ e. e.place) es prefix back b a.place numbered.threads is (owned.counted a h).0 thread.1 in
      let same : x.0 ≡ a = owned.places x.0 a (in_events x.0 x.1) h (x.2 ∙ sym thread.0) x.3 in
      subst (Contains prefix) same x.1)
      (λ (object : (a.object ≡ b.object) × (suc a.at ≡ b.at)).
      let x = before (λ e. e.object) (λ e. e.at) es prefix back b a.at numbered.objects is (owned.counted a h).1 object.1 in
      let same : x.0 ≡ a = owned.ats x.0 a (in_events x.0 x.1) h (x.2 ∙ sym object.0) x.3 in
      subst (Contains prefix) same x.1)
      (direct_cases a b direct)
    where
      in_events : (x : Entry) → Contains prefix x → Contains events x
      in_events x in_front = among x (subst (λ l. Contains l x) (sym is) (Contains-append_left prefix (b ∷ back) x in_front))

  chain_before : (between : List Entry) (prefix back : List Entry) (a b : Entry) → es ≡ prefix ++ b ∷ back → IsChain events a between b → Contains prefix a
  chain_before [] prefix back a b is chain = direct_before prefix back a b is chain.0 chain.2
  chain_before (m ∷ between) prefix back a b is chain =
      let later = chain_before between prefix back m b is chain.2 in
      let parts = Contains-parts prefix m later in
      let whole : es ≡ parts.0 ++ m ∷ (parts.1 ++ b ∷ back) = is ∙ ap (λ l. l ++ b ∷ back) parts.2 ∙ append_assoc parts.0 (m ∷ parts.1) (b ∷ back) in
      let early = direct_before parts.0 (parts.1 ++ b ∷ back) a m whole chain.0 chain.1 in
      subst (λ l. Contains l a) (sym parts.2) (Contains-append_left parts.0 (m ∷ parts.1) a early)

  pub closed : PrefixesAreClosed es events
  closed prefix back is = record {
    known = λ e h. among e (subst (λ l. Contains l e) (sym is) (Contains-append_left prefix back e h));
    once = once (λ e. e.thread) (λ e. e.place) prefix (prefix_numbered (λ e. e.thread) (λ e. e.place) es prefix back numbered.threads is);
    closed = λ f b x e part happened. chain_before happened.0 f (b ++ back) x e (is ∙ ap (λ l. l ++ back) part ∙ append_assoc f (e ∷ b) back) happened.1;
  }

  pub in_order : (prefix back : List Entry) (a b : Entry) → es ≡ prefix ++ b ∷ back → Contains es a → IsDirect a b → Contains prefix a
  in_order prefix back a b is h direct = direct_before prefix back a b is (among a h) direct

-- numbered events have their places for themselves
pub numbered_own : (es : List Entry) → IsNumbered es → HaveOwnPlaces es
numbered_own es numbered = record {
  counted = λ e h. (positive (λ e. e.thread) (λ e. e.place) es numbered.threads e h, positive (λ e. e.object) (λ e. e.at) es numbered.objects e h);
  places = own (λ e. e.thread) (λ e. e.place) es (exact_owns (λ e. e.thread) (λ e. e.place) es numbered.threads).1;
  ats = own (λ e. e.object) (λ e. e.at) es (exact_owns (λ e. e.object) (λ e. e.at) es numbered.objects).1;
}

pub numbered_in_order : NumberedEventsAreInOrder
numbered_in_order es numbered = (in_order es es numbered (λ e h. h) (numbered_own es numbered), once (λ e. e.thread) (λ e. e.place) es numbered.threads)

pub numbered_closed : NumberedEventsAreClosed
numbered_closed es events numbered among owned = closed es events numbered among owned

-- events that arrived have their places for themselves
pub arrived_own : (a : Arrivals) → KeepsArrivals a → HaveOwnPlaces (arrived (view_of a))
arrived_own a keeps = record {
  counted = counted;
  places = own (λ e. e.thread) (λ e. e.place) (arrived (view_of a)) (places a keeps);
  ats = own (λ e. e.object) (λ e. e.at) (arrived (view_of a)) (ats a keeps);
}
  where
    counted : (e : Entry) → Contains (arrived (view_of a)) e → (0 < e.place) × (0 < e.at)
    counted e h = ⊎_elim
        (λ (in_shown : Contains a.shown.items e). (numbered_own a.shown.items keeps.numbered).counted e in_shown)
        (λ (in_held : Contains (occupants a.slots.items) e).
        let slot = slot_of a.slots.items e in_held in
        let thread = keeps.threads.named slot.0 e slot.1 in
        let object = keeps.objects.named slot.0 e slot.1 in
        let place = slot_at-later thread.own e.place slot.0 thread.slot in
        let at = slot_at-later object.own e.at slot.0 object.slot in
        (omega (arith, place), omega (arith, at)))
        (Contains-append_cases a.shown.items (occupants a.slots.items) e h)

pub arrived_closed : (a : Arrivals) → KeepsArrivals a → PrefixesAreClosed a.shown.items (arrived (view_of a))
arrived_closed a keeps = closed a.shown.items (arrived (view_of a)) keeps.numbered (λ e h. Contains-append_left a.shown.items (occupants a.slots.items) e h) (arrived_own a keeps)
