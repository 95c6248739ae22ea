-- The order of events by their stamps keeps happened-before.
use Rattle.std.proofs.Common.{◌≡◌, ℕ, zero, suc, ◌+◌, ◌<◌, ◌≤◌, max, inl, inr, ◌⊎◌, ⊎_elim, List, [], ◌∷◌, ◌++◌, map, filter, fold, length, Contains, get_or, refl, ap, sym, ◌∙◌, subst, arith, length-append}
use Rattle.std.specs.Prelude.{IsPermutation}
use Rattle.std.proofs.lemmas.Bool.{cases_eq, cases_order}
use Rattle.std.proofs.lemmas.List.{get_or_at, get_or-append-add}
use Rattle.std.proofs.lemmas.List.Elements.{Contains-append_cases}
use Rattle.std.proofs.lemmas.List.Sorted.{Contains-permutation, IsPermutation-sym}
use Rattle.tm_base.specs.declared.events.Entry.{Entry}
use Rattle.tm_base.specs.Orders.{HappenedBefore, IsChain, IsStamped, IsWellPlaced, is_direct, IsNotLater, KeepsPredecessors, StampsRise}
use Rattle.tm_text.specs.Exercises.{ExerciseView}
use Rattle.tm_replay.specs.JointStates.{JointState}
use Rattle.tm_replay.specs.JointSteps.{IsJointRun}
use Rattle.tm_replay.proofs.SliceLemmas.{Contains-first}
use Rattle.tm_replay.proofs.JointOrderLemmas.{runs-stamped}
use Rattle.tm_order.specs.LinearExtensions.{IsLinearExtension}
use Rattle.tm_order.specs.StampOrder.{AreOrderedByStamps, IsInStampOrder}
use Rattle.tm_order.proofs.Elements.{Contains-none, Contains-head, Contains-middle, Contains-next, Contains-filter, AppearOnce}
use Rattle.tm_order.proofs.PlacedLemmas.{key-before, key-one, key-range, placed-once, placed-permuted}
use Rattle.tm_order.proofs.SortingLemmas.{sorted-order}
use Rattle.tm_order.proofs.Rearranging.{direct-thread, rearranged}

-- of two of which none is later than the other the stamps don't fall
pub not_later-stamps : (a b : Entry) → IsNotLater a b → a.stamp ≤ b.stamp
not_later-stamps a b (inl less) = omega (arith, less)
not_later-stamps a b (inr tie) = omega (arith, tie.0)

-- in stamp order an event isn't later than those behind it
order-behind : (es : List Entry) → IsInStampOrder es → (prefix back : List Entry) (a b : Entry) → es ≡ prefix ++ a ∷ back → Contains back b → IsNotLater a b
order-behind es order prefix back a b parts behind =
    let there : length prefix + suc behind.0 < length es = subst (λ (l : List Entry). length prefix + suc behind.0 < length l) (sym parts) (omega (arith, length-append prefix (a ∷ back), behind.1)) in
    let pair : IsNotLater (get_or es (length prefix) b) (get_or es (length prefix + suc behind.0) b) = order (length prefix) (length prefix + suc behind.0) b (omega arith) there in
    let first : get_or es (length prefix) b ≡ a = ap (λ (l : List Entry). get_or l (length prefix) b) parts ∙ get_or_at prefix a back b (length prefix) refl in
    let second : get_or es (length prefix + suc behind.0) b ≡ b =
    ap (λ (l : List Entry). get_or l (length prefix + suc behind.0) b) parts ∙ get_or-append-add prefix (a ∷ back) (suc behind.0) b ∙ behind.2 in
    subst (λ (e : Entry). IsNotLater e b) first (subst (IsNotLater (get_or es (length prefix) b)) second pair)

-- along a chain the stamps rise
chain-rises : (es : List Entry) → StampsRise es → (between : List Entry) (a b : Entry) → IsChain es a between b → (a.stamp < b.stamp) × Contains es a × Contains es b
chain-rises es rises [] a b chain = (rises a b chain.0 chain.1 chain.2, chain.0, chain.1)
chain-rises es rises (m ∷ between) a b chain =
    let later = chain-rises es rises between m b chain.2 in
    let first = rises a m chain.0 later.1 chain.1 in
    (omega (arith, first, later.0), chain.0, later.2)

order-extends : (es order : List Entry) → StampsRise es → IsPermutation es order → IsInStampOrder order → IsLinearExtension es order
order-extends es order rises permutation sorted = record { permutation = permutation; after = after }
  where
    after : (prefix back : List Entry) (a b : Entry) → order ≡ prefix ++ b ∷ back → HappenedBefore es a b → Contains prefix a
    after prefix back a b parts before =
        let rise = chain-rises es rises before.0 a b before.1 in
        let there : Contains (prefix ++ b ∷ back) a = subst (λ (l : List Entry). Contains l a) parts (Contains-permutation es order a permutation rise.1) in
        ⊎_elim (λ (first : Contains prefix a). first)
        (λ (behind : Contains (b ∷ back) a). ⊎_elim
        (λ (same : a ≡ b). let is : a.stamp ≡ b.stamp = ap (λ (e : Entry). e.stamp) same in absurd (omega (arith, rise.0, is)))
        (λ (later : Contains back a).
        let least = not_later-stamps b a (order-behind order sorted prefix back b a parts later) in
        absurd (omega (arith, rise.0, least)))
        (Contains-first b back a behind))
        (Contains-append_cases prefix (b ∷ back) a there)

module _ (es : List Entry) (placed : IsWellPlaced es) (rises : StampsRise es) where
  -- in one thread the stamps rise with the places
  thread-rises : (n : ℕ) (a b : Entry) → Contains es a → Contains es b → a.thread ≡ b.thread → b.place ≡ n → a.place < n → a.stamp < b.stamp
  thread-rises zero a b first second keys is less = absurd (omega (arith, less))
  thread-rises (suc n) a b first second keys is less =
      let range = key-range (λ e. e.thread) (λ e. e.place) es placed.threads a first in
      let before = key-before (λ e. e.thread) (λ e. e.place) es placed.threads b second (omega (arith, range, is, less)) in
      let last = rises before.0 b before.1 second (direct-thread before.0 b before.2 before.3) in
      let at : before.0.place ≡ n = omega (arith, before.3, is) in
      ⊎_elim
      (λ (same : a.place ≡ n).
      let one : a ≡ before.0 = key-one (λ e. e.thread) (λ e. e.place) es placed.threads a before.0 first before.1 (keys ∙ sym before.2) (same ∙ sym at) in
      subst (λ (e : Entry). e.stamp < b.stamp) (sym one) last)
      (λ (apart : a.place ≡ n → ⊥).
      let earlier = thread-rises n a before.0 first before.1 (keys ∙ sym before.2) at (omega (arith, less, apart)) in
      omega (arith, earlier, last))
      (cases_eq a.place n)

  -- of two events of which none is later than the other there is one
  not_later-one : (a b : Entry) → Contains es a → Contains es b → IsNotLater a b → IsNotLater b a → a ≡ b
  not_later-one a b first second (inl less) back = let more = not_later-stamps b a back in absurd (omega (arith, less, more))
  not_later-one a b first second (inr tie) (inl less) = absurd (omega (arith, tie.0, less))
  not_later-one a b first second (inr tie) (inr tie') =
      let keys : a.thread ≡ b.thread = omega (arith, tie.1, tie'.1) in
      ⊎_elim
      (λ (same : a.place ≡ b.place). key-one (λ e. e.thread) (λ e. e.place) es placed.threads a b first second keys same)
      (λ (apart : (a.place < b.place) ⊎ (b.place < a.place)). ⊎_elim
      (λ (less : a.place < b.place). let rise = thread-rises b.place a b first second keys refl less in absurd (omega (arith, rise, tie.0)))
      (λ (more : b.place < a.place). let rise = thread-rises a.place b a second first (sym keys) refl more in absurd (omega (arith, rise, tie.0)))
      apart)
      (cases_order a.place b.place)

  -- the events behind the first one are in stamp order
  order-tail : (e : Entry) (fs : List Entry) → IsInStampOrder (e ∷ fs) → IsInStampOrder fs
  order-tail e fs order i k d less within = order (suc i) (suc k) d (omega (arith, less)) (omega (arith, within))

  sorted-one : (order other : List Entry) → AppearOnce order → AppearOnce other → ((e : Entry) → Contains order e → Contains es e)
      → ((e : Entry) → Contains order e → Contains other e) → ((e : Entry) → Contains other e → Contains order e)
      → IsInStampOrder order → IsInStampOrder other → order ≡ other
  sorted-one [] [] once once' known into from sorted sorted' = refl
  sorted-one [] (f ∷ other) once once' known into from sorted sorted' = absurd (Contains-none f (from f (Contains-head f other)))
  sorted-one (e ∷ order) [] once once' known into from sorted sorted' = absurd (Contains-none e (into e (Contains-head e order)))
  sorted-one (e ∷ order) (f ∷ other) once once' known into from sorted sorted' =
      let first : e ≡ f = ⊎_elim
      (λ (same : e ≡ f). same)
      (λ (behind : Contains other e). ⊎_elim
      (λ (same : f ≡ e). sym same)
      (λ (behind' : Contains order f).
      not_later-one e f (known e (Contains-head e order)) (known f (Contains-next e order f behind'))
      (order-behind (e ∷ order) sorted [] order e f refl behind') (order-behind (f ∷ other) sorted' [] other f e refl behind))
      (Contains-first e order f (from f (Contains-head f other))))
      (Contains-first f other e (into e (Contains-head e order))) in
      ap (λ g. g ∷ order) first ∙ ap (λ l. f ∷ l)
      (sorted-one order other once.1 once'.1 (λ g within. known g (Contains-next e order g within))
      (λ g within. ⊎_elim (λ (same : g ≡ f). absurd (once.0 (subst (Contains order) (same ∙ sym first) within))) (λ (later : Contains other g). later)
      (Contains-first f other g (into g (Contains-next e order g within))))
      (λ g within. ⊎_elim (λ (same : g ≡ e). absurd (once'.0 (subst (Contains other) (same ∙ first) within))) (λ (later : Contains order g). later)
      (Contains-first e order g (from g (Contains-next f other g within))))
      (order-tail e order sorted) (order-tail f other sorted'))

  pub stamps-order : AreOrderedByStamps es
  stamps-order = record {
    acyclic = λ e before. let rise = (chain-rises es rises before.0 e e before.1).0 in omega (arith, rise);
    exists = sorted-order es;
    extends = λ order permutation sorted. order-extends es order rises permutation sorted;
    one = λ order other left right sorted sorted'.
        sorted-one order other (placed-once order (placed-permuted es order placed left)) (placed-once other (placed-permuted es other placed right))
        (λ e within. Contains-permutation order es e (IsPermutation-sym es order left) within)
        (λ e within. Contains-permutation es other e right (Contains-permutation order es e (IsPermutation-sym es order left) within))
        (λ e within. Contains-permutation es order e left (Contains-permutation other es e (IsPermutation-sym es other right) within))
        sorted sorted';
  }

-- a stamp of some events isn't above the greatest
greatest-least : (m : ℕ) (ns : List ℕ) → m ≤ fold max m ns
greatest-least m [] = omega arith
greatest-least m (n ∷ ns) = let more = greatest-least (max m n) ns in omega (arith, more)

greatest-within : (m : ℕ) (es : List Entry) (e : Entry) → Contains es e → e.stamp ≤ fold max m (map (λ a. a.stamp) es)
greatest-within m [] e within = absurd (Contains-none e within)
greatest-within m (f ∷ es) e within = ⊎_elim
    (λ (same : e ≡ f).
    let is : e.stamp ≡ f.stamp = ap (λ (g : Entry). g.stamp) same in
    let more = greatest-least (max m f.stamp) (map (λ a. a.stamp) es) in
    omega (arith, is, more))
    (λ (later : Contains es e). greatest-within (max m f.stamp) es e later)
    (Contains-first f es e within)

-- stamps that are Lamport's clocks rise
pub stamped-rises : (es : List Entry) → IsStamped es → StampsRise es
stamped-rises es stamped a b first second direct =
    let most = greatest-within 0 (filter (λ c. is_direct c b) es) a (Contains-filter (λ c. is_direct c b) es a first direct) in
    let is = stamped b second in
    omega (arith, most, is)

-- a linear extension of happened-before keeps direct predecessors
pub extension-keeps : (es order : List Entry) → IsLinearExtension es order → KeepsPredecessors order
extension-keeps es order extension prefix back a b parts within direct =
    let back' = IsPermutation-sym es order extension.permutation in
    let there : Contains order b = subst (λ (l : List Entry). Contains l b) (sym parts) (Contains-middle prefix back b) in
    extension.after prefix back a b parts ([], (Contains-permutation order es a back' within, Contains-permutation order es b back' there, direct))

pub run-sorts : (x : ExerciseView) (es order : List Entry) (j : JointState) → IsJointRun x es j → IsPermutation es order → IsInStampOrder order → IsJointRun x order j
run-sorts x es order j run permutation sorted =
    rearranged x es order j run permutation
    (extension-keeps es order (order-extends es order (stamped-rises es (runs-stamped x es j run)) permutation sorted))
