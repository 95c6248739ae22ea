-- The runnable threads by a set of places.
use Rattle.std.proofs.Common.{◌≡◌, ℕ, zero, suc, ◌+◌, ◌-◌, ◌<◌, ◌≤◌, ◌⊎◌, inl, inr, Bool, true, false, cond, List, [], ◌∷◌, length, filter, find, Option, Some, None, slice_get, refl, ap, sym, ◌∙◌, arith}
use Rattle.std.specs.List.{range_with_len, count_by}
use Rattle.std.specs.Option.{option_or}
use Rattle.std.proofs.lemmas.Bool.{cases_lt}
use Rattle.std.specs.Int.{bit_at}
use Rattle.std.proofs.lemmas.List.Folds.{find-append}
use Rattle.std.proofs.lemmas.List.Sums.{sum_by-cons}
use Rattle.std.proofs.lemmas.Option.{slice_get_within}
use Rattle.tm_base.specs.declared.bars.Bar.{Bar}
use Rattle.tm_laws.specs.Counts.{bit}
use Rattle.tm_replay.specs.Bars.{is_runnable}
use Rattle.tm_replay.specs.Choosing.{is_runnable_bar, next_thread, runnable_threads, runs_at}
use Rattle.tm_replay.proofs.ChoosingLemmas.{filter-range, filter-range_none, find-range, find-range_none}
use Rattle.tm_joint.specs.Bits.{HasNoPlace, HasRunnable, IsFirstPlace}

bit-true : (b : Bool) → bit b ≡ 1 → b ≡ true
bit-true true h = refl
bit-true false h = absurd (omega (arith, h))

bit-false : (b : Bool) → bit b ≡ 0 → b ≡ false
bit-false true h = absurd (omega (arith, h))
bit-false false h = refl

module _ (bars : List Bar) (set : ℕ) (few : length bars ≤ 64) (has : HasRunnable bars set) where
  runs-here : (i : ℕ) → i < 64 → bit_at set i ≡ 1 → runs_at bars (suc i) ≡ true
  runs-here i within here = bit-true (runs_at bars (suc i)) (sym (has.places i within) ∙ here)

  idle-here : (i : ℕ) → i < 64 → bit_at set i ≡ 0 → runs_at bars (suc i) ≡ false
  idle-here i within here = bit-false (runs_at bars (suc i)) (sym (has.places i within) ∙ here)

  -- a thread that runs has a bar
  runs-within : (i : ℕ) → runs_at bars (suc i) ≡ true → i < length bars
  runs-within i runs = go (slice_get bars i) refl
    where
      go : (o : Option Bar) → slice_get bars i ≡ o → i < length bars
      go None e = absurd (let empty : false ≡ true = sym (ap is_runnable_bar e) ∙ runs in cc)
      go (Some b) e = slice_get_within bars i b e

  -- between two places no thread runs
  idle-between : (from to : ℕ) → to ≤ 64 → ((i : ℕ) → from ≤ i → i < to → bit_at set i ≡ 0) → (k : ℕ) → from + 1 ≤ k → k < to + 1 → runs_at bars k ≡ false
  idle-between from to within none zero low high = absurd (omega (arith, low))
  idle-between from to within none (suc i) low high = idle-here i (omega (arith, high, within)) (none i (omega (arith, low)) (omega (arith, high)))

  module _ (from place : ℕ) (first : IsFirstPlace set from place) where
    runs : runs_at bars (place + 1) ≡ true
    runs = let e : suc place ≡ place + 1 = omega arith in ap (runs_at bars) (sym e) ∙ runs-here place first.within first.here

    pub inside : place < length bars
    inside = runs-within place (runs-here place first.within first.here)

    before : (k : ℕ) → from + 1 ≤ k → k < place + 1 → runs_at bars k ≡ false
    before = idle-between from place (omega (arith, first.within)) first.before

    -- the runnable threads from a place on begin with the first
    pub filter-first : filter (runs_at bars) (range_with_len (from + 1) (length bars - from)) ≡ (place + 1) ∷ filter (runs_at bars) (range_with_len (place + 1 + 1) (length bars - (place + 1)))
    filter-first =
        let left : from + 1 + (length bars - from) - (place + 1 + 1) ≡ length bars - (place + 1) = omega (arith, inside, first.from_on) in
        filter-range (runs_at bars) (from + 1) (length bars - from) (place + 1) (omega (arith, first.from_on)) (omega (arith, inside, first.from_on)) before runs
        ∙ ap (λ m. (place + 1) ∷ filter (runs_at bars) (range_with_len (place + 1 + 1) m)) left

    find-first : (n : ℕ) → place < from + n → find (runs_at bars) (range_with_len (from + 1) n) ≡ Some (place + 1)
    find-first n high = find-range (runs_at bars) (from + 1) n (place + 1) (omega (arith, first.from_on)) (omega (arith, high)) before runs

  -- there are none from a place on
  none-from : (from n : ℕ) → HasNoPlace set from → from + n ≤ 64 → (k : ℕ) → from + 1 ≤ k → k < from + 1 + n → runs_at bars k ≡ false
  none-from from n empty within k low high = idle-between from (from + n) within (λ i l h. empty.none i l (omega (arith, h, within))) k low (omega (arith, high))

  pub filter-none_left : (from : ℕ) → HasNoPlace set from → from ≤ 64 → filter (runs_at bars) (range_with_len (from + 1) (length bars - from)) ≡ []
  filter-none_left from empty low = filter-range_none (runs_at bars) (from + 1) (length bars - from) (none-left from empty)
    where
      none-left : (f : ℕ) → HasNoPlace set f → (k : ℕ) → f + 1 ≤ k → k < f + 1 + (length bars - f) → runs_at bars k ≡ false
      none-left f n zero l h = absurd (omega (arith, l))
      none-left f n (suc i) l h = idle-here i (omega (arith, h, few, l)) (n.none i (omega (arith, l)) (omega (arith, h, few, l)))

  -- the one at a place, counted from the first one left
  module _ (nth from left : ℕ) (rest : slice_get (runnable_threads bars) nth ≡ slice_get (filter (runs_at bars) (range_with_len (from + 1) (length bars - from))) left) where
    later-one : (t k : ℕ) (l : List ℕ) → 0 < k → slice_get (t ∷ l) k ≡ slice_get l (k - 1)
    later-one t zero l h = absurd (omega (arith, h))
    later-one t (suc k) l h = let e : k ≡ suc k - 1 = omega arith in ap (slice_get l) e

    first-one : (t k : ℕ) (l : List ℕ) → k ≡ 0 → slice_get (t ∷ l) k ≡ Some t
    first-one t k l h = ap (slice_get (t ∷ l)) h

    pub nth-step : (place : ℕ) → IsFirstPlace set from place → 0 < left
        → slice_get (runnable_threads bars) nth ≡ slice_get (filter (runs_at bars) (range_with_len (place + 1 + 1) (length bars - (place + 1)))) (left - 1)
    nth-step place first some =
        rest ∙ ap (λ l. slice_get l left) (filter-first from place first) ∙ later-one (place + 1) left _ some

    pub nth-here : (place : ℕ) → IsFirstPlace set from place → left ≡ 0 → slice_get (runnable_threads bars) nth ≡ Some (place + 1)
    nth-here place first end = rest ∙ ap (λ l. slice_get l left) (filter-first from place first) ∙ first-one (place + 1) left _ end

    pub nth-none : HasNoPlace set from → from ≤ 64 → slice_get (runnable_threads bars) nth ≡ None
    nth-none empty within = rest ∙ ap (λ l. slice_get l left) (filter-none_left from empty within)

  -- the next one in cyclic order
  module _ (last : ℕ) (known : last ≤ length bars) where
    abbrev later : Option ℕ
    later = find (runs_at bars) (range_with_len (last + 1) (length bars - last))

    abbrev sooner : Option ℕ
    sooner = find (runs_at bars) (range_with_len 1 last)

    split : next_thread bars last ≡ option_or later sooner
    split = find-append (runs_at bars) (range_with_len (last + 1) (length bars - last)) (range_with_len 1 last)

    pub next-later : (place : ℕ) → IsFirstPlace set last place → next_thread bars last ≡ Some (place + 1)
    next-later place first =
        split ∙ ap (λ o. option_or o sooner) (find-first last place first (length bars - last) (omega (arith, inside last place first, known)))

    none-later : HasNoPlace set last → later ≡ None
    none-later empty = find-range_none (runs_at bars) (last + 1) (length bars - last) (none-from last (length bars - last) empty (omega (arith, known, few)))

    pub next-sooner : (place : ℕ) → HasNoPlace set last → IsFirstPlace set 0 place → next_thread bars last ≡ Some (place + 1)
    next-sooner place empty first =
        split ∙ ap (λ o. option_or o sooner) (none-later empty) ∙ find-first 0 place first last (below (cases_lt place last))
      where
        below : (place < last) ⊎ (last ≤ place) → place < 0 + last
        below (inl h) = omega (arith, h)
        below (inr h) = absurd (omega (arith, empty.none place h first.within, first.here))

    pub next-none : HasNoPlace set last → HasNoPlace set 0 → next_thread bars last ≡ None
    next-none empty none =
        split ∙ ap (λ o. option_or o sooner) (none-later empty)
        ∙ find-range_none (runs_at bars) 1 last (none-from 0 last none (omega (arith, known, few)))

-- the threads that run are as many as the bars that show it
length-from : (bars all : List Bar) (a : ℕ) → ((i : ℕ) → slice_get all (a + i) ≡ slice_get bars i) → length (filter (runs_at all) (range_with_len (suc a) (length bars))) ≡ count_by is_runnable bars
length-from [] all a same = refl
length-from (b ∷ bars) all a same =
    let first : runs_at all (suc a) ≡ is_runnable b = (let e : a ≡ a + 0 = omega arith in ap (λ k. is_runnable_bar (slice_get all k)) e ∙ ap is_runnable_bar (same 0)) in
    let next : suc a + 1 ≡ suc (suc a) = omega arith in
    let rest = length-from bars all (suc a) (λ i. let e : suc a + i ≡ a + suc i = omega arith in ap (slice_get all) e ∙ same (suc i)) in
    ap (λ k. length (cond (runs_at all (suc a)) (suc a ∷ filter (runs_at all) (range_with_len k (length bars))) (filter (runs_at all) (range_with_len k (length bars))))) next
    ∙ ap (λ t. length (cond t (suc a ∷ filter (runs_at all) (range_with_len (suc (suc a)) (length bars))) (filter (runs_at all) (range_with_len (suc (suc a)) (length bars))))) first
    ∙ go (is_runnable b) rest ∙ sym (sum_by-cons (λ x. cond (is_runnable x) 1 0) b bars)
  where
    go : (t : Bool) → length (filter (runs_at all) (range_with_len (suc (suc a)) (length bars))) ≡ count_by is_runnable bars
        → length (cond t (suc a ∷ filter (runs_at all) (range_with_len (suc (suc a)) (length bars))) (filter (runs_at all) (range_with_len (suc (suc a)) (length bars)))) ≡ cond t 1 0 + count_by is_runnable bars
    go true e = omega (arith, e)
    go false e = omega (arith, e)

pub length-runnable : (bars : List Bar) → length (runnable_threads bars) ≡ count_by is_runnable bars
length-runnable bars = length-from bars bars 0 (λ i. let e : 0 + i ≡ i = omega arith in ap (slice_get bars) e)
