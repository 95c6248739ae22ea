-- The thread that moves next.
use Rattle.std.proofs.Common.{◌≡◌, ◌≢◌, ℕ, zero, suc, ◌+◌, ◌-◌, ◌/◌, ◌%◌, ◌^◌, ◌==◌, if◌then◌else◌, ◌<◌, ◌≤◌, Bool, true, false, not, ◌&&◌, ⊎_elim, cond, List, [], ◌∷◌, ◌++◌, length, filter, find, Option, Some, None, slice_get, get_or, refl, ap, sym, ◌∙◌, arith}
use Rattle.std.specs.List.{range_with_len, list_all}
use Rattle.std.specs.Option.{option_map, option_or}
use Rattle.std.proofs.lemmas.Bool.{false≢true, cases_lt}
use Rattle.std.proofs.lemmas.List.FromFn.{length-map-range_with_len}
use Rattle.std.proofs.lemmas.List.Folds.{find-append}
use Rattle.std.proofs.Math.Nat.{mod-lt}
use Rattle.std.proofs.lemmas.Option.{slice_get-map, slice_get_within, slice_get-get_or}
use Rattle.tm_base.specs.declared.bars.Bar.{Bar}
use Rattle.tm_replay.specs.JointStates.{JointState}
use Rattle.tm_replay.specs.Bars.{bar_of, bars_of, is_runnable, is_over, is_stuck}
use Rattle.tm_replay.specs.Choosing.{cyclic, is_runnable_bar, next_thread, runnable_threads, runs_at}
use Rattle.tm_session.specs.Choices.{picked, chosen_thread}

-- what was found passes
pub find-passes : {A : Type 0} (p : A → Bool) (xs : List A) (x : A) → find p xs ≡ Some x → p x ≡ true
find-passes p [] x h = absurd cc
find-passes p (y ∷ xs) x h = go (p y) refl h (find-passes p xs x)
  where
    go : (b : Bool) → p y ≡ b → cond (p y) (Some y) (find p xs) ≡ Some x → (find p xs ≡ Some x → p x ≡ true) → p x ≡ true
    go true e h later = let same : y ≡ x = (let s : Some y ≡ Some x = sym (ap (λ b. cond b (Some y) (find p xs)) e) ∙ h in cc) in ap p (sym same) ∙ e
    go false e h later = later (sym (ap (λ b. cond b (Some y) (find p xs)) e) ∙ h)

-- where nothing was found none passes
pub find-none : {A : Type 0} (p : A → Bool) (xs : List A) → find p xs ≡ None → (i : ℕ) (x : A) → slice_get xs i ≡ Some x → p x ≡ false
find-none p [] h i x at = absurd cc
find-none p (y ∷ xs) h i x at = go (p y) refl (λ later k there. find-none p xs later k x there)
  where
    go : (b : Bool) → p y ≡ b → (find p xs ≡ None → (k : ℕ) → slice_get xs k ≡ Some x → p x ≡ false) → p x ≡ false
    go true e later = absurd (let s : Some y ≡ None = sym (ap (λ b. cond b (Some y) (find p xs)) e) ∙ h in cc)
    go false e later = at_place i at
      where
        at_place : (k : ℕ) → slice_get (y ∷ xs) k ≡ Some x → p x ≡ false
        at_place zero here = let same : y ≡ x = cc in ap p (sym same) ∙ e
        at_place (suc k) there = later (sym (ap (λ b. cond b (Some y) (find p xs)) e) ∙ h) k there

-- a thread's bar, by its number
pub runs_at-bar : (bars : List Bar) (t : ℕ) (b : Bar) → 1 ≤ t → slice_get bars (t - 1) ≡ Some b → runs_at bars t ≡ is_runnable b
runs_at-bar bars zero b h at = absurd (omega (arith, h))
runs_at-bar bars (suc t) b h at =
    let e : suc t - 1 ≡ t = omega arith in
    ap is_runnable_bar (ap (slice_get bars) (sym e) ∙ at)

slice_get-range : (a n k : ℕ) → k < n → slice_get (range_with_len a n) k ≡ Some (a + k)
slice_get-range a zero k h = absurd (omega (arith, h))
slice_get-range a (suc n) zero h = let e : a ≡ a + 0 = omega arith in ap Some e
slice_get-range a (suc n) (suc k) h = let e : a + 1 + k ≡ a + suc k = omega arith in slice_get-range (a + 1) n k (omega (arith, h)) ∙ ap Some e

-- the bars of a joint state are those of its threads
pub bar-at : (j : JointState) (t : ℕ) → t < length j.threads - 1 → slice_get (bars_of j) t ≡ Some (bar_of j (suc t))
bar-at j t h =
    let e : 1 + t ≡ suc t = omega arith in
    slice_get-map (bar_of j) (range_with_len 1 (length j.threads - 1)) t ∙ ap (λ o. option_map (bar_of j) o) (slice_get-range 1 (length j.threads - 1) t h ∙ ap Some e)

pub bars-count : (j : JointState) → length (bars_of j) ≡ length j.threads - 1
bars-count j = length-map-range_with_len (bar_of j) 1 (length j.threads - 1)

-- a thread that runs by the bars is a program thread, and runnable
pub runs-known : (j : JointState) (t : ℕ) → runs_at (bars_of j) t ≡ true → (1 ≤ t) × (t < length j.threads) × (is_runnable (bar_of j t) ≡ true)
runs-known j zero h = absurd (false≢true h)
runs-known j (suc t) h = go (slice_get (bars_of j) t) refl
  where
    go : (o : Option Bar) → slice_get (bars_of j) t ≡ o → (1 ≤ suc t) × (suc t < length j.threads) × (is_runnable (bar_of j (suc t)) ≡ true)
    go None e = absurd (false≢true (sym (ap is_runnable_bar e) ∙ h))
    go (Some b) e =
        let within : t < length (bars_of j) = slice_get_within (bars_of j) t b e in
        let inside : t < length j.threads - 1 = omega (arith, within, bars-count j) in
        (omega arith, omega (arith, inside), sym (ap is_runnable_bar (bar-at j t inside)) ∙ h)

-- where no thread in cyclic order runs, none does
all-from_each : (p : Bar → Bool) (bars : List Bar) → ((i : ℕ) (b : Bar) → slice_get bars i ≡ Some b → p b ≡ true) → list_all p bars ≡ true
all-from_each p [] each = refl
all-from_each p (b ∷ bars) each = rw (each 0 b refl) (all-from_each p bars (λ i c at. each (suc i) c at))

none_of_parts : (p : ℕ → Bool) (prefix back : List ℕ) → find p (prefix ++ back) ≡ None → (find p prefix ≡ None) × (find p back ≡ None)
none_of_parts p prefix back h = go (find p prefix) refl
  where
    go : (o : Option ℕ) → find p prefix ≡ o → (find p prefix ≡ None) × (find p back ≡ None)
    go None e = (e, sym (ap (λ o. option_or o (find p back)) e) ∙ sym (find-append p prefix back) ∙ h)
    go (Some t) e = absurd (let s : Some t ≡ None = sym (ap (λ o. option_or o (find p back)) e) ∙ sym (find-append p prefix back) ∙ h in cc)

pub none-runs : (bars : List Bar) (last : ℕ) → last ≤ length bars → next_thread bars last ≡ None → list_all (λ b. not (is_runnable b)) bars ≡ true
none-runs bars last low h = all-from_each (λ b. not (is_runnable b)) bars (λ i b at. ap not (sym (runs_at-bar bars (suc i) b (omega arith) (place i b at)) ∙ idle (suc i) (omega arith) (slice_get_within bars i b at)))
  where
    place : (i : ℕ) (b : Bar) → slice_get bars i ≡ Some b → slice_get bars (suc i - 1) ≡ Some b
    place i b at = let e : i ≡ suc i - 1 = omega arith in ap (slice_get bars) (sym e) ∙ at

    parts : (find (runs_at bars) (range_with_len (last + 1) (length bars - last)) ≡ None) × (find (runs_at bars) (range_with_len 1 last) ≡ None)
    parts = none_of_parts (runs_at bars) (range_with_len (last + 1) (length bars - last)) (range_with_len 1 last) h

    idle : (t : ℕ) → 1 ≤ t → t ≤ length bars → runs_at bars t ≡ false
    idle t program known = ⊎_elim
        (λ (after : last < t).
        let at : last + 1 + (t - last - 1) ≡ t = omega (arith, after) in
        find-none (runs_at bars) (range_with_len (last + 1) (length bars - last)) parts.0 (t - last - 1) t
        (slice_get-range (last + 1) (length bars - last) (t - last - 1) (omega (arith, after, known)) ∙ ap Some at))
        (λ (upto : t ≤ last).
        let at : 1 + (t - 1) ≡ t = omega (arith, program) in
        find-none (runs_at bars) (range_with_len 1 last) parts.1 (t - 1) t (slice_get-range 1 last (t - 1) (omega (arith, program, upto)) ∙ ap Some at))
        (cases_lt last t)

-- what a filter keeps passes
filter-passes : {A : Type 0} (p : A → Bool) (xs : List A) (i : ℕ) (x : A) → slice_get (filter p xs) i ≡ Some x → p x ≡ true
filter-passes p [] i x h = absurd cc
filter-passes p (y ∷ xs) i x h = go (p y) refl h (λ k there. filter-passes p xs k x there) i h
  where
    go : (b : Bool) → p y ≡ b → slice_get (cond (p y) (y ∷ filter p xs) (filter p xs)) i ≡ Some x → ((k : ℕ) → slice_get (filter p xs) k ≡ Some x → p x ≡ true)
        → (k : ℕ) → slice_get (cond (p y) (y ∷ filter p xs) (filter p xs)) k ≡ Some x → p x ≡ true
    go false e at later k there = later k (sym (ap (λ b. slice_get (cond b (y ∷ filter p xs) (filter p xs)) k) e) ∙ there)
    go true e at later k there = kept k (sym (ap (λ b. slice_get (cond b (y ∷ filter p xs) (filter p xs)) k) e) ∙ there)
      where
        kept : (k : ℕ) → slice_get (y ∷ filter p xs) k ≡ Some x → p x ≡ true
        kept zero here = let same : y ≡ x = cc in ap p (sym same) ∙ e
        kept (suc k) there = later k there

-- where it keeps nothing none passes
filter-none : {A : Type 0} (p : A → Bool) (xs : List A) → filter p xs ≡ [] → (i : ℕ) (x : A) → slice_get xs i ≡ Some x → p x ≡ false
filter-none p [] h i x at = absurd cc
filter-none p (y ∷ xs) h i x at = go (p y) refl (λ rest k there. filter-none p xs rest k x there)
  where
    go : (b : Bool) → p y ≡ b → (filter p xs ≡ [] → (k : ℕ) → slice_get xs k ≡ Some x → p x ≡ false) → p x ≡ false
    go true e later = absurd (let s : y ∷ filter p xs ≡ [] = sym (ap (λ b. cond b (y ∷ filter p xs) (filter p xs)) e) ∙ h in cc)
    go false e later = at_place i at
      where
        at_place : (k : ℕ) → slice_get (y ∷ xs) k ≡ Some x → p x ≡ false
        at_place zero here = let same : y ≡ x = cc in ap p (sym same) ∙ e
        at_place (suc k) there = later (sym (ap (λ b. cond b (y ∷ filter p xs) (filter p xs)) e) ∙ h) k there

-- a thread that was chosen runs, whatever the schedule
pub chosen-runs : (schedule : ℕ) (bars : List Bar) (last draw t : ℕ) → chosen_thread schedule bars last draw ≡ Some t → runs_at bars t ≡ true
chosen-runs schedule bars last draw t h = go (schedule == 0) h
  where
    go : (b : Bool) → (if b then next_thread bars last else picked (runnable_threads bars) draw) ≡ Some t → runs_at bars t ≡ true
    go true h = find-passes (runs_at bars) (cyclic (length bars) last) t h
    go false h = filter-passes (runs_at bars) (range_with_len 1 (length bars)) (draw / 2 ^ 33 % length (runnable_threads bars)) t h

-- where no thread is runnable none runs
none-runnable : (bars : List Bar) → runnable_threads bars ≡ [] → list_all (λ b. not (is_runnable b)) bars ≡ true
none-runnable bars h = all-from_each (λ b. not (is_runnable b)) bars (λ i b at. ap not (sym (runs_at-bar bars (suc i) b (omega arith) (place i b at)) ∙ idle i (slice_get_within bars i b at)))
  where
    place : (i : ℕ) (b : Bar) → slice_get bars i ≡ Some b → slice_get bars (suc i - 1) ≡ Some b
    place i b at = let e : i ≡ suc i - 1 = omega arith in ap (slice_get bars) (sym e) ∙ at

    idle : (i : ℕ) → i < length bars → runs_at bars (suc i) ≡ false
    idle i within =
        let e : 1 + i ≡ suc i = omega arith in
        filter-none (runs_at bars) (range_with_len 1 (length bars)) h i (suc i) (slice_get-range 1 (length bars) i within ∙ ap Some e)

-- a number picks one out of some
pub picked-none : (threads : List ℕ) (draw : ℕ) → picked threads draw ≡ None → threads ≡ []
picked-none [] draw h = refl
picked-none (t ∷ threads) draw h =
    let inside : draw / 2 ^ 33 % length (t ∷ threads) < length (t ∷ threads) = mod-lt (draw / 2 ^ 33) (omega arith) in
    let found = slice_get-get_or (t ∷ threads) (draw / 2 ^ 33 % length (t ∷ threads)) t inside in
    absurd (let e : None ≡ Some (get_or (t ∷ threads) (draw / 2 ^ 33 % length (t ∷ threads)) t) = sym h ∙ found in cc)

-- so where the state isn't stuck and a thread hasn't ended, one is chosen
pub some-chosen : (schedule : ℕ) (bars : List Bar) (last draw : ℕ) → last ≤ length bars → is_over bars ≡ false → is_stuck bars ≡ false → chosen_thread schedule bars last draw ≢ None
some-chosen schedule bars last draw low going free h =
    false≢true (sym free ∙ ap (λ b. not b && list_all (λ c. not (is_runnable c)) bars) going ∙ go (schedule == 0) h)
  where
    go : (b : Bool) → (if b then next_thread bars last else picked (runnable_threads bars) draw) ≡ None → list_all (λ c. not (is_runnable c)) bars ≡ true
    go true h = none-runs bars last low h
    go false h = none-runnable bars (picked-none (runnable_threads bars) draw h)
