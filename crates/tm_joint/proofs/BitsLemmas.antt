-- The first place of a set, and the set of the runnable threads.
use Rattle.std.proofs.Common.{◌≡◌, ◌≢◌, ℕ, zero, suc, ◌+◌, ◌-◌, ◌/◌, ◌%◌, ◌^◌, ◌<◌, ◌≤◌, ◌⊎◌, inl, inr, ⊎_elim, List, length, replicate, Option, Some, None, slice_get, slice_set, refl, ap, sym, ◌∙◌, arith, w64}
use Rattle.std.specs.Int.{bit_at, trailing_zeros}
use Rattle.std.proofs.Math.Nat.{div-div-eq-div-mul}
use Rattle.std.proofs.lemmas.Bool.{cases_eq, cases_lt}
use Rattle.std.proofs.lemmas.Nat.{pow-add}
use Rattle.std.proofs.lemmas.Nat.Bits.{bit_at-trailing_zeros, bit_at-zero, bit_at_above, bit_at_ones, bit_at_ones_above}
use Rattle.tm_base.specs.declared.bars.Bar.{Bar}
use Rattle.tm_base.specs.declared.bars.Bar.TheVariants as bar
use Rattle.tm_laws.specs.Counts.{bit}
use Rattle.tm_replay.specs.Bars.{is_runnable}
use Rattle.tm_replay.specs.Choosing.{is_runnable_bar}
use Rattle.tm_replay.proofs.SliceLemmas.{slice_get-set_same}
use Rattle.tm_joint.specs.Bits.{HasNoPlace, HasRunnable, IsFirstPlace}
use Rattle.tm_joint.proofs.Renewing.{slice_get-set_other}

-- the places from one on, as places of what is left
bit_at-shifted : (set from i : ℕ) → bit_at (set / 2 ^ from) i ≡ bit_at set (from + i)
bit_at-shifted set from i = ap (λ n. n % 2) (div-div-eq-div-mul set (2 ^ from) (2 ^ i) ∙ ap (λ m. set / m) (sym (pow-add 2 from i)))

-- a place from this one on
bit_at-from : (set from i : ℕ) → from ≤ i → bit_at set i ≡ bit_at (set / 2 ^ from) (i - from)
bit_at-from set from i low = let e : from + (i - from) ≡ i = omega (arith, low) in ap (bit_at set) (sym e) ∙ sym (bit_at-shifted set from (i - from))

pub HasNoPlace-end : (set from : ℕ) → from ≡ 64 → HasNoPlace set from
HasNoPlace-end set from all = record { none = λ i low high. absurd (omega (arith, low, high, all)) }

pub HasNoPlace-left : (set from : ℕ) → set / 2 ^ from ≡ 0 → HasNoPlace set from
HasNoPlace-left set from left = record { none = λ i low high. bit_at-from set from i low ∙ ap (λ n. bit_at n (i - from)) left ∙ bit_at-zero (i - from) }

pub IsFirstPlace-left : (set from above : ℕ) → set < 2 ^ 64 → above ≡ set / 2 ^ from → above ≢ 0 → above < 2 ^ 64 → IsFirstPlace set from (from + trailing_zeros w64 above)
IsFirstPlace-left set from above small is some low =
    let t = trailing_zeros w64 above in
    let zeros = bit_at-trailing_zeros w64 above (positive above some) low in
    let here : bit_at set (from + t) ≡ 1 = sym (bit_at-shifted set from t) ∙ ap (λ n. bit_at n t) (sym is) ∙ zeros.1 in
    record {
      from_on = omega arith;
      within = within (from + t) here (cases_lt (from + t) 64);
      here = here;
      before = λ i l h. bit_at-from set from i l ∙ ap (λ n. bit_at n (i - from)) (sym is) ∙ zeros.2 (i - from) (omega (arith, l, h));
    }
  where
    positive : (n : ℕ) → n ≢ 0 → 0 < n
    positive zero ne = absurd (ne refl)
    positive (suc n) ne = omega arith

    within : (p : ℕ) → bit_at set p ≡ 1 → (p < 64) ⊎ (64 ≤ p) → p < 64
    within p here (inl h) = h
    within p here (inr h) = absurd (omega (arith, bit_at_above set 64 p small h, here))

-- a thread's bar is set, and its place with it
pub HasRunnable-set : (bars : List Bar) (set after k : ℕ) (b : Bar) → k < length bars → HasRunnable bars set → bit_at after k ≡ bit (is_runnable b)
    → ((i : ℕ) → i < 64 → i ≢ k → bit_at after i ≡ bit_at set i) → HasRunnable (slice_set bars k b) after
HasRunnable-set bars set after k b within has same others = record {
  places = λ i low. ⊎_elim
      (λ (here : i ≡ k).
      ap (bit_at after) here ∙ same ∙ ap (λ (o : Option Bar). bit (is_runnable_bar o)) (sym (ap (slice_get (slice_set bars k b)) here ∙ slice_get-set_same bars k b within)))
      (λ (away : i ≢ k).
      others i low away ∙ has.places i low ∙ ap (λ (o : Option Bar). bit (is_runnable_bar o)) (sym (slice_get-set_other bars k i b away)))
      (cases_eq i k);
}

-- all threads are runnable at the start
replicate-within : (n i : ℕ) (v : Bar) → i < n → slice_get (replicate n v) i ≡ Some v
replicate-within zero i v h = absurd (omega (arith, h))
replicate-within (suc n) zero v h = refl
replicate-within (suc n) (suc i) v h = replicate-within n i v (omega (arith, h))

replicate-past : (n i : ℕ) (v : Bar) → n ≤ i → slice_get (replicate n v) i ≡ None
replicate-past zero i v h = refl
replicate-past (suc n) zero v h = absurd (omega (arith, h))
replicate-past (suc n) (suc i) v h = replicate-past n i v (omega (arith, h))

pub HasRunnable-start : (n set : ℕ) → set ≡ 2 ^ n - 1 → HasRunnable (replicate n bar.Unborn) set
HasRunnable-start n set is = record {
  places = λ i low. ap (λ m. bit_at m i) is ∙ ⊎_elim
      (λ (within : i < n). bit_at_ones n i within ∙ ap (λ (o : Option Bar). bit (is_runnable_bar o)) (sym (replicate-within n i bar.Unborn within)))
      (λ (past : n ≤ i). bit_at_ones_above n i past ∙ ap (λ (o : Option Bar). bit (is_runnable_bar o)) (sym (replicate-past n i bar.Unborn past)))
      (cases_lt i n);
}
