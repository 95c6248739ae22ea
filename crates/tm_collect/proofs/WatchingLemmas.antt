-- What watchers are told, event by event.
use Rattle.std.proofs.Common.{◌≡◌, ℕ, zero, suc, ◌+◌, ◌≤◌, List, [], ◌∷◌, ◌++◌, take, drop, slice_get, Some, refl, sym, ap, ◌∙◌, arith}
use Rattle.tm_base.specs.declared.events.Entry.{Entry}
use Rattle.tm_watch.specs.Watchers.{Watch, told, told_all}
use Rattle.tm_collect.specs.Watching.{newly}

pub newly-none : (es : List Entry) (n : ℕ) → newly es n n ≡ []
newly-none [] zero = refl
newly-none [] (suc n) = refl
newly-none (e ∷ es) zero = refl
newly-none (e ∷ es) (suc n) = newly-none es n

pub newly-one : (es : List Entry) (n : ℕ) (e : Entry) → slice_get es n ≡ Some e → newly es n (n + 1) ≡ e ∷ []
newly-one [] n e at = absurd cc
newly-one (a ∷ es) zero e at = let same : a ≡ e = cc in ap (λ b. b ∷ []) same
newly-one (a ∷ es) (suc n) e at =
    let one : suc n + 1 ≡ suc (n + 1) = omega arith in
    ap (λ k. drop (suc n) (take k (a ∷ es))) one ∙ newly-one es n e at

-- from one number of events to another, and on to a third
pub newly-join : (es : List Entry) (a b c : ℕ) → a ≤ b → b ≤ c → newly es a c ≡ newly es a b ++ newly es b c
newly-join [] zero zero c low high = refl
newly-join [] zero (suc b) zero low high = refl
newly-join [] zero (suc b) (suc c) low high = refl
newly-join [] (suc a) zero c low high = absurd (omega (arith, low))
newly-join [] (suc a) (suc b) zero low high = refl
newly-join [] (suc a) (suc b) (suc c) low high = refl
newly-join (e ∷ es) zero zero c low high = refl
newly-join (e ∷ es) zero (suc b) zero low high = absurd (omega (arith, high))
newly-join (e ∷ es) zero (suc b) (suc c) low high = ap (λ l. e ∷ l) (newly-join es zero b c (omega arith) (omega (arith, high)))
newly-join (e ∷ es) (suc a) zero c low high = absurd (omega (arith, low))
newly-join (e ∷ es) (suc a) (suc b) zero low high = absurd (omega (arith, high))
newly-join (e ∷ es) (suc a) (suc b) (suc c) low high = newly-join es a b c (omega (arith, low)) (omega (arith, high))

pub told-join : (ws : List Watch) (es fs : List Entry) → told_all ws (es ++ fs) ≡ told_all (told_all ws es) fs
told-join ws [] fs = refl
told-join ws (e ∷ es) fs = told-join (told ws e) es fs

-- watchers that were told of these events, and then of the next
pub told-more : (ws us vs : List Watch) (es : List Entry) (a b c : ℕ) → a ≤ b → b ≤ c → us ≡ told_all ws (newly es a b) → vs ≡ told_all us (newly es b c) → vs ≡ told_all ws (newly es a c)
told-more ws us vs es a b c low high before later =
    later ∙ ap (λ (l : List Watch). told_all l (newly es b c)) before ∙ sym (told-join ws (newly es a b) (newly es b c)) ∙ ap (told_all ws) (sym (newly-join es a b c low high))

pub told-none : (ws : List Watch) (es : List Entry) (n m : ℕ) → m ≡ n → ws ≡ told_all ws (newly es n m)
told-none ws es n m same = ap (told_all ws) (sym (ap (newly es n) same ∙ newly-none es n))

pub told-one : (ws us : List Watch) (es : List Entry) (n m : ℕ) (e : Entry) → slice_get es n ≡ Some e → m ≡ n + 1 → us ≡ told ws e → us ≡ told_all ws (newly es n m)
told-one ws us es n m e at next tells = tells ∙ ap (told_all ws) (sym (ap (newly es n) next ∙ newly-one es n e at))
