-- What it tells that bytes were sent.
use Rattle.std.proofs.Common.{ℕ, ◌≤◌, ◌+◌, Bool, true, false, List, [], ◌∷◌, ◌++◌, Option, take, drop, length, length-drop, lit<, refl, ap, sym, subst, ◌∙◌, ◌≡◌, arith}
use Rattle.std.proofs.lemmas.List.{take-append-drop}
use Rattle.std.specs.List.{Contains}
use Rattle.tm_base.specs.Counters.{next_count}
use Rattle.tm_base.specs.declared.ends.End.{End}
use Rattle.tm_base.specs.declared.ends.End.TheVariants.{Done, Stuck, Budget}
use Rattle.tm_outside.specs.Appending.{Appends, AppendsProperPrefix}
use Rattle.tm_outside.specs.Faults.{Rose}
use Rattle.tm_outside.proofs.AppendingLemmas.{Appends-more, AppendsProperPrefix-after, AppendsProperPrefix-more}
use Rattle.tm_mentor.specs.Answers.{Sends, end_status, unless_failed}
use Rattle.tm_mentor.specs.Outside.{Output}

-- a fault that was counted is one that came
pub came : (before now : ℕ) → now ≡ next_count before → Rose before now
came before now counted = omega arith

-- without a fault no write failed
pub steady_sends : (old new : Output) (bytes : List ℕ) (failed : Bool) → Sends failed old new bytes → ¬ Rose old.faults new.faults → failed ≡ false
steady_sends old new bytes true w steady = absurd (steady (came old.faults new.faults w.0))
steady_sends old new bytes false w steady = refl

-- a run has no status of a fault
pub end_is_no_5 : (end : End) → end_status end ≡ 5 → ⊥
end_is_no_5 Done same = omega (arith, same)
end_is_no_5 Stuck same = omega (arith, same)
end_is_no_5 Budget same = omega (arith, same)

-- the status of a run whose text was written
pub run_written : (failed : Bool) (end : End) → failed ≡ false → Contains (0 ∷ 6 ∷ 7 ∷ 9 ∷ []) (unless_failed failed (end_status end))
run_written true end none = let never : true ≡ false = none in absurd cc
run_written false Done none = (0, lit< tt, refl)
run_written false Stuck none = (1, lit< tt, refl)
run_written false Budget none = (2, lit< tt, refl)

pub wrote_written : (failed : Bool) → failed ≡ false → Contains (0 ∷ 9 ∷ []) (unless_failed failed 0)
wrote_written true none = let never : true ≡ false = none in absurd cc
wrote_written false none = (0, lit< tt, refl)

pub illegal_written : (failed : Bool) → failed ≡ false → Contains (8 ∷ 9 ∷ []) (unless_failed failed 8)
illegal_written true none = let never : true ≡ false = none in absurd cc
illegal_written false none = (0, lit< tt, refl)

-- one line more is sent
pub line_more : (first second third : Option (List ℕ)) (text line : List ℕ) (sent n : ℕ) → Appends first second (take sent text) → line ≡ take n (drop sent text) → length line ≡ n → Appends second third line → Appends first third (take (sent + length line) text)
line_more first second third text line sent n before is len more =
    subst (λ k. Appends first third (take (sent + k) text)) (sym len)
    (Appends-more first second third text sent n before (subst (Appends second third) is more))

pub line_within : (text line : List ℕ) (sent n : ℕ) → sent ≤ length text → n ≤ length (drop sent text) → length line ≡ n → sent + length line ≤ length text
line_within text line sent n fits some len = let rest = rw length-drop at some in omega (arith, fits, rest, len)

-- one line fails
pub line_fails : (first second third : Option (List ℕ)) (text line : List ℕ) (sent n : ℕ) → Appends first second (take sent text) → line ≡ take n (drop sent text) → AppendsProperPrefix second third line → AppendsProperPrefix first third text
line_fails first second third text line sent n before is fails =
    let rest = drop sent text in
    let whole : line ++ drop n rest ≡ rest = ap (λ (l : List ℕ). l ++ drop n rest) is ∙ take-append-drop n rest in
    let more : AppendsProperPrefix second third rest =
    subst (AppendsProperPrefix second third) whole (AppendsProperPrefix-more second third line (drop n rest) fails) in
    subst (AppendsProperPrefix first third) (take-append-drop sent text)
    (AppendsProperPrefix-after first second third (take sent text) rest before more)
