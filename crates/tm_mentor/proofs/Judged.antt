-- What the first bytes of a source say of all that it has.
use Rattle.std.proofs.Common.{◌≡◌, ℕ, ◌<◌, ◌≤◌, ◌+◌, suc, Bool, true, false, List, [], ◌∷◌, length, take, Option, None, Some, if◌then◌else◌, sym, ◌∙◌, subst, arith, ◌==◌, ◌⊎◌, inl, inr}
use Rattle.std.specs.Option.{IfSome}
use Rattle.std.specs.Prelude.{IfErr, Result, Ok, Err, nat_lt}
use Rattle.std.proofs.lemmas.List.{take_all, length-take-le}
use Rattle.std.proofs.lemmas.Bool.{cases_lt, cond-true, lt-ltb}
use Rattle.tm_base.specs.declared.events.Entry.{Entry}
use Rattle.tm_outside.specs.Taking.{TakesFirst}
use Rattle.tm_lines.specs.declared.limits.TheConstants.{MOST_BYTES}
use Rattle.tm_lines.specs.declared.faults.FaultyLine.{FaultyLine}
use Rattle.tm_lines.specs.declared.faults.Fault.{Fault}
use Rattle.tm_lines.specs.declared.faults.Fault.TheVariants as fault
use Rattle.tm_lines.specs.Lines.{lines_of, put_first}
use Rattle.tm_lines.specs.TextFaults.{first_fault}
use Rattle.tm_text.specs.declared.text_faults.TextFault.{TextFault as Why}
use Rattle.tm_text.specs.declared.text_faults.TextFault.TheVariants as why
use Rattle.tm_text.specs.Exercises.{ExerciseView}
use Rattle.tm_text.specs.Readings.{Refuses}
use Rattle.tm_text.specs.Texts.{IsExercise}
use Rattle.tm_trace_texts.specs.declared.limits.TheConstants.{MOST_TRACE_BYTES}
use Rattle.tm_trace_texts.specs.declared.trace_faults.TraceFault.{TraceFault}
use Rattle.tm_trace_texts.specs.declared.trace_faults.TraceFault.TheVariants as refusal
use Rattle.tm_trace_texts.specs.TraceFaults.{IsRefusal, trace_fault}
use Rattle.tm_trace_texts.specs.TraceTexts.{IsTraceText}

-- Bytes that were read are all that there were, or both are too long. So what holds of those that were read holds of
-- all, if it holds of all texts that are too long where it holds of one.
by_size : (most : ℕ) (P : List ℕ → Type 0) (old bytes : List ℕ) → ((long more : List ℕ) → most < length long → most < length more → P long → P more) → bytes ≡ take (most + 1) old → P bytes → P old
by_size most P old bytes spread first told = go (cases_lt (length old) (most + 1))
  where
    go : (length old < most + 1) ⊎ (most + 1 ≤ length old) → P old
    go (inl fits) = subst P (first ∙ take_all (most + 1) old (omega arith)) told
    go (inr more) = spread bytes old (rw first (omega (arith, length-take-le (most + 1) old more))) (omega (arith, more)) told

pub holds_of_all : (most : ℕ) (P : List ℕ → Type 0) (old new : Option (List ℕ)) (bytes : List ℕ) → ((long more : List ℕ) → most < length long → most < length more → P long → P more) → TakesFirst (most + 1) old new bytes → P bytes → IfSome old P
holds_of_all most P None new bytes spread taken told = tt
holds_of_all most P (Some old) None bytes spread taken told = absurd taken
holds_of_all most P (Some old) (Some new) bytes spread taken told = by_size most P old bytes spread taken.0 told

-- a text of an exercise that is too long has the fault of its size, and one without a fault isn't
too_long : (bytes : List ℕ) → MOST_BYTES < length bytes → first_fault bytes ≡ Some (record { line = 0; kind = fault.Size })
too_long bytes long = cond-true (nat_lt MOST_BYTES (length bytes)) _ _ (lt-ltb MOST_BYTES (length bytes) long)

pub not_too_long : (bytes : List ℕ) → first_fault bytes ≡ None → length bytes ≤ MOST_BYTES
not_too_long bytes none = go (cases_lt MOST_BYTES (length bytes))
  where
    go : (MOST_BYTES < length bytes) ⊎ (length bytes ≤ MOST_BYTES) → length bytes ≤ MOST_BYTES
    go (inl long) = absurd (let e = sym none ∙ too_long bytes long in cc)
    go (inr fits) = fits

pub fault_spreads : (faulty : FaultyLine) (long more : List ℕ) → MOST_BYTES < length long → MOST_BYTES < length more → first_fault long ≡ Some faulty → first_fault more ≡ Some faulty
fault_spreads faulty long more l m told = too_long more m ∙ (sym (too_long long l) ∙ told)

pub exercise_is_short : (x : ExerciseView) (long more : List ℕ) → MOST_BYTES < length long → MOST_BYTES < length more → IsExercise long x → IsExercise more x
exercise_is_short x long more l m text = absurd (let short = not_too_long long text.faultless in omega (arith, l, short))

-- and so has a text of a trace
trace_too_long : (bytes : List ℕ) → MOST_TRACE_BYTES < length bytes → trace_fault bytes ≡ Some (record { line = 0; kind = fault.Size })
trace_too_long bytes long = cond-true (nat_lt MOST_TRACE_BYTES (length bytes)) _ _ (lt-ltb MOST_TRACE_BYTES (length bytes) long)

pub refusal_spreads : (reason : TraceFault) (long more : List ℕ) → MOST_TRACE_BYTES < length long → MOST_TRACE_BYTES < length more → IsRefusal long reason → IsRefusal more reason
refusal_spreads (refusal.Line line kind) long more l m told = trace_too_long more m ∙ (sym (trace_too_long long l) ∙ told)
refusal_spreads (refusal.NoTraceLine lines) long more l m told = absurd (let short = told.short in omega (arith, short, l))
refusal_spreads refusal.NoMemory long more l m told = tt

pub trace_is_short : (x : ExerciseView) (es : List Entry) (long more : List ℕ) → MOST_TRACE_BYTES < length long → MOST_TRACE_BYTES < length more → IsTraceText long x es → IsTraceText more x es
trace_is_short x es long more l m text = absurd (let short = text.short in omega (arith, l, short))

-- a line that is named is the first faulty one
pub refuses-line : {X : Type 0} (r : Result X Why) (found : Option FaultyLine) (line : ℕ) (kind : Fault) → IfErr r (λ why. Refuses why found) → r ≡ Err (why.Line line kind) → found ≡ Some (record { line = line; kind = kind })
refuses-line (Ok x) found line kind h e = absurd cc
refuses-line (Err (why.Line l k)) found line kind h e = let same : l ≡ line = cc in let also : k ≡ kind = cc in cc
refuses-line (Err why.NoMemory) found line kind h e = absurd cc

-- there are no more lines than bytes
put_few : (b : ℕ) (ls : List (List ℕ)) (n : ℕ) → length ls ≤ n → length (put_first b ls) ≤ suc n
put_few b [] n few = omega arith
put_few b (l ∷ ls) n few = omega (arith, few)

by_end : (ends : Bool) (b : ℕ) (bs : List ℕ) → length (lines_of bs) ≤ length bs → length (if ends then [] ∷ lines_of bs else put_first b (lines_of bs)) ≤ suc (length bs)
by_end true b bs few = omega (arith, few)
by_end false b bs few = put_few b (lines_of bs) (length bs) few

pub few_lines : (bs : List ℕ) → length (lines_of bs) ≤ length bs
few_lines [] = omega arith
few_lines (b ∷ bs) = by_end (b == 10) b bs (few_lines bs)
