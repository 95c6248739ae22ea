-- What an answer's status and run tell of the answer.
use Rattle.std.proofs.Common.{◌≤◌, ◌≢◌, Bool, true, false, List, [], ◌∷◌, lit<, refl, ◌≡◌, ◌↔◌, ap, sym, subst, arith}
use Rattle.std.specs.List.{Contains}
use Rattle.std.specs.Option.{IfNone, IfSome, MatchOption}
use Rattle.tm_base.specs.declared.ends.End.{End}
use Rattle.tm_base.specs.declared.ends.End.TheVariants.{Done, Stuck, Budget}
use Rattle.tm_watch.specs.Watchers.{Watch, told_all}
use Rattle.tm_mentor.specs.declared.refusals.Refusal.{Refusal}
use Rattle.tm_mentor.specs.declared.refusals.Refusal.TheVariants.{Usage, Text, NoTrace, ReadFault}
use Rattle.tm_mentor.specs.declared.outcomes.Outcome.{Outcome}
use Rattle.tm_mentor.specs.declared.answers.Answer.{Answer}
use Rattle.tm_mentor.specs.declared.answers.Answer.TheVariants.{Refused, Ran, Wrote, Illegal, NoMemory}
use Rattle.tm_mentor.specs.Refusals.{status_of}
use Rattle.tm_mentor.specs.Answers.{HaveWatched, IsWritten, StatusesNameAnswers, end_status, outcome_of, run_status, statuses, unless_failed}

-- every status is one of these
refused_status_by : (refusal : Refusal) (failed : Bool) → Contains statuses (unless_failed failed (status_of refusal))
refused_status_by refusal true = (4, lit< tt, refl)
refused_status_by Usage false = (1, lit< tt, refl)
refused_status_by (Text fault) false = (2, lit< tt, refl)
refused_status_by (NoTrace line) false = (2, lit< tt, refl)
refused_status_by ReadFault false = (3, lit< tt, refl)

run_status_by : (failed : Bool) (end : End) → Contains statuses (unless_failed failed (end_status end))
run_status_by false Done = (0, lit< tt, refl)
run_status_by false Stuck = (5, lit< tt, refl)
run_status_by false Budget = (6, lit< tt, refl)
run_status_by true Done = (4, lit< tt, refl)
run_status_by true Stuck = (4, lit< tt, refl)
run_status_by true Budget = (4, lit< tt, refl)

pub status_by : (a : Answer) → Contains statuses (outcome_of a).status
status_by (Refused refusal failed) = refused_status_by refusal failed
status_by (Ran f) = run_status_by f.write_fault f.end
status_by (Wrote false) = (0, lit< tt, refl)
status_by (Wrote true) = (4, lit< tt, refl)
status_by (Illegal false) = (7, lit< tt, refl)
status_by (Illegal true) = (4, lit< tt, refl)
status_by NoMemory = (8, lit< tt, refl)

-- without a run the status is one of these, and with one it is the run's
refused_ended : (refusal : Refusal) (failed : Bool) → Contains (0 ∷ 2 ∷ 3 ∷ 4 ∷ 5 ∷ 8 ∷ 9 ∷ []) (unless_failed failed (status_of refusal))
refused_ended refusal true = (4, lit< tt, refl)
refused_ended Usage false = (1, lit< tt, refl)
refused_ended (Text fault) false = (2, lit< tt, refl)
refused_ended (NoTrace line) false = (2, lit< tt, refl)
refused_ended ReadFault false = (3, lit< tt, refl)

abbrev pub IsEnded : Outcome → Type 0
IsEnded o = MatchOption o.finished (Contains (0 ∷ 2 ∷ 3 ∷ 4 ∷ 5 ∷ 8 ∷ 9 ∷ []) o.status) (λ f. o.status ≡ run_status f)

pub ended_by : (a : Answer) → IsEnded (outcome_of a)
ended_by (Refused refusal failed) = refused_ended refusal failed
ended_by (Ran f) = refl
ended_by (Wrote false) = (0, lit< tt, refl)
ended_by (Wrote true) = (4, lit< tt, refl)
ended_by (Illegal false) = (5, lit< tt, refl)
ended_by (Illegal true) = (4, lit< tt, refl)
ended_by NoMemory = (6, lit< tt, refl)

-- the status of a run tells how it ended, where no write failed
end_told : (failed : Bool) (ended end : End) → unless_failed failed (end_status ended) ≡ end_status end → (failed ≡ false) × (ended ≡ end)
end_told false Done Done same = (refl, refl)
end_told false Done Stuck same = absurd (omega arith)
end_told false Done Budget same = absurd (omega arith)
end_told false Stuck Done same = absurd (omega arith)
end_told false Stuck Stuck same = (refl, refl)
end_told false Stuck Budget same = absurd (omega arith)
end_told false Budget Done same = absurd (omega arith)
end_told false Budget Stuck same = absurd (omega arith)
end_told false Budget Budget same = (refl, refl)
end_told true Done Done same = absurd (omega arith)
end_told true Done Stuck same = absurd (omega arith)
end_told true Done Budget same = absurd (omega arith)
end_told true Stuck Done same = absurd (omega arith)
end_told true Stuck Stuck same = absurd (omega arith)
end_told true Stuck Budget same = absurd (omega arith)
end_told true Budget Done same = absurd (omega arith)
end_told true Budget Stuck same = absurd (omega arith)
end_told true Budget Budget same = absurd (omega arith)

told_end : (failed : Bool) (ended end : End) → (failed ≡ false) × (ended ≡ end) → unless_failed failed (end_status ended) ≡ end_status end
told_end false ended end w = ap end_status w.1
told_end true ended end w = let never : true ≡ false = w.0 in cc

abbrev pub TellsEnd : Outcome → Type 0
TellsEnd o = IfSome o.finished (λ f. (end : End) → (o.status ≡ end_status end) ↔ IsWritten end f)

pub written_by : (a : Answer) → TellsEnd (outcome_of a)
written_by (Refused refusal failed) = tt
written_by (Ran f) = λ end. (end_told f.write_fault f.end end, told_end f.write_fault f.end end)
written_by (Wrote failed) = tt
written_by (Illegal failed) = tt
written_by NoMemory = tt

-- a run has no status of a refusal, and not that of want of memory
pub run_is_no_refusal : (failed : Bool) (end : End) → 2 ≤ unless_failed failed (end_status end) → unless_failed failed (end_status end) ≤ 4 → ⊥
run_is_no_refusal false Done least most = omega (arith, least, most)
run_is_no_refusal false Stuck least most = omega (arith, least, most)
run_is_no_refusal false Budget least most = omega (arith, least, most)
run_is_no_refusal true Done least most = omega (arith, least, most)
run_is_no_refusal true Stuck least most = omega (arith, least, most)
run_is_no_refusal true Budget least most = omega (arith, least, most)

run_is_no_9 : (failed : Bool) (end : End) → unless_failed failed (end_status end) ≡ 9 → ⊥
run_is_no_9 false Done same = omega (arith, same)
run_is_no_9 false Stuck same = omega (arith, same)
run_is_no_9 false Budget same = omega (arith, same)
run_is_no_9 true Done same = omega (arith, same)
run_is_no_9 true Stuck same = omega (arith, same)
run_is_no_9 true Budget same = omega (arith, same)

-- nor has what was only written
pub wrote_is_no_refusal : (failed : Bool) → 2 ≤ unless_failed failed 0 → unless_failed failed 0 ≤ 4 → ⊥
wrote_is_no_refusal false least most = omega (arith, least)
wrote_is_no_refusal true least most = omega (arith, most)

wrote_is_no_8 : (failed : Bool) → unless_failed failed 0 ≡ 8 → ⊥
wrote_is_no_8 false same = omega (arith, same)
wrote_is_no_8 true same = omega (arith, same)

wrote_is_no_9 : (failed : Bool) → unless_failed failed 0 ≡ 9 → ⊥
wrote_is_no_9 false same = omega (arith, same)
wrote_is_no_9 true same = omega (arith, same)

-- a refusal has the status 0 or 9 in no case, and a status of its own
pub refused_is_no_0 : (refusal : Refusal) (failed : Bool) → unless_failed failed (status_of refusal) ≡ 0 → ⊥
refused_is_no_0 refusal true same = omega (arith, same)
refused_is_no_0 Usage false same = omega (arith, same)
refused_is_no_0 (Text fault) false same = omega (arith, same)
refused_is_no_0 (NoTrace line) false same = omega (arith, same)
refused_is_no_0 ReadFault false same = omega (arith, same)

refused_is_no_9 : (refusal : Refusal) (failed : Bool) → unless_failed failed (status_of refusal) ≡ 9 → ⊥
refused_is_no_9 refusal true same = omega (arith, same)
refused_is_no_9 Usage false same = omega (arith, same)
refused_is_no_9 (Text fault) false same = omega (arith, same)
refused_is_no_9 (NoTrace line) false same = omega (arith, same)
refused_is_no_9 ReadFault false same = omega (arith, same)

refused_is_no_8 : (refusal : Refusal) (failed : Bool) → unless_failed failed (status_of refusal) ≡ 8 → ⊥
refused_is_no_8 refusal true same = omega (arith, same)
refused_is_no_8 Usage false same = omega (arith, same)
refused_is_no_8 (Text fault) false same = omega (arith, same)
refused_is_no_8 (NoTrace line) false same = omega (arith, same)
refused_is_no_8 ReadFault false same = omega (arith, same)

run_is_no_8 : (failed : Bool) (end : End) → unless_failed failed (end_status end) ≡ 8 → ⊥
run_is_no_8 true end same = omega (arith, same)
run_is_no_8 false Done same = omega (arith, same)
run_is_no_8 false Stuck same = omega (arith, same)
run_is_no_8 false Budget same = omega (arith, same)

-- nor has what was judged illegal
pub illegal_is_no_refusal : (failed : Bool) → unless_failed failed 8 ≤ 4 → ⊥
illegal_is_no_refusal false most = omega (arith, most)
illegal_is_no_refusal true most = omega (arith, most)

illegal_is_no_9 : (failed : Bool) → unless_failed failed 8 ≡ 9 → ⊥
illegal_is_no_9 false same = omega (arith, same)
illegal_is_no_9 true same = omega (arith, same)

pub illegal_is_no_0 : (failed : Bool) → unless_failed failed 8 ≡ 0 → ⊥
illegal_is_no_0 false same = omega (arith, same)
illegal_is_no_0 true same = omega (arith, same)

-- so these statuses name the answer
refused_by : (a : Answer) → 2 ≤ (outcome_of a).status → (outcome_of a).status ≤ 4 → (refusal : Refusal) × ((outcome_of a).status ≡ status_of refusal) × (a ≡ Refused refusal false)
refused_by (Refused refusal false) least most = (refusal, refl, refl)
refused_by (Refused refusal true) least most = absurd (omega (arith, most))
refused_by (Ran f) least most = absurd (run_is_no_refusal f.write_fault f.end least most)
refused_by (Wrote failed) least most = absurd (wrote_is_no_refusal failed least most)
refused_by (Illegal failed) least most = absurd (illegal_is_no_refusal failed most)
refused_by NoMemory least most = absurd (omega (arith, most))

illegal_by : (a : Answer) → (outcome_of a).status ≡ 8 → a ≡ Illegal false
illegal_by (Refused refusal failed) same = absurd (refused_is_no_8 refusal failed same)
illegal_by (Ran f) same = absurd (run_is_no_8 f.write_fault f.end same)
illegal_by (Wrote failed) same = absurd (wrote_is_no_8 failed same)
illegal_by (Illegal false) same = refl
illegal_by (Illegal true) same = absurd (omega (arith, same))
illegal_by NoMemory same = absurd (omega (arith, same))

no_memory_by : (a : Answer) → (outcome_of a).status ≡ 9 → a ≡ NoMemory
no_memory_by (Refused refusal failed) same = absurd (refused_is_no_9 refusal failed same)
no_memory_by (Ran f) same = absurd (run_is_no_9 f.write_fault f.end same)
no_memory_by (Wrote failed) same = absurd (wrote_is_no_9 failed same)
no_memory_by (Illegal failed) same = absurd (illegal_is_no_9 failed same)
no_memory_by NoMemory same = refl

pub statuses_name : StatusesNameAnswers
statuses_name = record { refused = refused_by; illegal = illegal_by; no_memory = no_memory_by }

-- what watchers were told, by the answer
pub watched_by : (ws us : List Watch) (a : Answer) (o : Outcome) → o ≡ outcome_of a → HaveWatched ws a us → IfSome o.finished (λ f. us ≡ told_all ws f.shown)
watched_by ws us a o same h = subst (λ (p : Outcome). IfSome p.finished (λ f. us ≡ told_all ws f.shown)) (sym same) (go a h)
  where
    go : (b : Answer) → HaveWatched ws b us → IfSome (outcome_of b).finished (λ f. us ≡ told_all ws f.shown)
    go (Refused refusal failed) h = tt
    go (Ran f) h = h
    go (Wrote failed) h = tt
    go (Illegal failed) h = tt
    go NoMemory h = tt

pub untold_by : (ws us : List Watch) (a : Answer) (o : Outcome) → o ≡ outcome_of a → HaveWatched ws a us → IfNone o.finished (o.status ≢ 9 → us ≡ ws)
untold_by ws us a o same h = subst (λ (p : Outcome). IfNone p.finished (p.status ≢ 9 → us ≡ ws)) (sym same) (go a h)
  where
    go : (b : Answer) → HaveWatched ws b us → IfNone (outcome_of b).finished ((outcome_of b).status ≢ 9 → us ≡ ws)
    go (Refused refusal failed) h = λ other. h
    go (Ran f) h = tt
    go (Wrote failed) h = λ other. h
    go (Illegal failed) h = λ other. h
    go NoMemory h = λ other. absurd (other refl)
