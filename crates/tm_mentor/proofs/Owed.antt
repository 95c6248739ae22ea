-- What each answer's status tells of what happened, and what each kind of answer owes for that.
use Rattle.std.proofs.Common.{ℕ, ◌<◌, ◌≢◌, Bool, true, false, List, [], ◌∷◌, Option, Some, None, lit<, refl, String, ◌≡◌, ◌⊎◌, ap, sym, arith}
use Rattle.std.specs.List.{Contains}
use Rattle.std.specs.Option.{IfNone, IfSome, IsSomeAnd}
use Rattle.std.specs.declared.alloc.Global.{Global}
use Rattle.tm_base.specs.declared.ends.End.{End}
use Rattle.tm_base.specs.declared.ends.End.TheVariants.{Done, Stuck, Budget}
use Rattle.tm_base.specs.declared.rules.Rules.{Rules}
use Rattle.tm_base.specs.Counters.{next_count}
use Rattle.tm_outside.specs.Faults.{Rose}
use Rattle.tm_makers.specs.declared.plans.Plan.{Plan}
use Rattle.tm_words.specs.declared.commands.Command.TheVariants.{Check, Make, Run}
use Rattle.tm_words.specs.Commands.{Spells, SpellsNothing}
use Rattle.tm_session.specs.declared.runs.Finished.{Finished}
use Rattle.tm_mentor.specs.declared.refusals.Refusal.{Refusal}
use Rattle.tm_mentor.specs.declared.refusals.Refusal.TheVariants.{Usage, Text, NoTrace, ReadFault}
use Rattle.tm_mentor.specs.declared.answers.Answer.{Answer}
use Rattle.tm_mentor.specs.declared.answers.Answer.TheVariants.{Refused, Ran, Wrote, Illegal, NoMemory}
use Rattle.tm_mentor.specs.declared.outcomes.Outcome.{Outcome}
use Rattle.tm_mentor.specs.Answers.{Sends, end_status, outcome_of, unless_failed}
use Rattle.tm_mentor.specs.CheckCommand.{IsNoTrace}
use Rattle.tm_mentor.specs.Outside.{Exchange, Input, ReadsNothing}
use Rattle.tm_mentor.specs.Refusals.{line_of, status_of}
use Rattle.tm_mentor.specs.RunCommand.{IsNoExercise}
use Rattle.tm_mentor.specs.Sources.{RefusesText}
use Rattle.tm_mentor.proofs.Sent.{came, end_is_no_5}
use Rattle.tm_mentor.proofs.Statuses.{illegal_is_no_0, illegal_is_no_refusal, refused_is_no_0, run_is_no_refusal, wrote_is_no_refusal}

-- what is told of all that a source has
pub if_told : (P Q : List ℕ → Type 0) (left : Option (List ℕ)) → ((bytes : List ℕ) → P bytes → Q bytes) → IfSome left P → IfSome left Q
if_told P Q None more given = tt
if_told P Q (Some bytes) more given = more bytes given

pub both_told : {R : Type 0} (P Q : List ℕ → Type 0) (left : Option (List ℕ)) → ((bytes : List ℕ) → P bytes → Q bytes → R) → IfSome left P → IsSomeAnd left Q → R
both_told P Q None meet given told = absurd told
both_told P Q (Some bytes) meet given told = meet bytes given told

-- a fault of the source shows as 4, and one of the sink as 5, and both statuses show one
pub record Shows (o : Exchange) (status : ℕ) : Type 0 where
  pub read_fault : status ≡ 4 → o.source_after.faults ≡ next_count o.source_before.faults
  pub write_fault : status ≡ 5 → o.sink_after.faults ≡ next_count o.sink_before.faults
  pub read_shows : o.source_before.faults < o.source_after.faults → Contains (4 ∷ 5 ∷ []) status
  pub write_shows : o.sink_before.faults < o.sink_after.faults → Contains (5 ∷ 9 ∷ []) status

-- the status 3 is that of a text of no exercise, or of no trace
abbrev pub IsOfNone : List (String Global) → Exchange → Type 0
IsOfNone words o =
    (((rules : Rules) × Spells words (Run rules)) × IfSome o.source_before.left IsNoExercise)
    ⊎ (Spells words Check × IfSome o.source_before.left IsNoTrace)

-- without a run only what is made, or a trace that is legal, has the status 0
abbrev pub MakesOrChecks : List (String Global) → Type 0
MakesOrChecks words = ((plan : Plan) × Spells words (Make plan)) ⊎ Spells words Check

-- all that a status tells, whatever the words spell
pub record Owes (words : List (String Global)) (o : Exchange) (outcome : Outcome) : Type 0 where
  pub shows : Shows o outcome.status
  pub usage : outcome.status ≡ 2 → SpellsNothing words
  pub text : outcome.status ≡ 3 → IsOfNone words o
  pub made : IfNone outcome.finished (outcome.status ≡ 0 → MakesOrChecks words)

-- no read failed
abbrev pub IsSteady : Exchange → Type 0
IsSteady o = o.source_after.faults ≡ o.source_before.faults

pub unread_steady : (o : Exchange) → ReadsNothing o → IsSteady o
unread_steady o same = ap (λ (i : Input). i.faults) same

never_rises : (o : Exchange) → IsSteady o → o.source_before.faults < o.source_after.faults → ⊥
never_rises o steady rises = omega (arith, steady, rises)

-- bytes were sent, with this status where no write failed
sent_shows : (o : Exchange) (failed : Bool) (status : ℕ) (bytes : List ℕ) → Sends failed o.sink_before o.sink_after bytes → status ≢ 5 → (status ≡ 4 → o.source_after.faults ≡ next_count o.source_before.faults) → (o.source_before.faults < o.source_after.faults → status ≡ 4) → Shows o (unless_failed failed status)
sent_shows o true status bytes sent other fault only = record {
  read_fault = λ same. absurd (omega (arith, same));
  write_fault = λ same. sent.0;
  read_shows = λ rises. (1, lit< tt, refl);
  write_shows = λ rises. (0, lit< tt, refl);
}
sent_shows o false status bytes sent other fault only = record {
  read_fault = fault;
  write_fault = λ same. absurd (other same);
  read_shows = λ rises. (0, lit< tt, sym (only rises));
  write_shows = λ rises. absurd (omega (arith, sent.0, rises));
}

steady_shows : (o : Exchange) (failed : Bool) (status : ℕ) (bytes : List ℕ) → IsSteady o → Sends failed o.sink_before o.sink_after bytes → status ≢ 5 → status ≢ 4 → Shows o (unless_failed failed status)
steady_shows o failed status bytes steady sent no_5 no_4 =
    sent_shows o failed status bytes sent no_5 (λ same. absurd (no_4 same)) (λ rises. absurd (never_rises o steady rises))

end_is_no_4 : (end : End) → end_status end ≢ 4
end_is_no_4 Done same = omega (arith, same)
end_is_no_4 Stuck same = omega (arith, same)
end_is_no_4 Budget same = omega (arith, same)

-- memory ran out
pub short_owes : (words : List (String Global)) (o : Exchange) → IsSteady o → Owes words o (outcome_of NoMemory)
short_owes words o steady = record {
  shows = record {
    read_fault = λ same. absurd (omega (arith, same));
    write_fault = λ same. absurd (omega (arith, same));
    read_shows = λ rises. absurd (never_rises o steady rises);
    write_shows = λ rises. (1, lit< tt, refl);
  };
  usage = λ same. absurd (omega (arith, same));
  text = λ same. absurd (omega (arith, same));
  made = λ same. absurd (omega (arith, same));
}

-- a run ended
pub ran_owes : (words : List (String Global)) (o : Exchange) (f : Finished) (bytes : List ℕ) → IsSteady o → Sends f.write_fault o.sink_before o.sink_after bytes → Owes words o (outcome_of (Ran f))
ran_owes words o f bytes steady sent = record {
  shows = steady_shows o f.write_fault (end_status f.end) bytes steady sent (end_is_no_5 f.end) (end_is_no_4 f.end);
  usage = λ same. absurd (run_is_no_refusal f.write_fault f.end (omega (arith, same)) (omega (arith, same)));
  text = λ same. absurd (run_is_no_refusal f.write_fault f.end (omega (arith, same)) (omega (arith, same)));
  made = tt;
}

-- what was made, or the rows of a trace, were written
pub wrote_owes : (words : List (String Global)) (o : Exchange) (failed : Bool) (bytes : List ℕ) → IsSteady o → Sends failed o.sink_before o.sink_after bytes → MakesOrChecks words → Owes words o (outcome_of (Wrote failed))
wrote_owes words o failed bytes steady sent made = record {
  shows = steady_shows o failed 0 bytes steady sent (λ same. omega (arith, same)) (λ same. omega (arith, same));
  usage = λ same. absurd (wrote_is_no_refusal failed (omega (arith, same)) (omega (arith, same)));
  text = λ same. absurd (wrote_is_no_refusal failed (omega (arith, same)) (omega (arith, same)));
  made = λ same. made;
}

-- a trace was judged illegal
pub illegal_owes : (words : List (String Global)) (o : Exchange) (failed : Bool) (bytes : List ℕ) → IsSteady o → Sends failed o.sink_before o.sink_after bytes → Owes words o (outcome_of (Illegal failed))
illegal_owes words o failed bytes steady sent = record {
  shows = steady_shows o failed 8 bytes steady sent (λ same. omega (arith, same)) (λ same. omega (arith, same));
  usage = λ same. absurd (illegal_is_no_refusal failed (omega (arith, same)));
  text = λ same. absurd (illegal_is_no_refusal failed (omega (arith, same)));
  made = λ same. absurd (illegal_is_no_0 failed same);
}

-- nothing was done
refusal_is_no_5 : (refusal : Refusal) → status_of refusal ≢ 5
refusal_is_no_5 Usage same = omega (arith, same)
refusal_is_no_5 (Text fault) same = omega (arith, same)
refusal_is_no_5 (NoTrace line) same = omega (arith, same)
refusal_is_no_5 ReadFault same = omega (arith, same)

unfailed : (failed : Bool) (status other : ℕ) → other ≢ 5 → unless_failed failed status ≡ other → status ≡ other
unfailed true status other no_5 same = absurd (no_5 (sym same))
unfailed false status other no_5 same = same

refused_owes : (words : List (String Global)) (o : Exchange) (refusal : Refusal) (failed : Bool) → Shows o (unless_failed failed (status_of refusal)) → (status_of refusal ≡ 2 → SpellsNothing words) → (status_of refusal ≡ 3 → IsOfNone words o) → Owes words o (outcome_of (Refused refusal failed))
refused_owes words o refusal failed shows usage text = record {
  shows = shows;
  usage = λ same. usage (unfailed failed (status_of refusal) 2 (λ two. omega (arith, two)) same);
  text = λ same. text (unfailed failed (status_of refusal) 3 (λ three. omega (arith, three)) same);
  made = λ same. absurd (refused_is_no_0 refusal failed same);
}

pub usage_owes : (words : List (String Global)) (o : Exchange) (failed : Bool) → IsSteady o → Sends failed o.sink_before o.sink_after (line_of Usage) → SpellsNothing words → Owes words o (outcome_of (Refused Usage failed))
usage_owes words o failed steady sent none =
    refused_owes words o Usage failed
    (steady_shows o failed 2 (line_of Usage) steady sent (λ same. omega (arith, same)) (λ same. omega (arith, same)))
    (λ same. none) (λ same. absurd (omega (arith, same)))

read_fault_owes : (words : List (String Global)) (o : Exchange) (failed : Bool) → o.source_after.faults ≡ next_count o.source_before.faults → Sends failed o.sink_before o.sink_after (line_of ReadFault) → Owes words o (outcome_of (Refused ReadFault failed))
read_fault_owes words o failed counted sent =
    refused_owes words o ReadFault failed
    (sent_shows o failed 4 (line_of ReadFault) sent (λ same. omega (arith, same)) (λ same. counted) (λ rises. refl))
    (λ same. absurd (omega (arith, same))) (λ same. absurd (omega (arith, same)))

-- what the refusal of a text tells, where it is of this one
pub record IsTold (words : List (String Global)) (o : Exchange) (refusal : Refusal) : Type 0 where
  pub status : status_of refusal ≡ 3
  pub steady : IsSteady o
  pub none : IsOfNone words o

text_owes : (words : List (String Global)) (o : Exchange) (refusal : Refusal) (failed : Bool) → Sends failed o.sink_before o.sink_after (line_of refusal) → IsTold words o refusal → Owes words o (outcome_of (Refused refusal failed))
text_owes words o refusal failed sent told =
    refused_owes words o refusal failed
    (steady_shows o failed (status_of refusal) (line_of refusal) told.steady sent (refusal_is_no_5 refusal) (λ same. let three = told.status in omega (arith, same, three)))
    (λ same. absurd (let three = told.status in omega (arith, same, three))) (λ same. told.none)

-- Where a command reads a text: no other refusals are answered for the text than those of status 3.
module _ (most : ℕ) (HasNoText : Refusal → Input → Input → Type 0) (o : Exchange) where
  pub refuses_owes : (words : List (String Global)) (a : Answer) → ((refusal : Refusal) → HasNoText refusal o.source_before o.source_after → IsTold words o refusal) → RefusesText most HasNoText o a → Owes words o (outcome_of a)
  refuses_owes words (Refused ReadFault failed) told w = read_fault_owes words o failed w.0.counted w.1
  refuses_owes words (Refused Usage failed) told w = text_owes words o Usage failed w.1 (told Usage w.0)
  refuses_owes words (Refused (Text fault) failed) told w = text_owes words o (Text fault) failed w.1 (told (Text fault) w.0)
  refuses_owes words (Refused (NoTrace line) failed) told w = text_owes words o (NoTrace line) failed w.1 (told (NoTrace line) w.0)
  refuses_owes words NoMemory told w = short_owes words o w.0.steady
  refuses_owes words a told w = absurd w

  -- what it answers to a text that it can't take
  pub refuses_none : (a : Answer) → ((refusal : Refusal) → HasNoText refusal o.source_before o.source_after → status_of refusal ≡ 3) → RefusesText most HasNoText o a → Contains (3 ∷ 4 ∷ 5 ∷ 9 ∷ []) (outcome_of a).status
  refuses_none (Refused refusal true) told w = (2, lit< tt, refl)
  refuses_none (Refused ReadFault false) told w = (1, lit< tt, refl)
  refuses_none (Refused Usage false) told w = (0, lit< tt, sym (told Usage w.0))
  refuses_none (Refused (Text fault) false) told w = (0, lit< tt, refl)
  refuses_none (Refused (NoTrace line) false) told w = (0, lit< tt, refl)
  refuses_none NoMemory told w = (3, lit< tt, refl)
  refuses_none a told w = absurd w

  -- a text that it can take is refused for want of memory alone, where no read failed
  pub refuses_never : (a : Answer) → ((refusal : Refusal) → HasNoText refusal o.source_before o.source_after → ⊥) → ¬ Rose o.source_before.faults o.source_after.faults → RefusesText most HasNoText o a → a ≡ NoMemory
  refuses_never (Refused ReadFault failed) told no_read w = absurd (no_read (came o.source_before.faults o.source_after.faults w.0.counted))
  refuses_never (Refused Usage failed) told no_read w = absurd (told Usage w.0)
  refuses_never (Refused (Text fault) failed) told no_read w = absurd (told (Text fault) w.0)
  refuses_never (Refused (NoTrace line) failed) told no_read w = absurd (told (NoTrace line) w.0)
  refuses_never NoMemory told no_read w = refl
  refuses_never a told no_read w = absurd w
