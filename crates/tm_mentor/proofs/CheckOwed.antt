-- What `check` owes for each of its answers.
use Rattle.std.proofs.Common.{ℕ, List, [], ◌∷◌, lit<, refl, String, ◌≡◌, ◌∙◌, ◌⊎◌, sym, subst, inl, inr}
use Rattle.std.specs.List.{Contains}
use Rattle.std.specs.Option.{IsSomeAnd}
use Rattle.std.specs.declared.alloc.Global.{Global}
use Rattle.tm_base.specs.declared.events.Entry.{Entry}
use Rattle.tm_outside.specs.Faults.{Rose}
use Rattle.tm_text.specs.Exercises.{ExerciseView}
use Rattle.tm_order.specs.LegalEvents.{AreLegal}
use Rattle.tm_trace_texts.specs.declared.limits.TheConstants.{MOST_TRACE_BYTES}
use Rattle.tm_trace_texts.specs.declared.trace_faults.TraceFault.TheVariants as no_trace
use Rattle.tm_trace_texts.specs.TraceFaults.{IsRefusal}
use Rattle.tm_trace_texts.specs.TraceTexts.{IsTraceText}
use Rattle.tm_trace_texts.proofs.AnswersLemmas.{one_trace}
use Rattle.tm_words.specs.declared.commands.Command.TheVariants.{Check}
use Rattle.tm_words.specs.Commands.{Spells}
use Rattle.tm_lines.specs.declared.faults.Fault.{Fault}
use Rattle.tm_mentor.specs.declared.refusals.Refusal.{Refusal}
use Rattle.tm_mentor.specs.declared.refusals.Refusal.TheVariants.{Text, NoTrace}
use Rattle.tm_mentor.specs.declared.answers.Answer.{Answer}
use Rattle.tm_mentor.specs.declared.answers.Answer.TheVariants.{Refused, Ran, Wrote, Illegal, NoMemory}
use Rattle.tm_mentor.specs.Answers.{outcome_of}
use Rattle.tm_mentor.specs.CheckCommand.{CheckAnswers, HasNoTrace, IsNoTrace, JudgeAnswers}
use Rattle.tm_mentor.specs.Outside.{Exchange, Input}
use Rattle.tm_mentor.specs.Refusals.{status_of}
use Rattle.tm_mentor.proofs.Owed.{IsSteady, IsTold, Owes, both_told, if_told, illegal_owes, refuses_never, refuses_none, refuses_owes, short_owes, wrote_owes}
use Rattle.tm_mentor.proofs.Sent.{illegal_written, steady_sends, wrote_written}

-- a text with a faulty line, or without a line `trace`, is that of no trace
faulty_none : (line : ℕ) (kind : Fault) (bytes : List ℕ) → IsRefusal bytes (no_trace.Line line kind) → IsNoTrace bytes
faulty_none line kind bytes told = λ x es text. let e = sym (one_trace.faultless bytes x es text).faultless ∙ told in cc

lacking_none : (lines : ℕ) (bytes : List ℕ) → IsRefusal bytes (no_trace.NoTraceLine lines) → IsNoTrace bytes
lacking_none lines bytes told = λ x es text. let e = sym text.trace ∙ told.none in cc

told_status : (old new : Input) (refusal : Refusal) → HasNoTrace refusal old new → status_of refusal ≡ 3
told_status old new (Text fault) w = refl
told_status old new (NoTrace line) w = refl
told_status old new refusal w = absurd w

told_none : (words : List (String Global)) (o : Exchange) → Spells words Check → (refusal : Refusal) → HasNoTrace refusal o.source_before o.source_after → IsTold words o refusal
told_none words o spelled (Text fault) w = record {
  status = refl;
  steady = w.steady;
  none = inr (spelled, if_told _ IsNoTrace o.source_before.left (faulty_none fault.line fault.kind) w.first);
}
told_none words o spelled (NoTrace line) w = record {
  status = refl;
  steady = w.text.steady;
  none = inr (spelled, if_told _ IsNoTrace o.source_before.left (lacking_none w.lines) w.text.first);
}
told_none words o spelled refusal w = absurd w

judged_owes : (words : List (String Global)) (o : Exchange) (a : Answer) (x : ExerciseView) (es : List Entry) → Spells words Check → IsSteady o → JudgeAnswers x es o.sink_before o.sink_after a → Owes words o (outcome_of a)
judged_owes words o (Wrote failed) x es spelled steady w = wrote_owes words o failed w.bytes steady w.whole (inr spelled)
judged_owes words o (Illegal failed) x es spelled steady w = illegal_owes words o failed _ steady w.whole
judged_owes words o NoMemory x es spelled steady w = short_owes words o steady
judged_owes words o a x es spelled steady w = absurd w

pub check_owes : (words : List (String Global)) (o : Exchange) (a : Answer) → Spells words Check → CheckAnswers o a → Owes words o (outcome_of a)
check_owes words o a spelled (inl w) = refuses_owes MOST_TRACE_BYTES HasNoTrace o words a (told_none words o spelled) w
check_owes words o a spelled (inr w) = judged_owes words o a w.exercise w.entries spelled w.found.steady w.answers

-- where no trace was told none is judged, and where one was it is, if nothing fails
pub no_trace_judged : (o : Exchange) (a : Answer) → CheckAnswers o a → IsSomeAnd o.source_before.left IsNoTrace → Contains (3 ∷ 4 ∷ 5 ∷ 9 ∷ []) (outcome_of a).status
no_trace_judged o a (inl w) none = refuses_none MOST_TRACE_BYTES HasNoTrace o a (told_status o.source_before o.source_after) w
no_trace_judged o a (inr w) none = absurd (both_told _ IsNoTrace o.source_before.left (λ bytes text no. no w.exercise w.entries text) w.found.told none)

told_never : (o : Exchange) (x : ExerciseView) (es : List Entry) → IsSomeAnd o.source_before.left (λ bytes. IsTraceText bytes x es) → (refusal : Refusal) → HasNoTrace refusal o.source_before o.source_after → ⊥
told_never o x es told (Text fault) w = both_told _ _ o.source_before.left (λ bytes first text. faulty_none fault.line fault.kind bytes first x es text) w.first told
told_never o x es told (NoTrace line) w = both_told _ _ o.source_before.left (λ bytes first text. lacking_none w.lines bytes first x es text) w.text.first told
told_never o x es told refusal w = w

judged : (o : Exchange) (x : ExerciseView) (es : List Entry) (a : Answer) → CheckAnswers o a → IsSomeAnd o.source_before.left (λ bytes. IsTraceText bytes x es) → ¬ Rose o.source_before.faults o.source_after.faults → (a ≡ NoMemory) ⊎ JudgeAnswers x es o.sink_before o.sink_after a
judged o x es a (inl w) told no_read = inl (refuses_never MOST_TRACE_BYTES HasNoTrace o a (told_never o x es told) no_read w)
judged o x es a (inr w) told no_read =
    let same = both_told _ _ o.source_before.left (λ bytes text other. one_trace.one bytes w.exercise x w.entries es text other) w.found.told told in
    inr (subst (λ (y : ExerciseView). JudgeAnswers y es o.sink_before o.sink_after a) same.0
    (subst (λ (fs : List Entry). JudgeAnswers w.exercise fs o.sink_before o.sink_after a) same.1 w.answers))

legal_status : (o : Exchange) (x : ExerciseView) (es : List Entry) (a : Answer) → (a ≡ NoMemory) ⊎ JudgeAnswers x es o.sink_before o.sink_after a → AreLegal x es → ¬ Rose o.sink_before.faults o.sink_after.faults → Contains (0 ∷ 9 ∷ []) (outcome_of a).status
legal_status o x es a (inl none) legal no_write = subst (λ (b : Answer). Contains (0 ∷ 9 ∷ []) (outcome_of b).status) (sym none) (1, lit< tt, refl)
legal_status o x es (Wrote failed) (inr w) legal no_write = wrote_written failed (steady_sends o.sink_before o.sink_after w.bytes failed w.whole no_write)
legal_status o x es (Illegal failed) (inr w) legal no_write = absurd (w.illegal legal)
legal_status o x es NoMemory (inr w) legal no_write = (1, lit< tt, refl)
legal_status o x es (Refused refusal failed) (inr w) legal no_write = absurd w
legal_status o x es (Ran f) (inr w) legal no_write = absurd w

pub complete_legal : (o : Exchange) (x : ExerciseView) (es : List Entry) (a : Answer) → CheckAnswers o a → IsSomeAnd o.source_before.left (λ bytes. IsTraceText bytes x es) → AreLegal x es → ¬ Rose o.source_before.faults o.source_after.faults → ¬ Rose o.sink_before.faults o.sink_after.faults → Contains (0 ∷ 9 ∷ []) (outcome_of a).status
complete_legal o x es a w told legal no_read no_write = legal_status o x es a (judged o x es a w told no_read) legal no_write

illegal_status : (o : Exchange) (x : ExerciseView) (es : List Entry) (a : Answer) → (a ≡ NoMemory) ⊎ JudgeAnswers x es o.sink_before o.sink_after a → (AreLegal x es → ⊥) → ¬ Rose o.sink_before.faults o.sink_after.faults → Contains (8 ∷ 9 ∷ []) (outcome_of a).status
illegal_status o x es a (inl none) illegal no_write = subst (λ (b : Answer). Contains (8 ∷ 9 ∷ []) (outcome_of b).status) (sym none) (1, lit< tt, refl)
illegal_status o x es (Wrote failed) (inr w) illegal no_write =
    absurd (illegal (record { order = w.order; permutation = w.accepted.permutation; joint = w.accepted.joint; run = w.accepted.run }))
illegal_status o x es (Illegal failed) (inr w) illegal no_write = illegal_written failed (steady_sends o.sink_before o.sink_after _ failed w.whole no_write)
illegal_status o x es NoMemory (inr w) illegal no_write = (1, lit< tt, refl)
illegal_status o x es (Refused refusal failed) (inr w) illegal no_write = absurd w
illegal_status o x es (Ran f) (inr w) illegal no_write = absurd w

pub complete_illegal : (o : Exchange) (x : ExerciseView) (es : List Entry) (a : Answer) → CheckAnswers o a → IsSomeAnd o.source_before.left (λ bytes. IsTraceText bytes x es) → (AreLegal x es → ⊥) → ¬ Rose o.source_before.faults o.source_after.faults → ¬ Rose o.sink_before.faults o.sink_after.faults → Contains (8 ∷ 9 ∷ []) (outcome_of a).status
complete_illegal o x es a w told illegal no_read no_write = illegal_status o x es a (judged o x es a w told no_read) illegal no_write
