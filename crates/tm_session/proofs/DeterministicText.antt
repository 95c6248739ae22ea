-- One alone run has one text.
use Rattle.std.proofs.Common.{◌≡◌, ℕ, List, [], ◌++◌, length, ap, sym, ◌∙◌, subst}
use Rattle.tm_base.specs.declared.events.Entry.{Entry}
use Rattle.tm_base.specs.declared.ends.End.{End}
use Rattle.tm_text.specs.Exercises.{ExerciseView, IsWellFormed}
use Rattle.tm_timeline.specs.Rows.{last_line_of}
use Rattle.tm_replay.specs.Ends.{end_of, named_of}
use Rattle.tm_base.specs.declared.rules.Rules.{Rules}
use Rattle.tm_session.specs.Turns.{RunState}
use Rattle.tm_collect.specs.Transcripts.{Transcript, AreRows, first_joint, transcript_at}
use Rattle.tm_collect.proofs.TranscriptsLemmas.{rows-one}
use Rattle.tm_session.specs.AloneTexts.{IsAloneText}
use Rattle.tm_session.proofs.DeterminismLemmas.{alone-one}

pub text-one : (x : ExerciseView) (rules : Rules) (es fs : List Entry) (end last : End) (cut named bytes text : List ℕ)
    → IsWellFormed x → IsAloneText x rules es end cut bytes → IsAloneText x rules fs last named text
    → (es ≡ fs) × (end ≡ last) × (cut ≡ named) × (bytes ≡ text)
text-one x rules es fs end last cut named bytes text formed a b =
    let one = alone-one x rules formed es fs a.turn b.turn a.run b.run in
    let ended : end ≡ last = a.ended ∙ ap (λ (p : RunState). end_of rules.limit p.joint) one.1 ∙ sym b.ended in
    let names : cut ≡ named = a.named ∙ ap (λ (p : RunState). named_of rules.limit p.joint) one.1 ∙ sym b.named in
    let transcript : a.transcript ≡ b.transcript = rows-one x fs (transcript_at (first_joint x) []) a.transcript b.transcript (subst (λ (l : List Entry). AreRows x l a.transcript) one.0 a.rows) b.rows in (
      one.0,
      ended,
      names,
      a.text ∙ ap (λ (p : Transcript). p.rows ++ last_line_of x end (length es) cut) transcript
          ∙ ap (λ (e : End). b.transcript.rows ++ last_line_of x e (length es) cut) ended
          ∙ ap (λ (l : List Entry). b.transcript.rows ++ last_line_of x last (length l) cut) one.0
          ∙ ap (λ (l : List ℕ). b.transcript.rows ++ last_line_of x last (length fs) l) names ∙ sym b.text,
    )
