-- What a run has written is a prefix of the text of the whole alone run.
use Rattle.std.proofs.Common.{◌≡◌, ◌≢◌, ℕ, List, [], ◌∷◌, ◌++◌, length, refl, ap, sym, ◌∙◌, subst, append_assoc, length-append, arith}
use Rattle.tm_base.specs.declared.events.Entry.{Entry}
use Rattle.tm_base.specs.declared.ends.End.{End}
use Rattle.tm_base.specs.Runs.{Leads}
use Rattle.tm_laws.proofs.RunsLemmas.{Leads-append}
use Rattle.tm_text.specs.Exercises.{ExerciseView, IsWellFormed}
use Rattle.tm_timeline.specs.Rows.{last_line_of}
use Rattle.tm_replay.specs.JointStates.{JointState}
use Rattle.tm_replay.specs.JointSteps.{JointStep}
use Rattle.tm_replay.specs.Ends.{end_of, named_of}
use Rattle.tm_base.specs.declared.rules.Rules.{Rules}
use Rattle.tm_session.specs.Determinism.{HasAloneText}
use Rattle.tm_collect.specs.Transcripts.{Transcript, AddsRow, AreRows, first_joint, transcript_at}
use Rattle.tm_collect.proofs.TranscriptsLemmas.{AddsRows, adds-rows}
use Rattle.tm_session.specs.AloneTexts.{BeginsAloneText}
use Rattle.tm_session.specs.Turns.{RunState, first_run_state, BeginsAlone}
use Rattle.tm_session.proofs.Turning.{begun-sound, turns-legal}
use Rattle.tm_session.proofs.WholeRuns.{begun-ends, begun-whole}

-- with a line end the bytes aren't empty
ends-line : (more line : List ℕ) → more ++ (line ++ 10 ∷ []) ≢ []
ends-line more line h = let e : length (more ++ (line ++ 10 ∷ [])) ≡ 0 = ap length h in omega (arith, simp length-append at e)

module _ (x : ExerciseView) (rules : Rules) (formed : IsWellFormed x) where
  -- the rows of what was begun are a prefix of the whole run's text
  pub begins-text : (es : List Entry) (p : RunState) (t : Transcript) → BeginsAlone x rules es p → AreRows x es t → t.joint ≡ p.joint → BeginsAloneText x rules t.rows
  begins-text es p t begun rows same =
      let rest = begun-ends x rules formed es p begun in
      let legal : Leads (JointStep x) p.joint rest.events rest.turn.joint = turns-legal x rules rest.events p rest.turn formed (begun-sound x rules es p formed begun) rest.run in
      let added : AddsRows x t rest.events rest.turn.joint =
      adds-rows x rest.events t rest.turn.joint (subst (λ (j : JointState). Leads (JointStep x) j rest.events rest.turn.joint) (sym same) legal) in
      let end : End = end_of rules.limit rest.turn.joint in
      let cut : List ℕ = named_of rules.limit rest.turn.joint in
      let events : List Entry = es ++ rest.events in
      let line : List ℕ = last_line_of x end (length events) cut in
      record {
        events = events;
        end = end;
        cut = cut;
        text = added.transcript.rows ++ line;
        whole = record {
          turn = rest.turn;
          run = begun-whole x rules formed es p begun rest;
          ended = refl;
          named = refl;
          transcript = added.transcript;
          rows = Leads-append (AddsRow x) es rest.events (transcript_at (first_joint x) []) t added.transcript rows added.rows;
          same = added.same;
          text = refl;
        };
        rest = added.more ++ line;
        same = ap (λ (l : List ℕ). l ++ line) added.text ∙ append_assoc t.rows added.more line;
        proper = ends-line added.more _;
      }

  -- before the first event nothing is written
  pub begins-empty : BeginsAloneText x rules []
  begins-empty = begins-text [] (first_run_state x rules) (transcript_at (first_joint x) []) refl refl refl

  pub has-alone_text : HasAloneText x rules
  has-alone_text = record {
    events = begins-empty.events;
    end = begins-empty.end;
    cut = begins-empty.cut;
    bytes = begins-empty.text;
    text = begins-empty.whole;
  }
