-- The rows of events: there are some, and no others.
use Rattle.std.proofs.Common.{◌≡◌, ℕ, ◌+◌, List, [], ◌∷◌, ◌++◌, refl, ap, sym, ◌∙◌, append_assoc, append-nil}
use Rattle.tm_base.specs.declared.events.Entry.{Entry}
use Rattle.tm_base.specs.Runs.{Leads}
use Rattle.tm_laws.proofs.RunsLemmas.{Leads-one}
use Rattle.tm_text.specs.Exercises.{ExerciseView}
use Rattle.tm_timeline.specs.Rows.{row_of}
use Rattle.tm_replay.specs.JointStates.{JointState}
use Rattle.tm_replay.specs.JointSteps.{JointStep}
use Rattle.tm_replay.specs.Bars.{bars_of}
use Rattle.tm_replay.proofs.DeterminedStepsLemmas.{Happens-one}
use Rattle.tm_collect.specs.Transcripts.{Transcript, AddsRow}

-- the rows of more events
pub record AddsRows (x : ExerciseView) (p : Transcript) (es : List Entry) (k : JointState) : Type 0 where
  pub transcript : Transcript
  pub rows : Leads (AddsRow x) p es transcript
  pub same : transcript.joint ≡ k
  pub more : List ℕ
  pub text : transcript.rows ≡ p.rows ++ more

pub adds-rows : (x : ExerciseView) (es : List Entry) (p : Transcript) (k : JointState) → Leads (JointStep x) p.joint es k → AddsRows x p es k
adds-rows x [] p k run = record { transcript = p; rows = refl; same = sym run; more = []; text = sym (append-nil p.rows) }
adds-rows x (e ∷ es) p k run =
    let row : List ℕ = row_of x (p.count + 1) e (bars_of run.0) in
    let next : Transcript = record { joint = run.0; count = p.count + 1; rows = p.rows ++ row } in
    let later : AddsRows x next es k = adds-rows x es next k run.2 in
    record {
      transcript = later.transcript;
      rows = (next, record { step = run.1; count = refl; rows = refl }, later.rows);
      same = later.same;
      more = row ++ later.more;
      text = later.text ∙ append_assoc p.rows row later.more;
    }

transcript-alike : (p q : Transcript) → p.joint ≡ q.joint → p.count ≡ q.count → p.rows ≡ q.rows → p ≡ q
transcript-alike p q joint count rows =
    ap (λ j. made j p.count p.rows) joint ∙ ap (λ n. made q.joint n p.rows) count ∙ ap (made q.joint q.count) rows
  where
    made : JointState → ℕ → List ℕ → Transcript
    made joint count rows = record { joint = joint; count = count; rows = rows }

-- an event adds one row
AddsRow-one : (x : ExerciseView) (p : Transcript) (e : Entry) (q r : Transcript) → AddsRow x p e q → AddsRow x p e r → q ≡ r
AddsRow-one x p e q r a b =
    let joint = (Happens-one p.joint q.joint r.joint e e a.step.happens b.step.happens refl refl refl).1 in
    let count = a.count ∙ sym b.count in
    transcript-alike q r joint count
    (a.rows ∙ ap (λ (n : ℕ). p.rows ++ row_of x n e (bars_of q.joint)) count
    ∙ ap (λ (j : JointState). p.rows ++ row_of x r.count e (bars_of j)) joint ∙ sym b.rows)

-- events have one transcript of rows
pub rows-one : (x : ExerciseView) (es : List Entry) (p q r : Transcript) → Leads (AddsRow x) p es q → Leads (AddsRow x) p es r → q ≡ r
rows-one x = Leads-one (AddsRow x) (AddsRow-one x)
