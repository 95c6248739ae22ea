-- Each run that was begun goes on until it is over.
use Rattle.std.proofs.Common.{◌≡◌, ℕ, zero, suc, ◌+◌, ◌≤◌, Bool, true, false, List, [], ◌∷◌, ◌++◌, refl, arith}
use Rattle.tm_base.specs.declared.events.Entry.{Entry}
use Rattle.tm_base.specs.Runs.{Leads}
use Rattle.tm_laws.proofs.RunsLemmas.{Leads-append}
use Rattle.tm_text.specs.Exercises.{ExerciseView, IsWellFormed}
use Rattle.tm_replay.specs.Bars.{bars_of, is_over}
use Rattle.tm_replay.specs.Work.{work}
use Rattle.tm_base.specs.declared.rules.Rules.{Rules}
use Rattle.tm_session.specs.Turns.{RunState, first_run_state, BeginsAlone, Goes, IsAloneRun}
use Rattle.tm_session.specs.Determinism.{HasAloneRun}
use Rattle.tm_session.proofs.NextTurns.{next-event}
use Rattle.tm_session.proofs.Turning.{IsSoundTurn, turned, turn-falls, begun-sound}

module _ (x : ExerciseView) (rules : Rules) (formed : IsWellFormed x) where
  -- the rest of a run
  pub record Ends (p : RunState) : Type 0 where
    pub events : List Entry
    pub turn : RunState
    pub run : Leads (Goes x rules) p events turn
    pub over : is_over (bars_of turn.joint) ≡ true

  -- after its next event a run has a rest, and so it had before
  ends-after : (p q : RunState) (e : Entry) → Goes x rules p e q → Ends q → Ends p
  ends-after p q e goes rest = record { events = e ∷ rest.events; turn = rest.turn; run = (q, goes, rest.run); over = rest.over }

  -- a run has a rest, where each that its next event leaves has one
  ends-next : (p : RunState) → IsSoundTurn x p → ((q : RunState) → IsSoundTurn x q → work rules.limit q.joint + 1 ≤ work rules.limit p.joint → Ends q) → Ends p
  ends-next p sound later = by_test (is_over (bars_of p.joint)) refl
    where
      by_test : (b : Bool) → is_over (bars_of p.joint) ≡ b → Ends p
      by_test true over = record { events = []; turn = p; run = refl; over = over }
      by_test false going =
          let n = next-event x rules p formed sound going in
          let t = turned x rules p n.next n.event formed sound n.goes in
          ends-after p n.next n.event n.goes (later n.next t.1 (turn-falls x rules p n.next n.event formed sound n.goes))

  -- each event lowers the work that is left
  ends-within : (n : ℕ) (p : RunState) → IsSoundTurn x p → work rules.limit p.joint ≤ n → Ends p
  ends-within zero p sound few = ends-next p sound (λ q s less. absurd (omega (arith, less, few)))
  ends-within (suc n) p sound few = ends-next p sound (λ q s less. ends-within n q s (omega (arith, less, few)))

  pub begun-ends : (es : List Entry) (p : RunState) → BeginsAlone x rules es p → Ends p
  begun-ends es p begun = ends-within (work rules.limit p.joint) p (begun-sound x rules es p formed begun) (omega arith)

  -- with its rest it is the whole alone run
  pub begun-whole : (es : List Entry) (p : RunState) → BeginsAlone x rules es p → (rest : Ends p) → IsAloneRun x rules (es ++ rest.events) rest.turn
  begun-whole es p begun rest = record {
    run = Leads-append (Goes x rules) es rest.events (first_run_state x rules) p rest.turn begun rest.run;
    over = rest.over;
  }

  pub has-alone_run : HasAloneRun x rules
  has-alone_run =
      let rest = begun-ends [] (first_run_state x rules) refl in
      record { events = rest.events; turn = rest.turn; run = begun-whole [] (first_run_state x rules) refl rest }
