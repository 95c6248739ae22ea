-- Under given rules each turn has one next event, so that an exercise has one alone run.
use Rattle.std.proofs.Common.{◌≡◌, ℕ, ◌<◌, ◌≤◌, Bool, true, false, List, [], ◌∷◌, ◌++◌, Some, None, inl, inr, if◌then◌else◌, MatchBool, refl, ap, sym, ◌∙◌, subst, arith, ne_eqb}
use Rattle.tm_base.specs.declared.operations.Op.{Op}
use Rattle.tm_base.specs.declared.operations.Op.TheVariants as op
use Rattle.tm_base.specs.declared.asks.Ask.{Ask}
use Rattle.tm_base.specs.declared.asks.Ask.TheVariants as ask
use Rattle.tm_base.specs.declared.events.Entry.{Entry}
use Rattle.tm_base.specs.Histories.{Lawful}
use Rattle.tm_base.specs.Runs.{Leads}
use Rattle.tm_text.specs.Exercises.{ExerciseView, IsWellFormed, own_of}
use Rattle.tm_programs.specs.Programs.{is_stopped, next_ask}
use Rattle.tm_replay.specs.declared.phases.Phase.{Phase}
use Rattle.tm_replay.specs.declared.phases.Phase.TheVariants as phase
use Rattle.tm_replay.specs.JointStates.{JointState, ThreadState}
use Rattle.tm_base.specs.Fits.{is_call}
use Rattle.tm_replay.specs.JointSteps.{MayIn, MayAsk, JointStep}
use Rattle.tm_replay.specs.Bars.{bars_of, is_over}
use Rattle.tm_replay.specs.SoundStates.{is_main}
use Rattle.tm_base.specs.declared.rules.Rules.{Rules}
use Rattle.tm_session.specs.Choices.{chosen_thread}
use Rattle.tm_session.specs.NextCalls.{AsksCalls}
use Rattle.tm_session.specs.Turns.{RunState, first_run_state, BeginsAlone, IsAloneRun, KeepsLimit, Halts, Moves, Goes, GoesBy, due_stops}
use Rattle.tm_replay.proofs.DeterminedStepsLemmas.{Happens-one}
use Rattle.tm_session.proofs.Alike.{turn-alike, same-thread_state}
use Rattle.tm_session.proofs.MoveOnLemmas.{chosen, chosen-asks}
use Rattle.tm_session.proofs.Resting.{over-rests}
use Rattle.tm_session.proofs.Turning.{IsSoundTurn, turned, first-sound}

-- a call is below the limit, and a cut end that follows no `stopped` at it
pub keeps-call : (limit : ℕ) (s : ThreadState) (o : Op) → is_call o ≡ true → KeepsLimit limit s o → s.made < limit
keeps-call limit s (op.End cut) call keeps = absurd cc
keeps-call limit s o call keeps = keeps call

pub keeps-cut : (limit : ℕ) (s : ThreadState) (o : Op) → is_stopped s.rest.last ≡ false → o ≡ op.End true → KeepsLimit limit s o → limit ≤ s.made
keeps-cut limit s o going cut keeps =
    let kept : KeepsLimit limit s (op.End true) = subst (KeepsLimit limit s) cut keeps in
    subst (λ (b : Bool). MatchBool b (Unit {0}) (limit ≤ s.made)) going (kept refl)

-- what a thread does next is fixed by its phase, its program and its limit
module _ (own limit : ℕ) (s : ThreadState) (asks : AsksCalls s.rest) (a b : ℕ) (o u : Op) (first : KeepsLimit limit s o) (second : KeepsLimit limit s u) where
  clash : (o' v w : Op) (object : ℕ) → next_ask s.rest.program s.rest.registers ≡ ask.Call object o' → is_stopped s.rest.last ≡ false
      → v ≡ o' → KeepsLimit limit s v → w ≡ op.End true → KeepsLimit limit s w → ⊥
  clash o' v w object asked going call keeps cut kept =
      let below : s.made < limit = keeps-call limit s v (ap is_call call ∙ asks object o' asked) keeps in
      let full : limit ≤ s.made = keeps-cut limit s w going cut kept in
      omega (arith, below, full)

  by_ask : (k : Ask) → next_ask s.rest.program s.rest.registers ≡ k → is_stopped s.rest.last ≡ false → MayAsk own (Some k) a o → MayAsk own (Some k) b u → (a ≡ b) × (o ≡ u)
  by_ask ask.Over asked going l r = (l.0 ∙ sym r.0, l.1 ∙ sym r.1)
  by_ask (ask.Call object o') asked going (inl l) (inl r) = (l.0 ∙ sym r.0, l.1 ∙ sym r.1)
  by_ask (ask.Call object o') asked going (inr l) (inr r) = (l.0 ∙ sym r.0, l.1 ∙ sym r.1)
  by_ask (ask.Call object o') asked going (inl l) (inr r) = absurd (clash o' o u object asked going l.1 first r.1 second)
  by_ask (ask.Call object o') asked going (inr l) (inl r) = absurd (clash o' u o object asked going r.1 second l.1 first)

  by_last : (v : Bool) → is_stopped s.rest.last ≡ v → MayAsk own (if v then None else Some (next_ask s.rest.program s.rest.registers)) a o
      → MayAsk own (if v then None else Some (next_ask s.rest.program s.rest.registers)) b u → (a ≡ b) × (o ≡ u)
  by_last true e l r = (l.0 ∙ sym r.0, l.1 ∙ sym r.1)
  by_last false e l r = by_ask (next_ask s.rest.program s.rest.registers) refl e l r

  MayIn-one : (p : Phase) → is_main p ≡ false → MayIn own p s.rest a o → MayIn own p s.rest b u → (a ≡ b) × (o ≡ u)
  MayIn-one phase.Main main l r = absurd cc
  MayIn-one phase.NotBegun main l r = (l.0 ∙ sym r.0, l.1 ∙ sym r.1)
  MayIn-one phase.Free main l r = by_last (is_stopped s.rest.last) refl l r
  MayIn-one (phase.Waits at) main l r = (l.0 ∙ sym r.0, l.1 ∙ sym r.1)
  MayIn-one (phase.Ended cut) main l r = elim l [ ]

module _ (x : ExerciseView) (rules : Rules) (p q r : RunState) (e f : Entry) where
  -- `main` alone stops
  stopped-by_main : (d : Entry) (k : JointState) (step : JointStep x p.joint d k) → d.op ≡ op.Stop → d.thread ≡ 0
  stopped-by_main d k step stop =
      let lawful : Lawful step.happens.object_state.view d.thread op.Stop d.reply step.happens.state =
      subst (λ (o : Op). Lawful step.happens.object_state.view d.thread o d.reply step.happens.state) stop step.happens.lawful in
      lawful.main

  Halts-one : (object : ℕ) (stops : List ℕ) → Halts x p object stops e q → Halts x p object stops f r → (e ≡ f) × (q ≡ r)
  Halts-one object stops a b =
      let thread : e.thread ≡ f.thread = stopped-by_main e q.joint a.step a.stop ∙ sym (stopped-by_main f r.joint b.step b.stop) in
      let one = Happens-one p.joint q.joint r.joint e f a.step.happens b.step.happens thread (a.object ∙ sym b.object) (a.stop ∙ sym b.stop) in
      (one.0, turn-alike q r one.1 (a.last ∙ sym b.last) (a.draw ∙ sym b.draw) (a.stops ∙ sym b.stops))

  Moves-one : IsWellFormed x → IsSoundTurn x p → Moves x rules p e q → Moves x rules p f r → (e ≡ f) × (q ≡ r)
  Moves-one formed sound a b =
      let draw : q.draw ≡ r.draw = a.draw ∙ sym b.draw in
      let picks : Some e.thread ≡ Some f.thread = sym a.chosen ∙ ap (chosen_thread rules.schedule (bars_of p.joint) p.last) draw ∙ b.chosen in
      let thread : e.thread ≡ f.thread = cc in
      let s : ThreadState = a.step.happens.thread_state in
      let seat : s ≡ b.step.happens.thread_state = same-thread_state p.joint q.joint r.joint e f a.step.happens b.step.happens thread in
      let by = chosen x p.joint formed sound.sound rules.schedule p.last q.draw e.thread a.chosen in
      let plain : is_main s.phase ≡ false = (sound.sound.threads e.thread s a.step.happens.thread).main ∙ ne_eqb e.thread 0 (λ h. omega (arith, h, by.program)) in
      let asks : AsksCalls s.rest = chosen-asks x p.joint formed sound.sound e.thread s by a.step.happens.thread in
      let may : MayIn (own_of x.objects e.thread) s.phase s.rest f.object f.op =
      subst (λ (t : ℕ). MayIn (own_of x.objects t) s.phase s.rest f.object f.op) (sym thread)
      (subst (λ (u : ThreadState). MayIn (own_of x.objects f.thread) u.phase u.rest f.object f.op) (sym seat) b.step.may) in
      let keeps : KeepsLimit rules.limit s f.op = subst (λ (u : ThreadState). KeepsLimit rules.limit u f.op) (sym seat) b.limit in
      let same = MayIn-one (own_of x.objects e.thread) rules.limit s asks e.object f.object e.op f.op a.limit keeps s.phase plain a.step.may may in
      let one = Happens-one p.joint q.joint r.joint e f a.step.happens b.step.happens thread same.0 same.1 in
      (one.0, turn-alike q r one.1 (a.last ∙ thread ∙ sym b.last) draw (a.stops ∙ sym b.stops))

  -- each turn has one next event, which leads to one turn
  Goes-one : IsWellFormed x → IsSoundTurn x p → Goes x rules p e q → Goes x rules p f r → (e ≡ f) × (q ≡ r)
  Goes-one formed sound left right = go (due_stops p) left right
    where
      go : (due : List ℕ) → GoesBy x rules p due e q → GoesBy x rules p due f r → (e ≡ f) × (q ≡ r)
      go [] a b = Moves-one formed sound a b
      go (object ∷ stops) a b = Halts-one object stops a b

module _ (x : ExerciseView) (rules : Rules) (formed : IsWellFormed x) where
  -- of two runs from one turn that are over neither goes on after the other
  runs-one : (es fs : List Entry) (s p q : RunState) → IsSoundTurn x s → Leads (Goes x rules) s es p → Leads (Goes x rules) s fs q
      → is_over (bars_of p.joint) ≡ true → is_over (bars_of q.joint) ≡ true → (es ≡ fs) × (p ≡ q)
  runs-one [] [] s p q sound left right over ended = (refl, left ∙ sym right)
  runs-one [] (f ∷ fs) s p q sound left right over ended =
      absurd (over-rests x rules s right.0 f sound (ap (λ (t : RunState). is_over (bars_of t.joint)) (sym left) ∙ over) right.1)
  runs-one (e ∷ es) [] s p q sound left right over ended =
      absurd (over-rests x rules s left.0 e sound (ap (λ (t : RunState). is_over (bars_of t.joint)) (sym right) ∙ ended) left.1)
  runs-one (e ∷ es) (f ∷ fs) s p q sound left right over ended =
      let one = Goes-one x rules s left.0 right.0 e f formed sound left.1 right.1 in
      let after = (turned x rules s left.0 e formed sound left.1).1 in
      let rest = runs-one es fs left.0 p q after left.2 (subst (λ (m : RunState). Leads (Goes x rules) m fs q) (sym one.1) right.2) over ended in
      (ap (λ d. d ∷ es) one.0 ∙ ap (λ l. f ∷ l) rest.0, rest.1)

  pub alone-one : (es fs : List Entry) (p q : RunState) → IsAloneRun x rules es p → IsAloneRun x rules fs q → (es ≡ fs) × (p ≡ q)
  alone-one es fs p q left right =
      runs-one es fs (first_run_state x rules) p q (first-sound x rules formed) left.run right.run left.over right.over

  -- of two runs from one turn the one that is over goes on with the other
  prefix-of : (es fs : List Entry) (s p q : RunState) → IsSoundTurn x s → Leads (Goes x rules) s es p → Leads (Goes x rules) s fs q
      → is_over (bars_of q.joint) ≡ true → (rest : List Entry) × (fs ≡ es ++ rest) × Leads (Goes x rules) p rest q
  prefix-of [] fs s p q sound left right ended = (fs, refl, subst (λ (m : RunState). Leads (Goes x rules) m fs q) (sym left) right)
  prefix-of (e ∷ es) [] s p q sound left right ended =
      absurd (over-rests x rules s left.0 e sound (ap (λ (t : RunState). is_over (bars_of t.joint)) (sym right) ∙ ended) left.1)
  prefix-of (e ∷ es) (f ∷ fs) s p q sound left right ended =
      let one = Goes-one x rules s left.0 right.0 e f formed sound left.1 right.1 in
      let after = (turned x rules s left.0 e formed sound left.1).1 in
      let more = prefix-of es fs left.0 p q after left.2 (subst (λ (m : RunState). Leads (Goes x rules) m fs q) (sym one.1) right.2) ended in
      (more.0, ap (λ l. f ∷ l) more.1 ∙ ap (λ d. d ∷ (es ++ more.0)) (sym one.0), more.2)

  pub begun-prefix : (es fs : List Entry) (p q : RunState) → BeginsAlone x rules es p → IsAloneRun x rules fs q
      → (rest : List Entry) × (fs ≡ es ++ rest) × Leads (Goes x rules) p rest q
  begun-prefix es fs p q begun whole = prefix-of es fs (first_run_state x rules) p q (first-sound x rules formed) begun whole.run whole.over
