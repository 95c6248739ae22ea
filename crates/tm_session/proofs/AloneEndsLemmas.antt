-- A whole alone run is an ended run for its limit.
use Rattle.std.proofs.Common.{◌≡◌, ◌≢◌, ℕ, zero, suc, ◌<◌, ◌≤◌, Bool, true, false, not, ◌==◌, ◌&&◌, ◌⊎◌, inl, inr, ⊎_elim, if◌then◌else◌, List, [], ◌∷◌, ◌++◌, Some, None, slice_get, slice_set, refl, ap, sym, ◌∙◌, subst, arith, eq-eqb}
use Rattle.std.specs.List.{AllByRecursion}
use Rattle.std.proofs.lemmas.Bool.{false≢true}
use Rattle.std.proofs.lemmas.List.{append_assoc, append-nil}
use Rattle.tm_base.specs.declared.operations.Op.{Op}
use Rattle.tm_base.specs.declared.operations.Op.TheVariants as op
use Rattle.tm_base.specs.declared.replies.Reply.{Reply}
use Rattle.tm_base.specs.declared.replies.Reply.TheVariants as reply
use Rattle.tm_base.specs.declared.asks.Ask.{Ask}
use Rattle.tm_base.specs.declared.asks.Ask.TheVariants as ask
use Rattle.tm_base.specs.declared.events.Entry.{Entry}
use Rattle.tm_base.specs.Histories.{Lawful}
use Rattle.tm_laws.proofs.RunsLemmas.{Leads-snoc, Leads-split, Leads-keeps}
use Rattle.tm_text.specs.Exercises.{ExerciseView, IsWellFormed, own_of}
use Rattle.tm_programs.specs.Programs.{Rest, asked_of, is_stopped, next_ask}
use Rattle.tm_replay.specs.declared.phases.Phase.{Phase}
use Rattle.tm_replay.specs.declared.phases.Phase.TheVariants as phase
use Rattle.tm_replay.specs.JointStates.{JointState, ThreadState, start, first_thread_state, unbegun}
use Rattle.tm_programs.specs.Programs.{Over}
use Rattle.tm_base.specs.Fits.{is_call}
use Rattle.tm_replay.specs.JointSteps.{MayIn, MayAsk, JointStep, IsJointRun, phase_after, phase_by, rest_by, stepped}
use Rattle.tm_replay.specs.Bars.{bars_of, is_stuck, waited_objects}
use Rattle.tm_replay.specs.Ends.{IsEndedRun, WasStuck, is_cut_phase, is_cut_by_limit, is_more}
use Rattle.tm_replay.proofs.SliceLemmas.{slice_get-set_cases}
use Rattle.tm_replay.proofs.JointStartLemmas.{IsSoundJoint-start, mapped-at}
use Rattle.tm_replay.proofs.ProjectionsLemmas.{runs-keep}
use Rattle.tm_base.specs.declared.rules.Rules.{Rules}
use Rattle.tm_session.specs.Turns.{AreWaited}
use Rattle.tm_session.specs.Turns.{RunState, first_run_state, BeginsAlone, IsAloneRun, KeepsLimit, Moves, Goes, GoesBy, due_by, due_stops}
use Rattle.tm_session.proofs.ChoicesLemmas.{chosen-runs, runs-known}
use Rattle.tm_session.proofs.DeterminismLemmas.{keeps-call, keeps-cut}
use Rattle.tm_session.proofs.Stopping.{due-waited}
use Rattle.tm_session.proofs.Turning.{IsSoundTurn, turned, alone-legal}

-- an end that is cut follows the reply `stopped`, or a program that asks one more call
cut-asks : (own : ℕ) (rest : Rest) (object : ℕ) (o : Op) (k : Ask) → is_stopped rest.last ≡ false → next_ask rest.program rest.registers ≡ k → MayAsk own (Some k) object o → o ≡ op.End true
    → is_more (asked_of rest) ≡ true
cut-asks own rest object o ask.Over going asked may cut = let never : op.End true ≡ op.End false = sym cut ∙ may.1 in cc
cut-asks own rest object o (ask.Call object' o') going asked may cut =
    ap (λ (v : Bool). is_more (if v then None else Some (next_ask rest.program rest.registers))) going ∙ ap (λ (a : Ask). is_more (Some a)) asked

cut-free : (own : ℕ) (rest : Rest) (object : ℕ) (o : Op) (v : Bool) → is_stopped rest.last ≡ v → MayAsk own (if v then None else Some (next_ask rest.program rest.registers)) object o → o ≡ op.End true
    → (is_stopped rest.last ≡ true) ⊎ (is_more (asked_of rest) ≡ true)
cut-free own rest object o true last may cut = inl last
cut-free own rest object o false last may cut = inr (cut-asks own rest object o (next_ask rest.program rest.registers) last refl may cut)

may-cut : (own : ℕ) (p : Phase) (rest : Rest) (object : ℕ) (o : Op) → MayIn own p rest object o → o ≡ op.End true → (is_stopped rest.last ≡ true) ⊎ (is_more (asked_of rest) ≡ true)
may-cut own phase.Main rest object o may cut = let never : op.End true ≡ op.Stop = sym cut ∙ may in absurd cc
may-cut own phase.NotBegun rest object o may cut = let never : op.End true ≡ op.Begin = sym cut ∙ may.1 in absurd cc
may-cut own phase.Free rest object o may cut = cut-free own rest object o (is_stopped rest.last) refl may cut
may-cut own (phase.Waits at) rest object o may cut = let never : op.End true ≡ op.Resume = sym cut ∙ may.1 in absurd cc
may-cut own (phase.Ended was) rest object o may cut = elim may [ ]

-- a phase after which a thread has ended with `cut` comes from such an end, or was one
ends-cut : (o : Op) (r : Reply) (object : ℕ) → is_cut_phase (phase_by o r object) ≡ true → o ≡ op.End true
ends-cut (op.End cut) r object h = ap op.End h
ends-cut o reply.Wait object h = absurd (false≢true h)
ends-cut o r object h = absurd (false≢true h)

comes-cut : (p : Phase) (e : Entry) → is_cut_phase (phase_after p e) ≡ true → e.op ≡ op.End true
comes-cut phase.Main e h = absurd (false≢true h)
comes-cut phase.NotBegun e h = ends-cut e.op e.reply e.object h
comes-cut phase.Free e h = ends-cut e.op e.reply e.object h
comes-cut (phase.Waits object) e h = ends-cut e.op e.reply e.object h
comes-cut (phase.Ended cut) e h = ends-cut e.op e.reply e.object h

-- the thread made no more calls than the limit, and was cut after the reply `stopped` or by the limit
abbrev EndsWithin : ℕ → ThreadState → Type 0
EndsWithin limit s = (s.made ≤ limit) × (is_cut_phase s.phase ≡ true → (is_stopped s.rest.last ≡ true) ⊎ (is_cut_by_limit limit (Some s) ≡ true))

abbrev AllEndWithin : ℕ → JointState → Type 0
AllEndWithin limit j = (t : ℕ) (s : ThreadState) → slice_get j.threads t ≡ Some s → EndsWithin limit s

all_four : (a b c d : Bool) → a ≡ true → b ≡ true → c ≡ true → d ≡ true → (a && b && c && d) ≡ true
all_four a b c d ha hb hc hd = rw (ha, hb, hc, hd) refl

-- the thread's event keeps this
stepped-within : (own limit : ℕ) (s : ThreadState) (e : Entry) → s.made ≤ limit → MayIn own s.phase s.rest e.object e.op → KeepsLimit limit s e.op → EndsWithin limit (stepped s e)
stepped-within own limit s e below may keeps = (made (is_call e.op) refl, cut)
  where
    more : ℕ
    more = if is_call e.op then 1 else 0

    made : (b : Bool) → is_call e.op ≡ b → (stepped s e).made ≤ limit
    made true call =
        let less : s.made < limit = keeps-call limit s e.op call keeps in
        let one : more ≡ 1 = ap (λ (b : Bool). if b then 1 else 0) call in
        omega (arith, less, one)
    made false call =
        let none : more ≡ 0 = ap (λ (b : Bool). if b then 1 else 0) call in
        omega (arith, below, none)

    cut : is_cut_phase (stepped s e).phase ≡ true → (is_stopped (stepped s e).rest.last ≡ true) ⊎ (is_cut_by_limit limit (Some (stepped s e)) ≡ true)
    cut h =
        let ends : e.op ≡ op.End true = comes-cut s.phase e h in
        let same : (stepped s e).rest ≡ s.rest = ap (λ (o : Op). rest_by o e.reply s.rest) ends in
        let none : more ≡ 0 = ap (λ (o : Op). if is_call o then 1 else 0) ends in
        by_last (is_stopped s.rest.last) refl ends same none
      where
        by_last : (v : Bool) → is_stopped s.rest.last ≡ v → e.op ≡ op.End true → (stepped s e).rest ≡ s.rest → more ≡ 0
            → (is_stopped (stepped s e).rest.last ≡ true) ⊎ (is_cut_by_limit limit (Some (stepped s e)) ≡ true)
        by_last true last ends same none = inl (ap (λ (r : Rest). is_stopped r.last) same ∙ last)
        by_last false last ends same none =
            let full : limit ≤ s.made = keeps-cut limit s e.op last ends keeps in
            let count : (stepped s e).made ≡ limit = omega (arith, full, below, none) in
            let asks_more : is_more (asked_of s.rest) ≡ true =
            ⊎_elim (λ (stopped : is_stopped s.rest.last ≡ true). absurd (false≢true (sym last ∙ stopped))) (λ (asks : is_more (asked_of s.rest) ≡ true). asks)
            (may-cut own s.phase s.rest e.object e.op may ends) in
            inr (all_four (is_cut_phase (stepped s e).phase) ((stepped s e).made == limit) (not (is_stopped (stepped s e).rest.last)) (is_more (asked_of (stepped s e).rest))
            h (eq-eqb (stepped s e).made limit count)
            (ap (λ (r : Rest). not (is_stopped r.last)) same ∙ ap not last)
            (ap (λ (r : Rest). is_more (asked_of r)) same ∙ asks_more))

all-step : (x : ExerciseView) (limit : ℕ) (j k : JointState) (e : Entry) (step : JointStep x j e k) → KeepsLimit limit step.happens.thread_state e.op → AllEndWithin limit j → AllEndWithin limit k
all-step x limit j k e step keeps all t r h =
    let s : ThreadState = step.happens.thread_state in
    let h' : slice_get (slice_set j.threads e.thread (stepped s e)) t ≡ Some r = subst (λ (l : List ThreadState). slice_get l t ≡ Some r) step.happens.threads h in
    ⊎_elim
    (λ (same : (t ≡ e.thread) × (r ≡ stepped s e)).
    subst (EndsWithin limit) (sym same.1)
    (stepped-within (own_of x.objects e.thread) limit s e (all e.thread s step.happens.thread).0 step.may keeps))
    (λ (other : (t ≢ e.thread) × (slice_get j.threads t ≡ Some r)). all t r other.1)
    (slice_get-set_cases j.threads e.thread t (stepped s e) r h')

all-start : (x : ExerciseView) (limit : ℕ) → AllEndWithin limit (start x)
all-start x limit zero s h =
    let main : first_thread_state phase.Main Over ≡ s = cc in
    subst (EndsWithin limit) main (omega arith, λ cut. absurd (false≢true cut))
all-start x limit (suc t) s h =
    subst (EndsWithin limit) (mapped-at unbegun x.programs t s h).2 (omega arith, λ cut. absurd (false≢true cut))

-- a stop is no call
stop-keeps : (limit : ℕ) (s : ThreadState) (o : Op) → o ≡ op.Stop → KeepsLimit limit s o
stop-keeps limit s o stop = subst (KeepsLimit limit s) (sym stop) (λ call. absurd (false≢true call))

-- a longer list has the same prefix
WasStuck-more : (x : ExerciseView) (es fs : List Entry) (o : ℕ) → WasStuck x es o → WasStuck x (es ++ fs) o
WasStuck-more x es fs o was = record {
  prefix = was.prefix;
  back = was.back ++ fs;
  parts = ap (λ (l : List Entry). l ++ fs) was.parts ∙ append_assoc was.prefix was.back fs;
  joint = was.joint;
  run = was.run;
  stuck = was.stuck;
  waited = was.waited;
}

abbrev WereStuck : ExerciseView → List Entry → List ℕ → Type 0
WereStuck x es os = AllByRecursion (WasStuck x es) os

WereStuck-more : (x : ExerciseView) (es fs : List Entry) (os : List ℕ) → WereStuck x es os → WereStuck x (es ++ fs) os
WereStuck-more x es fs [] were = tt
WereStuck-more x es fs (o ∷ os) were = (WasStuck-more x es fs o were.0, WereStuck-more x es fs os were.1)

-- in a stuck state all that have waiters were in a stuck state
now-stuck : (x : ExerciseView) (es : List Entry) (j : JointState) → IsJointRun x es j → is_stuck (bars_of j) ≡ true → (os : List ℕ) → AreWaited j os → WereStuck x es os
now-stuck x es j run stuck [] waited = tt
now-stuck x es j run stuck (o ∷ os) waited = (
  record { prefix = es; back = []; parts = sym (append-nil es); joint = j; run = run; stuck = stuck; waited = waited.0 },
  now-stuck x es j run stuck os waited.2,
)

due-stuck : (x : ExerciseView) (es : List Entry) (j : JointState) (stops : List ℕ) → IsJointRun x es j → AreWaited j stops → WereStuck x es stops → WereStuck x es (due_by stops j)
due-stuck x es j (o ∷ os) run waited were = were
due-stuck x es j [] run waited were = go (is_stuck (bars_of j)) refl (due-waited j [] waited)
  where
    go : (b : Bool) → is_stuck (bars_of j) ≡ b → AreWaited j (if b then waited_objects j else []) → WereStuck x es (if b then waited_objects j else [])
    go true stuck due = now-stuck x es j run stuck (waited_objects j) due
    go false stuck due = tt

module _ (x : ExerciseView) (rules : Rules) (formed : IsWellFormed x) where
  start-turn : IsSoundTurn x (first_run_state x rules)
  start-turn = record { sound = IsSoundJoint-start x formed; last = omega arith; waited = tt }

  -- each turn keeps the limit
  abbrev KeepsEnds : RunState → Type 0
  KeepsEnds p = IsSoundTurn x p × AllEndWithin rules.limit p.joint

  ends-step : (p : RunState) (e : Entry) (q : RunState) → KeepsEnds p → Goes x rules p e q → KeepsEnds q
  ends-step p e q keeps goes = ((turned x rules p q e formed keeps.0 goes).1, go (due_stops p) goes)
    where
      go : (due : List ℕ) → GoesBy x rules p due e q → AllEndWithin rules.limit q.joint
      go [] m = all-step x rules.limit p.joint q.joint e m.step m.limit keeps.1
      go (object ∷ stops) h =
          all-step x rules.limit p.joint q.joint e h.step (stop-keeps rules.limit h.step.happens.thread_state e.op h.stop) keeps.1

  all-ends : (es : List Entry) (p : RunState) → BeginsAlone x rules es p → AllEndWithin rules.limit p.joint
  all-ends es p run =
      (Leads-keeps (Goes x rules) KeepsEnds ends-step es (first_run_state x rules) p (start-turn, all-start x rules.limit) run).1

  -- the events are a legal run, and each object that is still to be stopped had a waiter in a stuck state
  abbrev KeepsStops : List Entry → RunState → Type 0
  KeepsStops es p = IsSoundTurn x p × IsJointRun x es p.joint × WereStuck x es p.stops

  all-due : (es : List Entry) (p : RunState) → KeepsStops es p → WereStuck x es (due_stops p)
  all-due es p keeps = due-stuck x es p.joint p.stops keeps.1 keeps.0.waited keeps.2

  stops-step : (es : List Entry) (p : RunState) (e : Entry) (q : RunState) → KeepsStops es p → Goes x rules p e q → KeepsStops (es ++ e ∷ []) q
  stops-step es p e q keeps goes =
      let t = turned x rules p q e formed keeps.0 goes in
      (t.1, Leads-snoc (JointStep x) es e (start x) p.joint q.joint keeps.1 t.0, go (due_stops p) (all-due es p keeps) goes)
    where
      go : (due : List ℕ) → WereStuck x es due → GoesBy x rules p due e q → WereStuck x (es ++ e ∷ []) q.stops
      go [] were m = subst (WereStuck x (es ++ e ∷ [])) (sym m.stops) tt
      go (object ∷ stops) were h = subst (WereStuck x (es ++ e ∷ [])) (sym h.stops) (WereStuck-more x es (e ∷ []) stops were.1)

  all-stops : (es : List Entry) (p : RunState) → BeginsAlone x rules es p → KeepsStops es p
  all-stops es p run = runs-keep (Goes x rules) KeepsStops stops-step es [] (first_run_state x rules) p (start-turn, refl, tt) run

  -- a thread that was chosen stops nothing
  chosen-stops : (p : RunState) (e : Entry) (q : RunState) → Moves x rules p e q → e.op ≡ op.Stop → ⊥
  chosen-stops p e q m stop =
      let happens = m.step.happens in
      let lawful : Lawful happens.object_state.view e.thread op.Stop e.reply happens.state =
      subst (λ (o : Op). Lawful happens.object_state.view e.thread o e.reply happens.state) stop happens.lawful in
      let known = runs-known p.joint e.thread (chosen-runs rules.schedule (bars_of p.joint) p.last q.draw e.thread m.chosen) in
      omega (arith, lawful.main, known.0)

  stop-stuck : (before : List Entry) (p : RunState) (e : Entry) (q : RunState) → BeginsAlone x rules before p → Goes x rules p e q → e.op ≡ op.Stop → WasStuck x before e.object
  stop-stuck before p e q run goes stop = go (due_stops p) (all-due before p (all-stops before p run)) goes
    where
      go : (due : List ℕ) → WereStuck x before due → GoesBy x rules p due e q → WasStuck x before e.object
      go [] were m = absurd (chosen-stops p e q m stop)
      go (object ∷ stops) were h = subst (WasStuck x before) (sym h.object) were.0

  all-stuck : (es : List Entry) (p : RunState) → BeginsAlone x rules es p → (before later : List Entry) (e : Entry) → es ≡ before ++ e ∷ later → e.op ≡ op.Stop → WasStuck x before e.object
  all-stuck es p run before later e parts stop =
      let cut = Leads-split (Goes x rules) before (e ∷ later) (first_run_state x rules) p (subst (λ (l : List Entry). BeginsAlone x rules l p) parts run) in
      stop-stuck before cut.0 e cut.2.0 cut.1 cut.2.1 stop

-- a whole alone run is an ended run, which leaves the same joint state
pub alone-ends : (x : ExerciseView) (rules : Rules) (es : List Entry) (p : RunState) → IsWellFormed x → IsAloneRun x rules es p
    → (ended : IsEndedRun x rules.limit es) × (ended.joint ≡ p.joint)
alone-ends x rules es p formed whole = (ended, refl)
  where
    ended : IsEndedRun x rules.limit es
    ended = record {
      joint = p.joint;
      run = alone-legal x rules es p formed whole.run;
      over = whole.over;
      within = λ t s h. (all-ends x rules formed es p whole.run t s h).0;
      cut = λ t s h. (all-ends x rules formed es p whole.run t s h).1;
      stops = all-stuck x rules formed es p whole.run;
    }
