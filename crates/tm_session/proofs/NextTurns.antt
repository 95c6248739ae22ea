-- A run that isn't over has a next event.
use Rattle.std.proofs.Common.{◌≡◌, ℕ, suc, ◌<◌, ◌≤◌, max, Bool, true, false, ⊎_elim, inl, inr, if◌then◌else◌, List, [], ◌∷◌, length, Option, Some, None, slice_get, slice_set, MatchBool, refl, ap, sym, ◌∙◌, subst, arith}
use Rattle.std.proofs.lemmas.Bool.{cases_lt, false≢true}
use Rattle.tm_base.specs.declared.operations.Op.{Op}
use Rattle.tm_base.specs.declared.operations.Op.TheVariants as op
use Rattle.tm_base.specs.declared.asks.Ask.{Ask}
use Rattle.tm_base.specs.declared.asks.Ask.TheVariants as ask
use Rattle.tm_base.specs.declared.events.Entry.{Entry}
use Rattle.tm_laws.proofs.AnsweredLemmas.{Lawful-answered}
use Rattle.tm_text.specs.Exercises.{ExerciseView, IsWellFormed, own_of}
use Rattle.tm_programs.specs.Programs.{is_stopped, next_ask}
use Rattle.tm_replay.specs.declared.phases.Phase.{Phase}
use Rattle.tm_replay.specs.declared.phases.Phase.TheVariants as phase
use Rattle.tm_replay.specs.JointStates.{JointState, ThreadState, ObjectState}
use Rattle.tm_base.specs.Fits.{is_call}
use Rattle.tm_replay.specs.JointSteps.{MayIn, MayAsk, JointStep, entered, stepped}
use Rattle.tm_replay.specs.Bars.{bars_of, is_over}
use Rattle.tm_replay.proofs.SliceLemmas.{found_at}
use Rattle.tm_session.specs.declared.next_calls.NextCall.{NextCall}
use Rattle.tm_base.specs.declared.rules.Rules.{Rules}
use Rattle.tm_session.specs.Choices.{chosen_thread, draw_after}
use Rattle.tm_session.specs.Turns.{AreWaited}
use Rattle.tm_session.specs.NextCalls.{AsksCalls, GoesOn}
use Rattle.tm_session.specs.Turns.{RunState, GoesBy, KeepsLimit, due_stops}
use Rattle.tm_session.proofs.ChoicesLemmas.{bars-count, some-chosen}
use Rattle.tm_session.proofs.MoveOnLemmas.{ActsAt, chosen, chosen-goes, chosen-asks, chosen-acts, halting}
use Rattle.tm_session.proofs.Stopping.{due-waited, none-due}
use Rattle.tm_session.proofs.Turning.{IsSoundTurn}

-- a call keeps the limit where fewer were made
keeps-below : (limit : ℕ) (s : ThreadState) (o : Op) → is_call o ≡ true → s.made < limit → KeepsLimit limit s o
keeps-below limit s (op.End cut) call below = absurd cc
keeps-below limit s o call below = λ _. below

-- what a thread does next by its phase, its program and its limit
pub record HasNextCall (own limit : ℕ) (p : Phase) (s : ThreadState) : Type 0 where
  pub call : NextCall
  pub may : MayIn own p s.rest call.object call.op
  pub keeps : KeepsLimit limit s call.op

module _ (own limit : ℕ) (s : ThreadState) (asks : AsksCalls s.rest) where
  by_ask : (k : Ask) → next_ask s.rest.program s.rest.registers ≡ k → is_stopped s.rest.last ≡ false → (object : ℕ) × (o : Op) × MayAsk own (Some k) object o × KeepsLimit limit s o
  by_ask ask.Over asked going = (own, op.End false, (refl, refl), λ e. absurd (false≢true e))
  by_ask (ask.Call object o) asked going = ⊎_elim
      (λ (below : s.made < limit). (object, o, inl (refl, refl), keeps-below limit s o (asks object o asked) below))
      (λ (full : limit ≤ s.made). (own, op.End true, inr (refl, refl), λ _. subst (λ (b : Bool). MatchBool b (Unit {0}) (limit ≤ s.made)) (sym going) full))
      (cases_lt s.made limit)

  by_last : (v : Bool) → is_stopped s.rest.last ≡ v → (object : ℕ) × (o : Op) × MayAsk own (if v then None else Some (next_ask s.rest.program s.rest.registers)) object o × KeepsLimit limit s o
  by_last true e = (own, op.End true, (refl, refl), λ _. subst (λ (b : Bool). MatchBool b (Unit {0}) (limit ≤ s.made)) (sym e) tt)
  by_last false e = by_ask (next_ask s.rest.program s.rest.registers) refl e

  has_next_call : (p : Phase) → GoesOn p → HasNextCall own limit p s
  has_next_call phase.Main goes = elim goes [ ]
  has_next_call (phase.Ended cut) goes = elim goes [ ]
  has_next_call phase.NotBegun goes = record { call = record { object = own; op = op.Begin }; may = (refl, refl); keeps = λ e. absurd (false≢true e) }
  has_next_call (phase.Waits at) goes = record { call = record { object = at; op = op.Resume }; may = (refl, refl); keeps = λ e. absurd (false≢true e) }
  has_next_call phase.Free goes =
      let next = by_last (is_stopped s.rest.last) refl in
      record { call = record { object = next.0; op = next.1 }; may = next.2; keeps = next.3 }

module _ (x : ExerciseView) (rules : Rules) (p : RunState) (formed : IsWellFormed x) (sound : IsSoundTurn x p) where
  -- the run has a next event, where these objects are due
  pub record GoesNext (due : List ℕ) : Type 0 where
    pub event : Entry
    pub next : RunState
    pub goes : GoesBy x rules p due event next

  -- a thread's call is a joint step, with a reply of its object
  record StepsNext (t : ℕ) (s : ThreadState) (w : NextCall) : Type 0 where
    pub event : Entry
    pub by : event.thread ≡ t
    pub on : event.object ≡ w.object
    pub does : event.op ≡ w.op
    pub joint : JointState
    pub step : JointStep x p.joint event joint
    pub same : step.happens.thread_state ≡ s

  steps_next : (t : ℕ) (s : ThreadState) (w : NextCall) → slice_get p.joint.threads t ≡ Some s → MayIn (own_of x.objects t) s.phase s.rest w.object w.op → ActsAt p.joint t s w → StepsNext t s w
  steps_next t s w seat may a =
      let b : ObjectState = a.answerable.object_state in
      let placed = sound.sound.objects w.object b a.answerable.found in
      let lawful = Lawful-answered b.view t w.op placed.sound a.answerable.answers in
      let e : Entry = record { thread = t; place = s.next; object = w.object; at = suc b.at; stamp = suc (max s.stamp b.stamp); op = w.op; reply = lawful.0 } in
      record {
        event = e;
        by = refl;
        on = refl;
        does = refl;
        joint = record { objects = slice_set p.joint.objects w.object (entered b e lawful.1); threads = slice_set p.joint.threads t (stepped s e) };
        step = record {
          happens = record {
            thread_state = s;
            thread = seat;
            object_state = b;
            object = a.answerable.found;
            place = refl;
            at = refl;
            stamp = refl;
            state = lawful.1;
            lawful = lawful.2;
            objects = refl;
            threads = refl;
          };
          may = may;
        };
        same = refl;
      }

  -- `main` stops the object
  next-halt : (object : ℕ) (stops : List ℕ) → AreWaited p.joint (object ∷ stops) → GoesNext (object ∷ stops)
  next-halt object stops waited =
      let h = halting x p.joint formed sound.sound object waited.0 in
      let may : MayIn (own_of x.objects 0) h.thread_state.phase h.thread_state.rest object op.Stop =
      subst (λ (q : Phase). MayIn (own_of x.objects 0) q h.thread_state.rest object op.Stop) (sym h.main) refl in
      let n = steps_next 0 h.thread_state (record { object = object; op = op.Stop }) h.thread may h.acts in
      record {
        event = n.event;
        next = record { joint = n.joint; last = p.last; draw = p.draw; stops = stops };
        goes = record { step = n.step; stop = n.does; object = n.on; stops = refl; last = refl; draw = refl };
      }

  -- the thread that the schedule chooses goes on, within its limit
  moves-next : (t : ℕ) (s : ThreadState) (w : NextCall) → StepsNext t s w → KeepsLimit rules.limit s w.op
      → chosen_thread rules.schedule (bars_of p.joint) p.last (draw_after rules.schedule p.draw) ≡ Some t → GoesNext []
  moves-next t s w n keeps h =
      let does : KeepsLimit rules.limit s n.event.op = subst (λ (o : Op). KeepsLimit rules.limit s o) (sym n.does) keeps in
      record {
        event = n.event;
        next = record { joint = n.joint; last = n.event.thread; draw = draw_after rules.schedule p.draw; stops = [] };
        goes = record {
          step = n.step;
          draw = refl;
          chosen = h ∙ ap Some (sym n.by);
          limit = subst (λ (u : ThreadState). KeepsLimit rules.limit u n.event.op) (sym n.same) does;
          stops = refl;
          last = refl;
        };
      }

  next-move : (t : ℕ) → chosen_thread rules.schedule (bars_of p.joint) p.last (draw_after rules.schedule p.draw) ≡ Some t → GoesNext []
  next-move t h =
      let c = chosen x p.joint formed sound.sound rules.schedule p.last (draw_after rules.schedule p.draw) t h in
      let seat = found_at p.joint.threads t c.within in
      let asks = chosen-asks x p.joint formed sound.sound t seat.0 c seat.1 in
      let goes = chosen-goes x p.joint formed sound.sound t seat.0 c seat.1 in
      let next = has_next_call (own_of x.objects t) rules.limit seat.0 asks seat.0.phase goes in
      let acts = chosen-acts x p.joint formed sound.sound t seat.0 c seat.1 next.call next.may in
      moves-next t seat.0 next.call (steps_next t seat.0 next.call seat.1 next.may acts) next.keeps h

  -- where nothing is due a thread is chosen
  next-chosen : is_over (bars_of p.joint) ≡ false → due_stops p ≡ [] → GoesNext []
  next-chosen going none = by_choice (chosen_thread rules.schedule (bars_of p.joint) p.last (draw_after rules.schedule p.draw)) refl
    where
      by_choice : (o : Option ℕ) → chosen_thread rules.schedule (bars_of p.joint) p.last (draw_after rules.schedule p.draw) ≡ o → GoesNext []
      by_choice (Some t) h = next-move t h
      by_choice None h =
          let low : p.last ≤ length (bars_of p.joint) = omega (arith, sound.last, bars-count p.joint, sound.sound.thread_count) in
          absurd (some-chosen rules.schedule (bars_of p.joint) p.last (draw_after rules.schedule p.draw) low going (none-due x p.joint p.stops sound.sound none).0 h)

  pub next-event : is_over (bars_of p.joint) ≡ false → GoesNext (due_stops p)
  next-event going = by_due (due_stops p) refl (due-waited p.joint p.stops sound.waited)
    where
      by_due : (due : List ℕ) → due_stops p ≡ due → AreWaited p.joint due → GoesNext due
      by_due [] e waited = next-chosen going e
      by_due (object ∷ stops) e waited = next-halt object stops waited
