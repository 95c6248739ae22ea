use Rattle.std.proofs.Common.{◌≡◌, ℕ, Bool, List, Option, OnErr, Result, Ok, Err, sym, ◌∙◌, subst, arith}
use Rattle.tm_base.specs.declared.events.Entry.{Entry}
use Rattle.tm_text.specs.Exercises.{ExerciseView}
use Rattle.tm_collect.specs.Collectors.{CollectorView, IsCollecting}
use Rattle.tm_collect.specs.Handing.{Hands}
use Rattle.tm_collect.specs.NextEvents.{ShowsNext}
use Rattle.tm_collect.specs.Pumping.{Answers, LacksSpace}
use Rattle.tm_collect.specs.Sending.{Outlet}
use Rattle.tm_collect.proofs.NextEventsLemmas.{next-shown, next-begun}
use Rattle.tm_session.specs.declared.alone_runs.AloneRun.{AloneRun}
use Rattle.tm_base.specs.declared.rules.Rules.{Rules}
use Rattle.tm_session.specs.AloneRuns.{GoesOnBy, HasBegun, HasSent, IsUnderWay}
use Rattle.tm_session.proofs.ShownLemmas.{begun-next, begun-so_far, falls-next, formed, hands-unwritten, own-step, sent-next, sound_turn, told-next, under_way-next}
use Rattle.tm_session.proofs.alone_runs.AloneRun.turn.Goals as goal

pub go-requires-clause-running : goal.go-requires-clause-running
go-requires-clause-running g c =
    let x = c.args.exercise.now in
    let old = c.args.self.now in
    let way = c.requires.under_way in
    record {
      exercise = way.shows.collecting.exercise ∙ way.exercise;
      formed = formed x c.args.rules old way;
      sound = (sound_turn x c.args.rules old way).sound;
      early = record { events = old.collector.joint.applied; few = omega (arith, way.bounded); counted = way.counted };
      last = way.last;
      waited = way.waited;
      recorded = way.recorded;
    }

on_err : {A E P : Type 0} (r : Result A E) → P → OnErr r P
on_err (Ok a) p = tt
on_err (Err e) p = p

pub returns-in_err-entry-clause-begun : goal.returns-in_err-entry-clause-begun
returns-in_err-entry-clause-begun g c =
    on_err c.from_residual.result (λ o h. begun-so_far c.args.exercise.now c.args.rules c.args.self.now c.requires.under_way o _ h)

pub returns-in_err-hand-clause-begun : goal.returns-in_err-hand-clause-begun
returns-in_err-hand-clause-begun g c =
    on_err c.from_residual-in_err-hand.result (λ o h. begun-so_far c.args.exercise.now c.args.rules c.args.self.now c.requires.under_way o _ h)

-- the outlet of the sink once the event was handed in
abbrev outlet : Bool → ℕ → Option (List ℕ) → Outlet
outlet failed faults written = record { failed = failed; faults = faults; written = written }

module _ (x : ExerciseView) (rules : Rules) (old mid : AloneRun) (m : CollectorView) (e : Entry) (way : IsUnderWay x rules old) (goes : GoesOnBy x rules old e mid)
    (same : mid.collector ≡ old.collector) (hands : Hands mid.collector e m) where
  handed : Hands old.collector e m
  handed = subst (λ (v : CollectorView). Hands v e m) same hands

  unwritten : m.write_fault ≡ old.collector.write_fault
  unwritten = hands-unwritten old.collector m e handed

  shown : (w : CollectorView) (p q : Outlet) (n : ℕ) → IsCollecting w → Answers m w p q n → ShowsNext old.collector e goes.joint w p q
  shown w p q n kept answers =
      next-shown old.collector m w e goes.joint p q n way.shows kept (own-step x rules old way mid e goes) handed answers

  sent : (w : CollectorView) (faults : ℕ) (written : Option (List ℕ)) (q : Outlet) (n : ℕ) → IsCollecting w → Answers m w (outlet m.write_fault faults written) q n
      → (o : Outlet) → HasSent x old.collector o (outlet old.collector.write_fault faults written) → HasSent x w o q
  sent w faults written q n kept answers o h =
      sent-next x rules old way mid e goes w (outlet m.write_fault faults written) q (shown w (outlet m.write_fault faults written) q n kept answers) o
      (subst (λ (failed : Bool). HasSent x old.collector o (outlet failed faults written)) (sym unwritten) h)

  begun : (w : CollectorView) (faults : ℕ) (written : Option (List ℕ)) (q : Outlet) → LacksSpace m w (outlet m.write_fault faults written) q
      → (o : Outlet) → HasSent x old.collector o (outlet old.collector.write_fault faults written) → HasBegun x rules o.written q.written
  begun w faults written q lacks o h =
      begun-next x rules old way mid e goes o (outlet m.write_fault faults written) q
      (subst (λ (failed : Bool). HasSent x old.collector o (outlet failed faults written)) (sym unwritten) h)
      (next-begun old.collector m w e goes.joint (outlet m.write_fault faults written) q way.shows (own-step x rules old way mid e goes) handed lacks)

pub returns-in_err-pump-clause-begun : goal.returns-in_err-pump-clause-begun
returns-in_err-pump-clause-begun g c =
    on_err c.from_residual-in_err-pump.result
    (begun c.args.exercise.now c.args.rules c.args.self.now c.go.new.self c.hand.new.self c.in_ok-entry.entry c.requires.under_way c.in_ok-entry.ensures.goes c.in_ok-entry.ensures.collector
    c.in_ok-hand.ensures.hands c.pump.new.self _ _ _ c.in_err-pump.ensures.memory)

pub returns-clause-under_way : goal.returns-clause-under_way
returns-clause-under_way g c =
    let x = c.args.exercise.now in
    let goes = c.in_ok-entry.ensures.goes in
    under_way-next x c.args.rules c.args.self.now c.requires.under_way c.go.new.self c.in_ok-entry.entry goes c.pump.new.self _ _
    (shown x c.args.rules c.args.self.now c.go.new.self c.hand.new.self c.in_ok-entry.entry c.requires.under_way goes c.in_ok-entry.ensures.collector c.in_ok-hand.ensures.hands
    c.pump.new.self _ _ c.in_ok-pump.field-0 c.joint-joint.ensures.kept c.in_ok-pump.ensures.answers)

pub returns-clause-falls : goal.returns-clause-falls
returns-clause-falls g c =
    let x = c.args.exercise.now in
    let goes = c.in_ok-entry.ensures.goes in
    let falls = falls-next x c.args.rules c.args.self.now c.requires.under_way c.go.new.self c.in_ok-entry.entry goes c.pump.new.self _ _
    (shown x c.args.rules c.args.self.now c.go.new.self c.hand.new.self c.in_ok-entry.entry c.requires.under_way goes c.in_ok-entry.ensures.collector c.in_ok-hand.ensures.hands
    c.pump.new.self _ _ c.in_ok-pump.field-0 c.joint-joint.ensures.kept c.in_ok-pump.ensures.answers) in
    omega (arith, falls)

pub returns-clause-sent : goal.returns-clause-sent
returns-clause-sent g c =
    sent c.args.exercise.now c.args.rules c.args.self.now c.go.new.self c.hand.new.self c.in_ok-entry.entry c.requires.under_way c.in_ok-entry.ensures.goes c.in_ok-entry.ensures.collector
    c.in_ok-hand.ensures.hands c.pump.new.self _ _ _ c.in_ok-pump.field-0 c.joint-joint.ensures.kept c.in_ok-pump.ensures.answers

pub returns-clause-watched : goal.returns-clause-watched
returns-clause-watched g c ws before =
    let x = c.args.exercise.now in
    let goes = c.in_ok-entry.ensures.goes in
    let way = c.requires.under_way in
    let next = shown x c.args.rules c.args.self.now c.go.new.self c.hand.new.self c.in_ok-entry.entry way goes c.in_ok-entry.ensures.collector c.in_ok-hand.ensures.hands
    c.pump.new.self _ _ c.in_ok-pump.field-0 c.joint-joint.ensures.kept c.in_ok-pump.ensures.answers in
    told-next c.args.self.now.collector c.hand.new.self c.pump.new.self c.in_ok-entry.entry ws _ _ way.shows.collecting
    (handed x c.args.rules c.args.self.now c.go.new.self c.hand.new.self c.in_ok-entry.entry way goes c.in_ok-entry.ensures.collector c.in_ok-hand.ensures.hands) next.events before c.pump.ensures.watched
