use Rattle.std.proofs.Common.{◌≡◌, ◌∙◌, ◌++◌, IfOk, OnErr, Result, Ok, Err, List, [], ℕ, Bool, MatchBool, Option, true, false, length, ap, refl, sym, subst, arith}
use Rattle.std.proofs.lemmas.Result.{IfOk-weaker, on_err_weaker}
use Rattle.tm_base.specs.declared.events.Entry.{Entry}
use Rattle.tm_book.specs.Books.{BookView}
use Rattle.tm_outside.specs.Appending.{AppendsPrefix}
use Rattle.tm_outside.proofs.AppendingLemmas.{AppendsPrefix-none}
use Rattle.tm_text.specs.Exercises.{ExerciseView}
use Rattle.tm_timeline.specs.Rows.{last_line_of}
use Rattle.tm_merge.specs.Numbering.{PrefixesAreClosed}
use Rattle.tm_replay.specs.JointStates.{JointState}
use Rattle.tm_replay.specs.JointSteps.{IsJointRun}
use Rattle.tm_replay.specs.JointOrder.{AreOrdered}
use Rattle.tm_replay.specs.Bars.{bars_of, is_over}
use Rattle.tm_replay.specs.Ends.{IsEndedRun, EndsAs, end_of, named_of}
use Rattle.tm_replay.proofs.JointOrderLemmas.{runs-placed, runs-stamped}
use Rattle.tm_collect.specs.Collectors.{CollectorView, new_collector, shown_of}
use Rattle.tm_collect.specs.Sending.{IsSent, Outlet, Sends}
use Rattle.tm_collect.specs.Transcripts.{AreRows, transcript_at}
use Rattle.tm_collect.proofs.SendingLemmas.{Sends-join}
use Rattle.tm_watch.specs.Watchers.{Watch, told_all}
use Rattle.tm_session.specs.declared.alone_runs.AloneRun.{AloneRun}
use Rattle.tm_base.specs.declared.rules.Rules.{Rules}
use Rattle.tm_session.specs.declared.runs.Finished.{Finished}
use Rattle.tm_session.specs.AloneRuns.{HasSent, IsUnderWay, run_state_of}
use Rattle.tm_session.specs.AloneTexts.{IsAloneText}
use Rattle.tm_session.specs.Shelves.{AreBooksOf, entries_of}
use Rattle.tm_session.specs.Turns.{BeginsAlone, rules_of}
use Rattle.tm_session.proofs.AloneEndsLemmas.{alone-ends}
use Rattle.tm_session.proofs.ShelvesLemmas.{books-left, closed-in_books}
use Rattle.tm_session.proofs.ShownLemmas.{begun-so_far, formed, legal-so_far, ranges-so_far, sent-none, sound_turn}
use Rattle.tm_session.proofs.WholeTexts.{begins-empty}
use Rattle.tm_session.proofs.runs.alone.Goals as goal

on_err : {A E P : Type 0} (r : Result A E) → P → OnErr r P
on_err (Ok a) p = tt
on_err (Err e) p = p

-- the outlet of a sink after a run that failed so or not
abbrev after : Bool → ℕ → Option (List ℕ) → Outlet
after failed faults written = record { failed = failed; faults = faults; written = written }

module _ (x : ExerciseView) (rules : Rules) (s : AloneRun) (way : IsUnderWay x rules s) (over : is_over (bars_of s.collector.joint.state) ≡ true) where
  abbrev es : List Entry
  es = shown_of s.collector

  abbrev j : JointState
  j = s.collector.joint.state

  -- the events are an ended run, with the end and the threads that the joint state shows
  ended : (ended : IsEndedRun x rules.limit es) × (ended.joint ≡ j)
  ended = alone-ends x rules es (run_state_of s) (formed x rules s way) (record { run = way.begins; over = over })

  ends-ok : {E : Type 0} (r : Result Finished E) → IfOk r (λ f. f.end ≡ end_of rules.limit j) → IfOk r (λ f. f.cut ≡ named_of rules.limit j) → IfOk r (λ f. f.shown ≡ es)
      → IfOk r (λ f. EndsAs x rules.limit f.shown f.end f.cut)
  ends-ok (Ok f) how named shown = rw shown (record {
    run = ended.0;
    ends = how ∙ ap (end_of rules.limit) (sym ended.1);
    names = named ∙ ap (named_of rules.limit) (sym ended.1);
  })
  ends-ok (Err e) how named shown = tt

  -- and their text was sent
  text-of : (o p : Outlet) (faults : ℕ) (written : Option (List ℕ)) (f : Finished) → o.failed ≡ false → HasSent x s.collector o p
      → f.end ≡ end_of rules.limit j → f.cut ≡ named_of rules.limit j → f.shown ≡ es
      → Sends p (after f.write_fault faults written) (last_line_of x f.end (length f.shown) f.cut)
      → (bytes : List ℕ) × IsAloneText x rules f.shown f.end f.cut bytes × IsSent o (after f.write_fault faults written) bytes
  text-of o p faults written f unfailed h how named shown sent =
      let line : List ℕ = last_line_of x f.end (length f.shown) f.cut in
      let all : Sends o (after f.write_fault faults written) (h.rows ++ line) = Sends-join o p (after f.write_fault faults written) h.rows line h.sent sent in (
        h.rows ++ line,
        record {
          turn = run_state_of s;
          run = record { run = subst (λ (l : List Entry). BeginsAlone x rules l (run_state_of s)) (sym shown) way.begins; over = over };
          ended = how;
          named = named;
          transcript = transcript_at s.collector.joint h.rows;
          rows = subst (λ (l : List Entry). AreRows x l (transcript_at s.collector.joint h.rows)) (sym shown) h.transcript;
          same = refl;
          text = refl;
        },
        subst (λ (b : Bool). MatchBool b (after f.write_fault faults written ≡ o) (IsSent o (after f.write_fault faults written) (h.rows ++ line))) unfailed all,
      )

  text-ok : {E : Type 0} (o p : Outlet) (faults : ℕ) (written : Option (List ℕ)) (r : Result Finished E) → o.failed ≡ false → HasSent x s.collector o p
      → IfOk r (λ f. f.end ≡ end_of rules.limit j) → IfOk r (λ f. f.cut ≡ named_of rules.limit j) → IfOk r (λ f. f.shown ≡ es)
      → IfOk r (λ f. Sends p (after f.write_fault faults written) (last_line_of x f.end (length f.shown) f.cut))
      → IfOk r (λ f. (bytes : List ℕ) × IsAloneText x rules f.shown f.end f.cut bytes × IsSent o (after f.write_fault faults written) bytes)
  text-ok o p faults written (Err e) unfailed h how named shown sent = tt
  text-ok o p faults written (Ok f) unfailed h how named shown sent = text-of o p faults written f unfailed h how named shown sent

both-ok : {E : Type 0} (x : ExerciseView) (r : Result Finished E) (es : List Entry) (bs : List BookView) → IfOk r (λ f. f.shown ≡ es) → IfOk r (λ f. f.books ≡ bs) → AreBooksOf x es bs → IfOk r (λ f. AreBooksOf x f.shown f.books)
both-ok x (Ok f) es bs shown books p = rw shown (rw books p)
both-ok x (Err e) es bs shown books p = tt

closed-ok : {E : Type 0} (r : Result Finished E) (es : List Entry) (bs : List BookView) → IfOk r (λ f. f.shown ≡ es) → IfOk r (λ f. f.books ≡ bs) → PrefixesAreClosed es (entries_of bs)
    → IfOk r (λ f. PrefixesAreClosed f.shown (entries_of f.books))
closed-ok (Ok f) es bs shown books p = rw shown (rw books p)
closed-ok (Err e) es bs shown books p = tt

-- before the first event watchers were told of nothing
told-nothing : (ws : List Watch) (v : CollectorView) (x : ExerciseView) → v ≡ new_collector x → ws ≡ told_all ws (shown_of v)
told-nothing ws v x fresh = ap (λ (u : CollectorView). told_all ws (shown_of u)) (sym fresh)

pub loop-run-init : goal.loop-run-init
loop-run-init g c = record {
  under_way = c.in_ok-run.ensures.under_way;
  sent = sent-none c.args.exercise.now c.in_ok-run.run'.collector _ _ c.in_ok-run.ensures.fresh;
  watched = told-nothing _ c.in_ok-run.run'.collector c.args.exercise.now c.in_ok-run.ensures.fresh;
  rises = omega arith;
}

pub returns-in_err-run-clause-refused : goal.returns-in_err-run-clause-refused
returns-in_err-run-clause-refused g c =
    let written = g.K.Sink.written c.args.sink.now in
    on_err c.from_residual.result
    ([], begins-empty c.args.exercise.now (rules_of c.args.schedule c.args.limit) c.threads-threads.ensures.well_formed, AppendsPrefix-none written written [] refl)

pub returns-in_err-turn-clause-refused : goal.returns-in_err-turn-clause-refused
returns-in_err-turn-clause-refused g c =
    on_err c.from_residual-in_err-turn.result (c.in_err-turn.ensures.begun _ c.loop-run.invariant.sent)

pub returns-clause-run : goal.returns-clause-run
returns-clause-run g c =
    let s = c.loop-run.run in
    let over = sym c.is_over.ensures ∙ c.loop-run-test.false in
    text-ok c.args.exercise.now (rules_of c.args.schedule c.args.limit) s c.loop-run.invariant.under_way over _ _ _ _ c.finish.result refl c.loop-run.invariant.sent
    c.finish.ensures.end c.finish.ensures.cut c.finish.ensures.shown c.finish.ensures.sent

pub returns-clause-ended : goal.returns-clause-ended
returns-clause-ended g c =
    let over = sym c.is_over.ensures ∙ c.loop-run-test.false in
    ends-ok c.args.exercise.now (rules_of c.args.schedule c.args.limit) c.loop-run.run c.loop-run.invariant.under_way over c.finish.result
    c.finish.ensures.end c.finish.ensures.cut c.finish.ensures.shown

pub returns-clause-legal : goal.returns-clause-legal
returns-clause-legal g c =
    let x = c.args.exercise.now in
    let s = c.loop-run.run in
    let legal = legal-so_far x (rules_of c.args.schedule c.args.limit) s c.loop-run.invariant.under_way in
    IfOk-weaker c.finish.result (λ f. f.shown ≡ shown_of s.collector) (λ f. (j : JointState) × IsJointRun x f.shown j)
    (λ f shown. (s.collector.joint.state, subst (λ (es : List Entry). IsJointRun x es s.collector.joint.state) (sym shown) legal)) c.finish.ensures.shown

pub returns-clause-ordered : goal.returns-clause-ordered
returns-clause-ordered g c =
    let x = c.args.exercise.now in
    let s = c.loop-run.run in
    let legal = legal-so_far x (rules_of c.args.schedule c.args.limit) s c.loop-run.invariant.under_way in
    IfOk-weaker c.finish.result (λ f. f.shown ≡ shown_of s.collector) (λ f. AreOrdered f.shown)
    (λ f shown. rw shown (record {
      placed = runs-placed x (shown_of s.collector) s.collector.joint.state legal;
      stamped = runs-stamped x (shown_of s.collector) s.collector.joint.state legal;
    })) c.finish.ensures.shown

pub returns-clause-closed : goal.returns-clause-closed
returns-clause-closed g c =
    let x = c.args.exercise.now in
    let rules = rules_of c.args.schedule c.args.limit in
    let s = c.loop-run.run in
    let way = c.loop-run.invariant.under_way in
    closed-ok c.finish.result (shown_of s.collector) s.books.items c.finish.ensures.shown c.finish.ensures.books
    (closed-in_books x (shown_of s.collector) s.collector.joint.state s.books.items s.tickets.items (sound_turn x rules s way).sound (legal-so_far x rules s way) (ranges-so_far x rules s way) way.recorded)

pub returns-clause-books : goal.returns-clause-books
returns-clause-books g c =
    let x = c.args.exercise.now in
    let rules = rules_of c.args.schedule c.args.limit in
    let s = c.loop-run.run in
    let way = c.loop-run.invariant.under_way in
    both-ok x c.finish.result (shown_of s.collector) s.books.items c.finish.ensures.shown c.finish.ensures.books
    (books-left x (shown_of s.collector) s.collector.joint.state s.books.items s.tickets.items (sound_turn x rules s way).sound (legal-so_far x rules s way) way.recorded)

pub returns-clause-refused : goal.returns-clause-refused
returns-clause-refused g c =
    let x = c.args.exercise.now in
    let rules = rules_of c.args.schedule c.args.limit in
    let s = c.loop-run.run in
    on_err_weaker c.finish.result
    (λ (kept : g.K.Sink.written c.finish.new.sink ≡ g.K.Sink.written c.loop-run.sink).
    let begun = begun-so_far x rules s c.loop-run.invariant.under_way _ _ c.loop-run.invariant.sent in
    (begun.0, begun.1, subst (λ (w : Option (List ℕ)). AppendsPrefix (g.K.Sink.written c.args.sink.now) w begun.0) (sym kept) begun.2))
    c.finish.ensures.kept

pub returns-clause-watched : goal.returns-clause-watched
returns-clause-watched g c =
    IfOk-weaker c.finish.result (λ f. f.shown ≡ shown_of c.loop-run.run.collector) _
    (λ f shown. c.loop-run.invariant.watched ∙ ap (told_all _) (sym shown)) c.finish.ensures.shown
