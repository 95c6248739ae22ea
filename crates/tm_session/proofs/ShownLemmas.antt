-- What a run is once the collector has shown its next event.
use Rattle.std.proofs.Common.{◌≡◌, ℕ, ◌+◌, ◌≤◌, false, List, [], ◌∷◌, ◌++◌, All, length, take, drop, Option, Some, None, MatchOption, refl, ap, sym, ◌∙◌, subst, arith}
use Rattle.std.proofs.lemmas.List.{length-take-le}
use Rattle.std.proofs.Math.Seq.{drop-append_seam, take-length}
use Rattle.tm_base.specs.declared.events.Entry.{Entry}
use Rattle.tm_base.specs.Runs.{Leads}
use Rattle.tm_laws.proofs.RunsLemmas.{Leads-snoc}
use Rattle.tm_outside.specs.Appending.{AppendsPrefix}
use Rattle.tm_outside.proofs.AppendingLemmas.{AppendsPrefix-more}
use Rattle.tm_text.specs.Exercises.{ExerciseView, IsWellFormed}
use Rattle.tm_timeline.specs.Rows.{row_of}
use Rattle.tm_replay.specs.JointStates.{JointState}
use Rattle.tm_replay.specs.JointSteps.{IsJointRun, JointStep}
use Rattle.tm_replay.specs.Bars.{bars_of}
use Rattle.tm_replay.specs.Work.{IsCounted, work}
use Rattle.tm_merge.specs.Refusals.{refusal}
use Rattle.tm_merge.specs.declared.refusals.Refused.{Refused}
use Rattle.tm_collect.specs.declared.refusals.Refusal.{Refusal}
use Rattle.tm_collect.specs.declared.refusals.Refusal.TheVariants as refusals
use Rattle.tm_collect.specs.Collectors.{CollectorView, IsCollecting, new_collector, shown_of}
use Rattle.tm_collect.specs.Advancing.{IsInRange}
use Rattle.tm_collect.specs.Handing.{Hands, Takes, refused}
use Rattle.tm_collect.specs.NextEvents.{ShowsNext, next_row}
use Rattle.tm_collect.specs.Sending.{Outlet, SendsPrefix}
use Rattle.tm_collect.specs.Watching.{newly_shown}
use Rattle.tm_collect.proofs.WatchingLemmas.{told-join}
use Rattle.tm_joint.specs.Joints.{JointView}
use Rattle.tm_watch.specs.Watchers.{Watch, told_all}
use Rattle.tm_collect.specs.Transcripts.{AddsRow, first_joint, transcript_at}
use Rattle.tm_collect.proofs.CollectingLemmas.{All-front}
use Rattle.tm_collect.proofs.SendingLemmas.{Sends-join, Sends-none, Sends-prefix, SendsPrefix-join}
use Rattle.tm_session.specs.declared.alone_runs.AloneRun.{AloneRun}
use Rattle.tm_base.specs.declared.rules.Rules.{Rules}
use Rattle.tm_session.specs.AloneRuns.{GoesOnBy, HasBegun, HasSent, IsUnderWay, run_state_at, run_state_of}
use Rattle.tm_session.specs.Records.{HaveRecorded}
use Rattle.tm_session.specs.Turns.{RunState, AreWaited, BeginsAlone, Goes, first_run_state}
use Rattle.tm_session.proofs.Turning.{IsSoundTurn, alone-legal, begun-sound, turned, turn-counts}
use Rattle.tm_session.proofs.WholeTexts.{begins-text}

-- the run with this collector in the place of its own
abbrev pub with_collector : AloneRun → CollectorView → AloneRun
with_collector r v = record { books = r.books; tickets = r.tickets; collector = v; last = r.last; draw = r.draw; stops = r.stops }

module _ (x : ExerciseView) (rules : Rules) (old : AloneRun) (way : IsUnderWay x rules old) where
  pub formed : IsWellFormed x
  formed = subst IsWellFormed way.exercise way.shows.formed

  pub sound_turn : IsSoundTurn x (run_state_of old)
  sound_turn = begun-sound x rules (shown_of old.collector) (run_state_of old) formed way.begins

  -- the events so far are a legal run of all objects together
  pub legal-so_far : IsJointRun x (shown_of old.collector) old.collector.joint.state
  legal-so_far = alone-legal x rules (shown_of old.collector) (run_state_of old) formed way.begins

  pub ranges-so_far : All (IsInRange x) (shown_of old.collector)
  ranges-so_far =
      let whole = way.shows.collecting.whole way.shows.unrefused way.shows.ample in
      let all : shown_of old.collector ≡ old.collector.merger.shown = ap (λ (n : ℕ). take n old.collector.merger.shown) whole ∙ take-length old.collector.merger.shown in
      subst (All (IsInRange x)) (sym all) (subst (λ (y : ExerciseView). All (IsInRange y) old.collector.merger.shown) way.exercise
      (All-front (IsInRange old.collector.exercise) old.collector.merger.shown old.collector.merger.held way.shows.collecting.ranges))

  -- the rows that were sent begin the alone run's text
  pub begun-so_far : (o p : Outlet) → HasSent x old.collector o p → HasBegun x rules o.written p.written
  begun-so_far o p h = (
    h.rows,
    begins-text x rules formed (shown_of old.collector) (run_state_of old) (transcript_at old.collector.joint h.rows) way.begins h.transcript refl,
    Sends-prefix o p h.rows h.sent,
  )

  module _ (mid : AloneRun) (e : Entry) (goes : GoesOnBy x rules old e mid) where
    abbrev after : RunState
    after = run_state_at goes.joint mid

    pub next-step : JointStep x old.collector.joint.state e goes.joint
    next-step = (turned x rules (run_state_of old) after e formed sound_turn goes.goes).0

    next-turn : IsSoundTurn x after
    next-turn = (turned x rules (run_state_of old) after e formed sound_turn goes.goes).1

    counts : IsCounted (old.collector.joint.applied + 1) goes.joint × (work rules.limit goes.joint + 1 ≤ work rules.limit old.collector.joint.state)
    counts = turn-counts x rules old.collector.joint.applied (run_state_of old) after e formed sound_turn way.counted goes.goes

    begins-next : BeginsAlone x rules (shown_of old.collector ++ e ∷ []) after
    begins-next = Leads-snoc (Goes x rules) (shown_of old.collector) e (first_run_state x rules) (run_state_of old) after way.begins goes.goes

    pub own-step : JointStep old.collector.exercise old.collector.joint.state e goes.joint
    own-step = subst (λ (y : ExerciseView). JointStep y old.collector.joint.state e goes.joint) (sym way.exercise) next-step

    adds-next : (rows : List ℕ) (w : CollectorView) → w.joint.state ≡ goes.joint → w.joint.applied ≡ old.collector.joint.applied + 1
        → AddsRow x (transcript_at old.collector.joint rows) e (transcript_at w.joint (rows ++ next_row old.collector e goes.joint))
    adds-next rows w state count = record {
      step = subst (JointStep x old.collector.joint.state e) (sym state) next-step;
      count = count;
      rows = ap (λ (y : ExerciseView). rows ++ row_of y (old.collector.joint.applied + 1) e (bars_of goes.joint)) way.exercise
          ∙ ap (λ (n : ℕ). rows ++ row_of x n e (bars_of goes.joint)) (sym count) ∙ ap (λ (j : JointState). rows ++ row_of x w.joint.applied e (bars_of j)) (sym state);
    }

    -- where memory runs out the first bytes of the event's row follow those rows
    pub begun-next : (o p q : Outlet) → HasSent x old.collector o p → SendsPrefix p q (next_row old.collector e goes.joint) → HasBegun x rules o.written q.written
    begun-next o p q h sends =
        let row : List ℕ = next_row old.collector e goes.joint in
        let all : SendsPrefix o q (h.rows ++ row) = SendsPrefix-join o p q h.rows row h.sent sends in
        let next : JointStep x old.collector.joint.state e goes.joint = next-step in (
          h.rows ++ row,
          begins-text x rules formed (shown_of old.collector ++ e ∷ []) after
              (record { joint = goes.joint; count = old.collector.joint.applied + 1; rows = h.rows ++ row }) begins-next
              (Leads-snoc (AddsRow x) (shown_of old.collector) e (transcript_at (first_joint x) []) (transcript_at old.collector.joint h.rows) _ h.transcript (record {
                step = next;
                count = refl;
                rows = ap (λ (y : ExerciseView). h.rows ++ row_of y (old.collector.joint.applied + 1) e (bars_of goes.joint)) way.exercise;
              })) refl,
          subst (AppendsPrefix o.written q.written) (sym all.split) (AppendsPrefix-more o.written q.written all.prefix all.back (Sends-prefix o q all.prefix all.sent)),
        )

    module _ (w : CollectorView) (p q : Outlet) (shows : ShowsNext old.collector e goes.joint w p q) where
      pub under_way-next : IsUnderWay x rules (with_collector mid w)
      under_way-next = record {
        shows = shows.all;
        exercise = shows.exercise ∙ way.exercise;
        last = next-turn.last;
        waited = subst (λ (j : JointState). AreWaited j mid.stops.items) (sym shows.state) next-turn.waited;
        counted = subst (λ (n : ℕ). IsCounted n w.joint.state) (sym shows.count)
            (subst (IsCounted (old.collector.joint.applied + 1)) (sym shows.state) counts.0);
        bounded =
            let left : work rules.limit w.joint.state ≡ work rules.limit goes.joint = ap (work rules.limit) shows.state in
            omega (arith, left, shows.count, counts.1, way.bounded);
        begins = subst (λ (es : List Entry). BeginsAlone x rules es (run_state_at w.joint.state mid)) (sym shows.events)
            (subst (λ (j : JointState). BeginsAlone x rules (shown_of old.collector ++ e ∷ []) (run_state_at j mid)) (sym shows.state) begins-next);
        recorded = subst (λ (es : List Entry). HaveRecorded es w.joint.state mid.books.items mid.tickets.items) (sym shows.events)
            (subst (λ (j : JointState). HaveRecorded (shown_of old.collector ++ e ∷ []) j mid.books.items mid.tickets.items) (sym shows.state) goes.recorded);
      }

      pub falls-next : work rules.limit w.joint.state + 1 ≤ work rules.limit old.collector.joint.state
      falls-next =
          let left : work rules.limit w.joint.state ≡ work rules.limit goes.joint = ap (work rules.limit) shows.state in
          omega (arith, left, counts.1)

      pub sent-next : (o : Outlet) → HasSent x old.collector o p → HasSent x w o q
      sent-next o h =
          let row : List ℕ = next_row old.collector e goes.joint in
          record {
            rows = h.rows ++ row;
            transcript = subst (λ (es : List Entry). Leads (AddsRow x) (transcript_at (first_joint x) []) es (transcript_at w.joint (h.rows ++ row))) (sym shows.events)
                (Leads-snoc (AddsRow x) (shown_of old.collector) e (transcript_at (first_joint x) []) (transcript_at old.collector.joint h.rows) (transcript_at w.joint (h.rows ++ row))
                h.transcript (adds-next h.rows w shows.state shows.count));
            sent = Sends-join o p q h.rows row h.sent shows.sent;
          }

-- handing an event in writes nothing
pub hands-unwritten : (v m : CollectorView) (e : Entry) → Hands v e m → m.write_fault ≡ v.write_fault
hands-unwritten v m e hands = by_kept v.refusal hands
  where
    by_offer : (r : Option Refused) → MatchOption r (Takes v e m) (λ r. m ≡ refused v (refusals.Offer r)) → m.write_fault ≡ v.write_fault
    by_offer None takes = takes.write_fault
    by_offer (Some r) same = ap (λ (w : CollectorView). w.write_fault) same

    by_kept : (r : Option Refusal) → MatchOption r ((v.short ≡ false) × MatchOption (refusal v.merger e) (Takes v e m) (λ r. m ≡ refused v (refusals.Offer r))) (λ r. m ≡ v) → m.write_fault ≡ v.write_fault
    by_kept None h = by_offer (refusal v.merger e) h.1
    by_kept (Some r) same = ap (λ (w : CollectorView). w.write_fault) same

-- before the first event nothing was sent
pub sent-none : (x : ExerciseView) (v : CollectorView) (faults : ℕ) (written : Option (List ℕ)) → v ≡ new_collector x
    → HasSent x v (record { failed = false; faults = faults; written = written }) (record { failed = v.write_fault; faults = faults; written = written })
sent-none x v faults written fresh =
    let outlet : Outlet = record { failed = false; faults = faults; written = written } in
    subst (λ (u : CollectorView). HasSent x u outlet (record { failed = u.write_fault; faults = faults; written = written })) (sym fresh)
    (record { rows = []; transcript = refl; sent = Sends-none outlet })

-- nor does it apply anything
pub hands-unapplied : (v m : CollectorView) (e : Entry) → Hands v e m → m.joint ≡ v.joint
hands-unapplied v m e hands = by_kept v.refusal hands
  where
    by_offer : (r : Option Refused) → MatchOption r (Takes v e m) (λ r. m ≡ refused v (refusals.Offer r)) → m.joint ≡ v.joint
    by_offer None takes = takes.joint
    by_offer (Some r) same = ap (λ (w : CollectorView). w.joint) same

    by_kept : (r : Option Refusal) → MatchOption r ((v.short ≡ false) × MatchOption (refusal v.merger e) (Takes v e m) (λ r. m ≡ refused v (refusals.Offer r))) (λ r. m ≡ v) → m.joint ≡ v.joint
    by_kept None h = by_offer (refusal v.merger e) h.1
    by_kept (Some r) same = ap (λ (w : CollectorView). w.joint) same

-- so watchers that were told of all events before are told of the next one
pub told-next : (v m w : CollectorView) (e : Entry) (ws us vs : List Watch) → IsCollecting v → Hands v e m → shown_of w ≡ shown_of v ++ e ∷ []
    → us ≡ told_all ws (shown_of v) → vs ≡ told_all us (newly_shown m w) → vs ≡ told_all ws (shown_of w)
told-next v m w e ws us vs kept hands events before later =
    let count : length (shown_of v) ≡ v.joint.applied = length-take-le v.joint.applied v.merger.shown kept.within in
    let news : newly_shown m w ≡ e ∷ [] =
    ap (λ (j : JointView). drop j.applied (shown_of w)) (hands-unapplied v m e hands) ∙ ap (drop v.joint.applied) events
    ∙ ap (λ (n : ℕ). drop n (shown_of v ++ e ∷ [])) (sym count) ∙ drop-append_seam (shown_of v) (e ∷ []) in
    later ∙ ap (told_all us) news ∙ ap (λ (l : List Watch). told_all l (e ∷ [])) before ∙ sym (told-join ws (shown_of v) (e ∷ [])) ∙ ap (told_all ws) (sym events)
