-- A collector that has shown all that arrived shows the next event of a run.
use Rattle.std.proofs.Common.{◌≡◌, ℕ, ◌+◌, ◌≤◌, true, false, ◌⊎◌, inl, inr, List, [], ◌∷◌, ◌++◌, length, take, slice_get, Contains, Option, Some, None, MatchOption, MatchBool, Bool, refl, sym, ap, ◌∙◌, subst, append-nil, arith}
use Rattle.std.specs.List.Sorted.{IsPermutation}
use Rattle.std.proofs.Math.Seq.{take-length, take-append_seam}
use Rattle.std.proofs.lemmas.List.{append_cancel_left, length-append, length-take, take_all}
use Rattle.std.proofs.lemmas.Option.{slice_get_within}
use Rattle.tm_base.specs.declared.events.Entry.{Entry}
use Rattle.tm_base.specs.Runs.{Leads}
use Rattle.tm_laws.proofs.RunsLemmas.{Leads-keeps}
use Rattle.tm_text.specs.Exercises.{ExerciseView, IsWellFormed}
use Rattle.tm_timeline.specs.Rows.{row_of}
use Rattle.tm_merge.specs.MergerViews.{arrived}
use Rattle.tm_merge.specs.declared.refusals.Refused.{Refused}
use Rattle.tm_merge.specs.Places.{has_predecessors}
use Rattle.tm_merge.specs.Refusals.{refusal, range_fault}
use Rattle.tm_merge.proofs.ListLemmas.{slice_get-snoc_last}
use Rattle.tm_replay.specs.JointStates.{JointState, start}
use Rattle.tm_replay.specs.JointSteps.{JointStep, IsJointRun}
use Rattle.tm_replay.specs.Bars.{bars_of}
use Rattle.tm_replay.specs.SoundStates.{IsSoundJoint}
use Rattle.tm_replay.proofs.Soundness.{IsSoundJoint-step}
use Rattle.tm_replay.proofs.JointStartLemmas.{IsSoundJoint-start}
use Rattle.tm_replay.proofs.DeterminedStepsLemmas.{Happens-one}
use Rattle.tm_joint.specs.Joints.{JointView}
use Rattle.tm_joint.specs.Refusals.{Refuses}
use Rattle.tm_joint.proofs.RefusalsLemmas.{Refuses-no_step}
use Rattle.tm_collect.specs.declared.refusals.Refusal.{Refusal}
use Rattle.tm_collect.specs.declared.refusals.Refusal.TheVariants as refusals
use Rattle.tm_collect.specs.Transcripts.{Transcript, transcript_at, AddsRow}
use Rattle.tm_collect.specs.Sending.{Outlet, Sends, SendsPrefix}
use Rattle.tm_collect.specs.Advancing.{Advances}
use Rattle.tm_collect.specs.Collectors.{CollectorView, IsCollecting, shown_of}
use Rattle.tm_collect.specs.Handing.{Takes, Offers, Hands, refused}
use Rattle.tm_collect.specs.Pumping.{Pumps, Answers, IsOfNext, Rests, RunsOut, LacksSpace}
use Rattle.tm_collect.specs.NextEvents.{ShowsAll, next_row, ShowsNext}
use Rattle.tm_collect.proofs.NextPlacesLemmas.{next-counted, next-own, next-rises, next-ready}
use Rattle.tm_collect.proofs.NextArrivalsLemmas.{unfaulted, not-refused, one-permuted, ShowsAlone, settles-alone}

-- the event, which can happen next, is all that is held, and is ready
record IsWaiting (m : CollectorView) (e : Entry) (k : JointState) : Type 0 where
  formed : IsWellFormed m.exercise
  unrefused : m.refusal ≡ None
  ample : m.short ≡ false
  whole : m.joint.applied ≡ length m.merger.shown
  held : m.merger.held ≡ e ∷ []
  ready : has_predecessors m.merger.shown e ≡ true
  step : JointStep m.exercise m.joint.state e k

module _ (v : CollectorView) (e : Entry) (k : JointState) (all : ShowsAll v) (step : JointStep v.exercise v.joint.state e k) where
  applied : v.joint.applied ≡ length v.merger.shown
  applied = all.collecting.whole all.unrefused all.ample

  run : IsJointRun v.exercise v.merger.shown v.joint.state
  run =
      let shown : shown_of v ≡ v.merger.shown = ap (λ (n : ℕ). take n v.merger.shown) applied ∙ take-length v.merger.shown in
      subst (λ (es : List Entry). IsJointRun v.exercise es v.joint.state) shown all.collecting.run

  sound : IsSoundJoint v.exercise v.joint.state
  sound = Leads-keeps (JointStep v.exercise) (IsSoundJoint v.exercise) (λ p f q holds moves. IsSoundJoint-step v.exercise p q f all.formed holds moves)
      v.merger.shown (start v.exercise) v.joint.state (IsSoundJoint-start v.exercise all.formed) run

  among : (a : Entry) → Contains (arrived v.merger) a → Contains v.merger.shown a
  among a within =
      let none : arrived v.merger ≡ v.merger.shown = ap (λ (l : List Entry). v.merger.shown ++ l) all.shown ∙ append-nil v.merger.shown in
      subst (λ (l : List Entry). Contains l a) none within

  in_range : range_fault v.merger e ≡ None
  in_range =
      let counted = next-counted v.exercise v.merger.shown v.joint.state e k run step in
      let thread = slice_get_within v.joint.state.threads e.thread step.happens.thread_state step.happens.thread in
      let object = slice_get_within v.joint.state.objects e.object step.happens.object_state step.happens.object in
      unfaulted v.merger e (omega (arith, thread, sound.thread_count, all.collecting.threads)) (omega (arith, object, sound.object_count, all.collecting.objects))
      counted.0 counted.1 counted.2

  accepts : refusal v.merger e ≡ None
  accepts = not-refused v.merger e in_range
      (λ a within shares. next-own v.exercise v.merger.shown v.joint.state e k run step a (among a within) shares)
      (λ a within breaks. next-rises v.exercise v.merger.shown v.joint.state e k run step a (among a within) breaks)

  takes : (m : CollectorView) → Hands v e m → Takes v e m
  takes m hands =
      let offers : (v.short ≡ false) × Offers v e m = subst (λ (r : Option Refusal). MatchOption r ((v.short ≡ false) × Offers v e m) (λ _. m ≡ v)) all.unrefused hands in
      subst (λ (r : Option Refused). MatchOption r (Takes v e m) (λ s. m ≡ refused v (refusals.Offer s))) accepts offers.1

  waits : (m : CollectorView) → Takes v e m → IsWaiting m e k
  waits m took = record {
    formed = subst IsWellFormed (sym took.exercise) all.formed;
    unrefused = took.refusal ∙ all.unrefused;
    ample = took.short ∙ all.ample;
    whole = ap (λ (j : JointView). j.applied) took.joint ∙ applied ∙ ap length (sym took.joins.shown);
    held = one-permuted e m.merger.held (subst (λ (l : List Entry). IsPermutation (e ∷ l) m.merger.held) all.shown took.joins.held);
    ready = ap (λ (l : List Entry). has_predecessors l e) took.joins.shown ∙ next-ready v.exercise v.merger.shown v.joint.state e k run step;
    step = subst (λ (x : ExerciseView). JointStep x m.joint.state e k) (sym took.exercise)
        (subst (λ (j : JointView). JointStep v.exercise j.state e k) (sym took.joint) step);
  }

-- what the collector showed before, and its next row
same-shown : (v m : CollectorView) (e : Entry) → Takes v e m → shown_of m ≡ shown_of v
same-shown v m e took =
    ap (λ (j : JointView). take j.applied m.merger.shown) took.joint ∙ ap (take v.joint.applied) took.joins.shown

same-row : (v m : CollectorView) (e : Entry) (k : JointState) → Takes v e m → next_row m e k ≡ next_row v e k
same-row v m e k took =
    ap (λ (x : ExerciseView). row_of x (m.joint.applied + 1) e (bars_of k)) took.exercise
    ∙ ap (λ (j : JointView). row_of v.exercise (j.applied + 1) e (bars_of k)) took.joint

-- no event was applied, or the one that waits
record AppliesNone (m : CollectorView) (w : JointView) (news : List Entry) (rows : List ℕ) : Type 0 where
  state : w.state ≡ m.joint.state
  count : w.applied ≡ m.joint.applied
  rows_none : rows ≡ []

record AppliesNext (m : CollectorView) (e : Entry) (k : JointState) (w : JointView) (news : List Entry) (rows : List ℕ) : Type 0 where
  only : news ≡ e ∷ []
  state : w.state ≡ k
  count : w.applied ≡ m.joint.applied + 1
  row : rows ≡ next_row m e k

module _ (m : CollectorView) (e : Entry) (k : JointState) (waiting : IsWaiting m e k) (es : List Entry) (list : es ≡ m.merger.shown ++ e ∷ []) (w : JointView) (rows : List ℕ) where
  long : length es ≡ m.joint.applied + 1
  long =
      let parts = length-append m.merger.shown (e ∷ []) in
      let same : length es ≡ length (m.merger.shown ++ e ∷ []) = ap length list in
      omega (arith, parts, same, waiting.whole)

  front : take m.joint.applied es ≡ m.merger.shown
  front = ap (take m.joint.applied) list ∙ ap (λ (n : ℕ). take n (m.merger.shown ++ e ∷ [])) waiting.whole ∙ take-append_seam m.merger.shown (e ∷ [])

  adds-next : (a : Entry) → take w.applied es ≡ take m.joint.applied es ++ a ∷ [] → AddsRow m.exercise (transcript_at m.joint []) a (transcript_at w rows) → AppliesNext m e k w (a ∷ []) rows
  adds-next a shown adds =
      let most : length es ≤ w.applied = omega (arith, long, adds.count) in
      let ends : m.merger.shown ++ a ∷ [] ≡ m.merger.shown ++ e ∷ [] =
      ap (λ (l : List Entry). l ++ a ∷ []) (sym front) ∙ sym shown ∙ take_all w.applied es most ∙ list in
      let tails : a ∷ [] ≡ e ∷ [] = append_cancel_left m.merger.shown (a ∷ []) (e ∷ []) ends in
      let same : a ≡ e = cc in
      let state : w.state ≡ k =
      (Happens-one m.joint.state w.state k a e adds.step.happens waiting.step.happens
      (ap (λ (d : Entry). d.thread) same) (ap (λ (d : Entry). d.object) same) (ap (λ (d : Entry). d.op) same)).1 in
      record {
        only = tails;
        state = state;
        count = adds.count;
        row = adds.rows ∙ ap (λ (n : ℕ). row_of m.exercise n a (bars_of w.state)) adds.count
            ∙ ap (λ (d : Entry). row_of m.exercise (m.joint.applied + 1) d (bars_of w.state)) same
            ∙ ap (λ (j : JointState). row_of m.exercise (m.joint.applied + 1) e (bars_of j)) state;
      }

  applies : (news : List Entry) → take w.applied es ≡ take m.joint.applied es ++ news → Leads (AddsRow m.exercise) (transcript_at m.joint []) news (transcript_at w rows)
      → AppliesNone m w news rows ⊎ AppliesNext m e k w news rows
  applies [] shown steps = inl (record {
    state = ap (λ (t : Transcript). t.joint) steps;
    count = ap (λ (t : Transcript). t.count) steps;
    rows_none = ap (λ (t : Transcript). t.rows) steps;
  })
  applies (a ∷ []) shown steps = inr (adds-next a shown (subst (AddsRow m.exercise (transcript_at m.joint []) a) (sym steps.2) steps.1))
  applies (a ∷ b ∷ news) shown steps =
      let sizes : length (take w.applied es) ≡ length (take m.joint.applied es ++ a ∷ b ∷ news) = ap length shown in
      let parts = length-append (take m.joint.applied es) (a ∷ b ∷ news) in
      let first = length-take w.applied es in
      let before = length-take m.joint.applied es in
      absurd (omega (arith, sizes, parts, first, before, long))

  advances-next : (advances : Advances m.exercise es m.joint w rows) → AppliesNone m w advances.news rows ⊎ AppliesNext m e k w advances.news rows
  advances-next advances = applies advances.news advances.shown advances.transcript

none-before : (xs ys : List ℕ) → xs ++ ys ≡ [] → xs ≡ []
none-before [] ys h = refl
none-before (x ∷ xs) ys h = absurd cc

module _ (m w : CollectorView) (e : Entry) (k : JointState) (o p : Outlet) (waiting : IsWaiting m e k) where
  module _ (n : ℕ) (collecting : IsCollecting w) (pumps : Pumps m w o p n) where
    alone : ShowsAlone m.merger e w.merger
    alone = settles-alone m.merger w.merger e waiting.held waiting.ready pumps.events pumps.settles

    size : length w.merger.shown ≡ m.joint.applied + 1
    size = long m e k waiting w.merger.shown alone.shown w.joint pumps.shows.rows

    abbrev Stays : Type 0
    Stays = AppliesNone m w.joint pumps.shows.advances.news pumps.shows.rows

    abbrev Goes : Type 0
    Goes = AppliesNext m e k w.joint pumps.shows.advances.news pumps.shows.rows

    -- the event isn't illegal
    legal : Stays → (r : Refusal) → IsOfNext w r → ⊥
    legal none r of_next =
        let last : slice_get w.merger.shown w.joint.applied ≡ Some e =
        ap (λ (l : List Entry). slice_get l w.joint.applied) alone.shown ∙ ap (slice_get (m.merger.shown ++ e ∷ [])) (none.count ∙ waiting.whole) ∙ slice_get-snoc_last m.merger.shown e in
        let found : Some of_next.illegal.entry ≡ Some e = sym of_next.next.next ∙ last in
        let same : of_next.illegal.entry ≡ e = cc in
        Refuses-no_step m.exercise m.joint.state k e of_next.illegal.cause
        (subst (λ (d : Entry). Refuses m.exercise m.joint.state d of_next.illegal.cause) same
        (subst (λ (j : JointState). Refuses m.exercise j of_next.illegal.entry of_next.illegal.cause) none.state
        (subst (λ (x : ExerciseView). Refuses x w.joint.state of_next.illegal.entry of_next.illegal.cause) pumps.exercise of_next.next.illegal.1)))
        waiting.step

    shows-next : (r : Option Refusal) → w.refusal ≡ r → MatchOption r (shown_of w ≡ w.merger.shown) (IsOfNext w) → Stays ⊎ Goes → ShowsNext m e k w o p
    shows-next None none all (inl stays) =
        let sizes : length (take w.joint.applied w.merger.shown) ≡ length w.merger.shown = ap length all in
        let first = length-take w.joint.applied w.merger.shown in
        absurd (omega (arith, sizes, first, size, stays.count))
    shows-next None none all (inr goes) = record {
      all = record {
        collecting = collecting;
        formed = subst IsWellFormed (sym pumps.exercise) waiting.formed;
        shown = alone.held;
        unrefused = none;
        ample = pumps.ample;
      };
      exercise = pumps.exercise;
      events = pumps.extends ∙ ap (λ (l : List Entry). shown_of m ++ l) goes.only;
      state = goes.state;
      count = goes.count;
      sent = subst (λ (l : List ℕ). Sends o p l) goes.row pumps.shows.sent;
    }
    shows-next (Some r) some of_next (inl stays) = absurd (legal stays r of_next)
    shows-next (Some r) some of_next (inr goes) =
        let within = slice_get_within w.merger.shown w.joint.applied of_next.illegal.entry of_next.next.next in
        absurd (omega (arith, within, size, goes.count))

  answers-next : (n : ℕ) → IsCollecting w → Answers m w o p n → ShowsNext m e k w o p
  answers-next n collecting answers =
      let pumps : Pumps m w o p n = subst (λ (r : Option Refusal). MatchOption r (Pumps m w o p n) (λ _. (n ≡ 0) × Rests m w o p)) waiting.unrefused answers.1 in
      shows-next n collecting pumps w.refusal refl pumps.outcome
      (advances-next m e k waiting w.merger.shown (alone n collecting pumps).shown w.joint pumps.shows.rows pumps.shows.advances)

  begins-next : LacksSpace m w o p → SendsPrefix o p (next_row m e k)
  begins-next lacks =
      let out : RunsOut m w o p = subst (λ (b : Bool). MatchBool b (Rests m w o p) (RunsOut m w o p)) waiting.ample lacks in
      let shown = (settles-alone m.merger w.merger e waiting.held waiting.ready out.events out.settles).shown in
      go out.shows.rows out.shows.sent (advances-next m e k waiting w.merger.shown shown w.joint out.shows.rows out.shows.advances)
    where
      go : {news : List Entry} (rows : List ℕ) → SendsPrefix o p rows → AppliesNone m w.joint news rows ⊎ AppliesNext m e k w.joint news rows → SendsPrefix o p (next_row m e k)
      go rows sent (inl stays) = record {
        prefix = [];
        back = next_row m e k;
        split = refl;
        sent = subst (λ (l : List ℕ). Sends o p l) (none-before sent.prefix sent.back (sym sent.split ∙ stays.rows_none)) sent.sent;
      }
      go rows sent (inr goes) = subst (λ (l : List ℕ). SendsPrefix o p l) goes.row sent

pub next-shown : (v m w : CollectorView) (e : Entry) (k : JointState) (o p : Outlet) (n : ℕ)
    → ShowsAll v → IsCollecting w → JointStep v.exercise v.joint.state e k → Hands v e m → Answers m w o p n → ShowsNext v e k w o p
next-shown v m w e k o p n all collecting step hands answers =
    let took = takes v e k all step m hands in
    let shows = answers-next m w e k o p (waits v e k all step m took) n collecting answers in
    record {
      all = shows.all;
      exercise = shows.exercise ∙ took.exercise;
      events = shows.events ∙ ap (λ (l : List Entry). l ++ e ∷ []) (same-shown v m e took);
      state = shows.state;
      count = shows.count ∙ ap (λ (j : JointView). j.applied + 1) took.joint;
      sent = subst (λ (l : List ℕ). Sends o p l) (same-row v m e k took) shows.sent;
    }

pub next-begun : (v m w : CollectorView) (e : Entry) (k : JointState) (o p : Outlet)
    → ShowsAll v → JointStep v.exercise v.joint.state e k → Hands v e m → LacksSpace m w o p → SendsPrefix o p (next_row v e k)
next-begun v m w e k o p all step hands lacks =
    let took = takes v e k all step m hands in
    subst (λ (l : List ℕ). SendsPrefix o p l) (same-row v m e k took) (begins-next m w e k o p (waits v e k all step m took) lacks)
