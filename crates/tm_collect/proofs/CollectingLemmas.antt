-- A collector stays one where an event arrives, and where more are shown.
use Rattle.std.proofs.Common.{◌≡◌, ℕ, ◌+◌, ◌≤◌, Bool, true, false, nat_lt, nat_le, List, [], ◌∷◌, ◌++◌, length, take, All, Option, Some, None, refl, sym, ap, ◌∙◌, subst, append_assoc, append-nil, arith}
use Rattle.std.specs.List.Sorted.{IsPermutation}
use Rattle.std.proofs.lemmas.Bool.{ltb-false, leb-false}
use Rattle.std.proofs.lemmas.List.{take-append-le, length-append, length-take-le, get_or_append_left}
use Rattle.std.proofs.lemmas.List.Elements.{All-cons}
use Rattle.std.proofs.lemmas.List.Sorted.{All-permutation}
use Rattle.tm_base.specs.declared.events.Entry.{Entry}
use Rattle.tm_base.specs.Runs.{Leads}
use Rattle.tm_laws.proofs.RunsLemmas.{Leads-append, Leads-map}
use Rattle.tm_text.specs.Exercises.{ExerciseView}
use Rattle.tm_merge.specs.MergerViews.{MergerView, arrived}
use Rattle.tm_merge.specs.Refusals.{range_fault, refusal}
use Rattle.tm_merge.specs.Showing.{Joins, Shows as ShowsEvent, Settles}
use Rattle.tm_replay.specs.JointStates.{start}
use Rattle.tm_replay.specs.JointSteps.{JointStep, IsJointRun}
use Rattle.tm_joint.specs.Joints.{JointView}
use Rattle.tm_collect.specs.Transcripts.{transcript_at, AddsRow}
use Rattle.tm_collect.specs.Advancing.{IsInRange, Advances}
use Rattle.tm_collect.specs.Collectors.{CollectorView, IsCollecting, shown_of}
use Rattle.tm_collect.specs.declared.refusals.Refusal.{Refusal}

unfaulted : (v : MergerView) (e : Entry) → range_fault v e ≡ None → (nat_lt v.threads e.thread ≡ false) × (nat_le v.objects e.object ≡ false)
unfaulted v e h = go (nat_lt v.threads e.thread) refl (nat_le v.objects e.object) refl
  where
    go : (a : Bool) → nat_lt v.threads e.thread ≡ a → (b : Bool) → nat_le v.objects e.object ≡ b → (nat_lt v.threads e.thread ≡ false) × (nat_le v.objects e.object ≡ false)
    go true p b q = absurd cc
    go false p true q = absurd cc
    go false p false q = (p, q)

-- an event that isn't refused is of the exercise
in_range : (x : ExerciseView) (v : MergerView) (e : Entry) → v.threads ≡ length x.programs → v.objects ≡ length x.objects → refusal v e ≡ None → IsInRange x e
in_range x v e threads objects h = go (range_fault v e) refl
  where
    go : (f : Option _) → range_fault v e ≡ f → IsInRange x e
    go (Some f) p = absurd cc
    go None p =
        let known = unfaulted v e p in
        record {
          thread = omega (arith, threads, ltb-false v.threads e.thread known.0);
          object = omega (arith, objects, leb-false v.objects e.object known.1);
        }

pub IsCollecting-joins : (v : CollectorView) (e : Entry) (m : MergerView) → IsCollecting v → Joins v.merger e m → IsPermutation (e ∷ arrived v.merger) (arrived m) → refusal v.merger e ≡ None
    → IsCollecting (record { exercise = v.exercise; merger = m; joint = v.joint; refusal = v.refusal; write_fault = v.write_fault; short = v.short })
IsCollecting-joins v e m kept joins order judged =
    let len : length m.shown ≡ length v.merger.shown = ap length joins.shown in
    record {
      exercise = kept.exercise;
      threads = joins.same_threads ∙ kept.threads;
      objects = joins.same_objects ∙ kept.objects;
      within = omega (arith, len, kept.within);
      run = subst (λ (es : List Entry). IsJointRun v.exercise (take v.joint.applied es) v.joint.state) (sym joins.shown) kept.run;
      ranges = All-permutation (IsInRange v.exercise) (e ∷ arrived v.merger) (arrived m) order
          (All-cons (IsInRange v.exercise) e (arrived v.merger) (in_range v.exercise v.merger e kept.threads kept.objects judged) kept.ranges);
      whole = λ none long. kept.whole none long ∙ sym len;
    }

pub All-front : {X : Type 0} (P : X → Type 0) (xs ys : List X) → All P (xs ++ ys) → All P xs
All-front P xs ys all k d within = subst P (get_or_append_left xs ys d k within) (all k d (rw length-append (omega arith)))

-- what is shown later follows what was shown
settled : (es : List Entry) (v w : MergerView) → Leads ShowsEvent v es w → (w.shown ≡ v.shown ++ es) × (w.threads ≡ v.threads) × (w.objects ≡ v.objects)
settled [] v w same = (ap (λ (m : MergerView). m.shown) same ∙ sym (append-nil v.shown), ap (λ (m : MergerView). m.threads) same, ap (λ (m : MergerView). m.objects) same)
settled (e ∷ es) v w steps =
    let later = settled es steps.0 w steps.2 in
    (later.0 ∙ ap (λ (l : List Entry). l ++ es) steps.1.shown ∙ append_assoc v.shown (e ∷ []) es, later.1 ∙ steps.1.same_threads, later.2 ∙ steps.1.same_objects)

module _ (v : CollectorView) (k : ℕ) (m : MergerView) (kept : IsCollecting v) (settles : Settles v.merger k m) where
  longer : m.shown ≡ v.merger.shown ++ settles.news
  longer = (settled settles.news v.merger m settles.steps).0

  pub within-settled : v.joint.applied ≤ length m.shown
  within-settled =
      let len : length m.shown ≡ length v.merger.shown + length settles.news = ap length longer ∙ length-append v.merger.shown settles.news in
      omega (arith, len, kept.within)

  pub shown-settled : take v.joint.applied m.shown ≡ shown_of v
  shown-settled = ap (take v.joint.applied) longer ∙ take-append-le v.joint.applied v.merger.shown settles.news kept.within

  module _ (order : IsPermutation (arrived v.merger) (arrived m)) where
    ranges : All (IsInRange v.exercise) (arrived m)
    ranges = All-permutation (IsInRange v.exercise) (arrived v.merger) (arrived m) order kept.ranges

    pub ranges-settled : All (IsInRange v.exercise) m.shown
    ranges-settled = All-front (IsInRange v.exercise) m.shown m.held ranges

    module _ (y : ExerciseView) (w : JointView) (rows : List ℕ) (same : y ≡ v.exercise) (advances : Advances v.exercise m.shown v.joint w rows) where
      pub shown-advanced : take w.applied m.shown ≡ shown_of v ++ advances.news
      shown-advanced = advances.shown ∙ ap (λ (l : List Entry). l ++ advances.news) shown-settled

      pub count-advanced : w.applied ≡ v.joint.applied + length advances.news
      count-advanced =
          let len : length (take w.applied m.shown) ≡ length (take v.joint.applied m.shown) + length advances.news = ap length advances.shown ∙ length-append (take v.joint.applied m.shown) advances.news in
          omega (arith, len, length-take-le w.applied m.shown advances.within, length-take-le v.joint.applied m.shown within-settled)

      run : IsJointRun v.exercise (take w.applied m.shown) w.state
      run = subst (λ (es : List Entry). IsJointRun v.exercise es w.state) (sym shown-advanced)
          (Leads-append (JointStep v.exercise) (shown_of v) advances.news (start v.exercise) v.joint.state w.state kept.run
          (Leads-map (AddsRow v.exercise) (JointStep v.exercise) (λ p. p.joint) (λ p e q adds. adds.step) advances.news (transcript_at v.joint []) (transcript_at w rows) advances.transcript))

      pub IsCollecting-advances : (r : Option Refusal) (fault short : Bool) → (r ≡ None → short ≡ false → w.applied ≡ length m.shown)
          → IsCollecting (record { exercise = y; merger = m; joint = w; refusal = r; write_fault = fault; short = short })
      IsCollecting-advances r fault short whole =
          let kinds = settled settles.news v.merger m settles.steps in
          subst (λ (z : ExerciseView). IsCollecting (record { exercise = z; merger = m; joint = w; refusal = r; write_fault = fault; short = short })) (sym same) (record {
            exercise = advances.exercise ∙ kept.exercise;
            threads = kinds.1 ∙ kept.threads;
            objects = kinds.2 ∙ kept.objects;
            within = advances.within;
            run = run;
            ranges = ranges;
            whole = whole;
          })
