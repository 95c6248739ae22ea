-- What a call of `pump` does, by what the merger and the writer did.
use Rattle.std.proofs.Common.{◌≡◌, ℕ, ◌-◌, ◌≤◌, Bool, true, false, List, length, take, Option, Some, None, MatchOption, MatchBool, refl, sym, ap, ◌∙◌, subst, arith}
use Rattle.std.specs.Option.{is_some}
use Rattle.std.specs.List.Sorted.{IsPermutation}
use Rattle.std.proofs.Math.Seq.{take-length}
use Rattle.tm_base.specs.declared.events.Entry.{Entry}
use Rattle.tm_text.specs.Exercises.{ExerciseView}
use Rattle.tm_merge.specs.MergerViews.{MergerView, arrived}
use Rattle.tm_merge.specs.Showing.{Settles}
use Rattle.tm_joint.specs.declared.refusals.Illegal.{Illegal}
use Rattle.tm_joint.specs.Joints.{JointView}
use Rattle.tm_collect.specs.declared.refusals.Refusal.{Refusal}
use Rattle.tm_collect.specs.declared.refusals.Refusal.TheVariants as refusals
use Rattle.tm_collect.specs.declared.writers.Stop.TheVariants as stop
use Rattle.tm_collect.specs.Sending.{Outlet}
use Rattle.tm_collect.specs.Advancing.{Advances, Shows, BreaksOff, StopsBy, IsNextIllegal}
use Rattle.tm_collect.specs.Collectors.{CollectorView, IsCollecting}
use Rattle.tm_collect.specs.Pumping.{IsOfNext, Pumps, Answers, Rests, RunsOut, LacksSpace}
use Rattle.tm_collect.proofs.CollectingLemmas.{shown-advanced, count-advanced, IsCollecting-advances}

-- what the collector is after the call
abbrev after : ExerciseView → MergerView → JointView → Option Refusal → Bool → Bool → CollectorView
after y m w r fault short = record { exercise = y; merger = m; joint = w; refusal = r; write_fault = fault; short = short }

module _ (v : CollectorView) (k : ℕ) (m : MergerView) (kept : IsCollecting v) (settles : Settles v.merger k m) (order : IsPermutation (arrived v.merger) (arrived m))
    (y : ExerciseView) (same : y ≡ v.exercise) (w : JointView) (es : List Entry) (list : es ≡ m.shown) (none : v.refusal ≡ None) (long : v.short ≡ false) where
  collects : (rows : List ℕ) → Advances v.exercise es v.joint w rows → (r : Option Refusal) (fault short : Bool) → (r ≡ None → short ≡ false → w.applied ≡ length m.shown) → IsCollecting (after y m w r fault short)
  collects rows advances r fault short whole =
      IsCollecting-advances v k m kept settles order y w rows same (subst (λ (l : List Entry). Advances v.exercise l v.joint w rows) list advances) r fault short whole

  module _ (o p : Outlet) where
    shows-here : Shows v.exercise es v.joint w o p → Shows v.exercise m.shown v.joint w o p
    shows-here shows = subst (λ (l : List Entry). Shows v.exercise l v.joint w o p) list shows

    pumps : (shows : Shows v.exercise m.shown v.joint w o p) (r : Option Refusal) (fault short : Bool) (n : ℕ) → n ≡ w.applied - v.joint.applied → short ≡ false
        → MatchOption r (take w.applied m.shown ≡ m.shown) (IsOfNext (after y m w r fault short)) → Answers v (after y m w r fault short) o p n
    pumps shows r fault short n number going outcome =
        let count = count-advanced v k m kept settles order y w shows.rows same shows.advances in (
          long,
          subst (λ (q : Option Refusal). MatchOption q (Pumps v (after y m w r fault short) o p n) (λ s. (n ≡ 0) × Rests v (after y m w r fault short) o p)) (sym none) (record {
            events = k;
            settles = settles;
            shows = shows;
            extends = shown-advanced v k m kept settles order y w shows.rows same shows.advances;
            count = omega (arith, number, count);
            exercise = same;
            ample = going;
            outcome = outcome;
          }),
        )

    pub collects-whole : Shows v.exercise es v.joint w o p → w.applied ≡ length es → (fault : Bool) → IsCollecting (after y m w v.refusal fault v.short)
    collects-whole shows whole fault = collects shows.rows shows.advances v.refusal fault v.short (λ _ _. whole ∙ ap length list)

    pub answers-whole : Shows v.exercise es v.joint w o p → w.applied ≡ length es → (fault : Bool) (n : ℕ) → n ≡ w.applied - v.joint.applied → Answers v (after y m w v.refusal fault v.short) o p n
    answers-whole shows whole fault n number =
        let all : take w.applied m.shown ≡ m.shown = ap (λ (c : ℕ). take c m.shown) (whole ∙ ap length list) ∙ take-length m.shown in
        pumps (shows-here shows) v.refusal fault v.short n number long
        (subst (λ (q : Option Refusal). MatchOption q (take w.applied m.shown ≡ m.shown) (IsOfNext (after y m w v.refusal fault v.short))) (sym none) all)

    module _ (i : Illegal) (stops : StopsBy v.exercise es v.joint w o p (stop.Illegal i)) where
      pub collects-illegal : (fault : Bool) → IsCollecting (after y m w (Some (refusals.Apply i)) fault v.short)
      collects-illegal fault = collects stops.0.rows stops.0.advances (Some (refusals.Apply i)) fault v.short (λ some _. absurd cc)

      pub count-illegal : v.joint.applied ≤ w.applied
      count-illegal =
          let shows = shows-here stops.0 in
          let count = count-advanced v k m kept settles order y w shows.rows same shows.advances in
          omega (arith, count)

      pub answers-illegal : (fault : Bool) (n : ℕ) → n ≡ w.applied - v.joint.applied → Answers v (after y m w (Some (refusals.Apply i)) fault v.short) o p n
      answers-illegal fault n number =
          pumps (shows-here stops.0) (Some (refusals.Apply i)) fault v.short n number long (record {
            illegal = i;
            same = refl;
            next = subst (λ (z : ExerciseView). IsNextIllegal z m.shown w i) (sym same) (subst (λ (l : List Entry). IsNextIllegal v.exercise l w i) list stops.1);
          })

    module _ (breaks : BreaksOff v.exercise es v.joint w o p) where
      pub collects-short : (fault : Bool) → IsCollecting (after y m w v.refusal fault true)
      collects-short fault = collects breaks.rows breaks.advances v.refusal fault true (λ _ long. absurd cc)

      pub lacks-space : (fault : Bool) → LacksSpace v (after y m w v.refusal fault true) o p
      lacks-space fault =
          let here : BreaksOff v.exercise m.shown v.joint w o p = subst (λ (l : List Entry). BreaksOff v.exercise l v.joint w o p) list breaks in
          subst (λ (b : Bool). MatchBool b (Rests v (after y m w v.refusal fault true) o p) (RunsOut v (after y m w v.refusal fault true) o p)) (sym long) (record {
            events = k;
            settles = settles;
            shows = here;
            extends = shown-advanced v k m kept settles order y w here.rows same here.advances;
            exercise = same;
            short = refl;
            unrefused = none;
            refusal = none;
          })

pub none-kept : (r : Option Refusal) → false ≡ is_some r → r ≡ None
none-kept None h = refl
none-kept (Some r) h = absurd cc

-- of the collector's value, where the fields are known
module _ (v u w : CollectorView) (faults : ℕ) (written : Option (List ℕ)) (p : Outlet) (same : v ≡ u) where
  pub answers-of : (n : ℕ) → Answers v w (record { failed = v.write_fault; faults = faults; written = written }) p n → Answers u w (record { failed = u.write_fault; faults = faults; written = written }) p n
  answers-of n h = subst (λ (z : CollectorView). Answers z w (record { failed = z.write_fault; faults = faults; written = written }) p n) same h

  pub lacks-of : LacksSpace v w (record { failed = v.write_fault; faults = faults; written = written }) p → LacksSpace u w (record { failed = u.write_fault; faults = faults; written = written }) p
  lacks-of h = subst (λ (z : CollectorView). LacksSpace z w (record { failed = z.write_fault; faults = faults; written = written }) p) same h
