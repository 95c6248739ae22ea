-- What threads and objects recorded is one joint run.
use Rattle.std.proofs.Common.{◌≡◌, ℕ, ◌<◌, ◌≤◌, inl, inr, ⊎_elim, List, [], ◌∷◌, ◌++◌, length, Contains, refl, ap, sym, ◌∙◌, subst, arith}
use Rattle.std.proofs.lemmas.Bool.{cases_lt}
use Rattle.std.proofs.lemmas.List.{append-nil, append_assoc}
use Rattle.std.proofs.lemmas.List.Elements.{Contains-append_cases, Contains-append_right}
use Rattle.std.proofs.lemmas.List.Sums.{fold_push}
use Rattle.tm_base.specs.declared.events.Entry.{Entry}
use Rattle.tm_base.specs.Orders.{StandsOnce, of_object, of_thread, KeepsPredecessors, last_stamp}
use Rattle.tm_text.specs.Exercises.{ExerciseView}
use Rattle.tm_replay.proofs.SliceLemmas.{Contains-parts, found_at}
use Rattle.tm_order.specs.Ready.{NoneIsReady}
use Rattle.tm_order.specs.RecordedRuns.{AreRecorded, IsWholeRun}
use Rattle.tm_order.specs.Records.{IsClocked, IsRecorded, label_of}
use Rattle.tm_order.proofs.Elements.{Contains-middle, AppearOnce, AppearOnce-stands}
use Rattle.tm_order.proofs.Numbers.{IsPair, RunFrom-pair}
use Rattle.tm_order.proofs.ReadyLemmas.{AreComplete, HasBefore, nothing-held}
use Rattle.tm_order.proofs.Rearranging.{direct-object, direct-thread, own-order, reached-same}
use Rattle.tm_order.proofs.ReachedStates.{object-numbered, object-own, thread-numbered, thread-own}
use Rattle.tm_order.proofs.InterleavingsLemmas.{AreBeginnings, interleave}

-- the pair's first event is the last one before the second
pair-parts : (number : Entry → ℕ) (es : List Entry) (e : Entry) (pair : IsPair number es e)
    → (es ≡ (pair.prefix ++ pair.before ∷ []) ++ e ∷ pair.back) × (last_stamp (pair.prefix ++ pair.before ∷ []) ≡ pair.before.stamp) × Contains es pair.before
pair-parts number es e pair = (
  pair.parts ∙ sym (append_assoc pair.prefix (pair.before ∷ []) (e ∷ pair.back)),
  fold_push (λ n f. f.stamp) 0 pair.prefix pair.before,
  subst (λ (l : List Entry). Contains l pair.before) (sym pair.parts) (Contains-middle pair.prefix (e ∷ pair.back) pair.before),
)

module _ (x : ExerciseView) (made seen : ℕ → List Entry) (recorded : IsRecorded x made seen) (clocked : IsClocked made seen) where
  module _ (es : List Entry) (theirs : AreRecorded x made seen es) where
    thread-before : (e : Entry) → Contains es e → HasBefore (λ a. a.thread) (λ a. a.place) es e
    thread-before e within = ⊎_elim more (λ (first : e.place ≤ 1). inl first) (cases_lt 1 e.place)
      where
        more : 1 < e.place → HasBefore (λ a. a.thread) (λ a. a.place) es e
        more above =
            let known = (theirs.range e within).0 in
            let run = recorded.threads e.thread known in
            let pair = RunFrom-pair (λ a. a.place) 1 (made e.thread) e (thread-numbered x e.thread (made e.thread) run.0 run.1) (theirs.thread e within) above in
            let parts = pair-parts (λ a. a.place) (made e.thread) e pair in
            let place = Contains-parts (seen e.object) e (theirs.object e within) in
            let stamp = clocked e (pair.prefix ++ pair.before ∷ []) pair.back place.0 place.1 parts.0 place.2 in
            let less : pair.before.stamp < e.stamp = omega (arith, stamp, parts.1) in
            inr (pair.before, theirs.threads e.thread pair.before known parts.2, thread-own x e.thread (made e.thread) run.0 run.1 pair.before parts.2, pair.next, less)

    object-before : (e : Entry) → Contains es e → HasBefore (λ a. a.object) (λ a. a.at) es e
    object-before e within = ⊎_elim more (λ (first : e.at ≤ 1). inl first) (cases_lt 1 e.at)
      where
        more : 1 < e.at → HasBefore (λ a. a.object) (λ a. a.at) es e
        more above =
            let known = (theirs.range e within).1 in
            let d = found_at x.objects e.object known in
            let run = recorded.objects e.object d.0 d.1 in
            let pair = RunFrom-pair (λ a. a.at) 1 (seen e.object) e (object-numbered x (label_of x e.object d.0) (seen e.object) run.0 run.1) (theirs.object e within) above in
            let parts = pair-parts (λ a. a.at) (seen e.object) e pair in
            let place = Contains-parts (made e.thread) e (theirs.thread e within) in
            let stamp = clocked e place.0 place.1 (pair.prefix ++ pair.before ∷ []) pair.back place.2 parts.0 in
            let less : pair.before.stamp < e.stamp = omega (arith, stamp, parts.1) in
            inr (pair.before, theirs.objects e.object pair.before known parts.2, object-own x (label_of x e.object d.0) (seen e.object) run.0 run.1 pair.before parts.2, pair.next, less)

    complete : AreComplete es
    complete = record { threads = thread-before; objects = object-before }

    module _ (once : AppearOnce es) (keeps : KeepsPredecessors es) where
      whole-thread : (t : ℕ) → t ≤ length x.programs → of_thread es t ≡ made t
      whole-thread t known =
          let run = recorded.threads t known in
          own-order (λ e. e.thread) (λ e. e.place) t (made t) es (thread-numbered x t (made t) run.0 run.1) once
          (λ e within. (theirs.threads t e known within, thread-own x t (made t) run.0 run.1 e within))
          (λ e within same. subst (λ (u : ℕ). Contains (made u) e) same (theirs.thread e within))
          (λ prefix back p q parts within keys numbers. keeps prefix back p q parts within (direct-thread p q keys numbers))

      whole-object : (o : ℕ) → o < length x.objects → of_object es o ≡ seen o
      whole-object o known =
          let d = found_at x.objects o known in
          let run = recorded.objects o d.0 d.1 in
          own-order (λ e. e.object) (λ e. e.at) o (seen o) es (object-numbered x (label_of x o d.0) (seen o) run.0 run.1) once
          (λ e within. (theirs.objects o e known within, object-own x (label_of x o d.0) (seen o) run.0 run.1 e within))
          (λ e within same. subst (λ (u : ℕ). Contains (seen u) e) same (theirs.object e within))
          (λ prefix back p q parts within keys numbers. keeps prefix back p q parts within (direct-object p q keys numbers))

      whole-run : IsWholeRun x made seen es []
      whole-run =
          let begins : AreBeginnings x made seen es = record {
            threads = λ t known. ([], sym (whole-thread t known) ∙ sym (append-nil (of_thread es t)));
            objects = λ o known. ([], sym (whole-object o known) ∙ sym (append-nil (of_object es o)));
          } in
          let shown = interleave x made seen recorded clocked es theirs.range begins in
          record {
            nothing_held = refl;
            joint = shown.0;
            run = shown.1;
            reached = reached-same x (of_thread es) (of_object es) made seen shown.0 whole-thread whole-object shown.2;
            threads = whole-thread;
            objects = whole-object;
          }

  pub records-show : (shown held : List Entry) → AreRecorded x made seen (shown ++ held) → StandsOnce (shown ++ held) → KeepsPredecessors shown → NoneIsReady shown held
      → IsWholeRun x made seen shown held
  records-show shown held theirs once keeps none =
      let nothing : held ≡ [] =
      nothing-held (shown ++ held) shown held (complete (shown ++ held) theirs) (λ e within. Contains-append_cases shown held e within)
      (λ e within. Contains-append_right shown held e within) none in
      let all : shown ++ held ≡ shown = ap (λ (l : List Entry). shown ++ l) nothing ∙ append-nil shown in
      subst (IsWholeRun x made seen shown) (sym nothing)
      (whole-run shown (subst (AreRecorded x made seen) all theirs) (subst AppearOnce all (AppearOnce-stands (shown ++ held) once)) keeps)
