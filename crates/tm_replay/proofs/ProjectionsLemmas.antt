-- Each object of a joint run has a legal history, and each thread its places in order.
use Rattle.std.proofs.Common.{◌≡◌, ◌≢◌, ℕ, zero, suc, ◌+◌, ◌==◌, ⊎_elim, List, [], ◌∷◌, ◌++◌, map, length, Some, slice_get, slice_set, refl, ap, sym, ◌∙◌, subst, arith, eq-eqb, ne_eqb, length-append}
use Rattle.std.specs.List.{range_with_len}
use Rattle.std.proofs.lemmas.List.{append-nil, append_assoc, map-append}
use Rattle.tm_base.specs.declared.events.Entry.{Entry}
use Rattle.tm_base.specs.Histories.{Label, Follows, IsHistory, first_history_state}
use Rattle.tm_base.specs.Orders.{of_object, of_thread}
use Rattle.tm_base.specs.Runs.{Leads}
use Rattle.tm_laws.proofs.RunsLemmas.{Leads-snoc}
use Rattle.tm_text.specs.declared.exercises.Declaration.{Declaration}
use Rattle.tm_text.specs.Exercises.{ExerciseView}
use Rattle.tm_replay.specs.declared.phases.Phase.TheVariants as phase
use Rattle.tm_replay.specs.JointStates.{JointState, ThreadState, ObjectState, start, first_object_state, first_thread_state, unbegun}
use Rattle.tm_programs.specs.Programs.{Over}
use Rattle.tm_replay.specs.JointSteps.{JointStep, IsJointRun, stepped, entered}
use Rattle.tm_replay.specs.Projections.{label_at, history_state_at}
use Rattle.tm_replay.proofs.SliceLemmas.{slice_get-set_cases, filter-snoc_in, filter-snoc_out, range-snoc}
use Rattle.tm_replay.proofs.JointStartLemmas.{mapped-at}

-- what holds of some events and of a state, and what each further step keeps, holds after all of them
pub runs-keep : {S : Type 0} (step : S → Entry → S → Type 0) (Holds : List Entry → S → Type 0)
    → ((before : List Entry) (p : S) (e : Entry) (q : S) → Holds before p → step p e q → Holds (before ++ e ∷ []) q)
    → (es before : List Entry) (p q : S) → Holds before p → Leads step p es q → Holds (before ++ es) q
runs-keep {S} step Holds keep [] before p q holds run =
    subst (λ (l : List Entry). Holds l q) (sym (append-nil before)) (subst (Holds before) (sym run) holds)
runs-keep {S} step Holds keep (e ∷ es) before p q holds run =
    subst (λ (l : List Entry). Holds l q) (append_assoc before (e ∷ []) es)
    (runs-keep step Holds keep es (before ++ e ∷ []) run.0 q (keep before p e run.0 holds run.1) run.2)

abbrev HaveHistories : List Entry → JointState → Type 0
HaveHistories es j = (o : ℕ) (b : ObjectState) → slice_get j.objects o ≡ Some b → IsHistory (label_at o b.view) (of_object es o) (history_state_at b)

histories-start : (x : ExerciseView) → HaveHistories [] (start x)
histories-start x o b h =
    let at = mapped-at (λ (d : Declaration). first_object_state (length x.programs) d.kind) x.objects o b h in
    subst (λ (c : ObjectState). IsHistory (label_at o c.view) [] (history_state_at c)) at.2 refl

-- the step's event is the next one of its object's history
step-follows : (x : ExerciseView) (j : JointState) (e : Entry) (k : JointState) (step : JointStep x j e k)
    → Follows (label_at e.object step.happens.object_state.view) (history_state_at step.happens.object_state) e (history_state_at (entered step.happens.object_state e step.happens.state))
step-follows x j e k step = record {
  object = refl;
  at = step.happens.at;
  rises = omega (arith, step.happens.stamp);
  lawful = step.happens.lawful;
  now_at = refl;
  now_stamp = refl;
}

histories-step : (x : ExerciseView) (es : List Entry) (j : JointState) (e : Entry) (k : JointState) → HaveHistories es j → JointStep x j e k → HaveHistories (es ++ e ∷ []) k
histories-step x es j e k holds step o c h =
    let b : ObjectState = step.happens.object_state in
    let b' : ObjectState = entered b e step.happens.state in
    let l : Label = label_at e.object b.view in
    let h' : slice_get (slice_set j.objects e.object b') o ≡ Some c = subst (λ (bs : List ObjectState). slice_get bs o ≡ Some c) step.happens.objects h in
    ⊎_elim
    (λ (same : (o ≡ e.object) × (c ≡ b')).
    subst (λ (n : ℕ). IsHistory (label_at n c.view) (of_object (es ++ e ∷ []) n) (history_state_at c)) (sym same.0)
    (subst (λ (d : ObjectState). IsHistory (label_at e.object d.view) (of_object (es ++ e ∷ []) e.object) (history_state_at d)) (sym same.1)
    (subst (λ (own : List Entry). IsHistory l own (history_state_at b')) (sym (filter-snoc_in (λ (f : Entry). f.object == e.object) es e (eq-eqb e.object e.object refl)))
    (Leads-snoc (Follows l) (of_object es e.object) e (first_history_state l) (history_state_at b) (history_state_at b') (holds e.object b step.happens.object) (step-follows x j e k step)))))
    (λ (other : (o ≢ e.object) × (slice_get j.objects o ≡ Some c)).
    subst (λ (own : List Entry). IsHistory (label_at o c.view) own (history_state_at c))
    (sym (filter-snoc_out (λ (f : Entry). f.object == o) es e (ne_eqb e.object o (λ q. other.0 (sym q)))))
    (holds o c other.1))
    (slice_get-set_cases j.objects e.object o b' c h')

pub objects-have_histories : (x : ExerciseView) (es : List Entry) (j : JointState) → IsJointRun x es j → HaveHistories es j
objects-have_histories x es j run = runs-keep (JointStep x) HaveHistories (histories-step x) es [] (start x) j (histories-start x) run

-- the places of these events run from 1, and this is the next
abbrev RunFromOne : List Entry → ℕ → Type 0
RunFromOne own next = (map (λ e. e.place) own ≡ range_with_len 1 (length own)) × (next ≡ suc (length own))

abbrev HavePlaces : List Entry → JointState → Type 0
HavePlaces es j = (t : ℕ) (s : ThreadState) → slice_get j.threads t ≡ Some s → RunFromOne (of_thread es t) s.next

places-start : (x : ExerciseView) → HavePlaces [] (start x)
places-start x zero s h =
    let main : first_thread_state phase.Main Over ≡ s = cc in
    subst (λ (r : ThreadState). RunFromOne [] r.next) main (refl, refl)
places-start x (suc t) s h =
    subst (λ (r : ThreadState). RunFromOne [] r.next) (mapped-at unbegun x.programs t s h).2 (refl, refl)

-- an event with the next place goes on with them
RunFromOne-snoc : (own : List Entry) (next : ℕ) (e : Entry) → e.place ≡ next → RunFromOne own next → RunFromOne (own ++ e ∷ []) (e.place + 1)
RunFromOne-snoc own next e place runs =
    let longer : length (own ++ e ∷ []) ≡ suc (length own) = length-append own (e ∷ []) ∙ omega arith in
    let last : e.place ≡ 1 + length own = omega (arith, place, runs.1) in (
      map-append (λ f. f.place) own (e ∷ [])
          ∙ ap (λ (l : List ℕ). l ++ e.place ∷ []) runs.0
          ∙ ap (λ (n : ℕ). range_with_len 1 (length own) ++ n ∷ []) last
          ∙ sym (range-snoc 1 (length own))
          ∙ ap (range_with_len 1) (sym longer),
      omega (arith, longer, last),
    )

places-step : (x : ExerciseView) (es : List Entry) (j : JointState) (e : Entry) (k : JointState) → HavePlaces es j → JointStep x j e k → HavePlaces (es ++ e ∷ []) k
places-step x es j e k holds step t r h =
    let s : ThreadState = step.happens.thread_state in
    let s' : ThreadState = stepped s e in
    let h' : slice_get (slice_set j.threads e.thread s') t ≡ Some r = subst (λ (l : List ThreadState). slice_get l t ≡ Some r) step.happens.threads h in
    ⊎_elim
    (λ (same : (t ≡ e.thread) × (r ≡ s')).
    subst (λ (n : ℕ). RunFromOne (of_thread (es ++ e ∷ []) n) r.next) (sym same.0)
    (subst (λ (u : ThreadState). RunFromOne (of_thread (es ++ e ∷ []) e.thread) u.next) (sym same.1)
    (subst (λ (own : List Entry). RunFromOne own (e.place + 1)) (sym (filter-snoc_in (λ (f : Entry). f.thread == e.thread) es e (eq-eqb e.thread e.thread refl)))
    (RunFromOne-snoc (of_thread es e.thread) s.next e step.happens.place (holds e.thread s step.happens.thread)))))
    (λ (other : (t ≢ e.thread) × (slice_get j.threads t ≡ Some r)).
    subst (λ (own : List Entry). RunFromOne own r.next)
    (sym (filter-snoc_out (λ (f : Entry). f.thread == t) es e (ne_eqb e.thread t (λ q. other.0 (sym q)))))
    (holds t r other.1))
    (slice_get-set_cases j.threads e.thread t s' r h')

pub threads-have_places : (x : ExerciseView) (es : List Entry) (j : JointState) → IsJointRun x es j → HavePlaces es j
threads-have_places x es j run = runs-keep (JointStep x) HavePlaces (places-step x) es [] (start x) j (places-start x) run
