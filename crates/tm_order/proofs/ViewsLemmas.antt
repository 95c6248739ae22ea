-- From what threads have seen to what objects have.
use Rattle.std.proofs.Common.{◌≡◌, ℕ, suc, ◌<◌, ◌≤◌, max, ◌==◌, List, ◌∷◌, ◌++◌, length, Contains, refl, ap, sym, ◌∙◌, subst, eq-eqb}
use Rattle.std.proofs.lemmas.List.{append_assoc}
use Rattle.tm_base.specs.declared.events.Entry.{Entry}
use Rattle.tm_base.specs.Orders.{StandsOnce, of_object, of_thread, last_stamp}
use Rattle.tm_text.specs.Exercises.{ExerciseView}
use Rattle.tm_replay.proofs.SliceLemmas.{Contains-parts}
use Rattle.tm_order.specs.RecordedRuns.{AreRecorded}
use Rattle.tm_order.specs.Records.{IsClocked, IsRecorded}
use Rattle.tm_order.specs.Views.{RecordsAgree, AreMade, AreViews, KeepsClock}
use Rattle.tm_order.proofs.Elements.{Contains-filter, Contains-filtered, Contains-middle, AppearOnce, AppearOnce-stands, split-one}

pub views-clocked : (made seen : ℕ → List Entry) (saw : ℕ → ℕ → List Entry) → AreViews made seen saw → ((o : ℕ) → StandsOnce (seen o))
    → ((t : ℕ) → KeepsClock (made t) (saw t)) → IsClocked made seen
views-clocked made seen saw views once keeps e earlier later before after by_thread by_object =
    let mine : Contains (made e.thread) e = subst (λ (l : List Entry). Contains l e) (sym by_thread) (Contains-middle earlier later e) in
    let cut = Contains-parts (saw e.thread e.object) e (views.own e.thread e mine) in
    let first = views.first e.thread e.object in
    let whole : seen e.object ≡ cut.0 ++ e ∷ (cut.1 ++ first.0) =
    first.1 ∙ ap (λ (l : List Entry). l ++ first.0) cut.2 ∙ append_assoc cut.0 (e ∷ cut.1) first.0 in
    let same : cut.0 ≡ before = split-one cut.0 (cut.1 ++ first.0) before after e (subst AppearOnce whole (AppearOnce-stands (seen e.object) (once e.object))) (sym whole ∙ by_object) in
    keeps e.thread e earlier later cut.0 cut.1 by_thread cut.2 ∙ ap (λ (l : List Entry). suc (max (last_stamp earlier) (last_stamp l))) same

pub made-recorded : (x : ExerciseView) (made seen : ℕ → List Entry) (es : List Entry) → IsRecorded x made seen → RecordsAgree x made seen → AreMade x made es → AreRecorded x made seen es
made-recorded x made seen es recorded agree are = record {
  range = λ e within. (are.range e within, among e within);
  thread = are.thread;
  object = λ e within.
      let own : Contains (of_object (made e.thread) e.object) e = Contains-filter (λ f. f.object == e.object) (made e.thread) e (are.thread e within) (eq-eqb e.object e.object refl) in
      (Contains-filtered (λ f. f.thread == e.thread) (seen e.object) e
      (subst (λ (l : List Entry). Contains l e) (sym (agree.same e.thread e.object (are.range e within) (among e within))) own)).0;
  threads = are.threads;
  objects = λ o e known within.
      let t : e.thread ≤ length x.programs = agree.threads o e known within in
      let own : Contains (of_thread (seen o) e.thread) e = Contains-filter (λ f. f.thread == e.thread) (seen o) e within (eq-eqb e.thread e.thread refl) in
      are.threads e.thread e t (Contains-filtered (λ f. f.object == o) (made e.thread) e (subst (λ (l : List Entry). Contains l e) (agree.same e.thread o t known) own)).0;
}
  where
    among : (e : Entry) → Contains es e → e.object < length x.objects
    among e within = agree.objects e.thread e (are.range e within) (are.thread e within)
