-- The events of a joint run in another order.
use Rattle.std.proofs.Common.{◌≡◌, ℕ, suc, ◌<◌, ◌≤◌, ◌==◌, ◌&&◌, List, [], ◌∷◌, ◌++◌, filter, length, Contains, sym, ◌∙◌, subst, eq-eqb}
use Rattle.std.specs.Prelude.{IsPermutation}
use Rattle.std.proofs.lemmas.Bool.{and_from, or_left, or_right, eqb-true}
use Rattle.std.proofs.lemmas.List.{append-nil}
use Rattle.std.proofs.lemmas.List.Sorted.{Contains-permutation, IsPermutation-sym}
use Rattle.std.proofs.lemmas.Option.{slice_get_within}
use Rattle.tm_base.specs.declared.events.Entry.{Entry}
use Rattle.tm_base.specs.Histories.{IsHistory}
use Rattle.tm_base.specs.Orders.{of_object, of_thread, IsDirect, KeepsPredecessors}
use Rattle.tm_text.specs.Exercises.{ExerciseView}
use Rattle.tm_replay.specs.JointStates.{JointState}
use Rattle.tm_replay.specs.JointSteps.{IsJointRun}
use Rattle.tm_replay.proofs.SliceLemmas.{found_at}
use Rattle.tm_replay.proofs.ClosedPrefixesLemmas.{prefixes-are_closed}
use Rattle.tm_replay.proofs.JointOrderLemmas.{runs-placed}
use Rattle.tm_order.specs.Records.{IsReached, label_of}
use Rattle.tm_order.specs.ThreadRuns.{IsThreadRun}
use Rattle.tm_order.specs.Interleavings.{AreInRange}
use Rattle.tm_order.proofs.Elements.{Contains-filter, Contains-filtered, Contains-middle, AppearOnce, AppearOnce-filter}
use Rattle.tm_order.proofs.Numbers.{RunFrom, one-order, keeps-own}
use Rattle.tm_order.proofs.PlacedLemmas.{placed-once, placed-permuted}
use Rattle.tm_order.proofs.ReachedStates.{object-numbered, reached-one, thread-numbered}
use Rattle.tm_order.proofs.InterleavingsLemmas.{AreBeginnings, reached-recorded, run-clocked, run-reaches, interleave}

pub direct-thread : (a b : Entry) → a.thread ≡ b.thread → suc a.place ≡ b.place → IsDirect a b
direct-thread a b keys numbers =
    or_left (a.thread == b.thread && suc a.place == b.place) (a.object == b.object && suc a.at == b.at)
    (and_from (a.thread == b.thread) (suc a.place == b.place) (eq-eqb a.thread b.thread keys) (eq-eqb (suc a.place) b.place numbers))

pub direct-object : (a b : Entry) → a.object ≡ b.object → suc a.at ≡ b.at → IsDirect a b
direct-object a b keys numbers =
    or_right (a.thread == b.thread && suc a.place == b.place) (a.object == b.object && suc a.at == b.at)
    (and_from (a.object == b.object) (suc a.at == b.at) (eq-eqb a.object b.object keys) (eq-eqb (suc a.at) b.at numbers))

-- the list has of one key the given events, in the order of their numbers
pub own-order : (key number : Entry → ℕ) (i : ℕ) (given es : List Entry) → RunFrom number 1 given → AppearOnce es
    → ((e : Entry) → Contains given e → Contains es e × (key e ≡ i)) → ((e : Entry) → Contains es e → key e ≡ i → Contains given e)
    → ((prefix back : List Entry) (p q : Entry) → es ≡ prefix ++ q ∷ back → Contains es p → key p ≡ key q → suc (number p) ≡ number q → Contains prefix p)
    → filter (λ e. key e == i) es ≡ given
own-order key number i given es run once into from keeps =
    one-order number 1 given (filter (λ e. key e == i) es) run (AppearOnce-filter (λ e. key e == i) es once)
    (λ e kept. let was = Contains-filtered (λ f. key f == i) es e kept in from e was.0 (eqb-true (key e) i was.1))
    (λ e within. let there = into e within in Contains-filter (λ f. key f == i) es e there.0 (eq-eqb (key e) i there.1))
    (keeps-own key number i es once keeps)

module _ (x : ExerciseView) where
  -- the state that some events lead to is the one to which the same events of each thread and object lead
  pub reached-same : (made seen made' seen' : ℕ → List Entry) (j : JointState) → ((t : ℕ) → t ≤ length x.programs → made t ≡ made' t)
      → ((o : ℕ) → o < length x.objects → seen o ≡ seen' o) → IsReached x made seen j → IsReached x made' seen' j
  reached-same made seen made' seen' j threads objects reached = record {
    object_count = reached.object_count;
    thread_count = reached.thread_count;
    objects = λ o d found.
        let at = reached.objects o d found in
        (at.0, subst (λ (l : List Entry). IsHistory (label_of x o d) l at.0) (objects o (slice_get_within x.objects o d found)) at.1, at.2);
    threads = λ t known.
        let at = reached.threads t known in
        (at.0, subst (λ (l : List Entry). IsThreadRun x t l at.0) (threads t known) at.1, at.2);
  }

  module _ (es order : List Entry) (j : JointState) (run : IsJointRun x es j) (permutation : IsPermutation es order) (keeps : KeepsPredecessors order) where
    abbrev reached : IsReached x (of_thread es) (of_object es) j
    reached = (run-reaches x es j run).0

    once : AppearOnce order
    once = placed-once order (placed-permuted es order (runs-placed x es j run) permutation)

    into : (e : Entry) → Contains es e → Contains order e
    into e within = Contains-permutation es order e permutation within

    from : (e : Entry) → Contains order e → Contains es e
    from e within = Contains-permutation order es e (IsPermutation-sym es order permutation) within

    same-threads : (t : ℕ) → t ≤ length x.programs → of_thread order t ≡ of_thread es t
    same-threads t known =
        let seat = reached.threads t known in
        own-order (λ e. e.thread) (λ e. e.place) t (of_thread es t) order (thread-numbered x t (of_thread es t) seat.0 seat.1) once
        (λ e within. let was = Contains-filtered (λ f. f.thread == t) es e within in (into e was.0, eqb-true e.thread t was.1))
        (λ e within same. Contains-filter (λ f. f.thread == t) es e (from e within) (eq-eqb e.thread t same))
        (λ prefix back p q parts within keys numbers. keeps prefix back p q parts within (direct-thread p q keys numbers))

    same-objects : (o : ℕ) → o < length x.objects → of_object order o ≡ of_object es o
    same-objects o known =
        let d = found_at x.objects o known in
        let place = reached.objects o d.0 d.1 in
        own-order (λ e. e.object) (λ e. e.at) o (of_object es o) order (object-numbered x (label_of x o d.0) (of_object es o) place.0 place.1) once
        (λ e within. let was = Contains-filtered (λ f. f.object == o) es e within in (into e was.0, eqb-true e.object o was.1))
        (λ e within same. Contains-filter (λ f. f.object == o) es e (from e within) (eq-eqb e.object o same))
        (λ prefix back p q parts within keys numbers. keeps prefix back p q parts within (direct-object p q keys numbers))

    pub rearranged : IsJointRun x order j
    rearranged =
        let begins : AreBeginnings x (of_thread es) (of_object es) order = record {
          threads = λ t known. ([], sym (same-threads t known) ∙ sym (append-nil (of_thread order t)));
          objects = λ o known. ([], sym (same-objects o known) ∙ sym (append-nil (of_object order o)));
        } in
        let range : AreInRange x order = λ e within. (run-reaches x es j run).1 e (from e within) in
        let other = interleave x (of_thread es) (of_object es) (reached-recorded x (of_thread es) (of_object es) j reached) (run-clocked x es j run) order range begins in
        let same = reached-same (of_thread order) (of_object order) (of_thread es) (of_object es) other.0 same-threads same-objects other.2 in
        subst (IsJointRun x order) (reached-one x (of_thread es) (of_object es) other.0 j same reached) other.1

  -- in a joint run each event stands after its direct predecessors
  pub run-keeps : (es : List Entry) (j : JointState) → IsJointRun x es j → KeepsPredecessors es
  run-keeps es j run prefix back a b parts within direct =
      let there : Contains es b = subst (λ (l : List Entry). Contains l b) (sym parts) (Contains-middle prefix back b) in
      (prefixes-are_closed x es j run es [] (sym (append-nil es))).closed prefix back a b parts ([], (within, there, direct))
