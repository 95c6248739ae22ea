use Rattle.std.proofs.Common.{◌≡◌, ℕ, ◌<◌, ◌+◌, Bool, true, false, append-nil, List, [], ◌∷◌, ◌++◌, filter, length, Option, Some, None, slice_get, if◌then◌else◌, arith, refl, ap, sym, ◌∙◌}
use Rattle.std.specs.List.{range_with_len}
use Rattle.tm_replay.specs.Bars.{has_waiter, is_some_queued}
use Rattle.tm_replay.specs.JointStates.{JointState, ObjectState}
use Rattle.tm_joint.specs.Joints.{JointView}
use Rattle.tm_joint.specs.Readings.{waiters_at, waiters_of}
use Rattle.tm_base.specs.States.{queued}
use Rattle.tm_collect.specs.Collectors.{CollectorView}
use Rattle.tm_session.proofs.Growing.{filter-range_more}
use Rattle.tm_session.proofs.alone_runs.AloneRun.list_waited.Goals as goal
use Rattle.tm_session.proofs.alone_runs.AloneRun.list_waited.Goals.{then-waiters-gt0+in_ok-push_back, else-waiters-gt0}

-- an object has a waiter where more than none are counted
counted : (o : Option ObjectState) → 0 < waiters_of o → has_waiter o ≡ true
counted None low = absurd (omega (arith, low))
counted (Some b) low = go (queued b.view.state.kind_state) low
  where
    go : (queue : List ℕ) → 0 < length queue → is_some_queued queue ≡ true
    go [] low = absurd (omega (arith, low))
    go (t ∷ queue) low = refl

uncounted : (o : Option ObjectState) → (0 < waiters_of o → ⊥) → has_waiter o ≡ false
uncounted None none = refl
uncounted (Some b) none = go (queued b.view.state.kind_state) none
  where
    go : (queue : List ℕ) → (0 < length queue → ⊥) → is_some_queued queue ≡ false
    go [] none = refl
    go (t ∷ queue) none = absurd (none (omega arith))

-- what was listed, and one object more or not
listed : (j : JointState) (o : ℕ) (b : Bool) (old new : List ℕ) → has_waiter (slice_get j.objects o) ≡ b → old ≡ filter (λ n. has_waiter (slice_get j.objects n)) (range_with_len 0 o)
    → new ≡ old ++ (if b then o ∷ [] else []) → new ≡ filter (λ n. has_waiter (slice_get j.objects n)) (range_with_len 0 (o + 1))
listed j o b old new test before added =
    let p = λ (n : ℕ). has_waiter (slice_get j.objects n) in
    added ∙ ap (λ l. l ++ (if b then o ∷ [] else [])) before
    ∙ sym (filter-range_more p 0 o o (omega arith) ∙ ap (λ (v : Bool). filter p (range_with_len 0 o) ++ (if v then o ∷ [] else [])) test)

pub loop-object-preserved : goal.loop-object-preserved
loop-object-preserved c =
    let o = c.loop-object.object in
    let j = c.args.self.now.collector.joint.state in
    let before = c.loop-object.invariant in
    let same : waiters_at c.joint.result.now.state o ≡ waiters_at j o =
    ap (λ (v : JointView). waiters_at v.state o) c.joint.ensures.value ∙ ap (λ (v : CollectorView). waiters_at v.joint.state o) before.collector in
    elim c.if-waiters-gt0.branch [
      | then-waiters-gt0+in_ok-push_back w ↦ rw w.self-is (record {
        waited = listed j o true c.loop-object.self.stops.items _ (counted (slice_get j.objects o) (omega (arith, w.if-waiters-gt0.true, c.waiters.ensures, same))) before.waited w.in_ok-push_back.ensures.items;
        books = before.books;
        tickets = before.tickets;
        collector = before.collector;
        last = before.last;
        draw = before.draw;
      })
      | else-waiters-gt0 w ↦ rw w.self-is (record {
        waited = listed j o false c.loop-object.self.stops.items _ (uncounted (slice_get j.objects o) (λ low. omega (arith, low, w.if-waiters-gt0.false, c.waiters.ensures, same))) before.waited
            (sym (append-nil c.loop-object.self.stops.items));
        books = before.books;
        tickets = before.tickets;
        collector = before.collector;
        last = before.last;
        draw = before.draw;
      })
    ]
