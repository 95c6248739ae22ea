-- With which reply a waiting call ends: where it was granted one, with that.
use Rattle.std.proofs.Common.{◌≡◌, ℕ, ◌<◌, ◌≤◌, true, false, ◌==◌, ⊎_elim, List, [], ◌∷◌, length, Option, Some, None, is_some, slice_index_or, slice_set, refl, ap, sym, ◌∙◌, subst, arith, eq-eqb, ne_eqb, get_or-set_same, get_or-set_other}
use Rattle.std.proofs.lemmas.Bool.{cases_eq, cases_lt, or_left, or_right}
use Rattle.std.proofs.lemmas.List.{set_past}
use Rattle.tm_base.specs.declared.operations.Op.{Op}
use Rattle.tm_base.specs.declared.operations.Op.TheVariants as op
use Rattle.tm_base.specs.declared.replies.Reply.{Reply}
use Rattle.tm_base.specs.declared.replies.Reply.TheVariants as reply
use Rattle.tm_base.specs.declared.events.Entry.{Entry}
use Rattle.tm_base.specs.States.{State, queued, grant_of, grant_all, is_waiting, is_pending}
use Rattle.tm_base.specs.Steps.{Step}
use Rattle.tm_base.specs.Machines.{ObjectView, CanStep}
use Rattle.tm_base.specs.Runs.{Leads}
use Rattle.tm_base.specs.Histories.{Label, HistoryState, Follows, Lawful, object_at}
use Rattle.tm_laws.specs.Counts.{bit, count_in}
use Rattle.tm_laws.specs.Tidy.{IsSound}
use Rattle.tm_laws.proofs.Counting.{bit-true}
use Rattle.tm_laws.proofs.Tidiness.{joins-other}
use Rattle.tm_laws.proofs.TableRowLemmas.{RowStep}
use Rattle.tm_laws.proofs.StepRow.{Step-row}
use Rattle.tm_laws.proofs.WaitersLemmas.{waiting-known, waiting-ungranted, granted-known}
use Rattle.tm_laws.proofs.Reaching.{Follows-moves}
use Rattle.tm_channels.specs.Deliveries.{granted_or_wait, outcome}

-- who was granted the reply keeps it while others are granted the same
pub grant_all-keeps : (ts : List ℕ) (a : Reply) (g : List (Option Reply)) (x : ℕ) → slice_index_or g x None ≡ Some a → slice_index_or (grant_all ts a g) x None ≡ Some a
grant_all-keeps [] a g x h = h
grant_all-keeps (t ∷ ts) a g x h = grant_all-keeps ts a (slice_set g t (Some a)) x (⊎_elim here there (cases_eq t x))
  where
    here : t ≡ x → slice_index_or (slice_set g t (Some a)) x None ≡ Some a
    here e =
        let before : slice_index_or g t None ≡ Some a = subst (λ (u : ℕ). slice_index_or g u None ≡ Some a) (sym e) h in
        let same : slice_index_or (slice_set g t (Some a)) t None ≡ Some a =
        ⊎_elim (λ (inside : t < length g). get_or-set_same g t (Some a) None inside) (λ (past : length g ≤ t). rw (set_past g t (Some a) past) before) (cases_lt t (length g)) in
        subst (λ (u : ℕ). slice_index_or (slice_set g t (Some a)) u None ≡ Some a) e same

    there : (t ≡ x → ⊥) → slice_index_or (slice_set g t (Some a)) x None ≡ Some a
    there ne = get_or-set_other g t x (Some a) None (λ e. ne (sym e)) ∙ h

-- who isn't granted keeps what it had
grant_all-other : (ts : List ℕ) (a : Reply) (g : List (Option Reply)) (u : ℕ) → count_in ts u ≡ 0 → slice_index_or (grant_all ts a g) u None ≡ slice_index_or g u None
grant_all-other [] a g u none = refl
grant_all-other (t ∷ ts) a g u none =
    grant_all-other ts a (slice_set g t (Some a)) u (omega arith)
    ∙ get_or-set_other g t u (Some a) None (λ (same : u ≡ t). absurd (omega (arith, bit-true (t == u) (eq-eqb t u (sym same)))))

-- a thread that was granted a reply, and an event of some thread
module _ (h : ObjectView) (sound : IsSound h) (u : ℕ) (a : Reply) (granted : grant_of h.state u ≡ Some a) (r : Reply) (s' : State) where
  unqueued : count_in (queued h.state.kind_state) u ≡ 0
  unqueued = omega (arith, sound.tidy.once u, ap (λ g. bit (is_some g)) granted)

  -- its own event takes the reply
  takes : (o : Op) → Lawful h u o r s' → r ≡ a
  takes op.Resume e = let some : grant_of h.state u ≡ Some r = e.granted in cc
  takes op.Stop e = absurd (omega (arith, (granted-known h.threads h.state sound.tidy u a granted).0, e.main))
  takes o e =
      let on : is_pending h.state u ≡ true = or_right (is_waiting h.state u) (is_some (grant_of h.state u)) (ap is_some granted) in
      let off : is_pending h.state u ≡ false = e.may.free in
      absurd cc

  step-stays : (t : ℕ) (o : Op) → CanStep h t o → Step h.kind h.state t o r s' → (t ≡ u → ⊥) → grant_of s' u ≡ Some a
  step-stays t o may step ne =
      let row : RowStep h.kind h.state t r s' = Step-row h t o r s' sound.kind_state may step in
      rw row.next (grant_all-other row.served row.answer h.state.granted u (omega (arith, row.counts u, joins-other r t u ne, unqueued)) ∙ granted)

  -- another thread's event leaves it
  stays : (t : ℕ) (o : Op) → Lawful h t o r s' → (t ≡ u → ⊥) → grant_of s' u ≡ Some a
  stays t op.Resume e ne = rw e.cleared (get_or-set_other h.state.granted t u None None (λ k. ne (sym k)) ∙ granted)
  stays t op.Stop e ne = rw e.halted (grant_all-other (queued h.state.kind_state) reply.Stopped h.state.granted u unqueued ∙ granted)
  stays t o e ne = step-stays t o e.may e.step ne

-- a thread that waits has no event
pub no_event : (h : ObjectView) (u : ℕ) (r : Reply) (s' : State) → IsSound h → is_waiting h.state u ≡ true → (o : Op) → Lawful h u o r s' → ⊥
no_event h u r s' sound waits op.Resume e =
    let none : grant_of h.state u ≡ None = waiting-ungranted h.threads h.state sound.tidy u waits in
    let some : grant_of h.state u ≡ Some r = e.granted in
    cc
no_event h u r s' sound waits op.Stop e = omega (arith, (waiting-known h.threads h.state sound.tidy u waits).0, e.main)
no_event h u r s' sound waits o e =
    let on : is_pending h.state u ≡ true = or_left (is_waiting h.state u) (is_some (grant_of h.state u)) waits in
    let off : is_pending h.state u ≡ false = e.may.free in
    cc

-- the call of a thread that was granted a reply ends with it
module _ (l : Label) (q : HistoryState) (u : ℕ) (a : Reply) where
  pub granted-outcome : (es : List Entry) (p : HistoryState) → IsSound (object_at l p.state) → grant_of p.state u ≡ Some a → Leads (Follows l) p es q → outcome q.state u es ≡ a
  granted-outcome [] p sound granted run = rw run (ap granted_or_wait granted)
  granted-outcome (e ∷ es) p sound granted run = ⊎_elim
      (λ (same : e.thread ≡ u).
      rw (eq-eqb e.thread u same)
      (takes (object_at l p.state) sound u a granted e.reply run.0.state e.op (subst (λ (t : ℕ). Lawful (object_at l p.state) t e.op e.reply run.0.state) same run.1.lawful)))
      (λ (ne : e.thread ≡ u → ⊥).
      rw (ne_eqb e.thread u ne)
      (granted-outcome es run.0 (Follows-moves l p e run.0 sound run.1).sound (stays (object_at l p.state) sound u a granted e.reply run.0.state e.thread e.op run.1.lawful ne) run.2))
      (cases_eq e.thread u)
