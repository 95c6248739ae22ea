-- What each lawful event does to a sound object.
use Rattle.std.proofs.Common.{◌≡◌, ℕ, ◌+◌, ◌<◌, ◌≤◌, Bool, true, false, ◌||◌, ◌==◌, ⊎_elim, nat_lt, if◌then◌else◌, refl, ap, sym, ◌∙◌, subst, arith, eq-eqb, ne_eqb}
use Rattle.std.proofs.lemmas.Bool.{cases_eq, cases_lt}
use Rattle.tm_base.specs.declared.operations.Op.{Op}
use Rattle.tm_base.specs.declared.operations.Op.TheVariants as op
use Rattle.tm_base.specs.declared.replies.Reply.{Reply}
use Rattle.tm_base.specs.States.{State, is_pending}
use Rattle.tm_base.specs.Steps.{Step}
use Rattle.tm_base.specs.Machines.{ObjectView, CanStep, is_step}
use Rattle.tm_base.specs.Histories.{Resumes, Halts, Lawful}
use Rattle.tm_base.specs.Fits.{is_stop}
use Rattle.tm_laws.specs.Counts.{bit, occurrences, is_wait, joins}
use Rattle.tm_laws.specs.Tidy.{IsTidy, IsStateOf, IsSound, Moves}
use Rattle.tm_laws.proofs.Counting.{bit-true, grant-plain}
use Rattle.tm_laws.proofs.TableRowLemmas.{RowStep}
use Rattle.tm_laws.proofs.StepRow.{Step-row}
use Rattle.tm_laws.proofs.Tidiness.{joins-self, joins-other, is_pending-occurrences, times_none, granting-occurrences, granting-tidy}
use Rattle.tm_laws.proofs.Resumes.{resumed-occurrences, resumed-tidy}
use Rattle.tm_laws.proofs.Halts.{halted-occurrences, halted-tidy, emptied-own}

-- the pending calls, from how often each thread waits or was granted
pending_from_times : (s s' : State) (t : ℕ) (r : Reply) → ((u : ℕ) → occurrences s' u ≡ (if u == t then bit (is_wait r) else occurrences s u))
    → (u : ℕ) → is_pending s' u ≡ (if u == t then is_wait r else is_pending s u)
pending_from_times s s' t r moved u = is_pending-occurrences s' u ∙ go (u == t) (is_wait r) (moved u)
  where
    go : (same w : Bool) → occurrences s' u ≡ (if same then bit w else occurrences s u) → nat_lt 0 (occurrences s' u) ≡ (if same then w else is_pending s u)
    go true true e = ap (nat_lt 0) e
    go true false e = ap (nat_lt 0) e
    go false w e = ap (nat_lt 0) e ∙ sym (is_pending-occurrences s u)

-- all that is to be shown of an event
moves : (h : ObjectView) (t : ℕ) (o : Op) (r : Reply) (s' : State) → IsTidy h.threads s' → IsStateOf h.kind s'.kind_state
    → (occurrences s' t ≡ bit (is_wait r)) → ((u : ℕ) → (t ≡ u → ⊥) → occurrences s' u ≡ occurrences h.state u) → s'.stopped ≡ (is_stop o || h.state.stopped) → Moves h t o r s'
moves h t o r s' tidy own here there stopped = record { stopped = stopped; sound = record { tidy = tidy; kind_state = own }; occurrences = moved; pending = pending_from_times h.state s' t r moved }
  where
    moved : (u : ℕ) → occurrences s' u ≡ (if u == t then bit (is_wait r) else occurrences h.state u)
    moved u = ⊎_elim
        (λ (e : t ≡ u). subst (λ (v : ℕ). occurrences s' v ≡ (if v == t then bit (is_wait r) else occurrences h.state v)) e (rw (eq-eqb t t refl) here))
        (λ (ne : t ≡ u → ⊥). rw (ne_eqb u t (λ e. ne (sym e))) (there u ne)) (cases_eq t u)

pub no_stop : (o : Op) → is_step o ≡ true → is_stop o ≡ false
no_stop op.Stop e = absurd cc
no_stop o e = refl

-- a call
module _ (h : ObjectView) (t : ℕ) (o : Op) (r : Reply) (s' : State) (sound : IsSound h) (may : CanStep h t o) (step : Step h.kind h.state t o r s') where
  the_row : RowStep h.kind h.state t r s'
  the_row = Step-row h t o r s' sound.kind_state may step

  free : occurrences h.state t ≡ 0
  free = times_none h.state t may.free

  pub Step-occurrences : (u : ℕ) → occurrences s' u ≡ occurrences h.state u + joins r t u
  Step-occurrences u = rw the_row.next (granting-occurrences h.threads h.state t r the_row.kind_state the_row.served the_row.answer sound.tidy may.program may.known free the_row.counts u)

  pub Step-tidy : IsTidy h.threads s'
  Step-tidy = subst (IsTidy h.threads) (sym the_row.next)
      (granting-tidy h.threads h.state t r the_row.kind_state the_row.served the_row.answer sound.tidy may.program may.known free the_row.counts the_row.final the_row.running)

  pub Step-moves : Moves h t o r s'
  Step-moves = moves h t o r s' Step-tidy (subst (λ (s : State). IsStateOf h.kind s.kind_state) (sym the_row.next) the_row.shape)
      (omega (arith, Step-occurrences t, free, joins-self r t)) (λ u ne. omega (arith, Step-occurrences u, joins-other r t u ne))
      (rw (no_stop o may.step) (ap (λ s. s.stopped) the_row.next))

  pub Step-runs : h.state.stopped ≡ true → is_wait r ≡ false
  Step-runs on = the_row.running on (sound.tidy.quiet on)

-- a resume
module _ (h : ObjectView) (t : ℕ) (r : Reply) (s' : State) (sound : IsSound h) (e : Resumes h.state t r s') where
  plain : is_wait r ≡ false
  plain = grant-plain r (sound.tidy.final t r e.granted)

  Resumes-occurrences : (u : ℕ) → occurrences s' u + bit (t == u) ≡ occurrences h.state u
  Resumes-occurrences u = rw e.cleared (resumed-occurrences h.state t r e.granted u)

  Resumes-moves : Moves h t op.Resume r s'
  Resumes-moves = moves h t op.Resume r s'
      (subst (IsTidy h.threads) (sym e.cleared) (resumed-tidy h.state t r e.granted h.threads sound.tidy))
      (subst (λ (s : State). IsStateOf h.kind s.kind_state) (sym e.cleared) sound.kind_state)
      (omega (arith, Resumes-occurrences t, bit-true (t == t) (eq-eqb t t refl), sound.tidy.once t, ap bit plain))
      (λ u ne. omega (arith, Resumes-occurrences u, ap bit (ne_eqb t u ne)))
      (ap (λ s. s.stopped) e.cleared)

-- a stop
module _ (h : ObjectView) (t : ℕ) (r : Reply) (s' : State) (sound : IsSound h) (e : Halts h.state t r s') where
  Halts-occurrences : (u : ℕ) → occurrences s' u ≡ occurrences h.state u
  Halts-occurrences u = rw e.halted (halted-occurrences h.threads h.state sound.tidy u)

  nobody : occurrences h.state t ≡ 0
  nobody = ⊎_elim (λ (none : occurrences h.state t < 1). omega arith)
      (λ (some : 1 ≤ occurrences h.state t). let k : (1 ≤ t) × (t ≤ h.threads) = sound.tidy.known t some in absurd (omega (arith, k.0, e.main))) (cases_lt (occurrences h.state t) 1)

  Halts-moves : Moves h t op.Stop r s'
  Halts-moves = moves h t op.Stop r s'
      (subst (IsTidy h.threads) (sym e.halted) (halted-tidy h.threads h.state sound.tidy))
      (subst (λ (s : State). IsStateOf h.kind s.kind_state) (sym e.halted) (emptied-own h.kind h.state.kind_state sound.kind_state))
      (omega (arith, Halts-occurrences t, nobody, ap (λ q. bit (is_wait q)) e.reply))
      (λ u _. Halts-occurrences u)
      (ap (λ s. s.stopped) e.halted)

pub Lawful-moves : (h : ObjectView) (t : ℕ) (o : Op) (r : Reply) (s' : State) → IsSound h → Lawful h t o r s' → Moves h t o r s'
Lawful-moves h t op.Resume r s' sound e = Resumes-moves h t r s' sound e
Lawful-moves h t op.Stop r s' sound e = Halts-moves h t r s' sound e
Lawful-moves h t o r s' sound e = Step-moves h t o r s' sound e.may e.step

-- a call waits only while the object wasn't stopped
pub Lawful-runs : (h : ObjectView) (t : ℕ) (o : Op) (r : Reply) (s' : State) → IsSound h → Lawful h t o r s' → h.state.stopped ≡ true → is_wait r ≡ false
Lawful-runs h t op.Resume r s' sound e on = grant-plain r (sound.tidy.final t r e.granted)
Lawful-runs h t op.Stop r s' sound e on = ap is_wait e.reply
Lawful-runs h t o r s' sound e on = Step-runs h t o r s' sound e.may e.step on
