-- What each event does to how many events an object owes.
use Rattle.std.proofs.Common.{◌≡◌, ℕ, zero, suc, ◌+◌, ◌≤◌, Bool, true, false, not, ◌||◌, ◌==◌, ◌⊎◌, ⊎_elim, if◌then◌else◌, is_some, Some, refl, ap, ◌∙◌, arith, eq-eqb, ne_eqb}
use Rattle.std.proofs.lemmas.Bool.{cases_eq, or_right}
use Rattle.tm_base.specs.declared.operations.Op.{Op}
use Rattle.tm_base.specs.declared.operations.Op.TheVariants as op
use Rattle.tm_base.specs.declared.replies.Reply.{Reply}
use Rattle.tm_base.specs.declared.kinds.Kind.{Kind}
use Rattle.tm_base.specs.declared.kinds.Kind.TheVariants as kind
use Rattle.tm_base.specs.States.{State, start_kind_state, start_state, is_pending, is_waiting, grant_of}
use Rattle.tm_base.specs.Machines.{ObjectView, changed, fresh, is_step}
use Rattle.tm_base.specs.Histories.{Lawful, Calls}
use Rattle.tm_base.specs.Fits.{is_stop}
use Rattle.tm_laws.specs.Counts.{bit, is_wait}
use Rattle.tm_laws.specs.Tidy.{IsStateOf, IsSound, Moves}
use Rattle.tm_laws.specs.ThreadObjects.{is_begin, is_end}
use Rattle.tm_laws.specs.Owed.{pending_to, own_owed, owed, paid}
use Rattle.tm_laws.proofs.Counting.{bit_small, grant-plain}
use Rattle.tm_laws.proofs.Tidiness.{times_some}
use Rattle.tm_laws.proofs.StartStateLemmas.{start-free}
use Rattle.tm_laws.proofs.LawfulMoves.{Lawful-moves, no_stop}
use Rattle.tm_laws.proofs.Begun.{Noted, Lawful-noted, Lawful-made, Begin-turn, End-turn, End-plain}

-- one thread's call is pending from now on or not, and all others as before
module _ (s s' : State) (t : ℕ) (w : Bool) (moved : (u : ℕ) → is_pending s' u ≡ (if u == t then w else is_pending s u)) where
  here : is_pending s' t ≡ w
  here = moved t ∙ ap (λ b. if b then w else is_pending s t) (eq-eqb t t refl)

  there : (u : ℕ) → (u ≡ t → ⊥) → is_pending s' u ≡ is_pending s u
  there u ne = moved u ∙ ap (λ b. if b then w else is_pending s u) (ne_eqb u t ne)

  pub pending_to-others : (n : ℕ) → ((u : ℕ) → 1 ≤ u → u ≤ n → u ≡ t → ⊥) → pending_to s' n ≡ pending_to s n
  pending_to-others zero apart = refl
  pending_to-others (suc n) apart =
      omega (arith, pending_to-others n (λ u low high. apart u low (omega arith)), ap bit (there (suc n) (apart (suc n) (omega arith) (omega arith))))

  pub pending_to-moved : (n : ℕ) → 1 ≤ t → t ≤ n → pending_to s' n + bit (is_pending s t) ≡ pending_to s n + bit w
  pending_to-moved zero low high = absurd (omega arith)
  pending_to-moved (suc n) low high = go (cases_eq (suc n) t) (λ le. pending_to-moved n low le)
    where
      go : ((suc n ≡ t) ⊎ (suc n ≡ t → ⊥)) → (t ≤ n → pending_to s' n + bit (is_pending s t) ≡ pending_to s n + bit w)
          → pending_to s' (suc n) + bit (is_pending s t) ≡ pending_to s (suc n) + bit w
      go c ih = ⊎_elim
          (λ (e : suc n ≡ t). omega (arith, pending_to-others n (λ u _ high e'. omega arith), ap (λ u. bit (is_pending s u)) e, ap (λ u. bit (is_pending s' u)) e, ap bit here))
          (λ (ne : suc n ≡ t → ⊥). omega (arith, ih (omega arith), ap bit (there (suc n) ne))) c

-- a thread object pays for its begin and its end
abbrev own_paid : Op → ℕ
own_paid op.Begin = 2
own_paid (op.End cut) = 1
own_paid o = 0

own_paid-none : (o : Op) → is_begin o ≡ false → is_end o ≡ false → own_paid o ≡ 0
own_paid-none op.Begin b e = absurd cc
own_paid-none (op.End cut) b e = absurd cc
own_paid-none o b e = refl

paid-own : (o : Op) → is_step o ≡ true → paid o ≡ own_paid o
paid-own op.Resume e = absurd cc
paid-own op.Stop e = absurd cc
paid-own o e = refl

module _ (threads : ℕ) (s : State) (t : ℕ) (r : Reply) (s' : State) where
  thread_pays : (n : ℕ) (held : Bool) (o : Op) → IsStateOf (kind.Thread n held) s.kind_state → Lawful (record { kind = kind.Thread n held; threads = threads; state = s }) t o r s' → Noted o s.kind_state s'.kind_state
      → own_owed (kind.Thread n held) s'.kind_state + own_paid o ≡ own_owed (kind.Thread n held) s.kind_state
  thread_pays n held op.Begin shape e noted = rw (noted.begun, noted.ended, (Begin-turn n held threads s t r s' shape e).1) (omega arith)
  thread_pays n held (op.End cut) shape e noted = rw (noted.begun, noted.ended, (End-turn n held threads s t r s' shape cut e).2) (omega arith)
  thread_pays n held o shape e noted = rw (noted.begun, noted.ended) (omega arith)

  own_pays : (k : Kind) (o : Op) → IsSound (record { kind = k; threads = threads; state = s }) → Lawful (record { kind = k; threads = threads; state = s }) t o r s' → own_owed k s'.kind_state + own_paid o ≡ own_owed k s.kind_state
  own_pays (kind.Thread n held) o sound e = thread_pays n held o sound.kind_state e (Lawful-noted (record { kind = kind.Thread n held; threads = threads; state = s }) t o r s' sound e)
  own_pays k o sound e =
      let made = Lawful-made (record { kind = k; threads = threads; state = s }) t o r s' e refl in
      omega (arith, own_paid-none o made.0 made.1)

module _ (h : ObjectView) (t : ℕ) (o : Op) (r : Reply) (s' : State) (m : Moves h t o r s') (own : own_owed h.kind s'.kind_state + own_paid o ≡ own_owed h.kind h.state.kind_state) where
  -- a call and a resume are made by a program thread
  thread_moves : 1 ≤ t → t ≤ h.threads → is_stop o ≡ false → owed (changed h s') + (bit (is_pending h.state t) + own_paid o) ≡ owed h + bit (is_wait r)
  thread_moves low high running =
      let same : s'.stopped ≡ h.state.stopped = m.stopped ∙ ap (λ b. b || h.state.stopped) running in
      omega (arith, pending_to-moved h.state s' t (is_wait r) m.pending h.threads low high, ap (λ b. bit (not b)) same, own)

  -- the stop by `main`
  main_moves : t ≡ 0 → h.state.stopped ≡ false → is_stop o ≡ true → is_wait r ≡ false → owed (changed h s') + (1 + own_paid o) ≡ owed h + bit (is_wait r)
  main_moves main before stop plain =
      let after : s'.stopped ≡ true = m.stopped ∙ ap (λ b. b || h.state.stopped) stop in
      omega (arith, pending_to-others h.state s' t (is_wait r) m.pending h.threads (λ u low _ e. omega arith), ap (λ b. bit (not b)) after, ap (λ b. bit (not b)) before, own, ap bit plain)

Step-owes : (h : ObjectView) (t : ℕ) (o : Op) (r : Reply) (s' : State) → IsSound h → Calls h t o r s' → Moves h t o r s' → own_owed h.kind s'.kind_state + own_paid o ≡ own_owed h.kind h.state.kind_state
    → owed (changed h s') + paid o ≡ owed h + bit (is_wait r)
Step-owes h t o r s' sound e m own =
    omega (arith, thread_moves h t o r s' m own e.may.program e.may.known (no_stop o e.may.step), paid-own o e.may.step, ap bit e.may.free)

-- who was granted a reply is pending, and a program thread
granted_pending : (s : State) (t : ℕ) (r : Reply) → grant_of s t ≡ Some r → is_pending s t ≡ true
granted_pending s t r e = or_right (is_waiting s t) (is_some (grant_of s t)) (ap is_some e)

pub owed-moves : (h : ObjectView) (t : ℕ) (o : Op) (r : Reply) (s' : State) → IsSound h → Lawful h t o r s' → owed (changed h s') + paid o ≡ owed h + bit (is_wait r)
owed-moves h t op.Resume r s' sound e =
    let pending : is_pending h.state t ≡ true = granted_pending h.state t r e.granted in
    let k : (1 ≤ t) × (t ≤ h.threads) = sound.tidy.known t (times_some h.state t pending) in
    omega (arith, thread_moves h t op.Resume r s' (Lawful-moves h t op.Resume r s' sound e) (own_pays h.threads h.state t r s' h.kind op.Resume sound e) k.0 k.1 refl, ap bit pending)
owed-moves h t op.Stop r s' sound e =
    omega (arith, main_moves h t op.Stop r s' (Lawful-moves h t op.Stop r s' sound e) (own_pays h.threads h.state t r s' h.kind op.Stop sound e) e.main e.running refl (ap is_wait e.reply))
owed-moves h t o r s' sound e = Step-owes h t o r s' sound e (Lawful-moves h t o r s' sound e) (own_pays h.threads h.state t r s' h.kind o sound e)

abbrev pub is_owed : Op → Bool
is_owed op.Begin = true
is_owed (op.End cut) = true
is_owed op.Resume = true
is_owed op.Stop = true
is_owed o = false

-- the owed events find their room: with the entry itself no more is owed than before
pub owed-pays : (h : ObjectView) (t : ℕ) (o : Op) (r : Reply) (s' : State) → IsSound h → Lawful h t o r s' → is_owed o ≡ true → 1 + owed (changed h s') ≤ owed h
owed-pays h t op.Begin r s' sound e is = omega (arith, owed-moves h t op.Begin r s' sound e, bit_small (is_wait r))
owed-pays h t (op.End cut) r s' sound e is = omega (arith, owed-moves h t (op.End cut) r s' sound e, ap bit (End-plain h t cut r s' e))
owed-pays h t op.Resume r s' sound e is = omega (arith, owed-moves h t op.Resume r s' sound e, ap bit (grant-plain r (sound.tidy.final t r e.granted)))
owed-pays h t op.Stop r s' sound e is = omega (arith, owed-moves h t op.Stop r s' sound e, ap (λ q. bit (is_wait q)) e.reply)
owed-pays h t o r s' sound e is = absurd cc

-- and every event owes one more at most
pub owed-grows : (h : ObjectView) (t : ℕ) (o : Op) (r : Reply) (s' : State) → IsSound h → Lawful h t o r s' → owed (changed h s') ≤ owed h + 1
owed-grows h t o r s' sound e = omega (arith, owed-moves h t o r s' sound e, bit_small (is_wait r))

-- before its first event an object owes its stop, and what a thread object owes
pub pending_to-start : (k : Kind) (threads n : ℕ) → pending_to (start_state k threads) n ≡ 0
pending_to-start k threads zero = refl
pending_to-start k threads (suc n) = omega (arith, pending_to-start k threads n, ap bit (start-free k threads (suc n)))

pub owed-start : (k : Kind) (threads : ℕ) → owed (fresh k threads) ≡ 1 + own_owed k (start_kind_state k)
owed-start k threads = omega (arith, pending_to-start k threads threads)
