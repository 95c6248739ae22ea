-- Whether an event granted a call, by how many calls wait.
use Rattle.std.proofs.Common.{◌≡◌, ◌≢◌, ℕ, zero, suc, ◌+◌, ◌<◌, ◌≤◌, Bool, true, false, nat_lt, ◌==◌, ⊎_elim, if◌then◌else◌, List, length, refl, ap, sym, ◌∙◌, subst, arith, eq-eqb, ne_eqb, ltb-true, lt-ltb}
use Rattle.std.proofs.lemmas.Bool.{cases_eq, false≢true}
use Rattle.tm_base.specs.declared.operations.Op.{Op}
use Rattle.tm_base.specs.declared.operations.Op.TheVariants as op
use Rattle.tm_base.specs.declared.replies.Reply.{Reply}
use Rattle.tm_base.specs.declared.replies.Reply.TheVariants as reply
use Rattle.tm_base.specs.States.{State, is_queued, is_waiting, queued}
use Rattle.tm_base.specs.Machines.{ObjectView}
use Rattle.tm_base.specs.Histories.{Calls, Lawful}
use Rattle.tm_laws.specs.Counts.{bit, count_in}
use Rattle.tm_laws.specs.Tidy.{IsSound}
use Rattle.tm_laws.specs.Waiters.{waiting_to}
use Rattle.tm_laws.proofs.Counting.{is_queued-count}
use Rattle.tm_laws.proofs.Giving.{Lawful-gives}
use Rattle.tm_laws.proofs.Halts.{queued-emptied}
use Rattle.tm_laws.proofs.LawfulMoves.{Lawful-moves}
use Rattle.tm_laws.proofs.StepRow.{Step-row}
use Rattle.tm_laws.proofs.Tidiness.{joins-other}
use Rattle.tm_laws.proofs.WaitersLemmas.{length-queued}
use Rattle.tm_joint.specs.Showing.{NamesKnown}

-- who stands in a queue stands in one where it stands as often at least
queued-more : (q p : List ℕ) (x : ℕ) → count_in q x ≤ count_in p x → is_queued q x ≡ true → is_queued p x ≡ true
queued-more q p x le h =
    let some : 0 < count_in q x = ltb-true 0 (count_in q x) (sym (is_queued-count q x) ∙ h) in
    is_queued-count p x ∙ lt-ltb 0 (count_in p x) (omega (arith, some, le))

-- no other thread begins to wait by an event
waits-before : (h : ObjectView) (t : ℕ) (o : Op) (r : Reply) (s' : State) → IsSound h → Lawful h t o r s' → (u : ℕ) → u ≢ t → is_waiting s' u ≡ true → is_waiting h.state u ≡ true
waits-before h t op.Resume r s' sound lawful u ne waits = ap (λ (s : State). is_waiting s u) (sym lawful.cleared) ∙ waits
waits-before h t op.Stop r s' sound lawful u ne waits =
    absurd (false≢true (sym (ap (λ q. is_queued q u) (queued-emptied h.state.kind_state)) ∙ sym (ap (λ (s : State). is_waiting s u) lawful.halted) ∙ waits))
waits-before h t o r s' sound lawful u ne waits =
    let row = Step-row h t o r s' sound.kind_state lawful.may lawful.step in
    let counts = row.counts u in
    queued-more (queued row.kind_state) (queued h.state.kind_state) u (omega (arith, counts, joins-other r t u (λ e. ne (sym e))))
    (sym (ap (λ (s : State). is_waiting s u) row.next) ∙ waits)

-- the sum over the numbers from 1 to n
abbrev total : (ℕ → ℕ) → ℕ → ℕ
total f zero = 0
total f (suc n) = total f n + f (suc n)

total-least : (f g : ℕ → ℕ) → ((u : ℕ) → f u ≤ g u) → (n : ℕ) → total f n ≤ total g n
total-least f g least zero = omega arith
total-least f g least (suc n) = omega (arith, total-least f g least n, least (suc n))

-- where each term is at most another, and their sum isn't less, each is equal
squeezed : (f g : ℕ → ℕ) → ((u : ℕ) → f u ≤ g u) → (n : ℕ) → total g n ≤ total f n → (u : ℕ) → 1 ≤ u → u ≤ n → f u ≡ g u
squeezed f g least zero all u low high = absurd (omega (arith, low, high))
squeezed f g least (suc n) all u low high = ⊎_elim
    (λ (here : u ≡ suc n). subst (λ (k : ℕ). f k ≡ g k) (sym here) (omega (arith, all, total-least f g least n, least (suc n))))
    (λ (ne : u ≢ suc n). squeezed f g least n (omega (arith, all, least (suc n))) u low (omega (arith, high, ne)))
    (cases_eq u (suc n))

total-sum : (f g : ℕ → ℕ) (n : ℕ) → total (λ u. f u + g u) n ≡ total f n + total g n
total-sum f g zero = refl
total-sum f g (suc n) = omega (arith, total-sum f g n)

-- c at one number, and 0 at the others
abbrev only : ℕ → ℕ → ℕ → ℕ
only t c u = if u == t then c else 0

only-none : (t c n : ℕ) → n < t → total (only t c) n ≡ 0
only-none t c zero h = refl
only-none t c (suc n) h = omega (arith, only-none t c n (omega (arith, h)), ap (λ b. if b then c else 0) (ne_eqb (suc n) t (λ e. omega (arith, e, h))))

only-most : (t c n : ℕ) → total (only t c) n ≤ c
only-most t c zero = omega arith
only-most t c (suc n) = ⊎_elim
    (λ (here : suc n ≡ t). omega (arith, only-none t c n (omega (arith, here)), ap (λ b. if b then c else 0) (eq-eqb (suc n) t here)))
    (λ (ne : suc n ≢ t). omega (arith, only-most t c n, ap (λ b. if b then c else 0) (ne_eqb (suc n) t ne)))
    (cases_eq (suc n) t)

bit-least : (a b : Bool) → (a ≡ true → b ≡ true) → bit a ≤ bit b
bit-least false b h = omega arith
bit-least true b h = omega (arith, ap bit (h refl))

bit-one : (a b : Bool) → bit a ≡ bit b → a ≡ b
bit-one true true e = refl
bit-one false false e = refl
bit-one true false e = absurd (omega (arith, e))
bit-one false true e = absurd (omega (arith, e))

waiting-total : (s : State) (n : ℕ) → waiting_to s n ≡ total (λ u. bit (is_waiting s u)) n
waiting-total s zero = refl
waiting-total s (suc n) = omega (arith, waiting-total s n)

-- where as many calls wait as before, and the thread's own, the same threads wait
pub alike : (h : ObjectView) (t : ℕ) (o : Op) (r : Reply) (s' : State) → IsSound h → Lawful h t o r s'
    → length (queued s'.kind_state) ≡ length (queued h.state.kind_state) + bit (is_waiting s' t)
    → (u : ℕ) → u ≢ t → 1 ≤ u → u ≤ h.threads → is_waiting s' u ≡ is_waiting h.state u
alike h t o r s' sound lawful same u ne low high =
    let moves = Lawful-moves h t o r s' sound lawful in
    let c = bit (is_waiting s' t) in
    let f : ℕ → ℕ = λ v. bit (is_waiting s' v) in
    let g : ℕ → ℕ = λ v. bit (is_waiting h.state v) in
    let least : (v : ℕ) → f v ≤ g v + only t c v = λ v. ⊎_elim
    (λ (here : v ≡ t). omega (arith, ap f here, ap (λ b. if b then c else 0) (eq-eqb v t here)))
    (λ (away : v ≢ t). omega (arith, bit-least (is_waiting s' v) (is_waiting h.state v) (waits-before h t o r s' sound lawful v away)))
    (cases_eq v t) in
    let old = length-queued h.threads h.state sound.tidy ∙ waiting-total h.state h.threads in
    let new = length-queued h.threads s' moves.sound.tidy ∙ waiting-total s' h.threads in
    let all : total (λ v. g v + only t c v) h.threads ≤ total f h.threads =
    omega (arith, total-sum g (only t c) h.threads, only-most t c h.threads, old, new, same) in
    let equal = squeezed f (λ v. g v + only t c v) least h.threads all u low high in
    bit-one (is_waiting s' u) (is_waiting h.state u) (omega (arith, equal, ap (λ b. if b then c else 0) (ne_eqb u t ne)))

-- the thread that a reply names leaves the queues, and nobody joins one
record Serves (h : ObjectView) (heir : ℕ) (s' : State) : Type 0 where
  pub others : (u : ℕ) → count_in (queued s'.kind_state) u ≤ count_in (queued h.state.kind_state) u
  pub leaves : count_in (queued s'.kind_state) heir + 1 ≤ count_in (queued h.state.kind_state) heir
  pub once : count_in (queued h.state.kind_state) heir ≤ 1

Calls-serves : (h : ObjectView) (t : ℕ) (o : Op) (heir : ℕ) (s' : State) → IsSound h → Calls h t o (reply.Gave heir) s' → Serves h heir s'
Calls-serves h t o heir s' sound e =
    let row = Step-row h t o (reply.Gave heir) s' sound.kind_state e.may e.step in
    let next : (u : ℕ) → count_in (queued s'.kind_state) u ≡ count_in (queued row.kind_state) u = λ u. ap (λ (s : State). count_in (queued s.kind_state) u) row.next in
    record {
      others = λ u. omega (arith, row.counts u, next u);
      leaves = omega (arith, row.counts heir, row.named heir refl, next heir);
      once = omega (arith, sound.tidy.once heir);
    }

Lawful-serves : (h : ObjectView) (t : ℕ) (o : Op) (heir : ℕ) (s' : State) → IsSound h → Lawful h t o (reply.Gave heir) s' → Serves h heir s'
Lawful-serves h t op.Resume heir s' sound e = absurd (false≢true (sound.tidy.final t (reply.Gave heir) e.granted))
Lawful-serves h t op.Stop heir s' sound e = absurd (let f : reply.Gave heir ≡ reply.Ok = e.reply in cc)
Lawful-serves h t o heir s' sound e = Calls-serves h t o heir s' sound e

bit-none : (n : ℕ) → n ≡ 0 → bit (nat_lt 0 n) ≡ 0
bit-none n e = ap (λ m. bit (nat_lt 0 m)) e

bit-some : (n : ℕ) → 0 < n → bit (nat_lt 0 n) ≡ 1
bit-some n h = ap bit (lt-ltb 0 n h)

only-least : (t c n : ℕ) → 1 ≤ t → t ≤ n → c ≤ total (only t c) n
only-least t c zero low high = absurd (omega (arith, low, high))
only-least t c (suc n) low high = ⊎_elim
    (λ (here : suc n ≡ t). omega (arith, ap (λ b. if b then c else 0) (eq-eqb (suc n) t here)))
    (λ (ne : suc n ≢ t). omega (arith, only-least t c n low (omega (arith, high, ne))))
    (cases_eq (suc n) t)

-- where one call fewer waits, and the reply names a thread, the same threads wait but that one
pub alike-heir : (h : ObjectView) (t : ℕ) (o : Op) (heir : ℕ) (s' : State) → IsSound h → Lawful h t o (reply.Gave heir) s'
    → length (queued s'.kind_state) + 1 ≡ length (queued h.state.kind_state)
    → (u : ℕ) → u ≢ heir → 1 ≤ u → u ≤ h.threads → is_waiting s' u ≡ is_waiting h.state u
alike-heir h t o heir s' sound lawful fewer u ne low high =
    let moves = Lawful-moves h t o (reply.Gave heir) s' sound lawful in
    let serves = Lawful-serves h t o heir s' sound lawful in
    let known = Lawful-gives h t o heir s' sound lawful in
    let one : ℕ = 1 in
    let w : ℕ → ℕ = λ v. bit (is_waiting s' v) in
    let f : ℕ → ℕ = λ v. w v + only heir 1 v in
    let g : ℕ → ℕ = λ v. bit (is_waiting h.state v) in
    let left : w heir ≡ 0 = ap bit (is_queued-count (queued s'.kind_state) heir) ∙ bit-none _ (omega (arith, serves.leaves, serves.once)) in
    let stood : g heir ≡ 1 = ap bit (is_queued-count (queued h.state.kind_state) heir) ∙ bit-some _ (omega (arith, serves.leaves)) in
    let least : (v : ℕ) → f v ≤ g v = λ v. ⊎_elim
    (λ (here : v ≡ heir). omega (arith, ap w here, ap g here, left, stood, ap (λ b. if b then one else 0) (eq-eqb v heir here)))
    (λ (away : v ≢ heir).
    omega (arith, bit-least (is_waiting s' v) (is_waiting h.state v) (queued-more (queued s'.kind_state) (queued h.state.kind_state) v (serves.others v)), ap (λ b. if b then one else 0) (ne_eqb v heir away)))
    (cases_eq v heir) in
    let old = length-queued h.threads h.state sound.tidy ∙ waiting-total h.state h.threads in
    let new = length-queued h.threads s' moves.sound.tidy ∙ waiting-total s' h.threads in
    let all : total g h.threads ≤ total f h.threads =
    omega (arith, total-sum w (only heir 1) h.threads, only-least heir 1 h.threads known.0 known.1, old, new, fewer) in
    let equal = squeezed f g least h.threads all u low high in
    bit-one (is_waiting s' u) (is_waiting h.state u) (omega (arith, equal, ap (λ b. if b then one else 0) (ne_eqb u heir ne)))

-- a thread that a reply names is a program thread
pub names-known : (h : ObjectView) (t : ℕ) (o : Op) (r : Reply) (s' : State) (threads : ℕ) → IsSound h → Lawful h t o r s' → threads ≡ suc h.threads → NamesKnown r threads
names-known h t o (reply.Gave heir) s' threads sound lawful count = let known = Lawful-gives h t o heir s' sound lawful in (known.0, omega (arith, known.1, count))
names-known h t o r s' threads sound lawful count = tt

-- a sound object has no more waiting calls than threads
waiting-few : (s : State) (n : ℕ) → waiting_to s n ≤ n
waiting-few s zero = omega arith
waiting-few s (suc n) = omega (arith, waiting-few s n, bit-few (is_waiting s (suc n)))
  where
    bit-few : (b : Bool) → bit b ≤ 1
    bit-few true = omega arith
    bit-few false = omega arith

pub waiters-few : (h : ObjectView) → IsSound h → length (queued h.state.kind_state) ≤ h.threads
waiters-few h sound = omega (arith, length-queued h.threads h.state sound.tidy, waiting-few h.state h.threads)
