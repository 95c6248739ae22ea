-- The queues of a monitor, and how often a thread stands in them.
use Rattle.std.proofs.Common.{append_assoc, add-one, length-append, ◌≡◌, ℕ, zero, suc, ◌+◌, ◌<◌, ◌≤◌, Bool, true, false, ◌==◌, nat_lt, List, [], ◌∷◌, ◌++◌, map, length, replicate, drop, slice_get, slice_index_or, slice_set, Option, Some, ⊎_elim, refl, ap, sym, ◌∙◌, subst, arith, eq-eqb, ne_eqb, get_or-set_same, get_or-set_other, length-set}
use Rattle.std.proofs.lemmas.Bool.{cases_eq}
use Rattle.std.proofs.lemmas.Bool.Decides.{nat_tests}
use Rattle.std.proofs.lemmas.List.{length-map, length-replicate, map-append, map-set, set-get_or}
use Rattle.std.proofs.lemmas.Option.{get_or_from_slice_get}
use Rattle.tm_base.specs.States.{all_of, is_queued, grant_all}
use Rattle.tm_base.specs.declared.replies.Reply.{Reply}
use Rattle.tm_laws.specs.Counts.{bit, count_in}
use Rattle.tm_laws.proofs.Counting.{count_in-append, is_queued-count, bit-true}
use Rattle.tm_laws.proofs.Conditions.{count_all-set}
use Rattle.tm_queues.specs.WaitQueues.{QueueView, pushed}
use Rattle.std.specs.Vec.{with_item}
use Rattle.std.proofs.lemmas.List.Elements.{All-set}
use Rattle.tm_monitors.specs.declared.monitor_queues.MonitorQueues.TheInside.{Inside}
use Rattle.tm_monitors.specs.MonitorQueues.{QueuesView, behind_first, IsFirstAt, all_queued, waiting_at, with_condition}
use Rattle.tm_monitors.specs.StoredMonitorQueues.{AreTold, KeepsQueues, lists_of, queues_view}

-- who isn't in a queue stands there never
pub count-free : (queue : List ℕ) (t : ℕ) → is_queued queue t ≡ false → count_in queue t ≡ 0
count-free queue t h = let e : nat_lt 0 (count_in queue t) ≡ false = sym (is_queued-count queue t) ∙ h in grind (arith, nat_tests)

-- and who stands there never isn't in it
pub free-count : (queue : List ℕ) (t : ℕ) → count_in queue t ≡ 0 → is_queued queue t ≡ false
free-count queue t h = is_queued-count queue t ∙ ap (nat_lt 0) h

-- a flag and its number
told-bit : (b : Bool) → nat_lt 0 (bit b) ≡ b
told-bit true = refl
told-bit false = refl

-- what the flag says
pub told : (queue : List ℕ) (flags : List Bool) (t : ℕ) → AreTold queue flags → is_queued queue t ≡ slice_index_or flags t false
told queue flags t h = is_queued-count queue t ∙ (ap (nat_lt 0) (h.count t) ∙ told-bit (slice_index_or flags t false))

-- a thread joins the queues
pub joined : (queue new : List ℕ) (flags : List Bool) (t : ℕ) → AreTold queue flags → t < length flags → count_in queue t ≡ 0 → ((x : ℕ) → count_in new x ≡ count_in queue x + bit (t == x)) → AreTold new (slice_set flags t true)
joined queue new flags t h inside free more = record { count = λ x. ⊎_elim (here x) (there x) (cases_eq t x) }
  where
    here : (x : ℕ) → t ≡ x → count_in new x ≡ bit (slice_index_or (slice_set flags t true) x false)
    here x e = subst (λ (u : ℕ). count_in new u ≡ bit (slice_index_or (slice_set flags t true) u false)) e
        (rw (get_or-set_same flags t true false inside) (omega (arith, more t, bit-true (t == t) (eq-eqb t t refl))))

    there : (x : ℕ) → (t ≡ x → ⊥) → count_in new x ≡ bit (slice_index_or (slice_set flags t true) x false)
    there x ne = rw (get_or-set_other flags t x true false (λ e. ne (sym e))) (omega (arith, more x, h.count x, ap bit (ne_eqb t x ne)))

-- a thread leaves them
pub parted : (queue new : List ℕ) (flags : List Bool) (t : ℕ) → AreTold queue flags → t < length flags → ((x : ℕ) → count_in new x + bit (t == x) ≡ count_in queue x) → (AreTold new (slice_set flags t false)) × (count_in new t ≡ 0)
parted queue new flags t h inside less = (record { count = λ x. ⊎_elim (here x) (there x) (cases_eq t x) }, gone)
  where
    flag_small : (b : Bool) → bit b ≤ 1
    flag_small true = omega arith
    flag_small false = omega arith

    gone : count_in new t ≡ 0
    gone = omega (arith, less t, h.count t, flag_small (slice_index_or flags t false), bit-true (t == t) (eq-eqb t t refl))

    here : (x : ℕ) → t ≡ x → count_in new x ≡ bit (slice_index_or (slice_set flags t false) x false)
    here x e = subst (λ (u : ℕ). count_in new u ≡ bit (slice_index_or (slice_set flags t false) u false)) e
        (rw (get_or-set_same flags t false false inside) gone)

    there : (x : ℕ) → (t ≡ x → ⊥) → count_in new x ≡ bit (slice_index_or (slice_set flags t false) x false)
    there x ne = rw (get_or-set_other flags t x false false (λ e. ne (sym e))) (omega (arith, less x, h.count x, ap bit (ne_eqb t x ne)))

-- the entrance changes
pub entrance-joins : (entrance rest : List ℕ) (t x : ℕ) → count_in ((entrance ++ t ∷ []) ++ rest) x ≡ count_in (entrance ++ rest) x + bit (t == x)
entrance-joins entrance rest t x = omega (arith, count_in-append)

-- the queue of a condition
pub list_at : (queues : List QueueView) (c : ℕ) (d : QueueView) → c < length queues → slice_get (lists_of queues) c ≡ Some ((slice_index_or queues c d).queue)
list_at [] c d h = absurd (omega arith)
list_at (q ∷ queues) zero d h = refl
list_at (q ∷ queues) (suc c) d h = list_at queues c d (omega arith)

pub first-at : (conditions : List (List ℕ)) (c : ℕ) (queue : List ℕ) → slice_get conditions c ≡ Some queue → IsFirstAt conditions c (slice_get queue 0)
first-at conditions c [] e = e
first-at conditions c (t ∷ queue) e = rw (get_or_from_slice_get conditions c (t ∷ queue) [] e) e

-- it changes
module _ (entrance : List ℕ) (conditions : List (List ℕ)) (c : ℕ) (queue : List ℕ) (at : slice_get conditions c ≡ Some queue) (t x : ℕ) where
  pub condition-joins : count_in (entrance ++ all_of (slice_set conditions c (queue ++ t ∷ []))) x ≡ count_in (entrance ++ all_of conditions) x + bit (t == x)
  condition-joins = omega (arith, count_in-append, count_all-set conditions c queue (queue ++ t ∷ []) x at)

  pub condition-parts : (rest : List ℕ) → queue ≡ t ∷ rest → count_in (entrance ++ all_of (slice_set conditions c rest)) x + bit (t == x) ≡ count_in (entrance ++ all_of conditions) x
  condition-parts rest e =
      let count : count_in queue x ≡ bit (t == x) + count_in rest x = ap (λ l. count_in l x) e in
      omega (arith, count_in-append, count_all-set conditions c queue rest x at, count)

-- the stored queues after a thread came to the entrance
pub entered-kept : (l : Inside) (t : ℕ) → KeepsQueues l → t ≤ l.entrance.threads → is_queued (all_queued (queues_view l)) t ≡ false
    → KeepsQueues (record { entrance = pushed l.entrance t; conditions = l.conditions; waits = with_item l.waits t true })
entered-kept l t keeps known new = record {
  few = keeps.few;
  alike = keeps.alike;
  places = length-set l.waits.items t true ∙ keeps.places;
  told = joined (all_queued (queues_view l)) ((l.entrance.queue ++ t ∷ []) ++ all_of (lists_of l.conditions.items)) l.waits.items t keeps.told
      (omega (arith, keeps.places)) (count-free _ t new) (λ x. entrance-joins l.entrance.queue (all_of (lists_of l.conditions.items)) t x);
}

-- the list of a condition's queue, where the stored queue is replaced
pub lists_of-set : (queues : List QueueView) (c : ℕ) (q : QueueView) → lists_of (slice_set queues c q) ≡ slice_set (lists_of queues) c q.queue
lists_of-set queues c q = map-set (λ (q : QueueView). q.queue) queues c q

-- who stands in no queue doesn't stand in that of a condition
pub condition-free : (l : Inside) (c t : ℕ) (q : QueueView) → c < length (lists_of l.conditions.items) → q ≡ slice_index_or l.conditions.items c q → is_queued (all_queued (queues_view l)) t ≡ false → is_queued q.queue t ≡ false
condition-free l c t q there stored new =
    let inside : c < length l.conditions.items = rw (← length-map l.conditions.items (λ (v : QueueView). v.queue)) there in
    let at : slice_get (lists_of l.conditions.items) c ≡ Some q.queue = list_at l.conditions.items c q inside ∙ ap (λ (v : QueueView). Some v.queue) (sym stored) in
    free-count q.queue t (omega (arith, count_in-append, count-free (all_queued (queues_view l)) t new, count_all-set (lists_of l.conditions.items) c q.queue [] t at))

-- the stored queues after a thread came to a condition
pub waited-kept : (l : Inside) (c t : ℕ) (q : QueueView) → KeepsQueues l → c < length l.conditions.items → q ≡ slice_index_or l.conditions.items c q → t ≤ l.entrance.threads
    → is_queued (all_queued (queues_view l)) t ≡ false
    → KeepsQueues (record { entrance = l.entrance; conditions = with_item l.conditions c (pushed q t); waits = with_item l.waits t true })
waited-kept l c t q keeps there stored known new =
    let at : slice_get (lists_of l.conditions.items) c ≡ Some q.queue = list_at l.conditions.items c q there ∙ ap (λ (v : QueueView). Some v.queue) (sym stored) in
    let threads : q.threads ≡ l.entrance.threads = subst (λ (v : QueueView). v.threads ≡ l.entrance.threads) (sym stored) (keeps.alike c q there) in
    record {
      few = rw (length-set l.conditions.items c (pushed q t)) keeps.few;
      alike = All-set (λ (v : QueueView). v.threads ≡ l.entrance.threads) l.conditions.items c (pushed q t) threads keeps.alike;
      places = length-set l.waits.items t true ∙ keeps.places;
      told = rw (lists_of-set l.conditions.items c (pushed q t)) (joined (all_queued (queues_view l)) _ l.waits.items t keeps.told
          (omega (arith, keeps.places)) (count-free _ t new) (λ x. condition-joins l.entrance.queue (lists_of l.conditions.items) c q.queue at t x));
    }

-- the stored queues after the oldest left a condition
module _ (l : Inside) (c t : ℕ) (q rest : QueueView) (keeps : KeepsQueues l) (there : c < length l.conditions.items) (stored : q ≡ slice_index_or l.conditions.items c q)
    (first : q ≡ record { threads = rest.threads; queue = t ∷ rest.queue }) (known : t ≤ q.threads) where
  woken-at : slice_get (lists_of l.conditions.items) c ≡ Some q.queue
  woken-at = list_at l.conditions.items c q there ∙ ap (λ (v : QueueView). Some v.queue) (sym stored)

  woken-threads : q.threads ≡ l.entrance.threads
  woken-threads = subst (λ (v : QueueView). v.threads ≡ l.entrance.threads) (sym stored) (keeps.alike c q there)

  woken-told : AreTold (l.entrance.queue ++ all_of (slice_set (lists_of l.conditions.items) c rest.queue)) (slice_set l.waits.items t false) × (count_in (l.entrance.queue ++ all_of (slice_set (lists_of l.conditions.items) c rest.queue)) t ≡ 0)
  woken-told = parted (all_queued (queues_view l)) _ l.waits.items t keeps.told (omega (arith, keeps.places, woken-threads))
      (λ x. condition-parts l.entrance.queue (lists_of l.conditions.items) c q.queue woken-at t x rest.queue (ap (λ (v : QueueView). v.queue) first))

  pub woken-kept : KeepsQueues (record { entrance = l.entrance; conditions = with_item l.conditions c rest; waits = with_item l.waits t false })
  woken-kept = record {
    few = rw (length-set l.conditions.items c rest) keeps.few;
    alike = All-set (λ (v : QueueView). v.threads ≡ l.entrance.threads) l.conditions.items c rest (ap (λ (v : QueueView). v.threads) (sym first) ∙ woken-threads) keeps.alike;
    places = length-set l.waits.items t false ∙ keeps.places;
    told = rw (lists_of-set l.conditions.items c rest) woken-told.0;
  }

  pub woken-first : slice_get (lists_of l.conditions.items) c ≡ Some (t ∷ rest.queue)
  woken-first = woken-at ∙ ap (λ (v : QueueView). Some v.queue) first

  pub woken-gone : is_queued (l.entrance.queue ++ all_of (lists_of (slice_set l.conditions.items c rest))) t ≡ false
  woken-gone = rw (lists_of-set l.conditions.items c rest) (free-count _ t woken-told.1)

-- the view after a thread came to a condition
pub waited-view : (l : Inside) (c t : ℕ) (q : QueueView) (v : QueuesView) → queues_view l ≡ v → c < length l.conditions.items → q ≡ slice_index_or l.conditions.items c q
    → queues_view (record { entrance = l.entrance; conditions = with_item l.conditions c (pushed q t); waits = with_item l.waits t true }) ≡ with_condition v c (waiting_at v.conditions c ++ t ∷ [])
waited-view l c t q v view there stored =
    let at : slice_get (lists_of l.conditions.items) c ≡ Some q.queue = list_at l.conditions.items c q there ∙ ap (λ (v : QueueView). Some v.queue) (sym stored) in
    rw (← view, get_or_from_slice_get (lists_of l.conditions.items) c q.queue [] at, lists_of-set l.conditions.items c (pushed q t)) refl

-- of two queues that a condition is given the later one stays
pub set-again : (conditions : List (List ℕ)) (c : ℕ) (a b : List ℕ) → slice_set (slice_set conditions c a) c b ≡ slice_set conditions c b
set-again [] c a b = refl
set-again (q ∷ conditions) zero a b = refl
set-again (q ∷ conditions) (suc c) a b = ap (λ rest. q ∷ rest) (set-again conditions c a b)

-- who waits at a condition
pub waiting-at : (conditions : List (List ℕ)) (c : ℕ) (queue : List ℕ) → slice_get conditions c ≡ Some queue → slice_index_or conditions c [] ≡ queue
waiting-at conditions c queue e = get_or_from_slice_get conditions c queue [] e

pub waiting-set : (conditions : List (List ℕ)) (c : ℕ) (queue : List ℕ) → c < length conditions → slice_index_or (slice_set conditions c queue) c [] ≡ queue
waiting-set conditions c queue h = get_or-set_same conditions c queue [] h

pub waiting-same : (conditions : List (List ℕ)) (c : ℕ) → slice_set conditions c (slice_index_or conditions c []) ≡ conditions
waiting-same conditions c = set-get_or conditions c []

pub length-conditions : (conditions : List (List ℕ)) (c : ℕ) (queue : List ℕ) → length (slice_set conditions c queue) ≡ length conditions
length-conditions conditions c queue = length-set conditions c queue

-- what the calls that speak of one condition need
pub ruleset condition_steps = (set-again, waiting-at, waiting-set, waiting-same, length-conditions)

-- one more empty queue
pub empty-more : (queues : List QueueView) (q : QueueView) (n : ℕ) → lists_of queues ≡ replicate n [] → q.queue ≡ [] → lists_of (queues ++ q ∷ []) ≡ replicate (n + 1) []
empty-more queues q n h e = rw (map-append, e, h, add-one) (replicate-snoc n)
  where
    replicate-snoc : (n : ℕ) → replicate n [] ++ [] ∷ [] ≡ replicate {A = List ℕ} (suc n) []
    replicate-snoc zero = refl
    replicate-snoc (suc n) = ap (λ (rest : List (List ℕ)). [] ∷ rest) (replicate-snoc n)

-- in empty queues nobody stands
all_of-replicate : (n : ℕ) → all_of (replicate n []) ≡ []
all_of-replicate zero = refl
all_of-replicate (suc n) = all_of-replicate n

none-told : (n t : ℕ) → slice_index_or (replicate n false) t false ≡ false
none-told zero t = refl
none-told (suc n) zero = refl
none-told (suc n) (suc t) = none-told n t

pub empty-told : (queues : List QueueView) (count n : ℕ) → lists_of queues ≡ replicate count [] → AreTold ([] ++ all_of (lists_of queues)) (replicate n false)
empty-told queues count n e = record { count = λ t. rw (e, all_of-replicate count, none-told n t) refl }

pub length-lists : (queues : List QueueView) → length (lists_of queues) ≡ length queues
length-lists queues = length-map queues (λ (q : QueueView). q.queue)

pub empty-length : (queues : List QueueView) (count : ℕ) → lists_of queues ≡ replicate count [] → length queues ≡ count
empty-length queues count e = sym (length-lists queues) ∙ (ap length e ∙ length-replicate count [])

-- the queues of the first conditions are emptied, one after another
pub grant_all-append : (xs ys : List ℕ) (r : Reply) (g : List (Option Reply)) → grant_all (xs ++ ys) r g ≡ grant_all ys r (grant_all xs r g)
grant_all-append [] ys r g = refl
grant_all-append (x ∷ xs) ys r g = grant_all-append xs ys r (slice_set g x (Some r))

pub emptied-next : (all : List (List ℕ)) (n : ℕ) → n < length all → slice_index_or (replicate n [] ++ drop n all) n [] ≡ slice_index_or all n []
emptied-next [] n h = absurd (omega arith)
emptied-next (q ∷ all) zero h = refl
emptied-next (q ∷ all) (suc n) h = emptied-next all n (omega arith)

pub emptied-more : (all : List (List ℕ)) (n : ℕ) → n < length all → slice_set (replicate n [] ++ drop n all) n [] ≡ replicate (suc n) [] ++ drop (suc n) all
emptied-more [] n h = absurd (omega arith)
emptied-more (q ∷ all) zero h = refl
emptied-more (q ∷ all) (suc n) h = ap (λ (rest : List (List ℕ)). [] ∷ rest) (emptied-more all n (omega arith))

pub all_of-drop : (all : List (List ℕ)) (n : ℕ) → n < length all → all_of (drop n all) ≡ slice_index_or all n [] ++ all_of (drop (suc n) all)
all_of-drop [] n h = absurd (omega arith)
all_of-drop (q ∷ all) zero h = refl
all_of-drop (q ∷ all) (suc n) h = all_of-drop all n (omega arith)

pub emptied-all : (all : List (List ℕ)) → replicate (length all) [] ++ drop (length all) all ≡ map (λ _. []) all
emptied-all [] = refl
emptied-all (q ∷ all) = ap (λ (rest : List (List ℕ)). [] ∷ rest) (emptied-all all)

-- how many stand in the queues from one on
pub all_of-more : (queues : List QueueView) (n : ℕ) (d : QueueView) → n < length queues → length (all_of (lists_of (drop n queues))) ≡ length (slice_index_or queues n d).queue + length (all_of (lists_of (drop (suc n) queues)))
all_of-more [] n d h = absurd (omega arith)
all_of-more (q ∷ queues) zero d h = length-append q.queue (all_of (lists_of queues))
all_of-more (q ∷ queues) (suc n) d h = all_of-more queues n d (omega arith)

-- what the making of empty queues needs
pub ruleset empty_steps = (empty-more, empty-told, empty-length)

-- what the emptying of one condition after another needs
pub ruleset emptied_steps = (grant_all-append, emptied-next, emptied-more, emptied-all, all_of-drop)

-- queues with the same fields are the same
pub same-queues : (v w : QueuesView) → v.threads ≡ w.threads → v.entrance ≡ w.entrance → v.conditions ≡ w.conditions → v ≡ w
same-queues v w threads entrance conditions =
    ap (λ n. record { threads = n; entrance = v.entrance; conditions = v.conditions }) threads
    ∙ (ap (λ q. record { threads = w.threads; entrance = q; conditions = v.conditions }) entrance ∙ ap (λ qs. record { threads = w.threads; entrance = w.entrance; conditions = qs }) conditions)

-- the oldest goes to the end of the entrance
pub notified-more : (entrance : List ℕ) (conditions : List (List ℕ)) (c t : ℕ) → c < length conditions → slice_get conditions c ≡ Some (t ∷ behind_first conditions c)
    → (entrance ++ t ∷ []) ++ waiting_at (slice_set conditions c (behind_first conditions c)) c ≡ entrance ++ waiting_at conditions c
notified-more entrance conditions c t there first =
    let rest : waiting_at (slice_set conditions c (behind_first conditions c)) c ≡ behind_first conditions c = waiting-set conditions c _ there in
    let all : waiting_at conditions c ≡ t ∷ behind_first conditions c = waiting-at conditions c _ first in
    rw (rest, all, append_assoc) refl

-- what `stop` needs
pub ruleset stop_steps = (grant_all-append, length-map)
