-- What a thread recorded, after one more event or none.
use Rattle.std.proofs.Common.{◌≡◌, ◌≢◌, ℕ, suc, ◌≤◌, ◌&&◌, ◌==◌, Bool, true, false, ⊎_elim, List, [], ◌∷◌, ◌++◌, Some, slice_get, slice_set, refl, ap, sym, ◌∙◌, subst, arith, eq-eqb, ne_eqb}
use Rattle.std.proofs.lemmas.List.Sums.{fold-append}
use Rattle.std.proofs.lemmas.Option.{slice_get_within}
use Rattle.tm_base.specs.declared.operations.Op.{Op}
use Rattle.tm_base.specs.declared.replies.Reply.{Reply}
use Rattle.tm_base.specs.declared.replies.Reply.TheVariants as reply
use Rattle.tm_base.specs.declared.events.Entry.{Entry}
use Rattle.tm_base.specs.Histories.{Label}
use Rattle.tm_base.specs.Machines.{is_in}
use Rattle.tm_base.specs.Runs.{Leads}
use Rattle.tm_base.specs.Tickets.{TicketView, opening, waits_after}
use Rattle.tm_base.specs.Orders.{last_stamp}
use Rattle.tm_laws.specs.Counts.{is_wait}
use Rattle.tm_laws.proofs.RunsLemmas.{Leads-snoc, Leads-map}
use Rattle.tm_shared.specs.Calls.{IsAdded, TookTurn, LostTurn}
use Rattle.tm_shared.specs.OwnEvents.{ends_waiting}
use Rattle.tm_turn.specs.Passes.{PassView, mine}
use Rattle.tm_turn.specs.Prefixes.{StartsWith}
use Rattle.tm_turn.proofs.PrefixesLemmas.{StartsWith-self, StartsWith-trans}
use Rattle.std.proofs.lemmas.List.{append_assoc}
use Rattle.tm_worker.specs.Logs.{IsOwnStep, IsOwnPass, KeepsLog, IsSamePass, AreSamePasses}
use Rattle.tm_worker.proofs.Elements.{slice_get-set_cases, slice_get-set_same, length-slice_set, found_at, same_some, filter-snoc_in, filter-snoc_out}

-- what a thread waits for after a reply on an object
waits_is : (o k : ℕ) (r : Reply) → is_in (waits_after o r) k ≡ (is_wait r && (o == k))
waits_is o k reply.Wait = refl
waits_is o k r = refl

waits_there : (o k : ℕ) (r : Reply) → waits_after o r ≡ Some k → o ≡ k
waits_there o k reply.Wait h = same_some o k h
waits_there o k r h = absurd cc

and_false : (b c : Bool) → c ≡ false → (b && c) ≡ false
and_false true c h = h
and_false false c h = refl

and_true : (b c : Bool) → c ≡ true → (b && c) ≡ b
and_true true c h = h
and_true false c h = refl

-- a pass of which only the history and the marks changed is the same pass
pub took_same : (l : Label) (p q : PassView) → TookTurn l p q → IsSamePass p q
took_same l p q t =
    let Same : PassView → Type 0 = λ x. (x ≡ record p { seen = x.seen; turns = x.turns; misses = x.misses; missed = x.missed }) × (p.turns ≤ x.turns) × (p.misses ≤ x.misses) in
    let made : Same (record p { seen = q.seen; turns = suc p.turns }) = (refl, omega arith, omega arith) in
    let moved : Same q = subst Same (sym t.pass) made in
    record { same = moved.0; begins = t.begins; turns = moved.1; misses = moved.2 }

pub lost_same : (holder : ℕ) (p q : PassView) → LostTurn p holder q → IsSamePass p q
lost_same holder p q t =
    let Same : PassView → Type 0 = λ x. (x ≡ record p { seen = x.seen; turns = x.turns; misses = x.misses; missed = x.missed }) × StartsWith x.seen p.seen × (p.turns ≤ x.turns) × (p.misses ≤ x.misses) in
    let made : Same (record p { misses = suc p.misses; missed = suc holder }) = (refl, StartsWith-self p.seen, omega arith, omega arith) in
    let moved : Same q = subst Same (sym t.pass) made in
    record { same = moved.0; begins = moved.1; turns = moved.2; misses = moved.3 }

pub lost_mine : (holder : ℕ) (p q : PassView) → LostTurn p holder q → mine q ≡ mine p
lost_mine holder p q t = ap mine t.pass

pub same_refl : (p : PassView) → IsSamePass p p
same_refl p = record { same = refl; begins = StartsWith-self p.seen; turns = omega arith; misses = omega arith }

module _ (passes : List PassView) (o : ℕ) (p q : PassView) (found : slice_get passes o ≡ Some p) where
  pub set_now : slice_get (slice_set passes o q) o ≡ Some q
  set_now = slice_get-set_same passes o q (slice_get_within passes o p found)

  pub set_passes : IsSamePass p q → AreSamePasses passes (slice_set passes o q)
  set_passes same =
      record {
        count = length-slice_set passes o q;
        each = λ k a b was now.
            ⊎_elim
            (λ (here : (k ≡ o) × (b ≡ q)).
            let it : a ≡ p = same_some a p (sym was ∙ ap (slice_get passes) here.0 ∙ found) in
            subst (λ (y : PassView). IsSamePass a y) (sym here.1) (subst (λ (x : PassView). IsSamePass x q) (sym it) same))
            (λ (else : (k ≢ o) × (slice_get passes k ≡ Some b)).
            subst (λ (y : PassView). IsSamePass a y) (same_some a b (sym was ∙ else.1)) (same_refl a))
            (slice_get-set_cases passes o k q b now);
      }

-- an event's place in a history stays as the history grows
step-later : (old new : List PassView) → AreSamePasses old new → (b : TicketView) (e : Entry) (l : TicketView) → IsOwnStep old b e l → IsOwnStep new b e l
step-later old new same b e l s =
    let within = slice_get_within old e.object s.pass s.found in
    let now = found_at new e.object (omega (arith, same.count, within)) in
    let later = same.each e.object s.pass now.0 s.found now.1 in
    record {
      thread = s.thread;
      place = s.place;
      pass = now.0;
      found = now.1;
      earlier = s.earlier;
      behind = s.behind ++ later.begins.rest;
      seen = later.begins.whole ∙ ap (λ es. es ++ later.begins.rest) s.seen ∙ append_assoc s.earlier (e ∷ s.behind) later.begins.rest;
      stamp = s.stamp;
      ticket = s.ticket;
    }

pub run-later : (old new : List PassView) → AreSamePasses old new → (es : List Entry) (b l : TicketView) → Leads (IsOwnStep old) b es l → Leads (IsOwnStep new) b es l
run-later old new same es b l run = Leads-map (IsOwnStep old) (IsOwnStep new) (λ t. t) (step-later old new same) es b l run

module _ (passes : List PassView) (ticket : TicketView) (sent : List Entry) (keeps : KeepsLog passes ticket sent) (o : ℕ) (p q : PassView) (found : slice_get passes o ≡ Some p) (same : IsSamePass p q) where
  own_before : IsOwnPass ticket sent o p
  own_before = keeps.each o p found

  -- nothing was sent
  pub keeps-unsent : mine q ≡ mine p → KeepsLog (slice_set passes o q) ticket sent
  keeps-unsent own =
      record {
        run = run-later passes (slice_set passes o q) (set_passes passes o p q found same) sent (opening ticket.thread) ticket keeps.run;
        each = λ k r now.
            ⊎_elim
            (λ (here : (k ≡ o) × (r ≡ q)).
            subst (λ (j : ℕ). IsOwnPass ticket sent j r) (sym here.0) (subst (λ (x : PassView). IsOwnPass ticket sent o x) (sym here.1)
            (record {
              number = ap (λ (x : PassView). x.number) same.same ∙ own_before.number;
              of = ap (λ (x : PassView). x.label.object) same.same ∙ own_before.of;
              idle = ap (λ (x : PassView). x.holds) same.same ∙ own_before.idle;
              own = own_before.own ∙ sym own;
              waits = ap ends_waiting own ∙ own_before.waits;
              clock = λ w. own_before.clock w ∙ ap last_stamp (sym own);
            })))
            (λ (else : (k ≢ o) × (slice_get passes k ≡ Some r)). keeps.each k r else.1)
            (slice_get-set_cases passes o k q r now);
        there = λ k w.
            let long = length-slice_set passes o q in
            let within = keeps.there k w in
            omega (arith, long, within);
      }

  -- one event was sent, on the object where the thread waited if it waited anywhere
  module _ (l : Label) (its : l.object ≡ o) (p' : Op) (e : Entry) (later : TicketView) (added : IsAdded l p ticket p' e q later) (elsewhere : (k : ℕ) → k ≢ o → is_in ticket.waits k ≡ false) where
    object_is : e.object ≡ o
    object_is = added.made.object ∙ its

    pub own_step : IsOwnStep (slice_set passes o q) ticket e later
    own_step =
        record {
          thread = added.made.thread;
          place = added.made.place;
          pass = q;
          found = ap (slice_get (slice_set passes o q)) object_is ∙ set_now passes o p q found;
          earlier = added.was;
          behind = [];
          seen = added.made.ends;
          stamp = added.made.stamp;
          ticket = added.made.ticket;
        }

    thread_is : later.thread ≡ ticket.thread
    thread_is = ap (λ (t : TicketView). t.thread) added.made.ticket

    waits_now : (k : ℕ) → is_in later.waits k ≡ (is_wait e.reply && (e.object == k))
    waits_now k = ap (λ (t : TicketView). is_in t.waits k) added.made.ticket ∙ waits_is e.object k e.reply

    here-after : IsOwnPass later (sent ++ e ∷ []) o q
    here-after =
        record {
          number = ap (λ (x : PassView). x.number) same.same ∙ own_before.number ∙ sym thread_is;
          of = ap (λ (x : PassView). x.label.object) same.same ∙ own_before.of;
          idle = ap (λ (x : PassView). x.holds) same.same ∙ own_before.idle;
          own = filter-snoc_in (λ (f : Entry). f.object == o) sent e (eq-eqb e.object o object_is) ∙ ap (λ es. es ++ e ∷ []) own_before.own ∙ sym added.mine;
          waits = ap ends_waiting added.mine ∙ fold-append (λ (w : Bool) (f : Entry). is_wait f.reply) false (mine p) (e ∷ [])
              ∙ sym (waits_now o ∙ and_true (is_wait e.reply) (e.object == o) (eq-eqb e.object o object_is));
          clock = λ w. ap (λ (t : TicketView). t.clock) added.made.ticket
              ∙ sym (ap last_stamp added.mine ∙ fold-append (λ (n : ℕ) (f : Entry). f.stamp) 0 (mine p) (e ∷ []));
        }

    else-after : (k : ℕ) (r : PassView) → k ≢ o → slice_get passes k ≡ Some r → IsOwnPass later (sent ++ e ∷ []) k r
    else-after k r other at =
        let was = keeps.each k r at in
        let apart : e.object ≢ k = λ is. other (sym is ∙ object_is) in
        record {
          number = was.number ∙ sym thread_is;
          of = was.of;
          idle = was.idle;
          own = filter-snoc_out (λ (f : Entry). f.object == k) sent e (ne_eqb e.object k apart) ∙ was.own;
          waits = was.waits ∙ elsewhere k other ∙ sym (waits_now k ∙ and_false (is_wait e.reply) (e.object == k) (ne_eqb e.object k apart));
          clock = λ w. absurd (apart (waits_there e.object k e.reply (sym (ap (λ (t : TicketView). t.waits) added.made.ticket) ∙ w)));
        }

    pub keeps-sent : KeepsLog (slice_set passes o q) later (sent ++ e ∷ [])
    keeps-sent =
        record {
          run = subst (λ (t : ℕ). Leads (IsOwnStep (slice_set passes o q)) (opening t) (sent ++ e ∷ []) later) (sym thread_is)
              (Leads-snoc (IsOwnStep (slice_set passes o q)) sent e (opening ticket.thread) ticket later
              (run-later passes (slice_set passes o q) (set_passes passes o p q found same) sent (opening ticket.thread) ticket keeps.run) own_step);
          each = λ k r now.
              ⊎_elim
              (λ (here : (k ≡ o) × (r ≡ q)).
              subst (λ (j : ℕ). IsOwnPass later (sent ++ e ∷ []) j r) (sym here.0) (subst (λ (x : PassView). IsOwnPass later (sent ++ e ∷ []) o x) (sym here.1) here-after))
              (λ (else : (k ≢ o) × (slice_get passes k ≡ Some r)). else-after k r else.0 else.1)
              (slice_get-set_cases passes o k q r now);
          there = λ k w.
              let long = length-slice_set passes o q in
              let within = slice_get_within passes o p found in
              let is : e.object ≡ k = waits_there e.object k e.reply (sym (ap (λ (t : TicketView). t.waits) added.made.ticket) ∙ w) in
              let same_object = object_is in
              omega (arith, long, within, is, same_object);
        }

-- the same passes, of passes that are the same
pub same-trans : (a b c : List PassView) → AreSamePasses a b → AreSamePasses b c → AreSamePasses a c
same-trans a b c p q =
    record {
      count = q.count ∙ p.count;
      each = λ k x z was now.
          let within = slice_get_within a k x was in
          let count = p.count in
          let mid = found_at b k (omega (arith, within, count)) in
          let one = p.each k x mid.0 was mid.1 in
          let two = q.each k mid.0 z mid.1 now in
          let Same : PassView → Type 0 = λ (y : PassView). z ≡ record y { seen = z.seen; turns = z.turns; misses = z.misses; missed = z.missed } in
          record {
            same = subst Same one.same two.same;
            begins = StartsWith-trans z.seen mid.0.seen x.seen two.begins one.begins;
            turns = let i = one.turns in let j = two.turns in omega (arith, i, j);
            misses = let i = one.misses in let j = two.misses in omega (arith, i, j);
          };
    }

pub same-self : (a : List PassView) → AreSamePasses a a
same-self a = record { count = refl; each = λ k x y was now. subst (λ (z : PassView). IsSamePass x z) (same_some x y (sym was ∙ now)) (same_refl x) }
