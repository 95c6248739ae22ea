-- What a call leaves, from what each of its steps does.
use Rattle.std.proofs.Common.{◌≡◌, ℕ, suc, ◌≤◌, max, Bool, true, false, List, [], ◌∷◌, ◌++◌, length, length-append, Option, Some, None, IfSome, IfOk, Result, Ok, Err, ap, sym, ◌∙◌, subst, arith}
use Rattle.std.specs.Result.{result_ok}
use Rattle.tm_base.specs.declared.operations.Op.{Op}
use Rattle.tm_base.specs.declared.memory.NoMemory.{NoMemory}
use Rattle.tm_base.specs.declared.events.Entry.{Entry}
use Rattle.tm_base.specs.Histories.{Label, IsHistory}
use Rattle.tm_base.specs.Tickets.{TicketView}
use Rattle.tm_base.specs.Orders.{of_thread}
use Rattle.tm_book.specs.Books.{BookView, IsEntered, label_of, history_state_of}
use Rattle.tm_turn.specs.Prefixes.{StartsWith}
use Rattle.tm_turn.specs.Passes.{PassView, mine}
use Rattle.tm_turn.proofs.PrefixesLemmas.{StartsWith-self, StartsWith-trans, StartsWith-snoc, of_thread-own}
use Rattle.tm_shared.specs.Calls.{IsLegal, IsMade, IsAdded, TookTurn, TookTurns}
use Rattle.tm_shared.specs.Turns.{GaveBack, with_made}
use Rattle.tm_shared.proofs.OwnEventsLemmas.{events-tell}

-- a book's new entry stands at its place of the history; room may have been made before
module _ (b roomy new : BookView) (before later : TicketView) (o : Op) (legal : IsHistory (label_of b) b.entries (history_state_of b)) (same : roomy ≡ record b { spare = roomy.spare }) where
  pub made : (e : Entry) → IsEntered roomy before o e new later → IsMade (label_of b) before o e b.entries new.entries later
  made e m =
      let tell = events-tell (label_of b) b.entries (history_state_of b) legal in
      let ends : new.entries ≡ b.entries ++ e ∷ [] = m.entries ∙ ap (λ (x : BookView). x.entries ++ e ∷ []) same in
      let long : length roomy.entries ≡ length b.entries = ap (λ (x : BookView). length x.entries) same in
      record {
        thread = m.thread;
        place = m.place;
        object = m.object ∙ ap (λ (x : BookView). x.object) same;
        op = m.op;
        ends = ends;
        at = omega (arith, m.at, long, ap length ends, length-append b.entries (e ∷ []));
        stamp = m.stamp ∙ ap (λ n. suc (max before.clock n)) (ap (λ (x : BookView). x.stamp) same ∙ tell.stamp);
        ticket = m.ticket;
      }

  pub made_some : (some : Option Entry) → IfSome some (λ e. IsEntered roomy before o e new later) → IfSome some (λ e. IsMade (label_of b) before o e b.entries new.entries later)
  made_some None m = m
  made_some (Some e) m = made e m

-- the history of a book is the one that the pass has seen
pub legal_of : (l : Label) (b : BookView) (seen : List Entry) → IsHistory (label_of b) b.entries (history_state_of b) → label_of b ≡ l → b.entries ≡ seen → IsLegal l seen
legal_of l b seen legal label same =
    (history_state_of b, subst (λ es. IsHistory l es (history_state_of b)) same (subst (λ k. IsHistory k b.entries (history_state_of b)) label legal))

StartsWith-made : (es : List Entry) (some : Option Entry) → StartsWith (with_made es some) es
StartsWith-made es None = StartsWith-self es
StartsWith-made es (Some e) = StartsWith-snoc es e

-- `old` took the turn and became `mid`, which gave it back and became `new`
module _ (l : Label) (old mid new : PassView) (before later : TicketView) (o : Op) (some : Option Entry) (gives : GaveBack l mid before o some new later) (begins : StartsWith mid.seen old.seen) where
  seen_is : new.seen ≡ with_made mid.seen some
  seen_is = ap (λ (p : PassView). p.seen) gives.pass

  still_begins : StartsWith new.seen old.seen
  still_begins = subst (λ es. StartsWith es old.seen) (sym seen_is) (StartsWith-trans (with_made mid.seen some) mid.seen old.seen (StartsWith-made mid.seen some) begins)

  pub took_turn : old.holds ≡ false → mid ≡ record old { seen = mid.seen; holds = true; turns = suc old.turns } → TookTurn l old new
  took_turn idle took =
      let now = with_made mid.seen some in
      let out : PassView → PassView = λ p. record p { seen = now; holds = false } in
      record {
        pass = gives.pass ∙ ap out took
            ∙ ap (λ (h : Bool). let p : PassView = record old { seen = now; holds = h; turns = suc old.turns } in p) (sym idle)
            ∙ ap (λ (es : List Entry). let p : PassView = record old { seen = es; turns = suc old.turns } in p) (sym seen_is);
        begins = still_begins;
        legal = gives.legal;
      }

  pub took_turns : old.holds ≡ false → mid ≡ record old { seen = mid.seen; holds = true; turns = suc old.turns; misses = mid.misses; missed = mid.missed } → old.misses ≤ mid.misses → TookTurns l old new
  took_turns idle took misses =
      let now = with_made mid.seen some in
      let out : PassView → PassView = λ p. record p { seen = now; holds = false } in
      let marks : PassView → PassView = λ p. record old { seen = now; turns = p.turns; misses = p.misses; missed = p.missed } in
      let turns : new.turns ≡ suc old.turns = ap (λ (p : PassView). p.turns) gives.pass ∙ ap (λ (p : PassView). p.turns) took in
      record {
        pass = gives.pass ∙ ap out took
            ∙ ap (λ (h : Bool). let p : PassView = record old { seen = now; holds = h; turns = suc old.turns; misses = mid.misses; missed = mid.missed } in p) (sym idle)
            ∙ ap marks (sym (gives.pass ∙ ap out took))
            ∙ ap (λ (es : List Entry). let p : PassView = record old { seen = es; turns = new.turns; misses = new.misses; missed = new.missed } in p) (sym seen_is);
        turns = omega (arith, turns);
        misses = subst (λ n. old.misses ≤ n) (sym (ap (λ (p : PassView). p.misses) gives.pass)) misses;
        begins = still_begins;
        legal = gives.legal;
      }

  number_is : new.number ≡ mid.number
  number_is = ap (λ (p : PassView). p.number) gives.pass

  pub added_some : mid.number ≡ old.number → mine mid ≡ mine old → before.thread ≡ old.number → IfSome some (λ e. IsAdded l old before o e new later)
  added_some same own thread = go some gives.added seen_is
    where
      go : (x : Option Entry) → IfSome x (λ e. IsMade l before o e mid.seen new.seen later) → new.seen ≡ with_made mid.seen x → IfSome x (λ e. IsAdded l old before o e new later)
      go None m seen = m
      go (Some e) m seen =
          record {
            was = mid.seen;
            begins = begins;
            made = m;
            mine = ap (λ es. of_thread es new.number) seen
                ∙ of_thread-own mid.seen e new.number (m.thread ∙ thread ∙ sym same ∙ sym number_is)
                ∙ ap (λ n. of_thread mid.seen n ++ e ∷ []) number_is
                ∙ ap (λ es. es ++ e ∷ []) own;
          }

-- the pass that took the turn has the same number
pub same_number : (old mid : PassView) (turns misses missed : ℕ) → mid ≡ record old { seen = mid.seen; holds = true; turns = turns; misses = misses; missed = missed } → mid.number ≡ old.number
same_number old mid turns misses missed took = ap (λ (p : PassView). p.number) took

-- the same of a call that memory may refuse
pub added_ok : (l : Label) (old mid new : PassView) (before later : TicketView) (o : Op) (answer : Result Entry NoMemory) → GaveBack l mid before o (result_ok answer) new later
    → StartsWith mid.seen old.seen → mid.number ≡ old.number → mine mid ≡ mine old → before.thread ≡ old.number → IfOk answer (λ e. IsAdded l old before o e new later)
added_ok l old mid new before later o (Ok e) gives begins same own thread = added_some l old mid new before later o (Some e) gives begins same own thread
added_ok l old mid new before later o (Err e) gives begins same own thread = tt

-- what was taken since an earlier state of the pass, in which it had no event more of its own
module _ (l : Label) (first old new : PassView) (went : old ≡ record first { seen = old.seen; turns = old.turns; misses = old.misses; missed = old.missed }) (begins : StartsWith old.seen first.seen) where
  pub number_since : old.number ≡ first.number
  number_since = ap (λ (p : PassView). p.number) went

  pub added_since : (before later : TicketView) (o : Op) (e : Entry) → mine old ≡ mine first → IsAdded l old before o e new later → IsAdded l first before o e new later
  added_since before later o e own a =
      record {
        was = a.was;
        begins = StartsWith-trans a.was old.seen first.seen a.begins begins;
        made = a.made;
        mine = a.mine ∙ ap (λ es. es ++ e ∷ []) own;
      }
