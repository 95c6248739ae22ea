-- The books that a run leaves, and all their entries.
use Rattle.std.proofs.Common.{◌≡◌, ℕ, zero, suc, ◌<◌, ◌==◌, ⊎_elim, List, [], ◌∷◌, All, length, Contains, Some, slice_get, refl, sym, ◌∙◌, subst, eq-eqb, arith}
use Rattle.std.proofs.lemmas.List.Elements.{Contains-append_left, Contains-append_right, Contains-append_cases}
use Rattle.tm_base.specs.declared.events.Entry.{Entry}
use Rattle.tm_base.specs.Histories.{IsHistory}
use Rattle.tm_book.specs.Books.{BookView, history_state_of}
use Rattle.tm_text.specs.Exercises.{ExerciseView}
use Rattle.tm_merge.specs.Numbering.{PrefixesAreClosed}
use Rattle.tm_replay.specs.JointStates.{JointState}
use Rattle.tm_replay.specs.JointSteps.{IsJointRun}
use Rattle.tm_replay.specs.SoundStates.{IsSoundJoint}
use Rattle.tm_replay.proofs.ClosedPrefixesLemmas.{prefixes-are_closed}
use Rattle.tm_replay.proofs.ProjectionsLemmas.{objects-have_histories}
use Rattle.tm_replay.proofs.SliceLemmas.{found_at}
use Rattle.tm_order.specs.Cuts.{HaveSameEvents}
use Rattle.tm_order.proofs.CutsLemmas.{closed-same}
use Rattle.tm_order.proofs.Elements.{Contains-none, Contains-filter, Contains-filtered}
use Rattle.tm_base.specs.Tickets.{TicketView}
use Rattle.tm_collect.specs.Advancing.{IsInRange}
use Rattle.tm_session.specs.Noting.{object_state_of}
use Rattle.tm_session.specs.Records.{HaveKept, HaveRecorded}
use Rattle.tm_session.specs.Shelves.{IsBookOf, AreBooksOf, entries_of}
use Rattle.tm_session.proofs.RecordsLemmas.{book-at, count-books}

-- the books that have recorded a run's events are those of the exercise's objects
pub books-left : (x : ExerciseView) (es : List Entry) (j : JointState) (books : List BookView) (tickets : List TicketView) → IsSoundJoint x j → IsJointRun x es j
    → HaveRecorded es j books tickets → AreBooksOf x es books
books-left x es j books tickets sound run recorded = record { count = count-books es j books tickets recorded ∙ sound.object_count; each = each }
  where
    each : (o : ℕ) (b : BookView) → slice_get books o ≡ Some b → IsBookOf x es o b
    each o b found =
        let at = book-at es j books tickets recorded o b found in
        let placed = sound.objects o (object_state_of b) at in
        let own = recorded.kept o b found in
        let history = objects-have_histories x es j run o (object_state_of b) at in
        record {
          declaration = placed.declaration;
          found = placed.found;
          object = own.0;
          kind = placed.kind;
          threads = placed.threads;
          entries = own.1;
          history = subst (λ (n : ℕ). IsHistory (record { object = n; kind = b.machine.kind; threads = b.machine.threads }) b.entries (history_state_of b)) (sym own.0)
              (subst (λ (l : List Entry). IsHistory (record { object = o; kind = b.machine.kind; threads = b.machine.threads }) l (history_state_of b)) (sym own.1) history);
        }

-- an entry of one of the books is an entry of all
entries-at : (books : List BookView) (o : ℕ) (b : BookView) (e : Entry) → slice_get books o ≡ Some b → Contains b.entries e → Contains (entries_of books) e
entries-at [] o b e found within = absurd cc
entries-at (c ∷ books) zero b e found within =
    let same : b ≡ c = cc in Contains-append_left c.entries (entries_of books) e (subst (λ (d : BookView). Contains d.entries e) same within)
entries-at (c ∷ books) (suc o) b e found within = Contains-append_right c.entries (entries_of books) e (entries-at books o b e found within)

-- and the other way round
pub record IsInBook (books : List BookView) (e : Entry) : Type 0 where
  pub place : ℕ
  pub book : BookView
  pub found : slice_get books place ≡ Some book
  pub within : Contains book.entries e

entries-in : (books : List BookView) (e : Entry) → Contains (entries_of books) e → IsInBook books e
entries-in [] e within = absurd (Contains-none e within)
entries-in (c ∷ books) e within = ⊎_elim
    (λ (here : Contains c.entries e). record { place = 0; book = c; found = refl; within = here })
    (λ (later : Contains (entries_of books) e).
    let more = entries-in books e later in
    record { place = suc more.place; book = more.book; found = more.found; within = more.within })
    (Contains-append_cases c.entries (entries_of books) e within)

-- all books together have the events that they have kept
same-events : (es : List Entry) (books : List BookView) → HaveKept es books → ((e : Entry) → Contains es e → e.object < length books) → HaveSameEvents es (entries_of books)
same-events es books kept ranges = record {
  into = λ e within.
      let there = found_at books e.object (ranges e within) in
      let own = kept e.object there.0 there.1 in
      entries-at books e.object there.0 e there.1
      (subst (λ (l : List Entry). Contains l e) (sym own.1) (Contains-filter (λ a. a.object == e.object) es e within (eq-eqb e.object e.object refl)));
  back = λ e within.
      let there = entries-in books e within in
      let own = kept there.place there.book there.found in
      (Contains-filtered (λ a. a.object == there.place) es e (subst (λ (l : List Entry). Contains l e) own.1 there.within)).0;
}

-- so the first events of a run, however many, are closed in all entries of all books
pub closed-in_books : (x : ExerciseView) (es : List Entry) (j : JointState) (books : List BookView) (tickets : List TicketView) → IsSoundJoint x j → IsJointRun x es j → All (IsInRange x) es
    → HaveRecorded es j books tickets → PrefixesAreClosed es (entries_of books)
closed-in_books x es j books tickets sound run ranges recorded prefix back parts =
    let count = count-books es j books tickets recorded in
    closed-same prefix es (entries_of books)
    (same-events es books recorded.kept (λ e within.
    let known = subst (IsInRange x) within.2 (ranges within.0 e within.1) in
    omega (arith, known.object, count, sound.object_count)))
    (prefixes-are_closed x es j run prefix back parts)
