use Rattle.std.proofs.Common.{◌+◌, ◌^◌, ◌≤◌, max, [], ◌∷◌, length, length-append, refl, ap, ◌∙◌, sym, arith, subst}
use Rattle.std.specs.Vec.{vec_capacity}
use Rattle.tm_base.specs.Histories.{Lawful}
use Rattle.tm_base.specs.declared.events.Entry.{Entry}
use Rattle.tm_book.specs.AnyMachines.{any_object}
use Rattle.tm_book.specs.Books.{BookView, IsKept, IsEntered, HasRoom}
use Rattle.tm_book.specs.StoredBooks.{book_view}
use Rattle.tm_book.proofs.BooksLemmas.{enough, fits, place, IsKept-entered}
use Rattle.tm_book.proofs.books.Book.append.Goals as goal

pub owed_after-self-inside-requires-clause-enough : goal.owed_after-self-inside-requires-clause-enough
owed_after-self-inside-requires-clause-enough c =
    let i = c.self.inside in
    enough (book_view i) i.owed (vec_capacity i.entries) c.thread.result c.args.op c.answer-reply.result (any_object c.answer-reply.new.machine).state c.self.invariant c.answer-reply.ensures.lawful

pub push_reserved-requires : goal.push_reserved-requires
push_reserved-requires c =
    let i = c.self.inside in
    let room = subst (λ b. HasRoom b c.args.op) (sym c.self.view_is) c.requires.room in
    let found = place (book_view i) i.owed (vec_capacity i.entries) c.thread.result c.args.op c.answer-reply.result (any_object c.answer-reply.new.machine).state c.self.invariant c.answer-reply.ensures.lawful refl room in
    omega (arith, i.entries.ok.0, found)

module _ (c : goal.After-advance) where
  abbrev old : BookView
  old = book_view c.self.inside

  -- the new entry has its place, and the owed ones theirs
  fit : length old.entries + 1 + c.owed_after-self-inside.result ≤ vec_capacity c.self.inside.entries
  fit =
      let i = c.self.inside in
      let room = subst (λ b. HasRoom b c.args.op) (sym c.self.view_is) c.requires.room in
      fits old i.owed (vec_capacity i.entries) c.thread.result c.args.op c.answer-reply.result (any_object c.answer-reply.new.machine).state c.self.invariant c.answer-reply.ensures.lawful refl room
      c.owed_after-self-inside.result c.owed_after-self-inside.ensures

  abbrev entry : Entry
  entry =
      record {
        thread = c.thread-2.result;
        place = c.next.result;
        object = c.self.inside.object;
        at = c.len.result + 1;
        stamp = c.max.result + 1;
        op = c.args.op;
        reply = c.answer-reply.result;
      }

  abbrev new : BookView
  new =
      book_view
      (record {
        object = c.self.inside.object;
        machine = c.answer-reply.new.machine;
        entries = c.push_reserved.new.self;
        stamp = c.max.result + 1;
        owed = c.owed_after-self-inside.result;
      })

  entered : IsEntered old c.args.ticket.now c.args.op entry new c.advance.new.self
  entered =
      let p = c.push_reserved.ensures in
      record {
        thread = c.thread-2.ensures;
        place = c.next.ensures;
        object = refl;
        op = refl;
        at = omega (arith, c.len.ensures, c.self.inside.entries.ok.0);
        stamp = omega (arith, c.max.ensures, c.clock.ensures);
        lawful = subst (λ t. Lawful old.machine t c.args.op c.answer-reply.result new.machine.state) (c.thread.ensures ∙ sym c.thread-2.ensures) c.answer-reply.ensures.lawful;
        machine = c.answer-reply.ensures.same;
        same_object = refl;
        entries = p.items;
        now_stamp = refl;
        spare = omega (arith, fit, p.capacity, ap length p.items, length-append old.entries (entry ∷ []), c.owed_after-self-inside.ensures, c.self.invariant.room);
        ticket = c.advance.ensures;
      }

pub invariant_of-self : goal.invariant_of-self
invariant_of-self c =
    let clock = subst (λ (b : BookView). c.args.ticket.now.clock ≤ max (2 ^ 62) b.stamp) (sym c.self.view_is) c.requires.clock in
    let fits = fit c in
    subst (IsKept (new c) c.owed_after-self-inside.result) (sym c.push_reserved.ensures.capacity)
    (IsKept-entered (old c) (new c) c.self.inside.owed c.owed_after-self-inside.result (vec_capacity c.self.inside.entries) c.args.ticket.now c.advance.new.self c.args.op (entry c)
    c.self.invariant (entered c) clock c.owed_after-self-inside.ensures fits)

pub returns : goal.returns
returns c = subst (λ (b : BookView). IsEntered b c.args.ticket.now c.args.op (entry c) (new c) c.advance.new.self) c.self.view_is (entered c)
