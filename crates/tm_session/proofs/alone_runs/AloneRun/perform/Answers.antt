use Rattle.std.proofs.Common.{◌≡◌, Some, length, slice_get, refl, arith}
use Rattle.std.proofs.lemmas.Option.{slice_get_read}
use Rattle.std.proofs.lemmas.Result.{IfOk-weaker}
use Rattle.tm_base.specs.declared.events.Entry.{Entry}
use Rattle.tm_collect.specs.Collectors.{shown_of}
use Rattle.tm_session.specs.Noting.{IsNoted}
use Rattle.tm_session.proofs.RecordsLemmas.{book-within, ticket-within, can_enter, early, next, performs, recorded_next}
use Rattle.tm_session.proofs.alone_runs.AloneRun.perform.Goals as goal
use Rattle.tm_session.proofs.alone_runs.AloneRun.perform.Goals.{After-index_mut}

book : (c : After-index_mut) → slice_get c.args.self.now.books.items c.args.next_call.object ≡ Some c.index_mut-book.result.now
book c =
    let r = c.args.self.now in
    slice_get_read r.books.items (length r.books.items) c.args.next_call.object c.index_mut-book.result.now refl
    (book-within (shown_of r.collector) r.collector.joint.state r.books.items r.tickets.items c.requires.recorded c.args.next_call.object c.requires.can.object_state c.requires.can.object) c.index_mut-book.ensures.value

ticket : (c : After-index_mut) → slice_get c.args.self.now.tickets.items c.args.thread ≡ Some c.index_mut.result.now
ticket c =
    let r = c.args.self.now in
    slice_get_read r.tickets.items (length r.tickets.items) c.args.thread c.index_mut.result.now refl
    (ticket-within (shown_of r.collector) r.collector.joint.state r.books.items r.tickets.items c.requires.recorded c.args.thread c.requires.can.thread_state c.requires.can.thread) c.index_mut.ensures.value

pub index_mut-requires : goal.index_mut-requires
index_mut-requires c =
    let r = c.args.self.now in
    let within = ticket-within (shown_of r.collector) r.collector.joint.state r.books.items r.tickets.items c.requires.recorded c.args.thread c.requires.can.thread_state c.requires.can.thread in
    omega (arith, within, r.tickets.ok.0)

pub enter-requires-clause-may : goal.enter-requires-clause-may
enter-requires-clause-may c =
    let r = c.args.self.now in
    let d = (goal.at.enter-requires-clause-may c).After-index_mut in
    can_enter (shown_of r.collector) r.collector.joint.state r.books.items r.tickets.items c.requires.recorded c.args.thread c.args.next_call c.requires.can _ _ (book d) (ticket d)

pub enter-requires-clause-next : goal.enter-requires-clause-next
enter-requires-clause-next c =
    let r = c.args.self.now in
    let d = (goal.at.enter-requires-clause-next c).After-index_mut in
    (early (shown_of r.collector) r.collector.joint.state r.books.items r.tickets.items c.requires.recorded c.args.thread c.args.next_call c.requires.can _ _ (book d) (ticket d)).0

pub enter-requires-clause-clock : goal.enter-requires-clause-clock
enter-requires-clause-clock c =
    let r = c.args.self.now in
    let d = (goal.at.enter-requires-clause-clock c).After-index_mut in
    (early (shown_of r.collector) r.collector.joint.state r.books.items r.tickets.items c.requires.recorded c.args.thread c.args.next_call c.requires.can _ _ (book d) (ticket d)).1

pub returns-clause-makes : goal.returns-clause-makes
returns-clause-makes c =
    let r = c.args.self.now in
    let es = shown_of r.collector in
    let j = r.collector.joint.state in
    let d = (goal.at.returns-clause-makes c).After-index_mut in
    let b = c.index_mut-book.result.now in
    let p = c.index_mut.result.now in
    let P : Entry → Type 0 = λ e. IsNoted b p c.args.next_call.op e c.enter.new.book c.enter.new.ticket in
    IfOk-weaker c.enter.result P _
    (λ e noted. record {
      joint = next es j r.books.items r.tickets.items c.requires.recorded c.args.thread c.args.next_call c.requires.can b p (book d) (ticket d) e c.enter.new.ticket c.enter.new.book noted;
      performs = performs es j r.books.items r.tickets.items c.requires.recorded c.args.thread c.args.next_call c.requires.can b p (book d) (ticket d) e c.enter.new.ticket c.enter.new.book noted;
      recorded = recorded_next es j r.books.items r.tickets.items c.requires.recorded c.args.thread c.args.next_call c.requires.can b p (book d) (ticket d) e c.enter.new.ticket c.enter.new.book noted;
    })
    c.enter.ensures.entered
