use Rattle.std.proofs.Common.{sym, ap, ◌∙◌, subst}
use Rattle.tm_base.specs.Tickets.{TicketView}
use Rattle.tm_worker.specs.Progresses.{ProgressView, short_of_room}
use Rattle.tm_worker.specs.Standings.{is_own_at}
use Rattle.tm_worker.specs.Turning.{Attempts}
use Rattle.tm_worker.proofs.LogsLemmas.{same-trans}
use Rattle.tm_worker.proofs.TurnsLemmas.{attempts_since, gives_call, gives_none, short_not_waits, suits_later}
use Rattle.tm_worker.proofs.steps.attempt.Goals as goal

pub own_event-requires-in-None-clause-suits : goal.own_event-requires-in-None-clause-suits
own_event-requires-in-None-clause-suits g c =
    suits_later c.args.shared.now c.args.log.now.passes c.call.new.log.passes c.args.log.now.ticket.thread c.call.new.log.ticket.thread c.requires.suits c.call.ensures.passes
    (ap (λ (t : TicketView). t.thread) c.in-None.ensures.unsent.ticket)

pub returns-in-None-clause-passes : goal.returns-in-None-clause-passes
returns-in-None-clause-passes g c =
    same-trans c.args.log.now.passes c.call.new.log.passes c.own_event-in-None.new.log.passes c.call.ensures.passes c.own_event-in-None.ensures.passes

pub returns-in-None-clause-tries : goal.returns-in-None-clause-tries
returns-in-None-clause-tries g c =
    let old = c.args.log.now in
    let mid = c.call.new.log in
    let new = c.own_event-in-None.new.log in
    let s = c.args.progress.now in
    let s' = c.own_event-in-None.new.progress in
    let t = c.own_event-in-None.result in
    let own = is_own_at c.args.shared.now old.ticket.thread in
    let short = c.in-None.ensures.short in
    let thread = ap (λ (x : TicketView). is_own_at c.args.shared.now x.thread) c.in-None.ensures.unsent.ticket in
    let later = subst (λ o. Attempts o (short_of_room s) mid t s' new) thread
    (subst (λ m. Attempts (is_own_at c.args.shared.now mid.ticket.thread) m mid t s' new) short c.own_event-in-None.ensures.attempts) in
    record {
      turned = short_of_room s;
      gives_up = gives_call s.phase c.in-Asked.object c.in-Asked.op s (ap (λ (x : ProgressView g.row.B.Denot). x.phase) (sym c.progress.view_is) ∙ c.in-Asked.is);
      attempts = attempts_since own (short_of_room s) old mid t s' new (short_not_waits s) c.in-None.ensures.unsent c.call.ensures.passes later;
    }

pub returns-in-NotBegun-clause-tries : goal.returns-in-NotBegun-clause-tries
returns-in-NotBegun-clause-tries g c = record { turned = c.args.progress.now; gives_up = gives_none c.args.progress.now.phase c.args.progress.now; attempts = c.own_event.ensures.attempts }

pub returns-in-Waits-clause-tries : goal.returns-in-Waits-clause-tries
returns-in-Waits-clause-tries g c = record { turned = c.args.progress.now; gives_up = gives_none c.args.progress.now.phase c.args.progress.now; attempts = c.resume.ensures.attempts }

pub returns-in-Some-clause-tries : goal.returns-in-Some-clause-tries
returns-in-Some-clause-tries g c = record { turned = c.args.progress.now; gives_up = gives_none c.args.progress.now.phase c.args.progress.now; attempts = c.in-Some.ensures.attempts }

pub returns-in-Ends-clause-tries : goal.returns-in-Ends-clause-tries
returns-in-Ends-clause-tries g c = record { turned = c.args.progress.now; gives_up = gives_none c.args.progress.now.phase c.args.progress.now; attempts = c.own_event-in-Ends.ensures.attempts }
