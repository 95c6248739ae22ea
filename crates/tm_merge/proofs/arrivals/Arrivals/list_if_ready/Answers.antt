use Rattle.std.proofs.Common.{◌==◌, refl, sym, ◌∙◌}
use Rattle.tm_merge.proofs.ReadyThreadsLemmas.{room_for, lists-with, only-with}
use Rattle.tm_merge.proofs.arrivals.Arrivals.list_if_ready.Goals as goal

pub list_thread-requires : goal.list_thread-requires
list_thread-requires c = room_for c.args.self.now (λ e. e.thread == c.args.thread) c.args.thread c.requires.lists c.requires.known

pub returns-then-is_some-clause-lists : goal.returns-then-is_some-clause-lists
returns-then-is_some-clause-lists c =
    let a = c.args.self.now in
    lists-with a (record a { ready = c.list_thread.new.threads }) c.args.thread c.requires.lists c.requires.known refl refl c.list_thread.ensures.items c.list_thread.ensures.capacity

pub returns-then-is_some-clause-only : goal.returns-then-is_some-clause-only
returns-then-is_some-clause-only c skips only =
    let a = c.args.self.now in
    only-with a (record a { ready = c.list_thread.new.threads }) c.args.thread c.ready_in.result c.ready_in.ensures refl skips (sym c.is_some.ensures ∙ c.if-is_some.true) c.list_thread.ensures.items only
