use Rattle.std.proofs.Common.{ap, sym, ◌∙◌, subst}
use Rattle.tm_worker.specs.Standings.{HasOwn, is_own_at}
use Rattle.tm_worker.proofs.LogsLemmas.{same-trans, same-self}
use Rattle.tm_worker.proofs.RunLemmas.{ran_none, ran_on}
use Rattle.tm_worker.proofs.TurnsLemmas.{suits_later}
use Rattle.tm_worker.proofs.workers.Worker.run.Goals as goal

pub loop-init : goal.loop-init
loop-init g c =
    let w = c.args.self.now in
    record {
      can_next = tt;
      is_finite = tt;
      ran = ran_none g.B.Body.asked g.B.Body.rest w.limit (is_own_at c.args.shared.now w.log.ticket.thread) w.progress w.log;
      limit = λ _. w.limit;
      passes = same-self w.log.passes;
      stays = λ kinds h. h;
    }

pub turn-requires-clause-suits : goal.turn-requires-clause-suits
turn-requires-clause-suits g c =
    suits_later c.args.shared.now c.args.self.now.log.passes c.loop.self.log.passes c.args.self.now.log.ticket.thread c.loop.self.log.ticket.thread
    c.requires.suits c.loop.invariant.passes c.loop.invariant.ran.thread

pub turn-requires-clause-own : goal.turn-requires-clause-own
turn-requires-clause-own g c = subst (λ t. HasOwn c.args.shared.now t) (sym c.loop.invariant.ran.thread) c.requires.own

pub loop-preserved-in-Made : goal.loop-preserved-in-Made
loop-preserved-in-Made g c =
    record {
      can_next = tt;
      is_finite = tt;
      ran = ran_on g.B.Body.asked g.B.Body.rest c.args.self.now.limit c.loop.self.limit (is_own_at c.args.shared.now c.args.self.now.log.ticket.thread) (is_own_at c.args.shared.now c.loop.self.log.ticket.thread)
          c.args.self.now.progress c.loop.self.progress c.turn.new.self.progress c.args.self.now.log c.loop.self.log c.turn.new.self.log c.turn.result c.loop.invariant.limit
          (ap (is_own_at c.args.shared.now) c.loop.invariant.ran.thread) c.loop.invariant.ran c.turn.ensures.turns;
      limit = c.turn.ensures.limit ∙ c.loop.invariant.limit;
      passes = same-trans c.args.self.now.log.passes c.loop.self.log.passes c.turn.new.self.log.passes c.loop.invariant.passes c.turn.ensures.passes;
      stays = λ kinds h. c.turn.ensures.stays kinds (c.loop.invariant.stays kinds h);
    }

pub loop-preserved : goal.loop-preserved
loop-preserved g c =
    record {
      can_next = tt;
      is_finite = tt;
      ran = ran_on g.B.Body.asked g.B.Body.rest c.args.self.now.limit c.loop.self.limit (is_own_at c.args.shared.now c.args.self.now.log.ticket.thread) (is_own_at c.args.shared.now c.loop.self.log.ticket.thread)
          c.args.self.now.progress c.loop.self.progress c.turn.new.self.progress c.args.self.now.log c.loop.self.log c.turn.new.self.log c.turn.result c.loop.invariant.limit
          (ap (is_own_at c.args.shared.now) c.loop.invariant.ran.thread) c.loop.invariant.ran c.turn.ensures.turns;
      limit = c.turn.ensures.limit ∙ c.loop.invariant.limit;
      passes = same-trans c.args.self.now.log.passes c.loop.self.log.passes c.turn.new.self.log.passes c.loop.invariant.passes c.turn.ensures.passes;
      stays = λ kinds h. c.turn.ensures.stays kinds (c.loop.invariant.stays kinds h);
    }
