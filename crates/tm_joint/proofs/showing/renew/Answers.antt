use Rattle.std.proofs.Common.{arith}
use Rattle.tm_joint.proofs.Renewing.{Done-one, Done-renews}
use Rattle.tm_joint.proofs.showing.renew.Goals as goal

pub loop-thread-preserved : goal.loop-thread-preserved
loop-thread-preserved c =
    Done-one c.args.seats.now c.args.object.now c.args.number c.args.bars.now c.loop-thread.thread c.loop-thread.bars c.renew_one.new.bars c.loop-thread.auto.thread c.loop-thread.invariant c.renew_one.ensures

pub returns : goal.returns
returns c =
    Done-renews c.args.seats.now c.args.object.now c.args.number c.args.bars.now c.loop-thread.thread c.loop-thread.bars
    (omega (arith, c.loop-thread-test.false)) c.loop-thread.invariant
