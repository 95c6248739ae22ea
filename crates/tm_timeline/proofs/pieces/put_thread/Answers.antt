use Rattle.std.proofs.Common.{arith}
use Rattle.tm_text.proofs.Owns.{own_of-below}
use Rattle.tm_timeline.proofs.pieces.put_thread.Goals as goal

pub prove-unreachable-requires : goal.prove-unreachable-requires
prove-unreachable-requires c =
    let below = own_of-below c.args.exercise.now c.objects.ensures.well_formed c.args.thread (omega arith) c.requires.known in
    omega arith
