use Rattle.std.proofs.Common.{refl}
use Rattle.tm_merge.proofs.FollowingLemmas.{keeps-roomier}
use Rattle.tm_merge.proofs.arrivals.Arrivals.make_room_to_follow.Goals as goal

pub returns-in_err-reserve-clause-all : goal.returns-in_err-reserve-clause-all
returns-in_err-reserve-clause-all c =
    keeps-roomier c.args.self.now (record c.args.self.now { shown = c.reserve.new.self }) c.requires refl refl refl refl refl c.reserve.ensures.items c.reserve.ensures.capacity

pub returns-clause-all : goal.returns-clause-all
returns-clause-all c =
    keeps-roomier c.args.self.now (record c.args.self.now { shown = c.reserve.new.self }) c.requires refl refl refl refl refl c.reserve.ensures.items c.reserve.ensures.capacity
