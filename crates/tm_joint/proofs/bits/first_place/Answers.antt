use Rattle.std.proofs.Common.{◌/◌, ◌^◌, refl, arith}
use Rattle.std.proofs.Math.Nat.{div-le_self}
use Rattle.tm_joint.proofs.BitsLemmas.{HasNoPlace-left, IsFirstPlace-left}
use Rattle.tm_joint.proofs.bits.first_place.Goals as goal

pub returns-then-above-eq0 : goal.returns-then-above-eq0
returns-then-above-eq0 c = HasNoPlace-left c.args.set c.args.from c.if-above-eq0.true

pub returns : goal.returns
returns c =
    let above = c.args.set / 2 ^ c.args.from in
    IsFirstPlace-left c.args.set c.args.from above c.ranges.set.fits refl c.if-above-eq0.false (omega (arith, div-le_self c.args.set (2 ^ c.args.from), c.ranges.set.fits))
