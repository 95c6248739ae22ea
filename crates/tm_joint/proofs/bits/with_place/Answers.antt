use Rattle.std.proofs.Common.{sym, ap, ◌∙◌, w64}
use Rattle.std.proofs.lemmas.Nat.Bits.{bit_at_clear_other, bit_at_clear_same, bit_at_set_other, bit_at_set_same}
use Rattle.tm_laws.specs.Counts.{bit}
use Rattle.tm_joint.proofs.bits.with_place.Goals as goal

pub returns-then-belongs-clause-same : goal.returns-then-belongs-clause-same
returns-then-belongs-clause-same c = bit_at_set_same w64 c.args.set c.args.place c.requires ∙ sym (ap bit c.if-belongs.true)

pub returns-then-belongs-clause-others : goal.returns-then-belongs-clause-others
returns-then-belongs-clause-others c = λ i within away. bit_at_set_other w64 c.args.set c.args.place c.requires i away

pub returns-else-belongs-clause-same : goal.returns-else-belongs-clause-same
returns-else-belongs-clause-same c = bit_at_clear_same w64 c.args.set c.args.place c.requires ∙ sym (ap bit c.if-belongs.false)

pub returns-else-belongs-clause-others : goal.returns-else-belongs-clause-others
returns-else-belongs-clause-others c = λ i within away. bit_at_clear_other w64 c.args.set c.args.place c.requires i within away
