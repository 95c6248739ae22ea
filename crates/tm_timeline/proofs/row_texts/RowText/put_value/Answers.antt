use Rattle.std.proofs.Common.{refl, arith}
use Rattle.std.proofs.lemmas.Fmt.{length-decimal-le}
use Rattle.tm_timeline.proofs.RowTextsLemmas.{length-text}
use Rattle.tm_timeline.proofs.row_texts.RowText.put_value.Goals as goal

pub write_digits-self-inside-requires : goal.write_digits-self-inside-requires
write_digits-self-inside-requires c =
    let i = c.self.inside in
    let long = length-decimal-le 19 c.unsigned_abs.result (omega arith) (omega arith) (omega (arith, c.unsigned_abs.ensures.bound)) in
    let was = length-text i.start i.bytes c.args.self.now c.self.view_is c.self.told c.self.invariant.within in
    (omega (arith, long, was, c.requires), omega (arith, c.self.invariant.within, c.self.told))

pub put_byte-requires : goal.put_byte-requires
put_byte-requires c =
    let i = c.self.inside in
    let w = c.write_digits-self-inside in
    let long = length-decimal-le 19 c.unsigned_abs.result (omega arith) (omega arith) (omega (arith, c.unsigned_abs.ensures.bound)) in
    let was = length-text i.start i.bytes c.args.self.now c.self.view_is c.self.told c.self.invariant.within in
    let is = length-text w.result w.new.buf _ refl (omega (arith, w.auto.buf, c.self.told)) (omega (arith, w.ensures.start, c.self.invariant.within)) in
    omega (arith, long, was, is, w.ensures.start, c.requires)

pub returns-then-value-lt0-clause-len : goal.returns-then-value-lt0-clause-len
returns-then-value-lt0-clause-len c =
    let i = c.self.inside in
    let w = c.write_digits-self-inside in
    let long = length-decimal-le 19 c.unsigned_abs.result (omega arith) (omega arith) (omega (arith, c.unsigned_abs.ensures.bound)) in
    let was = length-text i.start i.bytes c.args.self.now c.self.view_is c.self.told c.self.invariant.within in
    let is = length-text w.result w.new.buf _ refl (omega (arith, w.auto.buf, c.self.told)) (omega (arith, w.ensures.start, c.self.invariant.within)) in
    omega (arith, long, was, is, w.ensures.start, c.put_byte.ensures.len)

pub returns-else-value-lt0-clause-len : goal.returns-else-value-lt0-clause-len
returns-else-value-lt0-clause-len c =
    let i = c.self.inside in
    let w = c.write_digits-self-inside in
    let long = length-decimal-le 19 c.unsigned_abs.result (omega arith) (omega arith) (omega (arith, c.unsigned_abs.ensures.bound)) in
    let was = length-text i.start i.bytes c.args.self.now c.self.view_is c.self.told c.self.invariant.within in
    let is = length-text w.result w.new.buf _ refl (omega (arith, w.auto.buf, c.self.told)) (omega (arith, w.ensures.start, c.self.invariant.within)) in
    omega (arith, long, was, is, w.ensures.start)
