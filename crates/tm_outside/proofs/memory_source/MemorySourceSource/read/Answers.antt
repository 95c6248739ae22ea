use Rattle.std.proofs.Common.{◌≡◌, ◌-◌, length, take, drop, sym, ap, ◌∙◌, arith}
use Rattle.std.proofs.lemmas.List.{take_rest}
use Rattle.tm_outside.specs.MemoryStates.{SourceState}
use Rattle.tm_outside.proofs.TakingLemmas.{taken_front}
use Rattle.tm_outside.proofs.memory_source.MemorySourceSource.read.Goals as goal

pub returns-clause-bytes : goal.returns-clause-bytes
returns-clause-bytes c =
    let at = c.self.inside.at in
    let bytes = c.self.inside.bytes.items in
    let seen = c.deref-2.result.now in
    let rest : take (length seen - at) (drop at seen) ≡ drop at bytes = take_rest seen at ∙ ap (drop at) c.deref-2.ensures.value in
    let count = rw rest at c.copy_front-n.ensures.count in
    let copied = rw rest at c.copy_front-n.ensures.copied in
    ap (λ (s : SourceState). s.left) (sym c.self.view_is) ∙ taken_front bytes c.args.buf.now c.copy_front-n.new.to at c.copy_front-n.result (omega (arith, count)) copied
