use Rattle.std.proofs.Common.{sym, ◌∙◌}
use Rattle.tm_base.specs.Names.{is_short}
use Rattle.tm_base.proofs.StoredNamesLemmas.{IsStored-kept}
use Rattle.tm_base.proofs.names.Name.make.Goals as goal

pub invariant_of-result : goal.invariant_of-result
invariant_of-result c =
    let bs = c.args.bytes.now in
    let named = sym c.is_name.ensures ∙ c.if-not-is_name.false in
    rw c.copy_from_slice.ensures.after (IsStored-kept bs named (is_short bs named))
