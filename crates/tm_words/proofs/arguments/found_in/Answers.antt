use Rattle.std.proofs.lemmas.Bool.{and_parts}
use Rattle.std.proofs.lemmas.Result.{IfOk-weaker}
use Rattle.tm_words.proofs.FoundLemmas.{has_fault}
use Rattle.tm_words.proofs.arguments.found_in.Goals as goal

pub returns-in-Ok : goal.returns-in-Ok
returns-in-Ok c = λ simple. (c.in-Ok.ensures.kinds simple, (c.in-Ok.ensures.matches (and_parts _ _ simple).0).0)

pub returns-in-Err : goal.returns-in-Err
returns-in-Err c = λ simple.
    IfOk-weaker c.refused.result _ _ (λ found none. rw none.0 (has_fault _ c.in-Err.error (c.in-Err.ensures.kinds simple) none.1)) c.refused.ensures.nothing
