use Rattle.std.proofs.Common.{◌<◌, length, sym, subst, arith}
use Rattle.std.specs.Prelude.{⊤}
use Rattle.tm_trace.specs.Faults.{of_refusal}
use Rattle.tm_trace.specs.Offering.{IsOfferFault}
use Rattle.tm_trace.proofs.OfferingLemmas.{offered-next, refused-next}
use Rattle.tm_trace.proofs.ReplayingLemmas.{if_err}
use Rattle.tm_trace.proofs.judging.offered.Goals as goal

pub returns-in_err-offer-clause-fault : goal.returns-in_err-offer-clause-fault
returns-in_err-offer-clause-fault c =
    let x = c.args.trace.now.exercise in
    let lines = c.entries-entry-items.result.now in
    let within : c.loop-entry.entry-index < length lines = omega arith in
    if_err c.from_residual-in_err-offer.result _ (IsOfferFault x c.args.trace.now.entries) c.from_residual-in_err-offer.ensures.1
    (λ fault is. subst (IsOfferFault x c.args.trace.now.entries) (sym is)
    (subst (λ es. IsOfferFault x es (of_refusal c.in_err-offer.field-0.0)) c.entries-entry-items.ensures.value
    (refused-next x lines c.loop-entry.entry-index _ c.loop-entry.merger c.loop-entry.invariant within ⊤ c.in_err-offer.field-0.0 c.in_err-offer.ensures.judged)))

pub loop-entry-preserved : goal.loop-entry-preserved
loop-entry-preserved c =
    let lines = c.entries-entry-items.result.now in
    let within : c.loop-entry.entry-index < length lines = omega arith in
    offered-next c.args.trace.now.exercise lines c.loop-entry.entry-index _ c.loop-entry.merger c.loop-entry.invariant within
    c.offer.new.self c.in_ok-offer.ensures.joins (sym c.in_ok-offer.ensures.judged)
