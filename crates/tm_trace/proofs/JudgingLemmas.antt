-- Events in the order of their stamps: a run is accepted, and where it breaks off no order is one.
use Rattle.std.proofs.Common.{List}
use Rattle.std.specs.Prelude.{IsPermutation}
use Rattle.std.proofs.lemmas.List.Sorted.{Contains-permutation, IsPermutation-sym}
use Rattle.tm_base.specs.declared.events.Entry.{Entry}
use Rattle.tm_text.specs.Exercises.{ExerciseView}
use Rattle.tm_joint.specs.declared.refusals.Illegal.{Illegal}
use Rattle.tm_joint.proofs.RefusalsLemmas.{Refuses-no_step}
use Rattle.tm_order.specs.Interleavings.{AreInRange}
use Rattle.tm_order.specs.LegalEvents.{AreLegal}
use Rattle.tm_order.specs.StampOrder.{IsInStampOrder}
use Rattle.tm_order.proofs.LegalEventsLemmas.{broken-illegal}
use Rattle.tm_order.proofs.StampOrderLemmas.{extension-keeps}
use Rattle.tm_trace.specs.Judging.{IsAccepted}
use Rattle.tm_trace.specs.Replaying.{IsFirstIllegal, Replays}
use Rattle.tm_trace.specs.Traces.{AreTraceable}
use Rattle.tm_trace.proofs.AcceptingLemmas.{accepted-by_stamp}

module _ (x : ExerciseView) (es order : List Entry) (permutation : IsPermutation es order) where
  pub traceable-range : AreTraceable x es → AreInRange x order
  traceable-range traceable e within =
      let says = traceable e (Contains-permutation order es e (IsPermutation-sym es order permutation) within) in
      (says.thread, says.object)

  pub replays-legal : Replays x order → AreLegal x es
  replays-legal replays = record { order = order; permutation = permutation; joint = replays.0; run = replays.1 }

  module _ (by_stamp : IsInStampOrder order) where
    pub accepts : Replays x order → IsAccepted x es order
    accepts replays = accepted-by_stamp x es (replays-legal replays) order permutation by_stamp

    pub breaks : (i : Illegal) → IsFirstIllegal x order i → AreLegal x es → ⊥
    breaks i first legal =
        let accepted = accepted-by_stamp x es legal order permutation by_stamp in
        broken-illegal x es legal order permutation (extension-keeps es order accepted.extension) (record {
          prefix = first.prefix;
          event = first.entry;
          back = first.back;
          parts = first.parts;
          joint = first.joint;
          run = first.run;
          illegal = λ k step. Refuses-no_step x first.joint k first.entry i.cause first.illegal.1 step;
        })
