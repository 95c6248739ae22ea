-- Legal events have one accepted order, which is the one by stamp.
use Rattle.std.proofs.Common.{List}
use Rattle.std.specs.Prelude.{IsPermutation}
use Rattle.tm_base.specs.declared.events.Entry.{Entry}
use Rattle.tm_text.specs.Exercises.{ExerciseView}
use Rattle.tm_order.specs.LegalEvents.{AreLegal, RunInEachOrder}
use Rattle.tm_order.specs.StampOrder.{AreOrderedByStamps, IsInStampOrder}
use Rattle.tm_order.proofs.LegalEventsLemmas.{legal-runs}
use Rattle.tm_order.proofs.StampOrderLemmas.{stamps-order}
use Rattle.tm_trace.specs.Accepting.{HaveOneOrder}
use Rattle.tm_trace.specs.Judging.{IsAccepted}

module _ (x : ExerciseView) (es : List Entry) (legal : AreLegal x es) where
  runs : RunInEachOrder x es
  runs = legal-runs x es legal

  ordered : AreOrderedByStamps es
  ordered = stamps-order es runs.placed runs.rise

  pub accepted-by_stamp : (order : List Entry) → IsPermutation es order → IsInStampOrder order → IsAccepted x es order
  accepted-by_stamp order permutation by_stamp = record {
    permutation = permutation;
    by_stamp = by_stamp;
    joint = runs.joint;
    run = runs.sorted order permutation by_stamp;
    extension = ordered.extends order permutation by_stamp;
    others = runs.runs;
  }

  pub one-accepted : HaveOneOrder x es
  one-accepted =
      let sorted = ordered.exists in
      record {
        order = sorted.0;
        accepted = accepted-by_stamp sorted.0 sorted.1 sorted.2;
        one = λ other accepted. ordered.one other sorted.0 accepted.permutation sorted.1 accepted.by_stamp sorted.2;
      }
