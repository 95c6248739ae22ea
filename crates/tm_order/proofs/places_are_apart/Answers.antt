-- The law, since each place stands once.
use Rattle.tm_order.proofs.PlacedLemmas.{placed-apart}
use Rattle.tm_order.proofs.places_are_apart.Goals as goal

pub returns : goal.returns
returns c = λ es prefix back a b placed parts before. placed-apart es prefix back a b placed parts before
