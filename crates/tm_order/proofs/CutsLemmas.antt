-- Orders that keep direct predecessors, linear extensions and closed cuts.
use Rattle.std.proofs.Common.{◌≡◌, List, [], ◌∷◌, ◌++◌, Contains, ap, sym, ◌∙◌, subst}
use Rattle.std.specs.Prelude.{IsPermutation}
use Rattle.std.proofs.lemmas.List.{append_assoc}
use Rattle.std.proofs.lemmas.List.Elements.{Contains-append_left}
use Rattle.std.proofs.lemmas.List.Sorted.{Contains-permutation}
use Rattle.tm_base.specs.declared.events.Entry.{Entry}
use Rattle.tm_base.specs.Orders.{IsChain, IsClosed, KeepsPredecessors}
use Rattle.tm_replay.proofs.SliceLemmas.{Contains-parts}
use Rattle.tm_order.specs.Cuts.{HaveSameEvents}
use Rattle.tm_order.specs.LinearExtensions.{IsLinearExtension}
use Rattle.tm_order.proofs.Elements.{Contains-middle}

-- along a chain each event stands before the next
chain-keeps : (es order : List Entry) → ((e : Entry) → Contains es e → Contains order e) → KeepsPredecessors order
    → (between prefix back : List Entry) (a b : Entry) → order ≡ prefix ++ b ∷ back → IsChain es a between b → Contains prefix a
chain-keeps es order into keeps [] prefix back a b parts chain = keeps prefix back a b parts (into a chain.0) chain.2
chain-keeps es order into keeps (m ∷ between) prefix back a b parts chain =
    let cut = Contains-parts prefix m (chain-keeps es order into keeps between prefix back m b parts chain.2) in
    let whole : order ≡ cut.0 ++ m ∷ (cut.1 ++ b ∷ back) = parts ∙ ap (λ (l : List Entry). l ++ b ∷ back) cut.2 ∙ append_assoc cut.0 (m ∷ cut.1) (b ∷ back) in
    let before = keeps cut.0 (cut.1 ++ b ∷ back) a m whole (into a chain.0) chain.1 in
    subst (λ (l : List Entry). Contains l a) (sym cut.2) (Contains-append_left cut.0 (m ∷ cut.1) a before)

pub keeps-extends : (es order : List Entry) → IsPermutation es order → KeepsPredecessors order → IsLinearExtension es order
keeps-extends es order permutation keeps = record {
  permutation = permutation;
  after = λ prefix back a b parts before.
      chain-keeps es order (λ e within. Contains-permutation es order e permutation within) keeps before.0 prefix back a b parts before.1;
}

pub closed-keeps : (cut events : List Entry) → IsClosed cut events → KeepsPredecessors cut
closed-keeps cut events closed prefix back a b parts within direct =
    let there : Contains cut b = subst (λ (l : List Entry). Contains l b) (sym parts) (Contains-middle prefix back b) in
    closed.closed prefix back a b parts ([], (closed.known a within, closed.known b there, direct))

-- a chain of events is one of the same events in another order
chain-same : (es others : List Entry) → HaveSameEvents es others → (between : List Entry) (a b : Entry) → IsChain es a between b → IsChain others a between b
chain-same es others same [] a b chain = (same.into a chain.0, same.into b chain.1, chain.2)
chain-same es others same (m ∷ between) a b chain = (same.into a chain.0, chain.1, chain-same es others same between m b chain.2)

pub closed-same : (cut es others : List Entry) → HaveSameEvents es others → IsClosed cut es → IsClosed cut others
closed-same cut es others same closed =
    let back : HaveSameEvents others es = record { into = same.back; back = same.into } in
    record {
      known = λ e within. same.into e (closed.known e within);
      once = closed.once;
      closed = λ prefix rest a b parts before. closed.closed prefix rest a b parts (before.0, chain-same others es back before.0 a b before.1);
    }
