use Rattle.std.proofs.Common.{◌≡◌, ℕ, List, ◌++◌, codes, OnOk, Result, append_assoc, sym, ap, ◌∙◌, subst}
use Rattle.std.proofs.lemmas.Result.{on_ok_weaker}
use Rattle.tm_merge.specs.declared.refusals.Refused.{Refused}
use Rattle.tm_refusal_lines.specs.RefusalTexts.{line_of, pair_text, refused_text}
use Rattle.tm_refusal_lines.proofs.fault_lines.append_refused.Goals as goal

-- what is appended after a first line
after_head : {T E : Type 0} (result : Result T E) (old mid new head rest : List ℕ) → mid ≡ old ++ head → OnOk result (new ≡ mid ++ rest) → OnOk result (new ≡ old ++ (head ++ rest))
after_head result old mid new head rest first h =
    on_ok_weaker result (λ (e : new ≡ mid ++ rest). e ∙ ap (λ (l : List ℕ). l ++ rest) first ∙ append_assoc old head rest) h

pub returns-in_ok-append_head-in-TwicePlace : goal.returns-in_ok-append_head-in-TwicePlace
returns-in_ok-append_head-in-TwicePlace c =
    subst (λ (r : Refused). OnOk c.append_pair.result (c.append_pair.new.out.items ≡ c.args.out.now.items ++ refused_text c.args.exercise.now r)) (sym c.in-TwicePlace.is)
    (after_head c.append_pair.result c.args.out.now.items c.append_head.new.out.items c.append_pair.new.out.items (line_of (codes "refused") (codes "twice"))
    (pair_text c.args.exercise.now c.in-TwicePlace.kept c.in-TwicePlace.new) c.in_ok-append_head-in-TwicePlace.ensures c.append_pair.ensures)

pub returns-in_ok-append_head-in-StampOrder : goal.returns-in_ok-append_head-in-StampOrder
returns-in_ok-append_head-in-StampOrder c =
    subst (λ (r : Refused). OnOk c.append_pair-in-StampOrder.result (c.append_pair-in-StampOrder.new.out.items ≡ c.args.out.now.items ++ refused_text c.args.exercise.now r)) (sym c.in-StampOrder.is)
    (after_head c.append_pair-in-StampOrder.result c.args.out.now.items c.append_head-in-StampOrder.new.out.items c.append_pair-in-StampOrder.new.out.items (line_of (codes "refused") (codes "stamps"))
    (pair_text c.args.exercise.now c.in-StampOrder.kept c.in-StampOrder.new) c.in_ok-append_head-in-StampOrder.ensures c.append_pair-in-StampOrder.ensures)
