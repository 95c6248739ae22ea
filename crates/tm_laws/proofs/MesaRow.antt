-- The rows of the Mesa monitor are well made.
use Rattle.std.proofs.Common.{◌≡◌, ℕ, ◌+◌, true, List, [], ◌∷◌, ◌++◌, length, length-set, Option, Some, None, option_to_list, slice_get, slice_set, refl, ◌∙◌, arith}
use Rattle.tm_base.specs.declared.operations.Op.{Op}
use Rattle.tm_base.specs.declared.operations.Op.TheVariants as op
use Rattle.tm_base.specs.declared.kinds.Kind.TheVariants as kind
use Rattle.tm_base.specs.Fits.{fits}
use Rattle.tm_base.specs.States.{MesaState, all_of, queued}
use Rattle.tm_base.specs.Machines.{is_step}
use Rattle.tm_base.specs.Mesa.{mesa_row, mesa_signal_row, mesa_heir, mesa_handed_on}
use Rattle.tm_laws.specs.Counts.{count_in}
use Rattle.tm_laws.specs.Tidy.{IsStateOf}
use Rattle.tm_laws.specs.WellMadeRows.{IsWellMade}
use Rattle.tm_laws.proofs.Counting.{count_in-append}
use Rattle.tm_laws.proofs.Conditions.{condition_queue, count_all-set}

-- handing on takes the heir out of the entrance
handed_on-count : (entrance : List ℕ) (conditions : List (List ℕ)) (x : ℕ)
    → count_in (option_to_list (mesa_heir entrance)) x + count_in (queued (mesa_handed_on entrance conditions)) x ≡ count_in entrance x + count_in (all_of conditions) x
handed_on-count (e ∷ entrance) conditions x = omega (arith, count_in-append)
handed_on-count [] conditions x = omega arith

handed_on-shape : (count : ℕ) (entrance : List ℕ) (conditions : List (List ℕ)) → length conditions ≡ count → IsStateOf (kind.Mesa count) (mesa_handed_on entrance conditions)
handed_on-shape count (e ∷ entrance) conditions shape = shape
handed_on-shape count [] conditions shape = shape

module _ (count i : ℕ) (entrance : List ℕ) (conditions : List (List ℕ)) (shape : length conditions ≡ count) (t c : ℕ) where
  signal_row-made : (waiting : List ℕ) → slice_get conditions c ≡ Some waiting
      → IsWellMade (kind.Mesa count) (MesaState (Some i) entrance conditions) t (mesa_signal_row i entrance conditions c waiting)
  signal_row-made [] e = refl
  signal_row-made (w ∷ waiting) e =
      (refl, refl, length-set conditions c waiting ∙ shape, λ x. omega (arith, count_in-append, count_all-set conditions c (w ∷ waiting) waiting x e))

pub mesa_row-made : (count : ℕ) (inside : Option ℕ) (entrance : List ℕ) (conditions : List (List ℕ)) → length conditions ≡ count
    → (t : ℕ) (o : Op) → fits o (kind.Mesa count) ≡ true → is_step o ≡ true
    → IsWellMade (kind.Mesa count) (MesaState inside entrance conditions) t (mesa_row inside entrance conditions t o)
mesa_row-made count None entrance conditions shape t op.Enter fit call = (refl, refl, shape, λ x. omega arith)
mesa_row-made count (Some i) entrance conditions shape t op.Enter fit call = (refl, (shape, λ x. omega (arith, count_in-append)))
mesa_row-made count None entrance conditions shape t op.Leave fit call = refl
mesa_row-made count (Some i) entrance conditions shape t op.Leave fit call =
    ((refl, handed_on-shape count entrance conditions shape, λ x. omega (arith, count_in-append, handed_on-count entrance conditions x)), refl)
mesa_row-made count None entrance conditions shape t (op.Wait c) fit call = refl
mesa_row-made count (Some i) entrance conditions shape t (op.Wait c) fit call =
    let w = condition_queue conditions count c shape fit in
    let joined : List (List ℕ) = slice_set conditions c (w.0 ++ t ∷ []) in (
      (
        w.0,
        w.1,
        (
          handed_on-shape count entrance joined (length-set conditions c (w.0 ++ t ∷ []) ∙ shape),
          λ x. omega (arith, count_in-append, handed_on-count entrance joined x, count_all-set conditions c w.0 (w.0 ++ t ∷ []) x w.1),
        ),
      ),
      refl,
    )
mesa_row-made count None entrance conditions shape t (op.Signal c) fit call = refl
mesa_row-made count (Some i) entrance conditions shape t (op.Signal c) fit call =
    let w = condition_queue conditions count c shape fit in
    ((w.0, w.1, signal_row-made count i entrance conditions shape t c w.0 w.1), refl)
mesa_row-made count None entrance conditions shape t (op.Broadcast c) fit call = refl
mesa_row-made count (Some i) entrance conditions shape t (op.Broadcast c) fit call =
    let w = condition_queue conditions count c shape fit in
    ((w.0, w.1, (refl, refl, length-set conditions c [] ∙ shape, λ x. omega (arith, count_in-append, count_all-set conditions c w.0 [] x w.1))), refl)
mesa_row-made count inside entrance conditions shape t o fit call = absurd cc
