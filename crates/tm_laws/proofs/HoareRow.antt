-- The rows of Hoare's monitor are well made.
use Rattle.std.proofs.Common.{◌≡◌, ℕ, ◌+◌, ◌==◌, true, List, [], ◌∷◌, ◌++◌, length, length-set, Option, Some, None, option_to_list, slice_get, slice_set, refl, ◌∙◌, arith, eq-eqb}
use Rattle.tm_base.specs.declared.operations.Op.{Op}
use Rattle.tm_base.specs.declared.operations.Op.TheVariants as op
use Rattle.tm_base.specs.declared.kinds.Kind.TheVariants as kind
use Rattle.tm_base.specs.Fits.{fits}
use Rattle.tm_base.specs.States.{HoareState, all_of, queued}
use Rattle.tm_base.specs.Machines.{is_step}
use Rattle.tm_base.specs.Hoare.{hoare_row, hoare_signal_row, hoare_heir, hoare_handed_on}
use Rattle.tm_laws.specs.Counts.{count_in}
use Rattle.tm_laws.specs.Tidy.{IsStateOf}
use Rattle.tm_laws.specs.WellMadeRows.{IsWellMade}
use Rattle.tm_laws.proofs.Counting.{count_in-append, bit-true}
use Rattle.tm_laws.proofs.Conditions.{condition_queue, count_all-set}

-- handing on takes the heir out of the queues
handed_on-count : (entrance urgent : List ℕ) (conditions : List (List ℕ)) (x : ℕ)
    → count_in (option_to_list (hoare_heir entrance urgent)) x + count_in (queued (hoare_handed_on entrance urgent conditions)) x
    ≡ count_in entrance x + (count_in urgent x + count_in (all_of conditions) x)
handed_on-count entrance (u ∷ urgent) conditions x = omega (arith, count_in-append)
handed_on-count (e ∷ entrance) [] conditions x = omega (arith, count_in-append)
handed_on-count [] [] conditions x = omega arith

handed_on-shape : (count : ℕ) (entrance urgent : List ℕ) (conditions : List (List ℕ)) → length conditions ≡ count
    → IsStateOf (kind.Hoare count) (hoare_handed_on entrance urgent conditions)
handed_on-shape count entrance (u ∷ urgent) conditions shape = shape
handed_on-shape count (e ∷ entrance) [] conditions shape = shape
handed_on-shape count [] [] conditions shape = shape

module _ (count i : ℕ) (entrance urgent : List ℕ) (conditions : List (List ℕ)) (shape : length conditions ≡ count) (t c : ℕ) where
  signal_row-made : (waiting : List ℕ) → slice_get conditions c ≡ Some waiting
      → IsWellMade (kind.Hoare count) (HoareState (Some i) entrance urgent conditions) t (hoare_signal_row entrance urgent conditions t c waiting)
  signal_row-made [] e = refl
  signal_row-made (w ∷ waiting) e = (
    length-set conditions c waiting ∙ shape,
    omega (arith, count_in-append, count_all-set conditions c (w ∷ waiting) waiting w e, bit-true (w == w) (eq-eqb w w refl)),
    λ x. omega (arith, count_in-append, count_in-append urgent (all_of (slice_set conditions c waiting)) x, count_all-set conditions c (w ∷ waiting) waiting x e),
  )

pub hoare_row-made : (count : ℕ) (inside : Option ℕ) (entrance urgent : List ℕ) (conditions : List (List ℕ)) → length conditions ≡ count
    → (t : ℕ) (o : Op) → fits o (kind.Hoare count) ≡ true → is_step o ≡ true
    → IsWellMade (kind.Hoare count) (HoareState inside entrance urgent conditions) t (hoare_row inside entrance urgent conditions t o)
hoare_row-made count None entrance urgent conditions shape t op.Enter fit call = (refl, refl, shape, λ x. omega arith)
hoare_row-made count (Some i) entrance urgent conditions shape t op.Enter fit call = (refl, (shape, λ x. omega (arith, count_in-append)))
hoare_row-made count None entrance urgent conditions shape t op.Leave fit call = refl
hoare_row-made count (Some i) entrance urgent conditions shape t op.Leave fit call =
    ((refl, handed_on-shape count entrance urgent conditions shape, λ x. omega (arith, count_in-append, handed_on-count entrance urgent conditions x)), refl)
hoare_row-made count None entrance urgent conditions shape t (op.Wait c) fit call = refl
hoare_row-made count (Some i) entrance urgent conditions shape t (op.Wait c) fit call =
    let w = condition_queue conditions count c shape fit in
    let joined : List (List ℕ) = slice_set conditions c (w.0 ++ t ∷ []) in (
      (
        w.0,
        w.1,
        (
          handed_on-shape count entrance urgent joined (length-set conditions c (w.0 ++ t ∷ []) ∙ shape),
          λ x. omega (arith, count_in-append, handed_on-count entrance urgent joined x, count_all-set conditions c w.0 (w.0 ++ t ∷ []) x w.1),
        ),
      ),
      refl,
    )
hoare_row-made count None entrance urgent conditions shape t (op.Signal c) fit call = refl
hoare_row-made count (Some i) entrance urgent conditions shape t (op.Signal c) fit call =
    let w = condition_queue conditions count c shape fit in
    ((w.0, w.1, signal_row-made count i entrance urgent conditions shape t c w.0 w.1), refl)
hoare_row-made count inside entrance urgent conditions shape t o fit call = absurd cc
