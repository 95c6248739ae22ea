-- The rows of the object of a thread are well made.
use Rattle.std.proofs.Common.{◌≡◌, ℕ, Bool, true, false, List, [], ◌∷◌, refl, arith}
use Rattle.tm_base.specs.declared.operations.Op.{Op}
use Rattle.tm_base.specs.declared.operations.Op.TheVariants as op
use Rattle.tm_base.specs.declared.kinds.Kind.TheVariants as kind
use Rattle.tm_base.specs.Fits.{fits}
use Rattle.tm_base.specs.States.{ThreadObjectState}
use Rattle.tm_base.specs.Machines.{is_step}
use Rattle.tm_base.specs.ThreadObject.{thread_row}
use Rattle.tm_laws.specs.WellMadeRows.{IsWellMade}
use Rattle.tm_laws.proofs.Counting.{count_in-append}

pub thread_row-made : (own : ℕ) (held started begun ended : Bool) (beginning joiners : List ℕ) (t : ℕ) (o : Op)
    → fits o (kind.Thread own held) ≡ true → is_step o ≡ true
    → IsWellMade (kind.Thread own held) (ThreadObjectState started begun ended beginning joiners) t (thread_row own started begun ended beginning joiners t o)
thread_row-made own held true begun ended beginning joiners t op.Begin fit call = (refl, refl, tt, λ x. omega arith)
thread_row-made own held false begun ended beginning joiners t op.Begin fit call = (tt, tt, λ x. omega arith, λ x. omega (arith, count_in-append))
thread_row-made own held true begun ended beginning joiners t op.Start fit call = refl
thread_row-made own held false begun ended (o ∷ beginning) joiners t op.Start fit call = (refl, tt, λ x. omega arith)
thread_row-made own held false begun ended [] joiners t op.Start fit call = (refl, refl, tt, λ x. omega arith)
thread_row-made own held started begun true beginning joiners t op.Join fit call = (refl, refl)
thread_row-made own held started begun false beginning joiners t op.Join fit call = (refl, (tt, λ x. omega (arith, count_in-append)))
thread_row-made own held started begun ended beginning joiners t (op.End true) fit call = (refl, refl, tt, λ x. omega (arith, count_in-append))
thread_row-made own held started begun ended beginning joiners t (op.End false) fit call = (refl, refl, tt, λ x. omega (arith, count_in-append))
thread_row-made own held started begun ended beginning joiners t o fit call = absurd cc
