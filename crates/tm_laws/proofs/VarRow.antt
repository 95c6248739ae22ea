-- The rows of the variable are well made.
use Rattle.std.proofs.Common.{◌≡◌, ℕ, ℤ, true, refl, arith}
use Rattle.tm_base.specs.declared.operations.Op.{Op}
use Rattle.tm_base.specs.declared.operations.Op.TheVariants as op
use Rattle.tm_base.specs.declared.kinds.Kind.TheVariants as kind
use Rattle.tm_base.specs.Fits.{fits}
use Rattle.tm_base.specs.States.{VarState}
use Rattle.tm_base.specs.Machines.{is_step}
use Rattle.tm_base.specs.Variable.{var_row}
use Rattle.tm_laws.specs.WellMadeRows.{IsWellMade}

pub var_row-made : (start value : ℤ) (t : ℕ) (o : Op) → fits o (kind.Var start) ≡ true → is_step o ≡ true
    → IsWellMade (kind.Var start) (VarState value) t (var_row value o)
var_row-made start value t op.Read fit call = refl
var_row-made start value t (op.Write k) fit call = (refl, refl, tt, λ x. omega arith)
var_row-made start value t (op.Add k) fit call = (refl, refl, tt, λ x. omega arith)
var_row-made start value t o fit call = absurd cc
