-- What readers expect of blocks, and of what is left of a program.
use Rattle.std.specs.Prelude.{◌≡◌, ℕ, suc, ℤ, if◌then◌else◌, List}
use Rattle.tm_programs.specs.declared.instructions.Comparison.{Comparison}
use Rattle.tm_programs.specs.Programs.{Program, Over, Call, Set, Inc, Repeat, While, If, followed, holds, register_of, until_call}

-- A call stands directly in the program, and not only in its blocks.
abbrev pub HasCall : Program → Type 0
HasCall Over = ⊥
HasCall (Call object code with next) = Unit {0}
HasCall (Set register value next) = HasCall next
HasCall (Inc register value next) = HasCall next
HasCall (Repeat turns body next) = HasCall next
HasCall (While register how value body next) = HasCall next
HasCall (If register how value body next) = HasCall next

-- A `repeat` is its body and one turn fewer.
abbrev pub RepeatsUnfold : Type 0
RepeatsUnfold = (turns : ℕ) (body next : Program) (registers : List ℤ) → HasCall body
    → until_call (Repeat (suc turns) body next) registers
    ≡ until_call (followed body (Repeat turns body next)) registers

-- A `while` whose comparison holds is its body and the `while` again, and else what follows it.
abbrev pub WhilesUnfold : Type 0
WhilesUnfold =
    (register : ℕ) (how : Comparison) (value : ℤ) (body next : Program) (registers : List ℤ) → HasCall body
    → until_call (While register how value body next) registers
    ≡ (if holds how (register_of registers register) value
    then until_call (followed body (While register how value body next)) registers
    else until_call next registers)

-- An `if` whose comparison holds is its body and what follows it, and else what follows it.
abbrev pub IfsUnfold : Type 0
IfsUnfold = (register : ℕ) (how : Comparison) (value : ℤ) (body next : Program) (registers : List ℤ)
    → until_call (If register how value body next) registers
    ≡ (if holds how (register_of registers register) value
    then until_call (followed body next) registers
    else until_call next registers)

-- The program begins with a call, or is over.
abbrev pub IsSettled : Program → Type 0
IsSettled Over = Unit {0}
IsSettled (Call object code with next) = Unit {0}
IsSettled other = ⊥

-- What is left once the local instructions before the first call are done is settled.
abbrev pub RestsAreSettled : Type 0
RestsAreSettled = (p : Program) (registers : List ℤ) → IsSettled (until_call p registers).program
