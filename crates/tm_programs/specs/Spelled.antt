-- A program's instructions give it back, which its code needs.
use Rattle.std.proofs.Common.{◌≡◌, List, [], ◌∷◌, ◌++◌, refl, ap, sym, ◌∙◌, append_assoc}
use Rattle.tm_programs.specs.declared.instructions.Instruction.{Instruction}
use Rattle.tm_programs.specs.declared.instructions.Instruction.TheVariants as instruction
use Rattle.tm_programs.specs.Programs.{Program, Over, Call, Set, Inc, Repeat, While, If, followed}
use Rattle.tm_programs.specs.Instructions.{flat, in_front, around, programs_of, first_of, rest_of, program_of}

-- What follows a program where nothing does.
pub followed-over : (p : Program) → followed p Over ≡ p
followed-over Over = refl
followed-over (Call object code with next) = ap (Call object code with) (followed-over next)
followed-over (Set register value next) = ap (Set register value) (followed-over next)
followed-over (Inc register value next) = ap (Inc register value) (followed-over next)
followed-over (Repeat turns body next) = ap (Repeat turns body) (followed-over next)
followed-over (While register how value body next) = ap (While register how value body) (followed-over next)
followed-over (If register how value body next) = ap (If register how value body) (followed-over next)

pub in_front-whole : (one : Program → Program) (ps : List Program)
    → in_front one ps ≡ first_of (in_front one ps) ∷ rest_of (in_front one ps)
in_front-whole one [] = refl
in_front-whole one (p ∷ ps) = refl

pub around-whole : (block : Program → Program → Program) (ps : List Program)
    → around block ps ≡ first_of (around block ps) ∷ rest_of (around block ps)
around-whole block [] = refl
around-whole block (body ∷ []) = refl
around-whole block (body ∷ next ∷ ps) = refl

-- instructions spell a first program at least
pub programs_of-whole : (items : List Instruction)
    → programs_of items ≡ first_of (programs_of items) ∷ rest_of (programs_of items)
programs_of-whole [] = refl
programs_of-whole (instruction.Call object code with ∷ items) =
    in_front-whole (Call object code with) (programs_of items)
programs_of-whole (instruction.Set register value ∷ items) =
    in_front-whole (Set register value) (programs_of items)
programs_of-whole (instruction.Inc register value ∷ items) =
    in_front-whole (Inc register value) (programs_of items)
programs_of-whole (instruction.Repeat turns ∷ items) = around-whole (Repeat turns) (programs_of items)
programs_of-whole (instruction.While register how value ∷ items) =
    around-whole (While register how value) (programs_of items)
programs_of-whole (instruction.If register how value ∷ items) =
    around-whole (If register how value) (programs_of items)
programs_of-whole (instruction.End ∷ items) = refl

-- the programs of a program's instructions with others after them
abbrev pub Reads : List Instruction → Program → Type 0
Reads items p =
    programs_of (flat p ++ items) ≡ followed p (first_of (programs_of items)) ∷ rest_of (programs_of items)

around-flat : (block : Program → Program → Program) (items : List Instruction) (body next : Program)
    → Reads (instruction.End ∷ flat next ++ items) body → Reads items next
    → around block (programs_of ((flat body ++ instruction.End ∷ flat next) ++ items))
    ≡ block body (followed next (first_of (programs_of items))) ∷ rest_of (programs_of items)
around-flat block items body next inner outer =
    ap (λ (xs : List Instruction). around block (programs_of xs))
    (append_assoc (flat body) (instruction.End ∷ flat next) items)
    ∙ ap (around block) inner
    ∙ ap (λ (ps : List Program). around block (followed body Over ∷ ps)) outer
    ∙ ap (λ (b : Program). block b (followed next (first_of (programs_of items))) ∷ rest_of (programs_of items))
    (followed-over body)

pub programs_of-flat : (items : List Instruction) (p : Program) → Reads items p
programs_of-flat items Over = programs_of-whole items
programs_of-flat items (Call object code with next) =
    ap (in_front (Call object code with)) (programs_of-flat items next)
programs_of-flat items (Set register value next) =
    ap (in_front (Set register value)) (programs_of-flat items next)
programs_of-flat items (Inc register value next) =
    ap (in_front (Inc register value)) (programs_of-flat items next)
programs_of-flat items (Repeat turns body next) =
    around-flat (Repeat turns) items body next (programs_of-flat _ body) (programs_of-flat items next)
programs_of-flat items (While register how value body next) =
    around-flat (While register how value) items body next (programs_of-flat _ body)
    (programs_of-flat items next)
programs_of-flat items (If register how value body next) =
    around-flat (If register how value) items body next (programs_of-flat _ body)
    (programs_of-flat items next)

pub append-nil : (items : List Instruction) → items ++ [] ≡ items
append-nil [] = refl
append-nil (i ∷ items) = ap (λ (xs : List Instruction). i ∷ xs) (append-nil items)

-- a program's instructions spell it
pub program_of-flat : (p : Program) → program_of (flat p) ≡ p
program_of-flat p =
    ap program_of (sym (append-nil (flat p))) ∙ ap first_of (programs_of-flat [] p) ∙ followed-over p
