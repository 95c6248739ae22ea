-- Programs and their instructions: each gives the other.
use Rattle.std.proofs.Common.{◌≡◌, ℕ, ◌<◌, Bool, true, false, List, [], ◌∷◌, ◌++◌, length, Option, Some, None, refl, ap, sym, ◌∙◌, subst, append_assoc}
use Rattle.std.specs.Prelude.{option_and_then, nat_lt, if◌then◌else◌, ℤ}
use borrow.Author.Tests.{ltb-true}
use Rattle.tm_base.specs.declared.opcodes.Opcode.{Opcode}
use Rattle.tm_programs.specs.declared.instructions.Comparison.{Comparison}
use Rattle.tm_programs.specs.declared.instructions.Operand.{Operand}
use Rattle.tm_programs.specs.declared.limits.TheConstants.{MOST_BLOCKS}
use Rattle.tm_programs.specs.declared.instructions.Instruction.{Instruction}
use Rattle.tm_programs.specs.declared.instructions.Instruction.TheVariants as instruction
use Rattle.tm_programs.specs.Programs.{Program, Over, Call, Set, Inc, Repeat, While, If}
use Rattle.tm_programs.specs.Instructions.{flat, Block, Loop, Choice, with_call, opened, closed, blocks_after, blocks_of, IsNested, in_front, around, programs_of, first_of, program_of}
use Rattle.tm_programs.specs.BlockLaws.{HasCall}
use Rattle.tm_programs.specs.Spelled.{append-nil}

-- the program of an open block has the call that the block lacks so far
abbrev pub Owes : Block → Program → Type 0
Owes (Loop false) p = HasCall p
Owes other p = Unit {0}

-- programs of these open blocks, and one more for the whole
abbrev pub Fit : List Block → List Program → Type 0
Fit blocks [] = ⊥
Fit [] (p ∷ []) = Unit {0}
Fit [] (p ∷ q ∷ ps) = ⊥
Fit (block ∷ blocks) (p ∷ ps) = Owes block p × Fit blocks ps

-- the open blocks after an instruction, where it may stand there and the others after it
pub record Goes (blocks : List Block) (i : Instruction) (items : List Instruction) : Type 0 where
  pub now : List Block
  pub after : blocks_after blocks i ≡ Some now
  pub others : blocks_of now items ≡ Some []

goes-some : (after : Option (List Block)) (items : List Instruction)
    → option_and_then (λ (now : List Block). blocks_of now items) after ≡ Some []
    → (now : List Block) × (after ≡ Some now) × (blocks_of now items ≡ Some [])
goes-some None items nested = absurd (let e : None ≡ Some [] = nested in cc)
goes-some (Some now) items nested = (now, refl, nested)

pub goes : (blocks : List Block) (i : Instruction) (items : List Instruction)
    → blocks_of blocks (i ∷ items) ≡ Some [] → Goes blocks i items
goes blocks i items nested =
    let it =
    goes-some (blocks_after blocks i) items nested in record { now = it.0; after = it.1; others = it.2 }

if-some : (test : Bool) (to now : List Block) → (if test then Some to else None) ≡ Some now
    → (test ≡ true) × (now ≡ to)
if-some true to now e = (refl, cc)
if-some false to now e = absurd (let f : None ≡ Some now = e in cc)

-- a block is opened where there is room for it
pub opened-some : (block : Block) (blocks now : List Block) → opened block blocks ≡ Some now
    → (length blocks < 16) × (now ≡ block ∷ blocks)
opened-some block blocks now e =
    let it = if-some (nat_lt (length blocks) MOST_BLOCKS) (block ∷ blocks) now e in (ltb-true _ _ it.0, it.1)

-- the innermost block is closed
pub closed-some : (blocks now : List Block) → closed blocks ≡ Some now
    → (block : Block) × (blocks ≡ block ∷ now) × Owes block Over
closed-some [] now e = absurd (let f : None ≡ Some now = e in cc)
closed-some (Loop false ∷ blocks) now e = absurd (let f : None ≡ Some now = e in cc)
closed-some (Loop true ∷ blocks) now e = (Loop true, cc, tt)
closed-some (Choice ∷ blocks) now e = (Choice, cc, tt)

-- an instruction in front, where a block that owed a call before owes it now, or it is one
Fit-in_front : (one : Program → Program) (blocks : List Block) (ps : List Program)
    → ((block : Block) (p : Program) → Owes block p → Owes block (one p))
    → Fit blocks ps → Fit blocks (in_front one ps)
Fit-in_front one [] [] keeps fit = absurd fit
Fit-in_front one [] (p ∷ []) keeps fit = tt
Fit-in_front one [] (p ∷ q ∷ ps) keeps fit = absurd fit
Fit-in_front one (block ∷ blocks) [] keeps fit = absurd fit
Fit-in_front one (block ∷ blocks) (p ∷ ps) keeps fit = (keeps block p fit.0, fit.1)

Owes-call : (object : ℕ) (code : Opcode) (with : Operand) (block : Block) (p : Program)
    → Owes block (Call object code with p)
Owes-call object code with (Loop false) p = tt
Owes-call object code with (Loop true) p = tt
Owes-call object code with Choice p = tt

Fit-call : (object : ℕ) (code : Opcode) (with : Operand) (blocks : List Block) (ps : List Program)
    → Fit (with_call blocks) ps
    → Fit blocks (in_front (Call object code with) ps)
Fit-call object code with [] [] fit = absurd fit
Fit-call object code with [] (p ∷ []) fit = tt
Fit-call object code with [] (p ∷ q ∷ ps) fit = absurd fit
Fit-call object code with (Loop asks ∷ blocks) [] fit = absurd fit
Fit-call object code with (Loop asks ∷ blocks) (p ∷ ps) fit =
    (Owes-call object code with (Loop asks) p, fit.1)
Fit-call object code with (Choice ∷ blocks) [] fit = absurd fit
Fit-call object code with (Choice ∷ blocks) (p ∷ ps) fit = (tt, fit.1)

Fit-around : (block : Program → Program → Program) (opening : Block) (blocks : List Block) (ps : List Program)
    → ((owed : Block) (body next : Program) → Owes owed next → Owes owed (block body next))
    → Fit (opening ∷ blocks) ps → Fit blocks (around block ps)
Fit-around block opening blocks [] keeps fit = absurd fit
Fit-around block opening [] (body ∷ []) keeps fit = absurd fit.1
Fit-around block opening [] (body ∷ next ∷ []) keeps fit = tt
Fit-around block opening [] (body ∷ next ∷ p ∷ ps) keeps fit = absurd fit.1
Fit-around block opening (owed ∷ blocks) (body ∷ []) keeps fit = absurd fit.1
Fit-around block opening (owed ∷ blocks) (body ∷ next ∷ ps) keeps fit =
    (keeps owed body next fit.1.0, fit.1.1)

Owes-set : (register : ℕ) (value : ℤ) (block : Block) (p : Program) → Owes block p
    → Owes block (Set register value p)
Owes-set register value (Loop false) p owed = owed
Owes-set register value (Loop true) p owed = tt
Owes-set register value Choice p owed = tt

Owes-inc : (register : ℕ) (value : ℤ) (block : Block) (p : Program) → Owes block p
    → Owes block (Inc register value p)
Owes-inc register value (Loop false) p owed = owed
Owes-inc register value (Loop true) p owed = tt
Owes-inc register value Choice p owed = tt

Owes-repeat : (turns : ℕ) (block : Block) (body next : Program) → Owes block next
    → Owes block (Repeat turns body next)
Owes-repeat turns (Loop false) body next owed = owed
Owes-repeat turns (Loop true) body next owed = tt
Owes-repeat turns Choice body next owed = tt

Owes-while : (register : ℕ) (how : Comparison) (value : ℤ) (block : Block) (body next : Program)
    → Owes block next → Owes block (While register how value body next)
Owes-while register how value (Loop false) body next owed = owed
Owes-while register how value (Loop true) body next owed = tt
Owes-while register how value Choice body next owed = tt

Owes-if : (register : ℕ) (how : Comparison) (value : ℤ) (block : Block) (body next : Program)
    → Owes block next → Owes block (If register how value body next)
Owes-if register how value (Loop false) body next owed = owed
Owes-if register how value (Loop true) body next owed = tt
Owes-if register how value Choice body next owed = tt

-- a block opens: the programs fit the blocks with it
pub opens : (block : Block) (blocks now : List Block) (ps : List Program) → opened block blocks ≡ Some now
    → Fit now ps → Fit (block ∷ blocks) ps
opens block blocks now ps e fit =
    subst (λ (bs : List Block). Fit bs ps) (opened-some block blocks now e).1 fit

-- the programs of nested instructions fit the open blocks
pub nested-fit : (items : List Instruction) (blocks : List Block) → blocks_of blocks items ≡ Some []
    → Fit blocks (programs_of items)
nested-fit [] blocks nested =
    subst (λ (bs : List Block). Fit bs (Over ∷ [])) (let e : [] ≡ blocks = cc in e) tt
nested-fit (instruction.Call object code with ∷ items) blocks nested =
    Fit-call object code with blocks (programs_of items) (nested-fit items (with_call blocks) nested)
nested-fit (instruction.Set register value ∷ items) blocks nested =
    Fit-in_front (Set register value) blocks (programs_of items) (Owes-set register value)
    (nested-fit items blocks nested)
nested-fit (instruction.Inc register value ∷ items) blocks nested =
    Fit-in_front (Inc register value) blocks (programs_of items) (Owes-inc register value)
    (nested-fit items blocks nested)
nested-fit (instruction.Repeat turns ∷ items) blocks nested =
    let it = goes blocks (instruction.Repeat turns) items nested in
    Fit-around (Repeat turns) (Loop false) blocks (programs_of items) (Owes-repeat turns)
    (opens (Loop false) blocks it.now _ it.after (nested-fit items it.now it.others))
nested-fit (instruction.While register how value ∷ items) blocks nested =
    let it = goes blocks (instruction.While register how value) items nested in
    Fit-around (While register how value) (Loop false) blocks (programs_of items)
    (Owes-while register how value)
    (opens (Loop false) blocks it.now _ it.after (nested-fit items it.now it.others))
nested-fit (instruction.If register how value ∷ items) blocks nested =
    let it = goes blocks (instruction.If register how value) items nested in
    Fit-around (If register how value) Choice blocks (programs_of items) (Owes-if register how value)
    (opens Choice blocks it.now _ it.after (nested-fit items it.now it.others))
nested-fit (instruction.End ∷ items) blocks nested =
    let it = goes blocks instruction.End items nested in
    let was = closed-some blocks it.now it.after in
    subst (λ (bs : List Block). Fit bs (Over ∷ programs_of items)) (sym was.1)
    (was.2, nested-fit items it.now it.others)

-- the instructions of programs, with an end between one and the next
abbrev pub ends_of : List Program → List Instruction
ends_of [] = []
ends_of (p ∷ ps) = instruction.End ∷ flat p ++ ends_of ps

abbrev pub flats : List Program → List Instruction
flats [] = []
flats (p ∷ ps) = flat p ++ ends_of ps

flats-ends : (blocks : List Block) (ps : List Program) → Fit blocks ps
    → instruction.End ∷ flats ps ≡ ends_of ps
flats-ends [] [] fit = absurd fit
flats-ends (block ∷ blocks) [] fit = absurd fit
flats-ends blocks (p ∷ ps) fit = refl

flats-in_front : (one : Program → Program) (i : Instruction) → ((p : Program) → flat (one p) ≡ i ∷ flat p)
    → (blocks : List Block) (ps : List Program) → Fit blocks ps
    → flats (in_front one ps) ≡ i ∷ flats ps
flats-in_front one i spelled [] [] fit = absurd fit
flats-in_front one i spelled (block ∷ blocks) [] fit = absurd fit
flats-in_front one i spelled blocks (p ∷ ps) fit =
    ap (λ (xs : List Instruction). xs ++ ends_of ps) (spelled p)

flats-around : (block : Program → Program → Program) (i : Instruction)
    → ((body next : Program) → flat (block body next) ≡ i ∷ flat body ++ instruction.End ∷ flat next)
    → (opening : Block) (blocks : List Block) (ps : List Program) → Fit (opening ∷ blocks) ps
    → flats (around block ps) ≡ i ∷ flats ps
flats-around block i spelled opening blocks [] fit = absurd fit
flats-around block i spelled opening [] (body ∷ []) fit = absurd fit.1
flats-around block i spelled opening (owed ∷ blocks) (body ∷ []) fit = absurd fit.1
flats-around block i spelled opening blocks (body ∷ next ∷ ps) fit =
    ap (λ (xs : List Instruction). xs ++ ends_of ps) (spelled body next)
    ∙ ap (λ (xs : List Instruction). i ∷ xs)
    (append_assoc (flat body) (instruction.End ∷ flat next) (ends_of ps))

-- nested instructions are those of the programs that they spell
pub flats-nested : (items : List Instruction) (blocks : List Block) → blocks_of blocks items ≡ Some []
    → flats (programs_of items) ≡ items
flats-nested [] blocks nested = refl
flats-nested (instruction.Call object code with ∷ items) blocks nested =
    flats-in_front (Call object code with) _ (λ p. refl) (with_call blocks) (programs_of items)
    (nested-fit items (with_call blocks) nested)
    ∙ ap (λ (xs : List Instruction). instruction.Call object code with ∷ xs)
    (flats-nested items (with_call blocks) nested)
flats-nested (instruction.Set register value ∷ items) blocks nested =
    flats-in_front (Set register value) _ (λ p. refl) blocks (programs_of items)
    (nested-fit items blocks nested)
    ∙ ap (λ (xs : List Instruction). instruction.Set register value ∷ xs) (flats-nested items blocks nested)
flats-nested (instruction.Inc register value ∷ items) blocks nested =
    flats-in_front (Inc register value) _ (λ p. refl) blocks (programs_of items)
    (nested-fit items blocks nested)
    ∙ ap (λ (xs : List Instruction). instruction.Inc register value ∷ xs) (flats-nested items blocks nested)
flats-nested (instruction.Repeat turns ∷ items) blocks nested =
    let it = goes blocks (instruction.Repeat turns) items nested in
    flats-around (Repeat turns) _ (λ body next. refl) (Loop false) blocks (programs_of items)
    (opens (Loop false) blocks it.now _ it.after (nested-fit items it.now it.others))
    ∙ ap (λ (xs : List Instruction). instruction.Repeat turns ∷ xs) (flats-nested items it.now it.others)
flats-nested (instruction.While register how value ∷ items) blocks nested =
    let it = goes blocks (instruction.While register how value) items nested in
    flats-around (While register how value) _ (λ body next. refl) (Loop false) blocks (programs_of items)
    (opens (Loop false) blocks it.now _ it.after (nested-fit items it.now it.others))
    ∙ ap (λ (xs : List Instruction). instruction.While register how value ∷ xs)
    (flats-nested items it.now it.others)
flats-nested (instruction.If register how value ∷ items) blocks nested =
    let it = goes blocks (instruction.If register how value) items nested in
    flats-around (If register how value) _ (λ body next. refl) Choice blocks (programs_of items)
    (opens Choice blocks it.now _ it.after (nested-fit items it.now it.others))
    ∙ ap (λ (xs : List Instruction). instruction.If register how value ∷ xs)
    (flats-nested items it.now it.others)
flats-nested (instruction.End ∷ items) blocks nested =
    let it = goes blocks instruction.End items nested in
    sym (flats-ends it.now (programs_of items) (nested-fit items it.now it.others))
    ∙ ap (λ (xs : List Instruction). instruction.End ∷ xs) (flats-nested items it.now it.others)

flats-one : (ps : List Program) → Fit [] ps → flats ps ≡ flat (first_of ps)
flats-one [] fit = absurd fit
flats-one (p ∷ []) fit = append-nil (flat p)
flats-one (p ∷ q ∷ ps) fit = absurd fit

pub flat-program_of : (items : List Instruction) → IsNested items → flat (program_of items) ≡ items
flat-program_of items nested =
    sym (flats-one (programs_of items) (nested-fit items [] nested)) ∙ flats-nested items [] nested
