-- One local instruction: what is left before the next call stays, and less is to be done.
use Rattle.std.proofs.Common.{◌≡◌, ℕ, zero, suc, ◌+◌, ◌<◌, ◌≤◌, ℤ, false, List, [], ◌∷◌, ◌++◌, length, drop, Some, None, refl, ap, sym, ◌∙◌, subst, arith}
use Rattle.std.specs.Prelude.{slice_get}
use Rattle.tm_programs.specs.declared.instructions.Comparison.{Comparison}
use Rattle.tm_programs.specs.declared.instructions.Instruction.{Instruction}
use Rattle.tm_programs.specs.declared.instructions.Instruction.TheVariants as instruction
use Rattle.tm_programs.specs.declared.cursors.OpenBlock.{OpenBlock}
use Rattle.tm_programs.specs.Programs.{Program, Over, Call, Set, Inc, Repeat, While, If, followed}
use Rattle.tm_programs.specs.Instructions.{Block, Loop, Choice, with_call, opened, blocks_after, blocks_of, IsNested, around, programs_of, first_of, rest_of}
use Rattle.tm_programs.specs.BlockLaws.{HasCall}
use Rattle.tm_programs.specs.Running.{programs_at, program_at, after_block, after_blocks, BlockFits, BlocksFit, bound, Opens, IsExit}
use Rattle.tm_programs.proofs.Spelling.{Fit, Owes, goes, nested-fit, opened-some, closed-some}

pub bound-followed : (p q : Program) → bound (followed p q) ≤ bound p + bound q
bound-followed Over q = omega arith
bound-followed (Call object code with next) q = omega arith
bound-followed (Set register value next) q = omega (arith, bound-followed next q)
bound-followed (Inc register value next) q = omega (arith, bound-followed next q)
bound-followed (Repeat turns body next) q = omega (arith, bound-followed next q)
bound-followed (While register how value body next) q = omega (arith, bound-followed next q)
bound-followed (If register how value body next) q = omega (arith, bound-followed next q)

-- what follows a call is not counted
pub bound-HasCall : (p q : Program) → HasCall p → bound (followed p q) ≡ bound p
bound-HasCall Over q has = absurd has
bound-HasCall (Call object code with next) q has = refl
bound-HasCall (Set register value next) q has = ap suc (bound-HasCall next q has)
bound-HasCall (Inc register value next) q has = ap suc (bound-HasCall next q has)
bound-HasCall (Repeat turns body next) q has = ap (λ (n : ℕ). suc (bound body + n)) (bound-HasCall next q has)
bound-HasCall (While register how value body next) q has =
    ap (λ (n : ℕ). suc (bound body + n)) (bound-HasCall next q has)
bound-HasCall (If register how value body next) q has =
    ap (λ (n : ℕ). suc (bound body + n)) (bound-HasCall next q has)

-- the instructions from a place on begin with the one there
pub drop-get : (items : List Instruction) (place : ℕ) (i : Instruction) → slice_get items place ≡ Some i
    → drop place items ≡ i ∷ drop (suc place) items
drop-get [] place i here = absurd (let f : None ≡ Some i = here in cc)
drop-get (j ∷ items) zero i here =
    let f : j ≡ i = (let e : Some j ≡ Some i = here in cc) in ap (λ (x : Instruction). x ∷ items) f
drop-get (j ∷ items) (suc place) i here = drop-get items place i here

pub drop-none : (items : List Instruction) (place : ℕ) → slice_get items place ≡ None → drop place items ≡ []
drop-none [] zero none = refl
drop-none [] (suc place) none = refl
drop-none (j ∷ items) zero none = absurd (let f : Some j ≡ None = none in cc)
drop-none (j ∷ items) (suc place) none = drop-none items place none

module _ (items : List Instruction) where
  pub after_blocks-snoc : (after : Program) (blocks : List OpenBlock) (block : OpenBlock)
      → after_blocks items after (blocks ++ block ∷ []) ≡ after_block items block
      (after_blocks items after blocks)
  after_blocks-snoc after [] block = refl
  after_blocks-snoc after (b ∷ blocks) block = after_blocks-snoc (after_block items b after) blocks block

  pub BlocksFit-snoc : (depth : ℕ) (blocks : List OpenBlock) (block : OpenBlock) (inner : ℕ)
      → inner ≡ depth + length blocks
      → BlocksFit items depth blocks → BlockFits items inner block
      → BlocksFit items depth (blocks ++ block ∷ [])
  BlocksFit-snoc depth [] block inner e fit more =
      (subst (λ (n : ℕ). BlockFits items n block) (let f : inner ≡ depth = omega arith in f) more, tt)
  BlocksFit-snoc depth (b ∷ blocks) block inner e fit more =
      (fit.0, BlocksFit-snoc (suc depth) blocks block inner (omega arith) fit.1 more)

  pub BlocksFit-unsnoc : (depth : ℕ) (blocks : List OpenBlock) (block : OpenBlock) (inner : ℕ)
      → inner ≡ depth + length blocks
      → BlocksFit items depth (blocks ++ block ∷ [])
      → BlocksFit items depth blocks × BlockFits items inner block
  BlocksFit-unsnoc depth [] block inner e fit =
      (tt, subst (λ (n : ℕ). BlockFits items n block) (let f : depth ≡ inner = omega arith in f) fit.0)
  BlocksFit-unsnoc depth (b ∷ blocks) block inner e fit =
      let others =
      BlocksFit-unsnoc (suc depth) blocks block inner (omega arith) fit.1 in ((fit.0, others.0), others.1)

length-with_call : (blocks : List Block) → length (with_call blocks) ≡ length blocks
length-with_call [] = refl
length-with_call (Loop asks ∷ blocks) = refl
length-with_call (Choice ∷ blocks) = refl

opened-room : (block : Block) (blocks now : List Block) → opened block blocks ≡ Some now → length now ≤ 16
opened-room block blocks now e =
    let it =
    opened-some block blocks now e in let f : length now ≡ suc (length blocks) =
    ap length it.1 in omega (arith, it.0)

-- no more blocks are open after an instruction than may be
blocks_after-room : (blocks : List Block) (i : Instruction) (now : List Block)
    → blocks_after blocks i ≡ Some now → length blocks ≤ 16 → length now ≤ 16
blocks_after-room blocks (instruction.Call object code with) now e room =
    let f : with_call blocks ≡ now = cc in omega (arith, ap length f, length-with_call blocks)
blocks_after-room blocks (instruction.Set register value) now e room =
    let f : blocks ≡ now = cc in omega (arith, ap length f)
blocks_after-room blocks (instruction.Inc register value) now e room =
    let f : blocks ≡ now = cc in omega (arith, ap length f)
blocks_after-room blocks (instruction.Repeat turns) now e room = opened-room (Loop false) blocks now e
blocks_after-room blocks (instruction.While register how value) now e room =
    opened-room (Loop false) blocks now e
blocks_after-room blocks (instruction.If register how value) now e room = opened-room Choice blocks now e
blocks_after-room blocks instruction.End now e room =
    let it =
    closed-some blocks now e in let f : length blocks ≡ suc (length now) = ap length it.1 in omega arith

-- the blocks that are open at a place
pub record Open (items : List Instruction) (place : ℕ) : Type 0 where
  pub blocks : List Block
  pub nested : blocks_of blocks (drop place items) ≡ Some []
  pub room : length blocks ≤ 16

pub open_at : (items : List Instruction) (blocks : List Block) (place : ℕ) → blocks_of blocks items ≡ Some []
    → length blocks ≤ 16 → Open items place
open_at items blocks zero nested room = record { blocks = blocks; nested = nested; room = room }
open_at [] blocks (suc place) nested room = record { blocks = blocks; nested = nested; room = room }
open_at (i ∷ items) blocks (suc place) nested room =
    let it = goes blocks i items nested in
    let at = open_at items it.now place it.others (blocks_after-room blocks i it.now it.after room) in
    record { blocks = at.blocks; nested = at.nested; room = at.room }

pub Fit-length : (blocks : List Block) (ps : List Program) → Fit blocks ps → length ps ≡ suc (length blocks)
Fit-length [] [] fit = absurd fit
Fit-length [] (p ∷ []) fit = refl
Fit-length [] (p ∷ q ∷ ps) fit = absurd fit
Fit-length (block ∷ blocks) [] fit = absurd fit
Fit-length (block ∷ blocks) (p ∷ ps) fit = ap suc (Fit-length blocks ps fit.1)

-- a block opens at a place, with its way out
pub record Opened (items : List Instruction) (place exit : ℕ)
    (block : Program → Program → Program) : Type 0 where
  pub whole : program_at items place ≡ block (program_at items (suc place)) (program_at items exit)
  pub out : length (programs_at items exit) ≡ length (programs_at items place)
  pub inside : length (programs_at items (suc place)) ≡ suc (length (programs_at items place))
  pub room : length (programs_at items place) ≤ 16

around-opened : (block : Program → Program
    → Program) (opening : Block) (blocks : List Block) (ps : List Program) → Fit (opening ∷ blocks) ps
    → (first_of (around block ps) ≡ block (first_of ps) (first_of (rest_of ps)))
    × (length (around block ps) ≡ length (rest_of ps)) × (length ps ≡ suc (length (rest_of ps)))
    × (length (rest_of ps) ≡ suc (length blocks)) × Owes opening (first_of ps)
around-opened block opening blocks [] fit = absurd fit
around-opened block opening [] (body ∷ []) fit = absurd fit.1
around-opened block opening (b ∷ blocks) (body ∷ []) fit = absurd fit.1
around-opened block opening blocks (body ∷ next ∷ ps) fit =
    (refl, refl, refl, Fit-length blocks (next ∷ ps) fit.1, fit.0)

opened-from : (items : List Instruction) (place exit : ℕ) (block : Program → Program
    → Program) (opening : Block) (blocks now : List Block)
    → programs_at items place ≡ around block (programs_at items (suc place))
    → opened opening blocks ≡ Some now
    → Fit now (programs_at items (suc place)) → IsExit items place exit
    → Opened items place exit block × Owes opening (program_at items (suc place))
opened-from items place exit block opening blocks now e after fits out =
    let it = opened-some opening blocks now after in
    let fit : Fit (opening ∷ blocks) (programs_at items (suc place)) =
    subst (λ (bs : List Block). Fit bs (programs_at items (suc place))) it.1 fits in
    let facts = around-opened block opening blocks (programs_at items (suc place)) fit in (
      record {
        whole =
            ap first_of e ∙ facts.0
            ∙ ap (λ (ps : List Program). block (program_at items (suc place)) (first_of ps)) (sym out);
        out = ap length out ∙ sym facts.1 ∙ sym (ap length e);
        inside = facts.2 ∙ ap suc (sym facts.1 ∙ sym (ap length e));
        room =
            (let k : length (programs_at items place) ≡ suc (length blocks) = ap length e ∙ facts.1 ∙ facts.3 in
            omega (arith, it.0));
      },
      facts.4,
    )

module _ (items : List Instruction) (nested : IsNested items) (place exit : ℕ) where
  -- the blocks after the instruction at the place
  after_one : (i : Instruction) → slice_get items place ≡ Some i
      → (blocks now : List Block) × (blocks_after blocks i ≡ Some now)
      × (blocks_of now (drop (suc place) items) ≡ Some [])
  after_one i here =
      let at = open_at items [] place nested (omega arith) in
      let it =
      goes at.blocks i (drop (suc place) items)
      (subst (λ (xs : List Instruction). blocks_of at.blocks xs ≡ Some []) (drop-get items place i here)
      at.nested) in
      (at.blocks, it.now, it.after, it.others)

  pub repeat-opened : (turns : ℕ) → slice_get items place ≡ Some (instruction.Repeat turns)
      → IsExit items place exit
      → Opened items place exit (Repeat turns) × HasCall (program_at items (suc place))
  repeat-opened turns here out =
      let it = after_one (instruction.Repeat turns) here in
      opened-from items place exit (Repeat turns) (Loop false) it.0 it.1
      (ap programs_of (drop-get items place _ here)) it.2
      (nested-fit (drop (suc place) items) it.1 it.3) out

  pub while-opened : (register : ℕ) (how : Comparison) (value : ℤ)
      → slice_get items place ≡ Some (instruction.While register how value) → IsExit items place exit
      → Opened items place exit (While register how value) × HasCall (program_at items (suc place))
  while-opened register how value here out =
      let it = after_one (instruction.While register how value) here in
      opened-from items place exit (While register how value) (Loop false) it.0 it.1
      (ap programs_of (drop-get items place _ here)) it.2
      (nested-fit (drop (suc place) items) it.1 it.3) out

  pub if-opened : (register : ℕ) (how : Comparison) (value : ℤ)
      → slice_get items place ≡ Some (instruction.If register how value) → IsExit items place exit
      → Opened items place exit (If register how value)
  if-opened register how value here out =
      let it = after_one (instruction.If register how value) here in
      (opened-from items place exit (If register how value) Choice it.0 it.1
      (ap programs_of (drop-get items place _ here)) it.2
      (nested-fit (drop (suc place) items) it.1 it.3) out).0

-- in a block that opens there is one more
module _ (items : List Instruction) (nested : IsNested items) (place : ℕ) where
  deep : (i : Instruction) (block : Block)
      → ((blocks now : List Block) → blocks_after blocks i ≡ Some now → opened block blocks ≡ Some now)
      → slice_get items place ≡ Some i → 1 < length (programs_at items (suc place))
  deep i block opens here =
      let it = after_one items nested place 0 i here in
      let now : length it.1 ≡ suc (length it.0) =
      ap length (opened-some block it.0 it.1 (opens it.0 it.1 it.2)).1 in
      let fits = nested-fit (drop (suc place) items) it.1 it.3 in
      omega (arith, Fit-length it.1 (programs_at items (suc place)) fits)

  pub opens-deep : (i : Instruction) → slice_get items place ≡ Some i → Opens i
      → 1 < length (programs_at items (suc place))
  opens-deep (instruction.Repeat turns) here opens = deep _ (Loop false) (λ blocks now e. e) here
  opens-deep (instruction.While register how value) here opens = deep _ (Loop false) (λ blocks now e. e) here
  opens-deep (instruction.If register how value) here opens = deep _ Choice (λ blocks now e. e) here
  opens-deep (instruction.Call object code with) here opens = absurd opens
  opens-deep (instruction.Set register value) here opens = absurd opens
  opens-deep (instruction.Inc register value) here opens = absurd opens
  opens-deep instruction.End here opens = absurd opens

-- no more blocks are open at a place than may be
pub depth_room : (items : List Instruction) → IsNested items → (place : ℕ)
    → length (programs_at items place) ≤ 17
depth_room items nested place =
    let at = open_at items [] place nested (omega arith) in
    let e =
    Fit-length at.blocks (programs_at items place)
    (nested-fit (drop place items) at.blocks at.nested) in omega (arith, at.room)

-- a list that is not empty has a last item
pub last_split : {A : Type 0} (xs : List A) → 0 < length xs
    → (front : List A) × (x : A) × (xs ≡ front ++ x ∷ [])
last_split [] some = absurd (omega arith)
last_split (x ∷ []) some = ([], x, refl)
last_split {A} (x ∷ y ∷ xs) some =
    let it = last_split (y ∷ xs) (omega arith) in (x ∷ it.0, it.1, ap (λ (ys : List A). x ∷ ys) it.2)
