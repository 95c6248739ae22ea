-- The steps of a cursor.
use Rattle.std.proofs.Common.{◌≡◌, ℕ, zero, suc, ◌+◌, ◌-◌, ◌*◌, ◌<◌, ◌≤◌, ℤ, Bool, true, false, List, [], ◌∷◌, ◌++◌, length, drop, Option, Some, None, slice_set, refl, ap, sym, ◌∙◌, subst, arith, length-append}
use Rattle.std.specs.Prelude.{slice_get, is_some}
use Rattle.std.proofs.lemmas.Bool.{false≢true}
use Rattle.tm_base.specs.declared.opcodes.Opcode.{Opcode}
use Rattle.tm_base.specs.declared.replies.Reply.{Reply}
use Rattle.tm_base.specs.declared.asks.Ask.TheVariants as ask
use Rattle.tm_programs.specs.declared.instructions.Comparison.{Comparison}
use Rattle.tm_programs.specs.declared.instructions.Operand.{Operand}
use Rattle.tm_programs.specs.declared.instructions.Instruction.{Instruction}
use Rattle.tm_programs.specs.declared.instructions.Instruction.TheVariants as instruction
use Rattle.tm_programs.specs.declared.cursors.OpenBlock.{OpenBlock}
use Rattle.tm_programs.specs.declared.cursors.OpenBlock.TheVariants as open_block
use Rattle.tm_programs.specs.declared.cursors.Cursor.{Cursor}
use Rattle.tm_programs.specs.Programs.{Program, Over, Call, Set, Inc, Repeat, While, If, followed, holds, register_of, until_call, left, left_after, registers_after, next_ask, op_of, added}
use Rattle.tm_programs.specs.Instructions.{IsNested, in_front, around, programs_of, first_of, rest_of, program_of}
use Rattle.tm_programs.specs.BlockLaws.{HasCall}
use Rattle.tm_programs.specs.Running.{programs_at, program_at, after_block, after_blocks, program_left, BlockFits, BlocksFit, Stands, IsAsking, IsResting, Opens, bound, Steps, moved, with_registers, with_blocks, entered, repeated, chosen, left_block}
use Rattle.tm_programs.proofs.Following.{repeats_unfold, while-true, while-false, if-true, if-false}
use Rattle.tm_programs.specs.Spelled.{programs_of-whole, followed-over}
use Rattle.tm_programs.proofs.Spelling.{nested-fit}
use Rattle.tm_programs.proofs.Stepping.{bound-followed, bound-HasCall, drop-get, drop-none, after_blocks-snoc, BlocksFit-snoc, BlocksFit-unsnoc, Opened, Fit-length, depth_room, opens-deep}
use Rattle.tm_programs.proofs.Exits.{opens-rest}

-- an instruction that opens met block and ends none comes first, and leaves the depth
in_front-facts : (one : Program → Program) (ps : List Program) → ps ≡ first_of ps ∷ rest_of ps
    → (first_of (in_front one ps) ≡ one (first_of ps)) × (length (in_front one ps) ≡ length ps)
in_front-facts one [] e = (refl, ap length (sym e))
in_front-facts one (p ∷ ps) e = (refl, refl)

length-rest : (ps : List Program) → length (rest_of ps) ≡ length ps - 1
length-rest [] = omega arith
length-rest (p ∷ ps) = omega arith

module _ (items : List Instruction) where
  -- what is left at the end of the innermost block
  abbrev pub after : Cursor → Program
  after c = after_blocks items Over c.blocks.items

  steps-by : (c d : Cursor) (X Y : Program) → program_left items d ≡ X → program_left items c ≡ Y
      → until_call X d.registers ≡ until_call Y c.registers → Stands items d
      → 2 * bound X + length d.blocks.items < 2 * bound Y + length c.blocks.items → Steps items c d
  steps-by c d X Y e f same stands falls =
      record {
        same =
            ap (λ (p : Program). until_call p d.registers) e ∙ same
            ∙ sym (ap (λ (p : Program). until_call p c.registers) f);
        stands = stands;
        falls = omega (arith, ap bound e, ap bound f);
      }

  -- the program at a place by its first instruction
  at-front : (one : Program → Program) (place : ℕ)
      → programs_at items place ≡ in_front one (programs_at items (suc place))
      → (program_at items place ≡ one (program_at items (suc place)))
      × (length (programs_at items place) ≡ length (programs_at items (suc place)))
  at-front one place e =
      let facts =
      in_front-facts one (programs_at items (suc place)) (programs_of-whole (drop (suc place) items)) in
      (ap first_of e ∙ facts.0, ap length e ∙ facts.1)

  stands-next : (c d : Cursor) → length (programs_at items c.place) ≡ length (programs_at items d.place)
      → d.blocks.items ≡ c.blocks.items
      → Stands items c → Stands items d
  stands-next c d e same stands =
      record {
        depth = sym e ∙ stands.depth ∙ ap (λ (bs : List OpenBlock). suc (length bs)) (sym same);
        blocks = subst (λ (bs : List OpenBlock). BlocksFit items 0 bs) (sym same) stands.blocks;
      }

  pub set-steps : (c : Cursor) (register : ℕ) (value : ℤ)
      → slice_get items c.place ≡ Some (instruction.Set register value) → Stands items c
      → Steps items c (moved (suc c.place) (with_registers (slice_set c.registers register value) c))
  set-steps c register value here stands =
      let d = moved (suc c.place) (with_registers (slice_set c.registers register value) c) in
      let facts = at-front (Set register value) c.place (ap programs_of (drop-get items c.place _ here)) in
      steps-by c d (followed (program_at items d.place) (after d))
      (Set register value (followed (program_at items d.place) (after d))) refl
      (ap (λ (p : Program). followed p (after c)) facts.0) refl (stands-next c d facts.1 refl stands)
      (omega arith)

  pub inc-steps : (c : Cursor) (register : ℕ) (value : ℤ)
      → slice_get items c.place ≡ Some (instruction.Inc register value) → Stands items c
      → Steps items c (moved (suc c.place) (with_registers (added register value c.registers) c))
  inc-steps c register value here stands =
      let d = moved (suc c.place) (with_registers (added register value c.registers) c) in
      let facts = at-front (Inc register value) c.place (ap programs_of (drop-get items c.place _ here)) in
      steps-by c d (followed (program_at items d.place) (after d))
      (Inc register value (followed (program_at items d.place) (after d))) refl
      (ap (λ (p : Program). followed p (after c)) facts.0) refl (stands-next c d facts.1 refl stands)
      (omega arith)

  -- what is left in a block that is gone into
  entered-left : (c : Cursor) (body : ℕ) (block : OpenBlock)
      → program_left items (entered body block c)
      ≡ followed (program_at items body) (after_block items block (after c))
  entered-left c body block =
      ap (followed (program_at items body)) (after_blocks-snoc items Over c.blocks.items block)

  entered-stands : (c : Cursor) (body : ℕ) (block : OpenBlock) → BlocksFit items 0 c.blocks.items
      → BlockFits items (length c.blocks.items) block
      → length (programs_at items body) ≡ suc (suc (length c.blocks.items))
      → Stands items (entered body block c)
  entered-stands c body block fit more deep =
      record {
        depth =
            (let k : length (c.blocks.items ++ block ∷ []) ≡ suc (length c.blocks.items) =
            omega (arith, length-append c.blocks.items (block ∷ [])) in
            deep ∙ ap suc (sym k));
        blocks = BlocksFit-snoc items 0 c.blocks.items block (length c.blocks.items) (omega arith) fit more;
      }

  -- the first of so many turns of a body, or what follows the last
  repeated-steps : (old c : Cursor) (turns body next : ℕ)
      → program_left items old
      ≡ Repeat turns (program_at items body) (followed (program_at items next) (after c))
      → old.registers ≡ c.registers → length c.blocks.items ≤ length old.blocks.items
      → BlocksFit items 0 c.blocks.items
      → BlockFits items (length c.blocks.items) (open_block.Turns turns body next)
      → Steps items old (repeated turns body next c)
  repeated-steps old c zero body next e registers deeper fit more =
      let X = followed (program_at items next) (after c) in
      steps-by old (moved next c) X (Repeat 0 (program_at items body) X) refl e
      (ap (until_call X) (sym registers))
      (record { depth = more.0; blocks = fit }) (omega arith)
  repeated-steps old c (suc turns) body next e registers deeper fit more =
      let b = program_at items body in
      let n = followed (program_at items next) (after c) in
      let block = open_block.Turns turns body next in
      steps-by old (entered body block c) (followed b (Repeat turns b n)) (Repeat (suc turns) b n)
      (entered-left c body block) e
      (sym (repeats_unfold turns b n c.registers more.2)
      ∙ ap (until_call (Repeat (suc turns) b n)) (sym registers))
      (entered-stands c body block fit more more.1)
      (omega (arith, bound-HasCall b (Repeat turns b n) more.2, length-append c.blocks.items (block ∷ [])))

  module _ (c : Cursor) (exit : ℕ) (stands : Stands items c) where
    -- the program at a block that opens, and what follows it
    opened-left : (block : Program → Program → Program) → Opened items c.place exit block
        → program_left items c
        ≡ followed (block (program_at items (suc c.place)) (program_at items exit)) (after c)
    opened-left block opened = ap (λ (p : Program). followed p (after c)) opened.whole

    pub repeat-steps : (turns : ℕ) → Opened items c.place exit (Repeat turns)
        → HasCall (program_at items (suc c.place))
        → Steps items c (repeated turns (suc c.place) exit c)
    repeat-steps turns opened has =
        repeated-steps c c turns (suc c.place) exit (opened-left (Repeat turns) opened) refl
        (omega arith) stands.blocks
        (opened.out ∙ stands.depth, opened.inside ∙ ap suc stands.depth, has)

    -- past a block
    out-stands : (block : Program → Program → Program) → Opened items c.place exit block
        → Stands items (moved exit c)
    out-stands block opened = stands-next c (moved exit c) (sym opened.out) refl stands

    module _ (register : ℕ) (how : Comparison) (value : ℤ) where
      while-steps : Opened items c.place exit (While register how value)
          → HasCall (program_at items (suc c.place))
          → holds how (register_of c.registers register) value ≡ true
          → Steps items c (entered (suc c.place) (open_block.Once c.place) c)
      while-steps opened has met =
          let b = program_at items (suc c.place) in
          let n = followed (program_at items exit) (after c) in
          let loop = While register how value b n in
          let block = open_block.Once c.place in
          steps-by c (entered (suc c.place) block c) (followed b loop) loop
          (entered-left c (suc c.place) block ∙ ap (followed b) (opened-left (While register how value) opened))
          (opened-left (While register how value) opened)
          (while-true register how value b n c.registers has met)
          (entered-stands c (suc c.place) block stands.blocks stands.depth
          (opened.inside ∙ ap suc stands.depth))
          (omega (arith, bound-HasCall b loop has, length-append c.blocks.items (block ∷ [])))

      while-over : Opened items c.place exit (While register how value)
          → HasCall (program_at items (suc c.place))
          → holds how (register_of c.registers register) value ≡ false → Steps items c (moved exit c)
      while-over opened has missed =
          let b = program_at items (suc c.place) in
          let n = followed (program_at items exit) (after c) in
          let loop = While register how value b n in
          steps-by c (moved exit c) n loop refl (opened-left (While register how value) opened)
          (while-false register how value b n c.registers has missed)
          (out-stands (While register how value) opened) (omega arith)

      if-steps : Opened items c.place exit (If register how value)
          → holds how (register_of c.registers register) value ≡ true
          → Steps items c (entered (suc c.place) (open_block.Once exit) c)
      if-steps opened met =
          let b = program_at items (suc c.place) in
          let n = followed (program_at items exit) (after c) in
          let block = open_block.Once exit in
          steps-by c (entered (suc c.place) block c) (followed b n) (If register how value b n)
          (entered-left c (suc c.place) block) (opened-left (If register how value) opened)
          (if-true register how value b n c.registers met)
          (entered-stands c (suc c.place) block stands.blocks (opened.out ∙ stands.depth)
          (opened.inside ∙ ap suc stands.depth))
          (omega (arith, bound-followed b n, length-append c.blocks.items (block ∷ [])))

      if-over : Opened items c.place exit (If register how value)
          → holds how (register_of c.registers register) value ≡ false → Steps items c (moved exit c)
      if-over opened missed =
          let b = program_at items (suc c.place) in
          let n = followed (program_at items exit) (after c) in
          steps-by c (moved exit c) n (If register how value b n) refl
          (opened-left (If register how value) opened)
          (if-false register how value b n c.registers missed)
          (out-stands (If register how value) opened) (omega arith)

      pub while-chosen : (b : Bool) → b ≡ holds how (register_of c.registers register) value
          → Opened items c.place exit (While register how value)
          → HasCall (program_at items (suc c.place)) → Steps items c (chosen b (suc c.place) c.place exit c)
      while-chosen true e opened has = while-steps opened has (sym e)
      while-chosen false e opened has = while-over opened has (sym e)

      pub if-chosen : (b : Bool) → b ≡ holds how (register_of c.registers register) value
          → Opened items c.place exit (If register how value)
          → Steps items c (chosen b (suc c.place) exit exit c)
      if-chosen true e opened = if-steps opened (sym e)
      if-chosen false e opened = if-over opened (sym e)

  left-steps : (c : Cursor) (blocks : List OpenBlock) (block : OpenBlock)
      → program_left items c ≡ after_block items block (after_blocks items Over blocks)
      → length c.blocks.items ≡ suc (length blocks) → BlocksFit items 0 blocks
      → BlockFits items (length blocks) block
      → Steps items c (left_block block (with_blocks blocks c))
  left-steps c blocks (open_block.Once next) e deep fit more =
      steps-by c (moved next (with_blocks blocks c)) _ _ refl e refl (record { depth = more; blocks = fit })
      (omega arith)
  left-steps c blocks (open_block.Turns turns body next) e deep fit more =
      repeated-steps c (with_blocks blocks c) turns body next e refl (omega arith) fit more

  -- at the end of a block there is one
  pub end-open : (c : Cursor) → slice_get items c.place ≡ Some instruction.End → Stands items c
      → 0 < length c.blocks.items
  end-open c here stands =
      let e : length (programs_at items c.place) ≡ suc (length (programs_at items (suc c.place))) =
      ap (λ (xs : List Instruction). length (programs_of xs)) (drop-get items c.place _ here) in
      let others = programs_at items (suc c.place) in
      let f : length others ≡ suc (length (rest_of others)) =
      ap length (programs_of-whole (drop (suc c.place) items)) in
      omega (arith, stands.depth)

  pub end-steps : (c : Cursor) (blocks : List OpenBlock) (block : OpenBlock)
      → slice_get items c.place ≡ Some instruction.End → Stands items c
      → c.blocks.items ≡ blocks ++ block ∷ [] → Steps items c (left_block block (with_blocks blocks c))
  end-steps c blocks block here stands e =
      let fits =
      BlocksFit-unsnoc items 0 blocks block (length blocks) (omega arith)
      (subst (λ (bs : List OpenBlock). BlocksFit items 0 bs) e stands.blocks) in
      left-steps c blocks block
      (ap (λ (xs : List Instruction). followed (first_of (programs_of xs)) (after c))
      (drop-get items c.place _ here)
      ∙ ap (after_blocks items Over) e ∙ after_blocks-snoc items Over blocks block)
      (omega (arith, ap length e, length-append blocks (block ∷ []))) fits.0 fits.1

  -- there is room for a block that opens
  pub enter-room : (c : Cursor) → IsNested items → (i : Instruction) → slice_get items c.place ≡ Some i
      → Opens i
      → Stands items c → length c.blocks.items < 16
  enter-room c nested i here opens stands =
      let inside = programs_at items (suc c.place) in
      let one : length (rest_of (programs_at items c.place)) ≡ length (rest_of (rest_of inside)) =
      ap length (opens-rest items c.place i here opens) in
      let room : length inside ≤ 17 = depth_room items nested (suc c.place) in
      let deep : 1 < length inside = opens-deep items nested c.place i here opens in
      omega (arith, length-rest (programs_at items c.place), length-rest inside, length-rest (rest_of inside), stands.depth)

  -- past a call
  pub call-facts : (c : Cursor) (object : ℕ) (code : Opcode) (with : Operand)
      → slice_get items c.place ≡ Some (instruction.Call object code with)
      → program_left items c ≡ Call object code with (followed (program_at items (suc c.place)) (after c))
  call-facts c object code with here =
      ap (λ (p : Program). followed p (after c))
      (at-front (Call object code with) c.place (ap programs_of (drop-get items c.place _ here))).0

  pub call-stands : (c : Cursor) (registers : List ℤ) (object : ℕ) (code : Opcode) (with : Operand)
      → slice_get items c.place ≡ Some (instruction.Call object code with)
      → Stands items c → Stands items (moved (suc c.place) (with_registers registers c))
  call-stands c registers object code with here stands =
      stands-next c (moved (suc c.place) (with_registers registers c))
      (at-front (Call object code with) c.place (ap programs_of (drop-get items c.place _ here))).1
      refl stands

  blocks-none : (blocks : List OpenBlock) → 1 ≡ suc (length blocks) → blocks ≡ []
  blocks-none [] e = refl
  blocks-none (b ∷ blocks) e = absurd (omega arith)

  -- past the last instruction it is over
  pub over-left : (c : Cursor) → slice_get items c.place ≡ None → Stands items c → program_left items c ≡ Over
  over-left c none stands =
      let d = drop-none items c.place none in
      let e =
      blocks-none c.blocks.items
      (ap (λ (xs : List Instruction). length (programs_of xs)) (sym d) ∙ stands.depth) in
      ap (λ (xs : List Instruction). followed (first_of (programs_of xs)) (after c)) d
      ∙ ap (after_blocks items Over) e

  settled-at : (c : Cursor) (i : Option Instruction) → slice_get items c.place ≡ i → IsAsking i
      → Stands items c
      → until_call (program_left items c) c.registers ≡ left (program_left items c) c.registers
  settled-at c None here asking stands = rw (over-left c here stands)
  settled-at c (Some (instruction.Call object code with)) here asking stands =
      rw (call-facts c object code with here)
  settled-at c (Some (instruction.Set register value)) here asking stands = absurd asking
  settled-at c (Some (instruction.Inc register value)) here asking stands = absurd asking
  settled-at c (Some (instruction.Repeat turns)) here asking stands = absurd asking
  settled-at c (Some (instruction.While register how value)) here asking stands = absurd asking
  settled-at c (Some (instruction.If register how value)) here asking stands = absurd asking
  settled-at c (Some instruction.End) here asking stands = absurd asking

  -- at a call or at the end nothing local is to be done
  pub settled : (c : Cursor) → IsAsking (slice_get items c.place) → Stands items c
      → until_call (program_left items c) c.registers ≡ left (program_left items c) c.registers
  settled c asking stands = settled-at c (slice_get items c.place) refl asking stands

  -- a reply at a call goes to its register, and what follows the call is left
  pub accept-call : (c : Cursor) (last : Option Reply) (answer : Reply) (object : ℕ) (code : Opcode)
      (with : Operand) → is_some last ≡ true
      → slice_get items c.place ≡ Some (instruction.Call object code with)
      → until_call (program_left items (moved (suc c.place) c))
      (registers_after code with answer c.registers) ≡ left_after last
      (program_left items c) c.registers answer
  accept-call c None answer object code with some here = absurd (false≢true some)
  accept-call c (Some before) answer object code with some here = rw (call-facts c object code with here)

  -- a reply at the end changes nothing
  pub accept-over : (c : Cursor) (last : Option Reply) (answer : Reply) → slice_get items c.place ≡ None
      → Stands items c
      → until_call (program_left items c) c.registers ≡ left_after last
      (program_left items c) c.registers answer
  accept-over c None answer none stands = refl
  accept-over c (Some before) answer none stands = rw (over-left c none stands)

  -- a call asks itself
  pub ask-call : (c : Cursor) (object : ℕ) (code : Opcode) (with : Operand)
      → slice_get items c.place ≡ Some (instruction.Call object code with)
      → ask.Call object (op_of c.registers code with) ≡ next_ask (program_left items c) c.registers
  ask-call c object code with here = rw (call-facts c object code with here)

  -- at the end nothing more is asked
  pub ask-over : (c : Cursor) → slice_get items c.place ≡ None → Stands items c
      → ask.Over ≡ next_ask (program_left items c) c.registers
  ask-over c none stands = rw (over-left c none stands)

  -- a first instruction that asks nothing
  abbrev IsSilent : Program → Type 0
  IsSilent p = (q : Program) (rs : List ℤ) → ask.Over ≡ next_ask (followed p q) rs

  silent-in_front : (one : Program → Program) (ps : List Program) → ((p : Program) → IsSilent (one p))
      → IsSilent (first_of (in_front one ps))
  silent-in_front one [] silent = silent Over
  silent-in_front one (p ∷ ps) silent = silent p

  silent-around : (block : Program → Program → Program) (ps : List Program)
      → ((body next : Program) → IsSilent (block body next)) → IsSilent (first_of (around block ps))
  silent-around block [] silent = silent Over Over
  silent-around block (body ∷ []) silent = silent body Over
  silent-around block (body ∷ next ∷ ps) silent = silent body next

  ask-silent : (c : Cursor) (p : Program) → program_at items c.place ≡ p → IsSilent p
      → ask.Over ≡ next_ask (program_left items c) c.registers
  ask-silent c p e silent =
      silent (after c) c.registers ∙ ap (λ (q : Program). next_ask (followed q (after c)) c.registers) (sym e)

  -- before the first reply it does not stand at an end
  not-end : (c : Cursor) (last : Option Reply) → slice_get items c.place ≡ Some instruction.End
      → Stands items c → IsResting items c last → ⊥
  not-end c None here stands resting =
      let k : length c.blocks.items ≡ 0 = ap length resting in omega (arith, end-open c here stands)
  not-end c (Some before) here stands resting = rw here at resting

  -- a local instruction asks nothing
  pub ask-local : (c : Cursor) (last : Option Reply) (i : Instruction) → slice_get items c.place ≡ Some i
      → ((object : ℕ) (code : Opcode) (with : Operand) → i ≡ instruction.Call object code with → ⊥)
      → Stands items c → IsResting items c last
      → ask.Over ≡ next_ask (program_left items c) c.registers
  ask-local c last (instruction.Call object code with) here silent stands resting =
      absurd (silent object code with refl)
  ask-local c last (instruction.Set register value) here silent stands resting =
      ask-silent c _
      (ap (λ (xs : List Instruction). first_of (programs_of xs)) (drop-get items c.place _ here))
      (silent-in_front (Set register value) _ (λ p q rs. refl))
  ask-local c last (instruction.Inc register value) here silent stands resting =
      ask-silent c _
      (ap (λ (xs : List Instruction). first_of (programs_of xs)) (drop-get items c.place _ here))
      (silent-in_front (Inc register value) _ (λ p q rs. refl))
  ask-local c last (instruction.Repeat turns) here silent stands resting =
      ask-silent c _
      (ap (λ (xs : List Instruction). first_of (programs_of xs)) (drop-get items c.place _ here))
      (silent-around (Repeat turns) (programs_at items (suc c.place)) (λ body next q rs. refl))
  ask-local c last (instruction.While register how value) here silent stands resting =
      ask-silent c _
      (ap (λ (xs : List Instruction). first_of (programs_of xs)) (drop-get items c.place _ here))
      (silent-around (While register how value) (programs_at items (suc c.place)) (λ body next q rs. refl))
  ask-local c last (instruction.If register how value) here silent stands resting =
      ask-silent c _
      (ap (λ (xs : List Instruction). first_of (programs_of xs)) (drop-get items c.place _ here))
      (silent-around (If register how value) (programs_at items (suc c.place)) (λ body next q rs. refl))
  ask-local c last instruction.End here silent stands resting = absurd (not-end c last here stands resting)

-- at the first instruction, with no open block, all of the program is left
module _ (items : List Instruction) (c : Cursor) (place : c.place ≡ 0) (blocks : c.blocks.items ≡ []) where
  pub start-left : program_left items c ≡ program_of items
  start-left =
      ap (λ (n : ℕ). followed (program_at items n) (after_blocks items Over c.blocks.items)) place
      ∙ ap (λ (bs : List OpenBlock). followed (program_of items) (after_blocks items Over bs)) blocks
      ∙ followed-over (program_of items)

  pub start-stands : IsNested items → Stands items c
  start-stands nested =
      record {
        depth =
            ap (λ (n : ℕ). length (programs_at items n)) place
            ∙ Fit-length [] (programs_of items) (nested-fit items [] nested)
            ∙ ap (λ (bs : List OpenBlock). suc (length bs)) (sym blocks);
        blocks = subst (λ (bs : List OpenBlock). BlocksFit items 0 bs) (sym blocks) tt;
      }
