-- The lines of the programs of a well-formed exercise stand well.
use Rattle.std.proofs.Common.{option_map, ◌≡◌, ℕ, suc, ◌+◌, ◌<◌, ◌≤◌, pos, true, false, cond, not, nat_le, nat_lt, List, [], ◌∷◌, ◌++◌, length, map, slice_get, Option, Some, None, option_and_then, refl, sym, ap, subst, ◌∙◌, arith}
use Rattle.std.specs.List.{list_all}
use Rattle.std.proofs.lemmas.Bool.{and_parts, cond_both, leb-true, ltb-true}
use Rattle.std.proofs.lemmas.Bool.Decides.{Decides-eqb, nat_tests}
use Rattle.std.proofs.lemmas.List.Sums.{sum_by-cons}
use Rattle.tm_base.specs.declared.kinds.Kind.{Kind}
use Rattle.tm_base.specs.declared.opcodes.Opcode.{Opcode}
use Rattle.tm_base.specs.Fits.{fits}
use Rattle.tm_base.specs.Names.{IsName}
use Rattle.tm_base.specs.Opcodes.{op_with}
use Rattle.tm_programs.specs.declared.instructions.Instruction.{Instruction}
use Rattle.tm_programs.specs.declared.instructions.Instruction.TheVariants as instruction
use Rattle.tm_programs.specs.declared.instructions.Operand.{Operand}
use Rattle.tm_programs.specs.declared.limits.TheConstants.{MOST_BLOCKS}
use Rattle.tm_programs.specs.Instructions.{Block, Loop, Choice, blocks_after, blocks_of, closed, opened, with_call}
use Rattle.tm_programs.specs.Programs.{condition_of}
use Rattle.tm_lines.specs.declared.first_words.FirstWord.TheVariants as first
use Rattle.tm_lines.specs.declared.limits.TheConstants.{MOST_INSTRUCTIONS}
use Rattle.tm_lines.specs.FirstWords.{operand_slots, slots_of}
use Rattle.tm_lines.specs.LineFaults.{Place, after_end, after_instruction, ends_idle}
use Rattle.tm_text.specs.declared.exercises.Declaration.{Declaration}
use Rattle.tm_text.specs.declared.values.Value.TheVariants as value
use Rattle.tm_text.specs.CanonicalTexts.{are_long, is_long}
use Rattle.tm_text.specs.Exercises.{count_of, is_asked, is_call_of, is_call_on, is_counted, is_instruction_on, name_at, takes}
use Rattle.tm_text.specs.SpelledLines.{SpelledLine, end_line, line_of_instruction, values_of_operand}
use Rattle.tm_text.proofs.FittingValues.{AllFit}
use Rattle.tm_text.proofs.NamedBack.{asked_by}
use Rattle.tm_text.proofs.SaidNames.{unnumbered}
use Rattle.tm_text.proofs.SoundLines.{AllSound, Sound}
use Rattle.tm_text.proofs.SoundValues.{Longs, call_back, fits-unnumbered, long_number, natural_in, operand_fits, operation_of}
use Rattle.tm_text.proofs.SpelledBack.{declared_call, object_there}

call_fits : (found : Option Declaration) (c : Opcode) (with : Operand) (d : Declaration) → found ≡ Some d → is_call_of (option_map (λ d. d.kind) found) c with ≡ true → fits (op_with c (condition_of with) (pos 0)) d.kind ≡ true
call_fits found c with d is h = (and_parts (is_asked c) (fits (op_with c (condition_of with) (pos 0)) d.kind) (ap (λ r. is_call_of (option_map (λ d. d.kind) r) c with) (sym is) ∙ h)).1

not_idle : (blocks after : List Block) → closed blocks ≡ Some after → ends_idle first.End blocks ≡ false
not_idle [] after h = absurd (cc)
not_idle (Loop false ∷ blocks) after h = absurd (cc)
not_idle (Loop true ∷ blocks) after h = refl
not_idle (Choice ∷ blocks) after h = refl

not_deep : (block : Block) (blocks after : List Block) → opened block blocks ≡ Some after → nat_le MOST_BLOCKS (length blocks) ≡ false
not_deep block blocks after h =
    cond_both (nat_lt (length blocks) MOST_BLOCKS) (Some (block ∷ blocks)) None (λ r. r ≡ Some after → nat_le MOST_BLOCKS (length blocks) ≡ false)
    (λ t e. grind (arith, nat_tests)) (λ f e. absurd (cc)) h

count-first : (i : Instruction) (q : List Instruction) → count_of (i ∷ q) ≡ cond (is_counted i) 1 0 + count_of q
count-first i q = sum_by-cons (λ x. cond (is_counted x) 1 0) i q

module _ (all : List Declaration) (named : List ℕ → Option Kind)
    (known : (o : ℕ) (d : Declaration) → slice_get all o ≡ Some d → IsName d.name × (named d.name ≡ Some (unnumbered d.kind))) where
  called_sound : (p : Place) (name : List ℕ) (k : Kind) (c : Opcode) (with : Operand) → IsName name → named name ≡ Some k → is_asked c ≡ true → takes c with ≡ true → fits (op_with c (condition_of with) (pos 0)) k ≡ true
      → Longs (values_of_operand with) → p.inside ≡ true → nat_le MOST_INSTRUCTIONS p.instructions ≡ false → Sound named p (record { first = first.Calls c; values = value.Name name ∷ values_of_operand with })
  called_sound p name k c with is_name is asked taken fit long inside limit =
      let operand = operand_fits p (first.Calls c) k c with taken fit long in
      let has = operation_of c (condition_of with) k fit in
      let same : suc (suc (length (values_of_operand with))) ≡ suc (suc (length (operand_slots c))) = ap (λ n. suc (suc n)) operand.1 in
      record {
        back = call_back c asked;
        fits = subst (λ found. AllFit p (first.Calls c) found (slots_of (first.Calls c)) (value.Name name ∷ values_of_operand with)) (sym is) (record { is_name = is_name; known = refl; fits = ap not has }, operand.0);
        allowed = inside;
        count = (Decides-eqb (suc (suc (length (values_of_operand with)))) (suc (suc (length (operand_slots c))))).1 same;
        depth = refl;
        idle = refl;
        limit = limit;
      }

  call_sound : (p : Place) (o : ℕ) (c : Opcode) (with : Operand) → is_instruction_on all (instruction.Call o c with) ≡ true → Longs (line_of_instruction all (instruction.Call o c with)).values → p.inside ≡ true → nat_le MOST_INSTRUCTIONS p.instructions ≡ false
      → Sound named p (line_of_instruction all (instruction.Call o c with))
  call_sound p o c with fine long inside limit =
      let parts = and_parts (is_call_on all o c with) (takes c with) fine in
      let call = declared_call all o c with parts.0 in
      let there = object_there c with (slice_get all o) call in
      let d = there.0 in
      let at = known o d there.1 in
      let fit = sym (fits-unnumbered (op_with c (condition_of with) (pos 0)) d.kind) ∙ call_fits (slice_get all o) c with d there.1 call in
      subst (λ name. Sound named p (record { first = first.Calls c; values = value.Name name ∷ values_of_operand with })) (sym (ap name_at there.1))
      (called_sound p d.name (unnumbered d.kind) c with at.0 at.1 (asked_by all o c with fine) parts.1 fit long inside limit)

  instruction_sound : (p : Place) (i : Instruction) (after : List Block) → is_instruction_on all i ≡ true → Longs (line_of_instruction all i).values → p.inside ≡ true → (is_counted i ≡ true → nat_le MOST_INSTRUCTIONS p.instructions ≡ false)
      → blocks_after p.blocks i ≡ Some after → Sound named p (line_of_instruction all i)
  instruction_sound p (instruction.Call o c with) after fine long inside limit stands = call_sound p o c with fine long inside (limit refl)
  instruction_sound p (instruction.Set r k) after fine long inside limit stands =
      let l = long_number k [] long in
      record { back = refl; fits = (ltb-true r 8 fine, ((l, l), tt)); allowed = inside; count = refl; depth = refl; idle = refl; limit = limit refl }
  instruction_sound p (instruction.Inc r k) after fine long inside limit stands =
      let l = long_number k [] long in
      record { back = refl; fits = (ltb-true r 8 fine, ((l, l), tt)); allowed = inside; count = refl; depth = refl; idle = refl; limit = limit refl }
  instruction_sound p (instruction.Repeat n) after fine long inside limit stands =
      record { back = refl; fits = ((long_number (pos n) [] long, natural_in 0 n 1000000 (omega arith) (leb-true n 1000000 fine)), tt); allowed = inside; count = refl; depth = not_deep (Loop false) p.blocks after stands; idle = refl; limit = limit refl }
  instruction_sound p (instruction.While r how k) after fine long inside limit stands =
      let l = long_number k [] long in
      record { back = refl; fits = (ltb-true r 8 fine, (tt, ((l, l), tt))); allowed = inside; count = refl; depth = not_deep (Loop false) p.blocks after stands; idle = refl; limit = limit refl }
  instruction_sound p (instruction.If r how k) after fine long inside limit stands =
      let l = long_number k [] long in
      record { back = refl; fits = (ltb-true r 8 fine, (tt, ((l, l), tt))); allowed = inside; count = refl; depth = not_deep Choice p.blocks after stands; idle = refl; limit = limit refl }
  instruction_sound p instruction.End after fine long inside limit stands =
      record { back = refl; fits = tt; allowed = inside; count = refl; depth = refl; idle = not_idle p.blocks after stands; limit = refl }

  -- where the lines behind a program stand
  abbrev pub ended : Place → Place
  ended p = after_end p []

  limited : (n : ℕ) (i : Instruction) (q : List Instruction) → n + count_of (i ∷ q) ≤ MOST_INSTRUCTIONS → is_counted i ≡ true → nat_le MOST_INSTRUCTIONS n ≡ false
  limited n i q h counted =
      let one : count_of (i ∷ q) ≡ 1 + count_of q = count-first i q ∙ ap (λ b. cond b 1 0 + count_of q) counted in
      let below : n < MOST_INSTRUCTIONS = omega arith in
      grind (arith, nat_tests)

  counted_one : (n : ℕ) (i : Instruction) (q : List Instruction) → is_counted i ≡ true → n + 1 + count_of q ≤ n + count_of (i ∷ q)
  counted_one n i q counted =
      let one : count_of (i ∷ q) ≡ 1 + count_of q = count-first i q ∙ ap (λ b. cond b 1 0 + count_of q) counted in omega arith

  -- one line of a program, and what is known of those behind it
  record Stands (p : Place) (n : ℕ) (i : Instruction) (after : List Block) (q : List Instruction) : Type 0 where
    sound : Sound named p (line_of_instruction all i)
    nested : blocks_of after q ≡ Some []
    fine : list_all (is_instruction_on all) q ≡ true
    short : n + count_of q ≤ MOST_INSTRUCTIONS
    long : are_long (map (line_of_instruction all) q) ≡ true

  stands : (p : Place) (n : ℕ) (i : Instruction) (after : List Block) (q : List Instruction) → p.inside ≡ true → blocks_after p.blocks i ≡ Some after → blocks_of p.blocks (i ∷ q) ≡ Some [] → list_all (is_instruction_on all) (i ∷ q) ≡ true
      → p.instructions + count_of (i ∷ q) ≤ MOST_INSTRUCTIONS → n + count_of q ≤ p.instructions + count_of (i ∷ q) → are_long (map (line_of_instruction all) (i ∷ q)) ≡ true → Stands p n i after q
  stands p n i after q inside there nested fine short fewer long =
      let parts = and_parts (is_instruction_on all i) (list_all (is_instruction_on all) q) fine in
      let longs = and_parts (list_all is_long (line_of_instruction all i).values) (are_long (map (line_of_instruction all) q)) long in
      record {
        sound = instruction_sound p i after parts.0 longs.0 inside (limited p.instructions i q short) there;
        nested = sym (ap (option_and_then (λ now. blocks_of now q)) there) ∙ nested;
        fine = parts.1;
        short = omega arith;
        long = longs.1;
      }

  opened_well : (block : Block) (blocks : List Block) (q : List Instruction) → option_and_then (λ now. blocks_of now q) (opened block blocks) ≡ Some [] → opened block blocks ≡ Some (block ∷ blocks)
  opened_well block blocks q h =
      cond_both (nat_lt (length blocks) MOST_BLOCKS) (Some (block ∷ blocks)) None (λ r. option_and_then (λ now. blocks_of now q) r ≡ Some [] → r ≡ Some (block ∷ blocks)) (λ t e. refl) (λ f e. absurd (cc)) h

  -- an `end` inside a program
  end_sound : (p : Place) (q : List Instruction) (ls : List SpelledLine) (blocks : List Block) → p.blocks ≡ blocks → Sound named p end_line → option_and_then (λ now. blocks_of now q) (closed blocks) ≡ Some []
      → ((block : Block) (bs : List Block) → blocks_of bs q ≡ Some [] → AllSound named (after_end p (block ∷ bs)) ls) → Sound named p end_line × AllSound named (after_end p p.blocks) ls
  end_sound p q ls [] is sound nested later = absurd (cc)
  end_sound p q ls (Loop false ∷ bs) is sound nested later = absurd (cc)
  end_sound p q ls (Loop true ∷ bs) is sound nested later = (sound, subst (λ blocks. AllSound named (after_end p blocks) ls) (sym is) (later (Loop true) bs nested))
  end_sound p q ls (Choice ∷ bs) is sound nested later = (sound, subst (λ blocks. AllSound named (after_end p blocks) ls) (sym is) (later Choice bs nested))

  closed_some : (blocks : List Block) (q : List Instruction) → option_and_then (λ now. blocks_of now q) (closed blocks) ≡ Some [] → (after : List Block) × (closed blocks ≡ Some after)
  closed_some [] q h = absurd (cc)
  closed_some (Loop false ∷ bs) q h = absurd (cc)
  closed_some (Loop true ∷ bs) q h = (bs, refl)
  closed_some (Choice ∷ bs) q h = (bs, refl)

  -- the lines of what is left of a program
  pub program_sound : (p : Place) (q : List Instruction) (ls : List SpelledLine) → p.inside ≡ true → blocks_of p.blocks q ≡ Some [] → list_all (is_instruction_on all) q ≡ true → p.instructions + count_of q ≤ MOST_INSTRUCTIONS
      → are_long (map (line_of_instruction all) q) ≡ true → AllSound named (ended p) ls → AllSound named p (map (line_of_instruction all) q ++ end_line ∷ ls)
  program_sound p [] ls inside nested fine short long rest =
      let none : p.blocks ≡ [] = cc in
      (record { back = refl; fits = tt; allowed = inside; count = refl; depth = refl; idle = ap (ends_idle first.End) none; limit = refl }, subst (λ bs. AllSound named (after_end p bs) ls) (sym none) rest)
  program_sound p (instruction.Call o c with ∷ q) ls inside nested fine short long rest =
      let s = stands p (p.instructions + 1) (instruction.Call o c with) (with_call p.blocks) q inside refl nested fine short (counted_one p.instructions (instruction.Call o c with) q refl) long in
      (s.sound, program_sound (after_instruction p (with_call p.blocks)) q ls inside s.nested s.fine s.short s.long rest)
  program_sound p (instruction.Set r k ∷ q) ls inside nested fine short long rest =
      let s = stands p (p.instructions + 1) (instruction.Set r k) (p.blocks) q inside refl nested fine short (counted_one p.instructions (instruction.Set r k) q refl) long in
      (s.sound, program_sound (after_instruction p (p.blocks)) q ls inside s.nested s.fine s.short s.long rest)
  program_sound p (instruction.Inc r k ∷ q) ls inside nested fine short long rest =
      let s = stands p (p.instructions + 1) (instruction.Inc r k) (p.blocks) q inside refl nested fine short (counted_one p.instructions (instruction.Inc r k) q refl) long in
      (s.sound, program_sound (after_instruction p (p.blocks)) q ls inside s.nested s.fine s.short s.long rest)
  program_sound p (instruction.Repeat n ∷ q) ls inside nested fine short long rest =
      let s = stands p (p.instructions + 1) (instruction.Repeat n) (Loop false ∷ p.blocks) q inside (opened_well (Loop false) p.blocks q nested) nested fine short (counted_one p.instructions (instruction.Repeat n) q refl) long in
      (s.sound, program_sound (after_instruction p (Loop false ∷ p.blocks)) q ls inside s.nested s.fine s.short s.long rest)
  program_sound p (instruction.While r how k ∷ q) ls inside nested fine short long rest =
      let s = stands p (p.instructions + 1) (instruction.While r how k) (Loop false ∷ p.blocks) q inside (opened_well (Loop false) p.blocks q nested) nested fine short (counted_one p.instructions (instruction.While r how k) q refl) long in
      (s.sound, program_sound (after_instruction p (Loop false ∷ p.blocks)) q ls inside s.nested s.fine s.short s.long rest)
  program_sound p (instruction.If r how k ∷ q) ls inside nested fine short long rest =
      let s = stands p (p.instructions + 1) (instruction.If r how k) (Choice ∷ p.blocks) q inside (opened_well Choice p.blocks q nested) nested fine short (counted_one p.instructions (instruction.If r how k) q refl) long in
      (s.sound, program_sound (after_instruction p (Choice ∷ p.blocks)) q ls inside s.nested s.fine s.short s.long rest)
  program_sound p (instruction.End ∷ q) ls inside nested fine short long rest =
      let there = closed_some p.blocks q nested in
      let s = stands p p.instructions instruction.End there.0 q inside there.1 nested fine short (let same = count-first instruction.End q in omega arith) long in
      end_sound p q (map (line_of_instruction all) q ++ end_line ∷ ls) p.blocks refl s.sound nested
      (λ block bs closes. program_sound (after_end p (block ∷ bs)) q ls inside closes s.fine s.short s.long rest)
