use Rattle.std.proofs.Common.{List, map, sym, subst}
use Rattle.tm_programs.specs.declared.instructions.Instruction.{Instruction}
use Rattle.tm_text.specs.Texts.{IsExercise}
use Rattle.tm_text.proofs.ReadingsLemmas.{is_exercise, well_formed_parts}
use Rattle.tm_text.proofs.reader.read.Goals as goal

pub new-requires : goal.new-requires
new-requires c =
    let ds = c.into_declarations-declarations.result.items in
    let ps : List (List Instruction) = map (λ p. p.items) c.in_ok-objects.programs.items in
    record {
      well_formed = well_formed_parts c.args.bytes.now c.in_ok-objects.objects ds ps
          (record { short = c.if-bytes-gt-MOST_BYTES.false; objects = c.into_declarations-declarations.ensures.objects; whole = c.in_ok-objects.ensures.read });
    }

pub returns-clause-read : goal.returns-clause-read
returns-clause-read c =
    let ds = c.into_declarations-declarations.result.items in
    let ps : List (List Instruction) = map (λ p. p.items) c.in_ok-objects.programs.items in
    subst (IsExercise c.args.bytes.now) (sym c.in_ok-new.ensures)
    (is_exercise c.args.bytes.now c.in_ok-objects.objects ds ps
    (record { short = c.if-bytes-gt-MOST_BYTES.false; objects = c.into_declarations-declarations.ensures.objects; whole = c.in_ok-objects.ensures.read }))
