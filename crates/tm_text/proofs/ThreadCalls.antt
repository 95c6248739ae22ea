-- The calls of the threads' programs are those of their instructions.
use Rattle.std.proofs.Common.{◌≡◌, true, List, [], ◌∷◌}
use Rattle.std.specs.List.{list_all}
use Rattle.std.proofs.lemmas.Bool.{and_parts}
use Rattle.tm_programs.specs.declared.instructions.Instruction.{Instruction}
use Rattle.tm_programs.specs.declared.instructions.Instruction.TheVariants as instruction
use Rattle.tm_programs.specs.Programs.{Program, Call, Set, Inc, Repeat, While, If, Over}
use Rattle.tm_programs.specs.Instructions.{around, first_of, in_front, program_of, programs_of}
use Rattle.tm_programs.specs.Calls.{AllCallsPass}
use Rattle.tm_text.specs.declared.exercises.Declaration.{Declaration}
use Rattle.tm_text.specs.Exercises.{CallsFit, instructions_of, is_call_on, is_instruction_on, takes}

module _ (ds : List Declaration) where
  abbrev Pass : Program → Type 0
  Pass p = AllCallsPass (is_call_on ds) p

  -- every call of each of these programs is one that its object has
  abbrev EachPass : List Program → Type 0
  EachPass [] = Unit {0}
  EachPass (p ∷ ps) = Pass p × EachPass ps

  pass_in_front : (one : Program → Program) → ((p : Program) → Pass p → Pass (one p)) → (ps : List Program) → EachPass ps → EachPass (in_front one ps)
  pass_in_front one passes [] h = (passes Over tt, tt)
  pass_in_front one passes (p ∷ ps) h = (passes p h.0, h.1)

  pass_around : (block : Program → Program → Program) → ((body next : Program) → Pass body → Pass next → Pass (block body next)) → (ps : List Program) → EachPass ps → EachPass (around block ps)
  pass_around block passes [] h = (passes Over Over tt tt, tt)
  pass_around block passes (body ∷ []) h = (passes body Over h.0 tt, tt)
  pass_around block passes (body ∷ next ∷ ps) h = (passes body next h.0 h.1.0, h.1.1)

  each_pass : (items : List Instruction) → list_all (is_instruction_on ds) items ≡ true → EachPass (programs_of items)
  each_pass [] h = (tt, tt)
  each_pass (instruction.Call object code with ∷ items) h =
      let parts = and_parts (is_instruction_on ds (instruction.Call object code with)) (list_all (is_instruction_on ds) items) h in
      let fits = (and_parts (is_call_on ds object code with) (takes code with) parts.0).0 in
      pass_in_front (Call object code with) (λ p passes. (fits, passes)) (programs_of items) (each_pass items parts.1)
  each_pass (instruction.Set register value ∷ items) h =
      pass_in_front (Set register value) (λ p passes. passes) (programs_of items) (each_pass items (and_parts (is_instruction_on ds (instruction.Set register value)) (list_all (is_instruction_on ds) items) h).1)
  each_pass (instruction.Inc register value ∷ items) h =
      pass_in_front (Inc register value) (λ p passes. passes) (programs_of items) (each_pass items (and_parts (is_instruction_on ds (instruction.Inc register value)) (list_all (is_instruction_on ds) items) h).1)
  each_pass (instruction.Repeat turns ∷ items) h =
      pass_around (Repeat turns) (λ body next b n. (b, n)) (programs_of items) (each_pass items (and_parts (is_instruction_on ds (instruction.Repeat turns)) (list_all (is_instruction_on ds) items) h).1)
  each_pass (instruction.While register how value ∷ items) h =
      pass_around (While register how value) (λ body next b n. (b, n)) (programs_of items) (each_pass items (and_parts (is_instruction_on ds (instruction.While register how value)) (list_all (is_instruction_on ds) items) h).1)
  each_pass (instruction.If register how value ∷ items) h =
      pass_around (If register how value) (λ body next b n. (b, n)) (programs_of items) (each_pass items (and_parts (is_instruction_on ds (instruction.If register how value)) (list_all (is_instruction_on ds) items) h).1)
  each_pass (instruction.End ∷ items) h = (tt, each_pass items h)

  first_passes : (ps : List Program) → EachPass ps → Pass (first_of ps)
  first_passes [] h = tt
  first_passes (p ∷ ps) h = h.0

  pub calls_pass : (items : List Instruction) → list_all (is_instruction_on ds) items ≡ true → Pass (program_of items)
  calls_pass items h = first_passes (programs_of items) (each_pass items h)

pub calls_fit : CallsFit
calls_fit x t formed = calls_pass x.objects (instructions_of x t) (formed.instructions t)
