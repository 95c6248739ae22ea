use Rattle.std.proofs.Common.{List, ap, sym, ◌∙◌, subst}
use Rattle.tm_programs.specs.declared.instructions.Instruction.{Instruction}
use Rattle.tm_programs.specs.Calls.{AllCallsPass}
use Rattle.tm_programs.specs.Instructions.{IsNested, program_of}
use Rattle.tm_programs.specs.Programs.{Rest, whole}
use Rattle.tm_text.specs.Exercises.{is_call_on}
use Rattle.tm_text.proofs.ThreadCalls.{calls_fit}
use Rattle.tm_text.proofs.scripts.Script.make.Goals as goal

pub make-requires : goal.make-requires
make-requires c = record {
  nested = subst IsNested (sym c.instructions.ensures) (c.threads-threads.ensures.well_formed.nested c.args.thread);
}

pub returns-clause-suits : goal.returns-clause-suits
returns-clause-suits c =
    let x = c.args.exercise.now in
    let is = c.in_ok-make.ensures ∙ ap (λ (items : List Instruction). whole (program_of items)) c.instructions.ensures in
    subst (λ (r : Rest). AllCallsPass (is_call_on x.objects) r.program) (sym is)
    (calls_fit x c.args.thread c.threads-threads.ensures.well_formed)
