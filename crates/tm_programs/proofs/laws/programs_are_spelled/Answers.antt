use Rattle.tm_programs.proofs.Spelling.{flat-program_of}
use Rattle.tm_programs.specs.Spelled.{program_of-flat}
use Rattle.tm_programs.proofs.laws.programs_are_spelled.Goals as goal

pub returns : goal.returns
returns c = (program_of-flat, flat-program_of)
