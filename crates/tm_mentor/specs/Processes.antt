-- What a process is given, and the status that it ends with.
use Rattle.std.specs.Prelude.{◌≡◌, ℕ, List, [], drop, Result, Ok, Err, String}
use Rattle.std.specs.Vec.Iter.{into_iter_items}
use Rattle.std.specs.declared.alloc.Global.{Global}
use Rattle.std.specs.declared.io.Error.{Error}
use Rattle.std.specs.declared.vec.IntoIter.{IntoIter}
use Rattle.tm_base.specs.declared.memory.NoMemory.{NoMemory}
use Rattle.tm_mentor.specs.declared.answers.Answer.{Answer}
use Rattle.tm_mentor.specs.declared.outcomes.Outcome.{Outcome}
use Rattle.tm_mentor.specs.Answers.{outcome_of}
use Rattle.tm_mentor.specs.Commands.{Answers}
use Rattle.tm_mentor.specs.Outside.{Exchange}

-- The words of a command line: the arguments after the first, which is the program's name, in their
-- order. Where the arguments could not be had there are none.
abbrev pub words_of : Result (IntoIter (String Global) Global) Error → List (String Global)
words_of (Ok arguments) = drop 1 (into_iter_items arguments)
words_of (Err error) = []

-- The status of a process: that of the command's outcome, or 9 where memory ran out before there were
-- words.
abbrev pub process_status : Result Outcome NoMemory → ℕ
process_status (Ok outcome) = outcome.status
process_status (Err error) = 9

-- A process with these words ended with this status: it is that of what the words were answered.
pub record EndsProcess (words : List (String Global)) (o : Exchange) (status : ℕ) : Type 0 where
  pub answer : Answer
  pub answers : Answers words o answer
  pub same : status ≡ (outcome_of answer).status
