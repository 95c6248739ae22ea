use Rattle.std.proofs.Common.{None, Some, refl, ap, ◌∙◌}
use Rattle.tm_lines.specs.KnownNames.{number_known}
use Rattle.tm_lines.specs.Lines.{words_of}
use Rattle.tm_lines.proofs.ReadLinesLemmas.{fault_of_line-read, place_by-read}
use Rattle.tm_lines.proofs.places.Place.take_words.Goals as goal

pub returns-in-Ok : goal.returns-in-Ok
returns-in-Ok c = λ lines line by.
    let words = c.args.words in
    let known = c.args.known in
    let p = c.args.self.now in
    let said = c.in-Ok.ensures.said (words_of line) by.first in (
      by.said,
      fault_of_line-read lines line words known p None by said.0,
      record { first = said.1; words = by.first; object = c.number_of.ensures ∙ ap number_known by.name },
      place_by-read lines line words known p c.go_on.new.self c.in-Ok.first by said.1 c.go_on.ensures,
    )

pub returns-in-Err : goal.returns-in-Err
returns-in-Err c = λ lines line by. (
  by.said,
  fault_of_line-read lines line c.args.words c.args.known c.args.self.now (Some c.in-Err.kind) by (c.in-Err.ensures.said (words_of line) by.first),
  refl,
)
