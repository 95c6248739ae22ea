use Rattle.std.proofs.Common.{◌≡◌, option_map, ap, ◌∙◌, rules}
use Rattle.tm_lines.specs.declared.names.Known.{Known}
use Rattle.tm_lines.specs.KnownNames.{known_in}
use Rattle.tm_lines.specs.TextFaults.{said_words, text_lines}
use Rattle.tm_lines.proofs.NamesLemmas.{kind_known, known_by-no_name}
use Rattle.tm_lines.proofs.names.Names.known.Goals as goal

pub returns-then-is_empty-clause-known : goal.returns-then-is_empty-clause-known
returns-then-is_empty-clause-known c = known_by-no_name 0 (said_words (text_lines c.args.self.now)) c.args.name.now c.if-is_empty.ensures

pub returns-then-is_empty-clause-kind : goal.returns-then-is_empty-clause-kind
returns-then-is_empty-clause-kind c =
    let lines = said_words (text_lines c.args.self.now) in
    ap (option_map (λ (k : Known). k.kind)) (known_by-no_name 0 lines c.args.name.now c.if-is_empty.ensures) ∙ kind_known 0 lines c.args.name.now

pub returns-clause-kind : goal.returns-clause-kind
returns-clause-kind c =
    let at : c.copied.result ≡ known_in (text_lines c.args.self.now) c.args.name.now = search rules in
    ap (option_map (λ (k : Known). k.kind)) at ∙ kind_known 0 (said_words (text_lines c.args.self.now)) c.args.name.now
