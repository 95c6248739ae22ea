use Rattle.std.proofs.Common.{◌≡◌, [], ◌∷◌, ◌++◌, length, length-append, ap, arith}
use Rattle.std.proofs.lemmas.List.Elements.{All-push}
use Rattle.tm_merge.specs.Lines.{IsNewLine}
use Rattle.tm_merge.proofs.arrivals.new_lines.Goals as goal

pub loop-preserved : goal.loop-preserved
loop-preserved c =
    let made : IsNewLine c.make.result = c.make.ensures in
    let grown : c.push.new.self.items ≡ c.loop.lines.items ++ c.make.result ∷ [] = c.in_ok-push.ensures.items in
    (omega (arith, ap length grown, length-append c.loop.lines.items (c.make.result ∷ []), c.loop.invariant.0), rw grown (All-push IsNewLine c.loop.lines.items c.make.result c.loop.invariant.1 made))
