-- The history is the book's, which is legal.
use Rattle.std.proofs.Common.{ap, sym, ◌∙◌}
use Rattle.tm_shared.specs.Turns.{with_made}
use Rattle.tm_shared.proofs.CallsLemmas.{legal_of}
use Rattle.tm_shared.proofs.objects.Shared.give_back.Goals as goal
use Rattle.tm_shared.proofs.objects.Shared.give_back.Goals.{in-Some, in_default}

pub returns-clause-legal : goal.returns-clause-legal
returns-clause-legal c =
    let given = ap (λ p. p.seen) c.give.ensures in
    let list = c.requires.list in
    let seen = c.args.pass.now.seen in
    legal_of c.args.self.now.label c.args.held.value c.give.new.pass.seen c.entries-history.ensures.legal c.requires.label
    (elim c.match-made.branch [
      | in-Some w ↦ list ∙ ap (with_made seen) w.in-Some.is ∙ sym (given ∙ ap (λ p. p.seen) w.pass-is ∙ ap (λ p. p.seen) w.note.ensures.seen)
      | in_default w ↦ list ∙ ap (with_made seen) w.in_default.is ∙ sym (given ∙ ap (λ p. p.seen) w.pass-is)
    ])
