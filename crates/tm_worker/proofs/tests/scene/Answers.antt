use Rattle.tm_worker.proofs.TestsLemmas.{first_owns, second_owns}
use Rattle.tm_worker.proofs.tests.scene.Goals as goal

pub returns-clause-own_first : goal.returns-clause-own_first
returns-clause-own_first c =
    first_owns c.in_ok-a.a c.in_ok-b.b c.in_ok-m.m c.in_ok-a.ensures.label c.in_ok-b.ensures.label c.in_ok-m.ensures.label
    c.in_ok-vec-3.field-0.items c.in_ok-one.one.log.ticket c.in_ok-vec-3.ensures.items c.in_ok-one.ensures.ticket

pub returns-clause-own_second : goal.returns-clause-own_second
returns-clause-own_second c =
    second_owns c.in_ok-a.a c.in_ok-b.b c.in_ok-m.m c.in_ok-a.ensures.label c.in_ok-b.ensures.label c.in_ok-m.ensures.label
    c.in_ok-vec-3.field-0.items c.in_ok-two.two.log.ticket c.in_ok-vec-3.ensures.items c.in_ok-two.ensures.ticket
