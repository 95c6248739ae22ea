use Rattle.std.proofs.Common.{◌≡◌, ◌-◌, List, length, slice_set, refl, arith, sym, ap, ◌∙◌, subst}
use Rattle.std.proofs.lemmas.Option.{slice_get_read}
use Rattle.tm_base.specs.declared.bars.Bar.{Bar}
use Rattle.tm_replay.specs.declared.phases.Phase.{Phase}
use Rattle.tm_replay.specs.SoundStates.{waits_at}
use Rattle.tm_joint.specs.Showing.{RenewsOne}
use Rattle.tm_joint.proofs.Renewing.{RenewsOne-keep, RenewsOne-set}
use Rattle.tm_joint.proofs.showing.renew_one.Goals as goal

pub returns-then-waits_at : goal.returns-then-waits_at
returns-then-waits_at c =
    let t = c.args.thread in
    let seats = c.args.seats.now in
    let b = c.args.object.now in
    let o = c.args.number in
    let old = c.args.bars.now in
    let s = c.index-seats-thread.result in
    let here = slice_get_read seats (length seats) t s refl c.requires.known c.index-seats-thread.is in
    let test : c.waits_at.result ≡ waits_at s.phase o = c.waits_at.ensures ∙ ap (λ (p : Phase). waits_at p o) c.phase.ensures in
    subst (λ (l : List Bar). RenewsOne seats b o t old l) (sym (c.set.ensures ∙ ap (slice_set old (t - 1)) c.waiting_bar.ensures))
    (RenewsOne-set seats b o t s old here c.requires.program (omega (arith, c.requires.count, c.requires.known)) (sym test ∙ c.if-waits_at.true))

pub returns-else-waits_at : goal.returns-else-waits_at
returns-else-waits_at c =
    let t = c.args.thread in
    let seats = c.args.seats.now in
    let o = c.args.number in
    let s = c.index-seats-thread.result in
    let here = slice_get_read seats (length seats) t s refl c.requires.known c.index-seats-thread.is in
    let test : c.waits_at.result ≡ waits_at s.phase o = c.waits_at.ensures ∙ ap (λ (p : Phase). waits_at p o) c.phase.ensures in
    RenewsOne-keep seats c.args.object.now o t s c.args.bars.now here (sym test ∙ c.if-waits_at.false)
