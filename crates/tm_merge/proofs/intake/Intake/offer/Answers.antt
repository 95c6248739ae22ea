use Rattle.std.proofs.Common.{◌≡◌, ◌∙◌, None, sym, subst, rules}
use Rattle.tm_merge.specs.Following.{Appends}
use Rattle.tm_merge.specs.Refusals.{stated}
use Rattle.tm_merge.specs.StoredArrivals.{view_of}
use Rattle.tm_merge.proofs.FollowingLemmas.{not_refused}
use Rattle.tm_merge.proofs.IntakeLemmas.{refusal_same, joins-follows, joins-held, on_ok}
use Rattle.tm_merge.proofs.intake.Intake.offer.Goals as goal

pub returns-in_err-make_room_to_follow-clause-judged : goal.returns-in_err-make_room_to_follow-clause-judged
returns-in_err-make_room_to_follow-clause-judged c =
    let a = c.args.self.now.arrivals in
    let none = refusal_same a c.args.self.now.shown c.args.entry ∙ not_refused a c.requires.all.keeps c.args.entry c.if-is_followed_by.ensures in
    let is : stated c.from_residual.result ≡ None = search rules in
    is ∙ sym none

pub returns-then-is_followed_by-clause-judged : goal.returns-then-is_followed_by-clause-judged
returns-then-is_followed_by-clause-judged c =
    let a = c.args.self.now.arrivals in
    sym (refusal_same a c.args.self.now.shown c.args.entry ∙ not_refused a c.requires.all.keeps c.args.entry c.if-is_followed_by.ensures)

pub returns-then-is_followed_by-clause-joins : goal.returns-then-is_followed_by-clause-joins
returns-then-is_followed_by-clause-joins c =
    let a = c.args.self.now.arrivals in
    let appends = subst (λ v. Appends v c.args.entry (view_of c.follow.new.self)) c.make_room_to_follow.ensures.same c.follow.ensures.appends in
    joins-follows a c.follow.new.self c.args.self.now.shown c.args.entry c.requires.within appends

pub returns-clause-judged : goal.returns-clause-judged
returns-clause-judged c = c.hold.ensures.judged ∙ sym (refusal_same c.args.self.now.arrivals c.args.self.now.shown c.args.entry)

pub returns-clause-joins : goal.returns-clause-joins
returns-clause-joins c =
    let a = c.args.self.now.arrivals in
    on_ok c.hold.result (joins-held a c.hold.new.self c.args.self.now.shown c.args.entry c.requires.within) c.hold.ensures.joins
