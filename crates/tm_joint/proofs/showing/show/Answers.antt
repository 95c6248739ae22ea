use Rattle.std.proofs.Common.{◌≡◌, ◌+◌, ◌≤◌, ◌==◌, ℕ, Bool, true, false, if◌then◌else◌, ⊎_elim, Option, Some, None, length, refl, ap, sym, ◌∙◌, subst, ne_eqb}
use mir.Val.{bool_byte}
use Rattle.std.proofs.lemmas.Bool.{cases_Bool}
use Rattle.tm_base.specs.declared.replies.Reply.{Reply}
use Rattle.tm_base.specs.declared.replies.Reply.TheVariants as reply
use Rattle.tm_base.specs.Machines.{ObjectView}
use Rattle.tm_base.specs.States.{is_waiting, queued}
use Rattle.tm_laws.specs.Counts.{bit}
use Rattle.tm_joint.specs.Showing.{NamesKnown, grants_none, heir_alone}
use Rattle.tm_joint.proofs.Renewing.{Shows-heir, Shows-renewed}
use Rattle.tm_joint.proofs.showing.show.Goals as goal
use Rattle.tm_joint.proofs.showing.show.Goals.{Else-waiting-before}

byte-bit : (b : Bool) → bool_byte b ≡ bit b
byte-bit true = refl
byte-bit false = refl

module _ (c : Else-waiting-before) where
  wait : c.waiters-waiting.result ≡ length (queued c.args.object.now.view.state.kind_state)
  wait = c.waiters-waiting.ensures ∙ ap (λ (h : ObjectView). length (queued h.state.kind_state)) c.machine.ensures

  some : grants_none c.args.object.now c.args.entry.now.thread c.args.before ≡ false
  some =
      let b = c.args.object.now in
      let t = c.args.entry.now.thread in
      let own : c.from-own.result ≡ bit (is_waiting b.view.state t) = c.from-own.ensures ∙ byte-bit c.waits.result ∙ ap bit c.waits.ensures in
      ne_eqb (length (queued b.view.state.kind_state)) (c.args.before + bit (is_waiting b.view.state t))
      (λ same. c.if-waiting-before.false (wait ∙ same ∙ sym (ap (λ n. c.args.before + n) own)))

-- the thread that was granted alone is a program thread
alone-known : (r : Reply) (waiting before threads heir : ℕ) → NamesKnown r threads → heir_alone r waiting before ≡ Some heir → 1 ≤ heir
alone-known (reply.Gave u) waiting before threads heir known alone =
    let pick : Bool → Option ℕ = λ b. if b then Some u else None in
    ⊎_elim
    (λ (yes : (waiting + 1 == before) ≡ true).
    let both : Some u ≡ Some heir = sym (ap pick yes) ∙ alone in
    let same : u ≡ heir = cc in
    subst (λ (n : ℕ). 1 ≤ n) same known.0)
    (λ (several : (waiting + 1 == before) ≡ false).
    absurd (let both : ◌≡◌ {A = Option ℕ} None (Some heir) = sym (ap pick several) ∙ alone in cc))
    (cases_Bool (waiting + 1 == before))
alone-known r waiting before threads heir known alone = absurd cc

pub returns-in-Some : goal.returns-in-Some
returns-in-Some c =
    let d = (goal.at.returns-in-Some c).Else-waiting-before in
    let b = c.args.object.now in
    let e = c.args.entry.now in
    let alone : heir_alone e.reply (length (queued b.view.state.kind_state)) c.args.before ≡ Some c.in-Some.heir =
    sym (ap (λ n. heir_alone e.reply n c.args.before) (wait d)) ∙ sym c.heir_alone.ensures ∙ c.in-Some.is in
    Shows-heir c.args.seats.now b e c.args.before c.args.bars.now c.show_one.new.bars c.show_one.ensures c.renew_one.new.bars c.in-Some.heir c.renew_one.ensures
    (alone-known e.reply (length (queued b.view.state.kind_state)) c.args.before (length c.args.seats.now) c.in-Some.heir c.requires.named alone) (some d) alone

pub returns-in-None : goal.returns-in-None
returns-in-None c =
    let d = (goal.at.returns-in-None c).Else-waiting-before in
    let b = c.args.object.now in
    let e = c.args.entry.now in
    Shows-renewed c.args.seats.now b e c.args.before c.args.bars.now c.show_one.new.bars c.show_one.ensures c.renew.new.bars c.renew.ensures (some d)
    (sym (ap (λ n. heir_alone e.reply n c.args.before) (wait d)) ∙ sym c.heir_alone.ensures ∙ c.in-None.is)
