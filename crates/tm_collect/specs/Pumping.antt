-- What a call of `pump` does.
use Rattle.std.specs.Prelude.{◌≡◌, ℕ, true, false, ◌++◌, length, None, MatchOption, MatchBool}
use Rattle.tm_merge.specs.Showing.{Settles}
use Rattle.tm_joint.specs.declared.refusals.Illegal.{Illegal}
use Rattle.tm_collect.specs.declared.refusals.Refusal.{Refusal}
use Rattle.tm_collect.specs.declared.refusals.Refusal.TheVariants as refusals
use Rattle.tm_collect.specs.Sending.{Outlet}
use Rattle.tm_collect.specs.Advancing.{Shows, BreaksOff, IsNextIllegal}
use Rattle.tm_collect.specs.Collectors.{CollectorView, shown_of}

-- The refusal is that of the next event that the merger shows, which is illegal.
pub record IsOfNext (v : CollectorView) (r : Refusal) : Type 0 where
  pub illegal : Illegal
  pub same : r ≡ refusals.Apply illegal
  pub next : IsNextIllegal v.exercise v.merger.shown v.joint illegal

-- The merger settles, and what it shows then is applied, this many events, whose rows are sent: all of it, or
-- up to an event that is illegal, whose refusal is kept.
pub record Pumps (v w : CollectorView) (o p : Outlet) (n : ℕ) : Type 0 where
  pub events : ℕ
  pub settles : Settles v.merger events w.merger
  pub shows : Shows v.exercise w.merger.shown v.joint w.joint o p
  pub extends : shown_of w ≡ shown_of v ++ shows.advances.news
  pub count : n ≡ length shows.advances.news
  pub exercise : w.exercise ≡ v.exercise
  pub ample : w.short ≡ false
  pub outcome : MatchOption w.refusal (shown_of w ≡ w.merger.shown) (IsOfNext w)

-- Nothing was done.
pub record Rests (v w : CollectorView) (o p : Outlet) : Type 0 where
  pub collector : w ≡ v
  pub outlet : p ≡ o

-- A `pump` answers this number: 0 where a refusal was kept before. No earlier one found memory short.
abbrev pub Answers : CollectorView → CollectorView → Outlet → Outlet → ℕ → Type 0
Answers v w o p n = (v.short ≡ false) × MatchOption v.refusal (Pumps v w o p n) (λ r. (n ≡ 0) × Rests v w o p)

-- Memory ran out: the merger has settled, the first events of what it shows were applied, and the first bytes
-- of their rows sent.
pub record RunsOut (v w : CollectorView) (o p : Outlet) : Type 0 where
  pub events : ℕ
  pub settles : Settles v.merger events w.merger
  pub shows : BreaksOff v.exercise w.merger.shown v.joint w.joint o p
  pub extends : shown_of w ≡ shown_of v ++ shows.advances.news
  pub exercise : w.exercise ≡ v.exercise
  pub short : w.short ≡ true
  pub unrefused : v.refusal ≡ None
  pub refusal : w.refusal ≡ None

-- Memory ran out in an earlier `pump`, or in this one.
abbrev pub LacksSpace : CollectorView → CollectorView → Outlet → Outlet → Type 0
LacksSpace v w o p = MatchBool v.short (Rests v w o p) (RunsOut v w o p)
