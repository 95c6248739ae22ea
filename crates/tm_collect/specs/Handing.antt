-- How a collector takes an event that is handed to it.
use Rattle.std.specs.Prelude.{◌≡◌, true, false, ◌⊎◌, Some, None, MatchOption}
use Rattle.tm_base.specs.declared.events.Entry.{Entry}
use Rattle.tm_merge.specs.Refusals.{refusal}
use Rattle.tm_merge.specs.Showing.{Joins}
use Rattle.tm_collect.specs.declared.refusals.Refusal.{Refusal}
use Rattle.tm_collect.specs.declared.refusals.Refusal.TheVariants as refusals
use Rattle.tm_collect.specs.Collectors.{CollectorView}

-- The refusal is kept, and nothing else has changed.
abbrev pub refused : CollectorView → Refusal → CollectorView
refused v r = record { exercise = v.exercise; merger = v.merger; joint = v.joint; refusal = Some r; write_fault = v.write_fault; short = v.short }

-- The event arrives, and nothing else has changed.
pub record Takes (v : CollectorView) (e : Entry) (w : CollectorView) : Type 0 where
  pub joins : Joins v.merger e w.merger
  pub exercise : w.exercise ≡ v.exercise
  pub joint : w.joint ≡ v.joint
  pub refusal : w.refusal ≡ v.refusal
  pub write_fault : w.write_fault ≡ v.write_fault
  pub short : w.short ≡ v.short

-- The event arrives, or the merger's refusal of it is kept.
abbrev pub Offers : CollectorView → Entry → CollectorView → Type 0
Offers v e w = MatchOption (refusal v.merger e) (Takes v e w) (λ r. w ≡ refused v (refusals.Offer r))

-- Where a refusal is kept the event is dropped; else it is offered, which no `pump` before may have found
-- without memory.
abbrev pub Hands : CollectorView → Entry → CollectorView → Type 0
Hands v e w = MatchOption v.refusal ((v.short ≡ false) × Offers v e w) (λ r. w ≡ v)

-- Memory ran out: in a `pump` before, or where the event is one that the merger doesn't refuse.
pub record LacksMemory (v : CollectorView) (e : Entry) : Type 0 where
  pub unrefused : v.refusal ≡ None
  pub cause : (v.short ≡ true) ⊎ (refusal v.merger e ≡ None)
