-- The next of some events, in the order of held events, and the next one on a walk back.
use Rattle.std.specs.Prelude.{◌≡◌, ◌<◌, Bool, true, false, ◌&&◌, if◌then◌else◌, MatchOption, List, Contains, Option, Some, None}
use Rattle.tm_base.specs.declared.events.Entry.{Entry}
use Rattle.tm_merge.specs.MergerViews.{MergerView}
use Rattle.tm_merge.specs.Holding.{comes_before, WaitsFor}

-- The event comes after the current one, if there is one.
abbrev pub is_after : Option Entry → Entry → Bool
is_after None e = true
is_after (Some current) e = comes_before current e

-- The event comes before the best one, if there is one.
abbrev pub is_better : Option Entry → Entry → Bool
is_better None e = true
is_better (Some best) e = comes_before e best

-- The candidate, where it comes after the current event and before the best one, else the best one.
abbrev pub nearer : Option Entry → Option Entry → Option Entry → Option Entry
nearer current best None = best
nearer current best (Some e) = if is_after current e && is_better best e then Some e else best

-- The event is the first of those that come after the current one.
pub record IsFirstAfter (current : Option Entry) (es : List Entry) (b : Entry) : Type 0 where
  pub among : Contains es b
  pub after : is_after current b ≡ true
  pub least : (e : Entry) → Contains es e → is_after current e ≡ true → comes_before e b ≡ false

-- The first of the events that come after the current one, if one does.
abbrev pub IsLeastAfter : Option Entry → List Entry → Option Entry → Type 0
IsLeastAfter current es best = MatchOption best ((e : Entry) → Contains es e → is_after current e ≡ false) (λ b. IsFirstAfter current es b)

-- The event waits for this one, which is held and has a smaller stamp.
pub record IsBehind (v : MergerView) (e a : Entry) : Type 0 where
  pub waits : WaitsFor v e a a
  pub held : Contains v.held a
  pub smaller : a.stamp < e.stamp
