-- When a merger refuses an event, and with which words.
use Rattle.std.specs.Prelude.{◌≡◌, ◌≤◌, ◌⊎◌, Contains, suc, ◌-◌, ◌==◌, nat_lt, nat_le, if◌then◌else◌, Option, Some, None, Result, Ok, Err}
use Rattle.std.specs.Option.{option_or, option_map}
use Rattle.tm_base.specs.declared.events.Entry.{Entry}
use Rattle.tm_base.specs.Orders.{IsDirect}
use Rattle.tm_merge.specs.declared.refusals.Field.{Field}
use Rattle.tm_merge.specs.declared.refusals.Field.TheVariants as field
use Rattle.tm_merge.specs.declared.refusals.Refused.{Refused}
use Rattle.tm_merge.specs.declared.refusals.Refused.TheVariants as refused
use Rattle.tm_merge.specs.MergerViews.{MergerView, arrived}
use Rattle.tm_merge.specs.Places.{at_place, at_object}

-- The first number of the event that no event here has.
abbrev pub range_fault : MergerView → Entry → Option Field
range_fault v e =
    if nat_lt v.threads e.thread then Some field.Thread
    else (if nat_le v.objects e.object then Some field.Object
    else (if e.place == 0 then Some field.Place
    else (if e.at == 0 then Some field.At
    else (if e.stamp == 0 then Some field.Stamp
    else None))))

-- The event that arrived with this one's place in its thread, else with its place at its object.
abbrev pub twice : MergerView → Entry → Option Entry
twice v e = option_or (at_place (arrived v) e.thread e.place) (at_object (arrived v) e.object e.at)

-- The event before this one, where its stamp isn't smaller.
abbrev pub clash_before : Option Entry → Entry → Option Entry
clash_before None e = None
clash_before (Some before) e = if nat_lt before.stamp e.stamp then None else Some before

-- The event after this one, where its stamp isn't greater.
abbrev pub clash_after : Option Entry → Entry → Option Entry
clash_after None e = None
clash_after (Some after) e = if nat_lt e.stamp after.stamp then None else Some after

-- The neighbour in the event's thread that arrived and breaks the rise of stamps, the one before it first.
abbrev pub clash_in_thread : MergerView → Entry → Option Entry
clash_in_thread v e = option_or (clash_before (at_place (arrived v) e.thread (e.place - 1)) e) (clash_after (at_place (arrived v) e.thread (suc e.place)) e)

-- The same at the event's object.
abbrev pub clash_at_object : MergerView → Entry → Option Entry
clash_at_object v e = option_or (clash_before (at_object (arrived v) e.object (e.at - 1)) e) (clash_after (at_object (arrived v) e.object (suc e.at)) e)

abbrev pub clash : MergerView → Entry → Option Entry
clash v e = option_or (clash_in_thread v e) (clash_at_object v e)

-- Why the event is refused, unless memory runs out: a number out of range, else a repeated event, else
-- stamps that don't rise; with the event that is kept before the new one.
abbrev pub refusal : MergerView → Entry → Option Refused
refusal v e =
    option_or (option_map refused.OutOfRange (range_fault v e))
    (option_or (option_map (λ kept. refused.TwicePlace kept e) (twice v e))
    (option_map (λ kept. refused.StampOrder kept e) (clash v e)))

-- What an answer says of the event: that memory ran out says nothing of it.
abbrev pub stated : {T : Type 0} → Result T Refused → Option Refused
stated (Ok done) = None
stated (Err refused.NoMemory) = None
stated (Err r) = Some r

-- The two events have one place in one thread, or one at one object.
abbrev pub SharePlace : Entry → Entry → Type 0
SharePlace a b = ((a.thread ≡ b.thread) × (a.place ≡ b.place)) ⊎ ((a.object ≡ b.object) × (a.at ≡ b.at))

-- One event is directly before the other, and its stamp isn't smaller.
abbrev pub BreakRise : Entry → Entry → Type 0
BreakRise a b = (IsDirect a b × (b.stamp ≤ a.stamp)) ⊎ (IsDirect b a × (a.stamp ≤ b.stamp))

-- What a refusal says of the event is so.
abbrev pub IsFounded : MergerView → Entry → Refused → Type 0
IsFounded v e (refused.OutOfRange f) = range_fault v e ≡ Some f
IsFounded v e (refused.TwicePlace kept new) = (new ≡ e) × Contains (arrived v) kept × SharePlace kept e
IsFounded v e (refused.StampOrder kept new) = (new ≡ e) × Contains (arrived v) kept × BreakRise kept e
IsFounded v e refused.NoMemory = ⊥

abbrev pub RefusalsAreFounded : Type 0
RefusalsAreFounded = (v : MergerView) (e : Entry) (r : Refused) → refusal v e ≡ Some r → IsFounded v e r
