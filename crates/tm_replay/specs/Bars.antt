-- What each thread does in a joint state: the letters of the history bars, and when a state is stuck.
use Rattle.std.specs.Prelude.{ℕ, ◌-◌, Bool, true, false, not, ◌&&◌, if◌then◌else◌, List, [], ◌∷◌, map, filter, length, slice_get, Option, Some, None}
use Rattle.std.specs.List.{range_with_len, list_all}
use Rattle.tm_base.specs.declared.bars.Bar.{Bar}
use Rattle.tm_base.specs.declared.bars.Bar.TheVariants as bar
use Rattle.tm_base.specs.States.{is_waiting, queued}
use Rattle.tm_replay.specs.declared.phases.Phase.{Phase}
use Rattle.tm_replay.specs.declared.phases.Phase.TheVariants as phase
use Rattle.tm_replay.specs.JointStates.{JointState, ThreadState, ObjectState}

-- Whether the thread's call waits ungranted at the object.
abbrev pub waits_in : Option ObjectState → ℕ → Bool
waits_in None t = false
waits_in (Some b) t = is_waiting b.view.state t

-- What the thread in this phase does: a thread that waits is blocked until its call is granted.
abbrev pub bar_in : JointState → ℕ → Phase → Bar
bar_in j t phase.Main = bar.Runs
bar_in j t phase.NotBegun = bar.Unborn
bar_in j t phase.Free = bar.Runs
bar_in j t (phase.Waits object) = if waits_in (slice_get j.objects object) t then bar.Blocked else bar.Granted
bar_in j t (phase.Ended cut) = bar.Ended

abbrev pub bar_for : JointState → ℕ → Option ThreadState → Bar
bar_for j t None = bar.Unborn
bar_for j t (Some s) = bar_in j t s.phase

abbrev pub bar_of : JointState → ℕ → Bar
bar_of j t = bar_for j t (slice_get j.threads t)

-- The program threads, from 1.
abbrev pub threads_of : JointState → List ℕ
threads_of j = range_with_len 1 (length j.threads - 1)

-- One bar for each program thread, in rising number.
abbrev pub bars_of : JointState → List Bar
bars_of j = map (bar_of j) (threads_of j)

abbrev pub is_ended : Bar → Bool
is_ended bar.Ended = true
is_ended b = false

-- A thread is runnable where it hasn't ended and no call of it waits ungranted.
abbrev pub is_runnable : Bar → Bool
is_runnable bar.Ended = false
is_runnable bar.Blocked = false
is_runnable b = true

-- Every program thread has ended.
abbrev pub is_over : List Bar → Bool
is_over bars = list_all is_ended bars

-- A thread hasn't ended, and none is runnable.
abbrev pub is_stuck : List Bar → Bool
is_stuck bars = not (is_over bars) && list_all (λ b. not (is_runnable b)) bars

-- A call waits ungranted in these queues.
abbrev pub is_some_queued : List ℕ → Bool
is_some_queued [] = false
is_some_queued (t ∷ ts) = true

abbrev pub has_waiter : Option ObjectState → Bool
has_waiter None = false
has_waiter (Some b) = is_some_queued (queued b.view.state.kind_state)

-- The objects that have a waiter, in rising number.
abbrev pub waited_objects : JointState → List ℕ
waited_objects j = filter (λ o. has_waiter (slice_get j.objects o)) (range_with_len 0 (length j.objects))
