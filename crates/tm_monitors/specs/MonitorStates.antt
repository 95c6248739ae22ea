-- The parts of a monitor's state that its laws speak of.
use Rattle.std.specs.Prelude.{ℕ, List, [], Option, None, slice_get}
use Rattle.tm_base.specs.States.{KindState, HoareState, MesaState}
use Rattle.tm_monitors.specs.MonitorQueues.{waiting_at}

-- Who is inside a monitor in this state, if anyone.
abbrev pub inside_of : KindState → Option ℕ
inside_of (HoareState inside entrance urgent conditions) = inside
inside_of (MesaState inside entrance conditions) = inside
inside_of other = None

-- The signallers that wait in a Hoare monitor, the newest first.
abbrev pub urgent_of : KindState → List ℕ
urgent_of (HoareState inside entrance urgent conditions) = urgent
urgent_of other = []

-- The oldest that waits at the condition of a Hoare monitor, if anyone.
abbrev pub oldest_at : KindState → ℕ → Option ℕ
oldest_at (HoareState inside entrance urgent conditions) c = slice_get (waiting_at conditions c) 0
oldest_at other c = None
