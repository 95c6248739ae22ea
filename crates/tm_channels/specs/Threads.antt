-- What contracts see of a thread object.
use Rattle.std.specs.Prelude.{◌≡◌, ℕ, ◌≤◌, Bool, true, false, List, [], ◌∷◌}
use Rattle.tm_base.specs.declared.kinds.Kind.TheVariants as kind
use Rattle.tm_base.specs.States.{ThreadObjectState}
use Rattle.tm_base.specs.Machines.{ObjectView}
use Rattle.tm_channels.specs.declared.thread_objects.ThreadM.TheInside.{Inside}

-- The thread alone, or nobody.
abbrev pub alone_if : Bool → ℕ → List ℕ
alone_if true t = t ∷ []
alone_if false t = []

-- The object that the fields stand for.
abbrev pub thread_object_view : Inside → ObjectView
thread_object_view m = record {
  kind = kind.Thread m.own m.held;
  threads = m.waiting.threads;
  state = record { kind_state = ThreadObjectState m.started m.begun m.ended (alone_if m.beginning m.own) m.waiting.queue; granted = m.waiting.granted; stopped = m.waiting.stopped };
}

-- The own thread is one of the threads, and waits in `begin` only once it has come there.
pub record KeepsThread (m : Inside) : Type 0 where
  pub known : m.own ≤ m.waiting.threads
  pub came : m.begun ≡ false → m.beginning ≡ false
