-- What contracts see of a Mesa monitor.
use Rattle.std.specs.Prelude.{◌≡◌, ℕ, ◌+◌, length, Option, None, option_to_list}
use Rattle.tm_base.specs.declared.kinds.Kind.TheVariants as kind
use Rattle.tm_base.specs.declared.replies.Reply.TheVariants as reply
use Rattle.tm_base.specs.States.{KindState, MesaState, granting}
use Rattle.tm_base.specs.Machines.{ObjectView, changed}
use Rattle.tm_base.specs.Mesa.{mesa_heir, mesa_handed_on}
use Rattle.tm_monitors.specs.declared.mesa_monitors.MesaM.TheInside.{Inside}

-- The object that the fields stand for.
abbrev pub mesa_object : Inside → ObjectView
mesa_object m = record {
  kind = kind.Mesa (length m.queues.conditions);
  threads = m.queues.threads;
  state = record {
    kind_state = MesaState m.inside m.queues.entrance m.queues.conditions;
    granted = m.grants;
    stopped = m.stopped;
  };
}

-- Each thread has a place for its granted reply.
abbrev pub KeepsMesa : Inside → Type 0
KeepsMesa m = length m.grants ≡ m.queues.threads + 1

-- To whom a Mesa monitor in this state is handed on.
abbrev pub heir_in_mesa : KindState → Option ℕ
heir_in_mesa (MesaState inside entrance conditions) = mesa_heir entrance
heir_in_mesa other = None

-- The state after it was handed on.
abbrev pub next_in_mesa : KindState → KindState
next_in_mesa (MesaState inside entrance conditions) = mesa_handed_on entrance conditions
next_in_mesa other = other

-- The Mesa monitor after it was handed on to its heir, who is granted `ok`.
abbrev pub mesa_after : ObjectView → ObjectView
mesa_after h =
    let own = h.state.kind_state in
    changed h (granting h.state (next_in_mesa own) (option_to_list (heir_in_mesa own)) reply.Ok)
