-- What contracts see of a Hoare monitor.
use Rattle.std.specs.Prelude.{◌≡◌, ℕ, ◌+◌, length, Option, None, option_to_list}
use Rattle.tm_base.specs.declared.kinds.Kind.TheVariants as kind
use Rattle.tm_base.specs.declared.replies.Reply.TheVariants as reply
use Rattle.tm_base.specs.States.{KindState, HoareState, granting}
use Rattle.tm_base.specs.Machines.{ObjectView, changed}
use Rattle.tm_base.specs.Hoare.{hoare_heir, hoare_handed_on}
use Rattle.tm_monitors.specs.declared.hoare_monitors.HoareM.TheInside.{Inside}

-- The object that the fields stand for.
abbrev pub hoare_object : Inside → ObjectView
hoare_object m = record {
  kind = kind.Hoare (length m.queues.conditions);
  threads = m.queues.threads;
  state = record {
    kind_state = HoareState m.inside m.queues.entrance m.urgent.queue m.queues.conditions;
    granted = m.grants;
    stopped = m.stopped;
  };
}

-- The stack is of the same threads as the queues, and each thread has a place for its granted reply.
pub record KeepsHoare (m : Inside) : Type 0 where
  pub urgent : m.urgent.threads ≡ m.queues.threads
  pub places : length m.grants ≡ m.queues.threads + 1

-- To whom a Hoare monitor in this state is handed on.
abbrev pub heir_in_hoare : KindState → Option ℕ
heir_in_hoare (HoareState inside entrance urgent conditions) = hoare_heir entrance urgent
heir_in_hoare other = None

-- The state after it was handed on.
abbrev pub next_in_hoare : KindState → KindState
next_in_hoare (HoareState inside entrance urgent conditions) = hoare_handed_on entrance urgent conditions
next_in_hoare other = other

-- The Hoare monitor after it was handed on to its heir, who is granted `ok`.
abbrev pub hoare_after : ObjectView → ObjectView
hoare_after h =
    let own = h.state.kind_state in
    changed h (granting h.state (next_in_hoare own) (option_to_list (heir_in_hoare own)) reply.Ok)
