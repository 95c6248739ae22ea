-- What contracts see of a variable.
use Rattle.std.specs.Prelude.{◌+◌, None, replicate}
use Rattle.tm_base.specs.declared.kinds.Kind.TheVariants as kind
use Rattle.tm_base.specs.States.{VarState}
use Rattle.tm_base.specs.Machines.{ObjectView}
use Rattle.tm_channels.specs.declared.variables.VarM.TheInside.{Inside}

-- The object that the fields stand for. No thread ever has a granted reply.
abbrev pub variable_object : Inside → ObjectView
variable_object m = record {
  kind = kind.Var m.start;
  threads = m.threads;
  state = record { kind_state = VarState m.value; granted = replicate (m.threads + 1) None; stopped = m.stopped };
}
