-- What contracts see of any machine.
use Rattle.tm_base.specs.Machines.{ObjectView}
use Rattle.tm_book.specs.declared.any_machines.AnyMachine.{AnyMachine}
use Rattle.tm_book.specs.declared.any_machines.AnyMachine.TheVariants as any

-- The object that the machine is.
abbrev pub any_object : AnyMachine → ObjectView
any_object (any.Mutex m) = m
any_object (any.Sem m) = m
any_object (any.Hoare m) = m
any_object (any.Mesa m) = m
any_object (any.Barrier m) = m
any_object (any.Rw m) = m
any_object (any.Sync m) = m
any_object (any.Async m) = m
any_object (any.Var m) = m
any_object (any.Thread m) = m
