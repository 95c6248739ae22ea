-- How an object is stored.
use Rattle.tm_book.specs.AnyMachines.{any_object}
use Rattle.tm_replay.specs.JointStates.{ObjectState}
use Rattle.tm_joint.specs.declared.objects.Object.TheInside.{Inside}

abbrev pub object_view : Inside → ObjectState
object_view o = record { view = any_object o.machine; at = o.at; stamp = o.stamp }
