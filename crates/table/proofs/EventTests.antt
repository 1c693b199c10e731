-- One name that opens the tests of events by number to tests of the events themselves, as the code makes them.
use Rattle.table.specs.Events.{event, kind, hart, location, reads, writes, memory, same_location, po, between}
use Rattle.table.specs.Annotations.{flags, acquire, release, rcsc, address_depends, data_depends, control_depends}

unfoldable annotations : Unit {0}
unfolding event flags acquire release rcsc address_depends data_depends control_depends
annotations = tt

unfoldable pub of_events : Unit {0}
unfolding annotations event kind hart location reads writes memory same_location po between
of_events = tt
