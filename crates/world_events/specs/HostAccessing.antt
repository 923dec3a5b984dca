-- The host's accesses as plain data.
use Rattle.world_events.specs.declared.host_accessing.WordAccess.{WordAccess as Made}
use Rattle.world_events.specs.declared.host_accessing.WordAccess.TheVariants as made_is
use Rattle.world_machine.specs.HostAccessing.{WordAccess, loads, stores}

abbrev pub access_now : Made → WordAccess
access_now made_is.Load = loads
access_now (made_is.Store word) = stores word
