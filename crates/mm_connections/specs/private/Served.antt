-- What a contract sees of a service.
use Rattle.mm_connections.specs.Hub.{Hub}
use Rattle.mm_connections.specs.declared.served.ServedManager.{ServedManager}

abbrev pub hub_of : ServedManager → Hub
hub_of s = record { manager = s.manager; begun = s.begun; counts = s.counts; options = s.options }
