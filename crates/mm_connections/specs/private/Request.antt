-- What a contract sees of what a connection asks for.
use Rattle.mm_connections.specs.Request.{AskedByClient}
use Rattle.mm_connections.specs.declared.request.ClientAsked.{ClientAsked}

abbrev pub asked_of : ClientAsked → AskedByClient
asked_of a = record { request = a.request; about = a.about.now }
