-- What a connection asks for.
use Rattle.std.specs.Prelude.{ℕ, List, []}
use Rattle.mm_service.specs.declared.line.Request.{Request}
use Rattle.mm_service.specs.declared.line.Request.TheVariants as requests
use Rattle.mm_service.specs.declared.requests.KeyRequest.TheVariants as of_key
use Rattle.mm_connections.specs.declared.request.ClientRequest.{ClientRequest}
use Rattle.mm_connections.specs.declared.request.ClientRequest.TheVariants.{Begin, Plain, Read}
use Rattle.mm_connections.specs.declared.request.ReadRequest.TheVariants as read

-- a request, and the bytes that it is about: one name, or the whole request if it is about several
pub record AskedByClient : Type 0 where
  pub request : ClientRequest
  pub about : List ℕ

-- a request of the lock service without connections
abbrev pub client_asked : Request → List ℕ → AskedByClient
client_asked requests.Begin name = record { request = Begin; about = [] }
client_asked (requests.Holds k) name = record { request = Read (read.Holds k); about = name }
client_asked (requests.OfKey of_key.Status k) name = record { request = Read (read.Status k); about = name }
client_asked requests.Graph name = record { request = Read read.Graph; about = name }
client_asked request name = record { request = Plain request; about = name }
