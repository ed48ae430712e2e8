-- which connection began each transaction
pub mod Begun
-- how many transactions each connection has
pub mod Counts
-- what a connection asks for
pub mod Request
-- the words of the requests that only connections have
pub mod Forms
-- what a connection may ask for
pub mod Permission
-- what a line says
pub mod Line
-- what a transaction does
pub mod Status
-- a request of several names
pub mod Names
-- what a contract sees, and to which connection a line goes
pub mod Hub
-- what is read
pub mod Reads
-- what a connection is answered
pub mod Text
-- connections are apart
pub mod Apart
-- what a run of a service with connections reads and writes
pub mod Service
-- private: what contracts of private functions cite, and a law that `Answerer` asks for; no public clause cites these
pub mod private
