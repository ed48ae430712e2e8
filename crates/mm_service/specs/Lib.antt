-- the words of the requests, with what follows each
pub mod Words
-- the requests that a line can make
pub mod Forms
-- what a line is
pub mod Line
-- how replies are printed
pub mod Reply
-- the reply to a lock, with the cycle of a deadlock
pub mod Cycle
-- the names that a transaction owns
pub mod Holds
-- what a service is answered
pub mod Text
-- what a run of a service reads and writes
pub mod Service
-- private: how forms are kept, and a law that `Answerer` asks for; no public clause cites these
pub mod private
