-- the processes and the ends of a list of keys
pub mod Ends
-- what the ends, the links and the tags say of the queues
pub mod AreLinked
-- a key that is put last in a list
pub mod Pushed
-- a key that is taken out of its list
pub mod Removed
-- the entries as links and tags, and what each call makes of them
pub mod Entries
