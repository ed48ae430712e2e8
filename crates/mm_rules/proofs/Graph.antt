-- The laws of the wait-for graph: what they are, that each change of it keeps them, and what follows from them.

-- the laws, the changes of a graph, and the walks along its waits
pub mod Laws
pub mod Change
pub mod Walks
pub mod Cycles
-- each change keeps the laws, and the labels tell their makers
pub mod Block
pub mod Raise
pub mod Activate
pub mod LabelMakers
-- a process whose label returned is deadlocked, and its label stays returned
pub mod Deadlocked
pub mod LabelReturned
-- a graph with one process changed, and a whole hand-over
pub mod Update
pub mod HandOver
-- a waiting process gets a new label
pub mod Renew
-- raises until none applies: what then holds, how many there are, and that sweeps come to their end
pub mod IsSettled
pub mod IsGreatest
pub mod RaiseRun
pub mod RaiseBound
pub mod Settle
pub mod SettleEnds
-- which cycles a change closes
pub mod Closes
