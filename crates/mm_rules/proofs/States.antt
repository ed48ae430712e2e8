-- From the wait-for graph to the states of the table: each event keeps all laws, and what follows for every state that is reached.

-- the order of labels, how waits, owners and holders are read, and the lengths of a state's lists
pub mod LabelOrder
pub mod Lookups
pub mod IsSized
-- a lawful state has a lawful graph, and what an event has to keep
pub mod Laws
pub mod Outcome
-- changes that close no cycle of waits
pub mod ClosesNone
-- a table that was just opened
pub mod Wide
pub mod Opening
-- begin and acquire
pub mod Begin
pub mod Relabels
pub mod Grant
pub mod Acquire
pub mod AcquireWaits
-- transmit and detect
pub mod Transmit
pub mod Detect
-- give up
pub mod Activate
pub mod GiveUp
-- a hand-over, which is all of a release
pub mod Block
pub mod HandOverLaws
pub mod HandOver
pub mod Release
-- queues as lists, and hand-overs in any order
pub mod Queues
pub mod HandOverOrder
-- finish and abort
pub mod FreeSlot
pub mod Vacate
pub mod Abort
pub mod HandOverAll
-- settle: sweeps, how many labels they raise, and the detects of all that wait
pub mod Sweep
pub mod SweepRaises
pub mod DetectAll
pub mod Settle
-- settle as a loop: sweep after sweep, and the whole
pub mod SweepLoop
pub mod SettleStep
pub mod SettleKeeps
-- what the counts become, and the live key of a process
pub mod Totals
pub mod Counts
pub mod Tenants
-- all events, and what follows
pub mod Determined
pub mod Config
pub mod EventsKeepLaws
pub mod RaiseBound
pub mod SoundVerdicts
pub mod LawsAreNotEmpty
-- keys
pub mod SpentKeys
pub mod Keys
-- who is convicted, and where no settle is needed
pub mod EventsCloseNone
pub mod NoVictim
pub mod Victims
pub mod Rest
-- a withdrawal from rest
pub mod Renew
pub mod Withdraw
pub mod WithdrawLaws
-- a victim that takes back its wait
pub mod TakeBack
-- an owner for a resource that has none
pub mod Adopt
