-- what a report holds
pub mod Report
-- what came of a workload
pub mod WorkEnd
