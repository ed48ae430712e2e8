use Rattle.bench_shared.proofs.print_task.Given as goal

-- the board and the ledgers that were just made
abbrev pub ghosts-timed-N-Name : goal.ghosts-timed-N-Name
ghosts-timed-N-Name g a = record { board = a.prepared.board }

abbrev pub ghosts-timed-A-Ledger : goal.ghosts-timed-A-Ledger
ghosts-timed-A-Ledger g a = record { name = a.prepared.accepted.name; parts = a.prepared.accepted.parts }

abbrev pub ghosts-timed-V-Ledger : goal.ghosts-timed-V-Ledger
ghosts-timed-V-Ledger g a = record { name = a.prepared.verdicts.name; parts = a.prepared.verdicts.parts }

abbrev pub ghosts-timed-B-Ledger : goal.ghosts-timed-B-Ledger
ghosts-timed-B-Ledger g a = record { name = a.prepared.aborts.name; parts = a.prepared.aborts.parts }
