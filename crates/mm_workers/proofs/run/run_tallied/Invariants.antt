use Rattle.mm_workers.proofs.run.run_tallied.Given as goal

-- the board and the ledgers that were just made
abbrev pub ghosts-run_on-N-Name : goal.ghosts-run_on-N-Name
ghosts-run_on-N-Name g a = record { board = a.prepared.board }

abbrev pub ghosts-run_on-A-Ledger : goal.ghosts-run_on-A-Ledger
ghosts-run_on-A-Ledger g a = record { name = a.prepared.accepted.name; parts = a.prepared.accepted.parts }

abbrev pub ghosts-run_on-V-Ledger : goal.ghosts-run_on-V-Ledger
ghosts-run_on-V-Ledger g a = record { name = a.prepared.verdicts.name; parts = a.prepared.verdicts.parts }

abbrev pub ghosts-run_on-B-Ledger : goal.ghosts-run_on-B-Ledger
ghosts-run_on-B-Ledger g a = record { name = a.prepared.aborts.name; parts = a.prepared.aborts.parts }
