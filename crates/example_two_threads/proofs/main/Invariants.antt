use Rattle.example_two_threads.proofs.main.Given as goal

-- the board and the ledgers that were just made
abbrev pub ghosts-run_both-N-Name : goal.ghosts-run_both-N-Name
ghosts-run_both-N-Name g a = record { board = a.prepared.board }

abbrev pub ghosts-run_both-A-Ledger : goal.ghosts-run_both-A-Ledger
ghosts-run_both-A-Ledger g a = record { name = a.prepared.accepted.name; parts = a.prepared.accepted.parts }

abbrev pub ghosts-run_both-V-Ledger : goal.ghosts-run_both-V-Ledger
ghosts-run_both-V-Ledger g a = record { name = a.prepared.verdicts.name; parts = a.prepared.verdicts.parts }

abbrev pub ghosts-run_both-B-Ledger : goal.ghosts-run_both-B-Ledger
ghosts-run_both-B-Ledger g a = record { name = a.prepared.aborts.name; parts = a.prepared.aborts.parts }
