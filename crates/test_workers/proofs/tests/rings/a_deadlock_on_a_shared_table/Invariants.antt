use Rattle.test_workers.proofs.tests.rings.a_deadlock_on_a_shared_table.Given as goal

-- the board and the ledgers that were just made
abbrev pub ghosts-four_turns_at_a_desk-N-Name : goal.ghosts-four_turns_at_a_desk-N-Name
ghosts-four_turns_at_a_desk-N-Name g a = record { board = a.prepared.board }

abbrev pub ghosts-four_turns_at_a_desk-A-Ledger : goal.ghosts-four_turns_at_a_desk-A-Ledger
ghosts-four_turns_at_a_desk-A-Ledger g a = record { name = a.prepared.accepted.name; parts = a.prepared.accepted.parts }

abbrev pub ghosts-four_turns_at_a_desk-V-Ledger : goal.ghosts-four_turns_at_a_desk-V-Ledger
ghosts-four_turns_at_a_desk-V-Ledger g a = record { name = a.prepared.verdicts.name; parts = a.prepared.verdicts.parts }

abbrev pub ghosts-four_turns_at_a_desk-B-Ledger : goal.ghosts-four_turns_at_a_desk-B-Ledger
ghosts-four_turns_at_a_desk-B-Ledger g a = record { name = a.prepared.aborts.name; parts = a.prepared.aborts.parts }
