use Rattle.test_shared.proofs.tests.board.stores_reads_and_shows.Given as goal

-- the board that was just made
abbrev pub ghosts-store_read_and_show : goal.ghosts-store_read_and_show
ghosts-store_read_and_show g a = record { board = a.raw }
