use Rattle.example_calls.proofs.watch.watch_labels.Given as goal

-- the board that was just made
abbrev pub ghosts-watch_on : goal.ghosts-watch_on
ghosts-watch_on a = record { board = a.raw }
