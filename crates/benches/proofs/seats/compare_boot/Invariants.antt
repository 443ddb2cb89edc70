use Rattle.benches.proofs.seats.compare_boot.Given as goal

abbrev pub ghosts-compare_opened : goal.ghosts-compare_opened
ghosts-compare_opened g a = record { boot = a.boot }
