use Rattle.two_threads.proofs.main.Given as goal

abbrev pub ghosts-share : goal.ghosts-share
ghosts-share g a = record { boot = a.booted }
