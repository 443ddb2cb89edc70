use Rattle.script_runner.proofs.play.play_seated.Given as goal

abbrev pub ghosts-play_shared : goal.ghosts-play_shared
ghosts-play_shared g a = record { boot = a.boot }
