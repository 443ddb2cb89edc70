use Rattle.published_copy.specs.Boots.{boot_of}
use Rattle.script_runner.proofs.play.play_turns.Given as goal

abbrev pub ghosts-play_alone : goal.ghosts-play_alone
ghosts-play_alone a = record {
  boot = boot_of (record { number = 0; log_name = 0; cells_name = 0 }) a.limits.now a.seats;
}
