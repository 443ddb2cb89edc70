use Rattle.std.proofs.Common.{◌<◌, length, subst}
use Rattle.published_copy.proofs.TallyLaws.{tallied-set}
use Rattle.published_copy.proofs.tallies.set_events.Goals as goal

pub returns : goal.returns
returns c other =
    let within = subst (λ p. p < length c.args.tallies.now) c.requires.place c.requires.within in
    rw c.requires.place (tallied-set c.args.thread other c.args.events c.args.tallies.now within)
