use Rattle.std.proofs.Common.{◌≡◌, ◌++◌, ◌∷◌, [], length, rules}
use Rattle.published_copy.specs.declared.tallies.Tally.{Tally}
use Rattle.published_copy.specs.Tallies.{place_of}
use Rattle.published_copy.proofs.TallyLaws.{tallied-new}
use Rattle.published_copy.proofs.tallies.count_events.Goals as goal

pub returns-then-place-len : goal.returns-then-place-len
returns-then-place-len c other =
    let old = c.args.tallies.now.items in
    let thread = c.args.thread in
    let last : Tally = record { thread = thread; events = c.args.events } in
    let items : c.push_reserved.new.self.items ≡ old ++ last ∷ [] = search rules in
    let none : place_of thread old ≡ length old = search rules in
    rw items (tallied-new thread other c.args.events old none)
