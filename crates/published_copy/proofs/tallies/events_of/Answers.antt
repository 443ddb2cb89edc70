use Rattle.std.proofs.Common.{◌<◌, ◌≤◌, refl, sym, ap, ◌∙◌, length, slice_get}
use Rattle.std.proofs.lemmas.Option.{slice_get_read, slice_get_past}
use Rattle.published_copy.proofs.TallyLaws.{tallied-found, tallied-missing}
use Rattle.published_copy.proofs.tallies.events_of.Goals as goal

pub returns-in-None : goal.returns-in-None
returns-in-None c =
    let past : length c.args.tallies.now ≤ c.place_of.result = c.in-None.ensures.lookup.3 in
    sym (tallied-missing c.args.thread c.args.tallies.now
    (ap (slice_get c.args.tallies.now) (sym c.place_of.ensures.place)
    ∙ slice_get_past c.args.tallies.now c.place_of.result past))

pub returns-in-Some : goal.returns-in-Some
returns-in-Some c =
    let less : c.place_of.result < length c.args.tallies.now = c.in-Some.ensures.lookup.3.0 in
    sym (tallied-found c.args.thread c.args.tallies.now c.in-Some.tally.now
    (ap (slice_get c.args.tallies.now) (sym c.place_of.ensures.place)
    ∙ slice_get_read c.args.tallies.now _ c.place_of.result c.in-Some.tally.now refl less
    c.in-Some.ensures.lookup.1))
