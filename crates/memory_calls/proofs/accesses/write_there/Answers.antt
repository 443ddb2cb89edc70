use Rattle.std.proofs.Common.{sym, ap, ◌∙◌, option_map}
use Rattle.kernel_store.specs.Locations.{place_in}
use Rattle.memory_calls.proofs.AccessLaws.{store_fits}
use Rattle.memory_calls.proofs.accesses.write_there.Goals as goal

pub write_bytes-requires-clause-inside : goal.write_bytes-requires-clause-inside
write_bytes-requires-clause-inside g c =
    rw c.as_slice.ensures.value
    (store_fits (g.S.Store.state c.args.state.now) c.args.thread c.args.address c.args.given.now
    (place_in g.S.Store.id_of c.in-Some.placed) c.requires.free
    (sym c.requires.place ∙ ap (option_map (place_in g.S.Store.id_of)) c.in-Some.is))
