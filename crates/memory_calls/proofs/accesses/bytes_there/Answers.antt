use Rattle.std.proofs.Common.{sym}
use Rattle.kernel_store.specs.Locations.{place_in}
use Rattle.memory_calls.proofs.AccessLaws.{load_fits}
use Rattle.memory_calls.proofs.accesses.bytes_there.Goals as goal

pub bytes_from-requires-clause-few : goal.bytes_from-requires-clause-few
bytes_from-requires-clause-few g c =
    (load_fits (g.S.Store.state c.args.state.now) c.args.thread c.args.address c.args.count (place_in g.S.Store.id_of c.args.placed)
    c.requires.free (sym c.requires.place)).few

pub bytes_from-requires-clause-inside : goal.bytes_from-requires-clause-inside
bytes_from-requires-clause-inside g c =
    (load_fits (g.S.Store.state c.args.state.now) c.args.thread c.args.address c.args.count (place_in g.S.Store.id_of c.args.placed)
    c.requires.free (sym c.requires.place)).inside
