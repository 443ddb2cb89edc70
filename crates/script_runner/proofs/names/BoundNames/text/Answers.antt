use Rattle.std.proofs.Common.{◌≡◌, rules}
use Rattle.script_runner.specs.Names.{named_of}
use Rattle.script_runner.proofs.NameLemmas.{entries_stand_once}
use Rattle.script_runner.proofs.names.BoundNames.text.Goals as goal

pub write_names-requires : goal.write_names-requires
write_names-requires c =
    let are : c.as_slice.result.now ≡ named_of c.self.inside.values.entries = search rules in
    entries_stand_once c.self.inside.values.entries c.as_slice.result.now are c.iter-name-items.ensures.unique
