use Rattle.std.proofs.Common.{◌∙◌}
use Rattle.std.proofs.lemmas.Bool.{both_ways}
use Rattle.base.specs.Live.{has}
use Rattle.containers.specs.Tree.{ids_in}
use Rattle.containers.proofs.Lists.{links_has}
use Rattle.containers.proofs.tree.Containers.unref.Goals as goal

pub unreachable-requires : goal.unreachable-requires
unreachable-requires g c =
    both_ways (has (ids_in c.args.self.now.lists) c.args.object) c.in-None-find.ensures.absent (c.well_formed-2.ensures.listed c.args.container c.args.object c.requires.listed)

pub unreachable-requires-in-None : goal.unreachable-requires-in-None
unreachable-requires-in-None g c =
    both_ways (has (ids_in c.args.self.now.lists) c.args.container) c.in-None.ensures.absent (links_has c.args.self.now.lists c.args.container c.args.object c.requires.listed)

pub returns-clause-kept : goal.returns-clause-kept
returns-clause-kept g c = c.unref_found-was_listed.ensures.kept (c.unref_found-was_listed.ensures.told ∙ c.requires.listed)
