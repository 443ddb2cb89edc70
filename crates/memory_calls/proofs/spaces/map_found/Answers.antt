use Rattle.std.proofs.Common.{sym, ◌∙◌}
use Rattle.kernel_store.specs.Locations.{entry_of}
use Rattle.memory_calls.proofs.LengthLaws.{map_fits}
use Rattle.memory_calls.proofs.MappingLaws.{mapped_names}
use Rattle.memory_calls.proofs.spaces.map_found.Goals as goal

pub set_slot-requires-clause-slot : goal.set_slot-requires-clause-slot
set_slot-requires-clause-slot g c = map_fits _ _ _ _ _ (sym c.refused_as_map.ensures.value ∙ c.in_default.is)

pub set_slot-requires-clause-segment : goal.set_slot-requires-clause-segment
set_slot-requires-clause-segment g c =
    let named = c.args.named in
    mapped_names (g.S.Store.state c.args.state.now) (g.S.Store.id_of named.caller) (entry_of g.S.Store.id_of named)
    c.args.filling.now.slot c.args.filling.now.mapping.now (sym c.refused_as_map.ensures.value ∙ c.in_default.is)
