use Rattle.std.proofs.Common.{◌≡◌, ℕ, ◌<◌, [], Bool, Option, Some, None, List, length, set, true, replicate, ap, ◌∙◌, sym, arith, refl, length-set, rules}
use Rattle.std.proofs.lemmas.List.{get_or_default, with_items_is}
use Rattle.kernel_rules.specs.declared.objects.Mapping.{Mapping}
use Rattle.arena_memory.specs.Mappings.{places_at}
use Rattle.arena_memory.specs.Marks.{mark_place, with_mark}
use Rattle.arena_memory.proofs.Markings.{released_holds}
use Rattle.arena_memory.proofs.address_spaces.spaces.Spaces.release.Goals as goal

pub invariant_of-self : goal.invariant_of-self
invariant_of-self c =
    let ms = c.self.inside.places.items in
    let below : c.args.space.0 < length ms = omega (arith, c.requires, ap length c.self.view_is) in
    released_holds ms c.self.inside.marks.items c.self.invariant c.args.space.0 below
