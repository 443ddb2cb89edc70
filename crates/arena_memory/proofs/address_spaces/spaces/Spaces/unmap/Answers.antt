use Rattle.std.proofs.Common.{◌≡◌, ℕ, ◌<◌, [], Bool, Option, Some, None, List, length, set, true, replicate, ap, ◌∙◌, sym, arith, refl, length-set, rules}
use Rattle.std.proofs.lemmas.List.{get_or_default, with_items_is}
use Rattle.kernel_rules.specs.declared.objects.Mapping.{Mapping}
use Rattle.arena_memory.specs.Mappings.{places_at}
use Rattle.arena_memory.specs.Marks.{mark_place, with_mark}
use Rattle.arena_memory.proofs.Markings.{holds_as, emptied_holds}
use Rattle.arena_memory.proofs.address_spaces.spaces.Spaces.unmap.Goals as goal

pub invariant_of-self : goal.invariant_of-self
invariant_of-self c =
    let ms = c.self.inside.places.items in
    let space = c.args.space.0 in
    let row = c.index_mut.result.now in
    let below : space < length ms = omega (arith, c.requires.space, ap length c.self.view_is) in
    let is : row ≡ places_at ms space = c.index_mut.ensures.value ∙ get_or_default ms space row [] below in
    holds_as _ _ _ _ (ap (λ (r : List (Option Mapping)). set ms space (set r c.args.place None)) is) refl
    (emptied_holds ms c.self.inside.marks.items c.self.invariant space below c.args.place c.requires.place)
