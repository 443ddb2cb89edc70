use Rattle.std.proofs.Common.{◌≡◌, ℕ, ◌<◌, [], Bool, Option, Some, None, List, length, set, true, replicate, ap, ◌∙◌, sym, arith, refl, length-set, rules}
use Rattle.std.proofs.lemmas.List.{get_or_default, with_items_is}
use Rattle.kernel_rules.specs.declared.objects.Mapping.{Mapping}
use Rattle.arena_memory.specs.Mappings.{places_at}
use Rattle.arena_memory.specs.Marks.{mark_place, with_mark}
use Rattle.arena_memory.proofs.Markings.{holds_as, mapped_holds}
use Rattle.arena_memory.proofs.address_spaces.spaces.Spaces.map.Goals as goal

pub invariant_of-self : goal.invariant_of-self
invariant_of-self c =
    let ms = c.self.inside.places.items in
    let space = c.args.space.0 in
    let row = c.index_mut.result.now in
    let below : space < length ms = omega (arith, c.requires.space, ap length c.self.view_is) in
    let is : row ≡ places_at ms space = c.index_mut.ensures.value ∙ get_or_default ms space row [] below in
    let marks = c.self.inside.marks.items in
    let object = c.args.mapping.entry.object in
    let marked : c.set_mark.new.marks ≡ with_mark marks object = c.set_mark.ensures ∙ ap (λ (xs : List Bool). with_mark xs object) c.deref_mut.ensures.value in
    let given = c.deref_mut.result.now in
    let count = ap length c.set_mark.ensures ∙ length-set given (mark_place object (length given)) true ∙ c.deref_mut.ensures.len in
    holds_as _ _ _ _ (ap (λ (r : List (Option Mapping)). set ms space (set r c.args.place (Some c.args.mapping))) is)
    (with_items_is c.self.inside.marks c.set_mark.new.marks count ∙ marked)
    (mapped_holds ms marks c.self.invariant space below c.args.place c.requires.place c.args.mapping)
