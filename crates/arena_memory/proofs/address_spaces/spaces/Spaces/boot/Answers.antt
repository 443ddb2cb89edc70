use Rattle.std.proofs.Common.{◌≡◌, ℕ, ◌<◌, [], Bool, Option, Some, None, List, length, set, true, replicate, ap, ◌∙◌, sym, arith, refl, length-set, rules}
use Rattle.std.proofs.lemmas.List.{get_or_default, with_items_is}
use Rattle.kernel_rules.specs.declared.objects.Mapping.{Mapping}
use Rattle.arena_memory.specs.Mappings.{places_at}
use Rattle.arena_memory.specs.Marks.{mark_place, with_mark}
use Rattle.arena_memory.proofs.Markings.{holds_as, none_holds}
use Rattle.arena_memory.proofs.address_spaces.spaces.Spaces.boot.Goals as goal

-- the places that were made
items : (c : goal.In_ok-marks) → c.resize.new.self.items ≡ replicate c.args.slots (replicate 16 None)
items c = search rules

pub invariant_of-result : goal.invariant_of-result
invariant_of-result c = holds_as _ _ _ _ (items c) refl (none_holds c.args.slots c.in_ok-marks.marks.items)

pub returns : goal.returns
returns c = items c
