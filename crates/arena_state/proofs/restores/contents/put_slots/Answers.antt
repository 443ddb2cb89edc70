use Rattle.std.proofs.Common.{rules, ◌≡◌, ◌<◌, List, [], ◌++◌, length, get_or, take, drop, set, replicate, Option, Some, None, sym, ap, ◌∙◌, arith, get_or-set_same}
use Rattle.std.proofs.lemmas.List.{get_or_default, set-get_or, set-set, get_or-replicate}
use Rattle.kernel_rules.specs.declared.objects.Mapping.{Mapping}
use Rattle.arena_memory.specs.Mappings.{places_at}
use Rattle.arena_state.proofs.PutLaws.{filled_next, kept_next}
use Rattle.arena_state.proofs.restores.contents.put_slots.Goals as goal
use Rattle.arena_state.proofs.restores.contents.put_slots.Goals.{in-Some, in_default}

abbrev none : List (Option Mapping)
none = replicate 16 None

pub loop-place-init : goal.loop-place-init
loop-place-init c =
    sym (ap (set c.args.spaces.now c.args.slot.0) (sym c.requires.blank) ∙ set-get_or c.args.spaces.now c.args.slot.0 [])

pub loop-place-preserved : goal.loop-place-preserved
loop-place-preserved c =
    let p = c.loop-place.place in
    let slots = c.args.slots.now in
    let old = c.args.spaces.now in
    let s = c.args.slot.0 in
    let mid : List (Option Mapping) = take p slots ++ drop p none in
    let within : p < length slots = search rules in
    elim c.match-slots-place.branch [
      | in-Some w ↦
          let self : get_or slots p (Some w.in-Some.mapping) ≡ Some w.in-Some.mapping = search rules in
          let here : get_or slots p None ≡ Some w.in-Some.mapping = get_or_default slots p None (Some w.in-Some.mapping) within ∙ self in
          let places : places_at c.loop-place.spaces s ≡ mid = ap (λ (xs : List (List (Option Mapping))). places_at xs s) c.loop-place.invariant ∙ get_or-set_same old s mid [] c.requires.slot in
          w.spaces-is ∙ w.map.ensures
          ∙ ap (λ (xs : List (Option Mapping)). set c.loop-place.spaces s (set xs p (Some w.in-Some.mapping))) places
          ∙ ap (λ (m : Option Mapping). set c.loop-place.spaces s (set mid p m)) (sym here)
          ∙ ap (λ (xs : List (List (Option Mapping))). set xs s (set mid p (get_or slots p None))) c.loop-place.invariant
          ∙ set-set old s mid (set mid p (get_or slots p None))
          ∙ ap (set old s) (filled_next slots none p within (omega (arith, within, c.requires.sixteen)))
      | in_default w ↦
          let here : get_or slots p None ≡ None = search rules in
          w.spaces-is ∙ c.loop-place.invariant
          ∙ ap (set old s) (kept_next slots none p within (omega (arith, within, c.requires.sixteen)) (here ∙ sym (get_or-replicate 16 p None None (omega (arith, within, c.requires.sixteen)))))
    ]
