use Rattle.std.proofs.Common.{rules, ◌≡◌, ◌≢◌, ℕ, ◌<◌, inl, inr, true, false, List, [], ◌∷◌, ◌++◌, length, get_or, take, refl, sym, ap, ◌∙◌, arith, length-take}
use Rattle.std.proofs.lemmas.Bool.{cases_Bool, both_ways}
use Rattle.std.proofs.lemmas.List.{take_more, get_or_default}
use Rattle.std.proofs.lemmas.List.Folds.{list_all_at}
use Rattle.base.specs.Live.{has, links}
use Rattle.containers.specs.Tree.{ids_in, add_lists, link_count}
use Rattle.containers.proofs.Lists.{list_of_links}
use Rattle.containers.proofs.Views.{has_at}
use Rattle.arena_state.specs.Restored.{given}
use Rattle.arena_state.proofs.LaidLaws.{ids_given, given_empty, given_more, links_beside, links_given, count_given, fresh_at}
use Rattle.arena_state.proofs.restores.trees.link_all.Goals as goal

pub loop-id-init : goal.loop-id-init
loop-id-init c = (sym (given_empty c.args.draft.now.lists c.args.container c.requires.rises c.requires.empty), refl)

pub link-requires-clause-container : goal.link-requires-clause-container
link-requires-clause-container c =
    ap (λ (t : List (ℕ × List ℕ)). has (ids_in t) c.args.container) c.loop-id.invariant.0
    ∙ ap (λ (xs : List ℕ). has xs c.args.container) (ids_given c.args.draft.now.lists c.args.container (take c.loop-id.id-index c.args.ids.now))
    ∙ c.requires.container

pub link-requires-clause-object : goal.link-requires-clause-object
link-requires-clause-object c =
    let within : c.loop-id.id-index < length c.args.ids.now = search rules in
    let at : get_or c.args.ids.now c.loop-id.id-index 0 ≡ c.id-item.result = get_or_default c.args.ids.now c.loop-id.id-index 0 c.id-item.result within ∙ sym c.id-item.is in
    let o = get_or c.args.ids.now c.loop-id.id-index 0 in
    let was : has (ids_in c.args.draft.now.lists) o ≡ true = elim (cases_Bool (has (ids_in c.args.draft.now.lists) o)) [
      | inl yes' ↦ yes'
      | inr off ↦ absurd (both_ways _ (list_all_at (has (ids_in c.args.draft.now.lists)) c.args.ids.now c.loop-id.id-index 0 within off) c.requires.there)
    ] in
    ap (λ (t : List (ℕ × List ℕ)). has (ids_in t) c.id-item.result) c.loop-id.invariant.0
    ∙ ap (λ (xs : List ℕ). has xs c.id-item.result) (ids_given c.args.draft.now.lists c.args.container (take c.loop-id.id-index c.args.ids.now))
    ∙ ap (has (ids_in c.args.draft.now.lists)) (sym at) ∙ was

pub link-requires-clause-reached : goal.link-requires-clause-reached
link-requires-clause-reached c = elim c.requires.reached [
  | inl root ↦ inl root
  | inr linked ↦
      let ne : linked.0 ≢ c.args.container = λ e.
      let own : links c.args.draft.now.lists c.args.container c.args.container ≡ true
      = ap (λ (a : ℕ). links c.args.draft.now.lists a c.args.container) (sym e) ∙ linked.1 in
      both_ways false refl (ap (λ (xs : List ℕ). has xs c.args.container) (sym c.requires.empty)
      ∙ list_of_links c.args.draft.now.lists c.args.container c.args.container c.requires.rises own) in
      inr (
        linked.0,
        ap (λ (t : List (ℕ × List ℕ)). links t linked.0 c.args.container) c.loop-id.invariant.0
            ∙ links_beside c.args.draft.now.lists c.args.container (take c.loop-id.id-index c.args.ids.now) linked.0 c.args.container ne ∙ linked.1,
      )
]

pub link-requires-clause-fresh : goal.link-requires-clause-fresh
link-requires-clause-fresh c =
    let within : c.loop-id.id-index < length c.args.ids.now = search rules in
    let at : get_or c.args.ids.now c.loop-id.id-index 0 ≡ c.id-item.result = get_or_default c.args.ids.now c.loop-id.id-index 0 c.id-item.result within ∙ sym c.id-item.is in
    ap (λ (t : List (ℕ × List ℕ)). links t c.args.container c.id-item.result) c.loop-id.invariant.0
    ∙ links_given c.args.draft.now.lists c.args.container (take c.loop-id.id-index c.args.ids.now) c.id-item.result
    (ap (has (take c.loop-id.id-index c.args.ids.now)) (sym at) ∙ fresh_at c.args.ids.now c.loop-id.id-index c.requires.distinct within)

pub link-requires-clause-not_root : goal.link-requires-clause-not_root
link-requires-clause-not_root c e =
    let within : c.loop-id.id-index < length c.args.ids.now = search rules in
    let at : get_or c.args.ids.now c.loop-id.id-index 0 ≡ c.id-item.result = get_or_default c.args.ids.now c.loop-id.id-index 0 c.id-item.result within ∙ sym c.id-item.is in
    both_ways (has c.args.ids.now 1) c.requires.no_root (has_at c.args.ids.now c.loop-id.id-index 1 within (at ∙ e))

pub link-requires-clause-room : goal.link-requires-clause-room
link-requires-clause-room c =
    let within : c.loop-id.id-index < length c.args.ids.now = search rules in
    let at : get_or c.args.ids.now c.loop-id.id-index 0 ≡ c.id-item.result = get_or_default c.args.ids.now c.loop-id.id-index 0 c.id-item.result within ∙ sym c.id-item.is in
    let few = count_given c.args.draft.now.lists c.args.container (take c.loop-id.id-index c.args.ids.now) c.requires.rises in
    omega (arith, few, within, c.requires.room, ap link_count c.loop-id.invariant.0, c.loop-id.invariant.1, length-take c.loop-id.id-index c.args.ids.now)

pub loop-id-preserved : goal.loop-id-preserved
loop-id-preserved c =
    let within : c.loop-id.id-index < length c.args.ids.now = search rules in
    let at : get_or c.args.ids.now c.loop-id.id-index 0 ≡ c.id-item.result = get_or_default c.args.ids.now c.loop-id.id-index 0 c.id-item.result within ∙ sym c.id-item.is in
    let pre = take c.loop-id.id-index c.args.ids.now in (
      ap (λ t. t.lists) c.link.ensures.linked
          ∙ ap (λ (t : List (ℕ × List ℕ)). add_lists t c.args.container c.id-item.result) c.loop-id.invariant.0
          ∙ given_more c.args.draft.now.lists c.args.container pre c.id-item.result
          ∙ ap (λ (o : ℕ). given c.args.draft.now.lists c.args.container (pre ++ o ∷ [])) (sym at)
          ∙ ap (given c.args.draft.now.lists c.args.container) (sym (take_more c.args.ids.now c.loop-id.id-index 0 within)),
      ap (λ t. length t.cells) c.link.ensures.linked ∙ c.loop-id.invariant.1,
    )
