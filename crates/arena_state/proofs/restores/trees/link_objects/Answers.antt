use Rattle.std.proofs.Common.{rules, ◌≡◌, ℕ, ◌⊎◌, true, List, [], ◌∷◌, ◌++◌, length, refl, sym, ap, ◌∙◌, subst, arith}
use Rattle.std.specs.List.{list_all}
use Rattle.std.proofs.lemmas.List.{append_assoc}
use Rattle.base.specs.Live.{has, links}
use Rattle.containers.specs.Objects.{Rises}
use Rattle.containers.specs.Tree.{ids_in, list_of, link_count}
use Rattle.kernel_rules.specs.State.{listed, lists_of}
use Rattle.kernel_rules.specs.WellFormed.{is_distinct}
use Rattle.kernel_rules.specs.declared.objects.Object.{Object}
use Rattle.base.specs.declared.sets.TypeSet.{TypeSet}
use Rattle.kernel_rules.specs.declared.objects.Body as body
use Rattle.kernel_rules.specs.declared.objects.Body.TheVariants as is
use Rattle.plain_state.specs.Recorded.{records_state}
use Rattle.arena_state.specs.Restored.{bare, given}
use Rattle.arena_state.proofs.LaidLaws.{has_middle, list_middle, given_middle, lists_more}
use Rattle.arena_state.proofs.HoldLaws.{here_kept, rises_here, first_absent, last_absent, there_here, no_root_here, room_here, reached_here}
use Rattle.arena_state.proofs.restores.trees.link_objects.Goals as goal

-- what is no container lists nothing
no_list : (b : body.Body) → ((avoid : TypeSet) (list : List ℕ) → b ≡ is.Container avoid list → ⊥) → listed b ≡ []
no_list (is.Container avoid list) not = absurd (not avoid list refl)
no_list (is.Segment bytes) not = refl
no_list (is.AddressSpace slots) not = refl
no_list (is.Thread t) not = refl
no_list (is.Gate g) not = refl
no_list (is.Device packets) not = refl

pub link_all-requires-clause-rises : goal.link_all-requires-clause-rises
link_all-requires-clause-rises c =
    let s = records_state c.args.records.now in
    let e : ℕ × Object = (c.in-Some.id.now, c.in-Some.object.now) in
    let rest = c.next.new.self in
    let step : c.loop-id.id-iterator ≡ e ∷ rest = search rules in
    let done = c.loop-id.invariant.0 in
    let split : done ++ e ∷ rest ≡ c.args.records.now.objects.entries = ap (λ (xs : List (ℕ × Object)). done ++ xs) (sym step) ∙ c.loop-id.invariant.2 in
    let shape : c.loop-id.draft.lists ≡ lists_of done ++ bare (e ∷ rest) = c.loop-id.invariant.1 ∙ ap (λ (xs : List (ℕ × Object)). lists_of done ++ bare xs) step in
    subst (λ (t : List (ℕ × List ℕ)). Rises (ids_in t)) (sym shape) (rises_here s c.requires.holdable done e rest split)

pub link_all-requires-clause-container : goal.link_all-requires-clause-container
link_all-requires-clause-container c =
    let s = records_state c.args.records.now in
    let e : ℕ × Object = (c.in-Some.id.now, c.in-Some.object.now) in
    let rest = c.next.new.self in
    let step : c.loop-id.id-iterator ≡ e ∷ rest = search rules in
    let done = c.loop-id.invariant.0 in
    let split : done ++ e ∷ rest ≡ c.args.records.now.objects.entries = ap (λ (xs : List (ℕ × Object)). done ++ xs) (sym step) ∙ c.loop-id.invariant.2 in
    let shape : c.loop-id.draft.lists ≡ lists_of done ++ bare (e ∷ rest) = c.loop-id.invariant.1 ∙ ap (λ (xs : List (ℕ × Object)). lists_of done ++ bare xs) step in
    ap (λ (t : List (ℕ × List ℕ)). has (ids_in t) e.0) shape ∙ has_middle (lists_of done) e.0 [] (bare rest)

pub link_all-requires-clause-empty : goal.link_all-requires-clause-empty
link_all-requires-clause-empty c =
    let s = records_state c.args.records.now in
    let e : ℕ × Object = (c.in-Some.id.now, c.in-Some.object.now) in
    let rest = c.next.new.self in
    let step : c.loop-id.id-iterator ≡ e ∷ rest = search rules in
    let done = c.loop-id.invariant.0 in
    let split : done ++ e ∷ rest ≡ c.args.records.now.objects.entries = ap (λ (xs : List (ℕ × Object)). done ++ xs) (sym step) ∙ c.loop-id.invariant.2 in
    let shape : c.loop-id.draft.lists ≡ lists_of done ++ bare (e ∷ rest) = c.loop-id.invariant.1 ∙ ap (λ (xs : List (ℕ × Object)). lists_of done ++ bare xs) step in
    ap (λ (t : List (ℕ × List ℕ)). list_of t e.0) shape ∙ list_middle (lists_of done) e.0 [] (bare rest) (first_absent s c.requires.holdable done e rest split)

pub link_all-requires-clause-reached : goal.link_all-requires-clause-reached
link_all-requires-clause-reached c =
    let s = records_state c.args.records.now in
    let e : ℕ × Object = (c.in-Some.id.now, c.in-Some.object.now) in
    let rest = c.next.new.self in
    let step : c.loop-id.id-iterator ≡ e ∷ rest = search rules in
    let done = c.loop-id.invariant.0 in
    let split : done ++ e ∷ rest ≡ c.args.records.now.objects.entries = ap (λ (xs : List (ℕ × Object)). done ++ xs) (sym step) ∙ c.loop-id.invariant.2 in
    let shape : c.loop-id.draft.lists ≡ lists_of done ++ bare (e ∷ rest) = c.loop-id.invariant.1 ∙ ap (λ (xs : List (ℕ × Object)). lists_of done ++ bare xs) step in
    subst (λ (t : List (ℕ × List ℕ)). (e.0 ≡ 1) ⊎ ((a : ℕ) × (links t a e.0 ≡ true))) (sym shape) (reached_here s c.requires.holdable done e rest split (search rules))

pub link_all-requires-clause-there : goal.link_all-requires-clause-there
link_all-requires-clause-there c =
    let s = records_state c.args.records.now in
    let e : ℕ × Object = (c.in-Some.id.now, c.in-Some.object.now) in
    let rest = c.next.new.self in
    let step : c.loop-id.id-iterator ≡ e ∷ rest = search rules in
    let done = c.loop-id.invariant.0 in
    let split : done ++ e ∷ rest ≡ c.args.records.now.objects.entries = ap (λ (xs : List (ℕ × Object)). done ++ xs) (sym step) ∙ c.loop-id.invariant.2 in
    let shape : c.loop-id.draft.lists ≡ lists_of done ++ bare (e ∷ rest) = c.loop-id.invariant.1 ∙ ap (λ (xs : List (ℕ × Object)). lists_of done ++ bare xs) step in
    let list : listed c.in-Some.object.now.body ≡ c.as_slice.result.now = search rules in
    ap (λ (t : List (ℕ × List ℕ)). list_all (has (ids_in t)) c.as_slice.result.now) shape ∙ ap (list_all (has (ids_in (lists_of done ++ bare (e ∷ rest))))) (sym list) ∙ there_here s c.requires.holdable done e rest split

pub link_all-requires-clause-distinct : goal.link_all-requires-clause-distinct
link_all-requires-clause-distinct c =
    let s = records_state c.args.records.now in
    let e : ℕ × Object = (c.in-Some.id.now, c.in-Some.object.now) in
    let rest = c.next.new.self in
    let step : c.loop-id.id-iterator ≡ e ∷ rest = search rules in
    let done = c.loop-id.invariant.0 in
    let split : done ++ e ∷ rest ≡ c.args.records.now.objects.entries = ap (λ (xs : List (ℕ × Object)). done ++ xs) (sym step) ∙ c.loop-id.invariant.2 in
    let shape : c.loop-id.draft.lists ≡ lists_of done ++ bare (e ∷ rest) = c.loop-id.invariant.1 ∙ ap (λ (xs : List (ℕ × Object)). lists_of done ++ bare xs) step in
    let list : listed c.in-Some.object.now.body ≡ c.as_slice.result.now = search rules in
    ap is_distinct (sym list) ∙ (here_kept s c.requires.holdable done e rest split).distinct

pub link_all-requires-clause-no_root : goal.link_all-requires-clause-no_root
link_all-requires-clause-no_root c =
    let s = records_state c.args.records.now in
    let e : ℕ × Object = (c.in-Some.id.now, c.in-Some.object.now) in
    let rest = c.next.new.self in
    let step : c.loop-id.id-iterator ≡ e ∷ rest = search rules in
    let done = c.loop-id.invariant.0 in
    let split : done ++ e ∷ rest ≡ c.args.records.now.objects.entries = ap (λ (xs : List (ℕ × Object)). done ++ xs) (sym step) ∙ c.loop-id.invariant.2 in
    let shape : c.loop-id.draft.lists ≡ lists_of done ++ bare (e ∷ rest) = c.loop-id.invariant.1 ∙ ap (λ (xs : List (ℕ × Object)). lists_of done ++ bare xs) step in
    let list : listed c.in-Some.object.now.body ≡ c.as_slice.result.now = search rules in
    ap (λ (xs : List ℕ). has xs 1) (sym list) ∙ no_root_here s c.requires.holdable done e rest split

pub link_all-requires-clause-room : goal.link_all-requires-clause-room
link_all-requires-clause-room c =
    let s = records_state c.args.records.now in
    let e : ℕ × Object = (c.in-Some.id.now, c.in-Some.object.now) in
    let rest = c.next.new.self in
    let step : c.loop-id.id-iterator ≡ e ∷ rest = search rules in
    let done = c.loop-id.invariant.0 in
    let split : done ++ e ∷ rest ≡ c.args.records.now.objects.entries = ap (λ (xs : List (ℕ × Object)). done ++ xs) (sym step) ∙ c.loop-id.invariant.2 in
    let shape : c.loop-id.draft.lists ≡ lists_of done ++ bare (e ∷ rest) = c.loop-id.invariant.1 ∙ ap (λ (xs : List (ℕ × Object)). lists_of done ++ bare xs) step in
    let list : listed c.in-Some.object.now.body ≡ c.as_slice.result.now = search rules in
    omega (arith, room_here s c.requires.holdable done e rest split, ap link_count shape, ap length list, c.loop-id.invariant.3, c.requires.cells)

pub loop-id-preserved-in-Container : goal.loop-id-preserved-in-Container
loop-id-preserved-in-Container c =
    let s = records_state c.args.records.now in
    let e : ℕ × Object = (c.in-Some.id.now, c.in-Some.object.now) in
    let rest = c.next.new.self in
    let step : c.loop-id.id-iterator ≡ e ∷ rest = search rules in
    let done = c.loop-id.invariant.0 in
    let split : done ++ e ∷ rest ≡ c.args.records.now.objects.entries = ap (λ (xs : List (ℕ × Object)). done ++ xs) (sym step) ∙ c.loop-id.invariant.2 in
    let shape : c.loop-id.draft.lists ≡ lists_of done ++ bare (e ∷ rest) = c.loop-id.invariant.1 ∙ ap (λ (xs : List (ℕ × Object)). lists_of done ++ bare xs) step in
    let list : listed c.in-Some.object.now.body ≡ c.as_slice.result.now = search rules in (
      done ++ e ∷ [],
      c.link_all.ensures.lists
          ∙ ap (λ (t : List (ℕ × List ℕ)). given t e.0 c.as_slice.result.now) shape
          ∙ given_middle (lists_of done) e.0 [] (bare rest) c.as_slice.result.now (first_absent s c.requires.holdable done e rest split) (last_absent s c.requires.holdable done e rest split)
          ∙ ap (λ (l : List ℕ). lists_of done ++ (e.0, l) ∷ bare rest) (sym list)
          ∙ lists_more done e rest,
      append_assoc done (e ∷ []) rest ∙ split,
      c.link_all.ensures.cells ∙ c.loop-id.invariant.3,
    )

pub loop-id-preserved : goal.loop-id-preserved
loop-id-preserved c =
    let s = records_state c.args.records.now in
    let e : ℕ × Object = (c.in-Some.id.now, c.in-Some.object.now) in
    let rest = c.next.new.self in
    let step : c.loop-id.id-iterator ≡ e ∷ rest = search rules in
    let done = c.loop-id.invariant.0 in
    let split : done ++ e ∷ rest ≡ c.args.records.now.objects.entries = ap (λ (xs : List (ℕ × Object)). done ++ xs) (sym step) ∙ c.loop-id.invariant.2 in
    let shape : c.loop-id.draft.lists ≡ lists_of done ++ bare (e ∷ rest) = c.loop-id.invariant.1 ∙ ap (λ (xs : List (ℕ × Object)). lists_of done ++ bare xs) step in
    let none : listed c.in-Some.object.now.body ≡ [] = no_list c.in-Some.object.now.body c.in_default.not-Container in (
      done ++ e ∷ [],
      shape ∙ ap (λ (l : List ℕ). lists_of done ++ (e.0, l) ∷ bare rest) (sym none) ∙ lists_more done e rest,
      append_assoc done (e ∷ []) rest ∙ split,
      c.loop-id.invariant.3,
    )
