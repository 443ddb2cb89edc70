use Rattle.std.proofs.Common.{rules, ◌≡◌, ℕ, ◌+◌, ◌<◌, inl, inr, not, ◌==◌, List, [], ◌∷◌, ◌++◌, length, sym, ap, ◌∙◌, subst, arith, length-append, length-set}
use Rattle.std.specs.Prelude.{All}
use Rattle.std.proofs.lemmas.Bool.{cases_Bool, both_ways, eqb-true}
use Rattle.std.proofs.lemmas.List.{append_assoc}
use Rattle.kernel_rules.specs.WellFormed.{ids_rise}
use Rattle.kernel_rules.specs.declared.objects.Object.{Object}
use Rattle.containers.specs.Tree.{ids_in}
use Rattle.arena_state.specs.Restored.{laid}
use Rattle.arena_state.proofs.LaidLaws.{before_less, first_id, root_or_later, laid_more, laid_all, bare_length}
use Rattle.arena_state.proofs.restores.trees.lay_objects.Goals as goal

pub add-requires-clause-rises : goal.add-requires-clause-rises
add-requires-clause-rises c =
    let e : ℕ × Object = (c.in-Some.id.now, c.in-Some._object.now) in
    let step : c.loop-id.id-iterator ≡ e ∷ c.next.new.self = search rules in
    let done = c.loop-id.invariant.0 in
    let split : done ++ e ∷ c.next.new.self ≡ c.args.objects.now.entries = ap (λ (xs : List (ℕ × Object)). done ++ xs) (sym step) ∙ c.loop-id.invariant.2 in
    elim (root_or_later done e c.next.new.self c.args.objects.now.entries split (ap first_id c.requires.root.2) c.requires.rise) [
      | inl root ↦ absurd (grind (arith, c.root.ensures, c.ne.ensures, c.if-ne.true, root.1))
      | inr later ↦
          subst (λ (t : List (ℕ × List ℕ)). All (λ i. i < c.in-Some.id.now) (ids_in t)) (sym (c.loop-id.invariant.1 ∙ laid_all done later.0))
          (before_less done e c.next.new.self (ap ids_rise split ∙ c.requires.rise))
    ]

pub add-requires-clause-slots : goal.add-requires-clause-slots
add-requires-clause-slots c =
    let e : ℕ × Object = (c.in-Some.id.now, c.in-Some._object.now) in
    let step : c.loop-id.id-iterator ≡ e ∷ c.next.new.self = search rules in
    let done = c.loop-id.invariant.0 in
    let split : done ++ e ∷ c.next.new.self ≡ c.args.objects.now.entries = ap (λ (xs : List (ℕ × Object)). done ++ xs) (sym step) ∙ c.loop-id.invariant.2 in
    let long : length done + length (e ∷ c.next.new.self) ≡ length c.args.objects.now.entries = sym (length-append done (e ∷ c.next.new.self)) ∙ ap length split in
    elim (root_or_later done e c.next.new.self c.args.objects.now.entries split (ap first_id c.requires.root.2) c.requires.rise) [
      | inl root ↦ absurd (grind (arith, c.root.ensures, c.ne.ensures, c.if-ne.true, root.1))
      | inr later ↦
          let count : length (ids_in c.loop-id.draft.lists) ≡ length done
          = ap (λ (t : List (ℕ × List ℕ)). length (ids_in t)) (c.loop-id.invariant.1 ∙ laid_all done later.0) ∙ bare_length done in
          omega (arith, count, long, c.loop-id.invariant.3, c.requires.few)
    ]

pub loop-id-preserved-then-ne : goal.loop-id-preserved-then-ne
loop-id-preserved-then-ne c =
    let e : ℕ × Object = (c.in-Some.id.now, c.in-Some._object.now) in
    let step : c.loop-id.id-iterator ≡ e ∷ c.next.new.self = search rules in
    let done = c.loop-id.invariant.0 in
    let split : done ++ e ∷ c.next.new.self ≡ c.args.objects.now.entries = ap (λ (xs : List (ℕ × Object)). done ++ xs) (sym step) ∙ c.loop-id.invariant.2 in
    elim (root_or_later done e c.next.new.self c.args.objects.now.entries split (ap first_id c.requires.root.2) c.requires.rise) [
      | inl root ↦ absurd (grind (arith, c.root.ensures, c.ne.ensures, c.if-ne.true, root.1))
      | inr later ↦ (
        done ++ e ∷ [],
        c.add.ensures.lists ∙ ap (λ (t : List (ℕ × List ℕ)). t ++ (e.0, []) ∷ []) c.loop-id.invariant.1 ∙ sym (laid_more done e later.0),
        append_assoc done (e ∷ []) c.next.new.self ∙ split,
        ap length c.add.ensures.cells ∙ length-set c.loop-id.draft.cells c.add.result.0 _ ∙ c.loop-id.invariant.3,
      )
    ]

pub loop-id-preserved : goal.loop-id-preserved
loop-id-preserved c =
    let e : ℕ × Object = (c.in-Some.id.now, c.in-Some._object.now) in
    let step : c.loop-id.id-iterator ≡ e ∷ c.next.new.self = search rules in
    let done = c.loop-id.invariant.0 in
    let split : done ++ e ∷ c.next.new.self ≡ c.args.objects.now.entries = ap (λ (xs : List (ℕ × Object)). done ++ xs) (sym step) ∙ c.loop-id.invariant.2 in
    let one : c.in-Some.id.now ≡ 1 = elim (cases_Bool (c.in-Some.id.now == c.root.result)) [
      | inl is ↦ eqb-true c.in-Some.id.now c.root.result is ∙ c.root.ensures
      | inr off ↦ absurd (both_ways (not (c.in-Some.id.now == c.root.result)) (sym c.ne.ensures ∙ c.if-ne.false) (ap not off))
    ] in
    elim (root_or_later done e c.next.new.self c.args.objects.now.entries split (ap first_id c.requires.root.2) c.requires.rise) [
      | inl root ↦ (
        done ++ e ∷ [],
        c.loop-id.invariant.1 ∙ ap laid root.0 ∙ ap (λ (i : ℕ). let f : ℕ × List ℕ = (i, []) in f ∷ []) (sym one) ∙ ap (λ (xs : List (ℕ × Object)). laid (xs ++ e ∷ [])) (sym root.0),
        append_assoc done (e ∷ []) c.next.new.self ∙ split,
        c.loop-id.invariant.3,
      )
      | inr later ↦ absurd (omega (arith, later.1, one))
    ]
