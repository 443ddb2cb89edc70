use Rattle.std.proofs.Common.{rules, ◌≡◌, ℕ, ◌<◌, ◌≤◌, List, [], ◌∷◌, ◌++◌, length, get_or, sym, ap, ◌∙◌, subst, arith}
use Rattle.std.proofs.lemmas.List.{append_assoc}
use Rattle.kernel_rules.specs.declared.objects.Object.{Object}
use Rattle.plain_state.specs.Recorded.{records_state}
use Rattle.arena_state.specs.Filled.{Content}
use Rattle.std.specs.Prelude.{min}
use Rattle.std.proofs.lemmas.Bool.{leb-true}
use Rattle.kernel_rules.specs.State.{use_of}
use Rattle.arena_state.specs.Restored.{uses_own, IsPut}
use Rattle.arena_state.proofs.HoldLaws.{here_kept}
use Rattle.arena_state.proofs.FillLaws.{absent_not, filled_more, found_place, own_here, pages_here, whole_here}
use Rattle.arena_state.proofs.restores.fills.fill.Goals as goal

pub unreachable-requires : goal.unreachable-requires
unreachable-requires c =
    let s = records_state c.args.records.now in
    let hold = c.requires.holdable in
    let slots = c.args.tree.now.slots in
    let e : ℕ × Object = (c.in-Some.id.now, c.in-Some.object.now) in
    let rest = c.next.new.self in
    let step : c.loop-id.id-iterator ≡ e ∷ rest = search rules in
    let done = c.loop-id.invariant.0 in
    let filled = c.loop-id.invariant.1 in
    let split : done ++ e ∷ rest ≡ c.args.records.now.objects.entries = ap (λ (xs : List (ℕ × Object)). done ++ xs) (sym step) ∙ c.loop-id.invariant.2 in
    absent_not s hold done e rest split c.args.tree.now c.requires.lists c.in-None-find.ensures.absent

pub put_object-requires-clause-labels : goal.put_object-requires-clause-labels
put_object-requires-clause-labels c =
    let s = records_state c.args.records.now in
    let hold = c.requires.holdable in
    let slots = c.args.tree.now.slots in
    let e : ℕ × Object = (c.in-Some.id.now, c.in-Some.object.now) in
    let rest = c.next.new.self in
    let step : c.loop-id.id-iterator ≡ e ∷ rest = search rules in
    let done = c.loop-id.invariant.0 in
    let filled = c.loop-id.invariant.1 in
    let split : done ++ e ∷ rest ≡ c.args.records.now.objects.entries = ap (λ (xs : List (ℕ × Object)). done ++ xs) (sym step) ∙ c.loop-id.invariant.2 in
    let at = found_place s hold done e rest split c.args.tree.now c.requires.lists c.len-count.ensures.well_formed c.requires.cells c.in-Some-find.slot.0 c.in-Some-find.ensures.found in
    omega (arith, filled.owners, filled.labels, at.few)

pub put_object-requires-clause-bytes : goal.put_object-requires-clause-bytes
put_object-requires-clause-bytes c =
    let s = records_state c.args.records.now in
    let hold = c.requires.holdable in
    let slots = c.args.tree.now.slots in
    let e : ℕ × Object = (c.in-Some.id.now, c.in-Some.object.now) in
    let rest = c.next.new.self in
    let step : c.loop-id.id-iterator ≡ e ∷ rest = search rules in
    let done = c.loop-id.invariant.0 in
    let filled = c.loop-id.invariant.1 in
    let split : done ++ e ∷ rest ≡ c.args.records.now.objects.entries = ap (λ (xs : List (ℕ × Object)). done ++ xs) (sym step) ∙ c.loop-id.invariant.2 in
    let at = found_place s hold done e rest split c.args.tree.now c.requires.lists c.len-count.ensures.well_formed c.requires.cells c.in-Some-find.slot.0 c.in-Some-find.ensures.found in
    ap (λ (x : Content). x.bytes) (at.blank c.loop-id.holdings filled)

pub put_object-requires-clause-packets : goal.put_object-requires-clause-packets
put_object-requires-clause-packets c =
    let s = records_state c.args.records.now in
    let hold = c.requires.holdable in
    let slots = c.args.tree.now.slots in
    let e : ℕ × Object = (c.in-Some.id.now, c.in-Some.object.now) in
    let rest = c.next.new.self in
    let step : c.loop-id.id-iterator ≡ e ∷ rest = search rules in
    let done = c.loop-id.invariant.0 in
    let filled = c.loop-id.invariant.1 in
    let split : done ++ e ∷ rest ≡ c.args.records.now.objects.entries = ap (λ (xs : List (ℕ × Object)). done ++ xs) (sym step) ∙ c.loop-id.invariant.2 in
    let at = found_place s hold done e rest split c.args.tree.now c.requires.lists c.len-count.ensures.well_formed c.requires.cells c.in-Some-find.slot.0 c.in-Some-find.ensures.found in
    ap (λ (x : Content). x.packets) (at.blank c.loop-id.holdings filled)

pub put_object-requires-clause-slots : goal.put_object-requires-clause-slots
put_object-requires-clause-slots c =
    let s = records_state c.args.records.now in
    let hold = c.requires.holdable in
    let slots = c.args.tree.now.slots in
    let e : ℕ × Object = (c.in-Some.id.now, c.in-Some.object.now) in
    let rest = c.next.new.self in
    let step : c.loop-id.id-iterator ≡ e ∷ rest = search rules in
    let done = c.loop-id.invariant.0 in
    let filled = c.loop-id.invariant.1 in
    let split : done ++ e ∷ rest ≡ c.args.records.now.objects.entries = ap (λ (xs : List (ℕ × Object)). done ++ xs) (sym step) ∙ c.loop-id.invariant.2 in
    let at = found_place s hold done e rest split c.args.tree.now c.requires.lists c.len-count.ensures.well_formed c.requires.cells c.in-Some-find.slot.0 c.in-Some-find.ensures.found in
    ap (λ (x : Content). x.slots) (at.blank c.loop-id.holdings filled)

pub put_object-requires-clause-whole : goal.put_object-requires-clause-whole
put_object-requires-clause-whole c =
    let s = records_state c.args.records.now in
    let hold = c.requires.holdable in
    let slots = c.args.tree.now.slots in
    let e : ℕ × Object = (c.in-Some.id.now, c.in-Some.object.now) in
    let rest = c.next.new.self in
    let step : c.loop-id.id-iterator ≡ e ∷ rest = search rules in
    let done = c.loop-id.invariant.0 in
    let filled = c.loop-id.invariant.1 in
    let split : done ++ e ∷ rest ≡ c.args.records.now.objects.entries = ap (λ (xs : List (ℕ × Object)). done ++ xs) (sym step) ∙ c.loop-id.invariant.2 in
    whole_here s hold done e rest split

pub put_object-requires-clause-room : goal.put_object-requires-clause-room
put_object-requires-clause-room c =
    let s = records_state c.args.records.now in
    let hold = c.requires.holdable in
    let slots = c.args.tree.now.slots in
    let e : ℕ × Object = (c.in-Some.id.now, c.in-Some.object.now) in
    let rest = c.next.new.self in
    let step : c.loop-id.id-iterator ≡ e ∷ rest = search rules in
    let done = c.loop-id.invariant.0 in
    let filled = c.loop-id.invariant.1 in
    let split : done ++ e ∷ rest ≡ c.args.records.now.objects.entries = ap (λ (xs : List (ℕ × Object)). done ++ xs) (sym step) ∙ c.loop-id.invariant.2 in
    omega (arith, filled.pages, filled.segments, pages_here s hold done e rest split)

-- what it uses is within its quota
least : (a b u : ℕ) {q m : ℕ} → a ≡ u → u ≤ q → b ≡ q → m ≡ min a b → m ≡ u
least a b u is within quota m = omega (arith, is, within, quota, m)

pub put_object-requires-clause-own : goal.put_object-requires-clause-own
put_object-requires-clause-own c =
    let s = records_state c.args.records.now in
    let hold = c.requires.holdable in
    let slots = c.args.tree.now.slots in
    let e : ℕ × Object = (c.in-Some.id.now, c.in-Some.object.now) in
    let rest = c.next.new.self in
    let step : c.loop-id.id-iterator ≡ e ∷ rest = search rules in
    let done = c.loop-id.invariant.0 in
    let filled = c.loop-id.invariant.1 in
    let split : done ++ e ∷ rest ≡ c.args.records.now.objects.entries = ap (λ (xs : List (ℕ × Object)). done ++ xs) (sym step) ∙ c.loop-id.invariant.2 in
    let pages : c.min-pages.result ≡ use_of s e.0 = least c.used.result c.from.result (use_of s e.0) c.used.ensures.value
    (leb-true (use_of s e.0) e.1.quota (here_kept s hold done e rest split).within) c.from.ensures c.min-pages.ensures in
    subst (uses_own e.1.body) (sym pages) (own_here s hold done e rest split)

pub loop-id-preserved : goal.loop-id-preserved
loop-id-preserved c =
    let s = records_state c.args.records.now in
    let hold = c.requires.holdable in
    let slots = c.args.tree.now.slots in
    let e : ℕ × Object = (c.in-Some.id.now, c.in-Some.object.now) in
    let rest = c.next.new.self in
    let step : c.loop-id.id-iterator ≡ e ∷ rest = search rules in
    let done = c.loop-id.invariant.0 in
    let filled = c.loop-id.invariant.1 in
    let split : done ++ e ∷ rest ≡ c.args.records.now.objects.entries = ap (λ (xs : List (ℕ × Object)). done ++ xs) (sym step) ∙ c.loop-id.invariant.2 in
    let at = found_place s hold done e rest split c.args.tree.now c.requires.lists c.len-count.ensures.well_formed c.requires.cells c.in-Some-find.slot.0 c.in-Some-find.ensures.found in
    let pages : c.min-pages.result ≡ use_of s e.0 = least c.used.result c.from.result (use_of s e.0) c.used.ensures.value
    (leb-true (use_of s e.0) e.1.quota (here_kept s hold done e rest split).within) c.from.ensures c.min-pages.ensures in
    let put : IsPut c.loop-id.holdings c.put_object.new.holdings (get_or slots (length done) 0) e.1 (use_of s e.0)
    = subst (λ (t : ℕ). IsPut c.loop-id.holdings c.put_object.new.holdings t e.1 (use_of s e.0)) (sym at.at)
    (subst (λ (u : ℕ). IsPut c.loop-id.holdings c.put_object.new.holdings c.in-Some-find.slot.0 e.1 u) pages c.put_object.ensures) in
    let within : get_or slots (length done) 0 < s.limits.pages = subst (λ (t : ℕ). t < s.limits.pages) (sym at.at) at.within in (
      done ++ e ∷ [],
      filled_more s slots done e c.loop-id.holdings c.put_object.new.holdings filled at.lt at.apart within put,
      append_assoc done (e ∷ []) rest ∙ split,
    )
