-- What the objects of a well-formed state have in its tables, told by their ids.
use Rattle.std.proofs.Common.{◌≡◌, ℕ, ◌+◌, ◌<◌, get_or, length, take, Bool, true, false, cond, nat_lt, if◌then◌else◌}
use Rattle.std.proofs.Common.{List, [], ◌∷◌, ◌++◌, map, Option, Some, None, refl, sym, ◌∙◌, ap, subst, arith}
use Rattle.std.specs.List.{flat_map, list_all}
use Rattle.std.specs.Ordering.{nat_cmp}
use Rattle.std.specs.Map.{lookup}
use Rattle.std.specs.Option.{option_map, option_and_then}
use Rattle.std.specs.BTreeMap.{is_at}
use Rattle.std.proofs.lemmas.List.{take_more, flat_map_more}
use Rattle.std.proofs.lemmas.Bool.{and_parts, ltb-true}
use Rattle.base.specs.declared.kinds.Kind.TheVariants as kinds
use Rattle.label_lattice.specs.Label.{LabelValue}
use Rattle.label_lattice.specs.Raw.{raw_of}
use Rattle.kernel_rules.specs.declared.objects.Body as body
use Rattle.kernel_rules.specs.declared.objects.Body.TheVariants as is
use Rattle.kernel_rules.specs.declared.objects.Object.{Object}
use Rattle.kernel_rules.specs.declared.tables.Shown.{Shown}
use Rattle.kernel_rules.specs.Sizes.{slot_count}
use Rattle.kernel_rules.specs.State.{State, of_object, object_at, is_kind, is_kind_at, is_live_kind}
use Rattle.kernel_rules.specs.State.{thread_of, gate_of}
use Rattle.kernel_rules.specs.WellFormed.{ids_rise, is_well_formed}
use Rattle.kernel_rules.specs.Scratch.{ids_of, uses_of, labels_of, labels_of_body, shown_by, shown_from}
use Rattle.kernel_rules.specs.Scratch.{with_label, with_labels, compared_from, tables_of, scratch}
use Rattle.kernel_rules.specs.Tables.{TableLists}
use Rattle.kernel_rules.proofs.LookupLaws.{at_self, all_at}
use Rattle.kernel_rules.proofs.RecordLaws.{same_id, live_part-all}
use Rattle.kernel_rules.proofs.WellFormedLaws.{Soundness, soundness_of, live_kind}
use Rattle.kernel_calls.specs.ById.{shown_at, label_list, thread_labels, gate_labels, labels_at}

-- some labels and then others in their places
pub with_labels-append : (ms ls ks : List LabelValue)
    → with_labels ms (ls ++ ks) ≡ with_labels (with_labels ms ls) ks
with_labels-append ms [] ks = refl
with_labels-append ms (l ∷ ls) ks = with_labels-append (with_label l ms) ls ks

-- the labels of one id more
pub with_labels-more : (f : ℕ → List LabelValue) (ids : List ℕ) (i x : ℕ) → i < length ids → x ≡ get_or ids i x
    → with_labels (with_labels [] (flat_map f (take i ids))) (f x) ≡ with_labels [] (flat_map f (take (i + 1) ids))
with_labels-more f ids i x below here =
    let taken : take (i + 1) ids ≡ take i ids ++ x ∷ [] =
    take_more ids i x below ∙ ap (λ y. take i ids ++ y ∷ []) (sym here) in
    sym (with_labels-append [] (flat_map f (take i ids)) (f x))
    ∙ ap (with_labels []) (flat_map_more f [] (take i ids) x ∙ ap (flat_map f) (sym taken))

-- no number is below itself
below_self : (q k : ℕ) → q ≡ k → nat_lt k q ≡ true → ⊥
below_self q k same h = let less : k < q = ltb-true k q h in omega arith

-- what is told of each record is what is told of its id, if that is so of each that is looked up
pub told_by_id : {X : Type 0} (f : ℕ × Object → List X) (g : ℕ → List X) (es : List (ℕ × Object))
    → ids_rise es ≡ true
    → ((q : ℕ) (x : Object) → lookup (is_at (nat_cmp q)) es ≡ Some x → g q ≡ f (q, x))
    → flat_map g (ids_of es) ≡ flat_map f es
told_by_id f g [] rise h = refl
told_by_id f g (e ∷ es) rise h =
    let parts : (list_all (λ d. nat_lt e.0 d.0) es ≡ true) × (ids_rise es ≡ true) =
    and_parts (list_all (λ d. nat_lt e.0 d.0) es) (ids_rise es) rise in
    let first : g e.0 ≡ f e =
    h e.0 e.1 (subst (λ v. cond v (Some e.1) (lookup (is_at (nat_cmp e.0)) es) ≡ Some e.1) (sym (at_self e.0)) refl) in
    let rest : flat_map g (ids_of es) ≡ flat_map f es =
    told_by_id f g es parts.1
    (λ q x found. h q x
    (elim (is_at (nat_cmp q) e.0)
    as (λ v. is_at (nat_cmp q) e.0 ≡ v → cond v (Some e.1) (lookup (is_at (nat_cmp q)) es) ≡ Some x) [
      | true ↦ λ is.
          let same : q ≡ e.0 = same_id q e.0 is in
          let above : nat_lt e.0 q ≡ true = all_at (λ p y. nat_lt e.0 p) es q x parts.0 found in
          absurd (below_self q e.0 same above)
      | false ↦ λ is. found
    ] refl)) in
    ap (λ v. v ++ flat_map g (ids_of es)) first ∙ ap (λ v. f e ++ v) rest

-- a body's labels are those of the thread or the gate that it is
body_labels : (b : body.Body) → thread_labels (thread_of b) ++ gate_labels (gate_of b) ≡ labels_of_body b
body_labels (is.Container avoid list) = refl
body_labels (is.Segment bytes) = refl
body_labels (is.AddressSpace slots) = refl
body_labels (is.Thread t) = refl
body_labels (is.Gate g) = refl
body_labels (is.Device packets) = refl

-- the labels that an object stores
labels_from : Option Object → List LabelValue
labels_from o =
    label_list (option_map (λ x. x.label) o)
    ++ (thread_labels (option_and_then (λ x. thread_of x.body) o) ++ gate_labels (option_and_then (λ x. gate_of x.body) o))

labels_same : (s : State) (q : ℕ) (x : Object) → object_at s q ≡ Some x → labels_at s q ≡ labels_of x
unfolding labels_from
labels_same s q x found = ap labels_from found ∙ ap (λ v. x.label ∷ v) (body_labels x.body)

-- what the slots of an object show
shown_same : (s : State) (q : ℕ) (x : Object) → is_well_formed s ≡ true → object_at s q ≡ Some x
    → shown_at s q ≡ shown_by s (q, x)
shown_same s q x wf found =
    ap (λ b. if b then shown_from s q 0 slot_count else [])
    (sym (live_kind s kinds.Thread q wf) ∙ ap (of_object false (is_kind kinds.Thread)) found)

-- the tables that are told by ids
abbrev pub tables_by_id : State → List ℕ → TableLists
tables_by_id s ids =
    let stored : List LabelValue = with_labels [] (flat_map (labels_at s) ids) in
    record {
      live = ids;
      uses = uses_of s ids;
      shown = flat_map (shown_at s) ids;
      labels = map raw_of stored;
      orders = compared_from stored 0 stored;
    }

-- they are the tables of the state
pub recomputed : (s : State) → is_well_formed s ≡ true → tables_by_id s (ids_of s.objects) ≡ scratch s
unfolding scratch
recomputed s wf =
    let sound : Soundness s = soundness_of s wf in
    let shown : flat_map (shown_at s) (ids_of s.objects) ≡ flat_map (shown_by s) s.objects =
    told_by_id (shown_by s) (shown_at s) s.objects sound.rise (λ q x found. shown_same s q x wf found) in
    let stored : flat_map (labels_at s) (ids_of s.objects) ≡ flat_map (λ e. labels_of e.1) s.objects =
    told_by_id (λ e. labels_of e.1) (labels_at s) s.objects sound.rise (λ q x found. labels_same s q x found) in
    (λ i. record {
      live = ids_of s.objects;
      uses = uses_of s (ids_of s.objects);
      shown = shown i;
      labels = map raw_of (with_labels [] (stored i));
      orders = compared_from (with_labels [] (stored i)) 0 (with_labels [] (stored i));
    }) ∙ ap (tables_of s) (sym (live_part-all s.objects sound.live))
