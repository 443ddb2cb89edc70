-- What calls keep passes the tests of a checkpoint.
use Rattle.std.proofs.Common.{◌≡◌, ℕ, ◌+◌, ◌<◌, ◌≤◌, suc, Bool, true, false, not, ◌&&◌, ◌||◌, ◌==◌, nat_lt, nat_le, List, [], ◌∷◌}
use Rattle.std.proofs.Common.{Option, Some, None, refl, sym, ◌∙◌, ap, arith, slice_get}
use Rattle.std.specs.List.{list_all, list_any, slice_index_or}
use Rattle.std.proofs.lemmas.Bool.{and_from, and_parts, leb-true, le-leb, lt-ltb, ltb-true, leb-false, cases_Bool, not_from_false}
use Rattle.std.proofs.lemmas.Bool.{or_from, eqb-true}
use Rattle.std.proofs.Common.{inl, inr}
use Rattle.base.specs.Live.{has}
use Rattle.base.specs.Sets.{may_read, may_write, no_kind}
use Rattle.base.specs.declared.kinds.Kind as kind
use Rattle.base.specs.declared.kinds.Kind.TheVariants as kinds
use Rattle.base.specs.declared.ranges.Limits.{Limits}
use Rattle.kernel_rules.specs.Conditions.{meets}
use Rattle.kernel_rules.specs.Sizes.{page_limit, most_pages, last_slot}
use Rattle.kernel_rules.specs.State.{State, object_at, of_object, slots_of, listed, kind_of, kind_number}
use Rattle.kernel_rules.specs.Translate.{slot_in, names_none, covers}
use Rattle.kernel_rules.specs.WellFormed.{is_well_formed}
use Rattle.kernel_rules.specs.declared.calls.Entry.{Entry}
use Rattle.kernel_rules.specs.declared.objects.Body as body
use Rattle.kernel_rules.specs.declared.objects.Body.TheVariants as is
use Rattle.kernel_rules.specs.declared.objects.Mapping.{Mapping}
use Rattle.kernel_rules.specs.declared.objects.Object.{Object}
use Rattle.kernel_rules.proofs.LookupLaws.{all_from}
use Rattle.kernel_rules.proofs.WellFormedLaws.{soundness_of}
use Rattle.kernel_laws.proofs.Apart.{Apart, Sound, apart_found}
use Rattle.kernel_laws.specs.Names.{NamesKind, NamesSpace, IsNamedRightly, space_in}
use Rattle.checkpoints.specs.Reached.{IsSound}
use Rattle.checkpoints.specs.Restorable.{each, names_given, lists_rightly, maps_rightly, names_kinds, names_kind}
use Rattle.checkpoints.specs.Restorable.{is_made_below, is_starless, is_whole_entry, spaces_in}
use Rattle.checkpoints.specs.Reached.{is_plain}
use Rattle.checkpoints.specs.Restorable.{is_entry_given, mapped, is_in_bounds, lie_apart, may_hold, avoid_of}
use Rattle.checkpoints.proofs.CounterLaws.{counters_from}
use Rattle.checkpoints.proofs.Everywhere.{Everywhere, tested, found}
use Rattle.checkpoints.proofs.HoldLaws.{HoldRightly, all_listed}
use Rattle.checkpoints.proofs.LocalLaws.{Local}
use Rattle.checkpoints.proofs.LocalSteps.{AreLocal}
use Rattle.checkpoints.proofs.ReachLaws.{Kept}

all_mapped : (test : Entry → Bool) (ms : List (Option Mapping))
    → ((i : ℕ) (m : Mapping) → slot_in (slice_get ms i) ≡ Some m → test m.entry ≡ true)
    → list_all test (mapped ms) ≡ true
all_mapped test [] f = refl
all_mapped test (None ∷ ms) f = all_mapped test ms (λ i m h. f (suc i) m h)
all_mapped test (Some m ∷ ms) f =
    and_from (test m.entry) (list_all test (mapped ms)) (f 0 m refl) (all_mapped test ms (λ i n h. f (suc i) n h))

all_spaces : (test : Entry → Bool) (b : body.Body) → ((e : Entry) → space_in b ≡ Some e → test e ≡ true)
    → list_all test (spaces_in b) ≡ true
all_spaces test (is.Thread t) f = and_from (test t.space) true (f t.space refl) refl
all_spaces test (is.Gate g) f = and_from (test g.space) true (f g.space refl) refl
all_spaces test (is.Container avoid list) f = refl
all_spaces test (is.Segment bytes) f = refl
all_spaces test (is.AddressSpace slots) f = refl
all_spaces test (is.Device packets) f = refl

entry_given : (s : State) (k : kind.Kind) (e : Entry) → NamesKind s k e → is_entry_given s.next_id e ≡ true
entry_given s k e h =
    and_from (nat_lt e.container s.next_id) (nat_lt e.object s.next_id) (lt-ltb e.container s.next_id h.container)
    (lt-ltb e.object s.next_id h.object)

-- (0, 0) names ids that were given
none_given : (n : ℕ) (e : Entry) → 3 < n → names_none e ≡ true → is_entry_given n e ≡ true
none_given n e some none =
    let p = and_parts (e.container == 0) (e.object == 0) none in
    let a : e.container ≡ 0 = eqb-true e.container 0 p.0 in
    let b : e.object ≡ 0 = eqb-true e.object 0 p.1 in
    and_from (nat_lt e.container n) (nat_lt e.object n) (lt-ltb e.container n (omega (arith, a, some)))
    (lt-ltb e.object n (omega (arith, b, some)))

space_given : (s : State) (e : Entry) → 3 < s.next_id → NamesSpace s e → is_entry_given s.next_id e ≡ true
space_given s e some h = elim (cases_Bool (names_none e)) as (λ _. is_entry_given s.next_id e ≡ true) [
  | inl none ↦ none_given s.next_id e some none
  | inr names ↦ entry_given s kinds.AddressSpace e (h names)
]

-- nothing is recorded under 0
none_kind : (n : ℕ) (s : State) (e : Entry) → AreLocal n s → names_none e ≡ true
    → names_kind s kinds.AddressSpace e ≡ true
none_kind n s e all none =
    let b : e.object ≡ 0 = eqb-true e.object 0 (and_parts (e.container == 0) (e.object == 0) none).1 in
    elim (object_at s e.object)
    as (λ v. object_at s e.object ≡ v → of_object true (λ x. kind_number (kind_of x.body) == 2) v ≡ true) [
      | None ↦ λ at. refl
      | Some x ↦ λ at.
          let some : nat_lt 0 e.object ≡ true = (found (Local n) e.object s.objects x all at).id in
          let more : 0 < e.object = ltb-true 0 e.object some in
          absurd (omega (arith, b, more))
    ] refl

space_kind : (n : ℕ) (s : State) (e : Entry) → AreLocal n s → NamesSpace s e
    → names_kind s kinds.AddressSpace e ≡ true
space_kind n s e all h = elim (cases_Bool (names_none e)) as (λ _. names_kind s kinds.AddressSpace e ≡ true) [
  | inl none ↦ none_kind n s e all none
  | inr names ↦ (h names).kind
]

test_given : (s : State) → is_well_formed s ≡ true → IsNamedRightly s → each (names_given s.next_id) s ≡ true
test_given s wf h =
    let some : 3 < s.next_id = ltb-true 3 s.next_id (soundness_of s wf).begun in
    all_from (λ q x. names_given s.next_id x) s.objects (soundness_of s wf).rise
    (λ q x at.
    and_from (list_all (is_entry_given s.next_id) (mapped (slots_of x.body))) _
    (all_mapped (is_entry_given s.next_id) (slots_of x.body)
    (λ i m on. entry_given s kinds.Segment m.entry ((h q x at).slots i m on)))
    (all_spaces (is_entry_given s.next_id) x.body (λ e on. space_given s e some ((h q x at).space e on))))

test_kinds : (n : ℕ) (s : State) → is_well_formed s ≡ true → AreLocal n s → IsNamedRightly s
    → each (names_kinds s) s ≡ true
test_kinds n s wf all h =
    all_from (λ q x. names_kinds s x) s.objects (soundness_of s wf).rise
    (λ q x at.
    and_from (list_all (names_kind s kinds.Segment) (mapped (slots_of x.body))) _
    (all_mapped (names_kind s kinds.Segment) (slots_of x.body) (λ i m on. ((h q x at).slots i m on).kind))
    (all_spaces (names_kind s kinds.AddressSpace) x.body (λ e on. space_kind n s e all ((h q x at).space e on))))

test_lists : (s : State) → is_well_formed s ≡ true → HoldRightly s → each (lists_rightly s) s ≡ true
test_lists s wf h =
    all_from (λ q x. lists_rightly s x) s.objects (soundness_of s wf).rise
    (λ q x at. all_listed (λ i. of_object true (may_hold (avoid_of x.body)) (object_at s i)) (listed x.body)
    (λ i on. sym (ap (λ v. of_object true (may_hold (of_object no_kind (λ y. avoid_of y.body) v)) (object_at s i)) at)
    ∙ h q i (ap (λ v. has (of_object [] (λ y. listed y.body) v) i) at ∙ on)))

-- a mapping has a page
some_page : (m : Mapping) → is_in_bounds (Some m) ≡ true → 1 ≤ m.count
some_page m h =
    let d = and_parts (nat_le 0 last_slot && nat_le 1 m.count && nat_le (m.page + m.count) page_limit
    && nat_le (m.first + m.count) most_pages) (may_read m.rights || may_write m.rights) h in
    let c = and_parts (nat_le 0 last_slot && nat_le 1 m.count && nat_le (m.page + m.count) page_limit)
    (nat_le (m.first + m.count) most_pages) d.0 in
    let b = and_parts (nat_le 0 last_slot && nat_le 1 m.count) (nat_le (m.page + m.count) page_limit) c.0 in
    leb-true 1 m.count (and_parts (nat_le 0 last_slot) (nat_le 1 m.count) b.0).1

covered : (page : ℕ) (m : Mapping) → m.page ≤ page → page < m.page + m.count → covers page (Some m) ≡ true
covered page m low high =
    and_from (nat_le m.page page) (nat_lt page (m.page + m.count)) (le-leb m.page page low)
    (lt-ltb page (m.page + m.count) high)

-- mappings that no page is common to don't meet
no_meeting : (m n : Mapping) → 1 ≤ m.count → 1 ≤ n.count
    → ((page : ℕ) → covers page (Some m) ≡ true → covers page (Some n) ≡ true → ⊥) → meets m (Some n) ≡ false
no_meeting m n some_m some_n apart = elim (cases_Bool (meets m (Some n))) as (λ _. meets m (Some n) ≡ false) [
  | inr no_more ↦ no_more
  | inl met ↦
      let p = and_parts (nat_lt m.page (n.page + n.count)) (nat_lt n.page (m.page + m.count)) met in
      let a : m.page < n.page + n.count = ltb-true m.page (n.page + n.count) p.0 in
      let b : n.page < m.page + m.count = ltb-true n.page (m.page + m.count) p.1 in
      elim (cases_Bool (nat_le m.page n.page)) as (λ _. meets m (Some n) ≡ false) [
        | inl le ↦ absurd (apart n.page (covered n.page m (leb-true m.page n.page le) b)
            (covered n.page n (omega arith) (omega (arith, some_n))))
        | inr gt ↦ absurd (apart m.page (covered m.page m (omega arith) (omega (arith, some_m)))
            (covered m.page n (omega (arith, leb-false m.page n.page gt)) a))
      ]
]

none_meet : (m : Mapping) (ms : List (Option Mapping)) → 1 ≤ m.count → list_all is_in_bounds ms ≡ true
    → ((page j : ℕ) → covers page (Some m) ≡ true → covers page (slice_index_or ms j None) ≡ true → ⊥)
    → list_any (meets m) ms ≡ false
none_meet m [] some bounds apart = refl
none_meet m (None ∷ ms) some bounds apart = none_meet m ms some bounds (λ page j a b. apart page (suc j) a b)
none_meet m (Some n ∷ ms) some bounds apart =
    let p = and_parts (is_in_bounds (Some n)) (list_all is_in_bounds ms) bounds in
    or_from (meets m (Some n)) (list_any (meets m) ms)
    (no_meeting m n some (some_page n p.0) (λ page a b. apart page 0 a b))
    (none_meet m ms some p.1 (λ page j a b. apart page (suc j) a b))

test_apart : (ms : List (Option Mapping)) → list_all is_in_bounds ms ≡ true → Apart ms → lie_apart ms ≡ true
test_apart [] bounds apart = refl
test_apart (None ∷ ms) bounds apart =
    test_apart ms bounds
    (λ page i j a b. let up : suc i ≡ suc j = apart page (suc i) (suc j) a b in omega (arith, up))
test_apart (Some m ∷ ms) bounds apart =
    let p = and_parts (is_in_bounds (Some m)) (list_all is_in_bounds ms) bounds in
    and_from (not (list_any (meets m) ms)) (lie_apart ms)
    (not_from_false (list_any (meets m) ms) (none_meet m ms (some_page m p.0) p.1
    (λ page j a b. let up : 0 ≡ suc j = apart page 0 (suc j) a b in absurd (omega (arith, up)))))
    (test_apart ms p.1
    (λ page i j a b. let up : suc i ≡ suc j = apart page (suc i) (suc j) a b in omega (arith, up)))

test_maps : (n : ℕ) (s : State) → is_well_formed s ≡ true → AreLocal n s → Sound s → each maps_rightly s ≡ true
test_maps n s wf all apart =
    all_from (λ q x. maps_rightly x) s.objects (soundness_of s wf).rise
    (λ q x at.
    let bounds = (found (Local n) q s.objects x all at).bounds in
    and_from (list_all is_in_bounds (slots_of x.body)) (lie_apart (slots_of x.body)) bounds
    (test_apart (slots_of x.body) bounds (apart_found q s.objects x apart at)))

all_ids : (n : ℕ) (es : List (ℕ × Object)) → Everywhere (Local n) es → list_all (λ e. nat_lt 0 e.0) es ≡ true
all_ids n [] all = refl
all_ids n (e ∷ es) all =
    and_from (nat_lt 0 e.0) (list_all (λ e. nat_lt 0 e.0) es) all.0.id (all_ids n es all.1)

pub sound_from : (limits : Limits) (s : State) → is_well_formed s ≡ true → Kept limits s → IsSound limits s
sound_from limits s wf h =
    let n = s.next_category in
    record {
      root = h.root;
      ids = all_ids n s.objects h.local;
      given = test_given s wf h.named;
      made = tested (Local n) (is_made_below n) s.objects (λ o x l. l.made) h.local;
      counters = counters_from limits s h.counters;
      starless = tested (Local n) is_starless s.objects (λ o x l. l.starless) h.local;
      lists = test_lists s wf h.held;
      maps = test_maps n s wf h.local h.apart;
      kinds = test_kinds n s wf h.local h.named;
      entries = tested (Local n) (λ x. list_all is_whole_entry (spaces_in x.body)) s.objects (λ o x l. l.entries) h.local;
      plain = tested (Local n) is_plain s.objects (λ o x l. l.plain) h.local;
    }
