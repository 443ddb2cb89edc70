-- What an unreference ends, where containers that an observer does not see list nothing that it sees.
use Rattle.std.proofs.Common.{◌≡◌, ◌≢◌, ℕ, ◌≤◌, ◌<◌, Bool, true, false, cond, not, ◌&&◌, ◌||◌, ◌==◌, ◌++◌, nat_lt, List, [], ◌∷◌}
use Rattle.std.proofs.Common.{Option, Some, None, refl, sym, ◌∙◌, ap, subst, arith, ◌⊎◌, inl, inr, nat_le, drop}
use Rattle.std.specs.List.{list_all, filter}
use Rattle.std.specs.Option.{option_map}
use Rattle.std.specs.Ordering.{nat_cmp}
use Rattle.std.specs.Map.{lookup}
use Rattle.std.specs.BTreeMap.{is_at}
use Rattle.std.proofs.lemmas.Bool.{and_parts, not-false, both_ways, or_cases, eq-eqb, eqb-true, ltb-true}
use Rattle.base.specs.Live.{has, is_live, links, Leads, IsLive}
use Rattle.base.proofs.LiveLaw.{path_from_live, live_from_path}
use Rattle.base.specs.declared.kinds.Kind.TheVariants as kinds
use Rattle.label_lattice.specs.Label.{LabelValue}
use Rattle.label_lattice.specs.LabelRules.{visible}
use Rattle.kernel_rules.specs.State.{State, object_at, of_object, listed, lists_of, list_at, is_kind, live_part}
use Rattle.kernel_rules.specs.State.{is_accessible, kind_number}
use Rattle.kernel_rules.specs.Changes.{put, changed, delisting, without, relist}
use Rattle.kernel_rules.specs.Conditions.{names_root}
use Rattle.kernel_rules.specs.Rows.{row_of, running, at_container}
use Rattle.kernel_rules.specs.Table.{halted, refused, row}
use Rattle.kernel_rules.specs.Step.{next, answer, edit, restricted, lister_of}
use Rattle.kernel_rules.specs.WellFormed.{is_well_formed, is_kept, is_listed_rightly, listers, ids_rise}
use Rattle.kernel_rules.specs.declared.calls.Call.TheVariants as call
use Rattle.kernel_rules.specs.declared.calls.Entry.{Entry}
use Rattle.kernel_rules.specs.declared.objects.Object.{Object}
use Rattle.kernel_rules.specs.declared.objects.Body as body
use Rattle.kernel_rules.specs.declared.objects.Body.TheVariants as is
use Rattle.kernel_rules.proofs.LookupLaws.{all_at, all_from, at_self}
use Rattle.kernel_rules.proofs.RecordLaws.{same_id, recorded_live}
use Rattle.kernel_rules.proofs.KeptLaws.{rise-put}
use Rattle.kernel_rules.proofs.GrowLaws.{live_link}
use Rattle.kernel_rules.proofs.LooseLaws.{links_at}
use Rattle.kernel_rules.proofs.CountLaws.{counted_one, counted_two, not_root}
use Rattle.kernel_rules.proofs.ListerLaws.{kept_parts}
use Rattle.kernel_rules.proofs.ListingLaws.{container_at, IsContainerAt}
use Rattle.kernel_rules.proofs.RowLaws.{none_hold}
use Rattle.kernel_rules.proofs.StepLaws.{step_refused, step_done}
use Rattle.kernel_rules.proofs.WellFormedLaws.{soundness_of}
use Rattle.kernel_laws.proofs.Frames.{restricted_at}
use Rattle.worlds.specs.Seen.{if_visible, seen_at, outline_of, lists_seen, IsSame, IsOpen}
use Rattle.worlds.specs.Laws.{OpenHiddenStepsStay, UnrefsStayAlike}
use Rattle.worlds.proofs.Alike.{AlikeFront, front_refusal}
use Rattle.worlds.proofs.Unseen.{read, read_changed, lister_changed, same_from, seen_is, seen_changed, unseen, unseen_label}
use Rattle.worlds.proofs.Unseen.{same_refl, flow_unseen}
use Rattle.worlds.proofs.Quietly.{relist_outline, hidden_stays}
use Rattle.worlds.proofs.Placing.{same_flows}
use Rattle.worlds.proofs.Shared.{Worlds, seen_if, told_same, seen_object, equal_tests, same_halted, same_accessible}
use Rattle.worlds.proofs.Shared.{same_observes, container_same, observed_seen, accessible_observed}
use Rattle.worlds.proofs.Plainly.{changed_at, lister_same}

-- a list without an id has no other one more
less_without : (o q : ℕ) (ids : List ℕ) → has (without o ids) q ≡ true → has ids q ≡ true
less_without o q [] h = h
less_without o q (i ∷ ids) h =
    elim (o == i)
    as (λ b. has (cond (not b) (i ∷ without o ids) (without o ids)) q ≡ true → ((q == i) || has ids q) ≡ true) [
      | true ↦ λ e. later (q == i) (has ids q) (less_without o q ids e)
      | false ↦ λ e. elim (q == i)
          as (λ b. (b || has (without o ids) q) ≡ true → (b || has ids q) ≡ true) [
            | true ↦ λ f. refl
            | false ↦ λ f. less_without o q ids f
          ] e
    ] h
  where
    later : (a b : Bool) → b ≡ true → (a || b) ≡ true
    later true b e = refl
    later false b e = e

less_listed : (o q : ℕ) (b : body.Body) → has (listed (relist (without o) b)) q ≡ true → has (listed b) q ≡ true
less_listed o q (is.Container avoid list) h = less_without o q list h
less_listed o q (is.Segment bytes) h = h
less_listed o q (is.AddressSpace slots) h = h
less_listed o q (is.Thread t) h = h
less_listed o q (is.Gate g) h = h
less_listed o q (is.Device packets) h = h

-- a link is one of what is recorded
links_from : (a b : ℕ) (es : List (ℕ × Object)) → ids_rise es ≡ true → links (lists_of es) a b ≡ true
    → (x : Object) × (lookup (is_at (nat_cmp a)) es ≡ Some x) × (has (listed x.body) b ≡ true)
links_from a b [] rise h = absurd (both_ways false refl h)
links_from a b (e ∷ es) rise h =
    let parts : (list_all (λ f. nat_lt e.0 f.0) es ≡ true) × (ids_rise es ≡ true) =
    and_parts (list_all (λ f. nat_lt e.0 f.0) es) (ids_rise es) rise in
    elim (or_cases ((a == e.0) && has (listed e.1.body) b) (links (lists_of es) a b) h) [
      | inl here ↦
          let both : ((a == e.0) ≡ true) × (has (listed e.1.body) b ≡ true) =
          and_parts (a == e.0) (has (listed e.1.body) b) here in (
            e.1,
            ap (λ v. cond v (Some e.1) (lookup (is_at (nat_cmp a)) es))
                (subst (λ k. is_at (nat_cmp a) k ≡ true) (eqb-true a e.0 both.0) (at_self a)),
            both.1,
          )
      | inr there ↦
          let found = links_from a b es parts.1 there in (
            found.0,
            elim (is_at (nat_cmp a) e.0)
                as (λ v. is_at (nat_cmp a) e.0 ≡ v → cond v (Some e.1) (lookup (is_at (nat_cmp a)) es) ≡ Some found.0) [
                  | true ↦ λ near.
                      let on : a ≡ e.0 = same_id a e.0 near in
                      let less : e.0 < a =
                      ltb-true e.0 a (all_at (λ p y. nat_lt e.0 p) es a found.0 parts.0 found.1) in
                      absurd (omega arith)
                  | false ↦ λ far. found.1
                ] refl,
            found.2,
          )
    ]

-- a live id is the root, or is linked by one that is live
last_live : (lists : List (ℕ × List ℕ)) (a : ℕ) (path : List ℕ) (o : ℕ) → is_live lists a ≡ true
    → Leads lists a path o → (a ≡ o) ⊎ ((b : ℕ) × (is_live lists b ≡ true) × (links lists b o ≡ true))
last_live lists a [] o live h = inl h
last_live lists a (b ∷ path) o live h =
    elim (last_live lists b path o (live_link lists a b live h.0) h.1) [
      | inl end ↦ inr (a, live, subst (λ k. links lists a k ≡ true) end h.0)
      | inr more ↦ inr more
    ]

root_live : (lists : List (ℕ × List ℕ)) → is_live lists 1 ≡ true
root_live lists = live_from_path lists 1 ([], refl)

lister_or_root : (lists : List (ℕ × List ℕ)) (o : ℕ) → is_live lists o ≡ true
    → (1 ≡ o) ⊎ ((b : ℕ) × (is_live lists b ≡ true) × (links lists b o ≡ true))
lister_or_root lists o h =
    let p : IsLive lists o = path_from_live lists o h in last_live lists 1 p.0 o (root_live lists) p.1

-- a container stands in one list
once : (n o : ℕ) (x : Object) → is_listed_rightly n o x ≡ true → is_kind kinds.Container x ≡ true → n ≤ 1
once n o x h kind =
    elim (o == 1)
    as (λ v. cond v (n == 0) (cond (is_kind kinds.Container x) (n == 1) (nat_le 1 n && (nat_le n 1 || x.fixed)))
    ≡ true → n ≤ 1) [
      | true ↦ λ r. let none : n ≡ 0 = eqb-true n 0 r in omega arith
      | false ↦ λ r.
          let one : n ≡ 1 =
          eqb-true n 1 (sym (ap (λ b. cond b (n == 1) (nat_le 1 n && (nat_le n 1 || x.fixed))) kind) ∙ r) in
          omega arith
    ] h

single : (s : State) (c p q : ℕ) (z x y : Object) → is_well_formed s ≡ true → object_at s c ≡ Some z
    → is_kind kinds.Container z ≡ true → object_at s p ≡ Some x → object_at s q ≡ Some y
    → has (listed x.body) c ≡ true → has (listed y.body) c ≡ true → p ≡ q
single s c p q z x y sound found kind fp fq hp hq =
    elim (p == q) as (λ b. (p == q) ≡ b → p ≡ q) [
      | true ↦ λ is. eqb-true p q is
      | false ↦ λ off.
          let two : 2 ≤ listers s c =
          counted_two p q c s.objects x y (λ on. both_ways (p == q) off (eq-eqb p q on)) fp fq hp hq in
          let one : listers s c ≤ 1 =
          once (listers s c) c z (kept_parts s c z (all_at (λ k w. is_kept s k w) s.objects c z
          (soundness_of s sound).kept found)).rightly kind in
          absurd (omega arith)
    ] refl

-- the root stands in none
rootless : (s : State) (c q : ℕ) (z y : Object) → is_well_formed s ≡ true → object_at s c ≡ Some z → 1 ≡ c
    → object_at s q ≡ Some y → has (listed y.body) c ≡ true → ⊥
rootless s c q z y sound found root fq h =
    let some : 1 ≤ listers s c = counted_one q c s.objects y fq h in
    both_ways (c == 1)
    (not_root (listers s c) c z (kept_parts s c z (all_at (λ k w. is_kept s k w) s.objects c z
    (soundness_of s sound).kept found)).rightly some)
    (eq-eqb c 1 (sym root))

-- the lister of c, where only records are left out that do not list it
lister_filter : (c : ℕ) (f : ℕ → Bool) (es : List (ℕ × Object))
    → list_all (λ e. not (has (listed e.1.body) c) || f e.0) es ≡ true
    → lister_of c (filter (λ e. f e.0) es) ≡ lister_of c es
lister_filter c f [] h = refl
lister_filter c f (e ∷ es) h =
    let parts : ((not (has (listed e.1.body) c) || f e.0) ≡ true)
    × (list_all (λ e. not (has (listed e.1.body) c) || f e.0) es ≡ true) =
    and_parts (not (has (listed e.1.body) c) || f e.0) (list_all (λ e. not (has (listed e.1.body) c) || f e.0) es) h in
    elim (f e.0)
    as (λ b. (not (has (listed e.1.body) c) || b) ≡ true
    → lister_of c (cond b (e ∷ filter (λ e. f e.0) es) (filter (λ e. f e.0) es)) ≡ lister_of c (e ∷ es)) [
      | true ↦ λ g. ap (cond (has (listed e.1.body) c) e.0) (lister_filter c f es parts.1)
      | false ↦ λ g.
          lister_filter c f es parts.1
          ∙ sym (ap (λ b. cond b e.0 (lister_of c es)) (neither (has (listed e.1.body) c) g))
    ] parts.0
  where
    neither : (b : Bool) → (not b || false) ≡ true → b ≡ false
    neither true g = absurd (cc)
    neither false g = refl

-- the edit of an unreference
abbrev pub cut : State → ℕ → ℕ → State
cut s d o = changed s d (delisting o)

cut_rise : (s : State) (d o : ℕ) → is_well_formed s ≡ true → ids_rise (cut s d o).objects ≡ true
cut_rise s d o sound =
    elim (object_at s d)
    as (λ v. ids_rise (of_object s (λ z. put s d (delisting o z)) v).objects ≡ true) [
      | None ↦ (soundness_of s sound).rise
      | Some y ↦ rise-put d s.objects (delisting o y) ∙ (soundness_of s sound).rise
    ]

-- what is listed after it was listed
cut_lists : (s : State) (d o q c : ℕ) (y z : Object) → object_at s d ≡ Some y → object_at (cut s d o) q ≡ Some z
    → has (listed z.body) c ≡ true
    → (x : Object) × (object_at s q ≡ Some x) × (has (listed x.body) c ≡ true)
cut_lists s d o q c y z found at h =
    elim (is_at (nat_cmp q) d)
    as (λ b. is_at (nat_cmp q) d ≡ b → cond b (Some (delisting o y)) (object_at s q) ≡ Some z
    → (x : Object) × (object_at s q ≡ Some x) × (has (listed x.body) c ≡ true)) [
      | true ↦ λ near e.
          let same : delisting o y ≡ z = cc in (
            y,
            ap (object_at s) (same_id q d near) ∙ found,
            less_listed o c y.body (subst (λ (w : Object). has (listed w.body) c ≡ true) (sym same) h),
          )
      | false ↦ λ far e. (z, e, h)
    ] refl (sym (changed_at s d (delisting o) y q found) ∙ at)

-- a container that is live after it has the lister that it had
lister_after : (s : State) (d o c : ℕ) (y z : Object) → is_well_formed s ≡ true → object_at s d ≡ Some y
    → object_at s c ≡ Some z → is_kind kinds.Container z ≡ true
    → is_live (lists_of (cut s d o).objects) c ≡ true
    → lister_of c (restricted (cut s d o)).objects ≡ lister_of c s.objects
unfolding live_part
lister_after s d o c y z sound found at kind live =
    lister_filter c (is_live (lists_of (cut s d o).objects)) (cut s d o).objects
    (all_from (λ q w. not (has (listed w.body) c) || is_live (lists_of (cut s d o).objects) q) (cut s d o).objects
    (cut_rise s d o sound)
    (λ q w there. elim (has (listed w.body) c)
    as (λ b. has (listed w.body) c ≡ b → (not b || is_live (lists_of (cut s d o).objects) q) ≡ true) [
      | true ↦ λ lists. alive q w there lists
      | false ↦ λ lists. refl
    ] refl))
    ∙ lister_changed c s d (delisting o) (λ x is.
    equal_tests (has (listed (delisting o x).body) c) (has (listed x.body) c) (less_listed o c x.body)
    (λ h. still x is h))
  where
    alive : (q : ℕ) (w : Object) → object_at (cut s d o) q ≡ Some w → has (listed w.body) c ≡ true
        → is_live (lists_of (cut s d o).objects) q ≡ true
    alive q w there lists =
        let old = cut_lists s d o q c y w found there lists in
        elim (lister_or_root (lists_of (cut s d o).objects) c live) [
          | inl root ↦ absurd (rootless s c q z old.0 sound at root old.1 old.2)
          | inr by ↦
              let link = links_from by.0 c (cut s d o).objects (cut_rise s d o sound) by.2 in
              let was = cut_lists s d o by.0 c y link.0 found link.1 link.2 in
              subst (λ k. is_live (lists_of (cut s d o).objects) k ≡ true)
              (single s c by.0 q z was.0 old.0 sound at kind was.1 old.1 was.2 old.2) by.1
        ]

    still : (x : Object) → object_at s d ≡ Some x → has (listed x.body) c ≡ true
        → has (listed (delisting o x).body) c ≡ true
    still x is h =
        elim (lister_or_root (lists_of (cut s d o).objects) c live) [
          | inl root ↦ absurd (rootless s c d z x sound at root is h)
          | inr by ↦
              let link = links_from by.0 c (cut s d o).objects (cut_rise s d o sound) by.2 in
              let was = cut_lists s d o by.0 c y link.0 found link.1 link.2 in
              let on : by.0 ≡ d = single s c by.0 d z was.0 x sound at kind was.1 is was.2 h in
              let here : object_at (cut s d o) by.0 ≡ Some (delisting o x) =
              changed_at s d (delisting o) x by.0 is
              ∙ ap (λ b. cond b (Some (delisting o x)) (object_at s by.0))
              (subst (λ k. is_at (nat_cmp by.0) k ≡ true) on (at_self by.0)) in
              let both : Some link.0 ≡ Some (delisting o x) = sym link.1 ∙ here in
              let same : link.0 ≡ delisting o x = cc in
              subst (λ (v : Object). has (listed v.body) c ≡ true) same link.2
        ]

-- what is seen is, or is not
seen_or_not : (l : LabelValue) (s : State) (a : ℕ)
    → (seen_at l s a ≡ None) ⊎ ((x : Object) × (seen_at l s a ≡ Some x))
seen_or_not l s a =
    elim (seen_at l s a) as (λ v. seen_at l s a ≡ v → (seen_at l s a ≡ None) ⊎ ((x : Object) × (seen_at l s a ≡ Some x))) [
      | None ↦ λ is. inl is
      | Some x ↦ λ is. inr (x, is)
    ] refl

-- along a path to what is seen all is seen, so the path is one where the same is seen
path_over : (l : LabelValue) (m n : State) → ids_rise m.objects ≡ true → IsOpen l m
    → ((q : ℕ) → seen_at l n q ≡ seen_at l m q) → (a : ℕ) (path : List ℕ) (b : ℕ)
    → Leads (lists_of m.objects) a path b → seen_at l m b ≢ None
    → (seen_at l m a ≢ None) × Leads (lists_of n.objects) a path b
path_over l m n rise apart same a [] b h seen = (subst (λ k. seen_at l m k ≢ None) (sym h) seen, h)
path_over l m n rise apart same a (c ∷ path) b h seen =
    let tail = path_over l m n rise apart same c path b h.1 seen in
    let link = links_from a c m.objects rise h.0 in
    let lists : has (list_at m a) c ≡ true =
    ap (λ v. has (of_object [] (λ x. listed x.body) v) c) link.1 ∙ link.2 in
    elim (seen_or_not l m a) [
      | inl none ↦ absurd (tail.0 (apart a c lists none))
      | inr some ↦
          let is_some_a : seen_at l m a ≢ None =
          (λ none. let f : Some some.0 ≡ None = sym some.1 ∙ none in absurd (cc)) in
          let there : object_at n a ≡ Some some.0 =
          (seen_is l (object_at n a) some.0 (same a ∙ some.1)).0 in
          let here : Some link.0 ≡ Some some.0 = sym link.1 ∙ (seen_is l (object_at m a) some.0 some.1).0 in
          let on : link.0 ≡ some.0 = cc in (
            is_some_a,
            (
              links_at a c n.objects some.0 there (subst (λ (x : Object). has (listed x.body) c ≡ true) on link.2),
              tail.1,
            ),
          )
    ]

live_over : (l : LabelValue) (m n : State) → ids_rise m.objects ≡ true → IsOpen l m
    → ((q : ℕ) → seen_at l n q ≡ seen_at l m q) → (b : ℕ) → seen_at l m b ≢ None
    → is_live (lists_of m.objects) b ≡ true → is_live (lists_of n.objects) b ≡ true
live_over l m n rise apart same b seen h =
    let p : IsLive (lists_of m.objects) b = path_from_live (lists_of m.objects) b h in
    live_from_path (lists_of n.objects) b (p.0, (path_over l m n rise apart same 1 p.0 b p.1 seen).1)

-- what is seen of the live part
pub restricted_seen : (l : LabelValue) (e : State) (q : ℕ)
    → seen_at l (restricted e) q ≡ cond (is_live (lists_of e.objects) q) (seen_at l e q) None
restricted_seen l e q =
    ap (if_visible l) (restricted_at e q)
    ∙ elim (is_live (lists_of e.objects) q)
    as (λ b. if_visible l (cond b (object_at e q) None) ≡ cond b (seen_at l e q) None) [ true ↦ refl | false ↦ refl ]

restricted_read : (e : State) (q : ℕ) → is_live (lists_of e.objects) q ≡ true
    → read outline_of (restricted e) q ≡ read outline_of e q
restricted_read e q h =
    ap (option_map outline_of) (restricted_at e q ∙ ap (λ b. cond b (object_at e q) None) h)

-- who is seen to list q after lists it
seen_lists : (l : LabelValue) (e : State) (c q : ℕ) → lists_seen l e c q ≡ true
    → (x : Object) × (seen_at l e c ≡ Some x) × (has (listed x.body) q ≡ true)
seen_lists l e c q h =
    elim (seen_at l e c)
    as (λ v. of_object false (λ x. has (listed x.body) q) v ≡ true
    → (x : Object) × (v ≡ Some x) × (has (listed x.body) q ≡ true)) [
      | None ↦ λ g. absurd (both_ways false refl g)
      | Some x ↦ λ g. (x, refl, g)
    ] h

-- who passes a test is seen
seen_passes : (g : Object → Bool) (v : Option Object) → of_object false g v ≡ true
    → (x : Object) × (v ≡ Some x) × (g x ≡ true)
seen_passes g None h = absurd (both_ways false refl h)
seen_passes g (Some x) h = (x, refl, h)

delisting_outline : (o : ℕ) (x : Object) → outline_of (delisting o x) ≡ outline_of x
delisting_outline o x = relist_outline (without o) x.label x.quota x.body

abbrev none_of : LabelValue → Option Object
none_of l = None

-- what is seen of the live part is live, and seen
live_seen : (l : LabelValue) (e : State) (c : ℕ) (x : Object) → seen_at l (restricted e) c ≡ Some x
    → (is_live (lists_of e.objects) c ≡ true) × (seen_at l e c ≡ Some x)
live_seen l e c x h =
    elim (is_live (lists_of e.objects) c)
    as (λ b. is_live (lists_of e.objects) c ≡ b → cond b (seen_at l e c) None ≡ Some x
    → (is_live (lists_of e.objects) c ≡ true) × (seen_at l e c ≡ Some x)) [
      | true ↦ λ is g. (is, g)
      | false ↦ λ is g. absurd (cc)
    ] refl (sym (restricted_seen l e c) ∙ h)

delisted_kind : (o : ℕ) (x : Object) → is_kind kinds.Container (delisting o x) ≡ true
    → is_kind kinds.Container x ≡ true
delisted_kind o x h = sym (ap (λ u. kind_number u.kind == kind_number kinds.Container) (delisting_outline o x)) ∙ h

-- containers that are not seen list nothing that is seen after the cut either
pub cut_open : (l : LabelValue) (s : State) (d o : ℕ) (y : Object) → IsOpen l s → object_at s d ≡ Some y
    → IsOpen l (cut s d o)
cut_open l s d o y apart found p q lists off =
    elim (object_at (cut s d o) p)
    as (λ v. object_at (cut s d o) p ≡ v → has (of_object [] (λ x. listed x.body) v) q ≡ true
    → seen_at l (cut s d o) q ≡ None) [
      | None ↦ λ is h. absurd (both_ways false refl h)
      | Some z ↦ λ is h.
          let old = cut_lists s d o p q y z found is h in
          unseen_after q (apart p q (ap (λ v. has (of_object [] (λ x. listed x.body) v) q) old.1 ∙ old.2)
          (unseen_before p off))
    ] refl lists
  where
    unseen_after : (k : ℕ) → seen_at l s k ≡ None → seen_at l (cut s d o) k ≡ None
    unseen_after k none =
        ap (if_visible l) (changed_at s d (delisting o) y k found) ∙
        elim (is_at (nat_cmp k) d)
        as (λ b. is_at (nat_cmp k) d ≡ b → if_visible l (cond b (Some (delisting o y)) (object_at s k)) ≡ None) [
          | true ↦ λ near.
              unseen l (delisting o y) (unseen_label l y
              (sym (ap (if_visible l) (ap (object_at s) (same_id k d near) ∙ found)) ∙ none))
          | false ↦ λ far. none
        ] refl

    unseen_before : (k : ℕ) → seen_at l (cut s d o) k ≡ None → seen_at l s k ≡ None
    unseen_before k none =
        elim (is_at (nat_cmp k) d)
        as (λ b. is_at (nat_cmp k) d ≡ b → if_visible l (cond b (Some (delisting o y)) (object_at s k)) ≡ None
        → seen_at l s k ≡ None) [
          | true ↦ λ near e.
              ap (if_visible l) (ap (object_at s) (same_id k d near) ∙ found)
              ∙ unseen l y (unseen_label l (delisting o y) e)
          | false ↦ λ far e. e
        ] refl (sym (ap (if_visible l) (changed_at s d (delisting o) y k found)) ∙ none)

-- an unreference in a container that is not seen
pub hidden_cut : (l : LabelValue) (s : State) (d o : ℕ) (y : Object) → is_well_formed s ≡ true → IsOpen l s
    → object_at s d ≡ Some y → seen_at l s d ≡ None → IsSame l s (restricted (cut s d o))
hidden_cut l s d o y sound apart found off =
    same_from l s (restricted (cut s d o))
    (λ q. restricted_seen l (cut s d o) q ∙
    elim (seen_or_not l s q) [
      | inl none ↦ ap (λ v. cond (is_live (lists_of (cut s d o).objects) q) v None) (same q ∙ none)
          ∙ either (is_live (lists_of (cut s d o).objects) q) ∙ sym none
      | inr some ↦ ap (λ b. cond b (seen_at l (cut s d o) q) None) (alive q some.0 some.1) ∙ same q
    ])
    (λ c q h.
    let by = seen_lists l s c q h in
    let at : object_at (cut s d o) c ≡ Some by.0 =
    (seen_is l (object_at (cut s d o) c) by.0 (same c ∙ by.1)).0 in
    restricted_read (cut s d o) q
    (live_link (lists_of (cut s d o).objects) c q (alive c by.0 by.1)
    (links_at c q (cut s d o).objects by.0 at by.2))
    ∙ read_changed outline_of s d (delisting o) (λ x is. delisting_outline o x) q)
    (λ c h.
    let by = seen_passes (is_kind kinds.Container) (seen_at l s c) h in
    lister_after s d o c y by.0 sound found (seen_is l (object_at s c) by.0 by.1).0 by.2 (alive c by.0 by.1))
  where
    same : (q : ℕ) → seen_at l (cut s d o) q ≡ seen_at l s q
    same q =
        seen_changed l s d (delisting o) off
        (λ x is. unseen l (delisting o x) (unseen_label l x (ap (if_visible l) (sym is) ∙ off))) q

    either : (b : Bool) → cond b (none_of l) (none_of l) ≡ none_of l
    either true = refl
    either false = refl

    alive : (q : ℕ) (x : Object) → seen_at l s q ≡ Some x → is_live (lists_of (cut s d o).objects) q ≡ true
    alive q x is =
        live_over l s (cut s d o) (soundness_of s sound).rise apart same q
        (λ none. let f : Some x ≡ None = sym is ∙ none in absurd (cc))
        (recorded_live (lists_of s.objects) s.objects q x (soundness_of s sound).live
        (seen_is l (object_at s q) x is).0)

-- in one that is seen, in two worlds
pub both_cut : (l : LabelValue) (s n : State) (d o : ℕ) (y : Object) → is_well_formed s ≡ true
    → is_well_formed n ≡ true → IsOpen l s → IsOpen l n → IsSame l s n → object_at s d ≡ Some y
    → visible y.label l ≡ true → IsSame l (restricted (cut s d o)) (restricted (cut n d o))
both_cut l s n d o y sound sound_too apart apart_too same found seen =
    same_from l (restricted (cut s d o)) (restricted (cut n d o))
    (λ q. restricted_seen l (cut n d o) q
    ∙ elim (seen_or_not l (cut s d o) q) [
      | inl none ↦
          ap (λ v. cond (is_live (lists_of (cut n d o).objects) q) v None) (over q ∙ none)
          ∙ either (is_live (lists_of (cut n d o).objects) q)
          ∙ sym (ap (λ v. cond (is_live (lists_of (cut s d o).objects) q) v None) none
          ∙ either (is_live (lists_of (cut s d o).objects) q))
      | inr some ↦ (λ i. cond (alive q some.0 some.1 i) (over q i) None)
    ]
    ∙ sym (restricted_seen l (cut s d o) q))
    (λ c q h.
    let by = seen_lists l (restricted (cut s d o)) c q h in
    let at = live_seen l (cut s d o) c by.0 by.1 in
    let at_s : object_at (cut s d o) c ≡ Some by.0 = (seen_is l (object_at (cut s d o) c) by.0 at.1).0 in
    let at_n : object_at (cut n d o) c ≡ Some by.0 =
    (seen_is l (object_at (cut n d o) c) by.0 (over c ∙ at.1)).0 in
    let old = cut_lists s d o c q y by.0 found at_s by.2 in
    restricted_read (cut n d o) q
    (live_link (lists_of (cut n d o).objects) c q (alive c by.0 at.1 ∙ at.0)
    (links_at c q (cut n d o).objects by.0 at_n by.2))
    ∙ read_changed outline_of n d (delisting o) (λ x is. delisting_outline o x) q
    ∙ told_same l s n c q same (was_seen c q old.0 old.1 old.2 by.0 at.1)
    ∙ sym (read_changed outline_of s d (delisting o) (λ x is. delisting_outline o x) q)
    ∙ sym (restricted_read (cut s d o) q
    (live_link (lists_of (cut s d o).objects) c q at.0 (links_at c q (cut s d o).objects by.0 at_s by.2))))
    (λ c h.
    let by = seen_passes (is_kind kinds.Container) (seen_at l (restricted (cut s d o)) c) h in
    let at = live_seen l (cut s d o) c by.0 by.1 in
    let back = seen_back c by.0 at.1 in
    let kind : is_kind kinds.Container back.0 ≡ true = back.2 by.2 in
    let found_n : object_at n c ≡ Some back.0 =
    seen_object l s n c back.0 same (seen_is l (object_at s c) back.0 back.1).0
    (seen_is l (object_at s c) back.0 back.1).1 ∙ (seen_is l (object_at s c) back.0 back.1).0 in
    lister_after n d o c y back.0 sound_too (seen_object l s n d y same found seen ∙ found) found_n kind
    (alive c by.0 at.1 ∙ at.0)
    ∙ lister_same l s n c same (ap (of_object false (is_kind kinds.Container)) back.1 ∙ kind)
    ∙ sym (lister_after s d o c y back.0 sound found (seen_is l (object_at s c) back.0 back.1).0 kind at.0))
  where
    found_too : object_at n d ≡ Some y
    found_too = seen_object l s n d y same found seen ∙ found

    over : (q : ℕ) → seen_at l (cut n d o) q ≡ seen_at l (cut s d o) q
    over q =
        ap (if_visible l) (changed_at n d (delisting o) y q (seen_object l s n d y same found seen ∙ found))
        ∙ elim (is_at (nat_cmp q) d)
        as (λ b. if_visible l (cond b (Some (delisting o y)) (object_at n q))
        ≡ if_visible l (cond b (Some (delisting o y)) (object_at s q))) [
          | true ↦ refl
          | false ↦ same.objects q
        ]
        ∙ sym (ap (if_visible l) (changed_at s d (delisting o) y q found))

    either : (b : Bool) → cond b (none_of l) (none_of l) ≡ none_of l
    either true = refl
    either false = refl

    alive : (q : ℕ) (x : Object) → seen_at l (cut s d o) q ≡ Some x
        → is_live (lists_of (cut n d o).objects) q ≡ is_live (lists_of (cut s d o).objects) q
    alive q x is =
        equal_tests (is_live (lists_of (cut n d o).objects) q) (is_live (lists_of (cut s d o).objects) q)
        (live_over l (cut n d o) (cut s d o) (cut_rise n d o sound_too)
        (cut_open l n d o y apart_too (seen_object l s n d y same found seen ∙ found))
        (λ k. sym (over k)) q
        (λ none. let f : Some x ≡ None = sym (over q ∙ is) ∙ none in absurd (cc)))
        (live_over l (cut s d o) (cut n d o) (cut_rise s d o sound) (cut_open l s d o y apart found) over q
        (λ none. let f : Some x ≡ None = sym is ∙ none in absurd (cc)))

    -- what is seen after was seen before, of the same kind
    seen_back : (c : ℕ) (x : Object) → seen_at l (cut s d o) c ≡ Some x
        → (z : Object) × (seen_at l s c ≡ Some z)
        × (is_kind kinds.Container x ≡ true → is_kind kinds.Container z ≡ true)
    seen_back c x is =
        elim (is_at (nat_cmp c) d)
        as (λ b. is_at (nat_cmp c) d ≡ b → if_visible l (cond b (Some (delisting o y)) (object_at s c)) ≡ Some x
        → (z : Object) × (seen_at l s c ≡ Some z)
        × (is_kind kinds.Container x ≡ true → is_kind kinds.Container z ≡ true)) [
          | true ↦ λ near e.
              let both = (seen_is l (Some (delisting o y)) x e).0 in
              let on : delisting o y ≡ x = cc in (
                y,
                ap (seen_at l s) (same_id c d near) ∙ seen_if l s d y found seen,
                λ kind. delisted_kind o y (subst (λ (w : Object). is_kind kinds.Container w ≡ true) (sym on) kind),
              )
          | false ↦ λ far e. (x, e, λ kind. kind)
        ] refl (sym (ap (if_visible l) (changed_at s d (delisting o) y c found)) ∙ is)

    was_seen : (c q : ℕ) (x : Object) → object_at s c ≡ Some x → has (listed x.body) q ≡ true → (w : Object)
        → seen_at l (cut s d o) c ≡ Some w → lists_seen l s c q ≡ true
    was_seen c q x at lists w is =
        let back = seen_back c w is in
        let there : Some x ≡ Some back.0 = sym at ∙ (seen_is l (object_at s c) back.0 back.1).0 in
        let on : x ≡ back.0 = cc in
        ap (of_object false (λ z. has (listed z.body) q)) back.1
        ∙ subst (λ (z : Object). has (listed z.body) q ≡ true) on lists

-- the call, in one world
pub hidden_unref : (l : LabelValue) (s : State) (t : ℕ) (e : Entry) → is_well_formed s ≡ true → IsOpen l s
    → seen_at l s t ≡ None → IsSame l s (next s t (call.Unref e))
unfolding refused
hidden_unref l s t e sound apart off =
    elim (refused s t (call.Unref e))
    as (λ v. refused s t (call.Unref e) ≡ v → IsSame l s (next s t (call.Unref e))) [
      | None ↦ λ h.
          let none = none_hold (halted s t ++ row s t (call.Unref e)) h in
          let access : is_accessible s t e.container ≡ true = not-false _ none.1.0 in
          let at : IsContainerAt s e.container = container_at s e.container (and_parts _ _ (and_parts _ _ access).0).0 in
          subst (λ (n : State). IsSame l s n) (sym (step_done s t (call.Unref e) h).1)
          (hidden_cut l s e.container e.object at.object sound apart at.found
          (flow_unseen l s t e.container off (not-false _ none.1.1.1.1.1.0)))
      | Some r ↦ λ h.
          subst (λ (n : State). IsSame l s n) (sym (step_refused s t (call.Unref e) r h).1) (same_refl l s)
    ] refl

-- and in both
unref_alike : (l : LabelValue) (s n : State) (t : ℕ) (e : Entry) → Worlds l s n t
    → AlikeFront (row_of s t (running ++ at_container e.container)) (row_of n t (running ++ at_container e.container))
    (drop 1 (row s t (call.Unref e))) (drop 1 (row n t (call.Unref e)))
unref_alike l s n t e w = (
  refl,
  same_halted l s n t w,
  λ h1. (
    refl,
    ap not (same_accessible l s n t e.container w),
    λ h2. (
      refl,
      ap (λ v. not (names_root e) && not (has (of_object [] (λ x. listed x.body) v) e.object))
          (container_same l s n t e.container w (not-false _ h2)),
      (
        refl,
        refl,
        (
          refl,
          ap not (same_observes l s n t e.container w),
          (
            refl,
            ap not (same_flows l s n t e.container w (container_same l s n t e.container w (not-false _ h2))),
            (
              refl,
              ap (of_object false (λ x. x.immutable)) (container_same l s n t e.container w (not-false _ h2)),
              tt,
            ),
          ),
        ),
      ),
    ),
  ),
)

same_refused : (l : LabelValue) (s n : State) (t : ℕ) (e : Entry) → Worlds l s n t
    → refused n t (call.Unref e) ≡ refused s t (call.Unref e)
unfolding refused
same_refused l s n t e w =
    front_refusal (row_of s t (running ++ at_container e.container)) (row_of n t (running ++ at_container e.container))
    (drop 1 (row s t (call.Unref e))) (drop 1 (row n t (call.Unref e))) (unref_alike l s n t e w) refl refl

pub unref_stays : (l : LabelValue) (s n : State) (t : ℕ) (e : Entry) → Worlds l s n t → IsOpen l s → IsOpen l n
    → (answer n t (call.Unref e) ≡ answer s t (call.Unref e))
    × IsSame l (next s t (call.Unref e)) (next n t (call.Unref e))
unfolding refused
unref_stays l s n t e w apart apart_too =
    elim (refused s t (call.Unref e))
    as (λ v. refused s t (call.Unref e) ≡ v → (answer n t (call.Unref e) ≡ answer s t (call.Unref e))
    × IsSame l (next s t (call.Unref e)) (next n t (call.Unref e))) [
      | None ↦ λ h.
          let none = none_hold (halted s t ++ row s t (call.Unref e)) h in
          let access : is_accessible s t e.container ≡ true = not-false _ none.1.0 in
          let seen = observed_seen l s t e.container w.within (accessible_observed s t e.container access) in
          let too : refused n t (call.Unref e) ≡ None = same_refused l s n t e w ∙ h in (
            (step_done n t (call.Unref e) too).0 ∙ sym (step_done s t (call.Unref e) h).0,
            subst (λ (m : State). IsSame l m (next n t (call.Unref e))) (sym (step_done s t (call.Unref e) h).1)
                (subst (λ (m : State). IsSame l (restricted (edit s t (call.Unref e))) m)
                (sym (step_done n t (call.Unref e) too).1)
                (both_cut l s n e.container e.object seen.0 w.sound w.sound_too apart apart_too w.same seen.1 seen.2)),
          )
      | Some r ↦ λ h.
          let too : refused n t (call.Unref e) ≡ Some r = same_refused l s n t e w ∙ h in (
            (step_refused n t (call.Unref e) r too).0 ∙ sym (step_refused s t (call.Unref e) r h).0,
            subst (λ (m : State). IsSame l m (next n t (call.Unref e))) (sym (step_refused s t (call.Unref e) r h).1)
                (subst (λ (m : State). IsSame l s m) (sym (step_refused n t (call.Unref e) r too).1) w.same),
          )
    ] refl

pub open_hidden : OpenHiddenStepsStay
open_hidden l s t (call.Unref e) sound apart off after = hidden_unref l s t e sound apart off
open_hidden l s t c sound apart off after = hidden_stays l s t c sound refl off after

pub unrefs_alike : UnrefsStayAlike
unrefs_alike l s n t e sound sound_too same within apart apart_too =
    unref_stays l s n t e (record { sound = sound; sound_too = sound_too; same = same; within = within }) apart apart_too
