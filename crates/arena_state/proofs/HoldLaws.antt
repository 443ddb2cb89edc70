-- What holds of a state that can be laid out anew.
use Rattle.std.proofs.Common.{◌≡◌, ◌≢◌, ℕ, zero, suc, ◌+◌, ◌<◌, ◌≤◌, ◌⊎◌, Bool, true, false, cond, not, ◌&&◌, ◌||◌, ◌==◌, nat_lt, nat_le, List, [], ◌∷◌, ◌++◌, length, get_or, Option, Some, None, refl, sym, ap, ◌∙◌, subst, arith, inl, inr, sum_by}
use Rattle.std.specs.Prelude.{is_some}
use Rattle.std.specs.List.{list_all}
use Rattle.std.specs.Map.{lookup}
use Rattle.std.specs.BTreeMap.{is_at}
use Rattle.std.specs.Ordering.{nat_cmp}
use Rattle.std.proofs.lemmas.Bool.{ltb-true, leb-true, cases_Bool, cases_eq, cases_lt, both_ways, eqb-true, eq-eqb, and_parts, and_from, or_cases}
use Rattle.std.proofs.lemmas.Option.{none-some}
use Rattle.std.proofs.lemmas.List.Sums.{sum_by-cons}
use Rattle.base.specs.Live.{has, links}
use Rattle.containers.specs.Objects.{Rises}
use Rattle.containers.specs.Tree.{ids_in, link_count}
use Rattle.containers.proofs.Lists.{apart_test, above_absent, links_has}
use Rattle.containers.proofs.Views.{at_has, or_left, or_right}
use Rattle.base.specs.declared.kinds.Kind.TheVariants as kinds
use Rattle.kernel_rules.specs.State.{State, object_at, of_object, is_kind, is_kind_at, listed, lists_of}
use Rattle.kernel_rules.specs.WellFormed.{ids_rise, is_kept, is_stored, is_whole_body, listers, is_listed_rightly}
use Rattle.kernel_rules.specs.declared.objects.Object.{Object}
use Rattle.kernel_rules.proofs.ListerLaws.{IsKept, kept_parts}
use Rattle.kernel_rules.proofs.LookupLaws.{at_is, all_at}
use Rattle.kernel_rules.proofs.WellFormedLaws.{soundness_of}
use Rattle.kernel_laws.proofs.Bounds.{root_bounds}
use Rattle.arena_state.specs.Restored.{bare, lists_younger, IsHoldable}
use Rattle.std.proofs.lemmas.List.{append-nil}
use Rattle.arena_state.proofs.LaidLaws.{before_less, ids_shape, rises_ids, absent_before, count_room, lists_append, links_split, links_left}

-- what is tested of all ids holds of one of them
tested_at : (test : ℕ → Bool) (ids : List ℕ) (i : ℕ) → list_all test ids ≡ true → has ids i ≡ true → test i ≡ true
tested_at test [] i all h = absurd (both_ways false refl h)
tested_at test (j ∷ ids) i all h =
    let parts = and_parts (test j) (list_all test ids) all in
    elim (or_cases (i == j) (has ids i) h) [
      | inl is ↦ ap test (eqb-true i j is) ∙ parts.0
      | inr later ↦ tested_at test ids i parts.1 later
    ]

-- a listed container is younger than the one that lists it
younger_than : (s : State) (es : List (ℕ × Object)) (a b : ℕ) → list_all (λ e. lists_younger s e.0 (listed e.1.body)) es ≡ true
    → is_kind_at s kinds.Container b ≡ true → links (lists_of es) a b ≡ true → a < b
younger_than s [] a b all kind h = absurd (both_ways false refl h)
younger_than s (e ∷ es) a b all kind h =
    let parts = and_parts (lists_younger s e.0 (listed e.1.body)) (list_all (λ f. lists_younger s f.0 (listed f.1.body)) es) all in
    elim (or_cases ((a == e.0) && has (listed e.1.body) b) (links (lists_of es) a b) h) [
      | inl here ↦
          let at = and_parts (a == e.0) (has (listed e.1.body) b) here in
          let test = tested_at (λ i. not (is_kind_at s kinds.Container i) || nat_lt e.0 i) (listed e.1.body) b parts.0 at.1 in
          let less : e.0 < b = ltb-true e.0 b (sym (ap (λ (k : Bool). not k || nat_lt e.0 b) kind) ∙ test) in
          omega (arith, less, eqb-true a e.0 at.0)
      | inr later ↦ younger_than s es a b parts.1 kind later
    ]

-- where some list has an id, there is one that links it
linked_by : (lists : List (ℕ × List ℕ)) (o : ℕ) → 1 ≤ sum_by (λ e. cond (has e.1 o) 1 0) lists → (a : ℕ) × (links lists a o ≡ true)
linked_by [] o some = absurd (omega (arith, some))
linked_by (e ∷ es) o some = elim (cases_Bool (has e.1 o)) [
  | inl here ↦ (e.0, or_left _ _ (and_from (e.0 == e.0) (has e.1 o) (eq-eqb e.0 e.0 refl) here))
  | inr off ↦
      let all = sum_by-cons (λ (f : ℕ × List ℕ). cond {A = ℕ} (has f.1 o) 1 0) e es in
      let none : cond {A = ℕ} (has e.1 o) 1 0 ≡ 0 = ap {B = ℕ} (λ (b : Bool). cond b 1 0) off in
      let rest = linked_by es o (omega (arith, some, all, none)) in
      (rest.0, or_right _ _ rest.1)
]

-- where no list has an id, none of them does
unlinked_by : (es : List (ℕ × Object)) (p : ℕ) (x : Object) (o : ℕ) → sum_by (λ e. cond (has e.1 o) 1 0) (lists_of es) ≡ 0
    → lookup (is_at (nat_cmp p)) es ≡ Some x → has (listed x.body) o ≡ false
unlinked_by es p x o none found = flip (has (listed x.body) o) (all_at (λ q y. not (has (listed y.body) o)) es p x (each es none) found)
  where
    flip : (b : Bool) → not b ≡ true → b ≡ false
    flip true h = sym h
    flip false h = refl

    each : (fs : List (ℕ × Object)) → sum_by (λ e. cond (has e.1 o) 1 0) (lists_of fs) ≡ 0 → list_all (λ e. not (has (listed e.1.body) o)) fs ≡ true
    each [] h = refl
    each (f ∷ fs) h =
        let all = sum_by-cons (λ (g : ℕ × List ℕ). cond {A = ℕ} (has g.1 o) 1 0) (f.0, listed f.1.body) (lists_of fs) in
        elim (cases_Bool (has (listed f.1.body) o)) [
          | inl here ↦
              let one : cond {A = ℕ} (has (listed f.1.body) o) 1 0 ≡ 1 = ap {B = ℕ} (λ (b : Bool). cond b 1 0) here in
              absurd (omega (arith, h, all, one))
          | inr off ↦ and_from (not (has (listed f.1.body) o)) (list_all (λ e. not (has (listed e.1.body) o)) fs) (ap not off) (each fs (omega (arith, h, all)))
        ]

-- an object that stands in no list is the root
alone_is_root : (o : ℕ) (x : Object) → is_listed_rightly 0 o x ≡ true → o ≡ 1
alone_is_root o x h = elim (cases_Bool (o == 1)) [
  | inl is ↦ eqb-true o 1 is
  | inr off ↦ absurd (never (is_kind kinds.Container x) (subst (λ v. cond v true (cond (is_kind kinds.Container x) false false) ≡ true) off h))
]
  where
    never : (b : Bool) → cond b false false ≡ true → ⊥
    never true h = both_ways false refl h
    never false h = both_ways false refl h

-- the object at a place of a rising list
pub found_middle : (done : List (ℕ × Object)) (e : ℕ × Object) (rest : List (ℕ × Object)) → ids_rise (done ++ e ∷ rest) ≡ true
    → lookup (is_at (nat_cmp e.0)) (done ++ e ∷ rest) ≡ Some e.1
found_middle [] e rest rise = ap (λ (b : Bool). cond b (Some e.1) (lookup (is_at (nat_cmp e.0)) rest)) (at_is e.0 e.0 ∙ eq-eqb e.0 e.0 refl)
found_middle (f ∷ fs) e rest rise =
    let less : f.0 < e.0 = before_less (f ∷ fs) e rest rise 0 0 (omega arith) in
    let off : is_at (nat_cmp e.0) f.0 ≡ false = at_is e.0 f.0 ∙ apart_test e.0 f.0 (λ (same : e.0 ≡ f.0). omega (arith, less, same)) in
    ap (λ (b : Bool). cond b (Some f.1) (lookup (is_at (nat_cmp e.0)) (fs ++ e ∷ rest))) off
    ∙ found_middle fs e rest (and_parts (list_all (λ g. nat_lt f.0 g.0) (fs ++ e ∷ rest)) (ids_rise (fs ++ e ∷ rest)) rise).1

-- an id that is found stands among the ids
pub found_has : (es : List (ℕ × Object)) (o : ℕ) → is_some (lookup (is_at (nat_cmp o)) es) ≡ true → has (ids_in (bare es)) o ≡ true
found_has [] o h = absurd (both_ways false refl h)
found_has (e ∷ es) o h = elim (cases_Bool (o == e.0)) [
  | inl is ↦ or_left _ _ is
  | inr off ↦ or_right _ _ (found_has es o (sym (ap (λ (b : Bool). is_some (cond b (Some e.1) (lookup (is_at (nat_cmp o)) es))) (at_is o e.0 ∙ off)) ∙ h))
]

-- an id that stands among the ids is found
pub has_found : (es : List (ℕ × Object)) (o : ℕ) → has (ids_in (lists_of es)) o ≡ true → (x : Object) × (lookup (is_at (nat_cmp o)) es ≡ Some x)
has_found [] o h = absurd (both_ways false refl h)
has_found (e ∷ es) o h = elim (cases_Bool (o == e.0)) [
  | inl is ↦ (e.1, ap (λ (b : Bool). cond b (Some e.1) (lookup (is_at (nat_cmp o)) es)) (at_is o e.0 ∙ is))
  | inr off ↦
      let rest = has_found es o (sym (ap (λ (b : Bool). b || has (ids_in (lists_of es)) o) off) ∙ h) in
      (rest.0, ap (λ (b : Bool). cond b (Some e.1) (lookup (is_at (nat_cmp o)) es)) (at_is o e.0 ∙ off) ∙ rest.1)
]

-- of rising ids from 1 on, that of the root is the first
first_is : (es : List (ℕ × Object)) → list_all (λ e. nat_lt 0 e.0) es ≡ true → ids_rise es ≡ true → (r : Object) → lookup (is_at (nat_cmp 1)) es ≡ Some r
    → (x : Object) × (rest : List (ℕ × Object)) × (es ≡ (1, x) ∷ rest)
first_is [] some rise r found = absurd (none-some r found)
first_is (e ∷ es) some rise r found = elim (cases_eq e.0 1) [
  | inl is ↦ (e.1, es, ap (λ (i : ℕ). let f : ℕ × Object = (i, e.1) in f ∷ es) is)
  | inr ne ↦
      let off : is_at (nat_cmp 1) e.0 ≡ false = at_is 1 e.0 ∙ apart_test 1 e.0 (λ (same : 1 ≡ e.0). ne (sym same)) in
      let later : lookup (is_at (nat_cmp 1)) es ≡ Some r = sym (ap (λ (b : Bool). cond b (Some e.1) (lookup (is_at (nat_cmp 1)) es)) off) ∙ found in
      let less : e.0 < 1 = ltb-true e.0 1 (all_at (λ q y. nat_lt e.0 q) es 1 r (and_parts (list_all (λ f. nat_lt e.0 f.0) es) (ids_rise es) rise).0 later) in
      let more : 0 < e.0 = ltb-true 0 e.0 (and_parts (nat_lt 0 e.0) (list_all (λ f. nat_lt 0 f.0) es) some).0 in
      absurd (omega (arith, less, more))
]

suffix_rises : (done rest : List (ℕ × Object)) → ids_rise (done ++ rest) ≡ true → ids_rise rest ≡ true
suffix_rises [] rest rise = rise
suffix_rises (f ∷ fs) rest rise = suffix_rises fs rest (and_parts (list_all (λ g. nat_lt f.0 g.0) (fs ++ rest)) (ids_rise (fs ++ rest)) rise).1

-- what lists something from one object on has no less an id
from_first : (e : ℕ × Object) (rest : List (ℕ × Object)) (a : ℕ) → ids_rise (e ∷ rest) ≡ true → has (ids_in (lists_of (e ∷ rest))) a ≡ true → e.0 ≤ a
from_first e rest a rise there =
    let ids : ids_in (lists_of (e ∷ rest)) ≡ ids_in (bare (e ∷ rest)) = sym (ap ids_in (append-nil (lists_of (e ∷ rest)))) ∙ ids_shape (e ∷ rest) [] ∙ ap (λ (es : List (ℕ × Object)). ids_in (bare es)) (append-nil (e ∷ rest)) in
    let at = at_has (ids_in (bare (e ∷ rest))) a (subst (λ (xs : List ℕ). has xs a ≡ true) ids there) in
    place at.0 at.1 at.2
  where
    place : (k : ℕ) → k < length (ids_in (bare (e ∷ rest))) → get_or (ids_in (bare (e ∷ rest))) k 0 ≡ a → e.0 ≤ a
    place zero lt is = omega (arith, is)
    place (suc k) lt is =
        let less : e.0 < get_or (ids_in (bare (e ∷ rest))) (suc k) 0 = rises_ids (e ∷ rest) rise 0 (suc k) (omega arith) lt in
        omega (arith, less, is)

-- recorded ids stand among the ids
all_there : (s : State) (ids xs : List ℕ) → ((i : ℕ) → is_some (object_at s i) ≡ true → has xs i ≡ true)
    → list_all (λ i. is_some (object_at s i)) ids ≡ true → list_all (has xs) ids ≡ true
all_there s [] xs there h = refl
all_there s (i ∷ ids) xs there h =
    let parts = and_parts (is_some (object_at s i)) (list_all (λ j. is_some (object_at s j)) ids) h in
    and_from (has xs i) (list_all (has xs) ids) (there i parts.0) (all_there s ids xs there parts.1)

module _ (s : State) (h : IsHoldable s) where
  pub rise : ids_rise s.objects ≡ true
  rise = (soundness_of s h.formed).rise

  pub kept_at : (o : ℕ) (x : Object) → object_at s o ≡ Some x → IsKept s o x
  kept_at o x found = kept_parts s o x (all_at (λ p y. is_kept s p y) s.objects o x (soundness_of s h.formed).kept found)

  pub whole_of : (o : ℕ) (x : Object) → object_at s o ≡ Some x → is_whole_body x.body ≡ true
  whole_of o x found = (and_parts (is_stored x.label && length x.metadata == 64) (is_whole_body x.body) (kept_at o x found).whole).1

  pub climbs : (a b : ℕ) → is_kind_at s kinds.Container b ≡ true → links (lists_of s.objects) a b ≡ true → a < b
  climbs a b kind link = younger_than s s.objects a b h.younger kind link

  -- some container lists each object but the root
  pub listed_by : (o : ℕ) (x : Object) → object_at s o ≡ Some x → o ≢ 1 → (a : ℕ) × (links (lists_of s.objects) a o ≡ true)
  listed_by o x found ne = linked_by (lists_of s.objects) o (elim (cases_lt 0 (listers s o)) [
    | inl some ↦ omega (arith, some)
    | inr none ↦
        let alone : listers s o ≡ 0 = omega (arith, none) in
        absurd (ne (alone_is_root o x (subst (λ n. is_listed_rightly n o x ≡ true) alone (kept_at o x found).rightly)))
  ])

  -- none lists the root
  pub unlisted_root : (o : ℕ) (x : Object) → object_at s o ≡ Some x → (r : Object) → object_at s 1 ≡ Some r → has (listed x.body) 1 ≡ false
  unlisted_root o x found r root = unlinked_by s.objects o x 1 (eqb-true (listers s 1) 0 (kept_at 1 r root).rightly) found

  pub many : 8 ≤ s.limits.pages
  many = leb-true 8 s.limits.pages (first (nat_le 8 s.limits.pages) (nat_le s.limits.pages 1024) _ _ _ _ _ h.range)
    where
      first : (a b c d e f g : Bool) → (a && b && c && d && e && f && g) ≡ true → a ≡ true
      first true b c d e f g h = refl
      first false b c d e f g h = h

  pub few : s.limits.pages ≤ 1024
  few = leb-true s.limits.pages 1024 (second (nat_le 8 s.limits.pages) (nat_le s.limits.pages 1024) _ _ _ _ _ h.range)
    where
      second : (a b c d e f g : Bool) → (a && b && c && d && e && f && g) ≡ true → b ≡ true
      second true true c d e f g h = refl
      second true false c d e f g h = h
      second false b c d e f g h = absurd (both_ways false refl h)

  -- the root is there
  pub root_there : (r : Object) × (object_at s 1 ≡ Some r)
  root_there = found (object_at s 1) refl
    where
      found : (o : Option Object) → object_at s 1 ≡ o → (r : Object) × (object_at s 1 ≡ Some r)
      found None is = (let none : 0 ≡ s.limits.pages = sym (ap (of_object 0 (λ x. x.quota)) is) ∙ h.root in absurd (omega (arith, none, many)))
      found (Some r) is = (r, is)

  pub bounds : (length s.objects ≤ s.limits.pages) × (link_count (lists_of s.objects) + 1 ≤ s.limits.pages)
  bounds =
      let r = root_there in
      let b = root_bounds s r.0 h.formed r.1 in
      let quota : r.0.quota ≡ s.limits.pages = sym (ap (of_object 0 (λ x. x.quota)) r.1) ∙ h.root in
      (omega (arith, b.1, quota), omega (arith, b.2, quota))

  pub root_first : (x : Object) × (rest : List (ℕ × Object)) × (s.objects ≡ (1, x) ∷ rest)
  root_first = first_is s.objects h.some rise root_there.0 root_there.1

  -- each recorded id but the root's is listed
  pub all_listed : (i : ℕ) → has (ids_in (lists_of s.objects)) i ≡ true → i ≢ 1 → (a : ℕ) × (links (lists_of s.objects) a i ≡ true)
  all_listed i there ne = let found = has_found s.objects i there in listed_by i found.0 found.1 ne

  -- where the first objects list what they list
  module _ (done : List (ℕ × Object)) (e : ℕ × Object) (rest : List (ℕ × Object)) (split : done ++ e ∷ rest ≡ s.objects) where
    abbrev lists : List (ℕ × List ℕ)
    lists = lists_of done ++ bare (e ∷ rest)

    rising : ids_rise (done ++ e ∷ rest) ≡ true
    rising = ap ids_rise split ∙ rise

    ids : ids_in lists ≡ ids_in (bare s.objects)
    ids = ids_shape done (e ∷ rest) ∙ ap (λ (es : List (ℕ × Object)). ids_in (bare es)) split

    pub found_here : object_at s e.0 ≡ Some e.1
    found_here = ap (lookup (is_at (nat_cmp e.0))) (sym split) ∙ found_middle done e rest rising

    pub here_kept : IsKept s e.0 e.1
    here_kept = kept_at e.0 e.1 found_here

    pub rises_here : Rises (ids_in lists)
    rises_here = subst Rises (sym ids) (rises_ids s.objects rise)

    pub first_absent : has (ids_in (lists_of done)) e.0 ≡ false
    first_absent = ap (λ (xs : List ℕ). has xs e.0) (sym (ap ids_in (append-nil (lists_of done))) ∙ ids_shape done [] ∙ ap (λ (es : List (ℕ × Object)). ids_in (bare es)) (append-nil done))
        ∙ absent_before (ids_in (bare done)) e.0 (before_less done e rest rising)

    pub last_absent : has (ids_in (bare rest)) e.0 ≡ false
    last_absent = above_absent e.0 (ids_in (bare rest)) (rises_ids (e ∷ rest) (suffix_rises done (e ∷ rest) rising))

    pub there_here : list_all (has (ids_in lists)) (listed e.1.body) ≡ true
    there_here = all_there s (listed e.1.body) (ids_in lists) (λ i some. ap (λ (xs : List ℕ). has xs i) ids ∙ found_has s.objects i some) here_kept.recorded

    pub no_root_here : has (listed e.1.body) 1 ≡ false
    no_root_here = unlisted_root e.0 e.1 found_here root_there.0 root_there.1

    pub room_here : link_count lists + length (listed e.1.body) ≤ s.limits.pages
    room_here = omega (arith, count_room done e rest, ap (λ (es : List (ℕ × Object)). link_count (lists_of es)) split, bounds.1)

    pub reached_here : is_kind kinds.Container e.1 ≡ true → (e.0 ≡ 1) ⊎ ((a : ℕ) × (links lists a e.0 ≡ true))
    reached_here kind = elim (cases_eq e.0 1) [
      | inl one ↦ inl one
      | inr ne ↦
          let by = listed_by e.0 e.1 found_here ne in
          let less : by.0 < e.0 = climbs by.0 e.0 (ap (of_object false (is_kind kinds.Container)) found_here ∙ kind) by.1 in
          let parted : links (lists_of done ++ lists_of (e ∷ rest)) by.0 e.0 ≡ true
          = ap (λ (t : List (ℕ × List ℕ)). links t by.0 e.0) (sym (lists_append done (e ∷ rest)) ∙ ap lists_of split) ∙ by.1 in
          inr (
            by.0,
            elim (links_split (lists_of done) (lists_of (e ∷ rest)) by.0 e.0 parted) [
              | inl before ↦ links_left (lists_of done) (bare (e ∷ rest)) by.0 e.0 before
              | inr later ↦
                  let from = from_first e rest by.0 (suffix_rises done (e ∷ rest) rising) (links_has (lists_of (e ∷ rest)) by.0 e.0 later) in
                  absurd (omega (arith, less, from))
            ],
          )
    ]
