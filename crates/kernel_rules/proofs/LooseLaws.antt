-- A state where some records may be dead, and its live part.
use Rattle.std.proofs.Common.{◌≡◌, ℕ, ◌+◌, ◌≤◌, Bool, true, false, cond, ◌&&◌, ◌||◌, ◌==◌, nat_lt, nat_le}
use Rattle.std.proofs.Common.{List, [], ◌∷◌, Some, None, is_some, sum_by, refl, sym, ◌∙◌, ap}
use Rattle.std.proofs.Common.{subst, arith, ◌⊎◌, inl, inr}
use Rattle.std.specs.List.{list_all, filter}
use Rattle.std.specs.Ordering.{nat_cmp}
use Rattle.std.specs.Map.{lookup}
use Rattle.std.specs.BTreeMap.{is_at}
use Rattle.std.proofs.lemmas.Bool.{and_parts, and_from, or_cases, both_ways, eqb-true, eq-eqb, leb-true}
use Rattle.std.proofs.lemmas.List.Sums.{sum_by-cons, sum_by-le-sum_by}
use Rattle.std.proofs.lemmas.Map.Entries.{lookup-filter-keys}
use Rattle.base.specs.Live.{has, links, Leads, IsLive, is_live}
use Rattle.base.specs.declared.kinds.Kind.TheVariants as kinds
use Rattle.base.proofs.LiveLaw.{path_from_live, live_from_path, or_left, or_right}
use Rattle.kernel_rules.specs.State.{State, object_at, of_object, is_kind, listed, lists_of, live_part}
use Rattle.kernel_rules.specs.State.{use_of, quota_at, own_cost}
use Rattle.kernel_rules.specs.Step.{restricted}
use Rattle.kernel_rules.specs.WellFormed.{are_given, ids_rise, is_kept, is_distinct, is_whole}
use Rattle.kernel_rules.specs.WellFormed.{is_listed_rightly, listers}
use Rattle.kernel_rules.specs.declared.objects.Object.{Object}
use Rattle.kernel_rules.proofs.CountLaws.{once, counts}
use Rattle.kernel_rules.proofs.GrowLaws.{live_link}
use Rattle.kernel_rules.proofs.ListerLaws.{kept_from}
use Rattle.kernel_rules.proofs.LookupLaws.{all_from}
use Rattle.kernel_rules.proofs.RecordLaws.{same_id}
use Rattle.kernel_rules.proofs.WellFormedLaws.{Soundness}

le_test : (a b : ℕ) → a ≤ b → nat_le a b ≡ true
le_test a b h = grind arith

-- no more lists have o than may
abbrev pub is_listed_at_most : ℕ → ℕ → Object → Bool
is_listed_at_most n o x =
    cond (o == 1) (n == 0) (cond (is_kind kinds.Container x) (nat_le n 1) (nat_le n 1 || x.fixed))

-- what holds of an object among others that may be dead
pub record IsKeptLoosely (s : State) (o : ℕ) (x : Object) : Type 0 where
  pub distinct : is_distinct (listed x.body) ≡ true
  pub recorded : list_all (λ i. is_some (object_at s i)) (listed x.body) ≡ true
  pub within : use_of s o ≤ x.quota
  pub few : is_listed_at_most (listers s o) o x ≡ true
  pub whole : is_whole x ≡ true

-- what holds of a state where records may be dead
pub record IsLoose (s : State) : Type 0 where
  pub begun : nat_lt 3 s.next_id ≡ true
  pub given : are_given s ≡ true
  pub rise : ids_rise s.objects ≡ true
  pub kept : (o : ℕ) (x : Object) → object_at s o ≡ Some x → IsKeptLoosely s o x

-- listed rightly is at most what may be, and fewer lists are too
pub at_most_fewer : (n m o : ℕ) (x : Object) → is_listed_rightly m o x ≡ true → n ≤ m
    → is_listed_at_most n o x ≡ true
at_most_fewer n m o x h less =
    elim (o == 1)
    as (λ v. cond v (m == 0) (cond (is_kind kinds.Container x) (m == 1) (nat_le 1 m && (nat_le m 1 || x.fixed)))
    ≡ true → cond v (n == 0) (cond (is_kind kinds.Container x) (nat_le n 1) (nat_le n 1 || x.fixed)) ≡ true) [
      | true ↦ λ r.
          let none : m ≡ 0 = eqb-true m 0 r in
          eq-eqb n 0 (omega arith)
      | false ↦ elim (is_kind kinds.Container x)
          as (λ v. cond v (m == 1) (nat_le 1 m && (nat_le m 1 || x.fixed)) ≡ true
          → cond v (nat_le n 1) (nat_le n 1 || x.fixed) ≡ true) [
            | true ↦ λ r.
                let one : m ≡ 1 = eqb-true m 1 r in
                le_test n 1 (omega arith)
            | false ↦ λ r. elim (or_cases (nat_le m 1) x.fixed
                (and_parts (nat_le 1 m) (nat_le m 1 || x.fixed) r).1) [
                  | inl one ↦
                      let most : m ≤ 1 = leb-true m 1 one in
                      or_left (nat_le n 1) x.fixed (le_test n 1 (omega arith))
                  | inr fixed ↦ or_right (nat_le n 1) x.fixed fixed
                ]
          ]
    ] h

-- at most what may be, and in some list, is listed rightly
rightly_from : (n m o : ℕ) (x : Object) → is_listed_at_most m o x ≡ true → n ≤ m
    → ((o == 1) ≡ false → 1 ≤ n) → is_listed_rightly n o x ≡ true
rightly_from n m o x h less some =
    elim (o == 1)
    as (λ v. (v ≡ false → 1 ≤ n)
    → cond v (m == 0) (cond (is_kind kinds.Container x) (nat_le m 1) (nat_le m 1 || x.fixed)) ≡ true
    → cond v (n == 0) (cond (is_kind kinds.Container x) (n == 1) (nat_le 1 n && (nat_le n 1 || x.fixed)))
    ≡ true) [
      | true ↦ λ one r.
          let none : m ≡ 0 = eqb-true m 0 r in
          eq-eqb n 0 (omega arith)
      | false ↦ λ one. elim (is_kind kinds.Container x)
          as (λ v. cond v (nat_le m 1) (nat_le m 1 || x.fixed) ≡ true
          → cond v (n == 1) (nat_le 1 n && (nat_le n 1 || x.fixed)) ≡ true) [
            | true ↦ λ r.
                let most : m ≤ 1 = leb-true m 1 r in
                let least : 1 ≤ n = one refl in
                eq-eqb n 1 (omega arith)
            | false ↦ λ r. and_from (nat_le 1 n) (nat_le n 1 || x.fixed) (le_test 1 n (one refl))
                (elim (or_cases (nat_le m 1) x.fixed r) [
                  | inl few ↦
                      let most : m ≤ 1 = leb-true m 1 few in
                      or_left (nat_le n 1) x.fixed (le_test n 1 (omega arith))
                  | inr fixed ↦ or_right (nat_le n 1) x.fixed fixed
                ])
          ]
    ] some h

-- the records whose id passes
abbrev passing : (ℕ → Bool) → List (ℕ × Object) → List (ℕ × Object)
passing p es = filter (λ e. p e.0) es

all_passing : (p r : ℕ → Bool) (es : List (ℕ × Object)) → ((q : ℕ) → p q ≡ true → r q ≡ true)
    → list_all (λ e. r e.0) (lists_of (passing p es)) ≡ true
all_passing p r [] w = refl
all_passing p r (e ∷ es) w =
    elim (p e.0) as (λ v. p e.0 ≡ v
    → list_all (λ e. r e.0) (lists_of (cond v (e ∷ passing p es) (passing p es))) ≡ true) [
      | true ↦ λ is. and_from (r e.0) (list_all (λ e. r e.0) (lists_of (passing p es))) (w e.0 is)
          (all_passing p r es w)
      | false ↦ λ is. all_passing p r es w
    ] refl

all_still : (p r : ℕ → Bool) (es : List (ℕ × Object)) → list_all (λ e. r e.0) (lists_of es) ≡ true
    → list_all (λ e. r e.0) (lists_of (passing p es)) ≡ true
all_still p r [] h = refl
all_still p r (e ∷ es) h =
    let both : (r e.0 ≡ true) × (list_all (λ e. r e.0) (lists_of es) ≡ true) =
    and_parts (r e.0) (list_all (λ e. r e.0) (lists_of es)) h in
    elim (p e.0)
    as (λ v. list_all (λ e. r e.0) (lists_of (cond v (e ∷ passing p es) (passing p es))) ≡ true) [
      | true ↦ and_from (r e.0) (list_all (λ e. r e.0) (lists_of (passing p es))) both.0 (all_still p r es both.1)
      | false ↦ all_still p r es both.1
    ]

keys_still : (p r : ℕ → Bool) (es : List (ℕ × Object)) → list_all (λ e. r e.0) es ≡ true
    → list_all (λ e. r e.0) (passing p es) ≡ true
keys_still p r [] h = refl
keys_still p r (e ∷ es) h =
    let both : (r e.0 ≡ true) × (list_all (λ e. r e.0) es ≡ true) =
    and_parts (r e.0) (list_all (λ e. r e.0) es) h in
    elim (p e.0) as (λ v. list_all (λ e. r e.0) (cond v (e ∷ passing p es) (passing p es)) ≡ true) [
      | true ↦ and_from (r e.0) (list_all (λ e. r e.0) (passing p es)) both.0 (keys_still p r es both.1)
      | false ↦ keys_still p r es both.1
    ]

rise_passing : (p : ℕ → Bool) (es : List (ℕ × Object)) → ids_rise es ≡ true → ids_rise (passing p es) ≡ true
rise_passing p [] h = refl
rise_passing p (e ∷ es) h =
    let both : (list_all (λ f. nat_lt e.0 f.0) es ≡ true) × (ids_rise es ≡ true) =
    and_parts (list_all (λ f. nat_lt e.0 f.0) es) (ids_rise es) h in
    elim (p e.0) as (λ v. ids_rise (cond v (e ∷ passing p es) (passing p es)) ≡ true) [
      | true ↦ and_from (list_all (λ f. nat_lt e.0 f.0) (passing p es)) (ids_rise (passing p es))
          (keys_still p (λ k. nat_lt e.0 k) es both.0) (rise_passing p es both.1)
      | false ↦ rise_passing p es both.1
    ]

-- fewer records have fewer lists
count_passing : (p : ℕ → Bool) (o : ℕ) (es : List (ℕ × Object))
    → sum_by (counts o) (lists_of (passing p es)) ≤ sum_by (counts o) (lists_of es)
count_passing p o [] = omega arith
count_passing p o (e ∷ es) =
    let rest = count_passing p o es in
    let old = sum_by-cons (counts o) (e.0, listed e.1.body) (lists_of es) in
    elim (p e.0)
    as (λ v. sum_by (counts o) (lists_of (cond v (e ∷ passing p es) (passing p es)))
    ≤ sum_by (counts o) (lists_of (e ∷ es))) [
      | true ↦
          let new = sum_by-cons (counts o) (e.0, listed e.1.body) (lists_of (passing p es)) in
          let all : sum_by (counts o) (lists_of (e ∷ passing p es)) ≤ sum_by (counts o) (lists_of (e ∷ es)) =
          omega arith in
          all
      | false ↦ omega arith
    ]

-- a link from what passes is still there
links_passing : (p : ℕ → Bool) (es : List (ℕ × Object)) (a b : ℕ) → p a ≡ true
    → links (lists_of es) a b ≡ true → links (lists_of (passing p es)) a b ≡ true
links_passing p [] a b pass h = h
links_passing p (e ∷ es) a b pass h =
    elim (or_cases ((a == e.0) && has (listed e.1.body) b) (links (lists_of es) a b) h) [
      | inl here ↦
          let both : ((a == e.0) ≡ true) × (has (listed e.1.body) b ≡ true) =
          and_parts (a == e.0) (has (listed e.1.body) b) here in
          let on : p e.0 ≡ true = subst (λ k. p k ≡ true) (eqb-true a e.0 both.0) pass in
          subst (λ v. links (lists_of (cond v (e ∷ passing p es) (passing p es))) a b ≡ true) (sym on)
          (or_left ((a == e.0) && has (listed e.1.body) b) (links (lists_of (passing p es)) a b) here)
      | inr there ↦ elim (p e.0)
          as (λ v. links (lists_of (cond v (e ∷ passing p es) (passing p es))) a b ≡ true) [
            | true ↦ or_right ((a == e.0) && has (listed e.1.body) b) (links (lists_of (passing p es)) a b)
                (links_passing p es a b pass there)
            | false ↦ links_passing p es a b pass there
          ]
    ]

-- what is recorded links to what it lists
pub links_at : (q b : ℕ) (es : List (ℕ × Object)) (x : Object) → lookup (is_at (nat_cmp q)) es ≡ Some x
    → has (listed x.body) b ≡ true → links (lists_of es) q b ≡ true
links_at q b [] x found h = absurd (cc)
links_at q b (e ∷ es) x found h =
    elim (is_at (nat_cmp q) e.0)
    as (λ v. is_at (nat_cmp q) e.0 ≡ v → cond v (Some e.1) (lookup (is_at (nat_cmp q)) es) ≡ Some x
    → links (lists_of (e ∷ es)) q b ≡ true) [
      | true ↦ λ is f.
          let is_x : e.1 ≡ x = cc in
          or_left ((q == e.0) && has (listed e.1.body) b) (links (lists_of es) q b)
          (and_from (q == e.0) (has (listed e.1.body) b) (eq-eqb q e.0 (same_id q e.0 is))
          (subst (λ (z : Object). has (listed z.body) b ≡ true) (sym is_x) h))
      | false ↦ λ is f. or_right ((q == e.0) && has (listed e.1.body) b) (links (lists_of es) q b)
          (links_at q b es x f h)
    ] refl found

-- a link counts
link_counts : (lists : List (ℕ × List ℕ)) (a o : ℕ) → links lists a o ≡ true → 1 ≤ sum_by (counts o) lists
link_counts [] a o h = absurd (both_ways false refl h)
link_counts (e ∷ es) a o h =
    let all = sum_by-cons (counts o) e es in
    elim (or_cases ((a == e.0) && has e.1 o) (links es a o) h) [
      | inl here ↦
          let one : once (has e.1 o) ≡ 1 = ap once (and_parts (a == e.0) (has e.1 o) here).1 in
          omega arith
      | inr there ↦
          let rest = link_counts es a o there in
          omega arith
    ]

-- a path ends where it begins, or by a link
last_link : (lists : List (ℕ × List ℕ)) (a : ℕ) (path : List ℕ) (o : ℕ) → Leads lists a path o
    → (a ≡ o) ⊎ ((b : ℕ) × (links lists b o ≡ true))
last_link lists a [] o h = inl h
last_link lists a (b ∷ path) o h = elim (last_link lists b path o h.1) [
  | inl end ↦ inr (a, subst (λ k. links lists a k ≡ true) end h.0)
  | inr more ↦ inr more
]

leads_passing : (es : List (ℕ × Object)) (a : ℕ) (path : List ℕ) (o : ℕ) → is_live (lists_of es) a ≡ true
    → Leads (lists_of es) a path o → Leads (lists_of (passing (is_live (lists_of es)) es)) a path o
leads_passing es a [] o live h = h
leads_passing es a (b ∷ path) o live h = (
  links_passing (is_live (lists_of es)) es a b live h.0,
  leads_passing es b path o (live_link (lists_of es) a b live h.0) h.1,
)

-- what was live is live among the live
live_passing : (es : List (ℕ × Object)) (o : ℕ) → is_live (lists_of es) o ≡ true
    → is_live (lists_of (passing (is_live (lists_of es)) es)) o ≡ true
live_passing es o h =
    let p : IsLive (lists_of es) o = path_from_live (lists_of es) o h in
    live_from_path (lists_of (passing (is_live (lists_of es)) es)) o
    (p.0, leads_passing es 1 p.0 o (live_from_path (lists_of es) 1 ([], refl)) p.1)

-- the state with its live records alone
abbrev pub rest : State → State
rest s = record s { objects = passing (is_live (lists_of s.objects)) s.objects }

pub rest_is : (s : State) → restricted s ≡ rest s
unfolding live_part
rest_is s = refl

module _ (s : State) (h : IsLoose s) where
  at_rest : (q : ℕ) → object_at (rest s) q ≡ cond (is_live (lists_of s.objects) q) (object_at s q) None
  at_rest q = lookup-filter-keys (is_at (nat_cmp q)) (is_live (lists_of s.objects))
      (is_live (lists_of s.objects) q)
      (λ k is. ap (is_live (lists_of s.objects)) (sym (same_id q k is))) s.objects

  quota_less : (q : ℕ) → quota_at (rest s) q ≤ quota_at s q
  quota_less q =
      subst (λ v. of_object 0 (λ x. x.quota) v ≤ quota_at s q) (sym (at_rest q))
      (elim (is_live (lists_of s.objects) q)
      as (λ v. of_object 0 (λ x. x.quota) (cond v (object_at s q) None) ≤ quota_at s q) [
        | true ↦ omega arith
        | false ↦ omega arith
      ])

  -- where q is live, with object x
  use_less : (q : ℕ) (x : Object) → object_at (rest s) q ≡ Some x → object_at s q ≡ Some x
      → use_of (rest s) q ≤ use_of s q
  use_less q x now before =
      let quotas : sum_by (quota_at (rest s)) (listed x.body) ≤ sum_by (quota_at s) (listed x.body) =
      sum_by-le-sum_by (quota_at (rest s)) (quota_at s) (listed x.body) quota_less in
      let new : use_of (rest s) q ≡ own_cost x.body + sum_by (quota_at (rest s)) (listed x.body)
      = (λ i. of_object 0 (λ w. own_cost w.body) (now i)
      + sum_by (quota_at (rest s)) (of_object [] (λ w. listed w.body) (now i))) in
      let old : use_of s q ≡ own_cost x.body + sum_by (quota_at s) (listed x.body)
      = (λ i. of_object 0 (λ w. own_cost w.body) (before i)
      + sum_by (quota_at s) (of_object [] (λ w. listed w.body) (before i))) in
      omega arith

  all_recorded : (ids : List ℕ) → ((i : ℕ) → has ids i ≡ true → is_live (lists_of s.objects) i ≡ true)
      → list_all (λ i. is_some (object_at s i)) ids ≡ true
      → list_all (λ i. is_some (object_at (rest s) i)) ids ≡ true
  all_recorded [] live some = refl
  all_recorded (i ∷ ids) live some =
      let both : (is_some (object_at s i) ≡ true) × (list_all (λ i. is_some (object_at s i)) ids ≡ true) =
      and_parts (is_some (object_at s i)) (list_all (λ i. is_some (object_at s i)) ids) some in
      let alive : is_live (lists_of s.objects) i ≡ true =
      live i (or_left (i == i) (has ids i) (eq-eqb i i refl)) in
      and_from (is_some (object_at (rest s) i)) (list_all (λ i. is_some (object_at (rest s) i)) ids)
      (ap is_some (at_rest i ∙ ap (λ v. cond v (object_at s i) None) alive) ∙ both.0)
      (all_recorded ids (λ k in_rest. live k (or_right (k == i) (has ids k) in_rest)) both.1)

  -- what is live stands in a list, unless it is the root
  in_some_list : (q : ℕ) → is_live (lists_of s.objects) q ≡ true → (q == 1) ≡ false → 1 ≤ listers (rest s) q
  in_some_list q live other =
      let p : IsLive (lists_of (rest s).objects) q =
      path_from_live (lists_of (rest s).objects) q (live_passing s.objects q live) in
      elim (last_link (lists_of (rest s).objects) 1 p.0 q p.1) [
        | inl root ↦ absurd (both_ways (q == 1) other (eq-eqb q 1 (sym root)))
        | inr from ↦ link_counts (lists_of (rest s).objects) from.0 q from.1
      ]

  kept_rest : (q : ℕ) (x : Object) → is_live (lists_of s.objects) q ≡ true → object_at (rest s) q ≡ Some x
      → object_at s q ≡ Some x → is_kept (rest s) q x ≡ true
  kept_rest q x live now before =
      let k : IsKeptLoosely s q x = h.kept q x before in
      let less : use_of (rest s) q ≤ use_of s q = use_less q x now before in
      let old : use_of s q ≤ x.quota = k.within in
      kept_from (rest s) q x (record {
        distinct = k.distinct;
        recorded = all_recorded (listed x.body)
            (λ i in_list. live_link (lists_of s.objects) q i live (links_at q i s.objects x before in_list))
            k.recorded;
        within = le_test (use_of (rest s) q) x.quota (omega arith);
        rightly = rightly_from (listers (rest s) q) (listers s q) q x k.few
            (count_passing (is_live (lists_of s.objects)) q s.objects) (in_some_list q live);
        whole = k.whole;
      })

  pub rest_sound : Soundness (rest s)
  rest_sound =
      let rise : ids_rise (rest s).objects ≡ true =
      rise_passing (is_live (lists_of s.objects)) s.objects h.rise in
      record {
        begun = h.begun;
        live = all_passing (is_live (lists_of s.objects)) (is_live (lists_of (rest s).objects)) s.objects
            (live_passing s.objects);
        given = all_still (is_live (lists_of s.objects)) (λ k. nat_lt k s.next_id) s.objects h.given;
        rise = rise;
        kept = all_from (λ q x. is_kept (rest s) q x) (rest s).objects rise (λ q x now.
            elim (is_live (lists_of s.objects) q)
            as (λ v. is_live (lists_of s.objects) q ≡ v → cond v (object_at s q) None ≡ Some x
            → is_kept (rest s) q x ≡ true) [
              | true ↦ λ live before. kept_rest q x live now before
              | false ↦ λ dead before. absurd (cc)
            ] refl (sym (at_rest q) ∙ now));
      }
