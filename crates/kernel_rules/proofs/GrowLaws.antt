-- What is live stays live where lists only grow.
use Rattle.std.proofs.Common.{◌≡◌, ℕ, Bool, true, false, cond, ◌&&◌, ◌==◌, List, [], ◌∷◌}
use Rattle.std.proofs.Common.{◌++◌, refl, sym, ◌∙◌, ap, subst, Some, None, inl, inr}
use Rattle.std.proofs.Common.{Less, Equal, Greater}
use Rattle.std.specs.List.{list_all}
use Rattle.std.specs.Ordering.{nat_cmp, is_eq, match_ordering}
use Rattle.std.specs.Map.{lookup, set_value}
use Rattle.std.specs.BTreeMap.{is_at, insert_entry}
use Rattle.std.proofs.lemmas.Bool.{or_cases, and_parts, and_from, eq-eqb, both_ways}
use Rattle.kernel_rules.specs.declared.objects.Object.{Object}
use Rattle.kernel_rules.specs.State.{listed, lists_of}
use Rattle.base.specs.Live.{has, links, Leads, IsLive, is_live, are_live}
use Rattle.base.proofs.LiveLaw.{path_from_live, live_from_path, or_left, or_right, leads-snoc}
use Rattle.kernel_rules.proofs.RecordLaws.{same_id, recorded_live}

abbrev pub Grows : List (ℕ × List ℕ) → List (ℕ × List ℕ) → Type 0
Grows old new = (a b : ℕ) → links old a b ≡ true → links new a b ≡ true

leads_grow : (old new : List (ℕ × List ℕ)) → Grows old new → (a : ℕ) (path : List ℕ) (o : ℕ)
    → Leads old a path o → Leads new a path o
leads_grow old new g a [] o e = e
leads_grow old new g a (b ∷ path) o p = (g a b p.0, leads_grow old new g b path o p.1)

pub live_grow : (old new : List (ℕ × List ℕ)) → Grows old new → (o : ℕ) → is_live old o ≡ true
    → is_live new o ≡ true
live_grow old new g o h =
    let p : IsLive old o = path_from_live old o h in
    live_from_path new o (p.0, leads_grow old new g 1 p.0 o p.1)

pub live_link : (lists : List (ℕ × List ℕ)) (a o : ℕ) → is_live lists a ≡ true → links lists a o ≡ true
    → is_live lists o ≡ true
live_link lists a o h l =
    let p : IsLive lists a = path_from_live lists a h in
    live_from_path lists o (p.0 ++ o ∷ [], leads-snoc lists 1 p.0 a o p.1 l)

-- a longer list for one object
pub grows-set_value : (d : ℕ) (es : List (ℕ × Object)) (x y : Object) → lookup (is_at (nat_cmp d)) es ≡ Some x
    → ((b : ℕ) → has (listed x.body) b ≡ true → has (listed y.body) b ≡ true)
    → Grows (lists_of es) (lists_of (set_value (is_at (nat_cmp d)) es y))
grows-set_value d [] x y found w a b h = h
grows-set_value d (e ∷ es) x y found w a b h =
    elim (is_at (nat_cmp d) e.0)
    as (λ v. cond v (Some e.1) (lookup (is_at (nat_cmp d)) es) ≡ Some x
    → links (lists_of (cond v ((e.0, y) ∷ es) (e ∷ set_value (is_at (nat_cmp d)) es y))) a b ≡ true) [
      | true ↦ λ f.
          let is : e.1 ≡ x = cc in
          elim (or_cases ((a == e.0) && has (listed e.1.body) b) (links (lists_of es) a b) h) [
            | inl here ↦
                let both : ((a == e.0) ≡ true) × (has (listed e.1.body) b ≡ true) =
                and_parts (a == e.0) (has (listed e.1.body) b) here in
                or_left _ _ (and_from (a == e.0) (has (listed y.body) b) both.0
                (w b (subst (λ (z : Object). has (listed z.body) b ≡ true) is both.1)))
            | inr there ↦ or_right ((a == e.0) && has (listed y.body) b) (links (lists_of es) a b) there
          ]
      | false ↦ λ f. elim (or_cases ((a == e.0) && has (listed e.1.body) b) (links (lists_of es) a b) h) [
        | inl here ↦ or_left _ _ here
        | inr there ↦
            or_right ((a == e.0) && has (listed e.1.body) b)
            (links (lists_of (set_value (is_at (nat_cmp d)) es y)) a b)
            (grows-set_value d es x y f w a b there)
      ]
    ] found

-- the new list has what it lists
pub links-set_value : (d : ℕ) (es : List (ℕ × Object)) (x y : Object) (o : ℕ)
    → lookup (is_at (nat_cmp d)) es ≡ Some x → has (listed y.body) o ≡ true
    → links (lists_of (set_value (is_at (nat_cmp d)) es y)) d o ≡ true
links-set_value d [] x y o found h = absurd (cc)
links-set_value d (e ∷ es) x y o found h =
    elim (is_at (nat_cmp d) e.0)
    as (λ v. is_at (nat_cmp d) e.0 ≡ v → cond v (Some e.1) (lookup (is_at (nat_cmp d)) es) ≡ Some x
    → links (lists_of (cond v ((e.0, y) ∷ es) (e ∷ set_value (is_at (nat_cmp d)) es y))) d o ≡ true) [
      | true ↦ λ is f. or_left _ _
          (and_from (d == e.0) (has (listed y.body) o) (eq-eqb d e.0 (same_id d e.0 is)) h)
      | false ↦ λ is f. or_right ((d == e.0) && has (listed e.1.body) o)
          (links (lists_of (set_value (is_at (nat_cmp d)) es y)) d o) (links-set_value d es x y o f h)
    ] refl found

-- a new entry
pub grows-insert : (k : ℕ) (es : List (ℕ × Object)) (x : Object) → lookup (is_at (nat_cmp k)) es ≡ None
    → Grows (lists_of es) (lists_of (insert_entry nat_cmp es k x))
grows-insert k [] x absent a b h = absurd (both_ways false refl h)
grows-insert k (e ∷ es) x absent a b h =
    elim (nat_cmp k e.0)
    as (λ v. cond (is_eq v) (Some e.1) (lookup (is_at (nat_cmp k)) es) ≡ None
    → links (lists_of
    (match_ordering v ((k, x) ∷ e ∷ es) ((e.0, x) ∷ es) (e ∷ insert_entry nat_cmp es k x))) a b
    ≡ true) [
      | Less ↦ λ f. or_right ((a == k) && has (listed x.body) b) (links (lists_of (e ∷ es)) a b) h
      | Equal ↦ λ f. absurd (cc)
      | Greater ↦ λ f. elim (or_cases ((a == e.0) && has (listed e.1.body) b) (links (lists_of es) a b) h) [
        | inl here ↦ or_left _ _ here
        | inr there ↦
            or_right ((a == e.0) && has (listed e.1.body) b)
            (links (lists_of (insert_entry nat_cmp es k x)) a b) (grows-insert k es x f a b there)
      ]
    ] absent

pub all_weaker : (p q : ℕ → Bool) (es : List (ℕ × Object)) → ((o : ℕ) → p o ≡ true → q o ≡ true)
    → list_all (λ e. p e.0) (lists_of es) ≡ true → list_all (λ e. q e.0) (lists_of es) ≡ true
all_weaker p q [] w h = refl
all_weaker p q (e ∷ es) w h =
    let both : (p e.0 ≡ true) × (list_all (λ e. p e.0) (lists_of es) ≡ true) =
    and_parts (p e.0) (list_all (λ e. p e.0) (lists_of es)) h in
    and_from (q e.0) (list_all (λ e. q e.0) (lists_of es)) (w e.0 both.0) (all_weaker p q es w both.1)

pub all-set_value : (p : ℕ → Bool) (d : ℕ) (es : List (ℕ × Object)) (y : Object)
    → list_all (λ e. p e.0) (lists_of (set_value (is_at (nat_cmp d)) es y))
    ≡ list_all (λ e. p e.0) (lists_of es)
all-set_value p d [] y = refl
all-set_value p d (e ∷ es) y =
    elim (is_at (nat_cmp d) e.0)
    as (λ v. list_all (λ e. p e.0)
    (lists_of (cond v ((e.0, y) ∷ es) (e ∷ set_value (is_at (nat_cmp d)) es y)))
    ≡ list_all (λ e. p e.0) (lists_of (e ∷ es))) [
      | true ↦ refl
      | false ↦ ap (λ b. p e.0 && b) (all-set_value p d es y)
    ]

pub all-insert : (p : ℕ → Bool) (k : ℕ) (es : List (ℕ × Object)) (x : Object) → p k ≡ true
    → list_all (λ e. p e.0) (lists_of es) ≡ true
    → list_all (λ e. p e.0) (lists_of (insert_entry nat_cmp es k x)) ≡ true
all-insert p k [] x new old = and_from (p k) true new refl
all-insert p k (e ∷ es) x new old =
    let both : (p e.0 ≡ true) × (list_all (λ e. p e.0) (lists_of es) ≡ true) =
    and_parts (p e.0) (list_all (λ e. p e.0) (lists_of es)) old in
    elim (nat_cmp k e.0)
    as (λ v. list_all (λ e. p e.0)
    (lists_of (match_ordering v ((k, x) ∷ e ∷ es) ((e.0, x) ∷ es) (e ∷ insert_entry nat_cmp es k x)))
    ≡ true) [
      | Less ↦ and_from (p k) (list_all (λ e. p e.0) (lists_of (e ∷ es))) new old
      | Equal ↦ old
      | Greater ↦
          and_from (p e.0) (list_all (λ e. p e.0) (lists_of (insert_entry nat_cmp es k x))) both.0
          (all-insert p k es x new both.1)
    ]

pub absent-set_value : (d k : ℕ) (es : List (ℕ × Object)) (y : Object) → lookup (is_at (nat_cmp k)) es ≡ None
    → lookup (is_at (nat_cmp k)) (set_value (is_at (nat_cmp d)) es y) ≡ None
absent-set_value d k [] y h = refl
absent-set_value d k (e ∷ es) y h =
    elim (is_at (nat_cmp k) e.0)
    as (λ v. is_at (nat_cmp k) e.0 ≡ v → cond v (Some e.1) (lookup (is_at (nat_cmp k)) es) ≡ None
    → lookup (is_at (nat_cmp k)) (set_value (is_at (nat_cmp d)) (e ∷ es) y) ≡ None) [
      | true ↦ λ is f. absurd (cc)
      | false ↦ λ is f. elim (is_at (nat_cmp d) e.0)
          as (λ v. lookup (is_at (nat_cmp k)) (cond v ((e.0, y) ∷ es) (e ∷ set_value (is_at (nat_cmp d)) es y))
          ≡ None) [
            | true ↦ subst (λ b. cond b (Some y) (lookup (is_at (nat_cmp k)) es) ≡ None) (sym is) f
            | false ↦ subst
                (λ b. cond b (Some e.1) (lookup (is_at (nat_cmp k)) (set_value (is_at (nat_cmp d)) es y)) ≡ None)
                (sym is) (absent-set_value d k es y f)
          ]
    ] refl h

-- a new object in a live container's list
pub make_live : (d k : ℕ) (es : List (ℕ × Object)) (x y new : Object) → lookup (is_at (nat_cmp d)) es ≡ Some x
    → lookup (is_at (nat_cmp k)) es ≡ None
    → ((b : ℕ) → has (listed x.body) b ≡ true → has (listed y.body) b ≡ true) → has (listed y.body) k ≡ true
    → are_live (lists_of es) ≡ true
    → are_live (lists_of (insert_entry nat_cmp (set_value (is_at (nat_cmp d)) es y) k new)) ≡ true
make_live d k es x y new found absent wider has_new h =
    let mid : List (ℕ × Object) = set_value (is_at (nat_cmp d)) es y in
    let end : List (ℕ × Object) = insert_entry nat_cmp (set_value (is_at (nat_cmp d)) es y) k new in
    let second : Grows (lists_of (set_value (is_at (nat_cmp d)) es y))
    (lists_of (insert_entry nat_cmp (set_value (is_at (nat_cmp d)) es y) k new)) =
    grows-insert k (set_value (is_at (nat_cmp d)) es y) new (absent-set_value d k es y absent) in
    let grown : Grows (lists_of es)
    (lists_of (insert_entry nat_cmp (set_value (is_at (nat_cmp d)) es y) k new)) =
    (λ a b l. second a b (grows-set_value d es x y found wider a b l)) in
    let alive : (o : ℕ) → is_live (lists_of es) o
    ≡ true → is_live (lists_of (insert_entry nat_cmp (set_value (is_at (nat_cmp d)) es y) k new)) o
    ≡ true = live_grow (lists_of es)
    (lists_of (insert_entry nat_cmp (set_value (is_at (nat_cmp d)) es y) k new)) grown in
    let q : ℕ → Bool =
    (λ o. is_live (lists_of (insert_entry nat_cmp (set_value (is_at (nat_cmp d)) es y) k new)) o) in
    let d_live : is_live (lists_of es) d ≡ true = recorded_live (lists_of es) es d x h found in
    all-insert (λ o. is_live (lists_of (insert_entry nat_cmp (set_value (is_at (nat_cmp d)) es y) k new)) o) k
    (set_value (is_at (nat_cmp d)) es y) new
    (live_link (lists_of (insert_entry nat_cmp (set_value (is_at (nat_cmp d)) es y) k new)) d k (alive d d_live)
    (second d k (links-set_value d es x y k found has_new)))
    (all-set_value (λ o. is_live (lists_of (insert_entry nat_cmp (set_value (is_at (nat_cmp d)) es y) k new)) o)
    d es y
    ∙ all_weaker (λ o. is_live (lists_of es) o)
    (λ o. is_live (lists_of (insert_entry nat_cmp (set_value (is_at (nat_cmp d)) es y) k new)) o) es alive
    h)
