-- What is left after an entry is taken out is sound.
use Rattle.std.proofs.Common.{◌≡◌, ℕ, ◌+◌, ◌*◌, ◌<◌, Bool, true, false, cond, ◌==◌, List, [], ◌∷◌, Some, refl, sym, ◌∙◌, ap, subst, arith, sum_by, inl, inr}
use Rattle.std.specs.Ordering.{nat_cmp}
use Rattle.std.specs.Map.{lookup}
use Rattle.std.specs.BTreeMap.{is_at}
use Rattle.std.proofs.lemmas.Bool.{cases_Bool, both_ways, and_from, eqb-true}
use Rattle.base.specs.Live.{has, links, is_live}
use Rattle.base.specs.declared.kinds.Kind.TheVariants as kinds
use Rattle.base.specs.declared.ranges.Limits.{Limits}
use Rattle.base.proofs.LiveLaw.{live_from_path}
use Rattle.containers.specs.Tree.{ids_in, list_of, cut_lists, without}
use Rattle.containers.proofs.Unrefs.{cut_links}
use Rattle.kernel_rules.specs.State.{State, of_object, use_of, quota_at, cost_at, list_at, is_kind_at, is_kind, lists_of, own_cost, listed}
use Rattle.kernel_rules.specs.WellFormed.{is_well_formed}
use Rattle.kernel_rules.specs.declared.objects.Object.{Object}
use Rattle.kernel_rules.proofs.UnrefLaws.{unref_well_formed}
use Rattle.arena_state.specs.declared.records.Record.{Record}
use Rattle.arena_state.specs.declared.pieces.Pieces.{Pieces}
use Rattle.arena_state.specs.Rows.{rows_of}
use Rattle.arena_state.specs.Assembled.{pieces_state, record_in, use_in, body_use, with_use}
use Rattle.arena_state.specs.Sound.{IsSound}
use Rattle.kernel_rules.proofs.LookupLaws.{at_is}
use Rattle.arena_state.proofs.RowLaws.{row_none, row_at, row_place}
use Rattle.containers.proofs.Distinct.{distinct_from, sum_without_one}
use Rattle.containers.proofs.Lists.{has_filter, links_of_list, links_filter, list_of_filter, list_of_cut}
use Rattle.arena_state.proofs.RecordLaws.{kind_same, cost_same, sum_same_in}
use Rattle.arena_state.proofs.UnlinkLaws.{IsUnlinked, slot_of, slot_is, ids_left, left_stays, object_was, object_left, object_gone, was_there, quota_left, lists_left, unlinked_state, has_left, owned, lets}

-- the list of an id among the lists of objects
pub list_of_objects : (es : List (ℕ × Object)) (i : ℕ)
    → list_of (lists_of es) i ≡ of_object [] (λ x. listed x.body) (lookup (is_at (nat_cmp i)) es)
list_of_objects [] i = refl
list_of_objects (e ∷ es) i = elim (cases_Bool (i == e.0)) [
  | inl is ↦
      ap (λ (v : Bool). cond v (listed e.1.body) (list_of (lists_of es) i)) is
      ∙ sym (ap (λ (v : Bool). of_object [] (λ x. listed x.body) (cond v (Some e.1) (lookup (is_at (nat_cmp i)) es)))
      (at_is i e.0 ∙ is))
  | inr off ↦
      ap (λ (v : Bool). cond v (listed e.1.body) (list_of (lists_of es) i)) off
      ∙ list_of_objects es i
      ∙ sym (ap (λ (v : Bool). of_object [] (λ x. listed x.body) (cond v (Some e.1) (lookup (is_at (nat_cmp i)) es)))
      (at_is i e.0 ∙ off))
]

module _ (p q : Pieces) (s : IsSound p) (d o : ℕ) (u : IsUnlinked p q d o)
    (held : has (list_of p.places.lists d) o ≡ true) where
  list_was : (i : ℕ) → list_at (pieces_state p) i ≡ list_of p.places.lists i
  list_was i = sym (list_of_objects (pieces_state p).objects i) ∙ ap (λ (l : List (ℕ × List ℕ)). list_of l i) s.lists

  list_now : (i : ℕ) → list_at (pieces_state q) i ≡ list_of q.places.lists i
  list_now i = sym (list_of_objects (pieces_state q).objects i)
      ∙ ap (λ (l : List (ℕ × List ℕ)). list_of l i) (lists_left p q s d o u)

  list_cut : (i : ℕ) → has (ids_in q.places.lists) i ≡ true
      → list_of q.places.lists i ≡ cond (d == i) (without o (list_of p.places.lists i)) (list_of p.places.lists i)
  list_cut i h =
      ap (λ (l : List (ℕ × List ℕ)). list_of l i) u.lists
      ∙ list_of_filter (λ k. is_live (cut_lists p.places.lists d o) k) (cut_lists p.places.lists d o) i
      (left_stays p q s d o u i h)
      ∙ list_of_cut p.places.lists d o i

  cost_left : (i : ℕ) → has (ids_in q.places.lists) i ≡ true → cost_at (pieces_state q) i ≡ cost_at (pieces_state p) i
  cost_left i h =
      ap (of_object 0 (λ x. own_cost x.body)) (object_left p q s d o u i h)
      ∙ cost_same q.holdings.labels p.holdings.labels (u.uses (slot_of p q s d o u i))
      (record_in p.holdings.records.items (slot_of p q s d o u i)) (list_of q.places.lists i) (list_of p.places.lists i)
      ∙ sym (ap (of_object 0 (λ x. own_cost x.body)) (object_was p q s d o u i (was_there p q s d o u i h)))

  -- what the entry took of a use
  abbrev pub freed : ℕ → ℕ
  freed i = cond (d == i) (quota_at (pieces_state p) o) 0

  sum_left : (i : ℕ) → sum_by (quota_at (pieces_state p))
      (cond (d == i) (without o (list_of p.places.lists i)) (list_of p.places.lists i)) + freed i
      ≡ sum_by (quota_at (pieces_state p)) (list_of p.places.lists i)
  sum_left i = elim (cases_Bool (d == i)) [
    | inl is ↦
        let same : d ≡ i = eqb-true d i is in
        let there : has (list_of p.places.lists i) o ≡ true = ap (λ (k : ℕ). has (list_of p.places.lists k) o) (sym same) ∙ held in
        let one = sum_without_one (quota_at (pieces_state p)) o (list_of p.places.lists i)
        (distinct_from (list_of p.places.lists i) (s.tree.once i)) there in
        ap {B = ℕ} (λ (v : Bool). sum_by (quota_at (pieces_state p))
        (cond v (without o (list_of p.places.lists i)) (list_of p.places.lists i))
        + cond v (quota_at (pieces_state p) o) 0) is ∙ one
    | inr off ↦
        ap {B = ℕ} (λ (v : Bool). sum_by (quota_at (pieces_state p))
        (cond v (without o (list_of p.places.lists i)) (list_of p.places.lists i))
        + cond v (quota_at (pieces_state p) o) 0) off ∙ none (sum_by (quota_at (pieces_state p)) (list_of p.places.lists i))
  ]
    where
      none : (n : ℕ) → n + 0 ≡ n
      none n = omega arith

  -- what is left uses what it used, but for what the entry took
  pub use_left : (i : ℕ) → has (ids_in q.places.lists) i ≡ true
      → use_of (pieces_state q) i + freed i ≡ use_of (pieces_state p) i
  use_left i h =
      let cost = cost_left i h in
      let now : sum_by (quota_at (pieces_state q)) (list_at (pieces_state q) i)
      ≡ sum_by (quota_at (pieces_state p)) (cond (d == i) (without o (list_of p.places.lists i)) (list_of p.places.lists i))
      = ap (sum_by (quota_at (pieces_state q))) (list_now i)
      ∙ sum_same_in (quota_at (pieces_state q)) (quota_at (pieces_state p)) (list_of q.places.lists i)
      (λ x in'. quota_left p q s d o u x (u.tree.listed i x (links_of_list q.places.lists i x in')))
      ∙ ap (sum_by (quota_at (pieces_state p))) (list_cut i h) in
      let was : sum_by (quota_at (pieces_state p)) (list_at (pieces_state p) i)
      ≡ sum_by (quota_at (pieces_state p)) (list_of p.places.lists i)
      = ap (sum_by (quota_at (pieces_state p))) (list_was i) in
      let cut = sum_left i in
      omega (arith, cost, now, was, cut)

  use_none : (i : ℕ) → has (ids_in q.places.lists) i ≡ false → use_of (pieces_state q) i ≡ 0
  use_none i h =
      let cost : cost_at (pieces_state q) i ≡ 0 = ap (of_object 0 (λ x. own_cost x.body)) (object_gone p q s d o u i h) in
      let list : list_at (pieces_state q) i ≡ [] = ap (of_object [] (λ x. listed x.body)) (object_gone p q s d o u i h) in
      let sum : sum_by (quota_at (pieces_state q)) (list_at (pieces_state q) i) ≡ 0
      = ap (sum_by (quota_at (pieces_state q))) list in
      omega (arith, cost, sum)

  module _ (charged : (i : ℕ) → has (ids_in q.places.lists) i ≡ true
      → body_use (with_use (u.uses (slot_of p q s d o u i)) (record_in p.holdings.records.items (slot_of p q s d o u i))).body
      + freed i ≡ use_of (pieces_state p) i) where
    uses : (i : ℕ) → use_in q.holdings.records.items
        (lookup (is_at (nat_cmp i)) (rows_of q.places.lists q.places.slots)) ≡ use_of (pieces_state q) i
    uses i = elim (cases_Bool (has (ids_in q.places.lists) i)) [
      | inl there ↦
          let at = has_left p q s d o u i there in
          let row : lookup (is_at (nat_cmp i)) (rows_of q.places.lists q.places.slots)
          ≡ Some (row_place q.places.lists q.places.slots at.1.place)
          = subst (λ (k : ℕ). lookup (is_at (nat_cmp k)) (rows_of q.places.lists q.places.slots)
          ≡ Some (row_place q.places.lists q.places.slots at.1.place)) at.1.id_is
          (row_at q.places.lists q.places.slots at.1.place u.tree.beside u.tree.rises at.1.within) in
          let here : use_in q.holdings.records.items (lookup (is_at (nat_cmp i)) (rows_of q.places.lists q.places.slots))
          ≡ body_use (with_use (u.uses (slot_of p q s d o u i)) (record_in p.holdings.records.items (slot_of p q s d o u i))).body
          = ap (use_in q.holdings.records.items) row
          ∙ ap (λ (x : ℕ). body_use (record_in q.holdings.records.items x).body)
          (at.1.slot_is ∙ sym (slot_is p q s d o u i at.0 (u.kept i at.0 at.1)))
          ∙ ap (λ (r : Record). body_use r.body) (u.records (slot_of p q s d o u i)) in
          let a = charged i there in
          let b = use_left i there in
          omega (arith, here, a, b)
      | inr off ↦
          ap (use_in q.holdings.records.items) (row_none q.places.lists q.places.slots i off)
          ∙ sym (use_none i off)
    ]

    climbs : (a b : ℕ) → is_kind_at (pieces_state q) kinds.Container b ≡ true → links q.places.lists a b ≡ true → a < b
    climbs a b kind link = elim (cases_Bool (has (ids_in q.places.lists) b)) [
      | inl there ↦
          s.climbs a b
          (ap (of_object false (is_kind kinds.Container)) (object_was p q s d o u b (was_there p q s d o u b there))
          ∙ sym (kind_same q.holdings.labels p.holdings.labels (u.uses (slot_of p q s d o u b))
          (record_in p.holdings.records.items (slot_of p q s d o u b)) (list_of q.places.lists b) (list_of p.places.lists b))
          ∙ sym (ap (of_object false (is_kind kinds.Container)) (object_left p q s d o u b there)) ∙ kind)
          (cut_links p.places.lists d o a b
          (links_filter (λ k. is_live (cut_lists p.places.lists d o) k) (cut_lists p.places.lists d o) a b
          (ap (λ (l : List (ℕ × List ℕ)). links l a b) (sym u.lists) ∙ link))).0
      | inr off ↦ absurd (both_ways (is_kind_at (pieces_state q) kinds.Container b)
          (ap (of_object false (is_kind kinds.Container)) (object_gone p q s d o u b off)) kind)
    ]

    rooted : has (ids_in q.places.lists) 1 ≡ true
    rooted =
        ap (λ (xs : List ℕ). has xs 1) (ids_left p q s d o u)
        ∙ has_filter (λ k. is_live (cut_lists p.places.lists d o) k) (ids_in p.places.lists) 1
        ∙ and_from (has (ids_in p.places.lists) 1) (is_live (cut_lists p.places.lists d o) 1) s.rooted
        (live_from_path (cut_lists p.places.lists d o) 1 ([], refl))

    pub unlinked_sound : IsSound q
    unlinked_sound = record {
      formed = subst (λ (x : State). is_well_formed x ≡ true) (sym (unlinked_state p q s d o u))
          (unref_well_formed (pieces_state p) d o s.formed);
      tree = u.tree;
      lists = lists_left p q s d o u;
      owned = owned p q s d o u;
      uses = uses;
      climbs = climbs;
      cells = u.cells ∙ s.cells ∙ ap (λ (l : Limits). l.pages) (sym u.limits);
      records = u.room ∙ s.records ∙ ap (λ (l : Limits). l.pages) (sym u.limits);
      pool = (lets p q s d o u).pool ∙ s.pool ∙ ap (λ (l : Limits). 3 * l.pages + 3) (sym u.limits);
      rooted = rooted;
      root = quota_left p q s d o u 1 rooted ∙ s.root ∙ ap (λ (l : Limits). l.pages) (sym u.limits);
    }
