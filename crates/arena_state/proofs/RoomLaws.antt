-- No pool runs out: admission by quota suffices.
use Rattle.std.proofs.Common.{◌≡◌, ℕ, ◌+◌, ◌*◌, ◌≤◌, Bool, true, cond, [], ◌∷◌, length, get_or, Some, refl, sym, ◌∙◌, ap, arith, sum_by, inl, inr, length-append}
use Rattle.std.specs.Ordering.{nat_cmp}
use Rattle.std.specs.Map.{set_value}
use Rattle.std.specs.BTreeMap.{is_at}
use Rattle.std.proofs.lemmas.Bool.{cases_Bool}
use Rattle.std.proofs.lemmas.List.{length-map}
use Rattle.std.proofs.lemmas.Map.{length-set_value}
use Rattle.containers.specs.Tree.{ids_in, link_count}
use Rattle.containers.proofs.Views.{at_has}
use Rattle.label_intern.specs.Held.{owned}
use Rattle.label_lattice.specs.Label.{LabelValue}
use Rattle.kernel_rules.specs.State.{object_at, of_object, lists_of}
use Rattle.kernel_rules.specs.Changes.{listing, fresh_object}
use Rattle.kernel_rules.specs.Fitting.{IsFitting}
use Rattle.kernel_rules.specs.WellFormed.{is_stored, is_well_formed}
use Rattle.kernel_rules.specs.declared.objects.Object.{Object}
use Rattle.kernel_rules.specs.declared.objects.Body.{Body}
use Rattle.kernel_rules.proofs.GrownLaws.{making_from, made_is, grown, grown_other, recorded_old}
use Rattle.kernel_rules.proofs.ListingLaws.{container_at}
use Rattle.kernel_rules.proofs.MadeLaws.{made_well_formed}
use Rattle.kernel_rules.proofs.RecordLaws.{same_id}
use Rattle.kernel_rules.proofs.WellFormedLaws.{soundness_of}
use Rattle.kernel_laws.proofs.Bounds.{root_bounds}
use Rattle.kernel_laws.proofs.Sums.{sum_plus, sum_none}
use Rattle.label_intern.specs.Owners.{one_at}
use Rattle.label_intern.proofs.OwnersLemmas.{from, one_index, owned_most}
use Rattle.arena_state.specs.declared.records.Record.{Record}
use Rattle.arena_state.specs.declared.records.Kept as kept
use Rattle.arena_state.specs.declared.records.Kept.TheVariants as keeps
use Rattle.arena_state.specs.declared.pieces.Pieces.{Pieces}
use Rattle.arena_state.specs.Rows.{rows_of}
use Rattle.arena_state.specs.Assembled.{pieces_state, record_in, claims, body_claims}
use Rattle.arena_state.specs.Sound.{IsSound}
use Rattle.arena_state.proofs.RowLaws.{rows_length}
use Rattle.arena_state.proofs.SoundLaws.{object_here}

three : (n : ℕ) (r : Record) → sum_by (λ i. claims i r) (from 0 n) ≤ 3
three n r =
    let l = sum_plus (λ i. one_at i r.label.0) (λ i. body_claims i r.body) (from 0 n) in
    omega (arith, l, one_index r.label.0 0 n, of_body r.body)
  where
    of_body : (b : kept.Kept) → sum_by (λ i. body_claims i b) (from 0 n) ≤ 2
    of_body (keeps.Container avoid used) = omega (arith, sum_none (λ (i : ℕ). 0) (from 0 n) (λ i. refl))
    of_body (keeps.Segment pages) = omega (arith, sum_none (λ (i : ℕ). 0) (from 0 n) (λ i. refl))
    of_body keeps.AddressSpace = omega (arith, sum_none (λ (i : ℕ). 0) (from 0 n) (λ i. refl))
    of_body (keeps.Thread t) =
        omega (
          arith,
          sum_plus (λ i. one_at i t.clearance.0) (λ i. one_at i t.verify.0) (from 0 n),
          one_index t.clearance.0 0 n,
          one_index t.verify.0 0 n,
        )
    of_body (keeps.Gate g) = omega (arith, one_index g.clearance.0 0 n)
    of_body keeps.Device = omega (arith, sum_none (λ (i : ℕ). 0) (from 0 n) (λ i. refl))

-- labels have at most three owners for each object
pub labels_owned : (p : Pieces) (s : IsSound p) → owned p.holdings.labels ≤ 3 * length p.places.slots
labels_owned p s =
    owned_most (λ i k. claims i (record_in p.holdings.records.items k)) 3 p.holdings.labels p.places.slots
    (λ n k. three n (record_in p.holdings.records.items k)) s.owned

-- the root and its quota
pub record IsRootAt (p : Pieces) : Type 0 where
  pub root : Object
  pub found : object_at (pieces_state p) 1 ≡ Some root
  pub quota : root.quota ≡ p.limits.pages

pub root_at : (p : Pieces) (s : IsSound p) → IsRootAt p
root_at p s =
    let at = at_has (ids_in p.places.lists) 1 s.rooted in
    let found = object_here p s 1 (get_or p.places.slots at.0 0)
    (record { place = at.0; within = at.1; id_is = at.2; slot_is = refl }) in
    record {
      root = _;
      found = found;
      quota = sym (ap (of_object 0 (λ x. x.quota)) found) ∙ s.root;
    }

-- there is room for a link
pub links_fit : (p : Pieces) (s : IsSound p) → link_count p.places.lists + 1 ≤ p.limits.pages
links_fit p s =
    let r = root_at p s in
    let b = root_bounds (pieces_state p) r.root s.formed r.found in
    let l : sum_by (λ e. length e.1) (lists_of (pieces_state p).objects) ≡ link_count p.places.lists
    = ap link_count s.lists in
    omega (arith, b.2, r.quota, l)

pub objects_length : (p : Pieces) (s : IsSound p) → length (pieces_state p).objects ≡ length (ids_in p.places.lists)
objects_length p s =
    length-map (rows_of p.places.lists p.places.slots) _ ∙ rows_length p.places.lists p.places.slots s.tree.beside

-- a new object that fits by its quota fits into the slots
pub slots_fit : (p : Pieces) (s : IsSound p) (d q : ℕ) (b : Body) (l : LabelValue) → IsFitting (pieces_state p) d q b
    → is_stored l ≡ true → length (ids_in p.places.lists) + 1 ≤ p.limits.pages
slots_fit p s d q b l fits stored =
    let state = pieces_state p in
    let at = container_at state d fits.container in
    let m = making_from state d at (soundness_of state s.formed) in
    let x = fresh_object l q b in
    let r = root_at p s in
    let then : object_at (grown state d at.object x) 1
    ≡ cond (is_at (nat_cmp 1) d) (Some (listing state.next_id at.object)) (object_at state 1)
    = grown_other state d at.object x m 1 (recorded_old state 1 r.root m.given r.found) in
    let formed = ap is_well_formed (sym (made_is state d at.object x m))
    ∙ made_well_formed state d l q b fits stored s.formed in
    let size : length (grown state d at.object x).objects ≡ length state.objects + 1
    = length-append (set_value (is_at (nat_cmp d)) state.objects (listing state.next_id at.object)) ((state.next_id, x) ∷ [])
    ∙ ap (λ (n : ℕ). n + 1) (length-set_value (is_at (nat_cmp d)) state.objects (listing state.next_id at.object)) in
    let long = objects_length p s in
    elim (cases_Bool (is_at (nat_cmp 1) d)) [
      | inl is ↦
          let same : 1 ≡ d = same_id 1 d is in
          let one : Some at.object ≡ Some r.root = sym m.found ∙ ap (object_at state) (sym same) ∙ r.found in
          let quota : at.object.quota ≡ r.root.quota = ap (of_object 0 (λ y. y.quota)) one in
          let bound = root_bounds (grown state d at.object x) (listing state.next_id at.object) formed
          (then ∙ ap (λ (v : Bool). cond v (Some (listing state.next_id at.object)) (object_at state 1)) is) in
          omega (arith, bound.1, size, long, quota, r.quota)
      | inr off ↦
          let bound = root_bounds (grown state d at.object x) r.root formed
          (then ∙ ap (λ (v : Bool). cond v (Some (listing state.next_id at.object)) (object_at state 1)) off ∙ r.found) in
          omega (arith, bound.1, size, long, r.quota)
    ]

-- so three indexes of labels are free for what one call stores
pub labels_free : (p : Pieces) (s : IsSound p) → owned p.holdings.labels + 3 ≤ length p.holdings.labels
labels_free p s =
    let r = root_at p s in
    let b = root_bounds (pieces_state p) r.root s.formed r.found in
    omega (arith, labels_owned p s, b.1, objects_length p s, r.quota, s.pool, s.tree.beside)
