-- There are frames for the pages of a new segment.
use Rattle.std.proofs.Common.{◌≡◌, ◌≢◌, ℕ, ◌+◌, ◌≤◌, true, List, [], ◌∷◌, length, Option, refl, sym, ◌∙◌, ap, arith, sum_by}
use Rattle.std.proofs.lemmas.Bool.{both_ways}
use Rattle.std.proofs.lemmas.List.Sums.{sum_by-append, sum_by-cons}
use Rattle.base.specs.Live.{has}
use Rattle.base.specs.declared.ranges.Limits.{Limits}
use Rattle.containers.specs.Tree.{HasSlot}
use Rattle.label_lattice.specs.Label.{LabelValue}
use Rattle.label_intern.specs.declared.held.Held.{Held}
use Rattle.label_intern.specs.Held.{label_of}
use Rattle.label_intern.specs.Owners.{one_at, Takes}
use Rattle.kernel_rules.specs.State.{own_cost}
use Rattle.kernel_rules.specs.Fitting.{IsFitting}
use Rattle.kernel_rules.specs.WellFormed.{is_stored}
use Rattle.kernel_rules.specs.declared.objects.Body.{Body}
use Rattle.arena_state.specs.declared.records.Record.{Record}
use Rattle.arena_state.specs.declared.records.Kept.{Kept}
use Rattle.arena_state.specs.declared.pieces.Pieces.{Pieces}
use Rattle.arena_state.specs.Assembled.{pieces_state, record_in, body_of, body_claims, body_use, fresh_record}
use Rattle.arena_state.specs.Creations.{IsPlaced}
use Rattle.arena_state.specs.Stocked.{kept_pages, IsStocked}
use Rattle.arena_memory.specs.Segments.{all_pages}
use Rattle.arena_state.specs.Sound.{IsSound}
use Rattle.arena_state.proofs.RecordLaws.{sum_same_in}
use Rattle.arena_state.proofs.WholeEditLaws.{reuse_pages}
use Rattle.arena_state.proofs.CreateLaws.{with_labels}
use Rattle.arena_state.proofs.NewLaws.{new_sound}
use Rattle.arena_state.proofs.PageLaws.{pages_fit, pages_total}
use Rattle.arena_state.proofs.WholeCreateLaws.{vacant, new_record, old_record}

module _ (p : Pieces) (s : IsSound p) (d quota : ℕ) (l : LabelValue) (b : Body) (fits : IsFitting (pieces_state p) d quota b)
    (stored : is_stored l ≡ true) (pslot : ℕ) (at_d : HasSlot p.places d pslot) (ls : List (Option Held)) (index : ℕ) (kp : Kept)
    (x : Record) (x_is : x ≡ fresh_record index quota kp) (q : Pieces) (c : IsPlaced (with_labels p ls) q d pslot x)
    (takes : Takes p.holdings.labels ls (λ i. one_at i index + body_claims i kp)) (label : label_of ls index ≡ l)
    (body : body_of ls kp [] ≡ b) (used : body_use kp ≡ own_cost b) (k : IsStocked p) where
  pages_q : ℕ → ℕ
  pages_q y = kept_pages (record_in q.holdings.records.items y).body

  kept_same : (y : ℕ) → has p.places.slots y ≡ true → pages_q y ≡ kept_pages (record_in p.holdings.records.items y).body
  unfolding pages_q
  kept_same y there =
      let off : y ≢ c.slot = λ (e : y ≡ c.slot). both_ways (has p.places.slots c.slot)
      (vacant p s d quota l b fits stored pslot at_d ls index kp x x_is q c takes label body used k)
      (ap (has p.places.slots) (sym e) ∙ there) in
      let was = old_record p s d quota l b fits stored pslot at_d ls index kp x x_is q c takes label body used k y off in
      ap (λ (r : Record). kept_pages r.body) was.1 ∙ reuse_pages was.0 (record_in p.holdings.records.items y).body

  pub new_room : all_pages q.holdings.segments + kept_pages kp ≤ length q.holdings.segments
  unfolding pages_q
  new_room =
      let sq = new_sound p s d quota l b fits stored pslot at_d ls index kp x x_is q c takes label body used in
      let most = pages_fit q sq in
      let parts : sum_by pages_q q.places.slots ≡ sum_by pages_q p.places.slots + sum_by pages_q (c.slot ∷ [])
      = ap (sum_by pages_q) c.slots ∙ sum_by-append pages_q p.places.slots (c.slot ∷ []) in
      let last : sum_by pages_q (c.slot ∷ []) ≡ pages_q c.slot + sum_by pages_q [] = sum_by-cons pages_q c.slot [] in
      let none : sum_by pages_q [] ≡ 0 = refl in
      let here : pages_q c.slot ≡ kept_pages kp
      = ap (λ (r : Record). kept_pages r.body)
      (new_record p s d quota l b fits stored pslot at_d ls index kp x x_is q c takes label body used k ∙ x_is) in
      let same : sum_by pages_q p.places.slots ≡ sum_by (λ y. kept_pages (record_in p.holdings.records.items y).body) p.places.slots
      = sum_same_in pages_q (λ y. kept_pages (record_in p.holdings.records.items y).body) p.places.slots kept_same in
      let total = pages_total p s k in
      let now : all_pages q.holdings.segments ≡ all_pages p.holdings.segments = ap all_pages c.segments in
      let long : length q.holdings.segments ≡ length p.holdings.segments = ap (λ (xs : List (List ℕ)). length xs) c.segments in
      let limit : q.limits.pages ≡ p.limits.pages = ap (λ (z : Limits). z.pages) c.limits in
      omega (arith, most, parts, last, none, here, same, total, now, long, limit, k.segments)
