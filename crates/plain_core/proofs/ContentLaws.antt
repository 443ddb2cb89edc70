-- What containers, segments and address spaces hold, piece by piece.
use Rattle.std.proofs.Common.{◌≡◌, ◌≤◌, ◌+◌, ◌-◌, ◌*◌, ◌/◌, ◌==◌, ◌&&◌, ℕ, true, false, List, [], ◌∷◌, ◌++◌, length, take, drop, Option, Some, None, is_some, sum_by, nat_le, refl, sym, ◌∙◌, ap, subst, arith}
use Rattle.std.specs.List.{list_all}
use Rattle.std.specs.Prelude.{slice_range}
use Rattle.std.proofs.Math.Seq.{take-add, take-append_seam}
use Rattle.std.proofs.lemmas.List.{length-append, length-take-le, length-drop, take_all}
use Rattle.std.proofs.lemmas.Bool.{and_parts, eqb-true}
use Rattle.std.proofs.lemmas.List.Sums.{sum_by-cons}
use Rattle.base.specs.declared.kinds.Kind.TheVariants as kinds
use Rattle.kernel_rules.specs.State.{State, object_at, of_object, is_kind_at, is_kind, kind_of, kind_number, list_at, listed, own_cost, quota_at, use_of, bytes_at, slots_at, slots_of}
use Rattle.kernel_rules.specs.WellFormed.{is_well_formed, is_kept, is_whole_body, is_stored}
use Rattle.kernel_rules.specs.Written.{written}
use Rattle.kernel_rules.specs.declared.objects.Body as body
use Rattle.kernel_rules.specs.declared.objects.Body.TheVariants as is
use Rattle.kernel_rules.specs.declared.objects.Object.{Object}
use Rattle.kernel_rules.proofs.BytesLaws.{bytes_whole}
use Rattle.kernel_rules.proofs.ListerLaws.{kept_parts}
use Rattle.kernel_rules.proofs.LookupLaws.{all_at}
use Rattle.kernel_rules.proofs.QuotaLaws.{use_within, use_fits}
use Rattle.kernel_rules.proofs.WellFormedLaws.{soundness_of}

costs : (b : body.Body) → 1 ≤ own_cost b
costs (is.Segment bytes) = omega arith
costs (is.Container avoid list) = omega arith
costs (is.AddressSpace slots) = omega arith
costs (is.Thread t) = omega arith
costs (is.Gate g) = omega arith
costs (is.Device packets) = omega arith

-- each object has a quota of one page at least
quota_some : (s : State) (o : ℕ) → is_well_formed s ≡ true → is_some (object_at s o) ≡ true → 1 ≤ quota_at s o
quota_some s o wf there =
    elim (object_at s o) as (λ v. object_at s o ≡ v → is_some v ≡ true → 1 ≤ of_object 0 (λ x. x.quota) v) [
      | None ↦ λ at some. absurd (cc)
      | Some x ↦ λ at some.
          let cost : 1 ≤ own_cost x.body = costs x.body in
          let used : own_cost x.body + sum_by (quota_at s) (list_at s o) ≤ x.quota =
          subst (λ (v : Option Object). of_object 0 (λ y. own_cost y.body) v + sum_by (quota_at s) (list_at s o) ≤ x.quota) at
          (use_within s o x at (soundness_of s wf)) in
          omega arith
    ] refl there

-- so ids of objects are no more than their quotas
counted : (s : State) (ids : List ℕ) → is_well_formed s ≡ true → list_all (λ i. is_some (object_at s i)) ids ≡ true
    → length ids ≤ sum_by (quota_at s) ids
counted s [] wf h = omega arith
counted s (i ∷ ids) wf h =
    let parts = and_parts (is_some (object_at s i)) (list_all (λ i. is_some (object_at s i)) ids) h in
    let first : 1 ≤ quota_at s i = quota_some s i wf parts.0 in
    let rest : length ids ≤ sum_by (quota_at s) ids = counted s ids wf parts.1 in
    let sum = sum_by-cons (quota_at s) i ids in
    omega arith

-- a container lists no more ids than its quota has pages
pub list_few : (s : State) (o : ℕ) → is_well_formed s ≡ true → length (list_at s o) ≤ quota_at s o
list_few s o wf =
    let used : use_of s o ≤ quota_at s o = use_fits s o wf in
    let some : length (list_at s o) ≤ sum_by (quota_at s) (list_at s o) = counted s (list_at s o) wf recorded in
    omega arith
  where
    recorded : list_all (λ i. is_some (object_at s i)) (list_at s o) ≡ true
    recorded =
        elim (object_at s o) as (λ v. object_at s o ≡ v
        → list_all (λ i. is_some (object_at s i)) (of_object [] (λ x. listed x.body) v) ≡ true) [
          | None ↦ λ at. refl
          | Some x ↦ λ at. (kept_parts s o x (all_at (λ q z. is_kept s q z) s.objects o x (soundness_of s wf).kept at)).recorded
        ] refl

-- the bytes of a segment are pages
pub pages_whole : (s : State) (o : ℕ) → is_well_formed s ≡ true
    → length (bytes_at s o) ≡ 256 * (length (bytes_at s o) / 256)
pages_whole s o wf =
    eqb-true (length (bytes_at s o)) (256 * (length (bytes_at s o) / 256))
    (and_parts (length (bytes_at s o) == 256 * (length (bytes_at s o) / 256)) (nat_le (length (bytes_at s o)) 4096)
    (bytes_whole s o wf)).0

-- an address space has sixteen slots
pub slots_sixteen : (s : State) (o : ℕ) → is_well_formed s ≡ true → is_kind_at s kinds.AddressSpace o ≡ true
    → length (slots_at s o) ≡ 16
slots_sixteen s o wf h =
    elim (object_at s o) as (λ v. object_at s o ≡ v → of_object false (is_kind kinds.AddressSpace) v ≡ true
    → length (of_object [] (λ x. slots_of x.body) v) ≡ 16) [
      | None ↦ λ at kind. absurd (cc)
      | Some x ↦ λ at kind.
          of_body x.body kind (and_parts (is_stored x.label && length x.metadata == 64) (is_whole_body x.body)
          (kept_parts s o x (all_at (λ q z. is_kept s q z) s.objects o x (soundness_of s wf).kept at)).whole).1
    ] refl h
  where
    of_body : (b : body.Body) → (kind_number (kind_of b) == kind_number kinds.AddressSpace) ≡ true → is_whole_body b ≡ true
        → length (slots_of b) ≡ 16
    of_body (is.AddressSpace slots) h w = eqb-true (length slots.slots) 16 w
    of_body (is.Container avoid list) h w = absurd (cc)
    of_body (is.Segment bytes) h w = absurd (cc)
    of_body (is.Thread t) h w = absurd (cc)
    of_body (is.Gate g) h w = absurd (cc)
    of_body (is.Device packets) h w = absurd (cc)

-- the next sixteen ids
pub window_more : (xs : List ℕ) (w : ℕ) → take (16 * w) xs ++ take 16 (drop (16 * w) xs) ≡ take (16 * (w + 1)) xs
window_more xs w =
    let more : 16 * w + 16 ≡ 16 * (w + 1) = omega arith in
    sym (take-add (16 * w) 16 xs) ∙ ap (λ n. take n xs) more

-- the next sixty-four bytes
pub piece_more : (xs bs read : List ℕ) (k : ℕ) → 64 * k + 64 ≤ length xs → take (64 * k) bs ≡ take (64 * k) xs
    → read ≡ slice_range xs (64 * k) (64 * k + 64)
    → take (64 * (k + 1)) (written (64 * k) read bs) ≡ take (64 * (k + 1)) xs
piece_more xs bs read k within before is =
    let at : ℕ = 64 * k in
    let rest : List ℕ = drop (at + length read) bs in
    let gap : at + 64 - at ≡ 64 = omega arith in
    let next : at + 64 ≡ 64 * (k + 1) = omega arith in
    let read_is : read ≡ take 64 (drop at xs) = is ∙ ap (λ n. take n (drop at xs)) gap in
    let front : take at bs ++ read ≡ take (64 * (k + 1)) xs =
    (λ j. before j ++ read_is j) ∙ sym (take-add at 64 xs) ∙ ap (λ n. take n xs) next in
    let long : length (take at bs ++ read) ≡ 64 * (k + 1) =
    ap length front ∙ length-take-le (64 * (k + 1)) xs (omega arith) in
    ap (λ n. take n ((take at bs ++ read) ++ rest)) (sym long)
    ∙ take-append_seam (take at bs ++ read) rest ∙ front

-- all of them
pub pieces_all : (xs bs : List ℕ) (n : ℕ) → length bs ≡ length xs → length xs ≤ n → take n bs ≡ take n xs → bs ≡ xs
pieces_all xs bs n long all same =
    sym (take_all n bs (omega arith)) ∙ same ∙ take_all n xs all

-- they are as many after it
pub piece_long : (xs bs read : List ℕ) (k : ℕ) → 64 * k + 64 ≤ length xs → length bs ≡ length xs
    → read ≡ slice_range xs (64 * k) (64 * k + 64) → length (written (64 * k) read bs) ≡ length xs
piece_long xs bs read k within long is =
    let gap : 64 * k + 64 - 64 * k ≡ 64 = omega arith in
    let rest : length (drop (64 * k) xs) ≡ length xs - 64 * k = length-drop (64 * k) xs in
    let size : length read ≡ 64 =
    ap length is ∙ ap (λ n. length (take n (drop (64 * k) xs))) gap
    ∙ length-take-le 64 (drop (64 * k) xs) (omega arith) in
    let front : length (take (64 * k) bs) ≡ 64 * k = length-take-le (64 * k) bs (omega arith) in
    let parts = length-append (take (64 * k) bs ++ read) (drop (64 * k + length read) bs) in
    let parts_front = length-append (take (64 * k) bs) read in
    let back = length-drop (64 * k + length read) bs in
    omega arith
