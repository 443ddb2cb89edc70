-- Address spaces, devices and metadata that change keep their place.
use Rattle.std.proofs.Common.{◌≡◌, ◌<◌, ◌≤◌, ℕ, ◌+◌, ◌-◌, Bool, true, ◌&&◌, ◌==◌, nat_le, List, [], ◌∷◌}
use Rattle.std.proofs.Common.{◌++◌, length, drop, replicate, Option, slice_set, refl, ◌∙◌, ap, arith}
use Rattle.std.proofs.Common.{length-append, subst, suc}
use Rattle.std.specs.List.{list_all}
use Rattle.std.proofs.lemmas.Bool.{and_parts, and_from, eq-eqb}
use Rattle.std.proofs.lemmas.List.{length-set, length-replicate}
use Rattle.std.proofs.lemmas.List.Folds.{list_all-append}
use Rattle.base.specs.Padded.{padded}
use Rattle.kernel_rules.specs.Changes.{changed, with_body, reslot, requeue, made_immutable, noted}
use Rattle.kernel_rules.specs.State.{State, of_object, packets_of, packets_at}
use Rattle.kernel_rules.specs.WellFormed.{is_well_formed, is_whole_body, is_stored}
use Rattle.kernel_rules.specs.declared.objects.Body as body
use Rattle.kernel_rules.specs.declared.objects.Body.TheVariants as is
use Rattle.kernel_rules.specs.declared.objects.Mapping.{Mapping}
use Rattle.kernel_rules.specs.declared.objects.Object.{Object}
use Rattle.kernel_rules.proofs.KeptLaws.{KeepsPlace, changed_sound}
use Rattle.kernel_rules.proofs.ThreadLaws.{kept_well_formed}
use Rattle.kernel_rules.proofs.WellFormedLaws.{soundness_of, well_formed_from}

-- only the last of three tests changes
last_of : (a b c d : Bool) → (c ≡ true → d ≡ true) → (a && b && c) ≡ true → (a && b && d) ≡ true
last_of a b c d h w =
    let parts : ((a && b) ≡ true) × (c ≡ true) = and_parts (a && b) c w in
    and_from (a && b) d parts.0 (h parts.1)

-- an address space with another slot
slotted_keeps : (i : ℕ) (m : Option Mapping) (x : Object)
    → KeepsPlace x (with_body (reslot (λ slots. slice_set slots i m)) x)
slotted_keeps i m x = at_body x.body
  where
    at_body : (y : body.Body) → KeepsPlace (record x { body = y })
        (with_body (reslot (λ slots. slice_set slots i m)) (record x { body = y }))
    at_body (is.AddressSpace slots) = record {
      list = refl;
      kind = refl;
      quota = refl;
      cost = refl;
      fixed = λ f. f;
      whole = last_of (is_stored x.label) (length x.metadata == 64) (length slots.slots == 16)
          (length (slice_set slots.slots i m) == 16)
          (λ w. ap (λ n. n == 16) (length-set slots.slots i m) ∙ w);
    }
    at_body (is.Container avoid list) =
        record { list = refl; kind = refl; quota = refl; cost = refl; fixed = λ f. f; whole = λ w. w }
    at_body (is.Segment bytes) =
        record { list = refl; kind = refl; quota = refl; cost = refl; fixed = λ f. f; whole = λ w. w }
    at_body (is.Thread t) =
        record { list = refl; kind = refl; quota = refl; cost = refl; fixed = λ f. f; whole = λ w. w }
    at_body (is.Gate g) =
        record { list = refl; kind = refl; quota = refl; cost = refl; fixed = λ f. f; whole = λ w. w }
    at_body (is.Device packets) =
        record { list = refl; kind = refl; quota = refl; cost = refl; fixed = λ f. f; whole = λ w. w }

pub slotted_well_formed : (s : State) (a i : ℕ) (m : Option Mapping) → is_well_formed s ≡ true
    → is_well_formed (changed s a (with_body (reslot (λ slots. slice_set slots i m)))) ≡ true
slotted_well_formed s a i m h =
    kept_well_formed s a (with_body (reslot (λ slots. slice_set slots i m))) (slotted_keeps i m) h

-- packets of 1 to 64 bytes
abbrev are_packets : List (List ℕ) → Bool
are_packets ps = list_all (λ p. nat_le 1 (length p) && nat_le (length p) 64) ps

le_test : (a b : ℕ) → a ≤ b → nat_le a b ≡ true
le_test a b h = grind arith

sent_few : (ps : List (List ℕ)) (p : List ℕ) → length ps < 4 → nat_le (length (ps ++ p ∷ [])) 4 ≡ true
sent_few ps p h = le_test _ 4 (rw (length-append ps (p ∷ [])) (omega arith))

sent_whole : (ps : List (List ℕ)) (p : List ℕ) → length ps < 4 → 1 ≤ length p → length p ≤ 64
    → (nat_le (length ps) 4 && are_packets ps) ≡ true
    → (nat_le (length (ps ++ p ∷ [])) 4 && are_packets (ps ++ p ∷ [])) ≡ true
sent_whole ps p room some few w =
    and_from (nat_le (length (ps ++ p ∷ [])) 4) (are_packets (ps ++ p ∷ [])) (sent_few ps p room)
    (list_all-append (λ q. nat_le 1 (length q) && nat_le (length q) 64) ps (p ∷ [])
    ∙ and_from (are_packets ps) ((nat_le 1 (length p) && nat_le (length p) 64) && true)
    (and_parts (nat_le (length ps) 4) (are_packets ps) w).1
    (and_from (nat_le 1 (length p) && nat_le (length p) 64) true
    (and_from (nat_le 1 (length p)) (nat_le (length p) 64) (le_test 1 (length p) some)
    (le_test (length p) 64 few)) refl))

-- a device with one packet more, where it has room for it
sent_keeps : (p : List ℕ) → 1 ≤ length p → length p ≤ 64 → (x : Object) → length (packets_of x.body) < 4
    → KeepsPlace x (with_body (requeue (λ packets. packets ++ p ∷ [])) x)
sent_keeps p some few x room = at_body x.body room
  where
    at_body : (y : body.Body) → length (packets_of y) < 4 → KeepsPlace (record x { body = y })
        (with_body (requeue (λ packets. packets ++ p ∷ [])) (record x { body = y }))
    at_body (is.Device packets) room = record {
      list = refl;
      kind = refl;
      quota = refl;
      cost = refl;
      fixed = λ f. f;
      whole = last_of (is_stored x.label) (length x.metadata == 64)
          (nat_le (length packets) 4 && are_packets packets)
          (nat_le (length (packets ++ p ∷ [])) 4 && are_packets (packets ++ p ∷ []))
          (sent_whole packets p room some few);
    }
    at_body (is.Container avoid list) room =
        record { list = refl; kind = refl; quota = refl; cost = refl; fixed = λ f. f; whole = λ w. w }
    at_body (is.Segment bytes) room =
        record { list = refl; kind = refl; quota = refl; cost = refl; fixed = λ f. f; whole = λ w. w }
    at_body (is.AddressSpace slots) room =
        record { list = refl; kind = refl; quota = refl; cost = refl; fixed = λ f. f; whole = λ w. w }
    at_body (is.Thread t) room =
        record { list = refl; kind = refl; quota = refl; cost = refl; fixed = λ f. f; whole = λ w. w }
    at_body (is.Gate g) room =
        record { list = refl; kind = refl; quota = refl; cost = refl; fixed = λ f. f; whole = λ w. w }

pub sent_well_formed : (s : State) (o : ℕ) (p : List ℕ) → 1 ≤ length p → length p ≤ 64
    → length (packets_at s o) < 4 → is_well_formed s ≡ true
    → is_well_formed (changed s o (with_body (requeue (λ packets. packets ++ p ∷ [])))) ≡ true
sent_well_formed s o p some few room h =
    well_formed_from (changed s o (with_body (requeue (λ packets. packets ++ p ∷ []))))
    (changed_sound s o (with_body (requeue (λ packets. packets ++ p ∷ [])))
    (λ x found. sent_keeps p some few x
    (subst (λ v. length (of_object {X = List (List ℕ)} [] (λ y. packets_of y.body) v) < 4) found room))
    (soundness_of s h))

received_whole : (ps : List (List ℕ)) → (nat_le (length ps) 4 && are_packets ps) ≡ true
    → (nat_le (length (drop 1 ps)) 4 && are_packets (drop 1 ps)) ≡ true
received_whole [] w = refl
received_whole (p ∷ ps) w =
    let parts : (nat_le (length (p ∷ ps)) 4 ≡ true) × (are_packets (p ∷ ps) ≡ true) =
    and_parts (nat_le (length (p ∷ ps)) 4) (are_packets (p ∷ ps)) w in
    and_from (nat_le (length ps) 4) (are_packets ps) (fewer (length ps) parts.0)
    (and_parts (nat_le 1 (length p) && nat_le (length p) 64) (are_packets ps) parts.1).1
  where
    fewer : (n : ℕ) → nat_le (suc n) 4 ≡ true → nat_le n 4 ≡ true
    fewer n h = grind arith

-- a device with its first packet taken out
received_keeps : (x : Object) → KeepsPlace x (with_body (requeue (drop 1)) x)
received_keeps x = at_body x.body
  where
    at_body : (y : body.Body)
        → KeepsPlace (record x { body = y }) (with_body (requeue (drop 1)) (record x { body = y }))
    at_body (is.Device packets) = record {
      list = refl;
      kind = refl;
      quota = refl;
      cost = refl;
      fixed = λ f. f;
      whole = last_of (is_stored x.label) (length x.metadata == 64)
          (nat_le (length packets) 4 && are_packets packets)
          (nat_le (length (drop 1 packets)) 4 && are_packets (drop 1 packets)) (received_whole packets);
    }
    at_body (is.Container avoid list) =
        record { list = refl; kind = refl; quota = refl; cost = refl; fixed = λ f. f; whole = λ w. w }
    at_body (is.Segment bytes) =
        record { list = refl; kind = refl; quota = refl; cost = refl; fixed = λ f. f; whole = λ w. w }
    at_body (is.AddressSpace slots) =
        record { list = refl; kind = refl; quota = refl; cost = refl; fixed = λ f. f; whole = λ w. w }
    at_body (is.Thread t) =
        record { list = refl; kind = refl; quota = refl; cost = refl; fixed = λ f. f; whole = λ w. w }
    at_body (is.Gate g) =
        record { list = refl; kind = refl; quota = refl; cost = refl; fixed = λ f. f; whole = λ w. w }

pub received_well_formed : (s : State) (o : ℕ) → is_well_formed s ≡ true
    → is_well_formed (changed s o (with_body (requeue (drop 1)))) ≡ true
received_well_formed s o h = kept_well_formed s o (with_body (requeue (drop 1))) received_keeps h

pub immutable_keeps : (x : Object) → KeepsPlace x (made_immutable x)
immutable_keeps x =
    record { list = refl; kind = refl; quota = refl; cost = refl; fixed = λ f. f; whole = λ w. w }

pub immutable_well_formed : (s : State) (o : ℕ) → is_well_formed s ≡ true
    → is_well_formed (changed s o made_immutable) ≡ true
immutable_well_formed s o h = kept_well_formed s o made_immutable immutable_keeps h

-- an object with other metadata of 64 bytes
pub noted_keeps : (bytes : List ℕ) → length (padded 64 0 bytes) ≡ 64 → (x : Object) → KeepsPlace x (noted bytes x)
noted_keeps bytes full x = record {
  list = refl;
  kind = refl;
  quota = refl;
  cost = refl;
  fixed = λ f. f;
  whole = λ w. middle (is_stored x.label) (length x.metadata == 64) (length (padded 64 0 bytes) == 64)
      (is_whole_body x.body) (eq-eqb (length (padded 64 0 bytes)) 64 full) w;
}
  where
    middle : (a b c d : Bool) → c ≡ true → (a && b && d) ≡ true → (a && c && d) ≡ true
    middle a b c d there w =
        let parts : ((a && b) ≡ true) × (d ≡ true) = and_parts (a && b) d w in
        and_from (a && c) d (and_from a c (and_parts a b parts.0).0 there) parts.1

pub padded_full : (bytes : List ℕ) → length bytes ≤ 64 → length (padded 64 0 bytes) ≡ 64
padded_full bytes few =
    length-append bytes (replicate (64 - length bytes) 0)
    ∙ ap (λ n. length bytes + n) (length-replicate (64 - length bytes) 0) ∙ filled (length bytes) few
  where
    filled : (n : ℕ) → n ≤ 64 → n + (64 - n) ≡ 64
    filled n h = omega arith

pub noted_well_formed : (s : State) (o : ℕ) (bytes : List ℕ) → length bytes ≤ 64 → is_well_formed s ≡ true
    → is_well_formed (changed s o (noted bytes)) ≡ true
noted_well_formed s o bytes few h =
    kept_well_formed s o (noted bytes) (noted_keeps bytes (padded_full bytes few)) h
