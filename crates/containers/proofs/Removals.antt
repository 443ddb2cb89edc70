-- The directory without the objects that went.
use Rattle.std.proofs.Common.{◌≡◌, ℕ, ◌<◌, inl, inr, List, length, get_or, refl, sym, ap, ◌∙◌, subst}
use Rattle.std.specs.Prelude.{Contains}
use Rattle.containers.specs.Lists.{Lists}
use Rattle.containers.specs.Objects.{Objects, IsEntry, IsWithoutAll, object_at}
use Rattle.containers.specs.Cells.{IsRecorded}
use Rattle.containers.specs.Sweep.{IsCut}
use Rattle.containers.specs.Directory.{IsDirectory}
use Rattle.containers.specs.Visits.{place_of, named_one, object_ids}
use Rattle.containers.specs.declared.visitor.Located.{Located}
use Rattle.containers.proofs.Directories.{one_place}
use Rattle.containers.proofs.Unrefs.{contains_map, map_contains}

module _ {T : Type 0} (size root : ℕ) (old new : List Lists) (container object : ℕ) (links : List (ℕ × ℕ)) (objects : List ℕ) (cut : IsCut size root old new container object links objects) (names : List ℕ) (a b : Objects T) (dead : List ℕ) (are : dead ≡ object_ids (named_one names objects)) (left : IsWithoutAll a b dead) (dir : IsDirectory size root old names a.ids a.slots) where
  -- what is recorded then was recorded before
  recorded_was : (o : ℕ) → IsRecorded size root new o → IsRecorded size root old o
  recorded_was o r = cut.recorded_before o (record { within = r.within; reached = elim r.reached [ inl e ↦ inl e | inr c ↦ inr (c.0, cut.swept.sweeping.was_named o c.0 r.within c.1) ] })

  -- where a recorded slot is
  record IsAt (o : ℕ) : Type 0 where
    pub place : ℕ
    pub entry : IsEntry a place (get_or names o 0) o

  at : (o : ℕ) → IsRecorded size root old o → IsAt o
  at o rec =
      let p = dir.place o rec in
      record { place = p.0; entry = record { within = p.1; id_is = sym (dir.name p.0 p.1) ∙ ap (λ (i : ℕ). get_or names i 0) p.2; slot_is = p.2 } }

  -- one name, one slot
  one_slot : (o u : ℕ) → IsRecorded size root old o → IsRecorded size root old u → get_or names o 0 ≡ get_or names u 0 → o ≡ u
  one_slot o u ro ru e =
      let p = at o ro in
      let q = at u ru in
      let same : p.place ≡ q.place = one_place a.ids dir.rises p.place q.place p.entry.within q.entry.within (p.entry.id_is ∙ e ∙ sym q.entry.id_is) in
      sym p.entry.slot_is ∙ ap (λ (i : ℕ). get_or a.slots i 0) same ∙ q.entry.slot_is

  is_dead : (o : ℕ) → Contains objects o → Contains dead (get_or names o 0)
  is_dead o c = subst (λ (xs : List ℕ). Contains xs (get_or names o 0)) (sym are) (contains_map (λ (p : Located). p.id) (named_one names objects) (place_of names o) (contains_map (λ (x : ℕ). place_of names x) objects o c))

  -- what is dead is the name of a slot that went
  dead_slot : (i : ℕ) → Contains dead i → (o : ℕ) × Contains objects o × (get_or names o 0 ≡ i)
  dead_slot i c =
      let p = map_contains (λ (q : Located). q.id) (named_one names objects) i (subst (λ (xs : List ℕ). Contains xs i) are c) in
      let o = map_contains (λ (x : ℕ). place_of names x) objects p.0 p.1 in
      (o.0, o.1, ap (λ (q : Located). q.id) o.2 ∙ p.2)

  -- a slot that is recorded then has no dead name
  not_dead : (o : ℕ) → IsRecorded size root new o → Contains dead (get_or names o 0) → ⊥
  not_dead o rec c =
      let d = dead_slot (get_or names o 0) c in
      let was = cut.recorded_before d.0 (cut.swept.sweeping.objects_was d.0 d.1) in
      let same : d.0 ≡ o = one_slot d.0 o was (recorded_was o rec) d.2 in
      cut.swept.sweeping.objects_gone d.0 d.1 (subst (λ (u : ℕ). IsRecorded size root new u) (sym same) rec)

  -- one without a dead name is recorded then
  stays_recorded : (o : ℕ) → IsRecorded size root old o → (Contains dead (get_or names o 0) → ⊥) → IsRecorded size root new o
  stays_recorded o rec not = elim (cut.swept.sweeping.objects_all o (cut.recorded_between o rec)) [
    | inl stays ↦ stays
    | inr went ↦ absurd (not (is_dead o went))
  ]

  -- where an entry was, and that its id is not dead
  record Was (k : ℕ) : Type 0 where
    pub place : ℕ
    pub within : place < length a.ids
    pub id_is : get_or a.ids place 0 ≡ get_or b.ids k 0
    pub slot_is : get_or a.slots place 0 ≡ get_or b.slots k 0
    pub not_dead : Contains dead (get_or b.ids k 0) → ⊥

  was : (k : ℕ) → k < length b.ids → Was k
  was k lt =
      let w = left.were k (get_or b.ids k 0) (get_or b.slots k 0) (record { within = lt; id_is = refl; slot_is = refl }) in
      record { place = w.0; within = w.1.within; id_is = w.1.id_is; slot_is = w.1.slot_is; not_dead = w.2 }

  name_then : (k : ℕ) → k < length b.ids → get_or names (get_or b.slots k 0) 0 ≡ get_or b.ids k 0
  name_then k lt =
      let w = was k lt in
      ap (λ (i : ℕ). get_or names i 0) (sym w.slot_is) ∙ dir.name w.place w.within ∙ w.id_is

  pub directory_left : IsDirectory size root new names b.ids b.slots
  directory_left = record {
    beside = left.beside;
    rises = left.rises;
    recorded = λ k lt.
        let w = was k lt in
        stays_recorded (get_or b.slots k 0) (subst (λ (i : ℕ). IsRecorded size root old i) w.slot_is (dir.recorded w.place w.within)) (λ c. w.not_dead (subst (λ (i : ℕ). Contains dead i) (name_then k lt) c));
    name = name_then;
    place = λ o rec.
        let p = at o (recorded_was o rec) in
        let q = left.stays p.place (get_or names o 0) o p.entry (not_dead o rec) in
        (q.0, q.1.within, q.1.slot_is);
  }

  -- a slot that is recorded then has the object that it had
  pub object_left : (o : ℕ) → IsRecorded size root new o → object_at b o ≡ object_at a o
  object_left o rec = left.same o (λ place id e c.
      let name : get_or names o 0 ≡ id = ap (λ (i : ℕ). get_or names i 0) (sym e.slot_is) ∙ dir.name place e.within ∙ e.id_is in
      not_dead o rec (subst (λ (i : ℕ). Contains dead i) (sym name) c))
