-- The rows where a slot is set, or an object becomes immutable.
use Rattle.std.proofs.Common.{◌≡◌, ◌≢◌, ℕ, Bool, true, false, cond, not, ◌&&◌, ◌==◌, List, [], Option}
use Rattle.std.proofs.Common.{Some, None, refl, sym, ◌∙◌, ap, slice_get, slice_set}
use Rattle.std.specs.Option.{option_map}
use Rattle.std.proofs.lemmas.Bool.{eqb-true, eq-eqb, both_ways}
use Rattle.base.specs.Sets.{reading}
use Rattle.base.specs.declared.sets.Rights.{Rights}
use Rattle.kernel_rules.specs.State.{State, object_at, of_object, kind_number, slots_of, label_at}
use Rattle.kernel_rules.specs.State.{is_immutable, flows_to}
use Rattle.kernel_rules.specs.Changes.{put, changed, reslot, with_body, made_immutable}
use Rattle.kernel_rules.specs.Translate.{translate, own_space, opens, slot_at, slot_in, usable, through}
use Rattle.kernel_rules.specs.Translate.{through_space, names_none}
use Rattle.kernel_rules.specs.declared.calls.Entry.{Entry}
use Rattle.kernel_rules.specs.declared.objects.Mapping.{Mapping}
use Rattle.kernel_rules.specs.declared.objects.Object.{Object}
use Rattle.kernel_rules.proofs.LookupLaws.{lookup_put, at_self}
use Rattle.kernel_laws.specs.Alike.{unwritten}
use Rattle.kernel_laws.proofs.Bodies.{kind-reslot, list-reslot, thread-reslot, slot_reslot, slice_get-other}
use Rattle.kernel_laws.proofs.Depends.{row_reads_lem, opens_same, usable_same}
use Rattle.kernel_laws.proofs.Put.{label_read, space_read, at_id, at_any, at_other, entry_put, slot_put}
use Rattle.kernel_laws.proofs.Put.{found_or_same}

-- the address space with slot k set
abbrev setting : ℕ → Option Mapping → Object → Object
setting k m x = with_body (reslot (λ slots. slice_set slots k m)) x

pub slot_lem : (s : State) (a k t i : ℕ) (m : Option Mapping)
    → ((e : Entry) → own_space s t ≡ Some e → e.object ≡ a → i ≢ k)
    → translate (changed s a (with_body (reslot (λ slots. slice_set slots k m)))) t i ≡ translate s t i
slot_lem s a k t i m apart =
    found_or_same s a (with_body (reslot (λ slots. slice_set slots k m))) t i
    (λ x found.
    let f : List (Option Mapping) → List (Option Mapping) = (λ slots. slice_set slots k m) in
    let labels : (q : ℕ) → label_at (put s a (setting k m x)) q ≡ label_at s q =
    (λ q. at_any label_read s a q x (setting k m x) found refl) in
    row_reads_lem s (put s a (setting k m x)) t i
    (at_any space_read s a t x (setting k m x) found
    (ap (option_map (λ r. r.space)) (thread-reslot (λ slots. slice_set slots k m) x.body)))
    (labels t)
    (λ e on. entry_put s a x (setting k m x) found
    (ap (λ n. kind_number n == 0) (kind-reslot (λ slots. slice_set slots k m) x.body))
    (list-reslot (λ slots. slice_set slots k m) x.body) e (labels e.container) (labels e.object))
    (λ e own. at_id (λ v. slot_in (slice_get (of_object [] (λ z. slots_of z.body) v) i)) s a e.object x
    (setting k m x) found
    (λ on. ap slot_in (slot_reslot (λ slots. slice_set slots k m) i
    (λ slots. slice_get-other slots k i m (apart e own on)) x.body)))
    (λ e own. at_any (of_object false (λ z. z.immutable)) s a e.object x (setting k m x) found refl))

-- a segment with rights
abbrev shown : ℕ → Rights → ℕ × Rights
shown o r = (o, r)

reading_twice : (r : Rights) → reading (reading r) ≡ reading r
reading_twice r = refl

-- a choice with nothing else, mapped
cond_mapped : {X Y : Type 0} (f : X → Y) (a b : Bool) (u : Option Y) (v : Option X) → a ≡ b
    → (b ≡ true → u ≡ option_map f v) → cond a u None ≡ option_map f (cond b v None)
cond_mapped f a true u v h g = ap (λ c. cond c u None) h ∙ g refl
cond_mapped f a false u v h g = ap (λ c. cond c u None) h

module _ (s : State) (o : ℕ) (x : Object) (found : object_at s o ≡ Some x) (t : ℕ) where
  abbrev fixed : State
  fixed = put s o (made_immutable x)

  labels : (q : ℕ) → label_at fixed q ≡ label_at s q
  labels q = at_any label_read s o q x (made_immutable x) found refl

  opens_fixed : (e : Entry) → opens fixed t e ≡ opens s t e
  opens_fixed e =
      opens_same s fixed t e (labels t)
      (entry_put s o x (made_immutable x) found refl refl e (labels e.container) (labels e.object))

  is_fixed_now : is_immutable fixed o ≡ true
  is_fixed_now =
      ap (of_object false (λ z. z.immutable))
      (lookup_put o o s.objects x (made_immutable x) found
      ∙ ap (λ b. cond b (Some (made_immutable x)) (object_at s o)) (at_self o))

  shown_fixed : (m : Mapping) → shown m.entry.object (usable fixed t m.entry.object m.rights)
      ≡ unwritten o (shown m.entry.object (usable s t m.entry.object m.rights))
  shown_fixed m =
      elim (m.entry.object == o)
      as (λ v. (m.entry.object == o) ≡ v → shown m.entry.object (usable fixed t m.entry.object m.rights)
      ≡ cond v (shown m.entry.object (reading (usable s t m.entry.object m.rights)))
      (shown m.entry.object (usable s t m.entry.object m.rights))) [
        | true ↦ λ near.
            let on : m.entry.object ≡ o = eqb-true m.entry.object o near in
            ap (shown m.entry.object)
            (ap (λ b. cond (flows_to fixed t m.entry.object && not b) m.rights (reading m.rights))
            (ap (is_immutable fixed) on ∙ is_fixed_now)
            ∙ never (flows_to fixed t m.entry.object) m.rights
            ∙ sym (read (flows_to s t m.entry.object && not (is_immutable s m.entry.object)) m.rights))
        | false ↦ λ far.
            ap (shown m.entry.object)
            (usable_same s fixed t m (labels t) (labels m.entry.object)
            (at_other (of_object false (λ z. z.immutable)) s o m.entry.object x (made_immutable x) found
            (λ on. both_ways (m.entry.object == o) far (eq-eqb m.entry.object o on))))
      ] refl
    where
      never : (b : Bool) (r : Rights) → cond (b && false) r (reading r) ≡ reading r
      never true r = refl
      never false r = refl

      read : (b : Bool) (r : Rights) → reading (cond b r (reading r)) ≡ reading r
      read true r = refl
      read false r = reading_twice r

  through_fixed : (v : Option Mapping) → through fixed t v ≡ option_map (unwritten o) (through s t v)
  through_fixed None = refl
  through_fixed (Some m) =
      cond_mapped (unwritten o) (opens fixed t m.entry) (opens s t m.entry)
      (Some (m.entry.object, usable fixed t m.entry.object m.rights))
      (Some (m.entry.object, usable s t m.entry.object m.rights)) (opens_fixed m.entry)
      (λ opened. ap Some (shown_fixed m))

  space_fixed : (i : ℕ) (v : Option Entry)
      → through_space fixed t i v ≡ option_map (unwritten o) (through_space s t i v)
  space_fixed i None = refl
  space_fixed i (Some e) =
      cond_mapped (unwritten o) (not (names_none e) && opens fixed t e) (not (names_none e) && opens s t e)
      (through fixed t (slot_at fixed e.object i)) (through s t (slot_at s e.object i))
      (ap (λ b. not (names_none e) && b) (opens_fixed e))
      (λ opened. ap (through fixed t) (slot_put s o x (made_immutable x) found refl e.object i)
      ∙ through_fixed (slot_at s e.object i))

  fixed_row : (i : ℕ) → translate fixed t i ≡ option_map (unwritten o) (translate s t i)
  unfolding translate
  fixed_row i =
      ap (through_space fixed t i) (at_any space_read s o t x (made_immutable x) found refl)
      ∙ space_fixed i (own_space s t)

pub immutable_lem : (s : State) (o t i : ℕ) (x : Object) → object_at s o ≡ Some x
    → translate (changed s o made_immutable) t i ≡ option_map (unwritten o) (translate s t i)
immutable_lem s o t i x found =
    ap (λ v. translate (of_object s (λ z. put s o (made_immutable z)) v) t i) found
    ∙ fixed_row s o x found t i
