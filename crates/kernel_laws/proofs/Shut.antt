-- Rows through an entry that opens no more.
use Rattle.std.proofs.Common.{◌≡◌, ℕ, Bool, true, false, cond, not, ◌&&◌, [], Option}
use Rattle.std.proofs.Common.{Some, None, refl, sym, ◌∙◌, ap, inl, inr, ◌⊎◌}
use Rattle.std.specs.Option.{option_map}
use Rattle.std.proofs.lemmas.Bool.{both_ways}
use Rattle.base.specs.Live.{has, is_live}
use Rattle.base.specs.declared.kinds.Kind.TheVariants as kinds
use Rattle.kernel_rules.specs.State.{State, object_at, of_object, lists_of, listed, list_at, is_kind_at}
use Rattle.kernel_rules.specs.State.{observes, is_kind}
use Rattle.kernel_rules.specs.Changes.{put, changed, relist, delisting, without}
use Rattle.kernel_rules.specs.declared.objects.Body as body
use Rattle.kernel_rules.specs.declared.objects.Body.TheVariants as is
use Rattle.kernel_rules.proofs.LookupLaws.{lookup_put, at_self}
use Rattle.kernel_rules.specs.Step.{restricted}
use Rattle.kernel_rules.specs.Translate.{translate, own_space, slot_at, opens, through, through_space}
use Rattle.kernel_rules.specs.Translate.{names_none, usable}
use Rattle.kernel_rules.specs.declared.calls.Entry.{Entry}
use Rattle.kernel_rules.specs.declared.objects.Mapping.{Mapping}
use Rattle.kernel_rules.specs.declared.objects.Object.{Object}
use Rattle.kernel_laws.specs.Through.{Through, slot_by}
use Rattle.kernel_laws.proofs.Bodies.{slots-relist, thread-relist, fewer-relist}
use Rattle.std.specs.Ordering.{nat_cmp}
use Rattle.std.specs.BTreeMap.{is_at}
use Rattle.kernel_rules.proofs.RecordLaws.{same_id}
use Rattle.kernel_laws.proofs.Dead.{death_keeps_lem, opened_live}
use Rattle.kernel_laws.proofs.Lists.{not_without, has-without}
use Rattle.kernel_laws.proofs.Put.{space_read, at_any, slot_put}

and_false : (a b : Bool) → b ≡ false → (a && b) ≡ false
and_false true b h = h
and_false false b h = refl

-- a choice with nothing either way
cond_none : {X : Type 0} (b : Bool) (u : Option X) → u ≡ None → cond b u None ≡ None
cond_none true u h = h
cond_none false u h = refl

-- a row through an entry that does not open is empty
pub shut_lem : (s : State) (t i : ℕ) (e : Entry) → Through s t i e → opens s t e ≡ false
    → translate s t i ≡ None
unfolding translate
shut_lem s t i e (inl own) shut =
    ap (through_space s t i) own
    ∙ ap (λ b. cond b (through s t (slot_at s e.object i)) None)
    (and_false (not (names_none e)) (opens s t e) shut)
shut_lem s t i e (inr mapped) shut = by_space (own_space s t) mapped
  where
    by_mapping : (v : Option Mapping) → option_map (λ m. m.entry) v ≡ Some e → through s t v ≡ None
    by_mapping None h = refl
    by_mapping (Some m) h =
        let is : m.entry ≡ e = cc in
        ap (λ b. cond b (Some (m.entry.object, usable s t m.entry.object m.rights)) None)
        (ap (opens s t) is ∙ shut)

    by_space : (v : Option Entry) → option_map (λ m. m.entry) (slot_by s i v) ≡ Some e
        → through_space s t i v ≡ None
    by_space None h = refl
    by_space (Some a) h =
        cond_none (not (names_none a) && opens s t a) (through s t (slot_at s a.object i))
        (by_mapping (slot_at s a.object i) h)

-- a cut leaves the entries that a row goes through
pub through_cut : (s : State) (d o : ℕ) (x : Object) (t i : ℕ) (e : Entry) → object_at s d ≡ Some x
    → Through s t i e → Through (put s d (delisting o x)) t i e
through_cut s d o x t i e found on =
    let own : own_space (put s d (delisting o x)) t ≡ own_space s t =
    at_any space_read s d t x (delisting o x) found
    (ap (option_map (λ r. r.space)) (thread-relist (without o) x.body)) in
    elim on [
      | inl is ↦ inl (own ∙ is)
      | inr is ↦ inr (ap (λ v. option_map (λ m. m.entry) (slot_by (put s d (delisting o x)) i v)) own
          ∙ ap (option_map (λ m. m.entry)) (slot (own_space s t)) ∙ is)
    ]
  where
    slot : (v : Option Entry) → slot_by (put s d (delisting o x)) i v ≡ slot_by s i v
    slot None = refl
    slot (Some a) = slot_put s d x (delisting o x) found (slots-relist (without o) x.body) a.object i

-- d lists o no more
unlisted : (s : State) (d o : ℕ) (x : Object) → object_at s d ≡ Some x
    → has (list_at (put s d (delisting o x)) d) o ≡ false
unlisted s d o x found =
    ap (λ v. has (of_object [] (λ z. listed z.body) v) o)
    (lookup_put d d s.objects x (delisting o x) found
    ∙ ap (λ b. cond b (Some (delisting o x)) (object_at s d)) (at_self d))
    ∙ by_body x.body
  where
    by_body : (b : body.Body) → has (listed (relist (without o) b)) o ≡ false
    by_body (is.Container avoid list) = not_without o list
    by_body (is.Segment bytes) = refl
    by_body (is.AddressSpace slots) = refl
    by_body (is.Thread t) = refl
    by_body (is.Gate g) = refl
    by_body (is.Device packets) = refl

-- an entry with a dead container, or which is not listed, does not open
pub shut_if : (s : State) (t : ℕ) (e : Entry)
    → (is_live (lists_of s.objects) e.container ≡ false) ⊎ (has (list_at s e.container) e.object ≡ false)
    → opens s t e ≡ false
shut_if s t e h =
    five (is_kind_at s kinds.Container e.container) (is_live (lists_of s.objects) e.container)
    (observes s t e.container) (has (list_at s e.container) e.object) (observes s t e.object) h
  where
    five : (k l a h b : Bool) → (l ≡ false) ⊎ (h ≡ false) → (k && l && a && h && b) ≡ false
    five false l a h b w = refl
    five true false a h b w = refl
    five true true false h b w = refl
    five true true true false b w = refl
    five true true true true b (inl w) = absurd (cc)
    five true true true true b (inr w) = absurd (cc)

pub unref_empties_lem : (s : State) (d o t i : ℕ) (e : Entry) → is_kind_at s kinds.Container d ≡ true
    → is_live (lists_of (changed s d (delisting o)).objects) t ≡ true → Through s t i e
    → (is_live (lists_of (changed s d (delisting o)).objects) e.container ≡ false)
    ⊎ ((e.container ≡ d) × (e.object ≡ o))
    → translate (restricted (changed s d (delisting o))) t i ≡ None
unref_empties_lem s d o t i e kind alive on gone =
    death_keeps_lem (changed s d (delisting o)) t i alive ∙
    elim (object_at s d)
    as (λ v. object_at s d ≡ v → of_object false (is_kind kinds.Container) v ≡ true
    → (is_live (lists_of (of_object s (λ x. put s d (delisting o x)) v).objects) e.container ≡ false)
    ⊎ ((e.container ≡ d) × (e.object ≡ o))
    → translate (of_object s (λ x. put s d (delisting o x)) v) t i ≡ None) [
      | None ↦ λ is k g. absurd (cc)
      | Some x ↦ λ is k g.
          shut_lem (put s d (delisting o x)) t i e (through_cut s d o x t i e is on)
          (shut_if (put s d (delisting o x)) t e (elim g [
            | inl dead ↦ inl dead
            | inr cut ↦ inr
                ((λ j. has (list_at (put s d (delisting o x)) (cut.0 j)) (cut.1 j)) ∙ unlisted s d o x is)
          ]))
    ] refl kind gone

pub stale_lem : (s : State) (t i : ℕ) (e : Entry) → Through s t i e
    → (is_live (lists_of s.objects) e.container ≡ false) ⊎ (has (list_at s e.container) e.object ≡ false)
    → translate s t i ≡ None
stale_lem s t i e on h = shut_lem s t i e on (shut_if s t e h)

-- what is not listed is not listed after a cut
still_unlisted : (s : State) (d o : ℕ) (x : Object) (e : Entry) → object_at s d ≡ Some x
    → has (list_at s e.container) e.object ≡ false
    → has (list_at (put s d (delisting o x)) e.container) e.object ≡ false
still_unlisted s d o x e found h =
    ap (λ v. has (of_object [] (λ z. listed z.body) v) e.object)
    (lookup_put d e.container s.objects x (delisting o x) found) ∙
    elim (is_at (nat_cmp e.container) d)
    as (λ v. is_at (nat_cmp e.container) d ≡ v
    → has (of_object [] (λ z. listed z.body) (cond v (Some (delisting o x)) (object_at s e.container))) e.object
    ≡ false) [
      | true ↦ λ near.
          let on : e.container ≡ d = same_id e.container d near in
          let old : has (listed x.body) e.object ≡ false =
          sym (ap (λ v. has (of_object [] (λ z. listed z.body) v) e.object) (ap (object_at s) on ∙ found)) ∙ h in
          not_from (has (listed (delisting o x).body) e.object) (has (listed x.body) e.object)
          (fewer-relist (without o) e.object (has-without o e.object) x.body) old
      | false ↦ λ far. h
    ] refl
  where
    not_from : (a b : Bool) → (a ≡ true → b ≡ true) → b ≡ false → a ≡ false
    not_from true b f g = absurd (both_ways b g (f refl))
    not_from false b f g = refl

-- a row through an entry that does not stand stays as it is after a cut
pub stale_cut_lem : (s : State) (d o t i : ℕ) (e : Entry) → Through s t i e
    → has (list_at s e.container) e.object ≡ false
    → translate (changed s d (delisting o)) t i ≡ translate s t i
stale_cut_lem s d o t i e on h =
    elim (object_at s d)
    as (λ v. object_at s d ≡ v
    → translate (of_object s (λ x. put s d (delisting o x)) v) t i ≡ translate s t i) [
      | None ↦ λ found. refl
      | Some x ↦ λ found.
          stale_lem (put s d (delisting o x)) t i e (through_cut s d o x t i e found on)
          (inr (still_unlisted s d o x e found h))
          ∙ sym (stale_lem s t i e on (inr h))
    ] refl

-- and so is a row through an entry whose object is dead
pub dead_object_lem : (s : State) (t i : ℕ) (e : Entry) → Through s t i e
    → is_live (lists_of s.objects) e.object ≡ false → translate s t i ≡ None
dead_object_lem s t i e on dead =
    elim (opens s t e) as (λ v. opens s t e ≡ v → translate s t i ≡ None) [
      | true ↦ λ is.
          absurd (both_ways (is_live (lists_of s.objects) e.object) dead (opened_live s t e is))
      | false ↦ λ is. shut_lem s t i e on is
    ] refl
