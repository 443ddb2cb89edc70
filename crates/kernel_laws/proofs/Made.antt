-- The rows where an object is made.
use Rattle.std.proofs.Common.{◌≡◌, ◌≢◌, ℕ, true, false, cond, ◌&&◌, [], ◌++◌, ◌∷◌, Option}
use Rattle.std.proofs.Common.{Some, None, refl, ◌∙◌, ap, inl, inr, slice_get, not}
use Rattle.base.specs.Live.{has, are_live}
use Rattle.base.specs.declared.kinds.Kind.TheVariants as kinds
use Rattle.label_lattice.specs.Label.{LabelValue}
use Rattle.kernel_rules.specs.State.{State, object_at, of_object, lists_of, listed, is_kind, is_kind_at}
use Rattle.kernel_rules.specs.State.{slots_of}
use Rattle.kernel_rules.specs.Changes.{put, listing, with_new, made, fresh_object}
use Rattle.kernel_rules.specs.Step.{new_thread}
use Rattle.kernel_rules.specs.Translate.{translate, slot_in, through_space, slot_at, own_space, through, opens, names_none}
use Rattle.kernel_rules.specs.WellFormed.{is_well_formed}
use Rattle.kernel_rules.specs.declared.calls.Entry.{Entry}
use Rattle.kernel_rules.specs.declared.objects.Object.{Object}
use Rattle.kernel_rules.proofs.GrowLaws.{make_live}
use Rattle.kernel_rules.proofs.GrownLaws.{Making, making_from, made_is, grown_new}
use Rattle.kernel_rules.proofs.ListingLaws.{has-append_other, has_wider, has_new, IsContainerAt, container_at}
use Rattle.kernel_rules.proofs.WellFormedLaws.{Soundness, soundness_of}
use Rattle.kernel_laws.proofs.Frames.{lookup_inserted}
use Rattle.kernel_laws.specs.Through.{Through}
use Rattle.kernel_laws.proofs.Depends.{row_reads_lem}
use Rattle.kernel_laws.proofs.Lists.{as_live, live_listing, kind_same}
use Rattle.kernel_laws.proofs.Put.{label_read, space_read, at_any}
use Rattle.kernel_laws.proofs.Bodies.{thread-relist, slots-relist, has-relist}
use Rattle.std.specs.Option.{option_map}

module _ (s : State) (d : ℕ) (x y : Object) (m : Making s d y) (h : are_live (lists_of s.objects) ≡ true) where
  -- before the new object is recorded
  abbrev mid : State
  mid = put s d (listing s.next_id y)

  abbrev end : State
  end = with_new mid x

  at_old : (q : ℕ) → q ≢ s.next_id → object_at end q ≡ object_at mid q
  at_old q other = lookup_inserted s.next_id q mid.objects x other

  end_live : are_live (lists_of end.objects) ≡ true
  end_live = make_live d s.next_id s.objects y (listing s.next_id y) x m.found m.absent
      (λ b. has_wider y s.next_id b m.kind) (has_new y s.next_id m.kind) h

  -- what is read of an object that is not the new one
  read : {X : Type 0} (g : Option Object → X) (q : ℕ) → q ≢ s.next_id
      → g (Some (listing s.next_id y)) ≡ g (Some y) → g (object_at end q) ≡ g (object_at s q)
  read g q other same =
      ap g (at_old q other) ∙ at_any g s d q y (listing s.next_id y) m.found same

  made_space : (t : ℕ) → t ≢ s.next_id → own_space end t ≡ own_space s t
  made_space t old =
      read space_read t old
      (ap (option_map (λ r. r.space)) (thread-relist (λ ids. ids ++ s.next_id ∷ []) y.body))

  made_row : (t i : ℕ) → t ≢ s.next_id
      → ((e : Entry) → Through s t i e → (e.container ≢ s.next_id) × (e.object ≢ s.next_id))
      → translate end t i ≡ translate s t i
  made_row t i old named =
      row_reads_lem s end t i
      (read space_read t old (ap (option_map (λ r. r.space)) (thread-relist (λ ids. ids ++ s.next_id ∷ []) y.body)))
      (read label_read t old refl)
      (λ e on.
      let names : (e.container ≢ s.next_id) × (e.object ≢ s.next_id) = named e on in
      record {
        live = as_live s end e.container h end_live
            (read (of_object false (is_kind kinds.Container)) e.container names.0
            (kind_same (λ ids. ids ++ s.next_id ∷ []) y));
        listed = read (λ v. has (of_object [] (λ z. listed z.body) v) e.object) e.container names.0
            (has-relist (λ ids. ids ++ s.next_id ∷ []) e.object
            (λ ids. has-append_other ids s.next_id e.object names.1) y.body);
        container = read label_read e.container names.0 refl;
        object = read label_read e.object names.1 refl;
      })
      (λ e is. ap (λ l. slot_in (slice_get l i))
      (read (of_object [] (λ z. slots_of z.body)) e.object (named e (inl is)).1
      (slots-relist (λ ids. ids ++ s.next_id ∷ []) y.body)))
      (λ e is. read (of_object false (λ z. z.immutable)) e.object (named e (inr is)).1 refl)

pub made_lem : (s : State) (d : ℕ) (x : Object) (t i : ℕ) → is_well_formed s ≡ true
    → is_kind_at s kinds.Container d ≡ true → t ≢ s.next_id
    → ((e : Entry) → Through s t i e → (e.container ≢ s.next_id) × (e.object ≢ s.next_id))
    → translate (made s d x) t i ≡ translate s t i
made_lem s d x t i wf kind old named =
    let sound : Soundness s = soundness_of s wf in
    let at : IsContainerAt s d = container_at s d kind in
    let m : Making s d at.object = making_from s d at sound in
    ap (λ v. translate (with_new (of_object s (λ z. put s d (listing s.next_id z)) v) x) t i) at.found
    ∙ made_row s d x at.object m sound.live t i old named

pub made_own : (s : State) (d : ℕ) (x : Object) (t : ℕ) → is_well_formed s ≡ true
    → is_kind_at s kinds.Container d ≡ true → t ≢ s.next_id → own_space (made s d x) t ≡ own_space s t
made_own s d x t wf kind old =
    let sound : Soundness s = soundness_of s wf in
    let at : IsContainerAt s d = container_at s d kind in
    ap (λ v. own_space (with_new (of_object s (λ z. put s d (listing s.next_id z)) v) x) t) at.found
    ∙ made_space s d x at.object (making_from s d at sound) sound.live t old

-- a thread whose entry names no address space shows nothing
pub none_named_lem : (s : State) (t i : ℕ) (e : Entry) → own_space s t ≡ Some e → names_none e ≡ true
    → translate s t i ≡ None
unfolding translate
none_named_lem s t i e own none =
    ap (through_space s t i) own
    ∙ ap (λ b. cond (not b && opens s t e) (through s t (slot_at s e.object i)) None) none

-- nor does a new one
pub new_thread_lem : (s : State) (d : ℕ) (l c : LabelValue) (q p i : ℕ) → is_well_formed s ≡ true
    → is_kind_at s kinds.Container d ≡ true
    → translate (made s d (fresh_object l q (new_thread c p))) s.next_id i ≡ None
new_thread_lem s d l c q p i wf kind =
    let at : IsContainerAt s d = container_at s d kind in
    let m : Making s d at.object = making_from s d at (soundness_of s wf) in
    let x : Object = fresh_object l q (new_thread c p) in
    none_named_lem (made s d (fresh_object l q (new_thread c p))) s.next_id i (record { container = 0; object = 0 })
    (ap (λ n. own_space n s.next_id) (made_is s d at.object (fresh_object l q (new_thread c p)) m)
    ∙ ap space_read (grown_new s d at.object (fresh_object l q (new_thread c p)) m))
    refl
