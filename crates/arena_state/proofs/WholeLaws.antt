-- What the state with what slots hold shares with the one without.
use Rattle.std.proofs.Common.{◌≡◌, ℕ, ◌+◌, ◌<◌, ◌≤◌, Bool, true, false, cond, ◌&&◌, ◌||◌, ◌==◌, List, [], ◌∷◌, length, get_or, Option, Some, None, inl, inr, refl, sym, ◌∙◌, ap, arith}
use Rattle.std.specs.Prelude.{slice_get}
use Rattle.std.specs.Option.{option_map}
use Rattle.std.proofs.lemmas.Bool.{cases_Bool}
use Rattle.base.specs.Live.{has, links}
use Rattle.base.specs.declared.kinds.Kind as kind
use Rattle.base.specs.declared.kinds.Kind.TheVariants as kinds
use Rattle.containers.specs.Tree.{ids_in, list_of, HasSlot}
use Rattle.kernel_rules.specs.Scratch.{ids_of}
use Rattle.kernel_rules.specs.State.{object_at, of_object, is_kind, is_kind_at, is_fixed, list_at, quota_at, use_of, holds, own_cost, listed}
use Rattle.kernel_rules.specs.Fitting.{IsFitting}
use Rattle.kernel_rules.specs.Step.{lister_of}
use Rattle.kernel_rules.specs.WellFormed.{is_whole_body}
use Rattle.kernel_rules.specs.declared.calls.Entry.{Entry}
use Rattle.kernel_rules.specs.declared.objects.Object.{Object}
use Rattle.kernel_rules.specs.declared.objects.Body.{Body}
use Rattle.arena_state.specs.declared.pieces.Pieces.{Pieces}
use Rattle.arena_state.specs.declared.states.ArenaState.{ArenaState}
use Rattle.arena_state.specs.Filled.{Content, filled, filled_in}
use Rattle.arena_state.specs.Assembled.{pieces_state, record_in}
use Rattle.arena_state.specs.Stocked.{content_in, content_at, whole_state, IsStocked}
use Rattle.arena_state.specs.States.{Shows}
use Rattle.arena_state.specs.Sound.{IsSound}
use Rattle.arena_state.proofs.RowLaws.{row_place}
use Rattle.arena_state.proofs.SoundLaws.{held_claim, held_label_there}
use Rattle.arena_state.proofs.EditLaws.{kept_use_is, use_within}
use Rattle.arena_state.proofs.FilledLaws.{at_filled, listed_filled}
use Rattle.arena_state.proofs.MadeFilledLaws.{kind_filled}
use Rattle.arena_state.proofs.FormedLaws.{read_filled, quota_filled, list_filled}
use Rattle.arena_state.proofs.StockLaws.{object_whole, whole_use}
use Rattle.arena_state.proofs.ViewLaws as view
use Rattle.arena_state.proofs.ParentLaws as parents
use Rattle.arena_state.proofs.StepLaws as steps

-- what a slot's record shows
pub shown : (a : ArenaState) (id slot : ℕ) → HasSlot a.pieces.places id slot → Shows a id (record_in a.pieces.holdings.records.items slot)
shown a id slot h = record {
  list = (row_place a.pieces.places.lists a.pieces.places.slots h.place).list;
  content = content_in a.pieces.holdings slot;
  is = object_whole a.pieces a.sound id slot h;
  stored = λ i some. held_claim a.pieces a.sound id slot i h some;
  named = held_label_there a.pieces a.sound id slot h;
  used = kept_use_is a.pieces a.sound id slot h ∙ sym (whole_use a.pieces a.sound a.stocked id);
  within = use_within a.pieces a.sound id slot h;
}

ids_filled : (cs : ℕ → Content) (es : List (ℕ × Object)) → ids_of (filled_in cs es) ≡ ids_of es
ids_filled cs [] = refl
ids_filled cs (e ∷ es) = ap (λ (t : List ℕ). e.0 ∷ t) (ids_filled cs es)

lister_filled : (cs : ℕ → Content) (d : ℕ) (es : List (ℕ × Object)) → lister_of d (filled_in cs es) ≡ lister_of d es
lister_filled cs d [] = refl
lister_filled cs d (e ∷ es) =
    (λ i. cond (has (listed_filled (cs e.0) e.1.body i) d) e.0 (lister_filled cs d es i))

bare_none : (c : Content) (v : Option Object) → option_map (filled c) v ≡ None → v ≡ None
bare_none c None none = refl
bare_none c (Some x) none = absurd (cc)

module _ (p : Pieces) where
  pub kind_same : (k : kind.Kind) (o : ℕ) → is_kind_at (whole_state p) k o ≡ is_kind_at (pieces_state p) k o
  kind_same k o = read_filled (content_at p) (pieces_state p) false (is_kind k) (kind_filled k) o

  pub list_same : (o : ℕ) → list_at (whole_state p) o ≡ list_at (pieces_state p) o
  list_same o = list_filled (content_at p) (pieces_state p) o

  pub quota_same : (o : ℕ) → quota_at (whole_state p) o ≡ quota_at (pieces_state p) o
  quota_same o = quota_filled (content_at p) (pieces_state p) o

  pub fixed_same : (o : ℕ) → is_fixed (whole_state p) o ≡ is_fixed (pieces_state p) o
  fixed_same o = read_filled (content_at p) (pieces_state p) false (λ x. x.fixed) (λ c x. refl) o

  pub none_bare : (o : ℕ) → object_at (whole_state p) o ≡ None → object_at (pieces_state p) o ≡ None
  none_bare o none = bare_none (content_at p o) (object_at (pieces_state p) o) (sym (at_filled (content_at p) o (pieces_state p).objects) ∙ none)

  -- a fact of the whole state, said of the one without what slots hold
  pub kind_bare : (k : kind.Kind) (o : ℕ) (v : Bool) → is_kind_at (whole_state p) k o ≡ v → is_kind_at (pieces_state p) k o ≡ v
  kind_bare k o v h = sym (kind_same k o) ∙ h

  pub fixed_bare : (o : ℕ) (v : Bool) → is_fixed (whole_state p) o ≡ v → is_fixed (pieces_state p) o ≡ v
  fixed_bare o v h = sym (fixed_same o) ∙ h

  pub listed_bare : (d o : ℕ) (v : Bool) → has (list_at (whole_state p) d) o ≡ v → has (list_at (pieces_state p) d) o ≡ v
  listed_bare d o v h = ap (λ (l : List ℕ). has l o) (sym (list_same d)) ∙ h

  pub holds_bare : (e : Entry) → holds (whole_state p) e ≡ true → holds (pieces_state p) e ≡ true
  holds_bare e h =
      (λ i. sym (kind_same kinds.Container e.container) i
      && (has (sym (list_same e.container) i) e.object || e.object == e.container))
      ∙ h

  module _ (s : IsSound p) (k : IsStocked p) where
    pub linked_bare : (d o : ℕ) → use_of (whole_state p) d + quota_at (whole_state p) o ≤ quota_at (whole_state p) d
        → use_of (pieces_state p) d + quota_at (pieces_state p) o ≤ quota_at (pieces_state p) d
    linked_bare d o h = omega (arith, h, whole_use p s k d, quota_same o, quota_same d)

    pub used_bare : (d n : ℕ) → use_of (whole_state p) d + n ≤ quota_at (whole_state p) d
        → use_of (pieces_state p) d + n ≤ quota_at (pieces_state p) d
    used_bare d n h = omega (arith, h, whole_use p s k d, quota_same d)

    pub fitting_bare : (d q : ℕ) (b c : Body) → IsFitting (whole_state p) d q b → own_cost c ≡ own_cost b → listed c ≡ []
        → is_whole_body c ≡ true → IsFitting (pieces_state p) d q c
    fitting_bare d q b c f cost none whole = record {
      container = kind_bare kinds.Container d true f.container;
      enough = omega (arith, f.enough, cost);
      room = used_bare d q f.room;
      left = f.left;
      empty = none;
      whole = whole;
    }

    pub same_fitting : (d q : ℕ) (b : Body) → IsFitting (whole_state p) d q b → IsFitting (pieces_state p) d q b
    same_fitting d q b f = fitting_bare d q b b f refl f.empty f.whole

  module _ (s : IsSound p) where
    pub listed_is : (i : ℕ) → list_at (whole_state p) i ≡ list_of p.places.lists i
    listed_is i = list_same i ∙ view.listed_is p s i

    pub links_is : (d o : ℕ) → links p.places.lists d o ≡ has (list_at (whole_state p) d) o
    links_is d o = view.links_is p s d o ∙ ap (λ (l : List ℕ). has l o) (sym (list_same d))

    pub id_at : (k : ℕ) → k < length (ids_in p.places.lists)
        → slice_get (ids_of (whole_state p).objects) k ≡ Some (get_or (ids_in p.places.lists) k 0)
    id_at k lt = ap (λ (xs : List ℕ). slice_get xs k) (ids_filled (content_at p) (pieces_state p).objects) ∙ view.id_at p s k lt

    pub id_past : (k : ℕ) → length (ids_in p.places.lists) ≤ k → slice_get (ids_of (whole_state p).objects) k ≡ None
    id_past k past = ap (λ (xs : List ℕ). slice_get xs k) (ids_filled (content_at p) (pieces_state p).objects) ∙ view.id_past p s k past

    pub object_there : (d o : ℕ) → has (list_at (whole_state p) d) o ≡ true → object_at (whole_state p) o ≡ None → ⊥
    object_there d o h none = steps.object_there p s d o (listed_bare d o true h) (none_bare o none)

    -- what is not there lists nothing, and nothing lists it
    pub none_lists : (d o : ℕ) → object_at (whole_state p) d ≡ None → has (list_at (whole_state p) d) o ≡ false
    none_lists d o none = ap (λ v. has (of_object [] (λ x. listed x.body) v) o) none

    pub none_listed : (d o : ℕ) → object_at (whole_state p) o ≡ None → has (list_at (whole_state p) d) o ≡ false
    none_listed d o none = elim (cases_Bool (has (list_at (whole_state p) d) o)) [
      | inl is ↦ absurd (object_there d o is none)
      | inr off ↦ off
    ]

    -- the container lists the object, where that was told
    pub told_listed : (d o : ℕ) (told v : Bool) → told ≡ links p.places.lists d o → told ≡ v
        → has (list_at (whole_state p) d) o ≡ v
    told_listed d o told v h is = sym (links_is d o) ∙ sym h ∙ is

    module _ (d : ℕ) (kind' : is_kind_at (whole_state p) kinds.Container d ≡ true) where
      pub container_there : has (ids_in p.places.lists) d ≡ true
      container_there = parents.container_there p s d (kind_bare kinds.Container d true kind')

      pub parent_is : (a : ℕ) → links p.places.lists a d ≡ true → a ≡ lister_of d (whole_state p).objects
      parent_is a h = parents.parent_is p s d (kind_bare kinds.Container d true kind') a h
          ∙ sym (lister_filled (content_at p) d (pieces_state p).objects)

      pub parent_none : ((a : ℕ) → links p.places.lists a d ≡ false) → d ≡ lister_of d (whole_state p).objects
      parent_none none = parents.parent_none p s d (kind_bare kinds.Container d true kind') none
          ∙ sym (lister_filled (content_at p) d (pieces_state p).objects)
