-- A new object among objects with what their slots hold.
use Rattle.std.proofs.Common.{◌≡◌, ◌≢◌, ℕ, ◌+◌, true, nat_lt, List, [], ◌∷◌, ◌++◌, refl, sym, ◌∙◌, ap}
use Rattle.std.specs.Option.{option_map}
use Rattle.std.specs.Ordering.{nat_cmp}
use Rattle.std.specs.Map.{set_value}
use Rattle.std.specs.BTreeMap.{is_at}
use Rattle.std.proofs.lemmas.List.Folds.{list_all-map}
use Rattle.base.specs.declared.kinds.Kind as kind
use Rattle.base.specs.declared.kinds.Kind.TheVariants as kinds
use Rattle.kernel_rules.specs.State.{State, is_kind}
use Rattle.kernel_rules.specs.Changes.{made, listing}
use Rattle.kernel_rules.specs.WellFormed.{ids_rise}
use Rattle.kernel_rules.specs.declared.objects.Object.{Object}
use Rattle.kernel_rules.specs.declared.objects.Body as body
use Rattle.kernel_rules.specs.declared.objects.Body.TheVariants as is
use Rattle.kernel_rules.proofs.GrowLaws.{absent-set_value}
use Rattle.kernel_rules.proofs.GrownLaws.{Making, made_is}
use Rattle.arena_state.specs.Filled.{Content, filled, filled_body, filled_in, filled_state}
use Rattle.arena_state.proofs.FilledLaws.{at_filled, set_filled, absent_filled}

pub kind_filled : (k : kind.Kind) (c : Content) (x : Object) → is_kind k (filled c x) ≡ is_kind k x
kind_filled k c x = of_body x.body
  where
    of_body : (b : body.Body) → is_kind k (record x { body = filled_body c b }) ≡ is_kind k (record x { body = b })
    of_body (is.Container avoid list) = refl
    of_body (is.Segment bytes) = refl
    of_body (is.AddressSpace slots) = refl
    of_body (is.Thread t) = refl
    of_body (is.Gate g) = refl
    of_body (is.Device packets) = refl

pub listing_filled : (c : Content) (o : ℕ) (x : Object) → filled c (listing o x) ≡ listing o (filled c x)
listing_filled c o x = (λ i. record x { body = of_body x.body i })
  where
    of_body : (b : body.Body)
        → filled_body c (listing o (record x { body = b })).body ≡ (listing o (record x { body = filled_body c b })).body
    of_body (is.Container avoid list) = refl
    of_body (is.Segment bytes) = refl
    of_body (is.AddressSpace slots) = refl
    of_body (is.Thread t) = refl
    of_body (is.Gate g) = refl
    of_body (is.Device packets) = refl

pub append_filled : (cs : ℕ → Content) (es fs : List (ℕ × Object)) → filled_in cs (es ++ fs) ≡ filled_in cs es ++ filled_in cs fs
append_filled cs [] fs = refl
append_filled cs (e ∷ es) fs = ap (λ (t : List (ℕ × Object)). (e.0, filled (cs e.0) e.1) ∷ t) (append_filled cs es fs)

module _ (cs ds : ℕ → Content) (s : State) (d : ℕ) (y x : Object) (m : Making s d y) (rise : ids_rise s.objects ≡ true)
    (off : (i : ℕ) → i ≢ s.next_id → ds i ≡ cs i) where
  making_filled : Making (filled_state cs s) d (filled (cs d) y)
  making_filled = record {
    found = at_filled cs d s.objects ∙ ap (option_map (filled (cs d))) m.found;
    kind = kind_filled kinds.Container (cs d) y ∙ m.kind;
    given = list_all-map (λ (e : ℕ × Object). nat_lt e.0 s.next_id) (λ (e : ℕ × Object). (e.0, filled (cs e.0) e.1)) s.objects ∙ m.given;
    absent = at_filled cs s.next_id s.objects ∙ ap (option_map (filled (cs s.next_id))) m.absent;
  }

  grown_filled : filled_in ds (set_value (is_at (nat_cmp d)) s.objects (listing s.next_id y) ++ (s.next_id, x) ∷ [])
      ≡ set_value (is_at (nat_cmp d)) (filled_in cs s.objects) (listing s.next_id (filled (cs d) y))
      ++ (s.next_id, filled (ds s.next_id) x) ∷ []
  grown_filled =
      append_filled ds (set_value (is_at (nat_cmp d)) s.objects (listing s.next_id y)) ((s.next_id, x) ∷ [])
      ∙ ap (λ (t : List (ℕ × Object)). t ++ (s.next_id, filled (ds s.next_id) x) ∷ [])
      (absent_filled cs ds s.next_id off (set_value (is_at (nat_cmp d)) s.objects (listing s.next_id y))
      (absent-set_value d s.next_id s.objects (listing s.next_id y) m.absent)
      ∙ set_filled cs cs d (λ i other. refl) s.objects (listing s.next_id y) (listing s.next_id (filled (cs d) y)) rise
      (listing_filled (cs d) s.next_id y))

  -- a new object, and what its slot holds
  pub made_filled : filled_state ds (made s d x) ≡ made (filled_state cs s) d (filled (ds s.next_id) x)
  made_filled =
      ap (filled_state ds) (made_is s d y x m)
      ∙ (λ i. record s { objects = grown_filled i; next_id = s.next_id + 1 })
      ∙ sym (made_is (filled_state cs s) d (filled (cs d) y) (filled (ds s.next_id) x) making_filled)
