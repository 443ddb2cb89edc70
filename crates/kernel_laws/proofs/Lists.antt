-- The rows where a container's list changes.
use Rattle.std.proofs.Common.{◌≡◌, ◌≢◌, ℕ, Bool, true, false, cond, not, ◌&&◌, ◌||◌, ◌==◌, List, []}
use Rattle.std.proofs.Common.{◌∷◌, ◌++◌, Some, None, refl, sym, ◌∙◌, ap, subst, inl, inr}
use Rattle.std.specs.Option.{option_map}
use Rattle.std.specs.Ordering.{nat_cmp}
use Rattle.std.specs.Map.{lookup, set_value}
use Rattle.std.specs.BTreeMap.{is_at}
use Rattle.std.proofs.lemmas.Bool.{or_cases, and_parts, and_from, eqb-true}
use Rattle.std.proofs.lemmas.List.Folds.{list_any-append}
use Rattle.base.specs.Live.{has, links, is_live, are_live}
use Rattle.base.specs.declared.kinds.Kind.TheVariants as kinds
use Rattle.base.proofs.LiveLaw.{or_left, or_right}
use Rattle.kernel_rules.specs.State.{State, object_at, of_object, lists_of, listed, label_at}
use Rattle.kernel_rules.specs.State.{is_kind, is_kind_at, is_live_kind, kind_number}
use Rattle.kernel_rules.specs.Changes.{put, changed, relist, listing, delisting, without}
use Rattle.kernel_rules.specs.Step.{restricted}
use Rattle.kernel_rules.specs.Translate.{translate}
use Rattle.kernel_rules.specs.declared.calls.Entry.{Entry}
use Rattle.kernel_rules.specs.declared.objects.Object.{Object}
use Rattle.kernel_rules.proofs.GrowLaws.{Grows, live_grow, grows-set_value, all-set_value, all_weaker}
use Rattle.kernel_rules.proofs.ListingLaws.{has-append_other}
use Rattle.kernel_rules.proofs.RecordLaws.{kind_live}
use Rattle.kernel_laws.specs.Through.{Through}
use Rattle.kernel_laws.proofs.Bodies.{kind-relist, slots-relist, thread-relist, has-relist}
use Rattle.kernel_laws.proofs.Bodies.{wider-relist, fewer-relist}
use Rattle.kernel_laws.proofs.Dead.{death_keeps_lem}
use Rattle.kernel_laws.proofs.Depends.{row_reads_lem}
use Rattle.kernel_laws.proofs.Put.{label_read, space_read, at_id, at_any, slot_put}

-- the container, or another object, with another list
abbrev pub relisted : (List ℕ → List ℕ) → Object → Object
relisted f x = record x { body = relist f x.body }

pub kind_same : (f : List ℕ → List ℕ) (x : Object)
    → is_kind kinds.Container (relisted f x) ≡ is_kind kinds.Container x
kind_same f x = ap (λ k. kind_number k == 0) (kind-relist f x.body)

-- a row is the same where no entry that it goes through is listed otherwise, and its containers
-- are as live as before
pub relisted_row : (s : State) (d : ℕ) (f : List ℕ → List ℕ) (x : Object) (t i : ℕ) → object_at s d ≡ Some x
    → ((e : Entry) → Through s t i e
    → is_live_kind (put s d (relisted f x)) kinds.Container e.container
    ≡ is_live_kind s kinds.Container e.container)
    → ((e : Entry) → Through s t i e → e.container ≡ d → (ids : List ℕ)
    → has (f ids) e.object ≡ has ids e.object)
    → translate (put s d (relisted f x)) t i ≡ translate s t i
relisted_row s d f x t i found live same =
    let labels : (q : ℕ) → label_at (put s d (relisted f x)) q ≡ label_at s q =
    (λ q. at_any label_read s d q x (relisted f x) found refl) in
    row_reads_lem s (put s d (relisted f x)) t i
    (at_any space_read s d t x (relisted f x) found
    (ap (option_map (λ r. r.space)) (thread-relist f x.body)))
    (labels t)
    (λ e on. record {
      live = live e on;
      listed = at_id (λ v. has (of_object [] (λ z. listed z.body) v) e.object) s d e.container x (relisted f x)
          found (λ at. has-relist f e.object (same e on at) x.body);
      container = labels e.container;
      object = labels e.object;
    })
    (λ e is. slot_put s d x (relisted f x) found (slots-relist f x.body) e.object i)
    (λ e is. at_any (of_object false (λ z. z.immutable)) s d e.object x (relisted f x) found refl)

-- where each record is live in both states, a container is as live as before
pub as_live : (s n : State) (q : ℕ) → are_live (lists_of s.objects) ≡ true → are_live (lists_of n.objects) ≡ true
    → is_kind_at n kinds.Container q ≡ is_kind_at s kinds.Container q
    → is_live_kind n kinds.Container q ≡ is_live_kind s kinds.Container q
as_live s n q before after kind =
    sym (kind_live n kinds.Container q after) ∙ kind ∙ kind_live s kinds.Container q before

has-append_wider : (k o : ℕ) (ids : List ℕ) → has ids o ≡ true → has (ids ++ k ∷ []) o ≡ true
has-append_wider k o ids h = list_any-append (λ i. o == i) ids (k ∷ []) ∙ or_left _ _ h

-- one id more leaves each record live
pub live_listing : (s : State) (d o : ℕ) (x : Object) → object_at s d ≡ Some x
    → are_live (lists_of s.objects) ≡ true → are_live (lists_of (put s d (listing o x)).objects) ≡ true
live_listing s d o x found h =
    all-set_value (is_live (lists_of (put s d (listing o x)).objects)) d s.objects (listing o x)
    ∙ all_weaker (is_live (lists_of s.objects)) (is_live (lists_of (put s d (listing o x)).objects)) s.objects
    (live_grow (lists_of s.objects) (lists_of (put s d (listing o x)).objects)
    (grows-set_value d s.objects x (listing o x) found
    (λ b. wider-relist (λ ids. ids ++ o ∷ []) b (has-append_wider o b) x.body)))
    h

-- a container that lists one more
pub listing_lem : (s : State) (d o t i : ℕ) → are_live (lists_of s.objects) ≡ true
    → ((e : Entry) → Through s t i e → e.container ≡ d → e.object ≢ o)
    → translate (changed s d (listing o)) t i ≡ translate s t i
listing_lem s d o t i h other =
    elim (object_at s d)
    as (λ v. object_at s d ≡ v → translate (of_object s (λ x. put s d (listing o x)) v) t i
    ≡ translate s t i) [
      | None ↦ λ is. refl
      | Some x ↦ λ is. relisted_row s d (λ ids. ids ++ o ∷ []) x t i is
          (λ e on. as_live s (put s d (listing o x)) e.container h (live_listing s d o x is h)
          (at_any (of_object false (is_kind kinds.Container)) s d e.container x (listing o x) is
          (kind_same (λ ids. ids ++ o ∷ []) x)))
          (λ e on at ids. has-append_other ids o e.object (other e on at))
    ] refl

-- a list without an id
has-without_other : (o b : ℕ) (ids : List ℕ) → b ≢ o → has (without o ids) b ≡ has ids b
has-without_other o b [] other = refl
has-without_other o b (i ∷ ids) other =
    elim (o == i)
    as (λ v. (o == i) ≡ v → has (cond (not v) (i ∷ without o ids) (without o ids)) b ≡ has (i ∷ ids) b) [
      | true ↦ λ is. has-without_other o b ids other
          ∙ sym (ap (λ v. v || has ids b) (apart (b == i) (λ on. other (eqb-true b i on ∙ sym (eqb-true o i is)))))
      | false ↦ λ is. ap (λ v. (b == i) || v) (has-without_other o b ids other)
    ] refl
  where
    apart : (v : Bool) → (v ≡ true → ⊥) → v ≡ false
    apart true h = absurd (h refl)
    apart false h = refl

pub has-without : (o b : ℕ) (ids : List ℕ) → has (without o ids) b ≡ true → has ids b ≡ true
has-without o b [] h = h
has-without o b (i ∷ ids) h =
    elim (not (o == i)) as (λ v. has (cond v (i ∷ without o ids) (without o ids)) b ≡ true
    → has (i ∷ ids) b ≡ true) [
      | true ↦ λ l. elim (or_cases (b == i) (has (without o ids) b) l) [
        | inl here ↦ or_left (b == i) (has ids b) here
        | inr there ↦ or_right (b == i) (has ids b) (has-without o b ids there)
      ]
      | false ↦ λ l. or_right (b == i) (has ids b) (has-without o b ids l)
    ] h

pub not_without : (o : ℕ) (ids : List ℕ) → has (without o ids) o ≡ false
not_without o [] = refl
not_without o (i ∷ ids) =
    elim (o == i) as (λ v. (o == i) ≡ v → has (cond (not v) (i ∷ without o ids) (without o ids)) o ≡ false) [
      | true ↦ λ is. not_without o ids
      | false ↦ λ is. (λ j. is j || not_without o ids j)
    ] refl

-- a shorter list has no new links
shrinks-set_value : (d : ℕ) (es : List (ℕ × Object)) (x y : Object) → lookup (is_at (nat_cmp d)) es ≡ Some x
    → ((b : ℕ) → has (listed y.body) b ≡ true → has (listed x.body) b ≡ true)
    → Grows (lists_of (set_value (is_at (nat_cmp d)) es y)) (lists_of es)
shrinks-set_value d [] x y found w a b h = h
shrinks-set_value d (e ∷ es) x y found w a b h =
    elim (is_at (nat_cmp d) e.0)
    as (λ v. cond v (Some e.1) (lookup (is_at (nat_cmp d)) es) ≡ Some x
    → links (lists_of (cond v ((e.0, y) ∷ es) (e ∷ set_value (is_at (nat_cmp d)) es y))) a b ≡ true
    → links (lists_of (e ∷ es)) a b ≡ true) [
      | true ↦ λ f l.
          let is : e.1 ≡ x = cc in
          elim (or_cases ((a == e.0) && has (listed y.body) b) (links (lists_of es) a b) l) [
            | inl here ↦
                let both : ((a == e.0) ≡ true) × (has (listed y.body) b ≡ true) =
                and_parts (a == e.0) (has (listed y.body) b) here in
                or_left _ _ (and_from (a == e.0) (has (listed e.1.body) b) both.0
                (subst (λ (z : Object). has (listed z.body) b ≡ true) (sym is) (w b both.1)))
            | inr there ↦ or_right ((a == e.0) && has (listed e.1.body) b) (links (lists_of es) a b) there
          ]
      | false ↦ λ f l.
          elim (or_cases ((a == e.0) && has (listed e.1.body) b)
          (links (lists_of (set_value (is_at (nat_cmp d)) es y)) a b) l) [
            | inl here ↦ or_left _ _ here
            | inr there ↦ or_right ((a == e.0) && has (listed e.1.body) b) (links (lists_of es) a b)
                (shrinks-set_value d es x y f w a b there)
          ]
    ] found h

-- what is live without a link was live
live_before : (s : State) (d o : ℕ) (x : Object) → object_at s d ≡ Some x → (q : ℕ)
    → is_live (lists_of (put s d (delisting o x)).objects) q ≡ true → is_live (lists_of s.objects) q ≡ true
live_before s d o x found q h =
    live_grow (lists_of (put s d (delisting o x)).objects) (lists_of s.objects)
    (shrinks-set_value d s.objects x (delisting o x) found
    (λ b. fewer-relist (without o) b (has-without o b) x.body)) q h

-- a row of which no entry goes with a link
pub cut_lem : (s : State) (d o t i : ℕ)
    → ((e : Entry) → Through s t i e
    → (is_live (lists_of (changed s d (delisting o)).objects) e.container ≡ true)
    × (e.container ≡ d → e.object ≢ o))
    → translate (changed s d (delisting o)) t i ≡ translate s t i
cut_lem s d o t i =
    elim (object_at s d)
    as (λ v. object_at s d ≡ v
    → ((e : Entry) → Through s t i e
    → (is_live (lists_of (of_object s (λ x. put s d (delisting o x)) v).objects) e.container ≡ true)
    × (e.container ≡ d → e.object ≢ o))
    → translate (of_object s (λ x. put s d (delisting o x)) v) t i ≡ translate s t i) [
      | None ↦ λ is h. refl
      | Some x ↦ λ is h. relisted_row s d (without o) x t i is
          (λ e on.
          let now : is_live (lists_of (put s d (delisting o x)).objects) e.container ≡ true = (h e on).0 in
          let before : is_live (lists_of s.objects) e.container ≡ true =
          live_before s d o x is e.container now in
          (λ j. at_any (of_object false (is_kind kinds.Container)) s d e.container x (delisting o x) is
          (kind_same (without o) x) j && (now ∙ sym before) j))
          (λ e on at ids. has-without_other o e.object ids ((h e on).1 at))
    ] refl

pub unref_lem : (s : State) (d o t i : ℕ)
    → is_live (lists_of (changed s d (delisting o)).objects) t ≡ true
    → ((e : Entry) → Through s t i e
    → (is_live (lists_of (changed s d (delisting o)).objects) e.container ≡ true)
    × (e.container ≡ d → e.object ≢ o))
    → translate (restricted (changed s d (delisting o))) t i ≡ translate s t i
unref_lem s d o t i alive h =
    death_keeps_lem (changed s d (delisting o)) t i alive ∙ cut_lem s d o t i h
