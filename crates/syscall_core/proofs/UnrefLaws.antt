-- Rows after an object that is no container was taken out of a list.
use Rattle.std.proofs.Common.{◌≡◌, ◌≢◌, ℕ, Bool, true, false, not, ◌&&◌, ◌||◌, ◌==◌, List, [], ◌∷◌, Option, Some, None}
use Rattle.std.proofs.Common.{refl, sym, subst, ap, ◌∙◌, inl, inr}
use Rattle.std.specs.List.{list_all}
use Rattle.std.specs.Option.{option_map}
use Rattle.std.proofs.lemmas.Bool.{and_parts, both_ways, cases_Bool, cases_eq, eqb-true, or_cases}
use Rattle.base.specs.Live.{has, links, Leads, IsLive, is_live}
use Rattle.base.specs.declared.kinds.Kind.TheVariants as kinds
use Rattle.base.proofs.LiveLaw.{live_from_path, path_from_live}
use Rattle.containers.proofs.Distinct.{has_without}
use Rattle.containers.proofs.Lists.{links_of_list}
use Rattle.kernel_rules.specs.Changes.{delisting, without}
use Rattle.kernel_rules.specs.State.{State, is_kind, is_kind_at, is_live_kind, kind_number, kind_of, label_at, list_at, listed, lists_of, object_at, of_object, slots_at, slots_of}
use Rattle.kernel_rules.specs.Step.{restricted}
use Rattle.kernel_rules.specs.Translate.{opens, own_space, translate}
use Rattle.kernel_rules.specs.WellFormed.{ids_rise}
use Rattle.kernel_rules.specs.declared.calls.Entry.{Entry}
use Rattle.kernel_rules.specs.declared.objects.Body as body
use Rattle.kernel_rules.specs.declared.objects.Body.TheVariants as is
use Rattle.kernel_rules.specs.declared.objects.Object.{Object}
use Rattle.kernel_rules.proofs.KeptLaws.{rise-put}
use Rattle.kernel_rules.proofs.LookupLaws.{all_from}
use Rattle.kernel_rules.proofs.UnrefLaws.{delisted}
use Rattle.kernel_laws.specs.Through.{SameEntry, Through}
use Rattle.kernel_laws.proofs.Bodies.{has-relist, slots-relist, thread-relist}
use Rattle.kernel_laws.proofs.Dead.{at_live, death_keeps_lem, opened_live}
use Rattle.kernel_laws.proofs.Depends.{opens_same, row_reads_lem}
use Rattle.kernel_laws.proofs.Lists.{kind_same}
use Rattle.kernel_laws.proofs.Put.{at_any, at_id, label_read, slot_put, space_read}
use Rattle.kernel_laws.proofs.Shut.{shut_lem}
use Rattle.arena_state.proofs.LeftLaws.{list_of_objects}

-- what the records link is listed, where each id stands once
linked_from : (es : List (ℕ × Object)) (a b : ℕ) (w : Bool)
    → list_all (λ e. not ((a == e.0) && has (listed e.1.body) b) || w) es ≡ true → links (lists_of es) a b ≡ true → w ≡ true
linked_from [] a b w h l = absurd (both_ways false refl l)
linked_from (e ∷ es) a b w h l =
    let both : ((not ((a == e.0) && has (listed e.1.body) b) || w) ≡ true)
    × (list_all (λ e. not ((a == e.0) && has (listed e.1.body) b) || w) es ≡ true) =
    and_parts (not ((a == e.0) && has (listed e.1.body) b) || w)
    (list_all (λ e. not ((a == e.0) && has (listed e.1.body) b) || w) es) h in
    elim (or_cases ((a == e.0) && has (listed e.1.body) b) (links (lists_of es) a b) l) [
      | inl here ↦ held ((a == e.0) && has (listed e.1.body) b) w here both.0
      | inr there ↦ linked_from es a b w both.1 there
    ]
  where
    held : (p w : Bool) → p ≡ true → (not p || w) ≡ true → w ≡ true
    held true w is h = h
    held false w is h = absurd (both_ways false refl is)

listed_if : (s : State) (a b : ℕ) → ids_rise s.objects ≡ true → links (lists_of s.objects) a b ≡ true
    → has (list_at s a) b ≡ true
listed_if s a b rise l =
    linked_from s.objects a b (has (list_at s a) b)
    (all_from (λ q y. not ((a == q) && has (listed y.body) b) || has (list_at s a) b) s.objects rise
    (λ q y at. either (a == q) (has (listed y.body) b) (has (list_at s a) b)
    (λ on. ap (λ v. has (of_object [] (λ z. listed z.body) v) b) (ap (object_at s) (eqb-true a q on) ∙ at)))) l
  where
    either : (p h w : Bool) → (p ≡ true → w ≡ h) → (not (p && h) || w) ≡ true
    either false h w f = refl
    either true false w f = refl
    either true true w f = sym (subst (λ v. true ≡ v) (sym (f refl)) refl)

-- what is no container lists nothing
plain_lists : (s : State) (o b : ℕ) → is_kind_at s kinds.Container o ≡ false → has (list_at s o) b ≡ false
plain_lists s o b plain = by (object_at s o) plain
  where
    by_body : (y : body.Body) → (kind_number (kind_of y) == kind_number kinds.Container) ≡ false → has (listed y) b ≡ false
    by_body (is.Container avoid list) h = absurd (both_ways true h refl)
    by_body (is.Segment bytes) h = refl
    by_body (is.AddressSpace slots) h = refl
    by_body (is.Thread t) h = refl
    by_body (is.Gate g) h = refl
    by_body (is.Device packets) h = refl

    by : (v : Option Object) → of_object false (is_kind kinds.Container) v ≡ false
        → has (of_object [] (λ x. listed x.body) v) b ≡ false
    by None h = refl
    by (Some x) h = by_body x.body h

-- each id but o is listed where it was, and o lists nothing
record ListAlike (s n : State) (o : ℕ) : Type 0 where
  rise : ids_rise s.objects ≡ true
  same : (a b : ℕ) → b ≢ o → has (list_at n a) b ≡ has (list_at s a) b
  none : (b : ℕ) → has (list_at s o) b ≡ false

-- so a path to another id stays
leads_still : (s n : State) (o : ℕ) → ListAlike s n o → (a : ℕ) (path : List ℕ) (q : ℕ) → q ≢ o
    → Leads (lists_of s.objects) a path q → Leads (lists_of n.objects) a path q
leads_still s n o k a [] q off h = h
leads_still s n o k a (b ∷ path) q off h =
    (linked (apart path h.1), leads_still s n o k b path q off h.1)
  where
    linked : b ≢ o → links (lists_of n.objects) a b ≡ true
    linked other =
        links_of_list (lists_of n.objects) a b
        (ap (λ (l : List ℕ). has l b) (list_of_objects n.objects a) ∙ k.same a b other ∙ listed_if s a b k.rise h.0)

    apart : (path : List ℕ) → Leads (lists_of s.objects) b path q → b ≢ o
    apart [] is on = off (sym is ∙ on)
    apart (c ∷ path) further on =
        both_ways (has (list_at s o) c) (k.none c)
        (listed_if s o c k.rise (subst (λ (p : ℕ). links (lists_of s.objects) p c ≡ true) on further.0))

live_still : (s n : State) (o : ℕ) → ListAlike s n o → (q : ℕ) → q ≢ o → is_live (lists_of s.objects) q ≡ true
    → is_live (lists_of n.objects) q ≡ true
live_still s n o k q off h =
    let p : IsLive (lists_of s.objects) q = path_from_live (lists_of s.objects) q h in
    live_from_path (lists_of n.objects) q (p.0, leads_still s n o k 1 p.0 q off p.1)

-- d, whose object was x, lists o no more, which is no container
module _ (s : State) (d o : ℕ) (x : Object) (found : object_at s d ≡ Some x) (rise : ids_rise s.objects ≡ true)
    (plain : is_kind_at s kinds.Container o ≡ false) where
  kind_left : (q : ℕ) → is_kind_at (delisted s d o x) kinds.Container q ≡ is_kind_at s kinds.Container q
  kind_left q =
      at_any (of_object false (is_kind kinds.Container)) s d q x (delisting o x) found (kind_same (without o) x)

  has_other : (b : ℕ) → b ≢ o → (ids : List ℕ) → has (without o ids) b ≡ has ids b
  has_other b off ids = has_without o b ids ∙ elim (cases_Bool (o == b)) [
    | inl on ↦ absurd (off (sym (eqb-true o b on)))
    | inr away ↦ ap (λ (v : Bool). has ids b && not v) away ∙ all (has ids b)
  ]
    where
      all : (v : Bool) → (v && true) ≡ v
      all true = refl
      all false = refl

  listed_left : (a b : ℕ) → (a ≡ d → b ≢ o) → has (list_at (delisted s d o x) a) b ≡ has (list_at s a) b
  listed_left a b off =
      at_id (λ v. has (of_object [] (λ z. listed z.body) v) b) s d a x (delisting o x) found
      (λ on. has-relist (without o) b (has_other b (off on)) x.body)

  before : ListAlike s (delisted s d o x) o
  before = record { rise = rise; same = λ a b off. listed_left a b (λ on. off); none = λ b. plain_lists s o b plain }

  after : ListAlike (delisted s d o x) s o
  after = record {
    rise = rise-put d s.objects (delisting o x) ∙ rise;
    same = λ a b off. sym (listed_left a b (λ on. off));
    none = λ b. plain_lists (delisted s d o x) o b (kind_left o ∙ plain);
  }

  -- each container is as live as before
  container_left : (q : ℕ) → is_live_kind (delisted s d o x) kinds.Container q ≡ is_live_kind s kinds.Container q
  container_left q = elim (cases_eq q o) [
    | inl on ↦ none (delisted s d o x) (kind_left q ∙ was on) ∙ sym (none s (was on))
    | inr off ↦ λ j. kind_left q j && live off j
  ]
    where
      was : q ≡ o → is_kind_at s kinds.Container q ≡ false
      was on = ap (is_kind_at s kinds.Container) on ∙ plain

      none : (n : State) → is_kind_at n kinds.Container q ≡ false → is_live_kind n kinds.Container q ≡ false
      none n off = ap (λ (v : Bool). v && is_live (lists_of n.objects) q) off

      either : (a b : Bool) → (a ≡ true → b ≡ true) → (b ≡ true → a ≡ true) → a ≡ b
      either true b f g = sym (f refl)
      either false true f g = g refl
      either false false f g = refl

      live : q ≢ o → is_live (lists_of (delisted s d o x).objects) q ≡ is_live (lists_of s.objects) q
      live off =
          either (is_live (lists_of (delisted s d o x).objects) q) (is_live (lists_of s.objects) q)
          (live_still (delisted s d o x) s o after q off) (live_still s (delisted s d o x) o before q off)

  labels_left : (q : ℕ) → label_at (delisted s d o x) q ≡ label_at s q
  labels_left q = at_any label_read s d q x (delisting o x) found refl

  pub own_left : (t : ℕ) → own_space (delisted s d o x) t ≡ own_space s t
  own_left t =
      at_any space_read s d t x (delisting o x) found (ap (option_map (λ r. r.space)) (thread-relist (without o) x.body))

  -- each other entry opens as before
  entry_left : (e : Entry) → (e.container ≡ d → e.object ≢ o) → SameEntry s (delisted s d o x) e
  entry_left e other = record {
    live = container_left e.container;
    listed = listed_left e.container e.object other;
    container = labels_left e.container;
    object = labels_left e.object;
  }

  row_left : (t i : ℕ) → ((e : Entry) → Through s t i e → e.container ≡ d → e.object ≢ o)
      → translate (delisted s d o x) t i ≡ translate s t i
  row_left t i other =
      row_reads_lem s (delisted s d o x) t i (own_left t) (labels_left t)
      (λ e on. entry_left e (other e on))
      (λ e is. slot_put s d x (delisting o x) found (slots-relist (without o) x.body) e.object i)
      (λ e is. at_any (of_object false (λ z. z.immutable)) s d e.object x (delisting o x) found refl)

  -- a thread that stays shows the same in an address space that stays, and nothing in one that goes
  pub row_rest : (t i : ℕ) (space : Entry) → is_live (lists_of (delisted s d o x).objects) t ≡ true
      → own_space s t ≡ Some space → (space.container ≡ d → space.object ≢ o)
      → (slots_at (restricted (delisted s d o x)) space.object ≡ slots_at s space.object
      → (e : Entry) → Through s t i e → e.container ≡ d → e.object ≢ o)
      → translate (restricted (delisted s d o x)) t i ≡ translate s t i
  row_rest t i space alive own apart other =
      death_keeps_lem (delisted s d o x) t i alive
      ∙ elim (cases_Bool (is_live (lists_of (delisted s d o x).objects) space.object)) [
        | inl stays ↦ row_left t i (other (slots_rest stays))
        | inr goes ↦
            shut_lem (delisted s d o x) t i space (inl (own_left t ∙ own)) (shut goes)
            ∙ sym (shut_lem s t i space (inl own) (sym (opens_left) ∙ shut goes))
      ]
    where
      slots_rest : is_live (lists_of (delisted s d o x).objects) space.object ≡ true
          → slots_at (restricted (delisted s d o x)) space.object ≡ slots_at s space.object
      slots_rest stays =
          ap (of_object [] (λ z. slots_of z.body)) (at_live (delisted s d o x) space.object stays)
          ∙ at_any (of_object [] (λ z. slots_of z.body)) s d space.object x (delisting o x) found
          (slots-relist (without o) x.body)

      opens_left : opens (delisted s d o x) t space ≡ opens s t space
      opens_left = opens_same s (delisted s d o x) t space (labels_left t) (entry_left space apart)

      shut : is_live (lists_of (delisted s d o x).objects) space.object ≡ false → opens (delisted s d o x) t space ≡ false
      shut goes = elim (cases_Bool (opens (delisted s d o x) t space)) [
        | inl is ↦ absurd (both_ways (is_live (lists_of (delisted s d o x).objects) space.object) goes
            (opened_live (delisted s d o x) t space is))
        | inr off ↦ off
      ]
