-- The rows of live threads once the dead are gone.
use Rattle.std.proofs.Common.{◌≡◌, ℕ, Bool, true, false, cond, ◌&&◌, ◌==◌, List, [], ◌∷◌}
use Rattle.std.proofs.Common.{Some, None, refl, sym, ◌∙◌, ap, subst, inl, inr, slice_get}
use Rattle.std.specs.List.{filter}
use Rattle.std.specs.Option.{option_map, option_and_then}
use Rattle.std.proofs.lemmas.Bool.{or_cases, and_parts, eqb-true, both_ways}
use Rattle.base.specs.Live.{has, links, Leads, IsLive, is_live}
use Rattle.base.specs.declared.kinds.Kind.TheVariants as kinds
use Rattle.base.proofs.LiveLaw.{path_from_live, live_from_path, or_left, or_right}
use Rattle.label_lattice.specs.LabelRules.{both, visible}
use Rattle.kernel_rules.specs.State.{State, object_at, of_object, lists_of, listed, list_at}
use Rattle.kernel_rules.specs.State.{is_kind, is_kind_at, is_live_kind, observes}
use Rattle.kernel_rules.specs.State.{is_accessible, slots_of, thread_of}
use Rattle.kernel_rules.specs.Step.{restricted}
use Rattle.kernel_rules.specs.Translate.{slot_in, opens, translate}
use Rattle.kernel_rules.specs.Translate.{through_space}
use Rattle.kernel_rules.specs.declared.calls.Entry.{Entry}
use Rattle.kernel_rules.specs.declared.objects.Object.{Object}
use Rattle.kernel_rules.proofs.GrowLaws.{live_grow, live_link}
use Rattle.kernel_rules.proofs.LooseLaws.{links_at, rest, rest_is}
use Rattle.kernel_laws.proofs.Frames.{restricted_at}
use Rattle.kernel_laws.proofs.Depends.{and_same, row_same, usable_same}

-- the records whose id passes
abbrev passing : (ℕ → Bool) → List (ℕ × Object) → List (ℕ × Object)
passing p es = filter (λ e. p e.0) es

-- a link from what passes is still there
links_passing : (p : ℕ → Bool) (es : List (ℕ × Object)) (a b : ℕ) → p a ≡ true
    → links (lists_of es) a b ≡ true → links (lists_of (passing p es)) a b ≡ true
links_passing p [] a b pass h = h
links_passing p (e ∷ es) a b pass h =
    elim (or_cases ((a == e.0) && has (listed e.1.body) b) (links (lists_of es) a b) h) [
      | inl here ↦
          let both : ((a == e.0) ≡ true) × (has (listed e.1.body) b ≡ true) =
          and_parts (a == e.0) (has (listed e.1.body) b) here in
          let on : p e.0 ≡ true = subst (λ k. p k ≡ true) (eqb-true a e.0 both.0) pass in
          subst (λ v. links (lists_of (cond v (e ∷ passing p es) (passing p es))) a b ≡ true) (sym on)
          (or_left ((a == e.0) && has (listed e.1.body) b) (links (lists_of (passing p es)) a b) here)
      | inr there ↦ elim (p e.0)
          as (λ v. links (lists_of (cond v (e ∷ passing p es) (passing p es))) a b ≡ true) [
            | true ↦ or_right ((a == e.0) && has (listed e.1.body) b) (links (lists_of (passing p es)) a b)
                (links_passing p es a b pass there)
            | false ↦ links_passing p es a b pass there
          ]
    ]

-- and no other is
links_before : (p : ℕ → Bool) (es : List (ℕ × Object)) (a b : ℕ)
    → links (lists_of (passing p es)) a b ≡ true → links (lists_of es) a b ≡ true
links_before p [] a b h = h
links_before p (e ∷ es) a b h =
    elim (p e.0)
    as (λ v. links (lists_of (cond v (e ∷ passing p es) (passing p es))) a b ≡ true
    → links (lists_of (e ∷ es)) a b ≡ true) [
      | true ↦ λ l.
          elim (or_cases ((a == e.0) && has (listed e.1.body) b) (links (lists_of (passing p es)) a b) l) [
            | inl here ↦ or_left ((a == e.0) && has (listed e.1.body) b) (links (lists_of es) a b) here
            | inr there ↦ or_right ((a == e.0) && has (listed e.1.body) b) (links (lists_of es) a b)
                (links_before p es a b there)
          ]
      | false ↦ λ l. or_right ((a == e.0) && has (listed e.1.body) b) (links (lists_of es) a b)
          (links_before p es a b l)
    ] h

leads_passing : (es : List (ℕ × Object)) (a : ℕ) (path : List ℕ) (o : ℕ) → is_live (lists_of es) a ≡ true
    → Leads (lists_of es) a path o → Leads (lists_of (passing (is_live (lists_of es)) es)) a path o
leads_passing es a [] o live h = h
leads_passing es a (b ∷ path) o live h = (
  links_passing (is_live (lists_of es)) es a b live h.0,
  leads_passing es b path o (live_link (lists_of es) a b live h.0) h.1,
)

live_passing : (es : List (ℕ × Object)) (o : ℕ) → is_live (lists_of es) o ≡ true
    → is_live (lists_of (passing (is_live (lists_of es)) es)) o ≡ true
live_passing es o h =
    let p : IsLive (lists_of es) o = path_from_live (lists_of es) o h in
    live_from_path (lists_of (passing (is_live (lists_of es)) es)) o
    (p.0, leads_passing es 1 p.0 o (live_from_path (lists_of es) 1 ([], refl)) p.1)

-- an id is live among the live where it was
pub still_live : (s : State) (o : ℕ)
    → is_live (lists_of (restricted s).objects) o ≡ is_live (lists_of s.objects) o
still_live s o =
    ap (λ n. is_live (lists_of n.objects) o) (rest_is s)
    ∙ either (is_live (lists_of (rest s).objects) o) (is_live (lists_of s.objects) o)
    (live_grow (lists_of (rest s).objects) (lists_of s.objects)
    (links_before (is_live (lists_of s.objects)) s.objects) o)
    (live_passing s.objects o)
  where
    either : (a b : Bool) → (a ≡ true → b ≡ true) → (b ≡ true → a ≡ true) → a ≡ b
    either true b f g = sym (f refl)
    either false true f g = g refl
    either false false f g = refl

-- what is live is recorded as before
pub at_live : (s : State) (o : ℕ) → is_live (lists_of s.objects) o ≡ true
    → object_at (restricted s) o ≡ object_at s o
at_live s o live = restricted_at s o ∙ ap (λ b. cond b (object_at s o) None) live

-- what a live container lists is live
pub listed_live : (s : State) (d o : ℕ) → is_live (lists_of s.objects) d ≡ true
    → has (list_at s d) o ≡ true → is_live (lists_of s.objects) o ≡ true
listed_live s d o live h =
    elim (object_at s d)
    as (λ v. object_at s d ≡ v → has (of_object [] (λ x. listed x.body) v) o ≡ true
    → is_live (lists_of s.objects) o ≡ true) [
      | None ↦ λ is l. absurd (both_ways false refl l)
      | Some x ↦ λ is l. live_link (lists_of s.objects) d o live (links_at d o s.objects x is l)
    ] refl h

-- what an entry opens to is live
pub opened_live : (s : State) (t : ℕ) (e : Entry) → opens s t e ≡ true
    → is_live (lists_of s.objects) e.object ≡ true
opened_live s t e h =
    let first : ((is_accessible s t e.container && has (list_at s e.container) e.object) ≡ true)
    × (observes s t e.object ≡ true) =
    and_parts (is_accessible s t e.container && has (list_at s e.container) e.object)
    (observes s t e.object) h in
    let second : (is_accessible s t e.container ≡ true)
    × (has (list_at s e.container) e.object ≡ true) =
    and_parts (is_accessible s t e.container) (has (list_at s e.container) e.object) first.0 in
    let third : (is_live_kind s kinds.Container e.container ≡ true)
    × (observes s t e.container ≡ true) =
    and_parts (is_live_kind s kinds.Container e.container) (observes s t e.container) second.0 in
    let fourth : (is_kind_at s kinds.Container e.container ≡ true)
    × (is_live (lists_of s.objects) e.container ≡ true) =
    and_parts (is_kind_at s kinds.Container e.container) (is_live (lists_of s.objects) e.container) third.0
    in
    listed_live s e.container e.object fourth.1 second.1

module _ (s : State) (t : ℕ) (alive : is_live (lists_of s.objects) t ≡ true) where
  own : object_at (restricted s) t ≡ object_at s t
  own = at_live s t alive

  -- an entry opens as before
  opens_rest : (e : Entry) → opens (restricted s) t e ≡ opens s t e
  opens_rest e =
      elim (is_live (lists_of s.objects) e.container)
      as (λ v. is_live (lists_of s.objects) e.container ≡ v → opens (restricted s) t e ≡ opens s t e) [
        | true ↦ λ live.
            let at : object_at (restricted s) e.container ≡ object_at s e.container =
            at_live s e.container live in
            and_same
            (is_accessible (restricted s) t e.container && has (list_at (restricted s) e.container) e.object)
            (is_accessible s t e.container && has (list_at s e.container) e.object)
            (observes (restricted s) t e.object) (observes s t e.object)
            (λ i. of_object false (is_kind kinds.Container) (at i) && still_live s e.container i
            && both visible (option_map (λ x. x.label) (at i)) (option_map (λ x. x.label) (own i))
            && has (of_object [] (λ x. listed x.body) (at i)) e.object)
            (λ opened.
            let in' : is_live (lists_of s.objects) e.object ≡ true =
            listed_live s e.container e.object live
            (and_parts (is_accessible s t e.container) (has (list_at s e.container) e.object) opened).1 in
            let on : object_at (restricted s) e.object ≡ object_at s e.object = at_live s e.object in' in
            (λ i. both visible (option_map (λ x. x.label) (on i)) (option_map (λ x. x.label) (own i))))
        | false ↦ λ dead.
            shut (is_kind_at (restricted s) kinds.Container e.container)
            (is_live (lists_of (restricted s).objects) e.container)
            (observes (restricted s) t e.container) (has (list_at (restricted s) e.container) e.object)
            (observes (restricted s) t e.object) (still_live s e.container ∙ dead)
            ∙ sym (shut (is_kind_at s kinds.Container e.container) (is_live (lists_of s.objects) e.container)
            (observes s t e.container) (has (list_at s e.container) e.object) (observes s t e.object) dead)
      ] refl
    where
      shut : (k l a h b : Bool) → l ≡ false → (k && l && a && h && b) ≡ false
      shut true l a h b is = ap (λ v. v && a && h && b) is
      shut false l a h b is = refl

  pub death_keeps : (i : ℕ) → translate (restricted s) t i ≡ translate s t i
  death_keeps i =
      row_same s (restricted s) t i
      (ap (λ v. option_map (λ r. r.space) (option_and_then (λ x. thread_of x.body) v)) own)
      (λ e is. opens_rest e)
      (λ e is opened. ap (λ v. slot_in (slice_get (of_object [] (λ x. slots_of x.body) v) i))
      (at_live s e.object (opened_live s t e opened)))
      (λ m is. opens_rest m.entry)
      (λ m is opened.
      let on : object_at (restricted s) m.entry.object ≡ object_at s m.entry.object =
      at_live s m.entry.object (opened_live s t m.entry opened) in
      usable_same s (restricted s) t m (ap (option_map (λ x. x.label)) own)
      (ap (option_map (λ x. x.label)) on) (ap (of_object false (λ x. x.immutable)) on))

pub death_keeps_lem : (s : State) (t i : ℕ) → is_live (lists_of s.objects) t ≡ true
    → translate (restricted s) t i ≡ translate s t i
death_keeps_lem s t i alive = death_keeps s t alive i

pub dead_have_none_lem : (s : State) (t i : ℕ) → is_live (lists_of s.objects) t ≡ false
    → translate (restricted s) t i ≡ None
unfolding translate
dead_have_none_lem s t i dead =
    ap (λ v. through_space (restricted s) t i
    (option_map (λ r. r.space) (option_and_then (λ x. thread_of x.body) v)))
    (restricted_at s t ∙ ap (λ b. cond b (object_at s t) None) dead)
