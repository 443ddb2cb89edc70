-- What the visitor has been handed, and the first of a list.
use Rattle.std.proofs.Common.{inl, inr, ◌≡◌, ℕ, List, [], ◌∷◌, ◌++◌, Some, None, refl, sym, ap, ap₂, ◌∙◌, subst, arith}
use Rattle.std.specs.Prelude.{slice_get}
use Rattle.std.proofs.lemmas.List.{append-nil, map-append}
use Rattle.containers.specs.Lists.{Lists, cells_at, StandsAt}
use Rattle.containers.specs.Cells.{Stands}
use Rattle.containers.specs.Visits.{Event, Step, Follows, IsTold, links_in, objects_in, place_of, named, named_one, object_ids}
use Rattle.containers.specs.declared.visitor.Located.{Located}
use Rattle.base.specs.Counts.{Counts, probed}

-- a read is no scan
pub read_scans : (m n : Counts) → n ≡ probed 1 m → n.scans ≡ m.scans
read_scans m n e = ap (λ (x : Counts). x.scans) e

pub first_stands : (r : List Lists) (family head cell : ℕ) → Some cell ≡ slice_get (cells_at r family head) 0 → Stands r family head cell
first_stands r family head cell e = record { place = 0; stands = first_of (cells_at r family head) e }
  where
    none_some : (c : ℕ) → None ≡ Some c → ⊥
    none_some c h = cc

    first_of : (xs : List ℕ) → Some cell ≡ slice_get xs 0 → StandsAt xs 0 cell
    first_of [] h = absurd (none_some cell (sym h))
    first_of (x ∷ xs) h = let same : x ≡ cell = cc in record { within = omega arith; is = same }

pub none_stands : (r : List Lists) (family head : ℕ) → None ≡ slice_get (cells_at r family head) 0 → (c : ℕ) → Stands r family head c → ⊥
none_stands r family head e c s = none_of (cells_at r family head) e s.place s.stands
  where
    none_some : (x : ℕ) → None ≡ Some x → ⊥
    none_some x h = cc

    none_of : (xs : List ℕ) → None ≡ slice_get xs 0 → (k : ℕ) → StandsAt xs k c → ⊥
    none_of [] h k st = omega (arith, st.within)
    none_of (x ∷ xs) h k st = none_some x h

links_push : (es : List Event) (e : Event) → links_in (es ++ e ∷ []) ≡ links_in es ++ links_in (e ∷ [])
links_push [] e = refl
links_push (inl p ∷ es) e = ap (λ (xs : List (Located × Located)). p ∷ xs) (links_push es e)
links_push (inr p ∷ es) e = links_push es e

objects_push : (es : List Event) (e : Event) → objects_in (es ++ e ∷ []) ≡ objects_in es ++ objects_in (e ∷ [])
objects_push [] e = refl
objects_push (inl p ∷ es) e = objects_push es e
objects_push (inr p ∷ es) e = ap (λ (xs : List Located). p ∷ xs) (objects_push es e)

module _ {V : Type 0} (link : V → Located → Located → V → Type 0) (object : V → Located → V → Type 0) where
  follows_push : (v : V) (es : List Event) (w : V) (e : Event) (u : V) → Follows link object v es w → Step link object w e u → Follows link object v (es ++ e ∷ []) u
  follows_push v [] w e u f s = (u, subst (λ (x : V). Step link object x e u) (sym f) s, refl)
  follows_push v (d ∷ es) w e u f s = (f.0, f.1, follows_push f.0 es w e u f.2 s)

  pub told_none : (v : V) → IsTold link object v v [] []
  told_none v = record { events = []; links_are = refl; objects_are = refl; follows = refl }

  module _ (names : List ℕ) (links : List (ℕ × ℕ)) (objects : List ℕ) (v w u : V) where
    pub told_link : (d o : ℕ) (p q : Located) → p ≡ place_of names d → q ≡ place_of names o → IsTold link object v w (named names links) (named_one names objects) → link w p q u → IsTold link object v u (named names (links ++ (d, o) ∷ [])) (named_one names objects)
    told_link d o p q pe qe told step =
        let e : Event = inl (p, q) in
        record {
          events = told.events ++ inl (p, q) ∷ [];
          links_are =
              links_push told.events (inl (p, q)) ∙ ap (λ (xs : List (Located × Located)). xs ++ (p, q) ∷ []) told.links_are
              ∙ ap₂ (λ (a b : Located). named names links ++ (a, b) ∷ []) pe qe
              ∙ sym (map-append (λ (x : ℕ × ℕ). let y : Located × Located = (place_of names x.0, place_of names x.1) in y) links ((d, o) ∷ []));
          objects_are = objects_push told.events (inl (p, q)) ∙ append-nil (objects_in told.events) ∙ told.objects_are;
          follows = follows_push v told.events w (inl (p, q)) u told.follows step;
        }

    pub told_object : (o : ℕ) (p : Located) → p ≡ place_of names o → IsTold link object v w (named names links) (named_one names objects) → object w p u → IsTold link object v u (named names links) (named_one names (objects ++ o ∷ []))
    told_object o p pe told step = record {
      events = told.events ++ inr p ∷ [];
      links_are = links_push told.events (inr p) ∙ append-nil (links_in told.events) ∙ told.links_are;
      objects_are =
          objects_push told.events (inr p) ∙ ap (λ (xs : List Located). xs ++ p ∷ []) told.objects_are
          ∙ ap (λ (a : Located). named_one names objects ++ a ∷ []) pe
          ∙ sym (map-append (λ (i : ℕ). place_of names i) objects (o ∷ []));
      follows = follows_push v told.events w (inr p) u told.follows step;
    }

    -- one link, and then others
    pub told_first : (d o : ℕ) (p q : Located) → p ≡ place_of names d → q ≡ place_of names o → link v p q w → IsTold link object w u (named names links) (named_one names objects) → IsTold link object v u (named names ((d, o) ∷ links)) (named_one names objects)
    told_first d o p q pe qe step told = record {
      events = inl (p, q) ∷ told.events;
      links_are = ap (λ (xs : List (Located × Located)). (p, q) ∷ xs) told.links_are ∙ ap₂ (λ (a b : Located). (a, b) ∷ named names links) pe qe;
      objects_are = told.objects_are;
      follows = (w, step, told.follows);
    }

-- one id more
pub ids_push : (names objects : List ℕ) (o : ℕ) (p : Located) (dead dead' : List ℕ) → p ≡ place_of names o → dead ≡ object_ids (named_one names objects) → dead' ≡ dead ++ p.id ∷ [] → dead' ≡ object_ids (named_one names (objects ++ o ∷ []))
ids_push names objects o p dead dead' e was is =
    is ∙ ap (λ (xs : List ℕ). xs ++ p.id ∷ []) was ∙ ap (λ (q : Located). object_ids (named_one names objects) ++ q.id ∷ []) e
    ∙ sym (ap object_ids (map-append (λ (x : ℕ). place_of names x) objects (o ∷ [])) ∙ map-append (λ (q : Located). q.id) (named_one names objects) (place_of names o ∷ []))
