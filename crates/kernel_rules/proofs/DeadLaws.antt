-- What is reached, and that the live part is the same once a dead record is gone.
use Rattle.std.proofs.Common.{◌≡◌, ◌≢◌, ℕ, suc, Bool, true, false, cond, ◌&&◌, ◌||◌, ◌==◌, List, []}
use Rattle.std.proofs.Common.{◌∷◌, length, refl, sym, ◌∙◌, ap, subst, inl, inr}
use Rattle.std.specs.List.{filter, flat_map}
use Rattle.std.specs.Ordering.{nat_cmp}
use Rattle.std.specs.Map.{remove_entry}
use Rattle.std.specs.BTreeMap.{is_at}
use Rattle.std.proofs.lemmas.Bool.{and_parts, or_cases, both_ways, eqb-true}
use Rattle.std.proofs.lemmas.List.Folds.{list_any-append}
use Rattle.base.specs.Live.{has, links, Leads, IsLive, reached, is_live}
use Rattle.base.proofs.LiveLaw.{path_from_live, live_from_path, or_left, or_right}
use Rattle.kernel_rules.specs.State.{State, listed, lists_of, live_part}
use Rattle.kernel_rules.specs.Step.{restricted}
use Rattle.kernel_rules.specs.declared.objects.Object.{Object}
use Rattle.kernel_rules.proofs.GrowLaws.{Grows, live_grow, live_link}
use Rattle.kernel_rules.proofs.RecordLaws.{same_id}

-- one of these records has its id among those given, and lists o
abbrev pub is_listed_from : List ℕ → ℕ → List (ℕ × Object) → Bool
is_listed_from ids o [] = false
is_listed_from ids o (e ∷ es) = (has (listed e.1.body) o && has ids e.0) || is_listed_from ids o es

-- what is reached by one entry more is the root, or is listed from what was reached
pub reached_further : (n : ℕ) (es : List (ℕ × Object)) (o : ℕ)
    → has (reached (suc n) (lists_of es)) o
    ≡ ((o == 1) || is_listed_from (reached n (lists_of es)) o es)
reached_further n es o = ap (λ b. (o == 1) || b) (spread (reached n (lists_of es)) es)
  where
    swapped : (a b : Bool) (l : List ℕ) → has l o ≡ b → has (cond a l []) o ≡ (b && a)
    swapped true true l h = h
    swapped true false l h = h
    swapped false true l h = refl
    swapped false false l h = refl

    spread : (ids : List ℕ) (es : List (ℕ × Object))
        → has (flat_map (λ e. cond (has ids e.0) e.1 []) (lists_of es)) o ≡ is_listed_from ids o es
    spread ids [] = refl
    spread ids (e ∷ es) =
        list_any-append (λ i. o == i) (cond (has ids e.0) (listed e.1.body) [])
        (flat_map (λ e. cond (has ids e.0) e.1 []) (lists_of es))
        ∙ (λ i. swapped (has ids e.0) (has (listed e.1.body) o) (listed e.1.body) refl i || spread ids es i)

-- how many lists there are
pub length-lists_of : (es : List (ℕ × Object)) → length (lists_of es) ≡ length es
length-lists_of [] = refl
length-lists_of (e ∷ es) = ap suc (length-lists_of es)

-- the records without the one of k
abbrev pub gone : ℕ → List (ℕ × Object) → List (ℕ × Object)
gone k es = remove_entry (is_at (nat_cmp k)) es

links_before : (k : ℕ) (es : List (ℕ × Object)) → Grows (lists_of (gone k es)) (lists_of es)
links_before k [] a b h = h
links_before k (e ∷ es) a b h =
    elim (is_at (nat_cmp k) e.0) as (λ v. links (lists_of (cond v es (e ∷ gone k es))) a b ≡ true
    → links (lists_of (e ∷ es)) a b ≡ true) [
      | true ↦ λ l. or_right ((a == e.0) && has (listed e.1.body) b) (links (lists_of es) a b) l
      | false ↦ λ l.
          elim (or_cases ((a == e.0) && has (listed e.1.body) b) (links (lists_of (gone k es)) a b) l) [
            | inl here ↦ or_left ((a == e.0) && has (listed e.1.body) b) (links (lists_of es) a b) here
            | inr there ↦ or_right ((a == e.0) && has (listed e.1.body) b) (links (lists_of es) a b)
                (links_before k es a b there)
          ]
    ] h

links_after : (k : ℕ) (es : List (ℕ × Object)) (a b : ℕ) → a ≢ k → links (lists_of es) a b ≡ true
    → links (lists_of (gone k es)) a b ≡ true
links_after k [] a b other h = h
links_after k (e ∷ es) a b other h =
    elim (is_at (nat_cmp k) e.0)
    as (λ v. is_at (nat_cmp k) e.0 ≡ v → links (lists_of (cond v es (e ∷ gone k es))) a b ≡ true) [
      | true ↦ λ is. elim (or_cases ((a == e.0) && has (listed e.1.body) b) (links (lists_of es) a b) h) [
        | inl here ↦
            let on : a ≡ e.0 = eqb-true a e.0 (and_parts (a == e.0) (has (listed e.1.body) b) here).0 in
            absurd (other (on ∙ sym (same_id k e.0 is)))
        | inr there ↦ there
      ]
      | false ↦ λ is. elim (or_cases ((a == e.0) && has (listed e.1.body) b) (links (lists_of es) a b) h) [
        | inl here ↦
            or_left ((a == e.0) && has (listed e.1.body) b) (links (lists_of (gone k es)) a b) here
        | inr there ↦ or_right ((a == e.0) && has (listed e.1.body) b) (links (lists_of (gone k es)) a b)
            (links_after k es a b other there)
      ]
    ] refl

-- a path from what is live passes no dead record
leads_after : (k : ℕ) (es : List (ℕ × Object)) → is_live (lists_of es) k ≡ false → (a : ℕ) (path : List ℕ)
    (o : ℕ) → is_live (lists_of es) a ≡ true → Leads (lists_of es) a path o
    → Leads (lists_of (gone k es)) a path o
leads_after k es dead a [] o live h = h
leads_after k es dead a (b ∷ path) o live h =
    let other : a ≢ k = (λ e. both_ways (is_live (lists_of es) k) dead
    (subst (λ j. is_live (lists_of es) j ≡ true) e live)) in (
      links_after k es a b other h.0,
      leads_after k es dead b path o (live_link (lists_of es) a b live h.0) h.1,
    )

same_live : (k : ℕ) (es : List (ℕ × Object)) → is_live (lists_of es) k ≡ false → (o : ℕ)
    → is_live (lists_of (gone k es)) o ≡ is_live (lists_of es) o
same_live k es dead o =
    either (is_live (lists_of (gone k es)) o) (is_live (lists_of es) o)
    (live_grow (lists_of (gone k es)) (lists_of es) (links_before k es) o) still
  where
    still : is_live (lists_of es) o ≡ true → is_live (lists_of (gone k es)) o ≡ true
    still h =
        let p : IsLive (lists_of es) o = path_from_live (lists_of es) o h in
        live_from_path (lists_of (gone k es)) o
        (p.0, leads_after k es dead 1 p.0 o (live_from_path (lists_of es) 1 ([], refl)) p.1)

    either : (a b : Bool) → (a ≡ true → b ≡ true) → (b ≡ true → a ≡ true) → a ≡ b
    either true b f g = sym (f refl)
    either false true f g = g refl
    either false false f g = refl

filter_gone : (p : ℕ → Bool) (k : ℕ) (es : List (ℕ × Object)) → p k ≡ false
    → filter (λ e. p e.0) (gone k es) ≡ filter (λ e. p e.0) es
filter_gone p k [] out = refl
filter_gone p k (e ∷ es) out =
    elim (is_at (nat_cmp k) e.0) as (λ v. is_at (nat_cmp k) e.0 ≡ v
    → filter (λ e. p e.0) (cond v es (e ∷ gone k es)) ≡ filter (λ e. p e.0) (e ∷ es)) [
      | true ↦ λ is. subst (λ v. filter (λ e. p e.0) es ≡ cond v (e ∷ filter (λ e. p e.0) es)
          (filter (λ e. p e.0) es)) (sym (subst (λ j. p j ≡ false) (same_id k e.0 is) out)) refl
      | false ↦ λ is. ap (λ l. cond (p e.0) (e ∷ l) l) (filter_gone p k es out)
    ] refl

-- the live part is the same without a dead record
pub restricted_gone : (s : State) (k : ℕ) → is_live (lists_of s.objects) k ≡ false
    → restricted (record s { objects = gone k s.objects }) ≡ restricted s
unfolding live_part
restricted_gone s k dead =
    (λ i. record s {
      objects = (ap (λ (p : ℕ → Bool). filter (λ e. p e.0) (gone k s.objects))
          (λ j o. same_live k s.objects dead o j)
          ∙ filter_gone (is_live (lists_of s.objects)) k s.objects dead) i;
    })
