-- All objects of rising ids, one after another.
use Rattle.std.proofs.Common.{◌≡◌, ◌<◌, ◌≤◌, ◌+◌, ℕ, zero, suc, true, false, cond, nat_lt, List, [], ◌∷◌, ◌++◌, length, take, Option, Some, None, is_some, refl, sym, ◌∙◌, ap, subst, arith}
use Rattle.std.specs.List.{list_all, slice_get}
use Rattle.std.specs.Ordering.{nat_cmp}
use Rattle.std.specs.Map.{lookup}
use Rattle.std.specs.BTreeMap.{is_at, insert_entry}
use Rattle.std.proofs.lemmas.Bool.{and_parts, and_from, ltb-true}
use Rattle.std.proofs.lemmas.List.{length-append, take_all}
use Rattle.kernel_rules.specs.Scratch.{ids_of}
use Rattle.kernel_rules.specs.State.{of_object}
use Rattle.kernel_rules.specs.WellFormed.{ids_rise}
use Rattle.kernel_rules.specs.declared.objects.Object.{Object}
use Rattle.kernel_rules.proofs.LookupLaws.{at_self, insert_last}
use Rattle.kernel_rules.proofs.RecordLaws.{same_id}

-- what stands at a place past the first one is above it
above_first : (a : ℕ) (es : List (ℕ × Object)) (i q : ℕ) → list_all (λ f. nat_lt a f.0) es ≡ true
    → slice_get (ids_of es) i ≡ Some q → nat_lt a q ≡ true
above_first a [] i q above at = absurd (cc)
above_first a (e ∷ es) zero q above at =
    let same : e.0 ≡ q = cc in
    subst (λ n. nat_lt a n ≡ true) same (and_parts (nat_lt a e.0) (list_all (λ f. nat_lt a f.0) es) above).0
above_first a (e ∷ es) (suc i) q above at =
    above_first a es i q (and_parts (nat_lt a e.0) (list_all (λ f. nat_lt a f.0) es) above).1 at

-- what is above another is looked up past it
passed : (a q : ℕ) → nat_lt a q ≡ true → is_at (nat_cmp q) a ≡ false
passed a q less = elim (is_at (nat_cmp q) a) as (λ v. is_at (nat_cmp q) a ≡ v → v ≡ false) [
  | false ↦ λ is. refl
  | true ↦ λ is.
      let same : q ≡ a = same_id q a is in
      let below : a < q = ltb-true a q less in
      absurd (omega arith)
] refl

-- the object at a place is the one that its id is looked up as, after those before
pub record Placed (es : List (ℕ × Object)) (i q : ℕ) (o : Option Object) : Type 0 where
  pub there : is_some o ≡ true
  pub next : (x : Object) → o ≡ Some x → take (suc i) es ≡ take i es ++ (q, x) ∷ []
  pub above : list_all (λ e. nat_lt e.0 q) (take i es) ≡ true
  pub within : i < length es

pub placed : (es : List (ℕ × Object)) (i q : ℕ) → ids_rise es ≡ true → slice_get (ids_of es) i ≡ Some q
    → Placed es i q (lookup (is_at (nat_cmp q)) es)
placed [] i q rise at = absurd (cc)
placed (e ∷ es) zero q rise at =
    let same : e.0 ≡ q = cc in
    let on : is_at (nat_cmp q) e.0 ≡ true = ap (is_at (nat_cmp q)) same ∙ at_self q in
    let found : lookup (is_at (nat_cmp q)) (e ∷ es) ≡ Some e.1
    = ap (λ b. cond b (Some e.1) (lookup (is_at (nat_cmp q)) es)) on in
    record {
      there = ap is_some found;
      next = λ x is.
          let here : e.1 ≡ x = cc in
          (λ j. (same j, here j) ∷ []);
      above = refl;
      within = omega arith;
    }
placed (e ∷ es) (suc i) q rise at =
    let parts = and_parts (list_all (λ f. nat_lt e.0 f.0) es) (ids_rise es) rise in
    let less : nat_lt e.0 q ≡ true = above_first e.0 es i q parts.0 at in
    let rest : Placed es i q (lookup (is_at (nat_cmp q)) es) = placed es i q parts.1 at in
    let past : lookup (is_at (nat_cmp q)) (e ∷ es) ≡ lookup (is_at (nat_cmp q)) es
    = ap (λ b. cond b (Some e.1) (lookup (is_at (nat_cmp q)) es)) (passed e.0 q less) in
    record {
      there = ap is_some past ∙ rest.there;
      next = λ x is. ap (λ t. e ∷ t) (rest.next x (sym past ∙ is));
      above = and_from (nat_lt e.0 q) (list_all (λ f. nat_lt f.0 q) (take i es)) less rest.above;
      within = (let w : i < length es = rest.within in omega arith);
    }

-- the walk has one object more
pub record Walked (es done new : List (ℕ × Object)) : Type 0 where
  pub front : new ≡ take (length new) es
  pub more : length new ≡ length done + 1
  pub within : length done < length es

pub walked : (es done new : List (ℕ × Object)) (n q : ℕ) → ids_rise es ≡ true → done ≡ take (length done) es
    → n ≡ length done → Some q ≡ slice_get (ids_of es) n
    → new ≡ of_object done (insert_entry nat_cmp done q) (lookup (is_at (nat_cmp q)) es) → Walked es done new
walked es done new n q rise front place at added =
    let here : Placed es (length done) q (lookup (is_at (nat_cmp q)) es) =
    placed es (length done) q rise (ap (slice_get (ids_of es)) (sym place) ∙ sym at) in
    elim (lookup (is_at (nat_cmp q)) es)
    as (λ v. lookup (is_at (nat_cmp q)) es ≡ v → is_some v ≡ true
    → new ≡ of_object done (insert_entry nat_cmp done q) v → Walked es done new) [
      | None ↦ λ found there is. absurd (cc)
      | Some x ↦ λ found there is.
          let last : new ≡ done ++ (q, x) ∷ [] =
          is ∙ insert_last q done x (ap (list_all (λ e. nat_lt e.0 q)) front ∙ here.above) in
          let long : length new ≡ length done + 1 = ap length last ∙ length-append done ((q, x) ∷ []) in
          let suc_is : suc (length done) ≡ length new = omega arith in
          record {
            front = last ∙ ap (λ l. l ++ (q, x) ∷ []) front ∙ sym (here.next x found) ∙ ap (λ n. take n es) suc_is;
            more = long;
            within = here.within;
          }
    ] refl here.there added

-- the walk ends where it has all
pub walked_all : (es done : List (ℕ × Object)) (n : ℕ) → done ≡ take (length done) es → n ≡ length done
    → slice_get (ids_of es) n ≡ None → done ≡ es
walked_all es done n front place past =
    front ∙ take_all (length done) es (subst (λ k. length es ≤ k) place (ends es n past))
  where
    ends : (es : List (ℕ × Object)) (n : ℕ) → slice_get (ids_of es) n ≡ None → length es ≤ n
    ends [] n past = omega arith
    ends (e ∷ es) zero past = absurd (cc)
    ends (e ∷ es) (suc n) past = let rest : length es ≤ n = ends es n past in omega arith
