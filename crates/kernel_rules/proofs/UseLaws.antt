-- What others use once an object is linked.
use Rattle.std.proofs.Common.{◌≡◌, ℕ, ◌+◌, true, false, cond, ◌==◌, ◌∷◌, [], Some, sum_by, refl, sym, ◌∙◌, ap}
use Rattle.std.proofs.Common.{arith, zero-add, inl, inr}
use Rattle.std.specs.Ordering.{nat_cmp}
use Rattle.std.specs.BTreeMap.{is_at}
use Rattle.std.proofs.lemmas.Bool.{cases_Bool, eqb-true}
use Rattle.std.proofs.lemmas.List.Sums.{sum_by-append}
use Rattle.base.specs.declared.kinds.Kind.TheVariants as kinds
use Rattle.kernel_rules.specs.Changes.{put, changed, listing}
use Rattle.kernel_rules.specs.State.{State, object_at, of_object, is_kind, is_kind_at, listed, own_cost}
use Rattle.kernel_rules.specs.State.{use_of, quota_at}
use Rattle.kernel_rules.specs.declared.objects.Object.{Object}
use Rattle.kernel_rules.proofs.KeptLaws.{at_put}
use Rattle.kernel_rules.proofs.ListingLaws.{container_at, listed-listing, cost-listing}
use Rattle.kernel_rules.proofs.LookupLaws.{at_is, at_self, lookup_put}

-- what d uses is the object's quota more
pub listing_use_here : (s : State) (d o : ℕ) (y : Object) → object_at s d ≡ Some y → is_kind kinds.Container y ≡ true
    → use_of (put s d (listing o y)) d ≡ use_of s d + quota_at s o
listing_use_here s d o y found kind =
    let at : object_at (put s d (listing o y)) d ≡ Some (listing o y) =
    lookup_put d d s.objects y (listing o y) found
    ∙ ap (λ b. cond b (Some (listing o y)) (object_at s d)) (at_self d) in
    let before : use_of s d ≡ own_cost y.body + sum_by (quota_at s) (listed y.body)
    = (λ i. of_object 0 (λ w. own_cost w.body) (found i)
    + sum_by (quota_at s) (of_object [] (λ w. listed w.body) (found i))) in
    let after : use_of (put s d (listing o y)) d
    ≡ own_cost y.body + (sum_by (quota_at s) (listed y.body) + quota_at s o)
    = (λ i. of_object 0 (λ w. own_cost w.body) (at i)
    + sum_by (quota_at (put s d (listing o y))) (of_object [] (λ w. listed w.body) (at i)))
    ∙ (λ i. cost-listing y o i
    + sum_by (λ k. at_put 0 (λ w. w.quota) s d k y (listing o y) found refl i) (listed-listing y o kind i))
    ∙ ap (λ n. own_cost y.body + n)
    (sum_by-append (quota_at s) (listed y.body) (o ∷ [])
    ∙ ap (λ n. sum_by (quota_at s) (listed y.body) + n) (zero-add (quota_at s o))) in
    omega arith

-- and what others use is the same
pub listing_use_other : (s : State) (d o : ℕ) (y : Object) → object_at s d ≡ Some y → (q : ℕ)
    → is_at (nat_cmp q) d ≡ false → use_of (put s d (listing o y)) q ≡ use_of s q
listing_use_other s d o y found q far =
    let at : object_at (put s d (listing o y)) q ≡ object_at s q =
    lookup_put d q s.objects y (listing o y) found
    ∙ ap (λ b. cond b (Some (listing o y)) (object_at s q)) far in
    (λ i. of_object 0 (λ w. own_cost w.body) (at i)
    + sum_by (λ k. at_put 0 (λ w. w.quota) s d k y (listing o y) found refl i)
    (of_object [] (λ w. listed w.body) (at i)))

-- once a container lists an object more, it uses the object's quota more, and others what they used
pub listing_use : (s : State) (d o : ℕ) → is_kind_at s kinds.Container d ≡ true → (q : ℕ)
    → use_of (changed s d (listing o)) q ≡ use_of s q + cond (q == d) (quota_at s o) 0
listing_use s d o kind q =
    let at = container_at s d kind in
    ap (λ v. use_of (of_object s (λ x. put s d (listing o x)) v) q) at.found
    ∙ elim (cases_Bool (q == d)) [
      | inl is ↦
          let same : q ≡ d = eqb-true q d is in
          ap (use_of (put s d (listing o at.object))) same
          ∙ listing_use_here s d o at.object at.found at.kind
          ∙ (λ i. use_of s (sym same i) + cond (sym is i) (quota_at s o) 0)
      | inr off ↦
          listing_use_other s d o at.object at.found q (at_is q d ∙ off)
          ∙ none (use_of s q) ∙ (λ i. use_of s q + cond (sym off i) (quota_at s o) 0)
    ]
  where
    none : (n : ℕ) → n ≡ n + 0
    none n = omega arith
