-- Walks along the nodes from one node to another.
use Rattle.std.proofs.Common.{◌≡◌, ◌≢◌, ℕ, zero, suc, ◌<◌, List, [], ◌∷◌, ◌++◌, length, get_or, take, drop, refl, sym, ap, ap₂, ◌∙◌, subst, arith}
use Rattle.std.specs.Prelude.{All}
use Rattle.std.proofs.lemmas.List.Elements.{All-head, All-tail}
use Rattle.containers.specs.Chain.{Edge, Segment, walk}

module _ (next prev : List ℕ) where
  -- the walk is cut at a place
  pub segment_split : (a b : ℕ) (xs : List ℕ) (k : ℕ) → k < length xs → Segment next prev a xs b → Segment next prev a (take k xs) (get_or xs k 0) × Segment next prev (get_or xs k 0) (drop (suc k) xs) b
  segment_split a b [] k h s = absurd (omega arith)
  segment_split a b (x ∷ xs) zero h s = s
  segment_split a b (x ∷ xs) (suc k) h s =
      let rest = segment_split x b xs k (omega arith) s.1 in
      ((s.0, rest.0), rest.1)

  pub segment_join : (a b c : ℕ) (xs ys : List ℕ) → Segment next prev a xs b → Segment next prev b ys c → Segment next prev a (xs ++ b ∷ ys) c
  segment_join a b c [] ys s t = (s, t)
  segment_join a b c (x ∷ xs) ys s t = (s.0, segment_join x b c xs ys s.1 t)

  -- the node before the end leads to it
  pub segment_last : (a b : ℕ) (xs : List ℕ) → Segment next prev a xs b → get_or next (get_or prev b 0) 0 ≡ b
  segment_last a b [] s = ap (λ (i : ℕ). get_or next i 0) s.back ∙ s.ahead
  segment_last a b (x ∷ xs) s = segment_last x b xs s.1

  -- the node after the start leads back to it
  pub segment_first : (a b : ℕ) (xs : List ℕ) → Segment next prev a xs b → get_or prev (get_or next a 0) 0 ≡ a
  segment_first a b [] s = ap (λ (i : ℕ). get_or prev i 0) s.ahead ∙ s.back
  segment_first a b (x ∷ xs) s = ap (λ (i : ℕ). get_or prev i 0) s.0.ahead ∙ s.0.back

  -- what holds of each node holds of the node before the end
  pub segment_back : (P : ℕ → Type 0) (a b : ℕ) (xs : List ℕ) → P a → All P xs → Segment next prev a xs b → P (get_or prev b 0)
  segment_back P a b [] p ps s = subst P (sym s.back) p
  segment_back P a b (x ∷ xs) p ps s = segment_back P x b xs (All-head P x xs ps) (All-tail P x xs ps) s.1

  -- and of the node after the start
  pub segment_ahead : (P : ℕ → Type 0) (a b : ℕ) (xs : List ℕ) → P b → All P xs → Segment next prev a xs b → P (get_or next a 0)
  segment_ahead P a b [] p ps s = subst P (sym s.ahead) p
  segment_ahead P a b (x ∷ xs) p ps s = subst P (sym s.0.ahead) (All-head P x xs ps)

  -- the nodes are found by going on from the start
  pub segment_walk : (a b : ℕ) (xs : List ℕ) → Segment next prev a xs b → walk next (length xs) (get_or next a 0) ≡ xs
  segment_walk a b [] s = refl
  segment_walk a b (x ∷ xs) s =
      ap (λ (i : ℕ). i ∷ walk next (length xs) (get_or next i 0)) s.0.ahead
      ∙ ap (λ (ys : List ℕ). x ∷ ys) (segment_walk x b xs s.1)

  -- two walks from one node to another, which they reach at their ends alone, are one
  pub segment_same : (a b : ℕ) (xs ys : List ℕ) → All (λ x. x ≢ b) xs → All (λ x. x ≢ b) ys → Segment next prev a xs b → Segment next prev a ys b → xs ≡ ys
  segment_same a b [] [] p q s t = refl
  segment_same a b [] (y ∷ ys) p q s t = absurd (All-head (λ x. x ≢ b) y ys q (sym t.0.ahead ∙ s.ahead))
  segment_same a b (x ∷ xs) [] p q s t = absurd (All-head (λ x. x ≢ b) x xs p (sym s.0.ahead ∙ t.ahead))
  segment_same a b (x ∷ xs) (y ∷ ys) p q s t =
      let same : y ≡ x = sym t.0.ahead ∙ s.0.ahead in
      let tail = segment_same x b xs ys (All-tail (λ x. x ≢ b) x xs p) (All-tail (λ x. x ≢ b) y ys q) s.1 (subst (λ (i : ℕ). Segment next prev i ys b) same t.1) in
      ap₂ (λ (z : ℕ) (zs : List ℕ). z ∷ zs) (sym same) tail

-- The walk in changed nodes: P holds of each node that is left, Q of each that is reached.
module _ (next prev next' prev' : List ℕ) (P Q : ℕ → Type 0) (keep : (u v : ℕ) → P u → Q v → Edge next prev u v → Edge next' prev' u v) where
  pub segment_to : (b b' : ℕ) → ((u : ℕ) → P u → Edge next prev u b → Edge next' prev' u b') → (a : ℕ) (xs : List ℕ) → P a → All P xs → All Q xs → Segment next prev a xs b → Segment next' prev' a xs b'
  segment_to b b' turn a [] p ps qs s = turn a p s
  segment_to b b' turn a (x ∷ xs) p ps qs s =
      (keep a x p (All-head Q x xs qs) s.0, segment_to b b' turn x xs (All-head P x xs ps) (All-tail P x xs ps) (All-tail Q x xs qs) s.1)

  pub segment_kept : (a b : ℕ) (xs : List ℕ) → P a → Q b → All P xs → All Q xs → Segment next prev a xs b → Segment next' prev' a xs b
  segment_kept a b xs p q = segment_to b b (λ u r. keep u b r q) a xs p
