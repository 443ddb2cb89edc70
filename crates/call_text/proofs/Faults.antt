-- The first faulty line of a text is one.
use Rattle.std.proofs.Common.{◌≡◌, ℕ, ◌+◌, Bool, List, [], ◌∷◌, ◌++◌, length, Option, Some, None}
use Rattle.std.proofs.Common.{suc, refl, ap, ◌∙◌, sym, subst, append_assoc}
use Rattle.std.specs.Prelude.{IsSome}
use Rattle.std.specs.List.{AllByRecursion}
use Rattle.text_words.proofs.OneLemmas.{first_part}
use Rattle.call_text.specs.Text.{run, lines_text, StopsAt, FaultsAt}
use Rattle.call_text.proofs.TextLemmas.{IsGrammar}

module _ {S V : Type 0} (text : V → List ℕ) (Fits : V → Type 0) (next : S → V → Option S)
    (g : IsGrammar text Fits) where
  -- no line that may stand in this state comes next
  abbrev NoMore : S → List ℕ → Type 0
  NoMore s rest = (v : V) (more : List ℕ) → Fits v → IsSome (next s v) → rest ≡ text v ++ 10 ∷ more → ⊥

  some_here : (o : Option S) (vs : List V) (t : S) → run next o vs ≡ Some t → IsSome o
  some_here None vs t e = absurd cc
  some_here (Some s) vs t e = refl

  head_apart : (v : V) (vs : List V) (rest : List ℕ)
      → lines_text text (v ∷ vs) ++ rest ≡ text v ++ 10 ∷ (lines_text text vs ++ rest)
  head_apart v vs rest =
      append_assoc (text v ++ 10 ∷ []) (lines_text text vs) rest
      ∙ append_assoc (text v) (10 ∷ []) (lines_text text vs ++ rest)

  one_stop : (o : Option S) (xs ys : List V) (t u : S) (rest other : List ℕ)
      → AllByRecursion Fits xs → AllByRecursion Fits ys → run next o xs ≡ Some t → run next o ys ≡ Some u
      → lines_text text xs ++ rest ≡ lines_text text ys ++ other → NoMore t rest → NoMore u other
      → (length xs ≡ length ys) × (t ≡ u) × (rest ≡ other)
  one_stop None xs ys t u rest other fx fy rx ry e nx ny = absurd (cc rx)
  one_stop (Some s) [] [] t u rest other fx fy rx ry e nx ny =
      let left : s ≡ t = cc rx in
      let right : s ≡ u = cc ry in
      (refl, sym left ∙ right, e)
  one_stop (Some s) (x ∷ xs) [] t u rest other fx fy rx ry e nx ny =
      let here : s ≡ u = cc in
      absurd (ny x (lines_text text xs ++ rest) fx.0
      (subst (λ z. IsSome (next z x)) here (some_here (next s x) xs t rx))
      (sym e ∙ head_apart x xs rest))
  one_stop (Some s) [] (y ∷ ys) t u rest other fx fy rx ry e nx ny =
      let here : s ≡ t = cc in
      absurd (nx y (lines_text text ys ++ other) fy.0
      (subst (λ z. IsSome (next z y)) here (some_here (next s y) ys u ry))
      (e ∙ head_apart y ys other))
  one_stop (Some s) (x ∷ xs) (y ∷ ys) t u rest other fx fy rx ry e nx ny =
      let k = sym (head_apart x xs rest) ∙ e ∙ head_apart y ys other in
      let p = first_part 10 (text x) (text y) (lines_text text xs ++ rest) (lines_text text ys ++ other)
      (g.lacks_end x fx.0) (g.lacks_end y fy.0) k in
      let same : y ≡ x = sym (g.one x y fx.0 fy.0 p.0) in
      let more = one_stop (next s x) xs ys t u rest other fx.1 fy.1 rx
      (subst (λ z. run next (next s z) ys ≡ Some u) same ry) p.1 nx ny in
      (ap suc more.0, more.1, more.2)

  -- and so are the state and the rest there
  pub stops_once : (ends : S → Bool) (start : S) (bytes : List ℕ) (n m : ℕ) (t u : S) (rest other : List ℕ)
      → StopsAt text Fits next ends start bytes n t rest → StopsAt text Fits next ends start bytes m u other
      → (n ≡ m) × (t ≡ u) × (rest ≡ other)
  stops_once ends start bytes n m t u rest other a b =
      let one = one_stop (Some start) a.before b.before t u rest other a.fit b.fit a.ran b.ran
      (sym a.bytes_are ∙ b.bytes_are) a.no_more b.no_more in
      (a.number ∙ ap (λ z. z + 1) one.0 ∙ sym b.number, one.1, one.2)

  pub faults_once : (ends : S → Bool) (start : S) (bytes : List ℕ) (n m : ℕ)
      → FaultsAt text Fits next ends start bytes n → FaultsAt text Fits next ends start bytes m → n ≡ m
  faults_once ends start bytes n m a b =
      (stops_once ends start bytes n m a.0 b.0 a.1.0 b.1.0 a.1.1 b.1.1).0
