-- Joining at a byte that stands in no part, and splitting there.
use Rattle.std.proofs.Common.{◌≡◌, eq-eqb, ℕ, Bool, true, false, cond, eqb, ◌&&◌, List, [], ◌∷◌, ◌++◌, refl, ap, ◌∙◌}
use Rattle.std.specs.List.{slice_split, join_with_byte}
use Rattle.text_words.specs.Lacks.{lacks, AllLack}

pub cond_false : (b t : Bool) → cond b false t ≡ true → (b ≡ false) × (t ≡ true)
cond_false true t e = absurd cc
cond_false false t e = (refl, e)

pub both_true : (a b : Bool) → (a && b) ≡ true → (a ≡ true) × (b ≡ true)
both_true true b e = (refl, e)
both_true false b e = absurd cc

-- one part alone
pub split_one : (c : ℕ) (w : List ℕ) → lacks c w ≡ true → slice_split (λ b. eqb b c) w ≡ w ∷ []
split_one c [] h = refl
split_one c (x ∷ xs) h = let p = cond_false (eqb x c) (lacks c xs) h in rw (p.0, split_one c xs p.1) refl

pub split_first : (c : ℕ) (w rest : List ℕ) → lacks c w ≡ true → slice_split (λ b. eqb b c) (w ++ c ∷ rest) ≡ w ∷ slice_split (λ b. eqb b c) rest
split_first c [] rest h = rw (eq-eqb c c refl) refl
split_first c (x ∷ xs) rest h = let p = cond_false (eqb x c) (lacks c xs) h in rw (p.0, split_first c xs rest p.1) refl

pub split_join : (c : ℕ) (w : List ℕ) (ws : List (List ℕ)) → AllLack c (w ∷ ws) → slice_split (λ b. eqb b c) (join_with_byte c (w ∷ ws)) ≡ w ∷ ws
split_join c w [] h = split_one c w h.0
split_join c w (v ∷ ws) h = split_first c w (join_with_byte c (v ∷ ws)) h.0 ∙ ap (λ (x : List (List ℕ)). w ∷ x) (split_join c v ws h.1)
