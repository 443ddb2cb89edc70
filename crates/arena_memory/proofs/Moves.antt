-- A frame that goes from the end of one list to the end of another.
use Rattle.std.proofs.Common.{◌≡◌, ◌≢◌, ℕ, ◌<◌, ◌⊎◌, inl, inr, List, [], ◌∷◌, ◌++◌, length, get_or, set, refl, sym, ap, ◌∙◌, arith, length-append, length-set, get_or-set_same, get_or-set_other}
use Rattle.std.specs.Prelude.{sum_by}
use Rattle.std.proofs.lemmas.Bool.{cases_eq, cases_lt}
use Rattle.std.proofs.lemmas.List.{get_or_append_left, get_or_push}
use Rattle.std.proofs.lemmas.List.Sums.{sum_by-set}
use Rattle.arena_memory.specs.Pages.{IsApart, frame_at}

-- a place of the lists after the move: that of the frame that went, or one of before
pub record WasThere (lists : List (List ℕ)) (i n : ℕ) (f a k : ℕ) : Type 0 where
  pub within : k < length (get_or lists a [])
  pub same : f ≡ frame_at lists a k
  pub stays : a ≡ i → k < n

pub record Came (lists : List (List ℕ)) (j x : ℕ) (f a k : ℕ) : Type 0 where
  pub row : a ≡ j
  pub last : k ≡ length (get_or lists j [])
  pub same : f ≡ x

module _ (lists : List (List ℕ)) (i j x : ℕ) (rest : List ℕ) (li : i < length lists) (lj : j < length lists) (ij : i ≢ j) (was : get_or lists i [] ≡ rest ++ x ∷ []) where
  -- the lists after the move
  abbrev pub moved : List (List ℕ)
  moved = set (set lists i rest) j (get_or lists j [] ++ x ∷ [])

  at_j : get_or moved j [] ≡ get_or lists j [] ++ x ∷ []
  at_j = get_or-set_same (set lists i rest) j _ [] (omega (arith, length-set lists i rest))

  at_i : get_or moved i [] ≡ rest
  at_i = get_or-set_other (set lists i rest) j i _ [] ij ∙ get_or-set_same lists i rest [] li

  beside : (a : ℕ) → a ≢ i → a ≢ j → get_or moved a [] ≡ get_or lists a []
  beside a ai aj = get_or-set_other (set lists i rest) j a _ [] aj ∙ get_or-set_other lists i a rest [] ai

  -- the frame that went stood last
  pub stood : frame_at lists i (length rest) ≡ x
  stood = ap (λ (ys : List ℕ). get_or ys (length rest) 0) was ∙ get_or_push rest x 0 (length rest) refl

  pub stood_within : length rest < length (get_or lists i [])
  stood_within = omega (arith, ap length was, length-append rest (x ∷ []))

  -- where a place of the lists after the move comes from
  pub origin : (a k : ℕ) → k < length (get_or moved a []) → Came lists j x (frame_at moved a k) a k ⊎ WasThere lists i (length rest) (frame_at moved a k) a k
  origin a k lt = elim (cases_eq a j) [
    | inl e ↦
        let row : get_or moved a [] ≡ get_or lists j [] ++ x ∷ [] = ap (λ (b : ℕ). get_or moved b []) e ∙ at_j in
        let old : get_or lists a [] ≡ get_or lists j [] = ap (λ (b : ℕ). get_or lists b []) e in
        elim (cases_lt k (length (get_or lists j []))) [
          | inl less ↦ inr (record {
            within = omega (arith, less, ap length old);
            same = ap (λ (ys : List ℕ). get_or ys k 0) row ∙ get_or_append_left (get_or lists j []) (x ∷ []) 0 k less ∙ ap (λ (ys : List ℕ). get_or ys k 0) (sym old);
            stays = λ h. absurd (ij (sym h ∙ e));
          })
          | inr le ↦
              let at : k ≡ length (get_or lists j []) = omega (arith, lt, ap length row, length-append (get_or lists j []) (x ∷ [])) in
              inl (record {
                row = e;
                last = at;
                same = ap (λ (ys : List ℕ). get_or ys k 0) row ∙ get_or_push (get_or lists j []) x 0 k (sym at);
              })
        ]
    | inr aj ↦ elim (cases_eq a i) [
      | inl e ↦
          let row : get_or moved a [] ≡ rest = ap (λ (b : ℕ). get_or moved b []) e ∙ at_i in
          let old : get_or lists a [] ≡ rest ++ x ∷ [] = ap (λ (b : ℕ). get_or lists b []) e ∙ was in
          let less : k < length rest = omega (arith, lt, ap length row) in
          inr (record {
            within = omega (arith, less, ap length old, length-append rest (x ∷ []));
            same = ap (λ (ys : List ℕ). get_or ys k 0) row ∙ sym (get_or_append_left rest (x ∷ []) 0 k less) ∙ ap (λ (ys : List ℕ). get_or ys k 0) (sym old);
            stays = λ _. less;
          })
      | inr ai ↦
          let row = beside a ai aj in
          inr (record {
            within = omega (arith, lt, ap length row);
            same = ap (λ (ys : List ℕ). get_or ys k 0) row;
            stays = λ e. absurd (ai e);
          })
    ]
  ]

  -- no other place had the frame that went
  alone : IsApart lists → (f a k : ℕ) → WasThere lists i (length rest) f a k → f ≡ x → ⊥
  alone apart f a k w e =
      let one = apart a i k (length rest) w.within stood_within (sym w.same ∙ e ∙ sym stood) in
      let short = w.stays one.0 in
      omega (arith, short, one.1)

  -- so no frame stands in two places after the move
  pub apart_moved : IsApart lists → IsApart moved
  apart_moved apart a b k l ka lb e = elim (origin a k ka) [
    | inl c ↦ elim (origin b l lb) [
      | inl d ↦ (c.row ∙ sym d.row, c.last ∙ sym d.last)
      | inr w ↦ absurd (alone apart _ b l w (sym e ∙ c.same))
    ]
    | inr v ↦ elim (origin b l lb) [
      | inl d ↦ absurd (alone apart _ a k v (e ∙ d.same))
      | inr w ↦ apart a b k l v.within w.within (sym v.same ∙ e ∙ w.same)
    ]
  ]

  -- what holds of all frames holds of them after the move
  pub within_moved : (n : ℕ) → ((a k : ℕ) → k < length (get_or lists a []) → frame_at lists a k < n) → (a k : ℕ) → k < length (get_or moved a []) → frame_at moved a k < n
  within_moved n all a k lt = elim (origin a k lt) [
    | inl c ↦ omega (arith, c.same, stood, all i (length rest) stood_within)
    | inr w ↦ omega (arith, w.same, all a k w.within)
  ]

  -- and there are as many as before
  pub as_many : sum_by length moved ≡ sum_by length lists
  as_many =
      let first = sum_by-set length lists i rest [] li in
      let second = sum_by-set length (set lists i rest) j (get_or lists j [] ++ x ∷ []) [] (omega (arith, length-set lists i rest)) in
      let row : length (get_or (set lists i rest) j []) ≡ length (get_or lists j []) = ap length (get_or-set_other lists i j rest [] (λ e. ij (sym e))) in
      omega (arith, first, second, row, ap length was, length-append rest (x ∷ []), length-append (get_or lists j []) (x ∷ []))
