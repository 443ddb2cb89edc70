-- Bytes in rows of 64.
use Rattle.std.proofs.Common.{◌≡◌, ℕ, zero, suc, ◌≤◌, ◌+◌, ◌*◌, ◌/◌, ◌-◌, List, [], ◌∷◌, ◌++◌, length, take, drop, min, refl, ap, ◌∙◌, sym, subst, arith, append_assoc, length-append, length-drop}
use Rattle.std.specs.List.{AllByRecursion}
use Rattle.std.proofs.lemmas.List.{append-nil, take-append-drop, take_min, drop_min, take_rest, length-take-le}
use Rattle.std.proofs.Math.Seq.{take-append_seam, drop-append_seam}
use Rattle.dump_text.specs.CheckpointLines.{rows, rows_of}
use Rattle.dump_text.specs.Head.{IsFull}

-- rows one after another
abbrev pub joined : List (List ℕ) → List ℕ
joined [] = []
joined (r ∷ rs) = r ++ joined rs

pub joined_push : (rs : List (List ℕ)) (r : List ℕ) → joined (rs ++ r ∷ []) ≡ joined rs ++ r
joined_push [] r = append-nil r
joined_push (x ∷ rs) r = ap (λ (l : List ℕ). x ++ l) (joined_push rs r) ∙ sym (append_assoc x (joined rs) r)

rows_joined : (n : ℕ) (bytes : List ℕ) → length bytes ≤ 64 * n → joined (rows n bytes) ≡ bytes
rows_joined zero [] le = refl
rows_joined zero (b ∷ bytes) le = absurd (omega (arith, le))
rows_joined (suc n) bytes le =
    let short : length (drop 64 bytes) ≤ 64 * n = omega (arith, le, length-drop 64 bytes) in
    ap (λ (l : List ℕ). take 64 bytes ++ l) (rows_joined n (drop 64 bytes) short) ∙ take-append-drop 64 bytes

-- enough rows hold all bytes
pub joined_rows : (bytes : List ℕ) → joined (rows_of bytes) ≡ bytes
joined_rows bytes = rows_joined ((length bytes + 63) / 64) bytes (omega arith)

pub joined_length : (rs : List (List ℕ)) → AllByRecursion IsFull rs → length (joined rs) ≡ 64 * length rs
joined_length [] full = refl
joined_length (r ∷ rs) full =
    let here : length r ≡ 64 = full.0 in
    let rest = joined_length rs full.1 in
    length-append r (joined rs) ∙ omega (arith, here, rest)

full_rows : (rs : List (List ℕ)) → AllByRecursion IsFull rs → rows (length rs) (joined rs) ≡ rs
full_rows [] full = refl
full_rows (r ∷ rs) full =
    let here : length r ≡ 64 = full.0 in
    let front : take 64 (r ++ joined rs) ≡ r = subst (λ (n : ℕ). take n (r ++ joined rs) ≡ r) here (take-append_seam r (joined rs)) in
    let back : drop 64 (r ++ joined rs) ≡ joined rs = subst (λ (n : ℕ). drop n (r ++ joined rs) ≡ joined rs) here (drop-append_seam r (joined rs)) in
    (λ i. front i ∷ rows (length rs) (back i)) ∙ ap (λ (l : List (List ℕ)). r ∷ l) (full_rows rs full.1)

-- full rows are the rows of their bytes
pub rows_again : (rs : List (List ℕ)) → AllByRecursion IsFull rs → rows_of (joined rs) ≡ rs
rows_again rs full =
    let n = joined_length rs full in
    let count : (length (joined rs) + 63) / 64 ≡ length rs = omega (arith, n) in
    ap (λ (k : ℕ). rows k (joined rs)) count ∙ full_rows rs full

pub pages_again : (rs : List (List ℕ)) (pages : ℕ) → AllByRecursion IsFull rs → length rs ≡ 4 * pages → length (joined rs) / 256 ≡ pages
pages_again rs pages full count = let n = joined_length rs full in omega (arith, n, count)

-- the first of some rows, as it is cut off where bytes are few
pub rows_step : (count : ℕ) (bytes : List ℕ) (cut : ℕ) → (count ≡ 0 → ⊥) → cut ≡ min 64 (length bytes) → rows count bytes ≡ take cut bytes ∷ rows (count - 1) (take (length bytes - cut) (drop cut bytes))
rows_step zero bytes cut some e = absurd (some refl)
rows_step (suc n) bytes cut some e =
    let front : take cut bytes ≡ take 64 bytes = ap (λ (k : ℕ). take k bytes) e ∙ take_min 64 bytes in
    let back : take (length bytes - cut) (drop cut bytes) ≡ drop 64 bytes = take_rest bytes cut ∙ ap (λ (k : ℕ). drop k bytes) e ∙ drop_min 64 bytes in
    let less : suc n - 1 ≡ n = omega arith in
    (λ i. sym front i ∷ rows (sym less i) (sym back i))

-- bytes of whole rows
pub rows_full : (n : ℕ) (bytes : List ℕ) → length bytes ≡ 64 * n → AllByRecursion IsFull (rows n bytes)
rows_full zero bytes is = tt
rows_full (suc n) bytes is =
    let here : length (take 64 bytes) ≡ 64 = length-take-le 64 bytes (omega (arith, is)) in
    (here, rows_full n (drop 64 bytes) (omega (arith, is, length-drop 64 bytes)))
