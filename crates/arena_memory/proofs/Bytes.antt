-- Pages end to end, and parts of them.
use Rattle.std.proofs.Common.{◌≡◌, ℕ, zero, suc, ◌+◌, ◌-◌, ◌*◌, ◌<◌, ◌≤◌, List, [], ◌∷◌, ◌++◌, length, get_or, set, take, drop, replicate, refl, sym, ap, ◌∙◌, arith, length-append}
use Rattle.std.specs.List.{concat}
use Rattle.std.proofs.lemmas.List.{append_assoc, take-append-le, drop-append-le, drop-drop, take_at, drop_at, take_all, length-take-le, replicate-append-replicate}
use Rattle.kernel_rules.specs.Written.{written, resized}

-- each page has 256 bytes
abbrev pub AreWhole : List (List ℕ) → Type 0
AreWhole ps = (k : ℕ) → k < length ps → length (get_or ps k []) ≡ 256

rest_whole : (p : List ℕ) (ps : List (List ℕ)) → AreWhole (p ∷ ps) → AreWhole ps
rest_whole p ps whole k lt = whole (suc k) (omega arith)

pub length-concat : (ps : List (List ℕ)) → AreWhole ps → length (concat ps) ≡ 256 * length ps
length-concat [] whole = refl
length-concat (p ∷ ps) whole = omega (arith, length-append p (concat ps), whole 0 (omega arith), length-concat ps (rest_whole p ps whole))

pub concat-append : (ps qs : List (List ℕ)) → concat (ps ++ qs) ≡ concat ps ++ concat qs
concat-append [] qs = refl
concat-append (p ∷ ps) qs = ap (λ (r : List ℕ). p ++ r) (concat-append ps qs) ∙ sym (append_assoc p (concat ps) (concat qs))

-- pages of 0
pub concat-zeros : (m : ℕ) → concat (replicate m (replicate 256 0)) ≡ replicate (256 * m) 0
concat-zeros zero = refl
concat-zeros (suc m) =
    let n : 256 + 256 * m ≡ 256 * suc m = omega arith in
    ap (λ (r : List ℕ). replicate 256 0 ++ r) (concat-zeros m) ∙ replicate-append-replicate 256 (256 * m) 0 ∙ ap (λ (k : ℕ). replicate {A = ℕ} k 0) n

-- past what comes first
pub drop_past : (p r : List ℕ) (a n : ℕ) → length p ≡ n → drop (n + a) (p ++ r) ≡ drop a r
drop_past p r a n e = sym (drop-drop a n (p ++ r)) ∙ ap (λ (ys : List ℕ). drop a ys) (drop_at p r n e)

pub take_past : (p r : List ℕ) (a : ℕ) → take (length p + a) (p ++ r) ≡ p ++ take a r
take_past [] r a = ap (λ (n : ℕ). take n r) (let e : 0 + a ≡ a = omega arith in e)
take_past (x ∷ p) r a =
    let e : suc (length p) + a ≡ suc (length p + a) = omega arith in
    ap (λ (n : ℕ). take n (x ∷ (p ++ r))) e ∙ ap (λ (ys : List ℕ). x ∷ ys) (take_past p r a)

take_past_at : (p r : List ℕ) (a n : ℕ) → length p ≡ n → take (n + a) (p ++ r) ≡ p ++ take a r
take_past_at p r a n e = ap (λ (m : ℕ). take (m + a) (p ++ r)) (sym e) ∙ take_past p r a

-- the first pages
pub take_concat : (n : ℕ) (ps : List (List ℕ)) → AreWhole ps → take (256 * n) (concat ps) ≡ concat (take n ps)
take_concat zero ps whole = refl
take_concat (suc n) [] whole = take_all (256 * suc n) [] (omega arith)
take_concat (suc n) (p ∷ ps) whole =
    let e : 256 * suc n ≡ 256 + 256 * n = omega arith in
    ap (λ (m : ℕ). take m (p ++ concat ps)) e ∙ take_past_at p (concat ps) (256 * n) 256 (whole 0 (omega arith)) ∙ ap (λ (r : List ℕ). p ++ r) (take_concat n ps (rest_whole p ps whole))

-- from a byte of a page on
pub drop_concat : (k off : ℕ) (ps : List (List ℕ)) → AreWhole ps → k < length ps → off ≤ 256 → drop (256 * k + off) (concat ps) ≡ drop off (get_or ps k []) ++ concat (drop (k + 1) ps)
drop_concat k off [] whole lt le = absurd (omega (arith, lt))
drop_concat zero off (p ∷ ps) whole lt le =
    let e : 256 * 0 + off ≡ off = omega arith in
    ap (λ (m : ℕ). drop m (p ++ concat ps)) e ∙ drop-append-le off p (concat ps) (omega (arith, le, whole 0 (omega arith)))
drop_concat (suc k) off (p ∷ ps) whole lt le =
    let e : 256 * suc k + off ≡ 256 + (256 * k + off) = omega arith in
    let f : suc k + 1 ≡ suc (k + 1) = omega arith in
    ap (λ (m : ℕ). drop m (p ++ concat ps)) e ∙ drop_past p (concat ps) (256 * k + off) 256 (whole 0 (omega arith)) ∙ drop_concat k off ps (rest_whole p ps whole) (omega (arith, lt)) le
    ∙ ap (λ (m : ℕ). drop off (get_or ps k []) ++ concat (drop m (p ∷ ps))) (sym f)

written_first : (a : ℕ) (part p r : List ℕ) → a + length part ≤ length p → written a part (p ++ r) ≡ written a part p ++ r
written_first a part p r le =
    ap (λ (xs : List ℕ). xs ++ part ++ drop (a + length part) (p ++ r)) (take-append-le a p r (omega (arith, le)))
    ∙ ap (λ (xs : List ℕ). (take a p ++ part) ++ xs) (drop-append-le (a + length part) p r le)
    ∙ sym (append_assoc (take a p ++ part) (drop (a + length part) p) r)

written_past : (a n : ℕ) (part p r : List ℕ) → length p ≡ n → written (n + a) part (p ++ r) ≡ p ++ written a part r
written_past a n part p r e =
    let f : n + a + length part ≡ n + (a + length part) = omega arith in
    ap (λ (xs : List ℕ). xs ++ part ++ drop (n + a + length part) (p ++ r)) (take_past_at p r a n e)
    ∙ ap (λ (m : ℕ). ((p ++ take a r) ++ part) ++ drop m (p ++ r)) f
    ∙ ap (λ (xs : List ℕ). ((p ++ take a r) ++ part) ++ xs) (drop_past p r (a + length part) n e)
    ∙ ap (λ (xs : List ℕ). xs ++ drop (a + length part) r) (append_assoc p (take a r) part)
    ∙ append_assoc p (take a r ++ part) (drop (a + length part) r)

-- one page is written over
pub written_page : (k off : ℕ) (part : List ℕ) (ps : List (List ℕ)) → AreWhole ps → k < length ps → off + length part ≤ 256 → concat (set ps k (written off part (get_or ps k []))) ≡ written (256 * k + off) part (concat ps)
written_page k off part [] whole lt le = absurd (omega (arith, lt))
written_page zero off part (p ∷ ps) whole lt le =
    let e : off ≡ 256 * 0 + off = omega arith in
    sym (written_first off part p (concat ps) (omega (arith, le, whole 0 (omega arith)))) ∙ ap (λ (m : ℕ). written m part (p ++ concat ps)) e
written_page (suc k) off part (p ∷ ps) whole lt le =
    let e : 256 + (256 * k + off) ≡ 256 * suc k + off = omega arith in
    ap (λ (r : List ℕ). p ++ r) (written_page k off part ps (rest_whole p ps whole) (omega (arith, lt)) le)
    ∙ sym (written_past (256 * k + off) 256 part p (concat ps) (whole 0 (omega arith))) ∙ ap (λ (m : ℕ). written m part (p ++ concat ps)) e

-- what is written next to what was written
pub written_more : (a : ℕ) (x y o : List ℕ) → a + length x + length y ≤ length o → written (a + length x) y (written a x o) ≡ written a (x ++ y) o
written_more a x y o le =
    let pre = take a o ++ x in
    let rest = drop (a + length x) o in
    let long : length pre ≡ a + length x = omega (arith, length-append (take a o) x, length-take-le a o (omega (arith, le))) in
    let more : a + length x + length y ≡ a + length (x ++ y) = omega (arith, length-append x y) in
    ap (λ (xs : List ℕ). xs ++ y ++ drop (a + length x + length y) (pre ++ rest)) (take_at pre rest (a + length x) long)
    ∙ ap (λ (xs : List ℕ). (pre ++ y) ++ xs) (drop_past pre rest (length y) (a + length x) long ∙ drop-drop (length y) (a + length x) o ∙ ap (λ (m : ℕ). drop m o) more)
    ∙ ap (λ (xs : List ℕ). xs ++ drop (a + length (x ++ y)) o) (append_assoc (take a o) x y)

-- pages cut off, or pages of 0 added
pub resized_pages : (n : ℕ) (ps : List (List ℕ)) → AreWhole ps → concat (take n ps ++ replicate (n - length ps) (replicate 256 0)) ≡ resized (256 * n) (concat ps)
resized_pages n ps whole =
    let e : 256 * (n - length ps) ≡ 256 * n - length (concat ps) = omega (arith, length-concat ps whole) in
    concat-append (take n ps) (replicate (n - length ps) (replicate 256 0))
    ∙ ap (λ (r : List ℕ). concat (take n ps) ++ r) (concat-zeros (n - length ps) ∙ ap (λ (m : ℕ). replicate {A = ℕ} m 0) e)
    ∙ ap (λ (r : List ℕ). r ++ replicate (256 * n - length (concat ps)) 0) (sym (take_concat n ps whole))
