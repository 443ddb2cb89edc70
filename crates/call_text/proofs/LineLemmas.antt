-- The parts of a line, and no two lines of one spelling.
use Rattle.std.proofs.Common.{lit≤, ◌≡◌, ℕ, ◌≤◌, Bool, true, false, leb, List, [], ◌∷◌, ◌++◌, Some, None, refl, ◌∙◌, sym, arith, subst, append_assoc}
use Rattle.std.specs.List.{list_all}
use Rattle.std.proofs.lemmas.Bool.{leb-true}
use Rattle.text_words.specs.Lacks.{lacks}
use Rattle.text_words.specs.Name.{IsName, is_letter, is_name_byte}
use Rattle.text_words.proofs.Split.{both_true}
use Rattle.text_words.proofs.LackLemmas.{lacks-append, name_lacks}
use Rattle.text_words.proofs.OneLemmas.{first_part}
use Rattle.text_words.proofs.Outside.{name_outside, space_outside, end_outside}
use Rattle.text_words.specs.Spoken.{Spoken, spoken_text}
use Rattle.text_words.proofs.SpokenLemmas.{spoken_is_one, spoken_lacks_end}
use Rattle.text_words.proofs.PartLemmas.{not_in}
use Rattle.call_text.proofs.TextLemmas.{IsGrammar}
use Rattle.call_text.specs.Line.{Written, Break, Said, Saying, mark, said_text, IsSaid, bound_text, IsBound, written_text, IsWritten, FitsWritten}

last_same : (xs ys : List ℕ) (a b : ℕ) → xs ++ a ∷ [] ≡ ys ++ b ∷ [] → (xs ≡ ys) × (a ≡ b)
last_same [] [] a b e = (refl, cc)
last_same [] (y ∷ []) a b e = absurd (cc e)
last_same [] (y ∷ z ∷ ys) a b e = absurd (cc e)
last_same (x ∷ []) [] a b e = absurd (cc e)
last_same (x ∷ z ∷ xs) [] a b e = absurd (cc e)
last_same (x ∷ xs) (y ∷ ys) a b e =
    let heads : x ≡ y = cc e in
    let tails : xs ++ a ∷ [] ≡ ys ++ b ∷ [] = cc e in
    let p = last_same xs ys a b tails in
    ((λ i. heads i ∷ p.0 i), p.1)

plus_apart : (xs : List ℕ) → xs ++ mark true ≡ (xs ++ 58 ∷ []) ++ 43 ∷ []
plus_apart xs = sym (append_assoc xs (58 ∷ []) (43 ∷ []))

-- what stands before a mark, and the mark
pub mark_same : (xs ys : List ℕ) (m n : Bool) → xs ++ mark m ≡ ys ++ mark n → (xs ≡ ys) × (m ≡ n)
mark_same xs ys false false e = ((last_same xs ys 58 58 e).0, refl)
mark_same xs ys false true e = let p = (last_same xs (ys ++ 58 ∷ []) 58 43 (e ∙ plus_apart ys)).1 in absurd (omega (arith, p))
mark_same xs ys true false e = let p = (last_same (xs ++ 58 ∷ []) ys 43 58 (sym (plus_apart xs) ∙ e)).1 in absurd (omega (arith, p))
mark_same xs ys true true e = ((last_same xs ys 58 58 (last_same (xs ++ 58 ∷ []) (ys ++ 58 ∷ []) 43 43 (sym (plus_apart xs) ∙ e ∙ plus_apart ys)).0).0, refl)

mark_lacks : (m : Bool) → lacks 32 (mark m) ≡ true
mark_lacks false = refl
mark_lacks true = refl

worker_lacks : (w : List ℕ) (m : Bool) → IsName w → lacks 32 (w ++ mark m) ≡ true
worker_lacks w m is = lacks-append 32 w (mark m) (name_outside 32 w space_outside is) (mark_lacks m)

-- the first word of a worker's call, and its other words
pub said_parts : (text first words : List ℕ) (v : Saying) → text ≡ first ++ 32 ∷ words → lacks 32 first ≡ true → IsSaid v → text ≡ said_text v → (first ≡ v.0 ++ mark v.1) × (words ≡ spoken_text v.2)
said_parts text first words v h lack is e = first_part 32 first (v.0 ++ mark v.1) words (spoken_text v.2) lack (worker_lacks v.0 v.1 is.0) (sym h ∙ e)

-- a worker's call has one spelling
pub said_is_one : (v w : Saying) → IsSaid v → IsSaid w → said_text v ≡ said_text w → v ≡ w
said_is_one v w iv iw e =
    let p = said_parts (said_text w) (v.0 ++ mark v.1) (spoken_text v.2) w (sym e) (worker_lacks v.0 v.1 iv.0) iw refl in
    let head = mark_same v.0 w.0 v.1 w.1 p.0 in
    let call : v.2 ≡ w.2 = spoken_is_one v.2 w.2 iv.1 iw.1 p.1 in
    (λ i. (head.0 i, head.1 i, call i))

bound_is : (name said : List ℕ) → (name ++ 32 ∷ 61 ∷ 32 ∷ []) ++ said ≡ name ++ 32 ∷ 61 ∷ 32 ∷ said
bound_is name said = append_assoc name (32 ∷ 61 ∷ 32 ∷ []) said

pub bound_first : (text : List ℕ) (v : List ℕ × Saying) → text ≡ bound_text v → text ≡ v.0 ++ 32 ∷ 61 ∷ 32 ∷ said_text v.1
bound_first text v e = e ∙ bound_is v.0 (said_text v.1)

-- the first word of a line that binds a name, and what is after it
pub bound_parts : (text first after : List ℕ) (v : List ℕ × Saying) → text ≡ first ++ 32 ∷ after → lacks 32 first ≡ true → IsBound v → text ≡ bound_text v
    → (first ≡ v.0) × (after ≡ 61 ∷ 32 ∷ said_text v.1)
bound_parts text first after v h lack is e =
    first_part 32 first v.0 after (61 ∷ 32 ∷ said_text v.1) lack (name_outside 32 v.0 space_outside is.0) (sym h ∙ bound_first text v e)

-- a call that makes nothing is none that makes something
pub makes_not : (b c d : Bool) → b ≡ false → b ≡ c → c ≡ d → d ≡ true → ⊥
makes_not b c d not is same makes = let e : true ≡ false = sym makes ∙ sym same ∙ sym is ∙ not in absurd cc

-- what no reader took for a call, with a name or without, is no line
pub no_line : (text : List ℕ) → (text ≡ 45 ∷ 45 ∷ [] → ⊥) → ((v : Saying) → IsSaid v → text ≡ said_text v → ⊥) → ((v : List ℕ × Saying) → IsBound v → text ≡ bound_text v → ⊥)
    → (v : Written) → FitsWritten v → text ≡ written_text v → ⊥
no_line text dash said bound Break fits e = dash e
no_line text dash said bound (Said None worker more call) fits e = said (worker, more, call) fits.written e
no_line text dash said bound (Said (Some name) worker more call) fits e = bound (name, (worker, more, call)) fits.written e

-- a name begins with a letter
name_begins : (name rest tail : List ℕ) (b : ℕ) → IsName name → name ++ rest ≡ b ∷ tail → 97 ≤ b
name_begins [] rest tail b is e = absurd cc
name_begins (x ∷ name) rest tail b is e =
    let p = both_true _ (list_all is_name_byte name) is in
    let low = leb-true 97 x (both_true (leb 97 x) _ (both_true (is_letter x) _ p.0).0).0 in
    let same : x ≡ b = cc in omega arith

said_begins : (v : Saying) (tail : List ℕ) → IsSaid v → said_text v ≡ 45 ∷ tail → ⊥
said_begins v tail is e =
    let k = name_begins v.0 (mark v.1 ++ 32 ∷ spoken_text v.2) tail 45 is.0 (sym (append_assoc v.0 (mark v.1) (32 ∷ spoken_text v.2)) ∙ e) in omega arith

bound_no_dash : (v : List ℕ × Saying) (tail : List ℕ) → IsBound v → bound_text v ≡ 45 ∷ tail → ⊥
bound_no_dash v tail is e =
    let k = name_begins v.0 (32 ∷ 61 ∷ 32 ∷ said_text v.1) tail 45 is.0 (sym (bound_is v.0 (said_text v.1)) ∙ e) in omega arith

no_mark : (w : List ℕ) (m : Bool) → lacks 58 (w ++ mark m) ≡ true → ⊥
no_mark w false l = not_in 58 w [] l
no_mark w true l = not_in 58 w (43 ∷ []) l

-- a worker's call is no line that binds a name
said_no_bound : (v : Saying) (w : List ℕ × Saying) → IsSaid v → IsBound w → said_text v ≡ bound_text w → ⊥
said_no_bound v w iv iw e =
    let p = bound_parts (said_text v) (v.0 ++ mark v.1) (spoken_text v.2) w refl (worker_lacks v.0 v.1 iv.0) iw e in
    no_mark v.0 v.1 (subst (λ (x : List ℕ). lacks 58 x ≡ true) (sym p.0) (name_lacks 58 w.0 refl iw.0))

bound_is_one : (v w : List ℕ × Saying) → IsBound v → IsBound w → bound_text v ≡ bound_text w → v ≡ w
bound_is_one v w iv iw e =
    let p = bound_parts (bound_text w) v.0 (61 ∷ 32 ∷ said_text v.1) w (sym e ∙ bound_first (bound_text v) v refl) (name_outside 32 v.0 space_outside iv.0) iw refl in
    let texts : said_text v.1 ≡ said_text w.1 = (let k = p.1 in cc) in
    let s = said_is_one v.1 w.1 iv.1 iw.1 texts in
    (λ i. (p.0 i, s i))

-- no two lines have one spelling
written_is_one : (a b : Written) → IsWritten a → IsWritten b → written_text a ≡ written_text b → a ≡ b
written_is_one Break Break ia ib e = refl
written_is_one Break (Said None w m c) ia ib e = absurd (said_begins (w, m, c) (45 ∷ []) ib (sym e))
written_is_one Break (Said (Some n) w m c) ia ib e = absurd (bound_no_dash (n, (w, m, c)) (45 ∷ []) ib (sym e))
written_is_one (Said None w m c) Break ia ib e = absurd (said_begins (w, m, c) (45 ∷ []) ia e)
written_is_one (Said (Some n) w m c) Break ia ib e = absurd (bound_no_dash (n, (w, m, c)) (45 ∷ []) ia e)
written_is_one (Said None w m c) (Said None x n d) ia ib e = let s = said_is_one (w, m, c) (x, n, d) ia ib e in (λ i. Said None (s i).0 (s i).1 (s i).2)
written_is_one (Said None w m c) (Said (Some n) x k d) ia ib e = absurd (said_no_bound (w, m, c) (n, (x, k, d)) ia ib e)
written_is_one (Said (Some n) w m c) (Said None x k d) ia ib e = absurd (said_no_bound (x, k, d) (n, (w, m, c)) ib ia (sym e))
written_is_one (Said (Some a) w m c) (Said (Some b) x n d) ia ib e = let s = bound_is_one (a, (w, m, c)) (b, (x, n, d)) ia ib e in (λ i. Said (Some (s i).0) (s i).1.0 (s i).1.1 (s i).1.2)

mark_lacks_end : (m : Bool) → lacks 10 (mark m) ≡ true
mark_lacks_end false = refl
mark_lacks_end true = refl

said_lacks_end : (v : Saying) → IsSaid v → lacks 10 (said_text v) ≡ true
said_lacks_end v is = lacks-append 10 (v.0 ++ mark v.1) (32 ∷ spoken_text v.2) (lacks-append 10 v.0 (mark v.1) (name_outside 10 v.0 end_outside is.0) (mark_lacks_end v.1)) (spoken_lacks_end v.2 is.1)

written_lacks_end : (a : Written) → IsWritten a → lacks 10 (written_text a) ≡ true
written_lacks_end Break is = refl
written_lacks_end (Said None w m c) is = said_lacks_end (w, m, c) is
written_lacks_end (Said (Some n) w m c) is =
    lacks-append 10 (n ++ 32 ∷ 61 ∷ 32 ∷ []) (said_text (w, m, c)) (lacks-append 10 n (32 ∷ 61 ∷ 32 ∷ []) (name_outside 10 n end_outside is.0) refl) (said_lacks_end (w, m, c) is.1)

pub script_grammar : IsGrammar written_text FitsWritten
script_grammar = record {
  lacks_end = λ v f. written_lacks_end v f.written;
  one = λ v w fv fw e. written_is_one v w fv.written fw.written e;
}

-- a line that parts phases is short
pub break_fits : FitsWritten Break
break_fits = record { written = tt; short = lit≤ tt }
