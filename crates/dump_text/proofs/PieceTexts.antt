-- A text in pieces: a head, what items tell, up to 64 in a piece, and a tail. One after another they are the text.
use Rattle.std.proofs.Common.{◌≡◌, ℕ, zero, suc, ◌+◌, ◌-◌, ◌*◌, ◌<◌, ◌≤◌, ◌==◌, nat_lt, Bool, true, false, if◌then◌else◌, List, [], ◌∷◌, ◌++◌, length, take, drop, refl, ap, ◌∙◌, sym, subst, arith, append_assoc, length-drop}
use Rattle.std.specs.List.{flat_map, AllByRecursion}
use Rattle.std.proofs.Math.Seq.{take-add}
use Rattle.std.proofs.lemmas.Bool.{ne_eqb, lt-ltb, le-ltb, ltb-true, ltb-false}
use Rattle.std.proofs.lemmas.Grind.{flat_map-append}
use Rattle.std.proofs.lemmas.List.{append-nil, take_all}
use Rattle.dump_text.specs.Pieces.{joined, part_text, piece_at}
use Rattle.dump_text.specs.declared.pieces.Piece.{Piece}
use Rattle.dump_text.specs.declared.pieces.Piece.TheVariants as pieces

-- what a piece after the first tells
place_is : (n : ℕ) → 64 * (suc n - 1) ≡ 64 * n
place_is n = omega arith

not_first : (n : ℕ) → (suc n == 0) ≡ false
not_first n = ne_eqb (suc n) 0 (λ e. omega (arith, e))

pub events_piece : (count n : ℕ) → 64 * n < count → piece_at count (suc n) ≡ pieces.Events (64 * n)
events_piece count n less =
    let place : ℕ = 64 * (suc n - 1) in
    let first = not_first n in
    let one = lt-ltb place count (omega (arith, less)) in
    (λ i. if first i then pieces.Head else (if one i then pieces.Events place else (if nat_lt place (count + 64) then pieces.Tables else pieces.Nothing)))
    ∙ ap pieces.Events (place_is n)

pub tables_piece : (count n : ℕ) → count ≤ 64 * n → 64 * n < count + 64 → piece_at count (suc n) ≡ pieces.Tables
tables_piece count n past less =
    let place : ℕ = 64 * (suc n - 1) in
    let first = not_first n in
    let one = le-ltb place count (omega (arith, past)) in
    let two = lt-ltb place (count + 64) (omega (arith, less)) in
    λ i. if first i then pieces.Head else (if one i then pieces.Events place else (if two i then pieces.Tables else pieces.Nothing))

no_piece : (count n : ℕ) → count + 64 ≤ 64 * n → piece_at count (suc n) ≡ pieces.Nothing
no_piece count n past =
    let place : ℕ = 64 * (suc n - 1) in
    let first = not_first n in
    let one = le-ltb place count (omega (arith, past)) in
    let two = le-ltb place (count + 64) (omega (arith, past)) in
    λ i. if first i then pieces.Head else (if one i then pieces.Events place else (if two i then pieces.Tables else pieces.Nothing))

-- the text of the piece with this number
abbrev pub piece_of : {X : Type 0} → (X → List ℕ) → List ℕ → List ℕ → List X → ℕ → List ℕ
piece_of text head tail items number = part_text text head tail items (piece_at (length items) number)

-- what the items before a place tell, and those from there on
pub two_parts : {X Y : Type 0} (of : X → List Y) (n : ℕ) (xs : List X) → flat_map of (take (64 * suc n) xs) ≡ flat_map of (take (64 * n) xs) ++ flat_map of (take 64 (drop (64 * n) xs))
two_parts {X} of n xs =
    let more : 64 * suc n ≡ 64 * n + 64 = omega arith in
    ap (λ (k : ℕ). flat_map of (take k xs)) more
    ∙ ap (λ (l : List X). flat_map of l) (take-add (64 * n) 64 xs)
    ∙ flat_map-append of (take (64 * n) xs) (take 64 (drop (64 * n) xs))

-- the first piece and those of items
first_pieces : {X : Type 0} (text : X → List ℕ) (head tail : List ℕ) (xs : List X) (n : ℕ) → 64 * n < length xs + 64
    → joined (piece_of text head tail xs) (suc n) ≡ head ++ flat_map text (take (64 * n) xs)
first_pieces text head tail xs zero less = sym (append-nil head)
first_pieces {X} text head tail xs (suc n) less =
    let before = flat_map text (take (64 * n) xs) in
    let here = flat_map text (take 64 (drop (64 * n) xs)) in
    let fewer : 64 * n < length xs + 64 = omega (arith, less) in
    let within : 64 * n < length xs = omega (arith, less) in
    (λ i. first_pieces text head tail xs n fewer i ++ part_text text head tail xs (events_piece (length xs) n within i))
    ∙ append_assoc head before here ∙ ap (λ (t : List ℕ). head ++ t) (sym (two_parts text n xs))

-- the first piece and all items
all_items : {X : Type 0} (text : X → List ℕ) (head tail : List ℕ) (xs : List X) (n : ℕ) → length xs ≤ 64 * n → 64 * n < length xs + 64
    → joined (piece_of text head tail xs) (suc n) ≡ head ++ flat_map text xs
all_items {X} text head tail xs n past less =
    first_pieces text head tail xs n less
    ∙ ap (λ (es : List X). head ++ flat_map text es) (take_all (64 * n) xs past)

one_more : {X : Type 0} (text : X → List ℕ) (head tail : List ℕ) (xs : List X) (n : ℕ) → length xs + 64 ≤ 64 * suc n
    → (length xs + 64 ≤ 64 * n → joined (piece_of text head tail xs) (suc n) ≡ head ++ (flat_map text xs ++ tail))
    → (b : Bool) → nat_lt (64 * n) (length xs + 64) ≡ b
    → joined (piece_of text head tail xs) (suc (suc n)) ≡ head ++ (flat_map text xs ++ tail)
one_more text head tail xs n past at true is =
    let less = ltb-true (64 * n) (length xs + 64) is in
    let after : length xs ≤ 64 * n = omega (arith, past) in
    (λ i. all_items text head tail xs n after less i ++ part_text text head tail xs (tables_piece (length xs) n after less i))
    ∙ append_assoc head (flat_map text xs) tail
one_more text head tail xs n past at false is =
    let after = ltb-false (64 * n) (length xs + 64) is in
    (λ i. at after i ++ part_text text head tail xs (no_piece (length xs) n after i)) ∙ append-nil (head ++ (flat_map text xs ++ tail))

-- all pieces
pub all_pieces : {X : Type 0} (text : X → List ℕ) (head tail : List ℕ) (xs : List X) (n : ℕ) → length xs + 64 ≤ 64 * n
    → joined (piece_of text head tail xs) (suc n) ≡ head ++ (flat_map text xs ++ tail)
all_pieces text head tail xs zero past = absurd (omega (arith, past))
all_pieces text head tail xs (suc n) past =
    one_more text head tail xs n past (all_pieces text head tail xs n) (nat_lt (64 * n) (length xs + 64)) refl

-- an item tells something
abbrev pub Solid : {X : Type 0} → (X → List ℕ) → X → Type 0
Solid text x = (rest : List ℕ) → text x ++ rest ≡ [] → ⊥

all_after : {X : Type 0} (P : X → Type 0) (n : ℕ) (xs : List X) → AllByRecursion P xs → AllByRecursion P (drop n xs)
all_after P zero xs all = all
all_after P (suc n) [] all = tt
all_after P (suc n) (x ∷ xs) all = all_after P n xs all.1

some_items : {X : Type 0} (text : X → List ℕ) (xs : List X) → AllByRecursion (Solid text) xs
    → 0 < length xs → flat_map text (take 64 xs) ≡ [] → ⊥
some_items text [] each some h = omega (arith, some)
some_items text (x ∷ xs) each some h = each.0 (flat_map text (take 63 xs)) h

-- an empty piece is past the last
empty_after : {X : Type 0} (text : X → List ℕ) (head tail : List ℕ) (xs : List X) (n : ℕ) (a b : Bool)
    → AllByRecursion (Solid text) xs → (tail ≡ [] → ⊥)
    → nat_lt (64 * n) (length xs) ≡ a → nat_lt (64 * n) (length xs + 64) ≡ b
    → piece_of text head tail xs (suc n) ≡ [] → length xs + 64 ≤ 64 * n
empty_after text head tail xs n true b each end is_a is_b h =
    let less = ltb-true (64 * n) (length xs) is_a in
    let here = subst (λ (p : Piece). part_text text head tail xs p ≡ []) (events_piece (length xs) n less) h in
    let some : 0 < length (drop (64 * n) xs) = omega (arith, less, length-drop (64 * n) xs) in
    absurd (some_items text (drop (64 * n) xs) (all_after (Solid text) (64 * n) xs each) some here)
empty_after text head tail xs n false true each end is_a is_b h =
    let past = ltb-false (64 * n) (length xs) is_a in
    let less = ltb-true (64 * n) (length xs + 64) is_b in
    absurd (end (subst (λ (p : Piece). part_text text head tail xs p ≡ []) (tables_piece (length xs) n past less) h))
empty_after text head tail xs n false false each end is_a is_b h = ltb-false (64 * n) (length xs + 64) is_b

-- which piece is empty
pub last_after : {X : Type 0} (text : X → List ℕ) (head tail : List ℕ) (xs : List X) (n : ℕ)
    → AllByRecursion (Solid text) xs → (head ≡ [] → ⊥) → (tail ≡ [] → ⊥)
    → piece_of text head tail xs n ≡ [] → (m : ℕ) × (n ≡ suc m) × (length xs + 64 ≤ 64 * m)
last_after text head tail xs zero each begin end h = absurd (begin h)
last_after text head tail xs (suc n) each begin end h =
    (n, refl, empty_after text head tail xs n (nat_lt (64 * n) (length xs)) (nat_lt (64 * n) (length xs + 64)) each end refl refl h)

-- texts that are the pieces
same_joined : (texts others : ℕ → List ℕ) (n : ℕ) → ((m : ℕ) → m < n → texts m ≡ others m) → joined texts n ≡ joined others n
same_joined texts others zero same = refl
same_joined texts others (suc n) same =
    λ i. same_joined texts others n (λ m less. same m (omega (arith, less))) i ++ same n (omega arith) i

-- the pieces up to an empty one are the text
pub pieces_all : {X : Type 0} (text : X → List ℕ) (head tail : List ℕ) (xs : List X) (texts : ℕ → List ℕ) (n : ℕ)
    → AllByRecursion (Solid text) xs → (head ≡ [] → ⊥) → (tail ≡ [] → ⊥)
    → ((m : ℕ) → m < n → texts m ≡ piece_of text head tail xs m) → piece_of text head tail xs n ≡ []
    → joined texts n ≡ head ++ (flat_map text xs ++ tail)
pieces_all text head tail xs texts n each begin end are last =
    let after = last_after text head tail xs n each begin end last in
    same_joined texts (piece_of text head tail xs) n are
    ∙ ap (λ (k : ℕ). joined (piece_of text head tail xs) k) after.1
    ∙ all_pieces text head tail xs after.0 after.2
