-- The grammar of scripts: lines, names and phases.
use Rattle.std.proofs.Common.{◌≡◌, ℕ, zero, suc, ◌+◌, ◌<◌, ◌≤◌, Bool, true, false, cond, not, leb, List, [], ◌∷◌, ◌++◌, length, map, take, slice_get, Option, Some, None, refl, ap, ◌∙◌, sym, arith, subst, append_assoc, length-append}
use Rattle.std.specs.List.{list_any}
use Rattle.std.proofs.lemmas.Bool.{leb-true, leb-false}
use Rattle.std.proofs.lemmas.List.{map_push, append-nil, length-map}
use Rattle.std.proofs.lemmas.Grind.{flat_map-append}
use Rattle.indexmap.specs.IndexSet.{insert_key}
use Rattle.text_words.proofs.NameLemmas.{same_name}
use Rattle.text_words.specs.contracts.names.NamePartialEq.TheImpl.{eq-value}
use Rattle.call_text.specs.Line.{Written, Break, Said, written_text}
use Rattle.call_text.specs.Text.{line, lines_text}
use Rattle.call_text.specs.declared.phases.Line.{Line}
use Rattle.call_text.specs.Script.{said_of, lines_of, AreNumbered, ArePhasesNumbered, is_bound, binds_of, bind, with_both, next}
use Rattle.call_text.specs.declared.batches.Open.{Open}
use Rattle.call_text.specs.Batch.{opens_after}
use Rattle.call_text.specs.Reading.{Joins}
use Rattle.call_text.specs.Names.{Binds, Admits}

-- a new name comes last
pub binds_name : (name : Option (List ℕ)) (k : List ℕ) (old new : List (List ℕ)) (fresh : Bool) → name ≡ Some k → fresh ≡ not (list_any (eq-value.it k) old) → new ≡ insert_key eq-value.it old k → Binds name old new fresh
binds_name name k old new fresh e is added = subst (λ (o : Option (List ℕ)). Binds o old new fresh) (sym e) (answered fresh (is_bound k old) (is ∙ ap not known) (added ∙ ap (λ b. cond b old (old ++ k ∷ [])) known) refl)
  where
    known : list_any (eq-value.it k) old ≡ is_bound k old
    known = (λ i. list_any (λ q. same_name k q i) old)

    answered : (fresh has : Bool) → fresh ≡ not has → new ≡ cond has old (old ++ k ∷ []) → is_bound k old ≡ has → Binds (Some k) old new fresh
    answered true true f n h = absurd cc
    answered true false f n h = rw (h, n) refl
    answered false true f n h = rw h refl
    answered false false f n h = absurd cc

not_free : (lines : ℕ) → lines < 65536 → leb 65536 lines ≡ false
not_free lines lt = no (leb 65536 lines) refl
  where
    no : (b : Bool) → leb 65536 lines ≡ b → b ≡ false
    no true e = let k = leb-true 65536 lines e in absurd (omega arith)
    no false e = refl

-- a line with room for it
next_is : (lines : ℕ) (names : List (List ℕ)) (batches : List Open) (l : Written) (bound : Option (List (List ℕ))) (after : Option (List Open)) → lines < 65536 → bind names (binds_of l) ≡ bound → opens_after (lines + 1) batches l ≡ after
    → next (record { lines = lines; bound = names; open_batches = batches }) l ≡ with_both (lines + 1) bound after
unfolding next
next_is lines names batches l bound after lt b a = rw (not_free lines lt, b, a) refl

full : (lines : ℕ) → 65536 ≤ lines → leb 65536 lines ≡ true
full lines le = yes (leb 65536 lines) refl
  where
    yes : (b : Bool) → leb 65536 lines ≡ b → b ≡ true
    yes true e = refl
    yes false e = let k = leb-false 65536 lines e in absurd (omega arith)

pub admits_full : (lines : ℕ) (l : Written) (old new : List (List ℕ)) (batches : List Open) → 65536 ≤ lines → Admits lines l old new batches batches false
unfolding next
admits_full lines l old new batches le = (rw (full lines le) refl, refl)

-- a line that may stand there is one of those for which there is room
pub room_for : (lines : ℕ) (l : Written) (old new : List (List ℕ)) (batches later : List Open) → Admits lines l old new batches later true → lines < 65536
room_for lines l old new batches later admits = by (leb 65536 lines) refl
  where
    by : (b : Bool) → leb 65536 lines ≡ b → lines < 65536
    by true e = let none = (admits_full lines l old new batches (leb-true 65536 lines e)).0 in let k = sym none ∙ admits in absurd cc
    by false e = let k = leb-false 65536 lines e in omega arith

-- a name that is bound already
pub admits_unbound : (lines : ℕ) (l : Written) (old new : List (List ℕ)) (batches : List Open) → lines < 65536 → Binds (binds_of l) old new false → Admits lines l old new batches batches false
admits_unbound lines l old new batches lt binds = (next_is lines old batches l None (opens_after (lines + 1) batches l) lt binds refl, refl)

-- a line that binds no name twice, and comes after the open batches or not
pub admits_joined : (lines : ℕ) (l : Written) (old new : List (List ℕ)) (batches later : List Open) (yes : Bool) → lines < 65536 → Binds (binds_of l) old new true → Joins (lines + 1) l batches later yes → Admits lines l old new batches later yes
admits_joined lines l old new batches later true lt binds joins = next_is lines old batches l (Some new) (Some later) lt binds joins
admits_joined lines l old new batches later false lt binds joins = (next_is lines old batches l (Some new) None lt binds joins.0, joins.1)

-- one more line of the last phase
pub lines_of-line : (phases : List (List Line)) (ls : List Line) (l : Line) → lines_of (phases ++ (ls ++ l ∷ []) ∷ []) ≡ lines_of (phases ++ ls ∷ []) ++ said_of l ∷ []
lines_of-line [] ls l = rw (map_push said_of ls l, append-nil (map said_of ls), append-nil (map said_of ls ++ said_of l ∷ [])) refl
lines_of-line (p ∷ phases) ls l =
    rw (flat_map-append (λ q. Break ∷ map said_of q) phases ((ls ++ l ∷ []) ∷ []), flat_map-append (λ q. Break ∷ map said_of q) phases (ls ∷ []), map_push said_of ls l) (simp (append-nil, append_assoc))

-- one more place of a list
take_some : (ls : List Line) (i : ℕ) (l : Line) → Some l ≡ slice_get ls i → take (suc i) ls ≡ take i ls ++ l ∷ []
take_some [] i l e = absurd cc
take_some (x ∷ ls) zero l e = let p : x ≡ l = cc in (λ i. p i ∷ [])
take_some (x ∷ ls) (suc i) l e = ap (λ (xs : List Line). x ∷ xs) (take_some ls i l e)

take_none : (ls : List Line) (i : ℕ) → None ≡ slice_get ls i → take (suc i) ls ≡ take i ls
take_none [] zero e = refl
take_none [] (suc i) e = refl
take_none (x ∷ ls) zero e = absurd cc
take_none (x ∷ ls) (suc i) e = ap (λ (xs : List Line). x ∷ xs) (take_none ls i e)

-- one more line was written
pub written_more : (old out new : List ℕ) (ls : List Line) (i : ℕ) (l : Line) → new ≡ out ++ (written_text (said_of l) ++ 10 ∷ []) → out ≡ old ++ lines_text written_text (map said_of (take i ls)) → Some l ≡ slice_get ls i
    → new ≡ old ++ lines_text written_text (map said_of (take (i + 1) ls))
written_more old out new ls i l e before at =
    let on : i + 1 ≡ suc i = omega arith in
    e ∙ rw (before, on, take_some ls i l at, map_push said_of (take i ls) l, flat_map-append (line written_text) (map said_of (take i ls)) (said_of l ∷ [])) (simp (append-nil, append_assoc))

-- no line was left to write
pub written_all : (old out new : List ℕ) (ls : List Line) (i : ℕ) → new ≡ out → out ≡ old ++ lines_text written_text (map said_of (take i ls)) → None ≡ slice_get ls i
    → new ≡ old ++ lines_text written_text (map said_of (take (i + 1) ls))
written_all old out new ls i e before at =
    let on : i + 1 ≡ suc i = omega arith in
    e ∙ before ∙ rw (on, take_none ls i at) refl

-- one more phase
pub lines_of-phase : (phases : List (List Line)) (ls : List Line) → lines_of ((phases ++ ls ∷ []) ++ [] ∷ []) ≡ lines_of (phases ++ ls ∷ []) ++ Break ∷ []
lines_of-phase [] ls = rw (append-nil (map said_of ls)) refl
lines_of-phase (p ∷ phases) ls =
    rw (flat_map-append (λ q. Break ∷ map said_of q) (phases ++ ls ∷ []) ([] ∷ [])) (simp append_assoc)

-- how many lines there are from the second phase on
length-lines_of : (p : List Line) (phases : List (List Line)) (ls : List Line) → length (lines_of (p ∷ (phases ++ ls ∷ []))) ≡ length p + 1 + length (lines_of (phases ++ ls ∷ []))
length-lines_of p [] ls = simp (length-append, length-map, append-nil) (omega arith)
length-lines_of p (q ∷ phases) ls = simp (length-append, length-map) (omega arith)

numbered_more : (n : ℕ) (ls : List Line) (l : Line) → AreNumbered n ls → l.number ≡ n + length ls → AreNumbered n (ls ++ l ∷ [])
numbered_more n [] l h e = (e ∙ omega arith, tt)
numbered_more n (x ∷ ls) l h e = (h.0, numbered_more (n + 1) ls l h.1 (e ∙ omega arith))

pub numbers_line : (n : ℕ) (phases : List (List Line)) (ls : List Line) (l : Line) → ArePhasesNumbered n (phases ++ ls ∷ []) → l.number ≡ n + length (lines_of (phases ++ ls ∷ [])) → ArePhasesNumbered n (phases ++ (ls ++ l ∷ []) ∷ [])
numbers_line n [] ls l h e = (numbered_more n ls l h.0 (e ∙ rw (append-nil (map said_of ls), length-map ls said_of) refl), tt)
numbers_line n (p ∷ phases) ls l h e = (h.0, numbers_line (n + length p + 1) phases ls l h.1 (let k = length-lines_of p phases ls in omega arith))

pub numbers_phase : (n : ℕ) (phases : List (List Line)) (ls : List Line) → ArePhasesNumbered n (phases ++ ls ∷ []) → ArePhasesNumbered n ((phases ++ ls ∷ []) ++ [] ∷ [])
numbers_phase n [] ls h = (h.0, (tt, tt))
numbers_phase n (p ∷ phases) ls h = (h.0, numbers_phase (n + length p + 1) phases ls h.1)

-- the phases that lines make, from number n on
onto_first : Line → List (List Line) → List (List Line)
onto_first l [] = (l ∷ []) ∷ []
onto_first l (p ∷ ps) = (l ∷ p) ∷ ps

phases_from : ℕ → List Written → List (List Line)
phases_from n [] = [] ∷ []
phases_from n (Break ∷ ls) = [] ∷ phases_from (n + 1) ls
phases_from n (Said binds worker more call ∷ ls) = onto_first (record { number = n; binds = binds; worker = worker; more = more; call = call }) (phases_from (n + 1) ls)

phases_again : (n : ℕ) (p : List Line) (ps : List (List Line)) → ArePhasesNumbered n (p ∷ ps) → phases_from n (lines_of (p ∷ ps)) ≡ p ∷ ps
unfolding onto_first phases_from
phases_again n [] [] h = refl
phases_again n [] (q ∷ qs) h = let e : n + 0 + 1 ≡ n + 1 = omega arith in ap (λ (x : List (List Line)). [] ∷ x) (phases_again (n + 1) q qs (subst (λ m. ArePhasesNumbered m (q ∷ qs)) e h.1))
phases_again n (l ∷ p) ps h =
    let e : n + suc (length p) + 1 ≡ n + 1 + length p + 1 = omega arith in
    let rest = phases_again (n + 1) p ps (h.0.1, subst (λ m. ArePhasesNumbered m ps) e h.1) in
    ap (onto_first (record { number = n; binds = l.binds; worker = l.worker; more = l.more; call = l.call })) rest
    ∙ (λ i. (let m : Line = record { number = sym h.0.0 i; binds = l.binds; worker = l.worker; more = l.more; call = l.call } in m ∷ p) ∷ ps)

-- one list of phases makes one list of lines
pub phases_are_one : (a b : List (List Line)) → 1 ≤ length a → 1 ≤ length b → ArePhasesNumbered 1 a → ArePhasesNumbered 1 b → lines_of a ≡ lines_of b → a ≡ b
phases_are_one [] b sa sb na nb e = absurd (omega arith)
phases_are_one (p ∷ ps) [] sa sb na nb e = absurd (omega arith)
phases_are_one (p ∷ ps) (q ∷ qs) sa sb na nb e = sym (phases_again 1 p ps na) ∙ ap (phases_from 1) e ∙ phases_again 1 q qs nb
