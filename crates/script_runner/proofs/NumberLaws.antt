-- The workers of lines.
use Rattle.std.proofs.Common.{◌≡◌, ℕ, ◌+◌, ◌<◌, ◌≤◌, Bool, true, false, cond, leb, ◌||◌, List, [], ◌∷◌, ◌++◌, take, length, slice_get, get_or, map, Option, Some, None, IfSome, option_map, refl, ap, sym, ◌∙◌, subst, ◌⊎◌, inl, inr, arith, position, ◌≢◌}
use Rattle.std.specs.List.{list_any, IsDistinct}
use Rattle.std.specs.Str.{bytes_eq}
use Rattle.std.specs.Cmp.Lexicographic.{bytes_decides}
use Rattle.std.proofs.lemmas.Bool.Decides.{leb_tells}
use Rattle.std.proofs.lemmas.Grind.{flat_map-append}
use Rattle.std.proofs.lemmas.List.{append-nil, map-append, take_more}
use Rattle.std.proofs.lemmas.List.Folds.{list_any-append}
use Rattle.std.proofs.lemmas.List.Quantifiers.{position-Some}
use Rattle.std.proofs.lemmas.List.Sums.{fold-append}
use Rattle.std.proofs.lemmas.Map.Keys.{apart_from_distinct}
use Rattle.std.proofs.lemmas.Option.{get_or_from_slice_get, slice_get_within}
use Rattle.indexmap.specs.IndexSet.{insert_all, insert_key}
use Rattle.text_words.proofs.NameLemmas.{same_name}
use Rattle.text_words.specs.contracts.names.NamePartialEq.TheImpl.{eq-value}
use Rattle.call_text.specs.declared.phases.Line.{Line}
use Rattle.script_rules.specs.Workers.{lines_in, with_workers, workers_of}

-- the lines of phases, with one phase more
lines_in-snoc : (phases : List (List Line)) (lines : List Line) → lines_in (phases ++ lines ∷ []) ≡ lines_in phases ++ lines
lines_in-snoc phases lines =
    flat_map-append (λ (ls : List Line). ls) phases (lines ∷ []) ∙ ap (λ (ls : List Line). lines_in phases ++ ls) (append-nil lines)

-- the first things, and the next one
pub take_next : {A : Type 0} (xs : List A) (k : ℕ) (x : A) → slice_get xs k ≡ Some x → take (k + 1) xs ≡ take k xs ++ x ∷ []
take_next xs k x there =
    take_more xs k x (slice_get_within xs k x there) ∙ ap (λ (y : _). take k xs ++ y ∷ []) (get_or_from_slice_get xs k x x there)

-- and so of the first phases
pub lines_after : (phases : List (List Line)) (k : ℕ) (lines : List Line) → slice_get phases k ≡ Some lines
    → lines_in (take (k + 1) phases) ≡ lines_in (take k phases) ++ lines
lines_after phases k lines there = ap lines_in (take_next phases k lines there) ∙ lines_in-snoc (take k phases) lines

-- lines after lines
workers-append : (workers : List (List ℕ)) (xs ys : List Line) → with_workers workers (xs ++ ys) ≡ with_workers (with_workers workers xs) ys
workers-append workers xs ys =
    ap (insert_all bytes_eq workers) (map-append (λ (l : Line). l.worker) xs ys)
    ∙ fold-append (insert_key bytes_eq) workers (map (λ (l : Line). l.worker) xs) (map (λ (l : Line). l.worker) ys)

-- and the workers with those of a phase more
pub workers_after : (phases : List (List Line)) (k : ℕ) (lines : List Line) (now : List (List ℕ)) → slice_get phases k ≡ Some lines
    → now ≡ workers_of (lines_in (take k phases)) → with_workers now lines ≡ workers_of (lines_in (take (k + 1) phases))
workers_after phases k lines now there is =
    ap (λ (ws : List (List ℕ)). with_workers ws lines) is ∙ sym (workers-append [] (lines_in (take k phases)) lines)
    ∙ ap workers_of (sym (lines_after phases k lines there))

-- one line more, of this worker
pub workers_more : (workers now : List (List ℕ)) (lines : List Line) (k : ℕ) (worker : List ℕ)
    → option_map (λ l. l.worker) (slice_get lines k) ≡ Some worker → now ≡ with_workers workers (take k lines)
    → insert_key bytes_eq now worker ≡ with_workers workers (take (k + 1) lines)
workers_more workers now lines k worker there is = at (slice_get lines k) refl there
  where
    at : (o : Option Line) → slice_get lines k ≡ o → option_map (λ l. l.worker) o ≡ Some worker
        → insert_key bytes_eq now worker ≡ with_workers workers (take (k + 1) lines)
    at None line own = absurd (subst (λ (o : Option (List ℕ)). IfSome o (λ w. ⊥)) own tt)
    at (Some l) line own =
        let same : worker ≡ l.worker = cc in
        (λ i. insert_key bytes_eq (is i) (same i)) ∙ sym (workers-append workers (take k lines) (l ∷ []))
        ∙ ap (with_workers workers) (sym (take_next lines k l line))

-- one that is inserted is among them
pub inserted_is_known : (workers : List (List ℕ)) (worker : List ℕ) → list_any (bytes_eq worker) (insert_key bytes_eq workers worker) ≡ true
inserted_is_known workers worker = at (list_any (bytes_eq worker) workers) refl
  where
    at : (b : Bool) → list_any (bytes_eq worker) workers ≡ b → list_any (bytes_eq worker) (cond b workers (workers ++ worker ∷ [])) ≡ true
    at true known = known
    at false new = list_any-append (bytes_eq worker) workers (worker ∷ [])
        ∙ (λ i. new i || ((bytes_decides worker worker).1 refl i || false))

-- names are one as keys where their bytes are
pub inserted_as_bytes : (workers : List (List ℕ)) (worker : List ℕ) → insert_key eq-value.it workers worker ≡ insert_key bytes_eq workers worker
inserted_as_bytes workers worker = (λ i. insert_key (λ a b. same_name a b i) workers worker)

pub distinct_as_bytes : (workers : List (List ℕ)) → IsDistinct eq-value.it workers → IsDistinct bytes_eq workers
distinct_as_bytes workers distinct = subst (λ (eq : List ℕ → List ℕ → Bool). IsDistinct eq workers) (λ i a b. same_name a b i) distinct

pub place_as_bytes : (workers : List (List ℕ)) (worker : List ℕ) → position (eq-value.it worker) workers ≡ position (bytes_eq worker) workers
place_as_bytes workers worker = (λ i. position (λ a. same_name worker a i) workers)

-- where a worker stands, and nowhere else
pub stands_at : (workers : List (List ℕ)) (w worker : List ℕ) (index i : ℕ) → position (bytes_eq w) workers ≡ Some index
    → slice_get workers i ≡ Some worker → (i ≡ index) → bytes_eq w worker ≡ true
stands_at workers w worker index i found there same =
    ap (bytes_eq w) (sym (get_or_from_slice_get workers index worker worker (ap (slice_get workers) (sym same) ∙ there)))
    ∙ (position-Some (bytes_eq w) workers index worker found).1

pub stands_not : (workers : List (List ℕ)) (w worker : List ℕ) (index i : ℕ) → IsDistinct bytes_eq workers
    → position (bytes_eq w) workers ≡ Some index → slice_get workers i ≡ Some worker → (i ≢ index) → bytes_eq w worker ≡ false
stands_not workers w worker index i distinct found there other = of (leb_tells i index)
  where
    is : get_or workers i worker ≡ worker
    is = get_or_from_slice_get workers i worker worker there

    at : (index < length workers) × (bytes_eq w (get_or workers index worker) ≡ true)
        × ((k : ℕ) → k < index → bytes_eq w (get_or workers k worker) ≡ false)
    at = position-Some (bytes_eq w) workers index worker found

    own : w ≡ get_or workers index worker
    own = (bytes_decides w (get_or workers index worker)).0 at.1

    of : ((leb i index ≡ true) × (i ≤ index)) ⊎ ((leb i index ≡ false) × (index < i)) → bytes_eq w worker ≡ false
    of (inl h) = ap (bytes_eq w) (sym is) ∙ at.2 i (omega (arith, h.1, other))
    of (inr h) = (λ j. bytes_eq (own j) (sym is j))
        ∙ apart_from_distinct bytes_eq workers index i worker distinct h.1 (slice_get_within workers i worker there)
