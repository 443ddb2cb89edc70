-- The steps on the list keep its rule.
use Rattle.std.proofs.Common.{◌≡◌, ◌≢◌, ℕ, ◌+◌, ◌<◌, ◌==◌, Bool, true, false, List, [], ◌∷◌, ◌++◌, length, refl, ap, sym, ◌∙◌, subst, arith, inl, inr, Option, length-append}
use Rattle.std.proofs.lemmas.List.{append-nil, length-set, get_or-set_other}
use Rattle.std.proofs.lemmas.Grind.{get_or-set_at}
use Rattle.std.proofs.lemmas.Bool.Decides.{nat_tests}
use Rattle.std.specs.Prelude.{slice_set}
use mathlib.Core.List.{IsPrefix}
use prog.Atomic.{either}
use Rattle.logbook.specs.Pages.{Cell, Nib, View, cell, keeps, gives, adds, no_nib, may_write, step, Moves, Goes, Away}
use Rattle.kernel_rules.specs.History.{is_batch}
use Rattle.shared_calls.specs.Lists.{IsKept, IsHome, IsSource, Adds, Draws, Looks, AreHome, AreMarked, Lacks}
use Rattle.shared_calls.specs.declared.rules.Made.{Made}
use Rattle.shared_calls.proofs.Marks.{all_snoc, all_prefix, all_last, all_more, home_set, home_there, home_more, first_more, lacks_away, marked_snoc}
use Rattle.shared_calls.proofs.Prefixes.{prefix_whole}

abbrev pub shown : List Made → List Made
shown log = []

abbrev pub moved : List Made → List Made → ℕ → Type 0
moved xs ys n = Unit {0}

-- a step on a word at home that leaves its value keeps the rule
kept_same : (cells : List Cell) (log : List Made) (key n : ℕ) → IsKept cells log → IsHome cells key → n ≡ (cell cells key).0
    → IsKept (slice_set cells key (n, true)) log
kept_same cells log key n kept home is = record {
  head = home_set cells 0 key n kept.head;
  count = first (0 == key) refl ∙ kept.count;
  source = home_set cells 1 key n kept.source;
  home = all_more (λ m. IsHome cells m.mark) (λ m. IsHome (slice_set cells key (n, true)) m.mark) log (λ m h. home_set cells m.mark key n h) kept.home;
  marked = kept.marked;
  sized = kept.sized;
}
  where
    first : (b : Bool) → (0 == key) ≡ b → (cell (slice_set cells key (n, true)) 0).0 ≡ (cell cells 0).0
    first true same =
        let at : 0 ≡ key = grind (arith, nat_tests) in
        ap (λ (c : Cell). c.0) (get_or-set_at cells key 0 (n, true) (0, false) at home.0) ∙ (is ∙ ap (λ k. (cell cells k).0) (sym at))
    first false other =
        let apart : 0 ≢ key = λ e. absurd (grind (arith, nat_tests)) in
        ap (λ (c : Cell). c.0) (get_or-set_other cells key 0 (n, true) (0, false) apart)

-- a word that is not at home is none that is
apart_of : (cells : List Cell) (key other : ℕ) → (cell cells key).1 ≡ false → IsHome cells other → other ≢ key
apart_of cells key other away home same =
    let e : true ≡ false = sym home.1 ∙ ap (λ k. (cell cells k).1) same ∙ away in absurd (cc e)

-- the length of the list is written into its first word, and the word of the batch's mark comes home
kept_added : (cells : List Cell) (log : List Made) (m : Made) (count n : ℕ) → IsKept cells log → count ≡ length log + 1
    → m.mark < length cells → (cell cells m.mark).1 ≡ false → is_batch m.calls ≡ true
    → IsKept (slice_set (slice_set cells 0 (count, true)) m.mark (n, true)) (log ++ m ∷ [])
kept_added cells log m count n kept is less away size = record {
  head = home_set counted 0 m.mark n (home_set cells 0 0 count kept.head);
  count = ap (λ (c : Cell). c.0) (get_or-set_other counted m.mark 0 (n, true) (0, false) (apart_of cells m.mark 0 away kept.head))
      ∙ (ap (λ (c : Cell). c.0) (get_or-set_at cells 0 0 (count, true) (0, false) refl kept.head.0) ∙ (is ∙ sym (length-append log (m ∷ []))));
  source = home_set counted 1 m.mark n (home_set cells 1 0 count kept.source);
  home = all_snoc (λ x. IsHome there x.mark) log m
      (all_more (λ x. IsHome cells x.mark) (λ x. IsHome there x.mark) log (λ x h. home_set counted x.mark m.mark n (home_set cells x.mark 0 count h)) kept.home)
      (home_there counted m.mark n (omega (arith, length-set cells 0 (count, true), less)));
  marked = marked_snoc log m kept.marked (lacks_away cells log m.mark kept.home away);
  sized = all_snoc (λ x. is_batch x.calls ≡ true) log m kept.sized size;
}
  where
    counted : List Cell
    counted = slice_set cells 0 (count, true)

    there : List Cell
    there = slice_set counted m.mark (n, true)

-- a word is added
kept_more : (cells : List Cell) (log : List Made) (c : Cell) → IsKept cells log → IsKept (cells ++ c ∷ []) log
kept_more cells log c kept = record {
  head = home_more cells c 0 kept.head;
  count = first_more cells c kept.head.0 ∙ kept.count;
  source = home_more cells c 1 kept.source;
  home = all_more (λ m. IsHome cells m.mark) (λ m. IsHome (cells ++ c ∷ []) m.mark) log (λ m h. home_more cells c m.mark h) kept.home;
  marked = kept.marked;
  sized = kept.sized;
}

-- a list with nothing more is the list
kept_nil : (cells : List Cell) (log : List Made) → IsKept cells log → IsKept cells (log ++ [])
kept_nil cells log kept = subst (λ (l : List Made). IsKept cells l) (sym (append-nil log)) kept

module _ (v : List Made) (m : Made) (p : Nib) (old new : ℕ) (s : Option ℕ) where
  abbrev Then : ℕ → View Made ℕ → Type 0
  Then = Adds (step 0 old new m) (v, (p, s))

  abbrev AddGoes : List Cell → List Made → Type 0
  AddGoes = Goes IsKept shown moved 0 (v, (p, s)) (λ n. either (n == old) new n) Then

  adds_goes : (cells : List Cell) (log : List Made) → length v ≡ old → new ≡ old + 1 → p.right ≡ may_write → m.mark ≡ p.key
      → is_batch m.calls ≡ true → IsKept cells log → IsPrefix v log → Away p cells
      → (b : Bool) → ((cell cells 0).0 == old) ≡ b → AddGoes cells log
  adds_goes cells log len more right mark size kept pre away true is =
      let here : (cell cells 0).0 ≡ old = grind (arith, nat_tests) in
      let count : length log ≡ old = sym kept.count ∙ here in
      let same : v ≡ log = prefix_whole v log pre (omega (arith, len, count)) in
      let stands = away right in
      let n : either ((cell cells 0).0 == old) new (cell cells 0).0 ≡ new = rw is refl in
      let added : IsKept (slice_set (slice_set cells 0 (new, true)) m.mark (p.value, true)) (log ++ m ∷ []) =
      kept_added cells log m new p.value kept (omega (arith, more, count)) (subst (λ k. k < length cells) (sym mark) stands.0)
      (ap (λ k. (cell cells k).1) mark ∙ stands.1) size in
      let right_cells : IsKept (slice_set (slice_set cells 0 (either ((cell cells 0).0 == old) new (cell cells 0).0, true)) p.key (p.value, true)) (log ++ m ∷ []) =
      subst (λ (x : ℕ × ℕ). IsKept (slice_set (slice_set cells 0 (x.0, true)) x.1 (p.value, true)) (log ++ m ∷ [])) (λ i. (sym n i, mark i)) added in (
        gives,
        m ∷ [],
        s,
        right,
        right_cells,
        inl (refl, refl),
        rw is (ap (λ l. l ++ m ∷ []) (sym same)),
      )
  adds_goes cells log len more right mark size kept pre away false is =
      let n : either ((cell cells 0).0 == old) new (cell cells 0).0 ≡ (cell cells 0).0 = rw is refl in
      let all : log ++ [] ≡ log = append-nil log in
      let stands = away right in (
        keeps,
        [],
        s,
        tt,
        kept_nil (slice_set cells 0 (either ((cell cells 0).0 == old) new (cell cells 0).0, true)) log (kept_same cells log 0 _ kept kept.head n),
        inl (refl, refl),
        rw is (refl, subst (λ (l : List Made). Lacks p.key l) (sym all) (lacks_away cells log p.key kept.home stands.1)),
      )

  -- whatever the list is, the exchange adds the batch to all that was seen, or finds that the list is longer
  pub adds_moves : length v ≡ old → new ≡ old + 1 → p.right ≡ may_write → m.mark ≡ p.key → is_batch m.calls ≡ true
      → Moves IsKept shown moved 0 (v, (p, s)) (λ n. either (n == old) new n) Then
  adds_moves len more right mark size cells log kept pre away =
      (kept.head.0, kept.head.1, adds_goes cells log len more right mark size kept pre away ((cell cells 0).0 == old) refl)

-- an exchange of a number for itself leaves it
same_number : (n old : ℕ) → either (n == old) old n ≡ n
same_number n old = at (n == old) refl
  where
    at : (b : Bool) → (n == old) ≡ b → either (n == old) old n ≡ n
    at true is = let same : n ≡ old = grind (arith, nat_tests) in rw is (sym same)
    at false is = rw is refl

-- a word from which marks are drawn is at home in each longer list
source_home : (cells : List Cell) (v log : List Made) (key : ℕ) → IsKept cells log → IsPrefix v log → IsSource key v → IsHome cells key
source_home cells v log key kept pre (inl second) = subst (λ k. IsHome cells k) (sym second) kept.source
source_home cells v log key kept pre (inr last) =
    let before : List Made = last.0 in
    let m : Made = last.1 in
    let homes : AreHome cells v = all_prefix (λ x. IsHome cells x.mark) v log pre kept.home in
    let home : IsHome cells m.mark = all_last (λ x. IsHome cells x.mark) before m (subst (λ (l : List Made). AreHome cells l) last.2 homes) in
    subst (λ k. IsHome cells k) last.3 home

-- a mark is drawn from such a word
pub draws_moves : (v : List Made) (m : Made) (s : Option ℕ) (key : ℕ) → IsSource key v
    → Moves IsKept shown moved key (v, (no_nib, s)) (λ n. either (n == 0) 0 n) (Draws (step key 0 0 m) (v, (no_nib, s)))
draws_moves v m s key source cells log kept pre away =
    let home : IsHome cells key = source_home cells v log key kept pre source in
    let same : either ((cell cells key).0 == 0) 0 (cell cells key).0 ≡ (cell cells key).0 = same_number (cell cells key).0 0 in
    let written : List Cell = slice_set cells key (either ((cell cells key).0 == 0) 0 (cell cells key).0, true) in
    let left : IsKept (written ++ (0, false) ∷ []) (log ++ []) =
    kept_nil (written ++ (0, false) ∷ []) log (kept_more written log (0, false) (kept_same cells log key _ kept home same)) in
    (home.0, home.1, (adds, [], s, tt, left, inl (refl, refl), refl))

-- a look with a right to a mark
pub looks_moves : (v : List Made) (m : Made) (p : Nib) (s : Option ℕ) → p.right ≡ may_write
    → Moves IsKept shown moved 0 (v, (p, s)) (λ n. either (n == 0) 0 n) (Looks (step 0 0 0 m) (v, (p, s)))
looks_moves v m p s right cells log kept pre away =
    let same : either ((cell cells 0).0 == 0) 0 (cell cells 0).0 ≡ (cell cells 0).0 = same_number (cell cells 0).0 0 in
    let all : log ++ [] ≡ log = append-nil log in
    let stands = away right in
    let left : IsKept (slice_set cells 0 (either ((cell cells 0).0 == 0) 0 (cell cells 0).0, true)) (log ++ []) =
    kept_nil (slice_set cells 0 (either ((cell cells 0).0 == 0) 0 (cell cells 0).0, true)) log (kept_same cells log 0 _ kept kept.head same) in
    let lacks : Lacks p.key (log ++ []) = subst (λ (l : List Made). Lacks p.key l) (sym all) (lacks_away cells log p.key kept.home stands.1) in
    let marked = subst (λ (l : List Made). AreMarked l) (sym all) kept.marked in
    (kept.head.0, kept.head.1, (keeps, [], s, tt, left, inl (refl, refl), (refl, lacks, marked)))
