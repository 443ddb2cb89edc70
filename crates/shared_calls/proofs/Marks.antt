-- Words that are at home, and lists whose batches have marks of their own.
use Rattle.std.proofs.Common.{◌≡◌, ◌≢◌, ℕ, zero, suc, ◌<◌, ◌==◌, Bool, true, false, List, [], ◌∷◌, ◌++◌, length, refl, ap, sym, ◌∙◌, subst, arith, length-append}
use Rattle.std.proofs.lemmas.Bool.Decides.{nat_tests}
use Rattle.std.proofs.lemmas.List.{length-set, get_or-set_other}
use Rattle.std.proofs.lemmas.Grind.{get_or-set_at}
use Rattle.std.specs.Prelude.{slice_set}
use Rattle.std.specs.List.{AllByRecursion}
use mathlib.Core.List.{IsPrefix}
use Rattle.logbook.specs.Pages.{Cell, cell}
use Rattle.shared_calls.specs.Lists.{IsHome, AreHome, Lacks, AreMarked}
use Rattle.shared_calls.specs.declared.rules.Made.{Made}

-- what holds of each batch of a list holds of each of a beginning of it
pub all_prefix : (P : Made → Type 0) (xs ys : List Made) → IsPrefix xs ys → AllByRecursion P ys → AllByRecursion P xs
all_prefix P [] ys p all = tt
all_prefix P (x ∷ xs) [] p all = absurd (cc (p.1))
all_prefix P (x ∷ xs) (y ∷ ys) p all =
    let heads : y ≡ x = cc (p.1) in
    (subst P heads all.0, all_prefix P xs ys (p.0, cc (p.1)) all.1)

-- and of one more at the end, where it holds of that one
pub all_snoc : (P : Made → Type 0) (xs : List Made) (m : Made) → AllByRecursion P xs → P m → AllByRecursion P (xs ++ m ∷ [])
all_snoc P [] m all one = (one, tt)
all_snoc P (x ∷ xs) m all one = (all.0, all_snoc P xs m all.1 one)

pub all_last : (P : Made → Type 0) (xs : List Made) (m : Made) → AllByRecursion P (xs ++ m ∷ []) → P m
all_last P [] m all = all.0
all_last P (x ∷ xs) m all = all_last P xs m all.1

-- what follows from it of each batch
pub all_more : (P Q : Made → Type 0) (xs : List Made) → ((m : Made) → P m → Q m) → AllByRecursion P xs → AllByRecursion Q xs
all_more P Q [] more all = tt
all_more P Q (x ∷ xs) more all = (more x all.0, all_more P Q xs more all.1)

-- a word that is at home stays so where a word comes home
pub home_set : (cells : List Cell) (key at n : ℕ) → IsHome cells key → IsHome (slice_set cells at (n, true)) key
home_set cells key at n home = here (key == at) refl
  where
    len : length (slice_set cells at (n, true)) ≡ length cells
    len = length-set cells at (n, true)

    here : (b : Bool) → (key == at) ≡ b → IsHome (slice_set cells at (n, true)) key
    here true is =
        let same : key ≡ at = grind (arith, nat_tests) in
        (omega (arith, len, home.0), ap (λ (c : Cell). c.1) (get_or-set_at cells at key (n, true) (0, false) same (omega (arith, same, home.0))))
    here false is =
        let other : key ≢ at = λ e. absurd (grind (arith, nat_tests)) in
        (omega (arith, len, home.0), ap (λ (c : Cell). c.1) (get_or-set_other cells at key (n, true) (0, false) other) ∙ home.1)

-- a word comes home
pub home_there : (cells : List Cell) (key n : ℕ) → key < length cells → IsHome (slice_set cells key (n, true)) key
home_there cells key n less =
    (omega (arith, length-set cells key (n, true), less), ap (λ (c : Cell). c.1) (get_or-set_at cells key key (n, true) (0, false) refl less))

cell_more : (cells : List Cell) (c : Cell) (key : ℕ) → key < length cells → cell (cells ++ c ∷ []) key ≡ cell cells key
cell_more [] c key less = absurd (omega arith)
cell_more (x ∷ xs) c zero less = refl
cell_more (x ∷ xs) c (suc key) less = cell_more xs c key (omega arith)

-- and where a word is added
pub home_more : (cells : List Cell) (c : Cell) (key : ℕ) → IsHome cells key → IsHome (cells ++ c ∷ []) key
home_more cells c key home =
    (omega (arith, length-append cells (c ∷ []), home.0), ap (λ (d : Cell). d.1) (cell_more cells c key home.0) ∙ home.1)

pub first_more : (cells : List Cell) (c : Cell) → 0 < length cells → (cell (cells ++ c ∷ []) 0).0 ≡ (cell cells 0).0
first_more cells c less = ap (λ (d : Cell). d.0) (cell_more cells c 0 less)

-- a word that is not at home has no batch's mark
pub lacks_away : (cells : List Cell) (log : List Made) (key : ℕ) → AreHome cells log → (cell cells key).1 ≡ false → Lacks key log
lacks_away cells log key homes away = all_more (λ m. IsHome cells m.mark) (λ m. m.mark ≢ key) log (λ m home same. clash m home same) homes
  where
    clash : (m : Made) → IsHome cells m.mark → m.mark ≡ key → ⊥
    clash m home same =
        let e : true ≡ false = sym home.1 ∙ ap (λ k. (cell cells k).1) same ∙ away in absurd (cc e)

-- one batch more, whose mark no other has
pub marked_snoc : (log : List Made) (m : Made) → AreMarked log → Lacks m.mark log → AreMarked (log ++ m ∷ [])
marked_snoc [] m marked lacks = (tt, tt)
marked_snoc (x ∷ xs) m marked lacks =
    (all_snoc (λ n. n.mark ≢ x.mark) xs m marked.0 (λ e. lacks.0 (sym e)), marked_snoc xs m marked.1 lacks.1)

pub marked_prefix : (xs ys : List Made) → IsPrefix xs ys → AreMarked ys → AreMarked xs
marked_prefix [] ys p marked = tt
marked_prefix (x ∷ xs) [] p marked = absurd (cc (p.1))
marked_prefix (x ∷ xs) (y ∷ ys) p marked =
    let heads : y ≡ x = cc (p.1) in
    let rest : IsPrefix xs ys = (p.0, cc (p.1)) in
    (all_prefix (λ n. n.mark ≢ x.mark) xs ys rest (subst (λ (z : Made). Lacks z.mark ys) heads marked.0), marked_prefix xs ys rest marked.1)
