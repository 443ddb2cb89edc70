-- What a link that goes, and a cell that is freed, change.
use Rattle.std.proofs.Common.{◌≡◌, ◌≢◌, ℕ, ◌+◌, ◌<◌, inl, inr, List, length, sym, ap, ◌∙◌, subst, arith, lit<}
use Rattle.std.specs.Prelude.{sum_by}
use Rattle.std.proofs.lemmas.Bool.{cases_eq}
use Rattle.containers.specs.Lists.{Lists, family_at, cells_at, list_at, StandsAt, IsWellFormed}
use Rattle.containers.specs.Cells.{Stands, IsShifted, IsFreed, IsLast, IsPaired}

pub stands_beside : (old new : List Lists) (f to c : ℕ) → IsShifted old new f to c → (g h x : ℕ) → g ≢ f → Stands new g h x → Stands old g h x
stands_beside old new f to c s g h x ne st = record { place = st.place; stands = subst (λ (l : Lists). StandsAt (list_at l h) st.place x) (s.beside g ne) st.stands }

pub stands_beside_back : (old new : List Lists) (f to c : ℕ) → IsShifted old new f to c → (g h x : ℕ) → g ≢ f → Stands old g h x → Stands new g h x
stands_beside_back old new f to c s g h x ne st = record { place = st.place; stands = subst (λ (l : Lists). StandsAt (list_at l h) st.place x) (sym (s.beside g ne)) st.stands }

pub one_head : (r : List Lists) (f h k x : ℕ) → IsWellFormed (family_at r f) → Stands r f h x → Stands r f k x → h ≡ k
one_head r f h k x well s t = well.one_head h k s.place t.place x s.stands t.stands

pub zero_one : ◌≢◌ {A = ℕ} 0 1
zero_one e = omega arith

pub one_zero : ◌≢◌ {A = ℕ} 1 0
one_zero e = omega arith

-- a cell left its list of family 0, and perhaps that of family 1
pub record IsChanged (size : ℕ) (old new : List Lists) (cell to : ℕ) : Type 0 where
  pub paired : IsPaired size new
  pub total : sum_by length (family_at new 0).lists ≡ sum_by length (family_at old 0).lists
  pub arrived : Stands new 0 to cell
  pub kept0 : (h x : ℕ) → x ≢ cell → Stands old 0 h x → Stands new 0 h x
  pub was0 : (h x : ℕ) → x ≢ cell → Stands new 0 h x → Stands old 0 h x
  pub same0 : (h : ℕ) → h ≢ to → (Stands old 0 h cell → ⊥) → cells_at new 0 h ≡ cells_at old 0 h
  pub kept1 : (o x : ℕ) → x ≢ cell → Stands old 1 o x → Stands new 1 o x
  pub was1 : (o x : ℕ) → o < size → Stands new 1 o x → Stands old 1 o x

-- where it stands then
pub changed_at : (size : ℕ) (old new : List Lists) (cell to : ℕ) → IsChanged size old new cell to → (h : ℕ) → Stands new 0 h cell → h ≡ to
changed_at size old new cell to ch h s = one_head new 0 h to cell (ch.paired.well 0 (lit< tt)) s ch.arrived

-- another list of family 0 has no cell more
pub was_in : (size : ℕ) (old new : List Lists) (cell to : ℕ) → IsChanged size old new cell to → (h x : ℕ) → h ≢ to → Stands new 0 h x → Stands old 0 h x
was_in size old new cell to ch h x ne s = elim (cases_eq x cell) [
  | inl e ↦ absurd (ne (changed_at size old new cell to ch h (subst (λ (i : ℕ). Stands new 0 h i) e s)))
  | inr apart ↦ ch.was0 h x apart s
]

pub two_cases : (P : ℕ → Type 0) → P 0 → P 1 → (g : ℕ) → g < 2 → P g
two_cases P a b g lt = elim (cases_eq g 0) [
  | inl e ↦ subst P (sym e) a
  | inr ne ↦ let e : 1 ≡ g = omega arith in subst P e b
]

module _ (size : ℕ) (old new : List Lists) (object cell : ℕ) (paired : IsPaired size old) (head : ℕ) (not_spare : head ≢ size) (held : Stands old 0 head cell) (l : IsLast size old new object cell) where
  pub last_paired : IsPaired size new
  last_paired =
      let b = λ (o x : ℕ) (s : Stands new 1 o x). stands_beside old new 0 (size + 1) cell l.first 1 o x one_zero s in
      let f = λ (o x : ℕ) (s : Stands old 1 o x). stands_beside_back old new 0 (size + 1) cell l.first 1 o x one_zero s in
      let e1 : family_at new 1 ≡ family_at old 1 = l.first.beside 1 one_zero in
      record {
        families = l.first.families ∙ paired.families;
        well = two_cases (λ (g : ℕ). IsWellFormed (family_at new g)) l.first.well (subst IsWellFormed (sym e1) (paired.well 1 (lit< tt)));
        heads = two_cases (λ (g : ℕ). length (family_at new g).lists ≡ size + 2) (l.first.heads ∙ paired.heads 0 (lit< tt)) (ap (λ (x : Lists). length x.lists) e1 ∙ paired.heads 1 (lit< tt));
        cells = two_cases (λ (g : ℕ). (family_at new g).cells ≡ size) (l.first.cells ∙ paired.cells 0 (lit< tt)) (ap (λ (x : Lists). x.cells) e1 ∙ paired.cells 1 (lit< tt));
        object_of = λ h c ne s. elim (cases_eq c cell) [
          | inl e ↦
              let was = paired.object_of head cell not_spare held in
              (was.0, was.1, subst (λ (i : ℕ). Stands new 1 was.0 i) (sym e) (f was.0 cell was.2))
          | inr apart ↦
              let was = paired.object_of h c ne (l.first.was h c apart s) in
              (was.0, was.1, f was.0 c was.2)
        ];
        holder_of = λ o c ne s. elim (cases_eq c cell) [
          | inl e ↦ (size + 1, (λ (x : size + 1 ≡ size). omega arith), omega arith, subst (λ (i : ℕ). Stands new 0 (size + 1) i) (sym e) l.first.arrived)
          | inr apart ↦
              let was = paired.holder_of o c ne (b o c s) in
              (was.0, was.1, was.2, l.first.kept was.0 c apart was.3)
        ];
        spare = λ c s. elim (cases_eq c cell) [
          | inl e ↦
              let same : size ≡ size + 1 = one_head new 0 size (size + 1) cell l.first.well (subst (λ (i : ℕ). Stands new 0 size i) e s) l.first.arrived in
              absurd (omega arith)
          | inr apart ↦ f size c (paired.spare c (l.first.was size c apart s))
        ];
      }

  pub last_changed : IsChanged size old new cell (size + 1)
  last_changed = record {
    paired = last_paired;
    total = l.first.total;
    arrived = l.first.arrived;
    kept0 = l.first.kept;
    was0 = l.first.was;
    same0 = l.first.same;
    kept1 = λ o x ne s. stands_beside_back old new 0 (size + 1) cell l.first 1 o x one_zero s;
    was1 = λ o x lt s. stands_beside old new 0 (size + 1) cell l.first 1 o x one_zero s;
  }

module _ (size : ℕ) (old new : List Lists) (cell : ℕ) (paired : IsPaired size old) (l : IsFreed size old new cell) where
  pub freed_at1 : (o : ℕ) → Stands new 1 o cell → o ≡ size
  freed_at1 o s = one_head new 1 o size cell l.second.well s l.second.arrived

  freed_kept0 : (h x : ℕ) → x ≢ cell → Stands old 0 h x → Stands new 0 h x
  freed_kept0 h x ne s = stands_beside_back l.between new 1 size cell l.second 0 h x zero_one (l.first.kept h x ne s)

  freed_was0 : (h x : ℕ) → x ≢ cell → Stands new 0 h x → Stands old 0 h x
  freed_was0 h x ne s = l.first.was h x ne (stands_beside l.between new 1 size cell l.second 0 h x zero_one s)

  freed_kept1 : (o x : ℕ) → x ≢ cell → Stands old 1 o x → Stands new 1 o x
  freed_kept1 o x ne s = l.second.kept o x ne (stands_beside_back old l.between 0 size cell l.first 1 o x one_zero s)

  freed_was1 : (o x : ℕ) → x ≢ cell → Stands new 1 o x → Stands old 1 o x
  freed_was1 o x ne s = stands_beside old l.between 0 size cell l.first 1 o x one_zero (l.second.was o x ne s)

  freed_arrived0 : Stands new 0 size cell
  freed_arrived0 = stands_beside_back l.between new 1 size cell l.second 0 size cell zero_one l.first.arrived

  freed_well0 : IsWellFormed (family_at new 0)
  freed_well0 = subst IsWellFormed (sym (l.second.beside 0 zero_one)) l.first.well

  pub freed_paired : IsPaired size new
  freed_paired =
      let e0 : family_at new 0 ≡ family_at l.between 0 = l.second.beside 0 zero_one in
      let e1 : family_at l.between 1 ≡ family_at old 1 = l.first.beside 1 one_zero in
      record {
        families = l.second.families ∙ l.first.families ∙ paired.families;
        well = two_cases (λ (g : ℕ). IsWellFormed (family_at new g)) freed_well0 l.second.well;
        heads = two_cases (λ (g : ℕ). length (family_at new g).lists ≡ size + 2) (ap (λ (x : Lists). length x.lists) e0 ∙ l.first.heads ∙ paired.heads 0 (lit< tt)) (l.second.heads ∙ ap (λ (x : Lists). length x.lists) e1 ∙ paired.heads 1 (lit< tt));
        cells = two_cases (λ (g : ℕ). (family_at new g).cells ≡ size) (ap (λ (x : Lists). x.cells) e0 ∙ l.first.cells ∙ paired.cells 0 (lit< tt)) (l.second.cells ∙ ap (λ (x : Lists). x.cells) e1 ∙ paired.cells 1 (lit< tt));
        object_of = λ h c ne s. elim (cases_eq c cell) [
          | inl e ↦ absurd (ne (one_head new 0 h size cell freed_well0 (subst (λ (i : ℕ). Stands new 0 h i) e s) freed_arrived0))
          | inr apart ↦
              let was = paired.object_of h c ne (freed_was0 h c apart s) in
              (was.0, was.1, freed_kept1 was.0 c apart was.2)
        ];
        holder_of = λ o c ne s. elim (cases_eq c cell) [
          | inl e ↦ absurd (ne (freed_at1 o (subst (λ (i : ℕ). Stands new 1 o i) e s)))
          | inr apart ↦
              let was = paired.holder_of o c ne (freed_was1 o c apart s) in
              (was.0, was.1, was.2, freed_kept0 was.0 c apart was.3)
        ];
        spare = λ c s. elim (cases_eq c cell) [
          | inl e ↦ subst (λ (i : ℕ). Stands new 1 size i) (sym e) l.second.arrived
          | inr apart ↦ freed_kept1 size c apart (paired.spare c (freed_was0 size c apart s))
        ];
      }

  pub freed_changed : IsChanged size old new cell size
  freed_changed = record {
    paired = freed_paired;
    total = ap (λ (x : Lists). sum_by length x.lists) (l.second.beside 0 zero_one) ∙ l.first.total;
    arrived = freed_arrived0;
    kept0 = freed_kept0;
    was0 = freed_was0;
    same0 = λ h ne not. ap (λ (x : Lists). list_at x h) (l.second.beside 0 zero_one) ∙ l.first.same h ne not;
    kept1 = freed_kept1;
    was1 = λ o x lt s. elim (cases_eq x cell) [
      | inl e ↦
          let same : o ≡ size = freed_at1 o (subst (λ (i : ℕ). Stands new 1 o i) e s) in
          absurd (omega arith)
      | inr apart ↦ freed_was1 o x apart s
    ];
  }
