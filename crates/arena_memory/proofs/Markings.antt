-- What holds of mappings and marks after each change: each space has sixteen places, and each object that is mapped is marked.
use Rattle.std.proofs.Common.{◌≡◌, ◌≢◌, ◌⊎◌, ℕ, ◌<◌, ◌≤◌, Bool, true, false, Option, Some, None, List, [], length, get_or, set, replicate, All, refl, sym, ap, ◌∙◌, subst, arith, inl, inr, length-set}
use Rattle.std.proofs.lemmas.Bool.{both_ways, cases_eq, cases_lt}
use Rattle.std.proofs.lemmas.List.Elements.{All-set, All-replicate}
use Rattle.std.proofs.lemmas.List.{get_or-set_same, get_or-set_other, get_or_past, get_or-replicate, length-replicate}
use Rattle.kernel_rules.specs.declared.objects.Mapping.{Mapping}
use Rattle.arena_memory.specs.Mappings.{mapping_at, places_at, with_mapping}
use Rattle.arena_memory.specs.Marks.{AreMarked, is_marked, mark_place, with_mark}
use Rattle.arena_memory.proofs.Placings.{mapping_here, mapping_other}

-- of places that are none, none is another's
rows_none : (n a : ℕ) → ((a < n) ⊎ (n ≤ a)) → (b : ℕ) → mapping_at (replicate n (replicate 16 None)) a b ≡ None
rows_none n a (inl lt) b =
    ap (λ (row : List (Option Mapping)). get_or row b None) (get_or-replicate {A = List (Option Mapping)} n a (replicate 16 None) [] lt)
    ∙ by (cases_lt b 16)
  where
    by : ((b < 16) ⊎ (16 ≤ b)) → get_or {A = Option Mapping} (replicate 16 None) b None ≡ None
    by (inl less) = get_or-replicate {A = Option Mapping} 16 b None None less
    by (inr le) = get_or_past (replicate {A = Option Mapping} 16 None) b None (omega (arith, le, length-replicate {A = Option Mapping} 16 None))
rows_none n a (inr le) b =
    ap (λ (row : List (Option Mapping)). get_or row b None)
    (get_or_past (replicate {A = List (Option Mapping)} n (replicate 16 None)) a [] (omega (arith, le, length-replicate {A = List (Option Mapping)} n (replicate 16 None))))

pub none_marked : (n : ℕ) (marks : List Bool) → AreMarked (replicate n (replicate 16 None)) marks
none_marked n marks a b m is = let none = rows_none n a (cases_lt a n) b in absurd (cc (is, none))

-- a mark that is set is, and all others stay
set_on : (marks : List Bool) (k j : ℕ) → (j ≡ k) ⊎ (get_or marks j true ≡ true) → get_or (set marks k true) j true ≡ true
set_on marks k j was = elim (cases_eq j k) [
  | inl same ↦ ap (λ (i : ℕ). get_or (set marks k true) i true) same ∙ here (cases_lt k (length marks))
  | inr apart ↦ get_or-set_other marks k j true true apart ∙ there apart was
]
  where
    here : ((k < length marks) ⊎ (length marks ≤ k)) → get_or (set marks k true) k true ≡ true
    here (inl lt) = get_or-set_same marks k true true lt
    here (inr le) = get_or_past (set marks k true) k true (omega (arith, le, length-set marks k true))

    there : (j ≡ k → ⊥) → (j ≡ k) ⊎ (get_or marks j true ≡ true) → get_or marks j true ≡ true
    there apart (inl same) = absurd (apart same)
    there apart (inr on) = on

marked_on : (marks : List Bool) (o q : ℕ) → (q ≡ o) ⊎ (is_marked marks q ≡ true) → is_marked (with_mark marks o) q ≡ true
marked_on marks o q was =
    ap (λ (n : ℕ). get_or (with_mark marks o) (mark_place q n) true) (length-set marks (mark_place o (length marks)) true)
    ∙ set_on marks (mark_place o (length marks)) (mark_place q (length marks)) (by was)
  where
    by : (q ≡ o) ⊎ (is_marked marks q ≡ true) → (mark_place q (length marks) ≡ mark_place o (length marks)) ⊎ (is_marked marks q ≡ true)
    by (inl same) = inl (ap (λ (x : ℕ). mark_place x (length marks)) same)
    by (inr on) = inr on

-- a mapping after a write is what was written, or stood there
module _ (ms : List (List (Option Mapping))) (space place : ℕ) (m : Option Mapping) (below : space < length ms) (within : place < length (places_at ms space)) where
  written_or_old : (a b : ℕ) (x : Option Mapping) → mapping_at (with_mapping ms space place m) a b ≡ x → (m ≡ x) ⊎ (mapping_at ms a b ≡ x)
  written_or_old a b x is = elim (cases_eq a space) [
    | inl row ↦ elim (cases_eq b place) [
      | inl cell ↦
          inl (sym (mapping_here ms space place m below within)
          ∙ sym (ap (λ (i : ℕ). mapping_at (with_mapping ms space place m) i place) row)
          ∙ sym (ap (λ (i : ℕ). mapping_at (with_mapping ms space place m) a i) cell) ∙ is)
      | inr apart ↦ inr (sym (mapping_other ms space place m a b below (λ _ on. apart on)) ∙ is)
    ]
    | inr apart ↦ inr (sym (mapping_other ms space place m a b below (λ on _. apart on)) ∙ is)
  ]

  -- where none is written, all marks serve
  pub emptied_marked : (marks : List Bool) → m ≡ None → AreMarked ms marks → AreMarked (with_mapping ms space place m) marks
  emptied_marked marks none were a b x is = by (written_or_old a b (Some x) is)
    where
      by : (m ≡ Some x) ⊎ (mapping_at ms a b ≡ Some x) → is_marked marks x.entry.object ≡ true
      by (inl here) = absurd (cc (here, none))
      by (inr there) = were a b x there

  -- and else those with that of its object
  pub mapped_marked : (marks : List Bool) (w : Mapping) → m ≡ Some w → AreMarked ms marks → AreMarked (with_mapping ms space place m) (with_mark marks w.entry.object)
  mapped_marked marks w new were a b x is = marked_on marks w.entry.object x.entry.object (by (written_or_old a b (Some x) is))
    where
      by : (m ≡ Some x) ⊎ (mapping_at ms a b ≡ Some x) → (x.entry.object ≡ w.entry.object) ⊎ (is_marked marks x.entry.object ≡ true)
      by (inl here) = let same : x ≡ w = cc (here, new) in inl (ap (λ (z : Mapping). z.entry.object) same)
      by (inr there) = inr (were a b x there)

-- and so they do once a space is emptied
pub released_marked : (ms : List (List (Option Mapping))) (space : ℕ) (marks : List Bool) → space < length ms
    → AreMarked ms marks → AreMarked (set ms space (replicate 16 None)) marks
released_marked ms space marks below were a b x is = elim (cases_eq a space) [
  | inl same ↦
      let none : get_or {A = Option Mapping} (replicate 16 None) b None ≡ Some x =
      sym (ap (λ (row : List (Option Mapping)). get_or row b None)
      (ap (λ (i : ℕ). get_or (set ms space (replicate 16 None)) i []) same ∙ get_or-set_same ms space (replicate 16 None) [] below)) ∙ is in
      absurd (cc (none_at b (cases_lt b 16), none))
  | inr apart ↦
      were a b x (sym (ap (λ (row : List (Option Mapping)). get_or row b None) (get_or-set_other ms space a (replicate 16 None) [] apart)) ∙ is)
]
  where
    none_at : (b : ℕ) → ((b < 16) ⊎ (16 ≤ b)) → get_or {A = Option Mapping} (replicate 16 None) b None ≡ None
    none_at b (inl less) = get_or-replicate {A = Option Mapping} 16 b None None less
    none_at b (inr le) = get_or_past (replicate {A = Option Mapping} 16 None) b None (omega (arith, le, length-replicate {A = Option Mapping} 16 None))

-- what holds of all mappings and marks
abbrev pub Holds : List (List (Option Mapping)) → List Bool → Type 0
Holds ms marks = All (λ row. length row ≡ 16) ms × AreMarked ms marks

pub holds_as : (ms ms' : List (List (Option Mapping))) (marks marks' : List Bool) → ms' ≡ ms → marks' ≡ marks → Holds ms marks → Holds ms' marks'
holds_as ms ms' marks marks' same on h = subst (λ (rows : List (List (Option Mapping))). Holds rows marks') (sym same) (subst (Holds ms) (sym on) h)

pub none_holds : (n : ℕ) (marks : List Bool) → Holds (replicate n (replicate 16 None)) marks
none_holds n marks = (All-replicate (λ row. length row ≡ 16) n (replicate 16 None) refl, none_marked n marks)

module _ (ms : List (List (Option Mapping))) (marks : List Bool) (h : Holds ms marks) (space : ℕ) (below : space < length ms) where
  long : length (places_at ms space) ≡ 16
  long = h.0 space [] below

  pub released_holds : Holds (set ms space (replicate 16 None)) marks
  released_holds = (All-set (λ row. length row ≡ 16) ms space (replicate 16 None) refl h.0, released_marked ms space marks below h.1)

  module _ (place : ℕ) (within : place < 16) where
    pub mapped_holds : (m : Mapping) → Holds (with_mapping ms space place (Some m)) (with_mark marks m.entry.object)
    mapped_holds m = (
      All-set (λ row. length row ≡ 16) ms space (set (places_at ms space) place (Some m)) (length-set (places_at ms space) place (Some m) ∙ long) h.0,
      mapped_marked ms space place (Some m) below (omega (arith, long, within)) marks m refl h.1,
    )

    pub emptied_holds : Holds (with_mapping ms space place None) marks
    emptied_holds = (
      All-set (λ row. length row ≡ 16) ms space (set (places_at ms space) place None) (length-set (places_at ms space) place None ∙ long) h.0,
      emptied_marked ms space place None below (omega (arith, long, within)) marks refl h.1,
    )
