use Rattle.std.proofs.Common.{◌≡◌, ◌≢◌, ℕ, ◌+◌, ◌*◌, ◌<◌, List, Option, Some, None, get_or, IsSome, IfSome, refl, sym, ◌∙◌, ap, inl, inr, arith}
use Rattle.base.specs.Counts.{Counts, scanned, ScansAtMost}
use Rattle.label_lattice.specs.Label.{LabelValue}
use Rattle.label_lattice.specs.Bits.{bits_of}
use Rattle.label_intern.specs.declared.held.Held.{Held}
use Rattle.label_intern.specs.declared.table.Table.{Table}
use Rattle.label_intern.specs.Held.{held_at}
use Rattle.label_intern.specs.Table.{cell, ChangesPair}
use Rattle.label_intern.proofs.CountsLemmas.{scans_some, scans_both}
use Rattle.std.proofs.lemmas.Option.{none-some, same_Some}
use Rattle.std.proofs.lemmas.Bool.{cases_eq, false≢true}

module _ (slots : List (Option Held)) (listed : List ℕ) (at : ℕ) (l : LabelValue) (old : Table) where
  -- the order was written against the labels of the first n indexes that are listed
  pub record Fills (n : ℕ) (new : Table) (before after : Counts) : Type 0 where
    pub scans : ScansAtMost (3 + 6 * n) before after
    pub width : new.width ≡ old.width
    pub own : cell new at at ≡ bits_of l l
    pub forth : (k : ℕ) (h : Held) → k < n → held_at slots (get_or listed k 0) ≡ Some h
        → cell new at (get_or listed k 0) ≡ bits_of l h.label
    pub back : (k : ℕ) (h : Held) → k < n → held_at slots (get_or listed k 0) ≡ Some h
        → cell new (get_or listed k 0) at ≡ bits_of h.label l
    pub others : (i j : ℕ) → i ≢ at → j ≢ at → cell new i j ≡ cell old i j

  -- the order was written against the label itself
  pub fills_none : (t : Table) (before after : Counts) → ChangesPair old t at at (bits_of l l) (bits_of l l) → after ≡ scanned 3 before
      → Fills 0 t before after
  fills_none t before after change scans = record {
    scans = scans_some 3 before after scans;
    width = change.width;
    own = change.forth;
    forth = λ k h k_in _. absurd (omega (arith, k_in));
    back = λ k h k_in _. absurd (omega (arith, k_in));
    others = λ i j i_apart j_apart. change.others i j (λ p. i_apart p.0) (λ p. i_apart p.0);
  }

  -- the order against one more label was written
  fills_one : (n : ℕ) (mid t : Table) (before m after : Counts) (g : Held) → Fills n mid before m
      → held_at slots at ≡ None → held_at slots (get_or listed n 0) ≡ Some g
      → ChangesPair mid t at (get_or listed n 0) (bits_of l g.label) (bits_of g.label l) → after ≡ scanned 6 m
      → Fills (n + 1) t before after
  fills_one n mid t before m after g filled free e change scans =
      let other : ℕ = get_or listed n 0 in
      let apart : at ≢ other = λ same. none-some g (sym free ∙ (ap (held_at slots) same ∙ e)) in
      record {
        scans = scans_both _ 6 _ before m after filled.scans (scans_some 6 m after scans) (omega arith);
        width = change.width ∙ filled.width;
        own = change.others at at (λ p. apart p.1) (λ p. apart p.0) ∙ filled.own;
        forth = λ k h k_in at_k. elim (cases_eq (get_or listed k 0) other) as (λ _. cell t at (get_or listed k 0) ≡ bits_of l h.label) [
          | inl here ↦ rw (here, ← same_Some g h (sym e ∙ (rw here at at_k))) change.forth
          | inr before ↦
              change.others at (get_or listed k 0) (λ p. before p.1) (λ p. apart p.0)
              ∙ filled.forth k h (below k k_in before) at_k
        ];
        back = λ k h k_in at_k. elim (cases_eq (get_or listed k 0) other) as (λ _. cell t (get_or listed k 0) at ≡ bits_of h.label l) [
          | inl here ↦ rw (here, ← same_Some g h (sym e ∙ (rw here at at_k))) change.back
          | inr before ↦
              change.others (get_or listed k 0) at (λ p. apart p.1) (λ p. before p.0)
              ∙ filled.back k h (below k k_in before) at_k
        ];
        others = λ i j i_apart j_apart.
            change.others i j (λ p. i_apart p.0) (λ p. j_apart p.1) ∙ filled.others i j i_apart j_apart;
      }
    where
      below : (k : ℕ) → k < n + 1 → get_or listed k 0 ≢ get_or listed n 0 → k < n
      below k k_in apart = elim (cases_eq k n) as (λ _. k < n) [
        | inl same ↦ absurd (apart (ap (λ (i : ℕ). get_or listed i 0) same))
        | inr other ↦ omega arith
      ]

  -- the order against the label of the next index was written
  pub fills_more : (n : ℕ) (mid t : Table) (before m after : Counts) (read : LabelValue) → Fills n mid before m
      → held_at slots at ≡ None → IsSome (held_at slots (get_or listed n 0))
      → IfSome (held_at slots (get_or listed n 0)) (λ held. read ≡ held.label)
      → ChangesPair mid t at (get_or listed n 0) (bits_of l read) (bits_of read l) → after ≡ scanned 6 m
      → Fills (n + 1) t before after
  fills_more n mid t before m after read filled free some is change scans = of (held_at slots (get_or listed n 0)) refl some is
    where
      of : (v : Option Held) → held_at slots (get_or listed n 0) ≡ v → IsSome v → IfSome v (λ held. read ≡ held.label)
          → Fills (n + 1) t before after
      of None e some is = absurd (false≢true some)
      of (Some g) e some is = fills_one n mid t before m after g filled free e (rw is at change) scans
