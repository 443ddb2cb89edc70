-- One link that goes, with what it takes along.
use Rattle.std.proofs.Common.{◌≡◌, ℕ, ◌≤◌, inl, inr, List, [], length, get_or, Option, Some, None, sym, ap, ◌∙◌, subst, arith}
use Rattle.std.specs.Prelude.{slice_get, sum_by, IfSome}
use Rattle.std.proofs.lemmas.Bool.{cases_lt}
use Rattle.std.proofs.lemmas.Option.{slice_get-get_or, slice_get_past}
use Rattle.containers.specs.Lists.{Lists, family_at, cells_at, StandsAt}
use Rattle.containers.specs.Cells.{Stands, IsLink, Lists', IsDropped, IsSound}
use Rattle.containers.specs.Sweep.{IsSweeping, IsSwept, IsSimple, IsTree, IsCut}
use Rattle.containers.proofs.Moves.{changed_at}
use Rattle.containers.proofs.Sounds.{IsGone, dropped_gone, dropped_recorded}
use Rattle.containers.proofs.Sweeps.{sweeping_start, link_was, link_kept}

pub some_at : (xs : List ℕ) (k c : ℕ) → Some c ≡ slice_get xs k → StandsAt xs k c
some_at xs k c e = elim (cases_lt k (length xs)) [
  | inl lt ↦ record { within = lt; is = same (get_or xs k 0) c (sym (slice_get-get_or xs k 0 lt) ∙ sym e) }
  | inr le ↦ absurd (none_some c (sym (slice_get_past xs k le) ∙ sym e))
]
  where
    none_some : (x : ℕ) → None ≡ Some x → ⊥
    none_some x h = cc

    same : (x y : ℕ) → Some x ≡ Some y → x ≡ y
    same x y h = cc

-- so what a read of a list of a family finds stands there
pub some_stands : (r : List Lists) (family head place : ℕ) (found : Option ℕ) → found ≡ slice_get (cells_at r family head) place → IfSome found (Stands r family head)
some_stands r family head place None e = tt
some_stands r family head place (Some c) e = record { place = place; stands = some_at (cells_at r family head) place c e }

pub at_some : (xs : List ℕ) (k c : ℕ) → StandsAt xs k c → slice_get xs k ≡ Some c
at_some xs k c at = slice_get-get_or xs k 0 at.within ∙ ap (λ (i : ℕ). Some i) at.is

pub none_at : (xs : List ℕ) (k : ℕ) → None ≡ slice_get xs k → length xs ≤ k
none_at xs k e = elim (cases_lt k (length xs)) [
  | inl lt ↦ absurd (none_some (get_or xs k 0) (e ∙ slice_get-get_or xs k 0 lt))
  | inr le ↦ le
]
  where
    none_some : (x : ℕ) → None ≡ Some x → ⊥
    none_some x h = cc

module _ (size root : ℕ) (old between : List Lists) (container object cell : ℕ) (sound : IsSound size root old) (link : IsLink size old container object cell) (dropped : IsDropped size old between object cell) where
  gone : (to : ℕ) × IsGone size root old between cell to
  gone = dropped_gone size root old between container object cell sound link dropped

  pub start_cut : IsSweeping size root between between [] []
  start_cut = sweeping_start size root between gone.1.sound

  pub was_link : (d o c : ℕ) → IsLink size between d o c → IsLink size old d o c
  was_link d o c l = link_was size root old old between [] [] (sweeping_start size root old sound) cell gone.0 gone.1 d o c l

  pub was_listed : (d o : ℕ) → Lists' size between d o → Lists' size old d o
  was_listed d o l = record { cell = l.cell; link = was_link d o l.cell l.link }

  pub tree_cut : (rank : ℕ → ℕ) → IsTree size old rank → IsTree size between rank
  tree_cut rank tree d o x a b = tree d o x (was_listed d o a) (was_listed o x b)

  pub simple_cut : IsSimple size old → IsSimple size between
  simple_cut simple d o b c l m = simple d o b c (was_link d o b l) (was_link d o c m)

  pub total_cut : sum_by length (family_at between 0).lists ≡ sum_by length (family_at old 0).lists
  total_cut = gone.1.changed.total

  pub cut_of : (new : List Lists) (links : List (ℕ × ℕ)) (objects : List ℕ) → IsSimple size old → IsSwept size root between new links objects → IsCut size root old new container object links objects
  cut_of new links objects simple swept = record {
    between = between;
    cell = cell;
    link = link;
    dropped = dropped;
    without = was_listed;
    were = was_link;
    gone = λ l.
        let same : l.cell ≡ cell = simple container object l.cell cell (was_link container object l.cell l.link) link in
        let at : container ≡ gone.0 = changed_at size old between cell gone.0 gone.1.changed container (subst (λ (i : ℕ). Stands between 0 container i) same l.link.held) in
        omega (arith, gone.1.out, link.holder);
    others = λ d o c ne l. link_kept size root old old between [] [] (sweeping_start size root old sound) cell gone.0 gone.1 d o c ne l;
    recorded_between = dropped_recorded size root old between container object cell sound link dropped;
    recorded_before = gone.1.recorded_was;
    total = gone.1.changed.total;
    swept = swept;
  }
