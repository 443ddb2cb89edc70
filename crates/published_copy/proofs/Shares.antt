-- Each step of the published pair keeps its rule.
use Rattle.std.proofs.Common.{◌≡◌, ◌≢◌, ℕ, true, false, true≢false, List, [], ◌∷◌, ◌++◌, set, refl, sym, ◌∙◌, subst, ⊎_elim, Result, Ok, Err, IsOk, MatchResult, ap}
use mathlib.Core.Option.{some, some-ne-none}
use lib.ListN.{get_elem?}
use Rattle.crossbeam_utils.specs.Register.{Admits, Turns, TurnsAt, Forks, Merges}
use Rattle.atomic_table.proofs.Lists.{at_set, at_snoc}
use Rattle.published_copy.specs.declared.copies.Copied.{Copied}
use Rattle.published_copy.specs.declared.rules.Tag.{Tag}
use Rattle.published_copy.specs.Absorbed.{list_of}
use Rattle.published_copy.specs.declared.ops.Op.{Op}
use Rattle.published_copy.specs.Shares.{CopiesView, copies_with, unknown, tag_of, IsGood, Fits, Keeps, Sees, Marks}

-- each view names the copy's boot
abbrev AllFit : Copied → List Tag → Type 0
AllFit x views = (seat : ℕ) (v : Tag) → get_elem? views seat ≡ some v → Fits x v

off : {A : Type 0} → false ≡ true → A
off e = absurd (true≢false (sym e))

pub fits_unknown : (x : Copied) → Fits x unknown
fits_unknown x e = off e

set_fits : (x : Copied) (views : List Tag) (seat : ℕ) (w : Tag) → AllFit x views → Fits x w → AllFit x (set views seat w)
set_fits x views seat w h mine j u e = ⊎_elim (λ (t : (j ≡ seat) × (w ≡ u)). subst (Fits x) t.1 mine) (λ (t : (j ≢ seat) × (get_elem? views j ≡ some u)). h j u t.1) (at_set views seat j w u e)

snoc_fits : (x : Copied) (views : List Tag) (w : Tag) → AllFit x views → Fits x w → AllFit x (views ++ w ∷ [])
snoc_fits x views w h mine j u e = ⊎_elim (h j u) (λ (same : w ≡ u). subst (Fits x) same mine) (at_snoc views w u j e)

pub admits : Admits Keeps unknown
admits x views h = (h.0, snoc_fits x views unknown h.1 (fits_unknown x))

pub opens : (x : Copied) → IsGood x → Keeps x (unknown ∷ [])
opens x good = (good, snoc_fits x [] unknown (λ j u e. off_none j u e) (fits_unknown x))
  where
    off_none : (j : ℕ) (u : Tag) → get_elem? [] j ≡ some u → Fits x u
    off_none j u e = absurd (some-ne-none u (sym e))

pub sees : (seat : ℕ) (v : Tag) → Turns Keeps seat v (λ x. x) Sees
sees seat v x views h at = let mine = h.1 seat v at in (v, (h.0, set_fits x views seat v h.1 mine), (refl, h.0, mine))

pub marks : (seat : ℕ) (v : Tag) (x y : Copied) → IsGood y → y.seen.book ≡ x.seen.book → y.limits ≡ x.limits → TurnsAt Keeps seat v x y Marks
marks seat v x y good book limits views h at =
    let others : AllFit y views = λ j u e k. (book ∙ (h.1 j u e k).0, limits ∙ (h.1 j u e k).1) in
    (tag_of y, (good, set_fits y views seat (tag_of y) others (λ _. (refl, refl))), refl)

pub forks : (seat : ℕ) (v : Tag) → Forks Keeps seat v v v
forks seat v x views h at = let mine = h.1 seat v at in (h.0, snoc_fits x (set views seat v) v (set_fits x views seat v h.1 mine) mine)

pub merges : (seat : ℕ) (v : Tag) (other : ℕ) (w : Tag) → Merges Keeps seat v other w w unknown
merges seat v other w x views h at apart there =
    let theirs : Fits x w = ⊎_elim (λ (t : (other ≡ seat) × (w ≡ w)). absurd (apart t.0)) (λ (t : (other ≢ seat) × (get_elem? views other ≡ some w)). h.1 other w t.1) (at_set views seat other w w there) in
    (h.0, set_fits x (set views seat w) other unknown (set_fits x views seat w h.1 theirs) (fits_unknown x))

-- what a step that can't fail tells
pub surely : {T E : Type 0} {A C : Type 0} (B D : Type 0) (r : Result T E) → IsOk r → MatchResult r (λ _. A) (λ _. B)
    → MatchResult r (λ _. C) (λ _. D) → A × C
surely B D (Ok x) ok first second = (first, second)
surely B D (Err e) ok first second = absurd (true≢false (sym ok))

-- what contracts see of the copies, by the one that is shown and what it lacks
abbrev pub viewed : Copied → List Op → CopiesView
viewed x pending = copies_with (list_of x.sealed x.seen.log) pending x.reply x.further

-- one operation is lacked where none was
pub queued_view : (x y : Copied) (pending more : List Op) (op : Op) (v : CopiesView) → y ≡ x → viewed x pending ≡ v → v.pending ≡ []
    → more ≡ pending ++ op ∷ [] → viewed y more ≡ copies_with v.list (op ∷ []) v.reply v.further
queued_view x y pending more op v same is none more_is =
    ap (λ (z : Copied). viewed z more) same
    ∙ (λ i. copies_with ((is i).list)
    ((more_is ∙ ap (λ (p : List Op). p ++ op ∷ []) (ap (λ (u : CopiesView). u.pending) is ∙ none)) i) ((is i).reply) ((is i).further))

-- and else nothing has changed
pub kept_view : (x y : Copied) (pending more : List Op) (v : CopiesView) → y ≡ x → viewed x pending ≡ v → more ≡ pending
    → viewed y more ≡ v
kept_view x y pending more v same is more_is = (λ i. viewed (same i) (more_is i)) ∙ is
