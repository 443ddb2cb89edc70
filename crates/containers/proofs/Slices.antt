-- Lists that lie in nodes under other names: what a slice shows of a vector, and what a vector shows once a slice was changed.
use Rattle.std.proofs.Common.{◌≡◌, ℕ, List, [], length, vec_len, get_or, sym, subst}
use Rattle.std.specs.Global.{Vec}
use Rattle.std.specs.Vec.{with_items}
use Rattle.std.proofs.lemmas.List.{with_items_is}
use Rattle.containers.specs.Lists.{Lists, StandsAt}
use Rattle.containers.specs.Chain.{IsLaidOut, IsSound, lists_from}
use Rattle.containers.proofs.ListViews.{lists_are, laid_out}

pub laid_as : (cells : ℕ) (n p h l n' p' h' l' : List ℕ) (lists : List (List ℕ)) → n ≡ n' → p ≡ p' → h ≡ h' → l ≡ l'
    → IsLaidOut cells n p h l lists → IsLaidOut cells n' p' h' l' lists
laid_as cells n p h l n' p' h' l' lists en ep eh el lay =
    let path : (n, p, h, l) ≡ (n', p', h', l') = (λ i. (en i, ep i, eh i, el i)) in
    subst (λ (q : List ℕ × List ℕ × List ℕ × List ℕ). IsLaidOut cells q.0 q.1 q.2 q.3 lists) path lay

-- slices that show vectors in which the lists of a view lie
pub laid_first : (cells : ℕ) (n p h l : Vec ℕ) (n' p' h' l' : List ℕ) (v : Lists) → n' ≡ n.items → p' ≡ p.items → h' ≡ h.items
    → l' ≡ l.items → IsSound cells n.items p.items h.items l.items
    → (let r : Lists = record { cells = cells; lists = lists_from n.items cells l.items } in r ≡ v)
    → IsLaidOut cells n' p' h' l' v.lists
laid_first cells n p h l n' p' h' l' v en ep eh el sound view =
    laid_as cells n.items p.items h.items l.items n' p' h' l' v.lists (sym en) (sym ep) (sym eh) (sym el)
    (laid_out cells n.items p.items h.items l.items v sound view)

-- vectors whose items are these
pub laid_in : (cells : ℕ) (n p h l : Vec ℕ) (n' p' h' l' : List ℕ) (lists : List (List ℕ)) → length n' ≡ vec_len n
    → length p' ≡ vec_len p → length h' ≡ vec_len h → length l' ≡ vec_len l → IsLaidOut cells n' p' h' l' lists
    → IsLaidOut cells (with_items n n').items (with_items p p').items (with_items h h').items (with_items l l').items lists
laid_in cells n p h l n' p' h' l' lists en ep eh el lay =
    laid_as cells n' p' h' l' _ _ _ _ lists (sym (with_items_is n n' en)) (sym (with_items_is p p' ep)) (sym (with_items_is h h' eh)) (sym (with_items_is l l' el)) lay

-- lists read off the nodes are those that lie there
module _ (cells : ℕ) (n p h l : List ℕ) (lists : List (List ℕ)) (lay : IsLaidOut cells n p h l lists) where
  abbrev pub read : List (List ℕ)
  read = lists_from n cells l

  pub read_is : read ≡ lists
  read_is = lists_are cells n p h l lists lay

  pub read_laid : IsLaidOut cells n p h l read
  read_laid = subst (λ (ls : List (List ℕ)). IsLaidOut cells n p h l ls) (sym read_is) lay

  pub stands_read : (head place cell : ℕ) → StandsAt (get_or lists head []) place cell → StandsAt (get_or read head []) place cell
  stands_read head place cell at = subst (λ (ls : List (List ℕ)). StandsAt (get_or ls head []) place cell) (sym read_is) at

  pub stands_there : (head place cell : ℕ) → StandsAt (get_or read head []) place cell → StandsAt (get_or lists head []) place cell
  stands_there head place cell at = subst (λ (ls : List (List ℕ)). StandsAt (get_or ls head []) place cell) read_is at
