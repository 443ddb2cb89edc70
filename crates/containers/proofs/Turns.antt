-- What one turn of the sweep reads.
use Rattle.std.proofs.Common.{◌≡◌, ◌≢◌, ℕ, ◌+◌, ◌<◌, List, Some, sym, ◌∙◌, subst, arith}
use Rattle.std.specs.Prelude.{slice_get}
use Rattle.containers.specs.Lists.{Lists, family_at, cells_at, StandsAt, IsLinked}
use Rattle.containers.specs.Cells.{Stands, IsLink, IsPaired}
use Rattle.containers.proofs.Handed.{first_stands}

pub record IsTurn (size : ℕ) (r : List Lists) (last object : ℕ) : Type 0 where
  pub within : object < size
  pub dying : Stands r 0 (size + 1) last
  pub names : Stands r 1 object last

module _ (size : ℕ) (r : List Lists) (paired : IsPaired size r) where
  -- a cell that is not spare stands in family 1
  pub linked_one : (h x : ℕ) → h ≢ size → Stands r 0 h x → IsLinked (family_at r 1) x
  linked_one h x ne s = let of = paired.object_of h x ne s in (of.0, of.2.place, of.2.stands)

  -- and a cell that is not spare stands in family 0
  pub linked_zero : (o x : ℕ) → o ≢ size → Stands r 1 o x → IsLinked (family_at r 0) x
  linked_zero o x ne s = let of = paired.holder_of o x ne s in (of.0, of.3.place, of.3.stands)

  pub last_linked : (last : ℕ) → Some last ≡ slice_get (cells_at r 0 (size + 1)) 0 → IsLinked (family_at r 1) last
  last_linked last e = linked_one (size + 1) last (λ (x : size + 1 ≡ size). omega arith) (first_stands r 0 (size + 1) last e)

  pub turn_of : (last object : ℕ) → Some last ≡ slice_get (cells_at r 0 (size + 1)) 0 → ((h p : ℕ) → StandsAt (cells_at r 1 h) p last → object ≡ h) → IsTurn size r last object
  turn_of last object e is =
      let dying = first_stands r 0 (size + 1) last e in
      let of = paired.object_of (size + 1) last (λ (x : size + 1 ≡ size). omega arith) dying in
      let same : object ≡ of.0 = is of.0 of.2.place of.2.stands in
      record { within = omega (arith, of.1); dying = dying; names = subst (λ (i : ℕ). Stands r 1 i last) (sym same) of.2 }

  pub cell_linked : (object cell : ℕ) → object < size → Some cell ≡ slice_get (cells_at r 0 object) 0 → IsLinked (family_at r 1) cell
  cell_linked object cell lt e = linked_one object cell (λ (x : object ≡ size). omega arith) (first_stands r 0 object cell e)

  pub entry_of : (object cell entry : ℕ) → object < size → Some cell ≡ slice_get (cells_at r 0 object) 0 → ((h p : ℕ) → StandsAt (cells_at r 1 h) p cell → entry ≡ h) → IsLink size r object entry cell
  entry_of object cell entry lt e is =
      let held = first_stands r 0 object cell e in
      let of = paired.object_of object cell (λ (x : object ≡ size). omega arith) held in
      let same : entry ≡ of.0 = is of.0 of.2.place of.2.stands in
      record { holder = lt; object = omega (arith, of.1); held = held; names = subst (λ (i : ℕ). Stands r 1 i cell) (sym same) of.2 }

  -- a cell at a place among the links to an object: it is linked, and by its holder a link
  pub holder_linked : (o k cell : ℕ) → o < size → StandsAt (cells_at r 1 o) k cell → IsLinked (family_at r 0) cell
  holder_linked o k cell lt at =
      linked_zero o cell (λ (e : o ≡ size). omega (arith, lt)) (record { place = k; stands = at })

  pub link_at : (d o k cell head : ℕ) → d < size → o < size → StandsAt (cells_at r 1 o) k cell
      → ((h p : ℕ) → StandsAt (cells_at r 0 h) p cell → head ≡ h) → head ≡ d → IsLink size r d o cell
  link_at d o k cell head d_within o_within at is same =
      let names : Stands r 1 o cell = record { place = k; stands = at } in
      let of = paired.holder_of o cell (λ (e : o ≡ size). omega (arith, o_within)) names in
      let found : head ≡ of.0 = is of.0 of.3.place of.3.stands in
      record {
        holder = d_within;
        object = o_within;
        held = subst (λ (i : ℕ). Stands r 0 i cell) (sym found ∙ same) of.3;
        names = names;
      }
