-- Containers are younger than those that list them.
use Rattle.std.proofs.Common.{◌≡◌, ℕ, ◌<◌, true, false, not, ◌||◌, ◌&&◌, ◌==◌, nat_lt, List, [], ◌∷◌, refl, sym, ◌∙◌, ap}
use Rattle.std.specs.List.{list_all}
use Rattle.std.proofs.lemmas.Bool.{and_from, or_right, eq-eqb, lt-ltb}
use Rattle.base.specs.Live.{has, links}
use Rattle.base.specs.declared.kinds.Kind.TheVariants as kinds
use Rattle.kernel_rules.specs.State.{State, is_kind_at, listed, lists_of}
use Rattle.kernel_rules.specs.declared.objects.Object.{Object}
use Rattle.arena_state.specs.Assembled.{pieces_state}
use Rattle.arena_state.specs.Filled.{Content, filled_in, filled_body}
use Rattle.arena_state.specs.Restored.{lists_younger, are_younger}
use Rattle.arena_state.specs.Stocked.{content_at}
use Rattle.arena_state.specs.States.{state_of}
use Rattle.arena_state.specs.declared.states.ArenaState.{ArenaState}
use Rattle.arena_state.proofs.FilledLaws.{listed_filled}
use Rattle.arena_state.proofs.WholeLaws.{kind_bare}

-- ids are, if each container among them is
list_younger : (s : State) (d : ℕ) (ids : List ℕ)
    → ((b : ℕ) → has ids b ≡ true → is_kind_at s kinds.Container b ≡ true → d < b) → lists_younger s d ids ≡ true
list_younger s d [] h = refl
list_younger s d (i ∷ ids) h =
    and_from (not (is_kind_at s kinds.Container i) || nat_lt d i) (lists_younger s d ids)
    (elim (is_kind_at s kinds.Container i) as (λ v. is_kind_at s kinds.Container i ≡ v → (not v || nat_lt d i) ≡ true) [
      | true ↦ λ is. lt-ltb d i (h i (ap (λ b. b || has ids i) (eq-eqb i i refl)) is)
      | false ↦ λ is. refl
    ] refl)
    (list_younger s d ids (λ b there. h b (or_right (b == i) (has ids b) there)))

-- and so are those of each object
all_younger : (s : State) (cs : ℕ → Content) (es : List (ℕ × Object))
    → ((a b : ℕ) → links (lists_of es) a b ≡ true → is_kind_at s kinds.Container b ≡ true → a < b)
    → list_all (λ e. lists_younger s e.0 (listed e.1.body)) (filled_in cs es) ≡ true
all_younger s cs [] h = refl
all_younger s cs (e ∷ es) h =
    and_from (lists_younger s e.0 (listed (filled_body (cs e.0) e.1.body)))
    (list_all (λ e. lists_younger s e.0 (listed e.1.body)) (filled_in cs es))
    (ap (lists_younger s e.0) (listed_filled (cs e.0) e.1.body)
    ∙ list_younger s e.0 (listed e.1.body)
    (λ b there. h e.0 b (λ i. (eq-eqb e.0 e.0 refl i && there i) || links (lists_of es) e.0 b)))
    (all_younger s cs es
    (λ a b link. h a b (or_right ((a == e.0) && has (listed e.1.body) b) (links (lists_of es) a b) link)))

-- each state of an arena
pub younger : (a : ArenaState) → are_younger (state_of a) ≡ true
younger a =
    all_younger (state_of a) (content_at a.pieces) (pieces_state a.pieces).objects
    (λ x y link kind. a.sound.climbs x y (kind_bare a.pieces kinds.Container y true kind)
    (ap (λ (lists : List (ℕ × List ℕ)). links lists x y) (sym a.sound.lists) ∙ link))
