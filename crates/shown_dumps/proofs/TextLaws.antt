-- Texts that are put together of parts.
use Rattle.std.proofs.Common.{◌≡◌, ℕ, ◌-◌, ◌<◌, ◌≤◌, List, ◌++◌, length, drop, ap, sym, ◌∙◌, arith, suc, zero}
use Rattle.std.proofs.lemmas.List.{append_assoc, append-nil, drop_all}
use Rattle.std.specs.List.{flat_map}
use Rattle.kernel_rules.specs.State.{State, list_at}
use Rattle.shown_dumps.specs.TreePlaces.{below, walk}
use Rattle.shown_dumps.specs.declared.tree.places.Place.{Place}

-- three parts, one after another
pub three_parts : (o o1 o2 o3 a b c : List ℕ) → o1 ≡ o ++ a → o2 ≡ o1 ++ b → o3 ≡ o2 ++ c → o3 ≡ o ++ ((a ++ b) ++ c)
three_parts o o1 o2 o3 a b c first second third =
    third ∙ ap (λ (l : List ℕ). l ++ c) (second ∙ ap (λ (l : List ℕ). l ++ b) first ∙ append_assoc o a b)
    ∙ append_assoc o (a ++ b) c

-- four parts
pub four_parts : (o o1 o2 o3 o4 a b c d : List ℕ) → o1 ≡ o ++ a → o2 ≡ o1 ++ b → o3 ≡ o2 ++ c → o4 ≡ o3 ++ d
    → o4 ≡ o ++ (((a ++ b) ++ c) ++ d)
four_parts o o1 o2 o3 o4 a b c d first second third fourth =
    fourth ∙ ap (λ (l : List ℕ). l ++ d) (three_parts o o1 o2 o3 a b c first second third) ∙ append_assoc o ((a ++ b) ++ c) d

-- all that is listed was told, after what stands first
pub all_listed : (f : ℕ → List ℕ) (out first lines told : List ℕ) (ids : List ℕ) (i : ℕ) → lines ≡ out ++ first
    → length ids ≤ i → told ++ flat_map f (drop i ids) ≡ lines ++ flat_map f ids
    → told ≡ out ++ (first ++ flat_map f ids)
all_listed f out first lines told ids i begun all more =
    sym (append-nil told) ∙ ap (λ l. told ++ flat_map f l) (sym (drop_all i ids all)) ∙ more
    ∙ ap (λ l. l ++ flat_map f ids) begun ∙ append_assoc out first (flat_map f ids)

-- a level of a walk, and the levels below it
level : (opened closed : Place → List ℕ) (s : State) (levels : ℕ) (p : Place) → 0 < levels
    → opened p ++ flat_map (λ id. walk opened closed s (levels - 1) (below p id)) (list_at s p.id) ++ closed p
    ≡ walk opened closed s levels p
level opened closed s zero p some = absurd (omega arith)
level opened closed s (suc n) p some =
    let less : suc n - 1 ≡ n = omega arith in
    ap (λ m. opened p ++ flat_map (λ id. walk opened closed s m (below p id)) (list_at s p.id) ++ closed p) less

-- all levels were told
pub told_level : (opened closed : Place → List ℕ) (s : State) (levels : ℕ) (p : Place) (out lines told end : List ℕ) (ids : List ℕ)
    (i : ℕ) → 0 < levels → lines ≡ out ++ opened p → ids ≡ list_at s p.id → length ids ≤ i
    → told ++ flat_map (λ id. walk opened closed s (levels - 1) (below p id)) (drop i ids)
    ≡ lines ++ flat_map (λ id. walk opened closed s (levels - 1) (below p id)) ids
    → end ≡ told ++ closed p → end ≡ out ++ walk opened closed s levels p
told_level opened closed s levels p out lines told end ids i some first listed all more ended =
    let f : ℕ → List ℕ = λ id. walk opened closed s (levels - 1) (below p id) in
    ended
    ∙ ap (λ l. l ++ closed p)
    (all_listed f out (opened p) lines told ids i first all more
    ∙ ap (λ l. out ++ (opened p ++ flat_map f l)) listed)
    ∙ append_assoc out (opened p ++ flat_map f (list_at s p.id)) (closed p)
    ∙ ap (λ l. out ++ l) (level opened closed s levels p some)
