-- A function of several values, where each of them may be none.
use Rattle.std.specs.Prelude.{Option, option_map}
use Rattle.std.specs.Option.{option_and_then}

-- of two values
abbrev pub map2 : {A B C : Type 0} → (A → B → C) → Option A → Option B → Option C
map2 f a b = option_and_then (λ x. option_map (f x) b) a

-- of three values
abbrev pub map3 : {A B C D : Type 0} → (A → B → C → D) → Option A → Option B → Option C → Option D
map3 f a b c = option_and_then (λ x. map2 (f x) b c) a

-- of four values
abbrev pub map4 : {A B C D E : Type 0} → (A → B → C → D → E)
    → Option A → Option B → Option C → Option D → Option E
map4 f a b c d = option_and_then (λ x. map3 (f x) b c d) a

-- of five values
abbrev pub map5 : {A B C D E F : Type 0} → (A → B → C → D → E → F)
    → Option A → Option B → Option C → Option D → Option E → Option F
map5 f a b c d e = option_and_then (λ x. map4 (f x) b c d e) a
