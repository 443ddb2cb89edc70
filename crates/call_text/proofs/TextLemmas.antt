-- Texts of lines: how far a reader has come, and which line is the first fault.
use Rattle.std.proofs.Common.{◌≡◌, ℕ, ◌+◌, Bool, true, false, List, [], ◌∷◌, ◌++◌, length, Option, Some, None, refl, ap, ◌∙◌, sym, arith, subst, append_assoc}
use Rattle.std.specs.Prelude.{IsSome}
use Rattle.std.specs.List.{AllByRecursion}
use Rattle.std.proofs.lemmas.List.{append-nil, length-append}
use Rattle.text_words.specs.Lacks.{lacks}
use Rattle.text_words.proofs.OneLemmas.{first_part}
use Rattle.call_text.specs.Text.{run, line, lines_text, StopsAt, FaultsAt, Spells}
use Rattle.text_words.proofs.PartLemmas.{not_in}

run_from : {S V : Type 0} (next : S → V → Option S) (s : Option S) (vs : List V) (v : V) → run next s (vs ++ v ∷ []) ≡ run next (run next s vs) (v ∷ [])
run_from next None vs v = refl
run_from next (Some s) [] v = refl
run_from next (Some s) (w ∷ vs) v = run_from next (next s w) vs v

run_none : {S V : Type 0} (next : S → V → Option S) (o : Option S) → run next o [] ≡ o
run_none next None = refl
run_none next (Some s) = refl

pub run_more : {S V : Type 0} (next : S → V → Option S) (s : S) (vs : List V) (t : S) (v : V) → run next (Some s) vs ≡ Some t → run next (Some s) (vs ++ v ∷ []) ≡ next t v
run_more next s vs t v h = run_from next (Some s) vs v ∙ ap (λ o. run next o (v ∷ [])) h ∙ run_none next (next t v)

flat_more : {V : Type 0} (text : V → List ℕ) (vs : List V) (v : V) → lines_text text (vs ++ v ∷ []) ≡ lines_text text vs ++ (text v ++ 10 ∷ [])
flat_more text [] v = append-nil (text v ++ 10 ∷ [])
flat_more text (w ∷ vs) v = ap (λ (rest : List ℕ). line text w ++ rest) (flat_more text vs v) ∙ sym (append_assoc (line text w) (lines_text text vs) (line text v))

-- a list of lines and one more
pub lines_more : {V : Type 0} (text : V → List ℕ) (vs : List V) (v : V) (bytes rest after : List ℕ) → bytes ≡ lines_text text vs ++ rest → rest ≡ text v ++ 10 ∷ after → bytes ≡ lines_text text (vs ++ v ∷ []) ++ after
lines_more text vs v bytes rest after e h =
    let k : (lines_text text vs ++ (text v ++ 10 ∷ [])) ++ after ≡ lines_text text vs ++ (text v ++ 10 ∷ after) =
    append_assoc (lines_text text vs) (text v ++ 10 ∷ []) after ∙ ap (λ (x : List ℕ). lines_text text vs ++ x) (append_assoc (text v) (10 ∷ []) after) in
    e ∙ ap (λ (x : List ℕ). lines_text text vs ++ x) h ∙ sym k ∙ ap (λ (x : List ℕ). x ++ after) (sym (flat_more text vs v))

pub fit_more : {V : Type 0} (Fits : V → Type 0) (vs : List V) (v : V) → AllByRecursion Fits vs → Fits v → AllByRecursion Fits (vs ++ v ∷ [])
fit_more Fits [] v h f = (f, tt)
fit_more Fits (w ∷ vs) v h f = (h.0, fit_more Fits vs v h.1 f)

-- no line's spelling holds a line's end, and none is that of two lines
pub record IsGrammar {V : Type 0} (text : V → List ℕ) (Fits : V → Type 0) : Type 0 where
  pub lacks_end : (v : V) → Fits v → lacks 10 (text v) ≡ true
  pub one : (v w : V) → Fits v → Fits w → text v ≡ text w → v ≡ w

-- how far a reader has come
pub record Came {S V : Type 0} (text : V → List ℕ) (Fits : V → Type 0) (next : S → V → Option S) (start : S) (bytes : List ℕ) (vs : List V) (state : S) (rest : List ℕ) : Type 0 where
  pub fit : AllByRecursion Fits vs
  pub ran : run next (Some start) vs ≡ Some state
  pub parts : bytes ≡ lines_text text vs ++ rest

empty_no_line : (l after rest : List ℕ) → rest ≡ l ++ 10 ∷ after → rest ≡ [] → ⊥
empty_no_line l after rest h e = let n : length (l ++ 10 ∷ after) ≡ 0 = ap length (sym h ∙ e) in omega (arith, length-append l (10 ∷ after))

not_some : {S : Type 0} (o : Option S) → o ≡ None → IsSome o → ⊥
not_some None e h = cc
not_some (Some s) e h = cc

pub stop_no_end : {S V : Type 0} (text : V → List ℕ) (Fits : V → Type 0) (next : S → V → Option S) (ends : S → Bool) (start : S) (bytes : List ℕ) (vs : List V) (state : S) (rest : List ℕ) (n : ℕ)
    → Came text Fits next start bytes vs state rest → n ≡ length vs + 1 → lacks 10 rest ≡ true → (rest ≡ [] → ends state ≡ false) → StopsAt text Fits next ends start bytes n state rest
stop_no_end text Fits next ends start bytes vs state rest n came count none whole = record {
  before = vs;
  fit = came.fit;
  ran = came.ran;
  bytes_are = came.parts;
  number = count;
  no_more = λ v more f s e. not_in 10 (text v) more (subst (λ (x : List ℕ). lacks 10 x ≡ true) e none);
  not_whole = whole;
}

pub stop_line : {S V : Type 0} (text : V → List ℕ) (Fits : V → Type 0) (next : S → V → Option S) (ends : S → Bool) (start : S) (bytes : List ℕ) (vs : List V) (state : S) (rest : List ℕ) (n : ℕ) (l after : List ℕ)
    → IsGrammar text Fits → Came text Fits next start bytes vs state rest → n ≡ length vs + 1 → rest ≡ l ++ 10 ∷ after → lacks 10 l ≡ true → ((v : V) → Fits v → IsSome (next state v) → l ≡ text v → ⊥) → StopsAt text Fits next ends start bytes n state rest
stop_line text Fits next ends start bytes vs state rest n l after g came count h lack none = record {
  before = vs;
  fit = came.fit;
  ran = came.ran;
  bytes_are = came.parts;
  number = count;
  no_more = λ v more f s e. none v f s (first_part 10 l (text v) after more lack (g.lacks_end v f) (sym h ∙ e)).0;
  not_whole = λ e. absurd (empty_no_line l after rest h e);
}

pub stop_state : {S V : Type 0} (text : V → List ℕ) (Fits : V → Type 0) (next : S → V → Option S) (ends : S → Bool) (start : S) (bytes : List ℕ) (vs : List V) (state : S) (rest : List ℕ) (n : ℕ) (l after : List ℕ) (w : V)
    → IsGrammar text Fits → Came text Fits next start bytes vs state rest → n ≡ length vs + 1 → rest ≡ l ++ 10 ∷ after → lacks 10 l ≡ true → Fits w → l ≡ text w → next state w ≡ None → StopsAt text Fits next ends start bytes n state rest
stop_state text Fits next ends start bytes vs state rest n l after w g came count h lack fw is none =
    stop_line text Fits next ends start bytes vs state rest n l after g came count h lack (λ v f s e.
    let same : v ≡ w = g.one v w f fw (sym e ∙ is) in
    not_some (next state v) (ap (next state) same ∙ none) s)

pub fault_no_end : {S V : Type 0} (text : V → List ℕ) (Fits : V → Type 0) (next : S → V → Option S) (ends : S → Bool) (start : S) (bytes : List ℕ) (vs : List V) (state : S) (rest : List ℕ) (n : ℕ)
    → Came text Fits next start bytes vs state rest → n ≡ length vs + 1 → lacks 10 rest ≡ true → (rest ≡ [] → ends state ≡ false) → FaultsAt text Fits next ends start bytes n
fault_no_end text Fits next ends start bytes vs state rest n came count none whole = (state, (rest, stop_no_end text Fits next ends start bytes vs state rest n came count none whole))

pub fault_line : {S V : Type 0} (text : V → List ℕ) (Fits : V → Type 0) (next : S → V → Option S) (ends : S → Bool) (start : S) (bytes : List ℕ) (vs : List V) (state : S) (rest : List ℕ) (n : ℕ) (l after : List ℕ)
    → IsGrammar text Fits → Came text Fits next start bytes vs state rest → n ≡ length vs + 1 → rest ≡ l ++ 10 ∷ after → lacks 10 l ≡ true → ((v : V) → Fits v → IsSome (next state v) → l ≡ text v → ⊥) → FaultsAt text Fits next ends start bytes n
fault_line text Fits next ends start bytes vs state rest n l after g came count h lack none = (state, (rest, stop_line text Fits next ends start bytes vs state rest n l after g came count h lack none))

-- what is spelled has no faulty line
stuck : {S V : Type 0} (next : S → V → Option S) (o : Option S) (vs : List V) (t : S) → run next o vs ≡ Some t → IsSome o
stuck next None vs t e = absurd cc
stuck next (Some s) vs t e = refl

pub never_both : {S V : Type 0} (text : V → List ℕ) (Fits : V → Type 0) (next : S → V → Option S) (ends : S → Bool) → IsGrammar text Fits → (o : Option S) (vs before : List V) (t u : S) (rest : List ℕ)
    → AllByRecursion Fits vs → AllByRecursion Fits before → run next o vs ≡ Some t → ends t ≡ true → run next o before ≡ Some u → lines_text text vs ≡ lines_text text before ++ rest
    → ((v : V) (more : List ℕ) → Fits v → IsSome (next u v) → rest ≡ text v ++ 10 ∷ more → ⊥) → (rest ≡ [] → ends u ≡ false) → ⊥
never_both text Fits next ends g None vs before t u rest fv fb rv end rb e none whole = cc
never_both text Fits next ends g (Some s) [] [] t u rest fv fb rv end rb e none whole =
    let p = whole (sym e) in let q : t ≡ u = cc in let r : ends u ≡ true = ap ends (sym q) ∙ end in cc
never_both text Fits next ends g (Some s) (v ∷ vs) [] t u rest fv fb rv end rb e none whole =
    let q : s ≡ u = cc in
    none v (lines_text text vs) fv.0 (subst (λ x. IsSome (next x v)) q (stuck next (next s v) vs t rv)) (sym e ∙ append_assoc (text v) (10 ∷ []) (lines_text text vs))
never_both text Fits next ends g (Some s) [] (b ∷ before) t u rest fv fb rv end rb e none whole =
    empty_no_line (text b) (lines_text text before ++ rest) [] (e ∙ append_assoc (text b ++ 10 ∷ []) (lines_text text before) rest ∙ append_assoc (text b) (10 ∷ []) (lines_text text before ++ rest)) refl
never_both text Fits next ends g (Some s) (v ∷ vs) (b ∷ before) t u rest fv fb rv end rb e none whole =
    let k : text v ++ 10 ∷ lines_text text vs ≡ text b ++ 10 ∷ (lines_text text before ++ rest) =
    sym (append_assoc (text v) (10 ∷ []) (lines_text text vs)) ∙ e ∙ append_assoc (text b ++ 10 ∷ []) (lines_text text before) rest ∙ append_assoc (text b) (10 ∷ []) (lines_text text before ++ rest) in
    let p = first_part 10 (text v) (text b) (lines_text text vs) (lines_text text before ++ rest) (g.lacks_end v fv.0) (g.lacks_end b fb.0) k in
    let same : b ≡ v = sym (g.one v b fv.0 fb.0 p.0) in
    never_both text Fits next ends g (next s v) vs before t u rest fv.1 fb.1 rv end (subst (λ x. run next (next s x) before ≡ Some u) same rb) p.1 none whole

pub stops_not_spelled : {S V : Type 0} (text : V → List ℕ) (Fits : V → Type 0) (next : S → V → Option S) (ends : S → Bool) (start : S) → IsGrammar text Fits → (bytes : List ℕ) (n : ℕ) (state : S) (rest : List ℕ) (vs : List V) → StopsAt text Fits next ends start bytes n state rest → Spells text Fits next ends start bytes vs → ⊥
stops_not_spelled text Fits next ends start g bytes n state rest vs f s =
    never_both text Fits next ends g (Some start) vs f.before s.state state rest s.fit f.fit s.ran s.ended f.ran (sym s.bytes_are ∙ f.bytes_are) f.no_more f.not_whole

pub faults_not_spelled : {S V : Type 0} (text : V → List ℕ) (Fits : V → Type 0) (next : S → V → Option S) (ends : S → Bool) (start : S) → IsGrammar text Fits → (bytes : List ℕ) (n : ℕ) (vs : List V) → FaultsAt text Fits next ends start bytes n → Spells text Fits next ends start bytes vs → ⊥
faults_not_spelled text Fits next ends start g bytes n vs f s = stops_not_spelled text Fits next ends start g bytes n f.0 f.1.0 vs f.1.1 s

-- one text of one list of lines
lines_are_one : {V : Type 0} (text : V → List ℕ) (Fits : V → Type 0) → IsGrammar text Fits → (vs ws : List V) → AllByRecursion Fits vs → AllByRecursion Fits ws → lines_text text vs ≡ lines_text text ws → vs ≡ ws
lines_are_one text Fits g [] [] fv fw e = refl
lines_are_one text Fits g [] (w ∷ ws) fv fw e = absurd (empty_no_line (text w) (lines_text text ws) [] (e ∙ append_assoc (text w) (10 ∷ []) (lines_text text ws)) refl)
lines_are_one text Fits g (v ∷ vs) [] fv fw e = absurd (empty_no_line (text v) (lines_text text vs) [] (sym e ∙ append_assoc (text v) (10 ∷ []) (lines_text text vs)) refl)
lines_are_one text Fits g (v ∷ vs) (w ∷ ws) fv fw e =
    let k : text v ++ 10 ∷ lines_text text vs ≡ text w ++ 10 ∷ lines_text text ws = sym (append_assoc (text v) (10 ∷ []) (lines_text text vs)) ∙ e ∙ append_assoc (text w) (10 ∷ []) (lines_text text ws) in
    let p = first_part 10 (text v) (text w) (lines_text text vs) (lines_text text ws) (g.lacks_end v fv.0) (g.lacks_end w fw.0) k in
    let same : v ≡ w = g.one v w fv.0 fw.0 p.0 in
    let rest : vs ≡ ws = lines_are_one text Fits g vs ws fv.1 fw.1 p.1 in
    cc

pub spelled_once : {S V : Type 0} (text : V → List ℕ) (Fits : V → Type 0) (next : S → V → Option S) (ends : S → Bool) (start : S) → IsGrammar text Fits → (bytes : List ℕ) (vs ws : List V) → Spells text Fits next ends start bytes vs → Spells text Fits next ends start bytes ws → vs ≡ ws
spelled_once text Fits next ends start g bytes vs ws p q = lines_are_one text Fits g vs ws p.fit q.fit (sym p.bytes_are ∙ q.bytes_are)

pub came_more : {S V : Type 0} (text : V → List ℕ) (Fits : V → Type 0) (next : S → V → Option S) (start : S) (bytes : List ℕ) (vs : List V) (state : S) (rest l after : List ℕ) (v : V) (later : S)
    → Came text Fits next start bytes vs state rest → rest ≡ l ++ 10 ∷ after → Fits v → l ≡ text v → next state v ≡ Some later → Came text Fits next start bytes (vs ++ v ∷ []) later after
came_more text Fits next start bytes vs state rest l after v later came h f is on = record {
  fit = fit_more Fits vs v came.fit f;
  ran = run_more next start vs state v came.ran ∙ on;
  parts = lines_more text vs v bytes rest after came.parts (h ∙ ap (λ (x : List ℕ). x ++ 10 ∷ after) is);
}
