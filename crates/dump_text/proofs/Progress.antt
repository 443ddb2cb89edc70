-- How far a dump has been read.
use Rattle.std.proofs.Common.{◌≡◌, ℕ, ◌+◌, ◌<◌, ◌≤◌, Bool, true, List, [], ◌∷◌, ◌++◌, length, Option, Some, None, refl, ap, ◌∙◌, sym, arith, subst, length-append}
use Rattle.std.specs.Prelude.{IsSome}
use Rattle.std.proofs.lemmas.List.{append-nil}
use Rattle.text_words.specs.Lacks.{lacks}
use Rattle.call_text.proofs.TextLemmas.{Came, came_more, fault_no_end, fault_line}
use Rattle.dump_text.specs.declared.places.Place.{Place}
use Rattle.dump_text.specs.declared.lines.Line.{Line}
use Rattle.dump_text.specs.Lists.{DumpLists}
use Rattle.dump_text.specs.Line.{line_text, IsLine}
use Rattle.dump_text.specs.Dump.{next, ends, start, lines_of, dump_text, IsDump, DumpFaultsAt}
use Rattle.dump_text.specs.Making.{Fills}
use Rattle.dump_text.specs.Reads.{have_places}
use Rattle.dump_text.specs.Reading.{nothing, added, Takes}
use Rattle.dump_text.proofs.LineLemmas.{dump_grammar}
use Rattle.dump_text.proofs.Told.{told, told_push, told_dump}
use Rattle.dump_text.proofs.Relined.{all_spelled}

pub record Progress (bytes : List ℕ) (d : DumpLists) (place : Place) (count : ℕ) (rest : List ℕ) : Type 0 where
  pub lines : List Line
  pub came : Came line_text IsLine next start bytes lines place rest
  pub tells : d ≡ told lines nothing
  pub counted : count ≡ length lines
  pub short : count + length rest ≤ length bytes

-- nothing was read
pub progress_start : (bytes : List ℕ) (d : DumpLists) → d ≡ nothing → Progress bytes d start 0 bytes
progress_start bytes d e = record {
  lines = [];
  came = record { fit = tt; ran = refl; parts = refl };
  tells = e;
  counted = refl;
  short = omega arith;
}

-- one more line was read
pub progress_more : (bytes : List ℕ) (d more : DumpLists) (first later : Place) (count : ℕ) (rest l after : List ℕ) → Progress bytes d first count rest → rest ≡ l ++ 10 ∷ after → length after < length rest → Takes l first d more (Some later)
    → Progress bytes more later (count + 1) after
progress_more bytes d more first later count rest l after at parts shorter t = record {
  lines = at.lines ++ t.0 ∷ [];
  came = came_more line_text IsLine next start bytes at.lines first rest l after t.0 later at.came parts t.1 t.2 t.3;
  tells = t.4 ∙ ap (added t.0) at.tells ∙ sym (told_push at.lines t.0 nothing);
  counted = (let n = at.counted in omega (arith, n, length-append at.lines (t.0 ∷ [])));
  short = (let n = at.short in omega (arith, n, shorter));
}

-- the last line lacks its end
pub fault_at_end : (bytes : List ℕ) (d : DumpLists) (first : Place) (count : ℕ) (rest : List ℕ) → Progress bytes d first count rest → lacks 10 rest ≡ true → (rest ≡ [] → ⊥) → DumpFaultsAt bytes (count + 1)
fault_at_end bytes d first count rest at lack some =
    fault_no_end line_text IsLine next ends start bytes at.lines first rest (count + 1) at.came (ap (λ n. n + 1) at.counted) lack (λ e. absurd (some e))

-- a line that may not stand there
pub fault_there : (bytes : List ℕ) (d more : DumpLists) (first : Place) (count : ℕ) (rest l after : List ℕ) → Progress bytes d first count rest → rest ≡ l ++ 10 ∷ after → lacks 10 l ≡ true → Takes l first d more None → DumpFaultsAt bytes (count + 1)
fault_there bytes d more first count rest l after at parts lack t =
    fault_line line_text IsLine next ends start bytes at.lines first rest (count + 1) l after dump_grammar at.came (ap (λ n. n + 1) at.counted) parts lack t

nothing_left : (xs rest : List ℕ) → rest ≡ [] → xs ++ rest ≡ xs
nothing_left xs rest e = ap (λ (x : List ℕ). xs ++ x) e ∙ append-nil xs

-- all was read
pub progress_end : (bytes : List ℕ) (d : DumpLists) (first : Place) (count : ℕ) (rest : List ℕ) → Progress bytes d first count rest → rest ≡ [] → ends first ≡ true → IsDump bytes d
progress_end bytes d first count rest at none e =
    let all = all_spelled at.lines first at.came.fit at.came.ran e in
    let same : all.dump ≡ d = sym (told_dump all.dump all.placed) ∙ sym (ap (λ (vs : List Line). told vs nothing) all.is) ∙ sym at.tells in
    let lines_are : at.lines ≡ lines_of d = all.is ∙ ap lines_of same in
    let came = subst (λ (vs : List Line). Came line_text IsLine next start bytes vs first rest) lines_are at.came in
    record {
      spelled = record {
        fit = came.fit;
        state = first;
        ran = came.ran;
        ended = e;
        bytes_are = came.parts ∙ nothing_left (dump_text d) rest none;
      };
      placed = subst (λ (x : DumpLists). have_places x.checkpoint x.events x.reads ≡ true) same all.placed;
    }

not_some : {S : Type 0} (o : Option S) → o ≡ None → IsSome o → ⊥
not_some None e h = cc
not_some (Some s) e h = cc

pub filled : (text : List ℕ) (l : Line) (b : Bool) → b ≡ true → Fills line_text IsLine text l b → IsLine l × (text ≡ line_text l)
filled text l b e h = subst (λ (x : Bool). Fills line_text IsLine text l x) e h

-- the line that was read may not stand there, and no other has its spelling
pub not_next : (text : List ℕ) (first : Place) (l : Line) → IsLine l → text ≡ line_text l → next first l ≡ None → (m : Line) → IsLine m → IsSome (next first m) → text ≡ line_text m → ⊥
not_next text first l is e none m im some em =
    let same : m ≡ l = dump_grammar.one m l im is (sym em ∙ e) in
    not_some (next first m) (ap (next first) same ∙ none) some

pub taken : (text : List ℕ) (first : Place) (d more : DumpLists) (o p : Option Place) → o ≡ p → Takes text first d more o → Takes text first d more p
taken text first d more o p e t = subst (λ (x : Option Place). Takes text first d more x) e t
