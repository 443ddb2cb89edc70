-- That a label is read as the argument of a call.
use Rattle.std.proofs.Common.{◌≡◌, ◌∙◌, ◌++◌, ℕ, Bool, true, false, List, Option, Some, None, ap, codes, drop, if◌then◌else◌, refl, subst, sym}
use Rattle.histar_audit.specs.Labels.{label_set, IsLabelText, ReadsLabel}
use Rattle.dump_text.proofs.CallLemmas.{call_is_one}
use Rattle.dump_text.specs.Call.{call_text, IsCall}
use Rattle.kernel_rules.specs.declared.calls.Call.{Call}
use Rattle.kernel_rules.specs.declared.calls.Call.TheVariants as calls
use Rattle.label_lattice.specs.Label.{LabelValue}
use Rattle.label_lattice.specs.Raw.{is_bad, stored_of}
use Rattle.label_lattice.specs.declared.raw_labels.RawLabel.{RawLabel}
use Rattle.text_words.specs.Arg.{IsArg}
use Rattle.text_words.specs.Reading.{Reads}

-- the line of the call whose argument is the text
abbrev pub line_of : List ℕ → List ℕ
line_of text = codes "self_set_label " ++ text

-- what spells a label is the argument of the call
line_is : (text : List ℕ) (raw : RawLabel) → IsLabelText text raw → line_of text ≡ call_text (calls.SelfSetLabel raw)
line_is text raw is = ap line_of is.spelt

is_call : (text : List ℕ) (raw : RawLabel) → IsLabelText text raw → IsCall (calls.SelfSetLabel raw)
is_call text raw is = (record { kind_is = refl; fits = is.fits }, tt)

-- the argument of the call spells a label
text_is : (text : List ℕ) (raw : RawLabel) → IsCall (calls.SelfSetLabel raw) → line_of text ≡ call_text (calls.SelfSetLabel raw) → IsLabelText text raw
text_is text raw is e = record { fits = is.0.fits; spelt = ap (drop 15) e }

-- a call that sets a label
pub record Sets (c : Call) (l : LabelValue) : Type 0 where
  raw : RawLabel
  is : c ≡ calls.SelfSetLabel raw
  good : is_bad raw ≡ false
  stored : l ≡ stored_of raw

set_if : (raw : RawLabel) (l : LabelValue) (b : Bool) → is_bad raw ≡ b → (if b then None else Some (stored_of raw)) ≡ Some l → Sets (calls.SelfSetLabel raw) l
set_if raw l true h e = cc
set_if raw l false h e = record { raw = raw; is = refl; good = h; stored = cc }

sets : (c : Call) (l : LabelValue) → label_set (Some c) ≡ Some l → Sets c l
sets (calls.SelfSetLabel raw) l e = set_if raw l (is_bad raw) refl e
sets calls.CatCreate l e = cc
sets (calls.SelfSetClearance a) l e = cc
sets (calls.SelfSetAs a) l e = cc
sets (calls.ContainerCreate a) l e = cc
sets (calls.SegmentCreate a) l e = cc
sets (calls.SegmentCopy a) l e = cc
sets (calls.AsCreate a) l e = cc
sets (calls.ThreadCreate a) l e = cc
sets (calls.GateCreate a) l e = cc
sets (calls.Link a b) l e = cc
sets (calls.Unref a) l e = cc
sets (calls.QuotaMove a b) l e = cc
sets (calls.SetFixed a) l e = cc
sets (calls.SetImmutable a) l e = cc
sets (calls.MetaSet a b) l e = cc
sets (calls.SegmentResize a b) l e = cc
sets (calls.SegmentWrite a b c) l e = cc
sets (calls.AsMap a b c) l e = cc
sets (calls.AsUnmap a b) l e = cc
sets (calls.Store a b) l e = cc
sets (calls.GateEnter a b c d) l e = cc
sets (calls.DevSend a b) l e = cc
sets (calls.DevRecv a) l e = cc

bad_if : (b : Bool) (l : LabelValue) → (if b then None else Some l) ≡ None → b ≡ true
bad_if true l e = refl
bad_if false l e = cc

-- what is read as a call is read as a label
pub label_reads : (text line : List ℕ) (call : Option Call) → line ≡ line_of text → Reads call_text IsCall line call → ReadsLabel text (label_set call)
label_reads text line None at reads = λ raw is. absurd (reads (calls.SelfSetLabel raw) (is_call text raw is) (at ∙ line_is text raw is))
label_reads text line (Some c) at reads = go (label_set (Some c)) refl
  where
    go : (o : Option LabelValue) → label_set (Some c) ≡ o → ReadsLabel text o
    go None e = λ raw is.
        let one : c ≡ calls.SelfSetLabel raw =
        call_is_one c (calls.SelfSetLabel raw) reads.0 (is_call text raw is) (sym reads.1 ∙ (at ∙ line_is text raw is)) in
        bad_if (is_bad raw) (stored_of raw) (sym (ap (λ (d : Call). label_set (Some d)) one) ∙ e)
    go (Some l) e =
        let h : Sets c l = sets c l e in
        (h.raw, text_is text h.raw (subst IsCall h.is reads.0) (sym at ∙ (reads.1 ∙ ap call_text h.is)), h.good, h.stored)
