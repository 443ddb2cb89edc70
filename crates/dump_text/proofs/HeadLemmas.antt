-- The lines of objects: no two have one spelling, and none holds a line's end.
use Rattle.std.proofs.Common.{lit<, ◌≡◌, ℕ, ◌<◌, ◌^◌, Bool, true, false, eqb, List, [], ◌∷◌, ◌++◌, length, get_or, refl, ap, ◌∙◌, sym, decimal, eq-eqb}
use Rattle.std.specs.Prelude.{codes}
use Rattle.std.proofs.lemmas.Fmt.{decimal_injective}
use Rattle.text_words.specs.Lacks.{lacks}
use Rattle.text_words.specs.Label.{LabelValue}
use Rattle.text_words.proofs.LackLemmas.{lacks-append, decimal_lacks}
use Rattle.text_words.proofs.OneLemmas.{first_part}
use Rattle.text_words.specs.declared.spoken_calls.args.ArgKind.{ArgKind}
use Rattle.text_words.specs.Spoken.{AreArgs}
use Rattle.text_words.proofs.SpokenLemmas.{arguments_are_one, arguments_lack_end}
use Rattle.call_text.specs.Place.{raw_of}
use Rattle.label_lattice.specs.declared.raw_labels.RawLabel.{RawLabel}
use Rattle.checkpoints.specs.declared.checkpoints.Attributes.{Attributes}
use Rattle.dump_text.specs.declared.heads.Common.{Common}
use Rattle.dump_text.specs.declared.heads.ContainerHead.{ContainerHead}
use Rattle.dump_text.specs.declared.heads.SegmentHead.{SegmentHead}
use Rattle.dump_text.specs.declared.heads.SpaceHead.{SpaceHead}
use Rattle.dump_text.specs.declared.heads.ThreadHead.{ThreadHead}
use Rattle.dump_text.specs.declared.heads.GateHead.{GateHead}
use Rattle.dump_text.specs.declared.heads.DeviceHead.{DeviceHead}
use Rattle.dump_text.specs.declared.heads.Head.{Head}
use Rattle.dump_text.specs.declared.heads.Head.TheVariants as heads
use Rattle.dump_text.specs.declared.state_lines.ObjectHead.{ObjectHead}
use Rattle.dump_text.specs.declared.words.Word.{Word}
use Rattle.dump_text.specs.Word.{args_of, words_text, spoken_label}
use Rattle.dump_text.specs.Head.{flag_of, container_words, segment_words, space_words, thread_words, gate_words, device_words, container_kinds, segment_kinds, space_kinds, thread_kinds, gate_kinds, device_kinds, head_text, IsHead, object_text, IsObject}
use Rattle.dump_text.proofs.Readings.{cancel}
use Rattle.dump_text.proofs.CallLemmas.{label_again}
use Rattle.dump_text.proofs.ReportLemmas.{number_lacks}

pub words_lack_end : (ks : List ArgKind) (b : List ℕ) (ws : List Word) → 0 < length ks → lacks 10 b ≡ true → AreArgs ks (args_of ws) → lacks 10 (b ++ words_text ws) ≡ true
words_lack_end ks b ws some l is = lacks-append 10 b (words_text ws) l (arguments_lack_end ks (args_of ws) some is)

pub words_same : (ks : List ArgKind) (b : List ℕ) (xs ys : List Word) → 0 < length ks → AreArgs ks (args_of xs) → AreArgs ks (args_of ys) → b ++ words_text xs ≡ b ++ words_text ys → args_of xs ≡ args_of ys
words_same ks b xs ys some ix iy e = arguments_are_one ks (args_of xs) (args_of ys) some ix iy (cancel b (words_text xs) (words_text ys) e)

pub number_lacks_end : (n : ℕ) → n < 2 ^ 64 → lacks 10 (decimal n) ≡ true
number_lacks_end n lt = decimal_lacks 10 n (lit< tt) lt

pub raw_is_one : (a b : RawLabel) → spoken_label a ≡ spoken_label b → a ≡ b
raw_is_one a b e = sym (label_again a) ∙ ap (λ (l : LabelValue). raw_of l []) e ∙ label_again b

-- two numbers that are told apart are not the same
pub apart : (m n : ℕ) → eqb m n ≡ false → m ≡ n → ⊥
apart m n f e = let t = eq-eqb m n e in cc

pub flag_is_one : (a b : Bool) → flag_of a ≡ flag_of b → a ≡ b
flag_is_one true true e = refl
flag_is_one true false e = absurd (apart 1 0 refl e)
flag_is_one false true e = absurd (apart 0 1 refl e)
flag_is_one false false e = refl

common_is_one : (a b : Common) → a.quota ≡ b.quota → flag_of a.fixed ≡ flag_of b.fixed → spoken_label a.label ≡ spoken_label b.label → a ≡ b
common_is_one a b q f l =
    let f' = flag_is_one a.fixed b.fixed f in
    let l' = raw_is_one a.label b.label l in
    (λ i. record { label = l' i; quota = q i; fixed = f' i })

attributes_are_one : (a b : Attributes) → flag_of a.immutable ≡ flag_of b.immutable → a.metadata ≡ b.metadata → a ≡ b
attributes_are_one a b f m =
    let f' = flag_is_one a.immutable b.immutable f in
    (λ i. record { immutable = f' i; metadata = m i })

container_is_one : (a b : ContainerHead) → args_of (container_words a) ≡ args_of (container_words b) → a ≡ b
container_is_one a b e =
    let q : a.common.quota ≡ b.common.quota = cc in
    let f : flag_of a.common.fixed ≡ flag_of b.common.fixed = cc in
    let g : flag_of a.attributes.immutable ≡ flag_of b.attributes.immutable = cc in
    let l : spoken_label a.common.label ≡ spoken_label b.common.label = cc in
    let v : a.avoid ≡ b.avoid = cc in
    let m : a.attributes.metadata ≡ b.attributes.metadata = cc in
    let c = common_is_one a.common b.common q f l in
    let t = attributes_are_one a.attributes b.attributes g m in
    (λ i. record { common = c i; attributes = t i; avoid = v i })

segment_is_one : (a b : SegmentHead) → args_of (segment_words a) ≡ args_of (segment_words b) → a ≡ b
segment_is_one a b e =
    let q : a.common.quota ≡ b.common.quota = cc in
    let f : flag_of a.common.fixed ≡ flag_of b.common.fixed = cc in
    let g : flag_of a.attributes.immutable ≡ flag_of b.attributes.immutable = cc in
    let l : spoken_label a.common.label ≡ spoken_label b.common.label = cc in
    let v : a.pages ≡ b.pages = cc in
    let m : a.attributes.metadata ≡ b.attributes.metadata = cc in
    let c = common_is_one a.common b.common q f l in
    let t = attributes_are_one a.attributes b.attributes g m in
    (λ i. record { common = c i; attributes = t i; pages = v i })

space_is_one : (a b : SpaceHead) → args_of (space_words a) ≡ args_of (space_words b) → a ≡ b
space_is_one a b e =
    let q : a.common.quota ≡ b.common.quota = cc in
    let f : flag_of a.common.fixed ≡ flag_of b.common.fixed = cc in
    let g : flag_of a.attributes.immutable ≡ flag_of b.attributes.immutable = cc in
    let l : spoken_label a.common.label ≡ spoken_label b.common.label = cc in
    let m : a.attributes.metadata ≡ b.attributes.metadata = cc in
    let c = common_is_one a.common b.common q f l in
    let t = attributes_are_one a.attributes b.attributes g m in
    (λ i. record { common = c i; attributes = t i })

thread_is_one : (a b : ThreadHead) → args_of (thread_words a) ≡ args_of (thread_words b) → a ≡ b
thread_is_one a b e =
    let q : a.common.quota ≡ b.common.quota = cc in
    let f : flag_of a.common.fixed ≡ flag_of b.common.fixed = cc in
    let l : spoken_label a.common.label ≡ spoken_label b.common.label = cc in
    let k : spoken_label a.thread.clearance ≡ spoken_label b.thread.clearance = cc in
    let v : spoken_label a.thread.verify ≡ spoken_label b.thread.verify = cc in
    let d : a.thread.space.container ≡ b.thread.space.container = cc in
    let o : a.thread.space.object ≡ b.thread.space.object = cc in
    let p : a.thread.entry_point ≡ b.thread.entry_point = cc in
    let x : a.thread.closure ≡ b.thread.closure = cc in
    let c = common_is_one a.common b.common q f l in
    let k' = raw_is_one a.thread.clearance b.thread.clearance k in
    let v' = raw_is_one a.thread.verify b.thread.verify v in
    (λ i. record {
      common = c i;
      thread = record {
        clearance = k' i;
        verify = v' i;
        space = record { container = d i; object = o i };
        entry_point = p i;
        closure = x i;
      };
    })

gate_is_one : (a b : GateHead) → args_of (gate_words a) ≡ args_of (gate_words b) → a ≡ b
gate_is_one a b e =
    let q : a.common.quota ≡ b.common.quota = cc in
    let f : flag_of a.common.fixed ≡ flag_of b.common.fixed = cc in
    let g : flag_of a.attributes.immutable ≡ flag_of b.attributes.immutable = cc in
    let l : spoken_label a.common.label ≡ spoken_label b.common.label = cc in
    let k : spoken_label a.gate.clearance ≡ spoken_label b.gate.clearance = cc in
    let d : a.gate.space.container ≡ b.gate.space.container = cc in
    let o : a.gate.space.object ≡ b.gate.space.object = cc in
    let p : a.gate.entry_point ≡ b.gate.entry_point = cc in
    let x : a.gate.closure ≡ b.gate.closure = cc in
    let m : a.attributes.metadata ≡ b.attributes.metadata = cc in
    let c = common_is_one a.common b.common q f l in
    let t = attributes_are_one a.attributes b.attributes g m in
    let k' = raw_is_one a.gate.clearance b.gate.clearance k in
    (λ i. record {
      common = c i;
      attributes = t i;
      gate = record {
        clearance = k' i;
        space = record { container = d i; object = o i };
        entry_point = p i;
        closure = x i;
      };
    })

device_is_one : (a b : DeviceHead) → args_of (device_words a) ≡ args_of (device_words b) → a ≡ b
device_is_one a b e =
    let q : a.common.quota ≡ b.common.quota = cc in
    let f : flag_of a.common.fixed ≡ flag_of b.common.fixed = cc in
    let l : spoken_label a.common.label ≡ spoken_label b.common.label = cc in
    let m : a.metadata ≡ b.metadata = cc in
    let c = common_is_one a.common b.common q f l in
    (λ i. record { common = c i; metadata = m i })

head_lacks_end : (h : Head) → IsHead h → lacks 10 (head_text h) ≡ true
head_lacks_end (heads.Container h) is = words_lack_end container_kinds (codes "container ") (container_words h) (lit< tt) refl is.0
head_lacks_end (heads.Segment h) is = words_lack_end segment_kinds (codes "segment ") (segment_words h) (lit< tt) refl is.0
head_lacks_end (heads.AddressSpace h) is = words_lack_end space_kinds (codes "as ") (space_words h) (lit< tt) refl is.0
head_lacks_end (heads.Thread h) is = words_lack_end thread_kinds (codes "thread ") (thread_words h) (lit< tt) refl is.0
head_lacks_end (heads.Gate h) is = words_lack_end gate_kinds (codes "gate ") (gate_words h) (lit< tt) refl is.0
head_lacks_end (heads.Device h) is = words_lack_end device_kinds (codes "device ") (device_words h) (lit< tt) refl is.0

letter : List ℕ → ℕ
letter text = get_or text 0 0

head_is_one : (a b : Head) → IsHead a → IsHead b → head_text a ≡ head_text b → a ≡ b
unfolding letter
head_is_one (heads.Container a) (heads.Container b) ia ib same = ap heads.Container (container_is_one a b (words_same container_kinds (codes "container ") (container_words a) (container_words b) (lit< tt) ia.0 ib.0 same))
head_is_one (heads.Segment a) (heads.Segment b) ia ib same = ap heads.Segment (segment_is_one a b (words_same segment_kinds (codes "segment ") (segment_words a) (segment_words b) (lit< tt) ia.0 ib.0 same))
head_is_one (heads.AddressSpace a) (heads.AddressSpace b) ia ib same = ap heads.AddressSpace (space_is_one a b (words_same space_kinds (codes "as ") (space_words a) (space_words b) (lit< tt) ia.0 ib.0 same))
head_is_one (heads.Thread a) (heads.Thread b) ia ib same = ap heads.Thread (thread_is_one a b (words_same thread_kinds (codes "thread ") (thread_words a) (thread_words b) (lit< tt) ia.0 ib.0 same))
head_is_one (heads.Gate a) (heads.Gate b) ia ib same = ap heads.Gate (gate_is_one a b (words_same gate_kinds (codes "gate ") (gate_words a) (gate_words b) (lit< tt) ia.0 ib.0 same))
head_is_one (heads.Device a) (heads.Device b) ia ib same = ap heads.Device (device_is_one a b (words_same device_kinds (codes "device ") (device_words a) (device_words b) (lit< tt) ia.0 ib.0 same))
head_is_one a b ia ib same = absurd (apart (letter (head_text a)) (letter (head_text b)) refl (ap letter same))

pub object_lacks_end : (o : ObjectHead) → IsObject o → lacks 10 (object_text o) ≡ true
object_lacks_end o is = lacks-append 10 (decimal o.id) (32 ∷ head_text o.head) (number_lacks_end o.id is.id) (head_lacks_end o.head is.head)

-- the parts of an object's text
pub object_parts : (text id more : List ℕ) (o : ObjectHead) → IsObject o → text ≡ object_text o → text ≡ id ++ 32 ∷ more → lacks 32 id ≡ true → (id ≡ decimal o.id) × (more ≡ head_text o.head)
object_parts text id more o is spelled parts lack =
    first_part 32 id (decimal o.id) more (head_text o.head) lack (number_lacks o.id is.id) (sym parts ∙ spelled)

pub object_is_one : (a b : ObjectHead) → IsObject a → IsObject b → object_text a ≡ object_text b → a ≡ b
object_is_one a b ia ib same =
    let p = object_parts (object_text a) (decimal a.id) (head_text a.head) b ib same refl (number_lacks a.id ia.id) in
    let i = decimal_injective a.id b.id ia.id ib.id p.0 in
    let h = head_is_one a.head b.head ia.head ib.head p.1 in
    (λ j. record { id = i j; head = h j })
