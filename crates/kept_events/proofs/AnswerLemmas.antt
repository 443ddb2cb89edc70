-- What calls answer can be kept.
use Rattle.std.proofs.Common.{◌≡◌, ℕ, true, List, [], ◌∷◌, Option, Some, None, refl}
use Rattle.base.specs.declared.refusals.Refusal.{Refusal}
use Rattle.kernel_rules.specs.State.{State, gate_at, packets_at}
use Rattle.kernel_rules.specs.Step.{accepted, first_packet, or_refused, told_by}
use Rattle.kernel_rules.specs.declared.calls.Call.{Call}
use Rattle.kernel_rules.specs.declared.calls.Call.TheVariants as call
use Rattle.kernel_rules.specs.declared.objects.Gate.{Gate}
use Rattle.kept_events.specs.Replies.{is_of_call}

gate_kept : (gate : Option Gate) → is_of_call (told_by gate) ≡ true
gate_kept None = refl
gate_kept (Some gate) = refl

packet_kept : (packets : List (List ℕ)) → is_of_call (first_packet packets) ≡ true
packet_kept [] = refl
packet_kept (packet ∷ packets) = refl

accepted_kept : (s : State) (t : ℕ) (c : Call) → is_of_call (accepted s t c) ≡ true
accepted_kept s t call.CatCreate = refl
accepted_kept s t (call.SelfSetLabel x) = refl
accepted_kept s t (call.SelfSetClearance y) = refl
accepted_kept s t (call.SelfSetAs e) = refl
accepted_kept s t (call.ContainerCreate n) = refl
accepted_kept s t (call.SegmentCreate n) = refl
accepted_kept s t (call.SegmentCopy n) = refl
accepted_kept s t (call.AsCreate n) = refl
accepted_kept s t (call.ThreadCreate n) = refl
accepted_kept s t (call.GateCreate n) = refl
accepted_kept s t (call.Link d e) = refl
accepted_kept s t (call.Unref e) = refl
accepted_kept s t (call.QuotaMove e n) = refl
accepted_kept s t (call.SetFixed e) = refl
accepted_kept s t (call.SetImmutable e) = refl
accepted_kept s t (call.MetaSet e bytes) = refl
accepted_kept s t (call.SegmentResize e pages) = refl
accepted_kept s t (call.SegmentWrite e a bytes) = refl
accepted_kept s t (call.AsMap e slot m) = refl
accepted_kept s t (call.AsUnmap e slot) = refl
accepted_kept s t (call.Store address bytes) = refl
accepted_kept s t (call.GateEnter e r q v) = gate_kept (gate_at s e.object)
accepted_kept s t (call.DevSend e bytes) = refl
accepted_kept s t (call.DevRecv e) = packet_kept (packets_at s e.object)

-- and so can a refusal
pub answer_kept : (refusal : Option Refusal) (s : State) (t : ℕ) (c : Call)
    → is_of_call (or_refused refusal (accepted s t c)) ≡ true
answer_kept None s t c = accepted_kept s t c
answer_kept (Some refusal) s t c = refl
