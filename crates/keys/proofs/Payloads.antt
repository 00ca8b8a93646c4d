-- The payload in a buffer. Assumes nothing.
use Rattle.std.proofs.Common.{◌≡◌, ℕ, ◌+◌, ◌-◌, ◌^◌, ◌<◌, ◌≤◌, min, List, ◌++◌, length, Ok, Err, Result, sym, refl, ap, ◌∙◌, inr, arith}
use Rattle.std.proofs.lemmas.List.{append_assoc, append_cancel_left, length-append, take_at, drop_at}
use Rattle.std.proofs.lemmas.Grind.{common_steps}
use Rattle.refusals.specs.declared.refusal.Refusal.TheVariants.{SmallBuffer}
use Rattle.keys.specs.Bytes.{overlaid}
use Rattle.keys.specs.Payload.{payload, PayloadWritten, PayloadRefused}
use Rattle.keys.specs.Varint.{varint, read_varint}
use Rattle.keys.specs.declared.varint.Varint.{Varint}
use Rattle.keys.specs.declared.varint.VarintFault.{VarintFault}
use Rattle.keys.proofs.Buffers.{overlaid_next}
use Rattle.keys.proofs.VarintReads.{reads_back}

pub length-payload : (namespace message : List ℕ) → length (payload namespace message) ≡ length (varint (length namespace)) + length namespace + length message
unfolding payload
length-payload namespace message = grind (arith, common_steps)

abbrev value_of : Result Varint VarintFault → ℕ
value_of (Ok v) = v.value
value_of (Err e) = 0

-- a payload is that of one namespace and one message
pub payload_same : (namespace message other text : List ℕ) → length namespace < 2 ^ 32 → length other < 2 ^ 32
    → payload namespace message ≡ payload other text → (namespace ≡ other) × (message ≡ text)
unfolding payload
payload_same namespace message other text h k e =
    let a = reads_back (length namespace) (namespace ++ message) h in
    let b = reads_back (length other) (other ++ text) k in
    let n : length namespace ≡ length other = ap value_of (sym a ∙ (ap read_varint e ∙ b)) in
    let g : namespace ++ message ≡ other ++ text = append_cancel_left (varint (length namespace)) _ _ (e ∙ ap (λ z. varint z ++ (other ++ text)) (sym n)) in
    let t = take_at namespace message (length namespace) refl in
    let u = take_at other text (length namespace) (sym n) in
    let d = drop_at namespace message (length namespace) refl in
    let w = drop_at other text (length namespace) (sym n) in
    (cc, cc)

pub payload_laid : (namespace message before one two three : List ℕ) (start prefix size needed : ℕ) → size ≡ length namespace → size < 2 ^ 32
    → start ≡ length (varint size) → prefix ≡ length (varint size) + length namespace → needed ≡ prefix + length message → needed ≤ length before
    → one ≡ overlaid before 0 (varint size) → two ≡ overlaid one start namespace → three ≡ overlaid two prefix message
    → PayloadWritten namespace message before three needed
unfolding payload
payload_laid namespace message before one two three start prefix size needed z h s p n r a b c =
    let l = length-payload namespace message in
    let v : varint size ≡ varint (length namespace) = ap varint z in
    let d = overlaid_next before (varint size) namespace 0 start (omega arith) (omega arith) in
    let e = overlaid_next before (varint size ++ namespace) message 0 prefix (omega arith) (omega (arith, length-append (varint size) namespace)) in
    let k = append_assoc (varint size) namespace message in
    let t : needed ≡ length (payload namespace message) = omega (arith, ap length v) in
    record { size_is = t; short = omega arith; room = omega arith; written = cc }

-- a payload that is longer than the buffer is refused
pub payload-refused : (namespace message out : List ℕ) (prefix needed : ℕ) → length namespace < 2 ^ 32
    → prefix ≡ length (varint (length namespace)) + length namespace → length out < prefix + length message → needed ≡ min (prefix + length message) (2 ^ 64 - 1)
    → PayloadRefused namespace message out (SmallBuffer needed)
payload-refused namespace message out prefix needed h p r n =
    let l = length-payload namespace message in
    let e : prefix + length message ≡ length (payload namespace message) = omega arith in
    inr (ap SmallBuffer (n ∙ ap (λ z. min z (2 ^ 64 - 1)) e), h, omega arith)

-- the same by the number that was computed
pub payload_cut : (namespace message out : List ℕ) (size needed : ℕ) → size ≡ length namespace → size < 2 ^ 32
    → length out < needed → needed ≡ min (length (varint size) + length namespace + length message) (2 ^ 64 - 1)
    → PayloadRefused namespace message out (SmallBuffer needed)
payload_cut namespace message out size needed z h r n =
    payload-refused namespace message out (length (varint (length namespace)) + length namespace) needed (omega arith) refl (grind arith) (grind arith)
