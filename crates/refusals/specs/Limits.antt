-- The limits. Assumes nothing.
use Rattle.std.specs.Prelude.{ℕ}

abbrev pub max_members : ℕ
max_members = 64

abbrev pub max_namespace : ℕ
max_namespace = 64

abbrev pub max_message : ℕ
max_message = 1024

abbrev pub max_attestations : ℕ
max_attestations = 128

abbrev pub max_certificates : ℕ
max_certificates = 256

abbrev pub max_key : ℕ
max_key = 32

abbrev pub max_signature : ℕ
max_signature = 64

abbrev pub max_input : ℕ
max_input = 65536

abbrev pub max_payload : ℕ
max_payload = 1091
